-- The records of a block in order, with what each adds: the start, one record more, the end.
use Rattle.model.proofs.Prelude.{ℕ, ◌≤◌, ◌<◌, ◌+◌, ◌^◌, ◌≡◌, ◌∙◌, ap, refl, sym, subst, ⊎_elim, List, length, get_or, drop, set, length-set}
use Rattle.model.proofs.Prelude.{get_or-set_same, get_or-set_other, add-one, arith}
use Rattle.model.specs.Base.{Answer}
use Rattle.model.specs.Netlist.{Netlist, path_total}
use Rattle.model.specs.Detect.{Test}
use Rattle.model.specs.Calls.{FaultCounts, work_words_count}
use Rattle.model.proofs.BoolLaws.{le_or_lt}
use Rattle.model.proofs.ReadLaws.{limits}
use Rattle.store_words.specs.Sound.{FewRuns, SoundWords}
use Rattle.store_words.specs.WordAnswers.{totals_in, totals_both}
use Rattle.store_words.specs.declared.inner.StoreTotals.{StoreTotals}
use Rattle.store_words.proofs.SoundLaws.{sound_more}
use Rattle.store_coverage.specs.Both.{CoversBoth}
use Rattle.store_coverage.specs.Stage.{MemoryReady, store_after, work_stage}
use Rattle.store_coverage.specs.TestCall.{returned_by, TestedIs}
use Rattle.store_coverage.specs.declared.inner.edges.Over.{Over}
use Rattle.store_writing.specs.declared.inner.Change.{Change}
use Rattle.store_coverage.proofs.EdgesLaws.{memory-sound, memory-few}
use Rattle.store_coverage.proofs.WorkMemory.{stage-memory}
use Rattle.block_activity.specs.declared.inner.Batch.{Batch}
use Rattle.block_intervals.specs.Spans.{InputSpans}
use Rattle.block_counting.specs.Counts.{BothCounted, SomeBothCounted, totals_after_of, words_of, with_answer, Says, SaysAt, store_at, BlockCounted}
use Rattle.block_stage.specs.Listed.{edges_at, ListedBoth, SomeListedBoth}
use Rattle.block_stage.specs.BlockStage.{BlockReady, MemoryKept}
use Rattle.block_counting.specs.declared.inner.AnswerWords.{AnswerWords}
use Rattle.block_stage.specs.declared.inner.listed.RecordEdges.{RecordEdges}
use Rattle.block_stage.proofs.BlockSteps.{BlockIn, list_of, listed_here, block-begun}
use Rattle.block_counting.proofs.CountBothLaws.{totals-next, says_of}
use Rattle.std.specs.Prelude.{Result}
use Rattle.model.specs.declared.Refusal.{Refusal}
use Rattle.store_coverage.specs.declared.TestCounts.{TestCounts}

-- the words of one record put among the answers: the others stay
module _ (answers : List ℕ) (room : length answers ≡ 192) {t : ℕ} (h : t < 64) (a : AnswerWords) where
  abbrev one : List ℕ
  one = set answers t a.rising

  abbrev two : List ℕ
  two = set one (64 + t) a.falling

  put-length : length (with_answer answers t a) ≡ 192
  put-length = length-set two (128 + t) a.refusal ∙ length-set one (64 + t) a.falling ∙ length-set answers t a.rising ∙ room

  put-here : (x : Answer FaultCounts) → Says a.rising a.falling a.refusal x → SaysAt (with_answer answers t a) t x
  put-here x s =
      let l₁ : length one ≡ 192 = length-set answers t a.rising ∙ room in
      let l₂ : length two ≡ 192 = length-set one (64 + t) a.falling ∙ l₁ in
      let r : a.rising ≡ get_or (with_answer answers t a) t 0 =
      sym (get_or-set_other two (128 + t) t a.refusal 0 (λ e. omega (arith, e)) ∙ get_or-set_other one (64 + t) t a.falling 0 (λ e. omega (arith, e))
      ∙ get_or-set_same answers t a.rising 0 (omega arith)) in
      let f : a.falling ≡ get_or (with_answer answers t a) (64 + t) 0 =
      sym (get_or-set_other two (128 + t) (64 + t) a.refusal 0 (λ e. omega (arith, e)) ∙ get_or-set_same one (64 + t) a.falling 0 (omega arith)) in
      let n : a.refusal ≡ get_or (with_answer answers t a) (128 + t) 0 = sym (get_or-set_same two (128 + t) a.refusal 0 (omega arith)) in
      subst (λ (k : ℕ). Says (get_or (with_answer answers t a) t 0) (get_or (with_answer answers t a) (64 + t) 0) k x) n
      (subst (λ (k : ℕ). Says (get_or (with_answer answers t a) t 0) k a.refusal x) f
      (subst (λ (k : ℕ). Says k a.falling a.refusal x) r s))

  put-before : (x : Answer FaultCounts) (i : ℕ) → i < t → SaysAt answers i x → SaysAt (with_answer answers t a) i x
  put-before x i o s =
      let other : (k : ℕ) → (k ≡ t → ⊥) → (k ≡ 64 + t → ⊥) → (k ≡ 128 + t → ⊥) → get_or answers k 0 ≡ get_or (with_answer answers t a) k 0 =
      λ k u v w. sym (get_or-set_other two (128 + t) k a.refusal 0 w ∙ get_or-set_other one (64 + t) k a.falling 0 v ∙ get_or-set_other answers t k a.rising 0 u) in
      subst (λ (k : ℕ). Says (get_or (with_answer answers t a) i 0) (get_or (with_answer answers t a) (64 + i) 0) k x)
      (other (128 + i) (λ e. omega (arith, e)) (λ e. omega (arith, e)) (λ e. omega (arith, e)))
      (subst (λ (k : ℕ). Says (get_or (with_answer answers t a) i 0) k (get_or answers (128 + i) 0) x)
      (other (64 + i) (λ e. omega (arith, e)) (λ e. omega (arith, e)) (λ e. omega (arith, e)))
      (subst (λ (k : ℕ). Says k (get_or answers (64 + i) 0) (get_or answers (128 + i) 0) x)
      (other i (λ e. omega (arith, e)) (λ e. omega (arith, e)) (λ e. omega (arith, e))) s))

-- the answers of the tests before test t, and the store that they leave
pub record CountedTo (N : Netlist) (tests : ℕ → Test) (ws₀ ws work answers : List ℕ) (t : ℕ) : Type 0 where
  pub memory : MemoryReady N ws work
  pub store : ws ≡ store_at N tests t ws₀
  pub each : (i : ℕ) → i < t → SaysAt answers i (returned_by (work_stage N (tests i) (store_at N tests i ws₀)))

module _ (table offsets risingLists fallingLists marks ws₀ work₀ : List ℕ) (inputs records : ℕ) where
  pub record CountingBlock (ws work spans answers : List ℕ) (held : StoreTotals) (t : ℕ) : Type 0 where
    pub within : t ≤ records
    pub few : records ≤ 64
    pub circuit : Netlist
    pub tests : ℕ → Test
    pub block : BlockIn circuit tests table offsets risingLists fallingLists marks inputs records ws₀ work₀
    pub input_spans : InputSpans spans inputs
    pub room : length answers ≡ 192
    pub totals : totals_in held ≡ totals_both ws
    pub so_far : (N : Netlist) (tests : ℕ → Test) → BlockIn N tests table offsets risingLists fallingLists marks inputs records ws₀ work₀ → CountedTo N tests ws₀ ws work answers t
    pub same_store : length ws ≡ length ws₀
    pub same_length_of : length work ≡ length work₀
    pub past_work : drop work_words_count work ≡ drop work_words_count work₀

module _ {table offsets risingLists fallingLists marks ws₀ work₀ : List ℕ} {inputs records : ℕ} {ws work spans answers : List ℕ} {held : StoreTotals} {t : ℕ}
    (g : CountingBlock table offsets risingLists fallingLists marks ws₀ work₀ inputs records ws work spans answers held t) where
  here : CountedTo g.circuit g.tests ws₀ ws work answers t
  here = g.so_far g.circuit g.tests g.block

  pub counted-kept-memory : MemoryKept ws work₀ work
  counted-kept-memory = record { store_length = here.memory.store_length; same_length_of = g.same_length_of; past_work = g.past_work }

  pub counted-few : FewRuns ws
  counted-few = memory-few here.memory

  pub counted-all : records ≤ t → (N : Netlist) (tests : ℕ → Test) → BlockIn N tests table offsets risingLists fallingLists marks inputs records ws₀ work₀
      → BlockCounted N tests records ws₀ ws answers
  counted-all h N tests b =
      let s = g.so_far N tests b in
      let all : t ≡ records = omega (arith, g.within) in
      record { room = g.room; store = s.store ∙ ap (λ (k : ℕ). store_at N tests k ws₀) all; each = λ i l. s.each i (omega arith) }

  module _ (h : t < records) where
    module _ {outputs : ℕ} {edges : RecordEdges} (ee : edges ≡ edges_at marks t inputs outputs) where
      pub some-handed : SomeListedBoth table offsets (list_of risingLists marks 256 t) (list_of fallingLists marks 320 t) edges ws spans work
      some-handed = record { circuit = g.circuit; test = g.tests t; listed = listed_here g.block h ee g.input_spans here.memory }

      module _ {work₁ : List ℕ} (same : length work₁ ≡ length work) {made : Result (Change × Change) Over}
          (covers : (N : Netlist) (test : Test) → ListedBoth N test table offsets (list_of risingLists marks 256 t) (list_of fallingLists marks 320 t) edges ws spans work
          → CoversBoth N test ws work work₁ made) where
        made-here : (N : Netlist) (tests : ℕ → Test) → BlockIn N tests table offsets risingLists fallingLists marks inputs records ws₀ work₀
            → BothCounted N (tests t) ws work work₁ made held
        made-here N tests b = record {
          made = record {
            memory = (g.so_far N tests b).memory;
            same_length_of = same;
            covers = covers N (tests t) (listed_here b h ee g.input_spans (g.so_far N tests b).memory);
          };
          few_paths = (limits b.circuit.file N b.circuit.legal).total_fits;
          totals = g.totals;
        }

        pub some-counted : SomeBothCounted held made ws work₁
        some-counted = record { circuit = g.circuit; test = g.tests t; found = work; counted = made-here g.circuit g.tests g.block }

        module _ {ws' : List ℕ} {answer : (Result TestCounts Refusal)}
            (counted : (N : Netlist) (test : Test) (found : List ℕ) → BothCounted N test ws found work₁ made held → TestedIs (work_stage N test ws) ws ws' found work₁ answer)
            {a : AnswerWords} (ea : a ≡ words_of answer) where
          now-is : (N : Netlist) (tests : ℕ → Test) → BlockIn N tests table offsets risingLists fallingLists marks inputs records ws₀ work₀
              → TestedIs (work_stage N (tests t) ws) ws ws' work work₁ answer
          now-is N tests b = counted N (tests t) work (made-here N tests b)

          said : (N : Netlist) (tests : ℕ → Test) → BlockIn N tests table offsets risingLists fallingLists marks inputs records ws₀ work₀
              → Says a.rising a.falling a.refusal (returned_by (work_stage N (tests t) (store_at N tests t ws₀)))
          said N tests b =
              subst (λ (x : List ℕ). Says a.rising a.falling a.refusal (returned_by (work_stage N (tests t) x))) (g.so_far N tests b).store
              (subst (λ (w : AnswerWords). Says w.rising w.falling w.refusal (returned_by (work_stage N (tests t) ws))) (sym ea) (says_of answer (now-is N tests b).answer))

          few-here : t < 64
          few-here = omega (arith, g.few)

          counted-here : (N : Netlist) (tests : ℕ → Test) → BlockIn N tests table offsets risingLists fallingLists marks inputs records ws₀ work₀
              → CountedTo N tests ws₀ ws' work₁ (with_answer answers t a) (t + 1)
          unfolding store_at
          counted-here N tests b =
              let s = g.so_far N tests b in
              let x = now-is N tests b in
              record {
                memory = subst (λ (y : List ℕ). MemoryReady N y work₁) (sym x.store) (stage-memory (tests t) s.memory x.same_length_of);
                store =
                    x.store ∙ ap (λ (y : List ℕ). store_after (work_stage N (tests t) y) y) s.store
                    ∙ ap (λ (k : ℕ). store_at N tests k ws₀) (sym (add-one t));
                each = λ i l.
                    ⊎_elim (λ (o : t ≤ i).
                    subst (λ (k : ℕ). SaysAt (with_answer answers t a) k (returned_by (work_stage N (tests k) (store_at N tests k ws₀)))) (let e : t ≡ i = omega arith in e)
                    (put-here answers g.room few-here a (returned_by (work_stage N (tests t) (store_at N tests t ws₀))) (said N tests b)))
                    (λ (o : i < t). put-before answers g.room few-here a (returned_by (work_stage N (tests i) (store_at N tests i ws₀))) i o (s.each i o)) (le_or_lt t i);
              }

          pub counting-next : {held' : StoreTotals} → held' ≡ totals_after_of held answer → {answers' : List ℕ} → answers' ≡ with_answer answers t a
              → {spans' : List ℕ} → InputSpans spans' edges.inputs
              → CountingBlock table offsets risingLists fallingLists marks ws₀ work₀ inputs records ws' work₁ spans' answers' held' (t + 1)
          counting-next {held' = held'} eh {answers' = answers'} es {spans' = spans'} i =
              let x = now-is g.circuit g.tests g.block in
              let b = g.block in
              record {
                within = omega arith;
                few = g.few;
                circuit = g.circuit;
                tests = g.tests;
                block = b;
                input_spans = subst (λ (e : RecordEdges). InputSpans spans' e.inputs) ee i;
                room = ap (length {A = ℕ}) es ∙ put-length answers g.room few-here a;
                totals =
                    ap totals_in eh
                    ∙ totals-next (g.tests t) here.memory (limits b.circuit.file g.circuit b.circuit.legal).total_fits g.totals answer x;
                so_far = λ N tests k. subst (λ (y : List ℕ). CountedTo N tests ws₀ ws' work₁ y (t + 1)) (sym es) (counted-here N tests k);
                same_store = (counted-here g.circuit g.tests b).memory.store_length ∙ sym b.memory.store_length;
                same_length_of = same ∙ g.same_length_of;
                past_work = x.past_work ∙ g.past_work;
              }

-- a block as it is handed over
module _ {table offsets risingLists fallingLists marks : List ℕ} {batch : Batch} {ws₀ work₀ : List ℕ} (h : BlockReady table offsets risingLists fallingLists marks batch ws₀ work₀) where
  pub block-sound : SoundWords (2 ^ 62) ws₀
  block-sound =
      let c = h.block.circuit in
      sound_more (path_total h.netlist) (2 ^ 62) ws₀ (limits c.file h.netlist c.legal).total_fits (memory-sound h.memory)

  pub counting-start : {spans answers : List ℕ} → InputSpans spans batch.inputs → length answers ≡ 192 → {held : StoreTotals} → totals_in held ≡ totals_both ws₀
      → CountingBlock table offsets risingLists fallingLists marks ws₀ work₀ batch.inputs batch.records ws₀ work₀ spans answers held 0
  unfolding store_at
  counting-start i l e = record {
    within = omega arith;
    few = h.block.few;
    circuit = h.netlist;
    tests = h.tests;
    block = block-begun h;
    input_spans = i;
    room = l;
    totals = e;
    so_far = λ N tests b. record { memory = b.memory; store = refl; each = λ j o. absurd (omega (arith, o)) };
    same_store = refl;
    same_length_of = refl;
    past_work = refl;
  }
