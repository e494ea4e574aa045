-- The records of a block in order: one record more, a refused one, the end.
use Rattle.model.proofs.Prelude.{ℕ, ◌≤◌, ◌<◌, ◌+◌, ◌-◌, ◌*◌, suc, ◌≡◌, ◌∙◌, ap, refl, sym, subst, List, length, get_or, drop, take, add-one, arith}
use Rattle.model.proofs.Prelude.{rules}
use Rattle.model.specs.Base.{Answer, refused, ◌into◌, after}
use Rattle.model.specs.Netlist.{Netlist, nets}
use Rattle.model.specs.Detect.{Test}
use Rattle.model.specs.Refusals.{refusal_number_of}
use Rattle.model.specs.Calls.{Tested, store_left, work_words_count}
use Rattle.model.specs.declared.Refusal.{Refusal}
use Rattle.model.proofs.ReadLaws.{limits}
use Rattle.store_coverage.specs.Stage.{MemoryReady, work_stage, store_after, StageIs}
use Rattle.store_words.specs.Sound.{FewRuns}
use Rattle.store_coverage.proofs.EdgesLaws.{memory-few}
use Rattle.store_coverage.proofs.TestCallLaws.{refused-by, taken-by}
use Rattle.store_coverage.proofs.WorkMemory.{work-memory}
use Rattle.block_words.specs.Table.{CircuitTable}
use Rattle.block_activity.specs.Marks.{OffsetTable, MarksTrue, entries_of}
use Rattle.block_activity.specs.declared.inner.Batch.{Batch}
use Rattle.block_intervals.specs.Spans.{InputSpans}
use Rattle.block_stage.specs.Listed.{edges_at, ListedBoth, SomeListedBoth}
use Rattle.block_stage.specs.BlockStage.{work_all, one_more_test, work_taken, BlockAt, BlockReady, BlockTaken, MemoryKept}
use Rattle.block_stage.specs.declared.inner.listed.RecordEdges.{RecordEdges}
use Rattle.block_words.specs.Layout.{list_size}
use Rattle.block_activity.specs.Layout.{up_lengths_at, down_lengths_at}
use Rattle.std.specs.Prelude.{Result, Ok, Err}
use Rattle.model.specs.Returned.{answer_of}

-- a block by the numbers that the loop holds, and the store and the words that it is handed
pub record BlockIn (N : Netlist) (tests : ℕ → Test) (table offsets risingLists fallingLists marks : List ℕ) (inputs records : ℕ) (ws work : List ℕ) : Type 0 where
  pub few : records ≤ 64
  pub circuit : CircuitTable N table inputs (nets N)
  pub placed : OffsetTable N offsets
  pub marked : MarksTrue N tests records risingLists fallingLists marks
  pub memory : MemoryReady N ws work

pub block_in : {N : Netlist} {tests : ℕ → Test} {table offsets risingLists fallingLists marks : List ℕ} {batch : Batch} → BlockAt N tests table offsets risingLists fallingLists marks batch
    → {ws work : List ℕ} → MemoryReady N ws work → BlockIn N tests table offsets risingLists fallingLists marks batch.inputs batch.records ws work
block_in b m = record {
  few = b.few;
  circuit = record {
    file = b.circuit.file;
    legal = b.circuit.legal;
    inputs_are = b.circuit.inputs_are;
    nets_are = refl;
    rows = b.circuit.rows;
  };
  placed = b.placed;
  marked = b.marked;
  memory = m;
}

-- one record of a block: its lists lie in the block's, and with spans and memory at hand they are what its place Work is handed
abbrev pub list_of : List ℕ → List ℕ → ℕ → ℕ → List ℕ
list_of entries marks lengths t = take (list_size * t + get_or marks (lengths + t) 0 - list_size * t) (drop (list_size * t) entries)

module _ {N : Netlist} {tests : ℕ → Test} {table offsets risingLists fallingLists marks : List ℕ} {inputs records : ℕ} {ws₀ work₀ : List ℕ}
    (b : BlockIn N tests table offsets risingLists fallingLists marks inputs records ws₀ work₀) where
  pub block-inputs : inputs ≤ 64
  block-inputs = omega (arith, b.circuit.inputs_are, (limits b.circuit.file N b.circuit.legal).few_inputs)

  module _ {t : ℕ} (h : t < records) where
    pub up-inside : list_size * t + get_or marks (up_lengths_at + t) 0 ≤ length risingLists
    up-inside = (b.marked.each t h).up_room_of

    pub down-inside : list_size * t + get_or marks (down_lengths_at + t) 0 ≤ length fallingLists
    down-inside = (b.marked.each t h).down_room

    pub listed_here : {edges : RecordEdges} {outputs : ℕ} → edges ≡ edges_at marks t inputs outputs → {ws spans work : List ℕ} → InputSpans spans inputs → MemoryReady N ws work
        → ListedBoth N (tests t) table offsets (list_of risingLists marks up_lengths_at t) (list_of fallingLists marks down_lengths_at t) edges ws spans work
    listed_here {outputs = outputs} ee {ws = ws} {spans = spans} {work = work} i m =
        let r = b.marked.each t h in
        let part : (n : ℕ) → n ≡ list_size * t + n - list_size * t = λ n. omega arith in
        let up = get_or marks (up_lengths_at + t) 0 in
        let down = get_or marks (down_lengths_at + t) 0 in
        let both : ListedBoth N (tests t) table offsets (entries_of risingLists up t) (entries_of fallingLists down t) (edges_at marks t inputs outputs) ws spans work =
        record {
          circuit = b.circuit;
          placed = b.placed;
          rises = r.rises;
          falls = r.falls;
          input_spans = i;
          memory = m;
        } in
        subst (λ (e : RecordEdges). ListedBoth N (tests t) table offsets (list_of risingLists marks up_lengths_at t) (list_of fallingLists marks down_lengths_at t) e ws spans work) (sym ee)
        (subst (λ (n : ℕ). ListedBoth N (tests t) table offsets (list_of risingLists marks up_lengths_at t) (take n (drop (list_size * t) fallingLists))
        (edges_at marks t inputs outputs) ws spans work)
        (part down)
        (subst (λ (n : ℕ). ListedBoth N (tests t) table offsets (take n (drop (list_size * t) risingLists)) (entries_of fallingLists down t) (edges_at marks t inputs outputs) ws spans work)
        (part up) both))

-- one test more of those that are left
module _ (N : Netlist) (tests : ℕ → Test) (t records : ℕ) (h : t < records) (ws : List ℕ) where
  one_less : records - t ≡ suc (records - (t + 1))
  one_less = let e : records - t ≡ records - (t + 1) + 1 = omega arith in e ∙ add-one (records - (t + 1))

  all-next : work_all N tests t (records - t) ws ≡ (work_stage N (tests t) ws into λ d. work_all N tests (t + 1) (records - (t + 1)) (store_left d))
  unfolding work_all
  all-next =
      ap (λ (n : ℕ). work_all N tests t n ws) one_less
      ∙ ap (λ (s : ℕ). work_stage N (tests t) ws into λ d. work_all N tests s (records - (t + 1)) (store_left d)) (sym (add-one t))

  taken_next : work_taken N tests t (records - t) ws ≡ one_more_test (work_stage N (tests t) ws) (λ d. work_taken N tests (t + 1) (records - (t + 1)) (store_left d))
  unfolding work_taken
  taken_next =
      ap (λ (n : ℕ). work_taken N tests t n ws) one_less
      ∙ ap (λ (s : ℕ). one_more_test (work_stage N (tests t) ws) (λ d. work_taken N tests s (records - (t + 1)) (store_left d))) (sym (add-one t))

module _ (table offsets risingLists fallingLists marks ws₀ work₀ : List ℕ) (inputs records : ℕ) where
  -- the tests before test t are taken: those that are left, from the store so far, give the whole
  pub record SoFar (N : Netlist) (tests : ℕ → Test) (ws work : List ℕ) (t : ℕ) : Type 0 where
    pub memory : MemoryReady N ws work
    pub rest : work_all N tests t (records - t) ws ≡ work_all N tests 0 records ws₀
    pub counted : t + work_taken N tests t (records - t) ws ≡ work_taken N tests 0 records ws₀

  pub record Applying (ws work spans : List ℕ) (t : ℕ) : Type 0 where
    pub within : t ≤ records
    pub few : records ≤ 64
    pub circuit : Netlist
    pub tests : ℕ → Test
    pub block : BlockIn circuit tests table offsets risingLists fallingLists marks inputs records ws₀ work₀
    pub input_spans : InputSpans spans inputs
    pub so_far : (N : Netlist) (tests : ℕ → Test) → BlockIn N tests table offsets risingLists fallingLists marks inputs records ws₀ work₀ → SoFar N tests ws work t
    pub same_store : length ws ≡ length ws₀
    pub same_length_of : length work ≡ length work₀
    pub past_work : drop work_words_count work ≡ drop work_words_count work₀

module _ {table offsets risingLists fallingLists marks ws₀ work₀ : List ℕ} {inputs records : ℕ} where
  module _ {ws work spans : List ℕ} {t : ℕ} (g : Applying table offsets risingLists fallingLists marks ws₀ work₀ inputs records ws work spans t) where
    here : SoFar table offsets risingLists fallingLists marks ws₀ work₀ inputs records g.circuit g.tests ws work t
    here = g.so_far g.circuit g.tests g.block

    pub ended-kept : MemoryKept ws work₀ work
    ended-kept = record { store_length = here.memory.store_length; same_length_of = g.same_length_of; past_work = g.past_work }

    pub ended : records ≤ t → (N : Netlist) (tests : ℕ → Test) → BlockIn N tests table offsets risingLists fallingLists marks inputs records ws₀ work₀
        → BlockTaken (record { taken = records; answer = (Ok tt) }) N tests records ws₀ ws
    unfolding work_all work_taken
    ended h N tests b =
        let s = g.so_far N tests b in
        let z : records - t ≡ 0 = omega arith in
        let none : t + 0 ≡ work_taken N tests 0 records ws₀ = ap (λ (n : ℕ). t + work_taken N tests t n ws) (sym z) ∙ s.counted in
        record { answer = ap (λ (n : ℕ). work_all N tests t n ws) (sym z) ∙ s.rest; taken = omega (arith, none, g.within) }

    module _ (h : t < records) where
      module _ {edges : RecordEdges} {outputs : ℕ} (ee : edges ≡ edges_at marks t inputs outputs) where
        pub some-listed : SomeListedBoth table offsets (list_of risingLists marks up_lengths_at t) (list_of fallingLists marks down_lengths_at t) edges ws spans work
        some-listed = record { circuit = g.circuit; test = g.tests t; listed = listed_here g.block h ee g.input_spans here.memory }

        module _ {ws' work' : List ℕ} {r : (Result (Unit {0}) Refusal)}
            (a : (N : Netlist) (test : Test) → ListedBoth N test table offsets (list_of risingLists marks up_lengths_at t) (list_of fallingLists marks down_lengths_at t) edges ws spans work
            → StageIs (work_stage N test ws) ws ws' work work' r) where
          now-is : (N : Netlist) (tests : ℕ → Test) → BlockIn N tests table offsets risingLists fallingLists marks inputs records ws₀ work₀
              → StageIs (work_stage N (tests t) ws) ws ws' work work' r
          now-is N tests b = a N (tests t) (listed_here b h ee g.input_spans (g.so_far N tests b).memory)

          this : StageIs (work_stage g.circuit (g.tests t) ws) ws ws' work work' r
          this = now-is g.circuit g.tests g.block

          module _ {w : Refusal} (q : r ≡ Err w) where
            refuses : (N : Netlist) (tests : ℕ → Test) → BlockIn N tests table offsets risingLists fallingLists marks inputs records ws₀ work₀
                → work_stage N (tests t) ws ≡ refused (refusal_number_of w)
            refuses N tests b = refused-by (work_stage N (tests t) ws) (refusal_number_of w) (sym (ap answer_of q) ∙ (now-is N tests b).answer)

            pub refused-kept : MemoryKept ws' work₀ work'
            unfolding store_after
            refused-kept =
                let same : ws' ≡ ws = this.store ∙ ap (λ (x : Answer Tested). after x ws store_left) (refuses g.circuit g.tests g.block) in
                record {
                  store_length = ap (length {A = ℕ}) same ∙ here.memory.store_length;
                  same_length_of = this.same_length_of ∙ g.same_length_of;
                  past_work = this.past_work ∙ g.past_work;
                }

            pub refused-here : (N : Netlist) (tests : ℕ → Test) → BlockIn N tests table offsets risingLists fallingLists marks inputs records ws₀ work₀
                → BlockTaken (record { taken = t; answer = Err w }) N tests records ws₀ ws'
            refused-here N tests b =
                let s = g.so_far N tests b in
                let x = refuses N tests b in
                let whole : work_all N tests 0 records ws₀ ≡ refused (refusal_number_of w) = sym s.rest ∙ all-next N tests t records h ws ∙ rw x refl in
                let none : work_taken N tests t (records - t) ws ≡ 0 = taken_next N tests t records h ws ∙ rw x refl in
                record { answer = sym whole; taken = omega (arith, none, s.counted) }

          module _ (q : r ≡ Ok tt) where
            taken_here : (N : Netlist) (tests : ℕ → Test) → BlockIn N tests table offsets risingLists fallingLists marks inputs records ws₀ work₀
                → SoFar table offsets risingLists fallingLists marks ws₀ work₀ inputs records N tests ws' work' (t + 1)
            unfolding store_after
            taken_here N tests b =
                let s = g.so_far N tests b in
                let x = now-is N tests b in
                let p = taken-by (work_stage N (tests t) ws) (sym (ap answer_of q) ∙ x.answer) in
                let left : ws' ≡ store_left p.got = x.store ∙ ap (λ (y : Answer Tested). after y ws store_left) p.is in
                let others : work_taken N tests t (records - t) ws ≡ 1 + work_taken N tests (t + 1) (records - (t + 1)) ws' =
                taken_next N tests t records h ws ∙ rw p.is (ap (λ (y : List ℕ). 1 + work_taken N tests (t + 1) (records - (t + 1)) y) (sym left)) in
                record {
                  memory = subst (λ (y : List ℕ). MemoryReady N y work') (sym left) (work-memory N (tests t) ws p.is s.memory x.same_length_of);
                  rest = sym (all-next N tests t records h ws ∙ rw p.is (ap (λ (y : List ℕ). work_all N tests (t + 1) (records - (t + 1)) y) (sym left))) ∙ s.rest;
                  counted = omega (arith, others, s.counted);
                }

            pub record_taken : {spans' : List ℕ} → InputSpans spans' edges.inputs
                → Applying table offsets risingLists fallingLists marks ws₀ work₀ inputs records ws' work' spans' (t + 1)
            record_taken {spans' = spans'} i = record {
              within = omega arith;
              few = g.few;
              circuit = g.circuit;
              tests = g.tests;
              block = g.block;
              input_spans = subst (λ (e : RecordEdges). InputSpans spans' e.inputs) ee i;
              so_far = taken_here;
              same_store = (taken_here g.circuit g.tests g.block).memory.store_length ∙ sym g.block.memory.store_length;
              same_length_of = this.same_length_of ∙ g.same_length_of;
              past_work = this.past_work ∙ g.past_work;
            }

-- a block as it is handed over, and as it is answered for
module _ {table offsets risingLists fallingLists marks : List ℕ} {batch : Batch} {ws₀ work₀ : List ℕ} (h : BlockReady table offsets risingLists fallingLists marks batch ws₀ work₀) where
  pub block-begun : BlockIn h.netlist h.tests table offsets risingLists fallingLists marks batch.inputs batch.records ws₀ work₀
  block-begun = block_in h.block h.memory

  pub block-few : FewRuns ws₀
  block-few = memory-few h.memory

  pub block_start : {spans : List ℕ} → InputSpans spans batch.inputs
      → Applying table offsets risingLists fallingLists marks ws₀ work₀ batch.inputs batch.records ws₀ work₀ spans 0
  block_start i = record {
    within = omega arith;
    few = h.block.few;
    circuit = h.netlist;
    tests = h.tests;
    block = block-begun;
    input_spans = i;
    so_far = λ N tests b. (let z : batch.records - 0 ≡ batch.records = omega arith in
        record {
          memory = b.memory;
          rest = ap (λ (n : ℕ). work_all N tests 0 n ws₀) z;
          counted = let w : work_taken N tests 0 (batch.records - 0) ws₀ ≡ work_taken N tests 0 batch.records ws₀ = ap (λ (n : ℕ). work_taken N tests 0 n ws₀) z in omega arith;
        });
    same_store = refl;
    same_length_of = refl;
    past_work = refl;
  }

pub ruleset block-cases = (block_start, rules)
