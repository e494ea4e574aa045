-- One record counted from what was made of both edges: a store that keeps its runs, one that is counted again, and the totals afterwards.
use Rattle.model.proofs.Prelude.{ℕ, ◌≤◌, ◌-◌, ◌^◌, ◌≡◌, ◌∙◌, ap, refl, sym, subst, ap₂, true, ◌&&◌, true≢false, List, rules}
use native.Mathlib.Nat.{sub_self}
use Rattle.model.specs.Base.{Answer, refused, value, passes, after}
use Rattle.model.specs.Netlist.{Netlist, path_total}
use Rattle.model.specs.Path.{Edge, rising, falling}
use Rattle.model.specs.Detect.{Test}
use Rattle.model.specs.Runs.{size, how_many}
use Rattle.model.specs.Store.{store_runs, runs_by_edge}
use Rattle.model.specs.Calls.{FaultCounts, Tested, store_left, tested, runs_then_of, held_then_of}
use Rattle.model.specs.declared.Refusal.{Refusal}
use Rattle.model.proofs.AnswerLaws.{not_refused, value_inj}
use Rattle.model.proofs.RefusalLaws.{refused-inj}
use Rattle.store_words.specs.WordAnswers.{totals_in, totals_both}
use Rattle.store_words.specs.declared.inner.StoreTotals.{StoreTotals}
use Rattle.store_words.proofs.SoundLaws.{edge-sound}
use Rattle.store_writing.specs.declared.inner.Change.{Change}
use Rattle.store_writing.specs.declared.inner.Change.TheVariants as change
use Rattle.store_coverage.specs.Stage.{MemoryReady, BothMade, SomeBothMade, store_after, work_stage, StageIs}
use Rattle.store_coverage.specs.TestCall.{tested_of, returned_by, TestedIs, Counting, SomeCounting}
use Rattle.store_coverage.specs.declared.inner.edges.Over.{Over}
use Rattle.store_coverage.proofs.EdgesLaws.{memory-sound}
use Rattle.store_coverage.proofs.WorkMemory.{work-result}
use Rattle.store_coverage.proofs.TestCallLaws.{taken-by, then-size, size-after, count-refused, count-taken}
use Rattle.block_counting.specs.Counts.{keeps_edge, keeps_both_of, counts_kept, BothCounted, SomeBothCounted, totals_after_of, words_of, Says}
use Rattle.std.specs.Prelude.{Result, Ok, Err}
use Rattle.store_coverage.specs.declared.TestCounts.{TestCounts}

-- both edges keep their runs
kept-edges : (r f : Change) → true ≡ (keeps_edge r && keeps_edge f) → ◌≡◌ {A = Change × Change} (r, f) (change.Kept, change.Kept)
kept-edges change.Kept change.Kept e = refl
kept-edges change.Kept (change.Made from to n) e = absurd (true≢false e)
kept-edges (change.Made from to n) f e = absurd (true≢false e)

kept-both : (b : Result (Change × Change) Over) → true ≡ keeps_both_of b → b ≡ Ok (change.Kept, change.Kept)
kept-both (Ok changes) e = ap Ok (kept-edges changes.0 changes.1 e)
kept-both (Err o) e = absurd (true≢false e)

-- a stage that keeps the store's runs, case by case
module _ (before : StoreTotals) (a : Result (Unit {0}) Refusal) where
  pub kept-refused : (w : Refusal) → a ≡ Err w → Err w ≡ counts_kept before a
  kept-refused w e = sym (ap (counts_kept before) e)

  pub kept-taken : a ≡ Ok tt → Ok (record { new_rising = 0; new_falling = 0; held_rising = before.rising; held_falling = before.falling }) ≡ counts_kept before a
  kept-taken e = sym (ap (counts_kept before) e)

pub ruleset kept-cases = (kept-refused, kept-taken, rules)

-- what is handed over, and what the stage then answers
pub some-made : {before : StoreTotals} {b : Result (Change × Change) Over} {ws work : List ℕ} → SomeBothCounted before b ws work → SomeBothMade b ws work
some-made h = record { circuit = h.circuit; test = h.test; found = h.found; made = h.counted.made }

module _ {before : StoreTotals} {b : Result (Change × Change) Over} {ws ws' work : List ℕ} {r : (Result (Unit {0}) Refusal)}
    (writes : (N : Netlist) (t : Test) (found : List ℕ) → BothMade N t ws found work b → StageIs (work_stage N t ws) ws ws' found work r) where
  module _ {N : Netlist} {t : Test} {found : List ℕ} (k : BothCounted N t ws found work b before) where
    counting-both : Counting N t (work_stage N t ws) ws ws' found work before r
    counting-both = record {
      memory = k.made.memory;
      few_paths = k.few_paths;
      totals = k.totals;
      stage = writes N t found k.made;
      is_work = λ d e. e;
    }

    module _ (keeps : true ≡ keeps_both_of b) where
      fits : b ≡ Ok (change.Kept, change.Kept)
      fits = kept-both b keeps

      same_size : r ≡ Ok tt → (e : Edge) → store_runs ws e ≡ runs_then_of N (runs_by_edge ws) t e → size (store_runs ws e) ≡ size (store_runs ws' e)
      same_size took e same = ap size same ∙ sym (size-after counting-both took e)

      same-totals : r ≡ Ok tt → totals_in before ≡ totals_both ws'
      same-totals took =
          k.totals
          ∙ ap₂ (λ (x y : ℕ). record { on_rising = x; on_falling = y })
          (same_size took rising (k.made.covers.rising_runs_of change.Kept change.Kept fits))
          (same_size took falling (k.made.covers.falling_runs_of change.Kept change.Kept fits))

      pub counted-kept : {a : (Result TestCounts Refusal)} → a ≡ counts_kept before r → TestedIs (work_stage N t ws) ws ws' found work a
      counted-kept e = subst (λ (y : Result TestCounts Refusal). TestedIs (work_stage N t ws) ws ws' found work y) (sym e) (by r refl)
        where
          by : (s : Result (Unit {0}) Refusal) → r ≡ s → TestedIs (work_stage N t ws) ws ws' found work (counts_kept before s)
          by (Err w) q = count-refused counting-both q
          by (Ok tt) q =
              subst (λ (n : ℕ). TestedIs (work_stage N t ws) ws ws' found work (Ok (record { new_rising = 0; new_falling = n; held_rising = before.rising; held_falling = before.falling }))) (sub_self before.falling)
              (subst (λ (n : ℕ). TestedIs (work_stage N t ws) ws ws' found work (Ok (record { new_rising = n; new_falling = (before.falling - before.falling); held_rising = before.rising; held_falling = before.falling })))
              (sub_self before.rising) (count-taken counting-both q (same-totals q)))

  pub counted-some : SomeBothCounted before b ws work → SomeCounting before r ws'
  counted-some h = record {
    circuit = h.circuit;
    test = h.test;
    made = work_stage h.circuit h.test ws;
    held = ws;
    work = h.found;
    work' = work;
    counting = counting-both h.counted;
  }

  pub counted-again : {a : (Result TestCounts Refusal)}
      → ((N : Netlist) (t : Test) (x : Answer Tested) (held old new : List ℕ) → Counting N t x held ws' old new before r → TestedIs x held ws' old new a)
      → (N : Netlist) (t : Test) (found : List ℕ) → BothCounted N t ws found work b before → TestedIs (work_stage N t ws) ws ws' found work a
  counted-again counts N t found k = counts N t (work_stage N t ws) ws found work (counting-both k)

-- the totals after a record, and its answer as words
refused-again : (x : Answer Tested) {n : ℕ} → refused n ≡ returned_by x → x ≡ refused n
unfolding returned_by
refused-again (refused k) e = ap (λ j. refused j) (sym (refused-inj e))
refused-again (value d) e = absurd (not_refused e)

passed-by : (x : Answer Tested) {f : FaultCounts} → value f ≡ returned_by x → value tt ≡ passes x
unfolding returned_by
passed-by (refused n) e = absurd (not_refused (sym e))
passed-by (value d) e = refl

module _ {N : Netlist} (t : Test) {ws ws' work work' : List ℕ} {before : StoreTotals} (m : MemoryReady N ws work) (few : path_total N ≤ 2 ^ 62)
    (eb : totals_in before ≡ totals_both ws) where
  held-totals : {counts : TestCounts} → TestedIs (work_stage N t ws) ws ws' work work' (Ok counts)
      → totals_in (record { rising = counts.held_rising; falling = counts.held_falling }) ≡ totals_both ws'
  unfolding returned_by tested
  held-totals s =
      let p : value tt ≡ passes (work_stage N t ws) = passed-by (work_stage N t ws) s.answer in
      let d = taken-by (work_stage N t ws) p in
      let k : Counting N t (work_stage N t ws) ws ws' work work' before (Ok tt) =
      record {
        memory = m;
        few_paths = few;
        totals = eb;
        stage = record { answer = p; store = s.store; same_length_of = s.same_length_of; past_work = s.past_work };
        is_work = λ d e. e;
      } in
      let held : (e : Edge) → size (store_runs ws' e) ≡ how_many (held_then_of N (runs_by_edge ws) t e) (path_total N) =
      λ e. size-after k refl e ∙ then-size N t ws e (edge-sound (memory-sound m) e) in
      let is = value_inj (s.answer ∙ ap returned_by (d.is ∙ ap (λ (y : Tested). value y) (sym (work-result N t ws d.is)))) in
      ap (λ (f : FaultCounts). f.held_faults) is ∙ sym (ap₂ (λ (x y : ℕ). record { on_rising = x; on_falling = y }) (held rising) (held falling))

  pub totals-next : (a : Result TestCounts Refusal) → TestedIs (work_stage N t ws) ws ws' work work' a → totals_in (totals_after_of before a) ≡ totals_both ws'
  unfolding store_after
  totals-next (Ok counts) s = held-totals s
  totals-next (Err why) s =
      let same : ws' ≡ ws = s.store ∙ ap (λ (x : Answer Tested). after x ws store_left) (refused-again (work_stage N t ws) s.answer) in
      eb ∙ ap totals_both (sym same)

pub says_of : (a : Result TestCounts Refusal) {x : Answer FaultCounts} → tested_of a ≡ x → Says (words_of a).rising (words_of a).falling (words_of a).refusal x
says_of a e = subst (λ (y : Answer FaultCounts). Says (words_of a).rising (words_of a).falling (words_of a).refusal y) e (own a)
  where
    own : (b : Result TestCounts Refusal) → Says (words_of b).rising (words_of b).falling (words_of b).refusal (tested_of b)
    own (Ok counts) = (refl, refl, refl)
    own (Err why) = refl
