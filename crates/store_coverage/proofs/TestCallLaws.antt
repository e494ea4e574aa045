-- One record counted: the faults that the store holds before and after the stage.
use Rattle.model.proofs.Prelude.{ℕ, ◌≤◌, ◌+◌, ◌-◌, suc, ◌^◌, ◌≡◌, ◌∙◌, ap, refl, sym, subst, ap₂, List, length, arith}
use Rattle.model.specs.Base.{Answer, refused, value, passes, after}
use Rattle.model.specs.Path.{Edge, rising, falling}
use Rattle.model.specs.Detect.{Test, detects_number}
use Rattle.model.specs.Runs.{Run, Separated, in_runs, size, how_many}
use Rattle.model.specs.Netlist.{Netlist, path_total}
use Rattle.model.specs.Store.{ByEdge, by_edge, of_edge, max_runs, tests_taken_of, store_runs, runs_by_edge}
use Rattle.model.specs.Calls.{Tested, store_left, tested, held_then_of, new_then_of, runs_then_of}
use Rattle.model.specs.Refusals.{refusal_number_of}
use Rattle.model.specs.declared.Refusal.{Refusal}
use Rattle.model.proofs.AnswerLaws.{Passed, not_refused}
use Rattle.model.proofs.RunSizeLaws.{runs-size, how_many-or}
use Rattle.model.proofs.RunLaws.{runs-of_runs}
use Rattle.model.proofs.StoreLaws.{runs-store}
use Rattle.model.proofs.HoldingLaws.{of_edge-by_edge}
use Rattle.store_words.specs.WordAnswers.{totals_in, totals_both}
use Rattle.store_words.specs.Sound.{SoundWords}
use Rattle.store_words.specs.declared.inner.StoreTotals.{StoreTotals}
use Rattle.store_words.proofs.SoundLaws.{edge-sound, sound_more}
use Rattle.store_coverage.specs.Stage.{MemoryReady, store_after, work_stage, StageIs}
use Rattle.store_coverage.specs.TestCall.{tested_of, returned_by, TestedIs, Counting}
use Rattle.store_coverage.proofs.EdgesLaws.{memory-sound}
use Rattle.store_coverage.proofs.WorkMemory.{then-few, work-result, work-memory}
use Rattle.std.specs.Prelude.{Result, Ok, Err}
use Rattle.model.specs.Returned.{answer_of}

-- what it says of an answer that it passes, or does not
pub refused-by : {A : Type 0} (x : Answer A) (n : ℕ) → refused n ≡ passes x → x ≡ refused n
refused-by (refused m) n e = let z : n ≡ m = cc in ap (λ k. refused k) (sym z)
refused-by (value a) n e = absurd (not_refused e)

pub taken-by : {A : Type 0} (x : Answer A) → value tt ≡ passes x → Passed x
taken-by (refused m) e = absurd (not_refused (sym e))
taken-by (value a) e = record { got = a; is = refl }

as_tested : {x : Answer Tested} {ws ws' work work' : List ℕ} {w : Refusal} → StageIs x ws ws' work work' (Err w) → TestedIs x ws ws' work work' (Err w)
unfolding returned_by
as_tested {x = x} {w = w} s =
    let e : x ≡ refused (refusal_number_of w) = refused-by x (refusal_number_of w) s.answer in
    record { answer = rw e refl; store = s.store; same_length_of = s.same_length_of; past_work = s.past_work }

-- One edge of a store whose runs are separated, with what a test detects: sizes
module _ (N : Netlist) (t : Test) (ws : List ℕ) (e : Edge) (a : Separated (path_total N) 1 (store_runs ws e)) where
  old-size : how_many (λ k. in_runs (of_edge (runs_by_edge ws) e) k) (path_total N) ≡ size (store_runs ws e)
  old-size =
      ap (λ rs. how_many (λ k. in_runs rs k) (path_total N)) (of_edge-by_edge (store_runs ws) e)
      ∙ sym (runs-size (λ k. in_runs (store_runs ws e) k) (path_total N))
      ∙ ap size (runs-of_runs (path_total N) (store_runs ws e) a)

  pub then-size : size (runs_then_of N (runs_by_edge ws) t e) ≡ how_many (held_then_of N (runs_by_edge ws) t e) (path_total N)
  then-size = runs-size (held_then_of N (runs_by_edge ws) t e) (path_total N)

  more-size : size (runs_then_of N (runs_by_edge ws) t e) ≡ size (store_runs ws e) + how_many (new_then_of N (runs_by_edge ws) t e) (path_total N)
  more-size =
      then-size ∙ how_many-or (detects_number N t e) (λ k. in_runs (of_edge (runs_by_edge ws) e) k) (path_total N)
      ∙ ap (λ n. n + how_many (new_then_of N (runs_by_edge ws) t e) (path_total N)) old-size

-- A stage that passes on a sound store: the store afterwards, and what is counted
module _ {N : Netlist} {t : Test} {x : Answer Tested} {ws ws' work work' : List ℕ} {before : StoreTotals} {r : (Result (Unit {0}) Refusal)}
    (k : Counting N t x ws ws' work work' before r) where
  pub count-refused : {w : Refusal} → r ≡ Err w → TestedIs x ws ws' work work' (Err w)
  count-refused e = as_tested (subst (λ (a : Result (Unit {0}) Refusal). StageIs x ws ws' work work' a) e k.stage)

  module _ (q : r ≡ Ok tt) where
    took : Passed x
    took = taken-by x (sym (ap answer_of q) ∙ k.stage.answer)

    work-is : work_stage N t ws ≡ value took.got
    work-is = k.is_work took.got took.is

    left_is : ws' ≡ store_left took.got
    unfolding store_after
    left_is = k.stage.store ∙ ap (λ (a : Answer Tested). after a ws store_left) took.is

    pub after-sound : SoundWords (2 ^ 62) ws'
    after-sound =
        sound_more (path_total N) (2 ^ 62) ws' k.few_paths
        (memory-sound (subst (λ (y : List ℕ). MemoryReady N y work') (sym left_is) (work-memory N t ws work-is k.memory k.stage.same_length_of)))

    few-then : (e : Edge) → length (of_edge (by_edge (runs_then_of N (runs_by_edge ws) t)) e) ≤ max_runs
    few-then e = subst (λ (rs : List Run). length rs ≤ max_runs) (sym (of_edge-by_edge (runs_then_of N (runs_by_edge ws) t) e)) (then-few N t ws work-is e)

    pub size-after : (e : Edge) → size (store_runs ws' e) ≡ size (runs_then_of N (runs_by_edge ws) t e)
    unfolding tested
    size-after e =
        ap (λ (y : List ℕ). size (store_runs y e)) (left_is ∙ ap store_left (sym (work-result N t ws work-is)))
        ∙ ap size (runs-store (suc (tests_taken_of ws)) (by_edge (runs_then_of N (runs_by_edge ws) t)) few-then e ∙ of_edge-by_edge (runs_then_of N (runs_by_edge ws) t) e)

    module _ {after : StoreTotals} (ea : totals_in after ≡ totals_both ws') where
      fresh : Edge → ℕ
      fresh e = how_many (new_then_of N (runs_by_edge ws) t e) (path_total N)

      totals-at : (y : ByEdge ℕ) (f : Edge → ℕ) → y ≡ by_edge f → (e : Edge) → of_edge y e ≡ f e
      totals-at y f p rising = ap (λ (b : ByEdge ℕ). b.on_rising) p
      totals-at y f p falling = ap (λ (b : ByEdge ℕ). b.on_falling) p

      size_is : (e : Edge) → of_edge (totals_in after) e ≡ size (runs_then_of N (runs_by_edge ws) t e)
      size_is e = totals-at (totals_in after) (λ d. size (store_runs ws' d)) ea e ∙ size-after e

      held-is : (e : Edge) → of_edge (totals_in after) e ≡ how_many (held_then_of N (runs_by_edge ws) t e) (path_total N)
      held-is e = size_is e ∙ then-size N t ws e (edge-sound (memory-sound k.memory) e)

      grows : (e : Edge) → of_edge (totals_in after) e ≡ of_edge (totals_in before) e + fresh e
      unfolding fresh
      grows e =
          size_is e ∙ more-size N t ws e (edge-sound (memory-sound k.memory) e)
          ∙ ap (λ n. n + fresh e) (sym (totals-at (totals_in before) (λ d. size (store_runs ws d)) k.totals e))

      pub more-rising : before.rising ≤ after.rising
      more-rising = let g = grows rising in omega arith

      pub more-falling : before.falling ≤ after.falling
      more-falling = let g = grows falling in omega arith

      pub count-taken : TestedIs x ws ws' work work' (Ok (record { new_rising = (after.rising - before.rising); new_falling = (after.falling - before.falling); held_rising = after.rising; held_falling = after.falling }))
      unfolding returned_by tested fresh
      count-taken =
          let is : x ≡ value (tested N (tests_taken_of ws) (runs_by_edge ws) t) = took.is ∙ ap (λ (d : Tested). value d) (sym (work-result N t ws work-is)) in
          record {
            answer =
                ap tested_of
                (ap₂ (λ (y z : ℕ). Ok (record { new_rising = y; new_falling = z; held_rising = after.rising; held_falling = after.falling })) (omega (arith, grows rising)) (omega (arith, grows falling))
                ∙ ap₂ (λ (y z : ℕ). Ok (record { new_rising = (fresh rising); new_falling = (fresh falling); held_rising = y; held_falling = z })) (held-is rising) (held-is falling))
                ∙ sym (ap returned_by is);
            store = k.stage.store;
            same_length_of = k.stage.same_length_of;
            past_work = k.stage.past_work;
          }
