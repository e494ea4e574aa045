-- The records of a block among those of a part: one record more, all that no rule of the place Test refuses, and the one after them that is refused.
use Rattle.model.proofs.Prelude.{ℕ, ◌≤◌, ◌<◌, ◌+◌, ◌-◌, ◌*◌, suc, zero, min, ◌≡◌, ◌∙◌, ap, refl, sym, subst, ap₂, List, ◌∷◌, ◌++◌, append_assoc}
use Rattle.model.proofs.Prelude.{length, get_or, drop, take, le_trans, arith}
use native.Mathlib.Nat.{mul-suc, mul-zero, mul-le-mul_left}
use Rattle.model.specs.Base.{Answer, refused, value, checks}
use Rattle.model.specs.Netlist.{Netlist, path_total}
use Rattle.model.specs.Detect.{Class}
use Rattle.model.specs.Read.{test_rules, record_length}
use Rattle.model.specs.Store.{store_rules}
use Rattle.model.specs.Calls.{FaultCounts, Tested, test_stage}
use Rattle.model.proofs.AnswerLaws.{checks-both}
use Rattle.model.proofs.RefusalLaws.{RefusesOver, stage-over}
use Rattle.store_coverage.specs.Stage.{MemoryReady, work_stage, store_after}
use Rattle.store_coverage.specs.TestCall.{returned_by}
use Rattle.store_coverage.proofs.StageLaws.{stage-work, stage-refused}
use Rattle.block_activity.specs.Marks.{record_at, test_at}
use Rattle.block_counting.specs.Counts.{Says, SaysAt, store_at}
use Rattle.store_coverage.proofs.WorkMemory.{stage-memory}
use Rattle.listing_lines.specs.ListingLines.{record_line, answer_in, answer_at, answer_lines}
use Rattle.listing_text.specs.Listing.{record_lines, store_after_all, listed_records}
use Rattle.listing_text.proofs.CutLaws.{listed_next}
use Rattle.listing_blocks.specs.BlockLines.{PartListed}

-- no line tells the faults then held, and no refusal has the number 0
line-says : (place r f n : ℕ) (x : Answer FaultCounts) → RefusesOver 2 x → Says r f n x → record_line place (answer_in r f n) ≡ record_line place x
unfolding record_line
line-says place r f n (refused m) o e = ap (λ (k : ℕ). record_line place (answer_in r f k)) e ∙ over m o
  where
    over : (k : ℕ) → 2 < k → record_line place (answer_in r f k) ≡ record_line place (refused k)
    over zero h = absurd (omega (arith, h))
    over (suc k) h = refl
line-says place r f n (value d) o e =
    ap (λ (k : ℕ). record_line place (answer_in r f k)) e.0
    ∙ ap₂ (λ (a b : ℕ). record_line place (answer_in a b 0)) e.1 e.2

returned-over : (x : Answer Tested) → RefusesOver 2 x → RefusesOver 2 (returned_by x)
unfolding returned_by
returned-over (refused n) o = o
returned-over (value d) o = tt

module _ (N : Netlist) (c : Class) (part ws : List ℕ) where
  part-start : (answers : List ℕ) → PartListed N c part ws ws answers 0 0
  unfolding answer_lines
  part-start answers = record {
    lines = λ place. (let z : place + 0 ≡ place = omega arith in ap (λ (k : ℕ). record_lines N c k (listed_records N part) ws) z);
    store = refl;
    count = omega arith;
  }

  -- one record more
  module _ (answers : List ℕ) {ws' : List ℕ} {n used next : ℕ} (g : PartListed N c part ws ws' answers n used) (h : used < length part)
      (en : next ≡ min (used + record_length N) (length part)) where
    abbrev rec : List ℕ
    rec = take (next - used) (drop used part)

    abbrev rest : List (List ℕ)
    rest = listed_records N (drop next part)

    part-next : SaysAt answers n (returned_by (test_stage N c rec ws')) → PartListed N c part ws (store_after (test_stage N c rec ws') ws') answers (suc n) next
    unfolding record_lines store_after_all answer_lines
    part-next s =
        let x : Answer FaultCounts = returned_by (test_stage N c rec ws') in
        let cut : listed_records N (drop used part) ≡ rec ∷ rest = listed_next N part used next h en in
        record {
          lines = λ place. (
              let line : record_line (place + n) (answer_at answers n) ≡ record_line (place + n) x =
              line-says (place + n) (get_or answers n 0) (get_or answers (64 + n) 0) (get_or answers (128 + n) 0) x
              (returned-over (test_stage N c rec ws') (stage-over N c rec ws')) s in
              let after : List ℕ = record_lines N c (place + suc n) rest (store_after (test_stage N c rec ws') ws') in
              let k : place + suc n ≡ suc (place + n) = omega arith in
              append_assoc (answer_lines place answers n) (record_line (place + n) (answer_at answers n)) after
              ∙ ap (λ (l : List ℕ). answer_lines place answers n ++ (l ++ after)) line
              ∙ ap (λ (j : ℕ). answer_lines place answers n ++ (record_line (place + n) x ++ record_lines N c j rest (store_after (test_stage N c rec ws') ws'))) k
              ∙ ap (λ (rs : List (List ℕ)). answer_lines place answers n ++ record_lines N c (place + n) rs ws') (sym cut)
              ∙ g.lines place);
          store = ap (λ (rs : List (List ℕ)). store_after_all N c rs ws') (sym cut) ∙ g.store;
          count = omega (arith, g.count, ap (length {A = List ℕ}) cut);
        }

  -- the records of a block that no rule of the place Test refuses
  module _ {work : List ℕ} (m : MemoryReady N ws work) (n : ℕ) (whole : record_length N * n ≤ length part)
      (legal : (t : ℕ) → t < n → checks (test_rules N (record_at N part t)) ≡ value tt) (answers : List ℕ)
      (each : (t : ℕ) → t < n → SaysAt answers t (returned_by (work_stage N (test_at N c part t) (store_at N (test_at N c part) t ws)))) where
    abbrev before : ℕ → List ℕ
    before t = store_at N (test_at N c part) t ws

    pub memory-at : (t : ℕ) → MemoryReady N (before t) work
    unfolding store_at
    memory-at zero = m
    memory-at (suc t) = stage-memory (test_at N c part t) (memory-at t) refl

    stage-same : (t : ℕ) → t < n → test_stage N c (record_at N part t) (before t) ≡ work_stage N (test_at N c part t) (before t)
    stage-same t h =
        stage-work N c (record_at N part t) (before t)
        (sym (checks-both (test_rules N (record_at N part t)) (store_rules (path_total N) (before t)) ∙ rw (legal t h, (memory-at t).sound) refl))

    pub part-legal : (t : ℕ) → t ≤ n → PartListed N c part ws (before t) answers t (record_length N * t)
    unfolding store_at
    part-legal zero h = subst (λ (k : ℕ). PartListed N c part ws ws answers 0 k) (sym (mul-zero (record_length N))) (part-start answers)
    part-legal (suc t) h =
        let next : record_length N * suc t ≡ record_length N * t + record_length N = mul-suc (record_length N) t in
        let in-part : record_length N * suc t ≤ length part = le_trans (mul-le-mul_left (record_length N) h) whole in
        let en : record_length N * suc t ≡ min (record_length N * t + record_length N) (length part) = omega arith in
        let size : record_length N * suc t - record_length N * t ≡ record_length N = omega arith in
        let same : take (record_length N * suc t - record_length N * t) (drop (record_length N * t) part) ≡ record_at N part t =
        ap (λ (k : ℕ). take k (drop (record_length N * t) part)) size in
        let stage : test_stage N c (take (record_length N * suc t - record_length N * t) (drop (record_length N * t) part)) (before t) ≡ work_stage N (test_at N c part t) (before t) =
        ap (λ (r : List ℕ). test_stage N c r (before t)) same ∙ stage-same t (omega arith) in
        subst (λ (x : Answer Tested). PartListed N c part ws (store_after x (before t)) answers (suc t) (record_length N * suc t)) stage
        (part-next answers (part-legal t (omega arith)) (omega arith) en
        (subst (λ (x : Answer Tested). SaysAt answers t (returned_by x)) (sym stage) (each t (omega arith))))

  -- a record that a rule of the place Test refuses leaves the store
  pub part-refused : (answers : List ℕ) {ws' : List ℕ} {n used next : ℕ} → PartListed N c part ws ws' answers n used → used < length part
      → next ≡ min (used + record_length N) (length part) → {k : ℕ} → checks (test_rules N (take (next - used) (drop used part))) ≡ refused k
      → get_or answers (128 + n) 0 ≡ k → PartListed N c part ws ws' answers (suc n) next
  unfolding store_after returned_by
  part-refused answers {ws'} {n} {used} {next} g h en {k} q e =
      let r : List ℕ = take (next - used) (drop used part) in
      let x : test_stage N c r ws' ≡ refused k = stage-refused N c r ws' k (sym (checks-both (test_rules N r) (store_rules (path_total N) ws') ∙ rw q refl)) in
      subst (λ (y : Answer Tested). PartListed N c part ws (store_after y ws') answers (suc n) next) x
      (part-next answers g h en (subst (λ (y : Answer Tested). SaysAt answers n (returned_by y)) (sym x) e))
