-- What the parts of the search find: the first number in no run, the first fault that is not held.
use Rattle.std.specs.Prelude.{◌≡◌, true, false, List, ℕ, ◌+◌, ◌-◌, ◌*◌, ◌^◌, ◌≤◌, ◌<◌}
use Rattle.model.specs.Runs.{Run, in_runs}
use Rattle.exhaust_undetected.specs.Undetected.{held_number, not_held_from}
use Rattle.std.specs.Prelude.{Result, Ok, Err}
use Rattle.model.specs.declared.Refusal.{Refusal}
use Rattle.path_faults.specs.declared.FaultNo.{FaultNo}

-- `r` is the first number from `from` on that is in none of the runs
pub record FirstFree (r : ℕ) (rs : List Run) (from : ℕ) : Type 0 where
  pub not_before : from ≤ r
  pub passed : (k : ℕ) → from ≤ k → k < r → in_runs rs k ≡ true
  pub free : in_runs rs r ≡ false

-- the first fault from `from` on that a store does not hold; none of up to 2^62 paths
pub record FirstNotHeld (f : ℕ) (ws : List ℕ) (from : ℕ) : Type 0 where
  pub not_before : from ≤ f
  pub passed : (k : ℕ) → from ≤ k → k < f → held_number ws k ≡ true
  pub is_free : held_number ws f ≡ false

abbrev pub FirstFault : Result FaultNo Refusal → List ℕ → ℕ → Type 0
FirstFault (Ok f) ws from = FirstNotHeld f.0 ws from
FirstFault (Err w) ws from = (k : ℕ) → from ≤ k → k ≤ 2 ^ 63 → held_number ws k ≡ true

-- those from `from` on that a store does not hold, of the faults of so many paths
abbrev pub rest_from : List ℕ → ℕ → ℕ → List ℕ
rest_from ws paths from = not_held_from ws from (2 * paths + 1 - from)
