-- Places in ascending runs, and the ranges of numbers that are in the runs of the one and not of the other.
use Rattle.std.specs.Prelude.{◌≡◌, Bool, true, false, ◌&&◌, not, List, ℕ, ◌+◌, ◌*◌, ◌/◌, ◌^◌, ◌≤◌, ◌<◌, length, drop}
use Rattle.model.specs.Base.{field}
use Rattle.model.specs.Runs.{Run, in_runs}
use Rattle.report_runs.specs.ReportRuns.{runs_of_bytes, Ascends}
use Rattle.report_differences.specs.declared.inner.walk.Standing.{Standing}
use Rattle.report_differences.specs.declared.inner.walk.Standing.TheVariants as standing
use Rattle.report_differences.specs.declared.inner.walk.Step.{Step}
use Rattle.report_differences.specs.declared.inner.walk.Step.TheVariants as step
use Rattle.std.specs.Prelude.{Option, Some, None}
use Rattle.report_differences.specs.declared.inner.walk.FaultRange.{FaultRange}

-- the number is claimed and not held
abbrev pub outside : List Run → List Run → ℕ → Bool
outside claimed held k = in_runs claimed k && not (in_runs held k)

-- the number is in the runs of `a` and not in those of `b`
unfoldable pub only : List ℕ → List ℕ → ℕ → Bool
only a b k = outside (runs_of_bytes a) (runs_of_bytes b) k

-- place `i` of ascending runs, from which the numbers from `n` on are looked for: the runs before it hold none of them
abbrev pub Passed : List ℕ → ℕ → ℕ → Type 0
Passed bs i n =
    Ascends 0 (runs_of_bytes bs)
    × (i ≤ length bs / 16)
    × ((k : ℕ) → n ≤ k → in_runs (runs_of_bytes bs) k ≡ in_runs (drop i (runs_of_bytes bs)) k)

-- and the run at the place, if there is one, does not end before `n`
abbrev pub Reached : List ℕ → ℕ → ℕ → Type 0
Reached bs i n = Passed bs i n × (i < length bs / 16 → n ≤ field (16 * i + 8) 8 bs)

-- where a number stands among runs
abbrev pub Stands : Standing → ℕ → List Run → Type 0
Stands (standing.Inside end) n rs = (n ≤ end) × ((k : ℕ) → n ≤ k → k ≤ end → in_runs rs k ≡ true)
Stands (standing.Before next) n rs = (n < next) × ((k : ℕ) → n ≤ k → k < next → in_runs rs k ≡ false)
Stands standing.Past n rs = (k : ℕ) → n ≤ k → in_runs rs k ≡ false

-- whether a number is in the runs of `a` only, and how far that goes on
abbrev pub Steps : Step → List ℕ → List ℕ → ℕ → Type 0
Steps (step.Only end) a b n = (n ≤ end) × ((k : ℕ) → n ≤ k → k ≤ end → only a b k ≡ true)
Steps (step.Not next) a b n = (n < next) × ((k : ℕ) → n ≤ k → k < next → only a b k ≡ false)
Steps step.End a b n = (k : ℕ) → n ≤ k → k < 2 ^ 64 → only a b k ≡ false

-- the first number from `from` on that is in the runs of `a` only; runs hold no number of 2^64 or over
abbrev pub FirstOnly : Option ℕ → List ℕ → List ℕ → ℕ → Type 0
FirstOnly (Some n) a b from = (from ≤ n) × ((k : ℕ) → from ≤ k → k < n → only a b k ≡ false) × (only a b n ≡ true)
FirstOnly None a b from = (k : ℕ) → from ≤ k → k < 2 ^ 64 → only a b k ≡ false

-- the last number of the range from `low` on that is in the runs of `a` only
abbrev pub LastOnly : ℕ → List ℕ → List ℕ → ℕ → Type 0
LastOnly high a b low =
    (low ≤ high) × ((k : ℕ) → low ≤ k → k ≤ high → only a b k ≡ true) × (high + 1 < 2 ^ 64 → only a b (high + 1) ≡ false)

-- the first longest range from `from` on of numbers that are in the runs of `a` only
abbrev pub FirstPiece : Option FaultRange → List ℕ → List ℕ → ℕ → Type 0
FirstPiece (Some r) a b from =
    (from ≤ r.low) × ((k : ℕ) → from ≤ k → k < r.low → only a b k ≡ false) × LastOnly r.high a b r.low
FirstPiece None a b from = (k : ℕ) → from ≤ k → k < 2 ^ 64 → only a b k ≡ false

-- the same with the places to look on from: place `i` in the runs of `a` and `j` in those of `b`
abbrev pub FirstFrom : Option ℕ → ℕ → ℕ → List ℕ → List ℕ → ℕ → Type 0
FirstFrom (Some n) i j a b from = FirstOnly (Some n) a b from × Passed a i n × Passed b j n
FirstFrom None i j a b from = FirstOnly None a b from

abbrev pub LastFrom : ℕ → ℕ → ℕ → List ℕ → List ℕ → ℕ → Type 0
LastFrom high i j a b low = LastOnly high a b low × Passed a i (high + 1) × Passed b j (high + 1)

abbrev pub PieceFrom : Option FaultRange → ℕ → ℕ → List ℕ → List ℕ → ℕ → Type 0
PieceFrom (Some r) i j a b from =
    FirstPiece (Some r) a b from × Passed a i (r.high + 1) × Passed b j (r.high + 1)
PieceFrom None i j a b from = FirstPiece None a b from
