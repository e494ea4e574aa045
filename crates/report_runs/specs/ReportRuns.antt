-- The fields and the runs in a report's bytes, and whether the runs ascend.
use Rattle.std.specs.Prelude.{◌≡◌, Bool, true, false, ◌&&◌, List, [], ◌∷◌, ℕ, ◌+◌, ◌-◌, ◌*◌, ◌/◌, ◌≤◌, ◌<◌, min, eqb, leb, length, take, drop}
use Rattle.model.specs.Base.{field}
use Rattle.model.specs.Path.{Edge, rising, falling}
use Rattle.model.specs.Runs.{Run}
use Rattle.model.specs.Report.{runs_in}
use Rattle.report_runs.specs.declared.inner.Head.{Head}
use Rattle.std.specs.Prelude.{Result, Ok, Err}

-- The fields before the runs, each by its first byte and its bytes: tests, T, rising runs, falling runs, rising faults, falling faults
abbrev pub head_of : List ℕ → Head
head_of report = record {
  tests = field 2 4 report;
  paths = field 6 8 report;
  rising_runs = field 14 2 report;
  falling_runs = field 16 2 report;
  rising_faults = field 18 8 report;
  falling_faults = field 26 8 report;
}

-- the runs in bytes, 16 each
unfoldable pub runs_of_bytes : List ℕ → List Run
runs_of_bytes bs = runs_in bs (length bs / 16)

-- of `n` runs from byte `at` on, those that lie whole within the report
abbrev pub whole_runs : List ℕ → ℕ → ℕ → List Run
whole_runs report at n = runs_in (drop at report) (min n ((length report - at) / 16))

-- The runs of an edge in a report's bytes, whatever their number: as many as its field states, of those that lie whole within the report. Rising runs
-- stand from byte 34 on, falling ones after as many rising ones as are stated
unfoldable pub stated_runs : List ℕ → Edge → List Run
stated_runs report rising = whole_runs report 34 (field 14 2 report)
stated_runs report falling = whole_runs report (34 + 16 * field 14 2 report) (field 16 2 report)

-- a report of the length that its fields state: `stated_runs` are then the runs that it names, `named_runs` (law `stated-named`)
abbrev pub StatedLength : List ℕ → Type 0
StatedLength report = length report ≡ 34 + 16 * (field 14 2 report + field 16 2 report)

-- Runs that ascend from `least` on: each low is at most its high, and over the high before. Runs that touch ascend, too
abbrev pub Ascends : ℕ → List Run → Type 0
Ascends least [] = Unit {0}
Ascends least (r ∷ rs) = (least ≤ r.low) × (r.low ≤ r.high) × Ascends (r.high + 1) rs

-- the same as a test
unfoldable pub ascend : ℕ → List Run → Bool
ascend least [] = true
ascend least (r ∷ rs) = leb least r.low && leb r.low r.high && ascend (r.high + 1) rs

-- the runs ascend; or the run at place `k` is the first out of order: those before it ascend, and with it they do not
abbrev pub Ordered : Result (Unit {0}) ℕ → List Run → Type 0
Ordered (Ok tt) rs = Ascends 0 rs
Ordered (Err k) rs = (k < length rs) × Ascends 0 (take k rs) × (Ascends 0 (take (k + 1) rs) → ⊥)

-- the least low of a run at place `at` after one that ends with `last`; at place 0 there is none before it
unfoldable pub least_at_of : ℕ → ℕ → ℕ
least_at_of at last = elim (eqb at 0) [ true ↦ 0 | false ↦ last + 1 ]
