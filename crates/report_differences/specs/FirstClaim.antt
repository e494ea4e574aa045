-- The first false claim of a report: a path number that it claims and a true report does not hold, of the rising edge before the falling one.
-- Names: `report` is the report that claims, `held` a true report; `claimed` and `held` are also their runs of one edge.
use Rattle.std.specs.Prelude.{Bool, true, false, ◌&&◌, List, ℕ, suc, ◌-◌, leb, eqb, length}
use Rattle.model.specs.Base.{all_of, numbers_from}
use Rattle.model.specs.Path.{rising, falling}
use Rattle.model.specs.Runs.{Run, in_runs}
use Rattle.length_search.specs.Untested.{first_from}
use Rattle.report_runs.specs.ReportRuns.{stated_runs, ascend}
use Rattle.report_differences.specs.Differences.{outside}
use Rattle.report_differences.specs.declared.inner.first.Told.{Told}
use Rattle.report_differences.specs.declared.inner.first.Told.TheVariants as told

-- The first of the path numbers 1 to `paths` that is claimed and not held; 0 where there is none. Runs that do not ascend are not compared
unfoldable pub first_claim_of : List Run → List Run → ℕ → ℕ
first_claim_of claimed held paths =
    elim (ascend 0 claimed && ascend 0 held) [ true ↦ first_from (outside claimed held) 1 paths | false ↦ 0 ]

-- every number that is claimed is held; a number of no path counts, too
abbrev pub each_held_of : List Run → List Run → Bool
each_held_of claimed held = all_of (λ r. all_of (in_runs held) (numbers_from r.low (suc r.high - r.low))) claimed

-- the same of runs that ascend
unfoldable pub all_held_of : List Run → List Run → Bool
all_held_of claimed held = (ascend 0 claimed && ascend 0 held) && each_held_of claimed held

-- the first of a rising path number and a falling one; 0 stands for none
unfoldable pub first_of_edges : ℕ → ℕ → Told
first_of_edges r f =
    elim (eqb r 0) [
      | false ↦ told.Rising r
      | true ↦ elim (eqb f 0) [ false ↦ told.Falling f | true ↦ told.Nothing ]
    ]

-- the first claim of a report that a true one does not hold
unfoldable pub first_in_of : List ℕ → List ℕ → ℕ → Told
first_in_of report held paths =
    first_of_edges
    (first_claim_of (stated_runs report rising) (stated_runs held rising) paths)
    (first_claim_of (stated_runs report falling) (stated_runs held falling) paths)

-- every number that a report claims, of either edge, a true one holds
unfoldable pub claims_held_of : List ℕ → List ℕ → Bool
claims_held_of report held =
    all_held_of (stated_runs report rising) (stated_runs held rising) && all_held_of (stated_runs report falling) (stated_runs held falling)

-- What is told of a report that is refused. `truth` is the true report in the class of the audit. In class 2 `plain` is the true report in class 1: it
-- names every fault that the one in class 2 does (`classes-true`), so a claim that it does not hold is false in both. In class 1, and where there is
-- no such report, `plain` has no head
unfoldable pub told_of : List ℕ → List ℕ → List ℕ → ℕ → Told
told_of report truth plain paths =
    elim (leb 34 (length plain)) [
      | false ↦ first_in_of report truth paths
      | true ↦ elim (claims_held_of report truth) [
        | true ↦ told.Nothing
        | false ↦ elim (claims_held_of report plain) [ true ↦ told.NotRobust | false ↦ first_in_of report plain paths ]
      ]
    ]
