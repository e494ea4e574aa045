-- What a test makes of both edges of a store: 50 of either edge comes before 51 of either edge.
use Rattle.std.specs.Prelude.{Result, Ok, Err, ℕ, ◌*◌, ◌≤◌, ◌≡◌, List, length, drop}
use Rattle.model.specs.Base.{checks}
use Rattle.model.specs.Store.{max_runs, store_runs, runs_by_edge}
use Rattle.model.specs.Netlist.{Netlist}
use Rattle.model.specs.Path.{rising, falling}
use Rattle.model.specs.Detect.{Test}
use Rattle.model.specs.Calls.{runs_then_of, work_rules}
use Rattle.store_writing.specs.Writing.{changed, Within}
use Rattle.store_writing.specs.declared.inner.Change.{Change}
use Rattle.store_coverage.specs.Covers.{fits_of}
use Rattle.store_coverage.specs.declared.inner.edges.Over.{Over}
use Rattle.store_coverage.specs.declared.inner.edges.Over.TheVariants as over

-- the answers of two edges as one
abbrev pub joined : Result Change Over → Result Change Over → Result (Change × Change) Over
joined (Ok r) (Ok f) = Ok (r, f)
joined (Ok r) (Err o) = Err o
joined (Err over.Work) b = Err over.Work
joined (Err over.Store) (Ok f) = Err over.Store
joined (Err over.Store) (Err over.Work) = Err over.Work
joined (Err over.Store) (Err over.Store) = Err over.Store

-- the answer is that of the place Work; the runs of each edge afterwards are kept or partly made in the last two quarters
pub record CoversBoth (N : Netlist) (t : Test) (ws work work' : List ℕ) (b : Result (Change × Change) Over) : Type 0 where
  pub answers : fits_of b ≡ checks (work_rules N (runs_by_edge ws) t)
  pub rising_runs_of : (r f : Change) → b ≡ Ok (r, f) → changed r work' (2 * max_runs) (store_runs ws rising) ≡ runs_then_of N (runs_by_edge ws) t rising
  pub falling_runs_of : (r f : Change) → b ≡ Ok (r, f) → changed f work' (3 * max_runs) (store_runs ws falling) ≡ runs_then_of N (runs_by_edge ws) t falling
  pub rising_within : (r f : Change) → b ≡ Ok (r, f) → Within r (length (store_runs ws rising))
  pub falling_within : (r f : Change) → b ≡ Ok (r, f) → Within f (length (store_runs ws falling))
  pub kept : (k : ℕ) → 8 * max_runs ≤ k → drop k work' ≡ drop k work
