-- Every example of the faults that a store does not hold, computed from the definitions.
use Rattle.model.proofs.Prelude.{ℕ, ◌<◌, Bool, length, get_or, T}
use Rattle.model.specs.Base.{all_of}
use Rattle.model.specs.Runs.{in_runs}
use Rattle.model.specs.Examples.{holding}
use Rattle.model.specs.Store.{store_runs, store_of}
use Rattle.model.specs.Report.{same_bytes}
use Rattle.model.proofs.ListLaws.{all_of_at}
use Rattle.exhaust_undetected.specs.Undetected.{not_held_from, undetected, listed}
use Rattle.exhaust_undetected.specs.UndetectedExamples.{Example, no_example, examples}

unfoldable right : Example → Bool
right x = same_bytes (listed x.store x.paths) x.faults

all_right : T (all_of right examples)
unfolding right examples holding listed undetected not_held_from in_runs store_runs store_of
all_right = tt

pub examples-hold : (i : ℕ) → i < length examples
    → T (same_bytes (listed (get_or examples i no_example).store (get_or examples i no_example).paths) (get_or examples i no_example).faults)
unfolding right
examples-hold i h = all_of_at right examples no_example all_right i h
