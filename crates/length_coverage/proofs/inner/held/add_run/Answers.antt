-- `length_coverage::held::add_run` meets its contract: the paths up to the run's end less those before it.
use Rattle.model.proofs.Prelude.{rules}
use Rattle.length_coverage.proofs.HeldCases.{lower-ranked, run-under, run_room, run-added}
use Rattle.length_coverage.proofs.inner.held.add_run.Goals as goal

pub rank_row-lower-requires : goal.rank_row-lower-requires
rank_row-lower-requires c = search (lower-ranked, rules)

pub add_difference-requires : goal.add_difference-requires
add_difference-requires c = (
  run_room c.requires.0 c.requires.2 c.rank_row-upper.ensures c.rank_row-lower.ensures c.requires.3,
  run-under c.requires.0 c.requires.2 c.rank_row-upper.ensures c.rank_row-lower.ensures,
)

pub returns : goal.returns
returns c =
    run-added c.requires.0 c.requires.2 c.rank_row-upper.ensures c.rank_row-lower.ensures c.requires.3 c.add_difference.ensures
