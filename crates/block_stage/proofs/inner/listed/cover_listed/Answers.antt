-- `block_stage::inner::listed::cover_listed` meets its contract: the runs made of the rising edge stay while the falling edge is covered.
use Rattle.model.proofs.Prelude.{rules}
use Rattle.block_stage.proofs.RecordEdgeLaws.{some-few, some_up, some-down, both-listed}
use Rattle.block_stage.proofs.inner.listed.cover_listed.Goals as goal

pub edge_runs-requires : goal.edge_runs-requires
edge_runs-requires c = search (some-few, rules)

pub cover_edge-rising-requires : goal.cover_edge-rising-requires
cover_edge-rising-requires c =
    some_up c.requires c.edge_runs.ensures

pub edge_runs-requires-2 : goal.edge_runs-requires-2
edge_runs-requires-2 c = search (some-few, rules)

pub cover_edge-falling-requires : goal.cover_edge-falling-requires
cover_edge-falling-requires c =
    let covers = c.cover_edge-rising in
    some-down c.requires c.edge_runs-2.ensures covers.ensures.0 covers.auto.words

pub returns : goal.returns
returns c =
    let held = c.edge_runs.ensures in
    let covers = c.cover_edge-rising in
    let covers2 = c.cover_edge-falling.ensures in (
      covers2.0,
      both-listed held covers.auto.words covers.ensures.1 c.edge_runs-2.ensures covers.ensures.0 covers2.1 c.join_answers.ensures,
    )
