-- `single_stage::inner::cover_both` meets its contract: the runs made of the rising edge stay while the falling edge is covered.
use Rattle.model.proofs.Prelude.{◌∙◌, refl, arith, rules}
use Rattle.model.specs.Path.{rising, falling}
use Rattle.single_stage.proofs.BothEdgeLaws.{work-few, some-edge, join_ready, both-covered}
use Rattle.single_stage.proofs.inner.cover_both.Goals as goal

pub detected_runs-up-requires : goal.detected_runs-up-requires
detected_runs-up-requires c = some-edge c.requires rising refl

pub edge_runs-requires : goal.edge_runs-requires
edge_runs-requires c = search (work-few, rules)

pub join_edge-rising-requires : goal.join_edge-rising-requires
join_edge-rising-requires c =
    let held = c.edge_runs.ensures in
    let found = c.detected_runs-up in
    let ready = c.requires in
    join_ready ready rising refl found.auto.words found.ensures held (omega arith) (omega arith)

pub detected_runs-down-requires : goal.detected_runs-down-requires
detected_runs-down-requires c =
    let joins = c.join_edge-rising.auto.words in
    some-edge c.requires falling (joins ∙ c.detected_runs-up.auto.words)

pub edge_runs-requires-2 : goal.edge_runs-requires-2
edge_runs-requires-2 c = search (work-few, rules)

pub join_edge-falling-requires : goal.join_edge-falling-requires
join_edge-falling-requires c =
    let held = c.edge_runs-2.ensures in
    let found = c.detected_runs-down in
    let ready = c.requires in
    let so_far = c.join_edge-rising.auto.words ∙ c.detected_runs-up.auto.words in
    join_ready ready falling so_far (found.auto.words ∙ so_far) found.ensures held (omega arith) (omega arith)

pub returns : goal.returns
returns c =
    let falling-joins = c.join_edge-falling.ensures in
    let falling-held = c.edge_runs-2.ensures in
    let falling-found = c.detected_runs-down.ensures in
    let rising-joins = c.join_edge-rising in
    let rising-held = c.edge_runs.ensures in
    let rising-found = c.detected_runs-up in
    let so_far = rising-joins.auto.words ∙ rising-found.auto.words in
    both-covered c.requires so_far rising-found.ensures rising-held rising-joins.ensures
    falling-found falling-held falling-joins c.join_answers.ensures
