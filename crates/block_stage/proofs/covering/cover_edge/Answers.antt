-- `block_stage::covering::cover_edge` meets its contract: no edge, too many working runs, nothing new, or the detected runs joined to the held ones.
use Rattle.model.proofs.Prelude.{◌∙◌, rules}
use Rattle.block_stage.proofs.CoverEdgeLaws.{edge_none, edge-over, edge-outputs, edge-held, edge-joins, edge-joined, some-spans, some-base, some-ascending}
use Rattle.block_stage.proofs.covering.cover_edge.Goals as goal

pub returns-then-edges-eq0 : goal.returns-then-edges-eq0
returns-then-edges-eq0 c = (c.requires.ready.listed.input_spans, λ K h. edge_none h c.if-edges-eq0.true)

pub listed_spans-requires : goal.listed_spans-requires
listed_spans-requires c = search (some-spans, rules)

pub outputs_inside-requires : goal.outputs_inside-requires
outputs_inside-requires c =
    let ready = c.requires in
    let made = c.listed_spans.ensures in
    (some-base ready, edge-outputs ready.ready made.1 c.in-Some.is, some-ascending ready made.0)

pub returns-then-outputs_inside : goal.returns-then-outputs_inside
returns-then-outputs_inside c =
    let made = c.listed_spans.ensures in
    (made.0, λ K h. edge-held h made.1 c.in-Some.is c.if-outputs_inside.true c.outputs_inside.ensures)

pub out_runs-found-requires : goal.out_runs-found-requires
out_runs-found-requires c =
    let ready = c.requires in
    edge-outputs ready.ready c.listed_spans.ensures.1 c.in-Some.is

pub join_edge-requires : goal.join_edge-requires
join_edge-requires c =
    let ready = c.requires in
    let spans = c.listed_spans in
    let found = c.out_runs-found in
    edge-joins ready.ready spans.ensures.1 c.in-Some.is found.ensures (found.auto.words ∙ spans.auto.words)

pub returns-in-None : goal.returns-in-None
returns-in-None c =
    let made = c.listed_spans.ensures in
    (made.0, λ K h. edge-over h made.1 c.in-None.is)

pub returns-else-outputs_inside : goal.returns-else-outputs_inside
returns-else-outputs_inside c =
    let made = c.listed_spans.ensures in
    (made.0, λ K h. edge-joined h made.1 c.in-Some.is c.out_runs-found.ensures c.join_edge.ensures)
