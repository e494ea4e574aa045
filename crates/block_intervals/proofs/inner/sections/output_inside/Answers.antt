-- `block_intervals::inner::sections::output_inside` meets its contract: the runs of the output's net, in its section.
use Rattle.model.proofs.Prelude.{arith}
use Rattle.block_intervals.proofs.inner.sections.output_inside.Goals as goal

pub span_inside-requires : goal.span_inside-requires
span_inside-requires c =
    let section = c.requires.output_bound.2 in
    let ready = c.requires.output_ready.0 in
    let room = c.requires.output_ready.1 in
    record {
      from_le_to = (ready.ordered, omega (arith, ready.before, room), ready.small, section.ordered, section.within);
      sound = ready.sound;
    }
