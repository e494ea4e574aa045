-- `length_chart::frame::put_head` meets its contract: its lines one after the other.
use native.Mathlib.Omega.{arith}
use Rattle.text_buffer.proofs.WrittenLaws.{then-written}
use Rattle.length_chart.specs.Chart.{head_lines}
use Rattle.length_chart.proofs.frame.put_head.Goals as goal

pub returns : goal.returns
unfolding head_lines
returns c = (
  then-written (then-written (then-written (then-written c.put_plain-size.ensures.0 c.put_numbered-view.ensures.0)
      c.put_numbered-title.ensures.0) c.put_plain-ground.ensures.0) c.put_plain.ensures.0,
  omega (arith, c.put_plain-size.ensures.1, c.put_numbered-view.ensures.1, c.put_numbered-title.ensures.1, c.put_plain-ground.ensures.1, c.put_plain.ensures.1),
)
