-- `length_chart::frame::put_scale` meets its contract: its lines one after the other.
use native.Mathlib.Omega.{arith}
use Rattle.text_buffer.proofs.WrittenLaws.{then-written}
use Rattle.length_chart.specs.Chart.{scale_lines}
use Rattle.length_chart.proofs.frame.put_scale.Goals as goal

pub returns : goal.returns
unfolding scale_lines
returns c = (
  then-written (then-written (then-written (then-written (then-written c.put_plain-across.ensures.0 c.put_plain-full.ensures.0) c.put_plain-half.ensures.0)
      c.put_plain-none.ensures.0) c.put_plain-below.ensures.0) c.put_plain.ensures.0,
  omega (arith, c.put_plain-across.ensures.1, c.put_plain-full.ensures.1, c.put_plain-half.ensures.1, c.put_plain-none.ensures.1, c.put_plain-below.ensures.1, c.put_plain.ensures.1),
)
