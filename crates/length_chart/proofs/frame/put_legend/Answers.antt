-- `length_chart::frame::put_legend` meets its contract: its lines one after the other.
use native.Mathlib.Omega.{arith}
use Rattle.text_buffer.proofs.WrittenLaws.{then-written}
use Rattle.length_chart.specs.Chart.{legend_lines}
use Rattle.length_chart.proofs.frame.put_legend.Goals as goal

pub returns : goal.returns
unfolding legend_lines
returns c = (
  then-written (then-written (then-written (then-written (then-written c.put_plain-rising_name.ensures.0 c.put_plain-falling.ensures.0) c.put_plain-falling_name.ensures.0)
      c.put_plain-all.ensures.0) c.put_plain-all_name.ensures.0) c.put_plain.ensures.0,
  omega (arith, c.put_plain-rising_name.ensures.1, c.put_plain-falling.ensures.1, c.put_plain-falling_name.ensures.1, c.put_plain-all.ensures.1, c.put_plain-all_name.ensures.1, c.put_plain.ensures.1),
)
