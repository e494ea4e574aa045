-- `length_chart::bars::put_title` meets its contract: a line for each number.
use native.Mathlib.Omega.{arith}
use Rattle.text_buffer.proofs.WrittenLaws.{then-written}
use Rattle.length_chart.specs.Chart.{title_lines}
use Rattle.length_chart.proofs.bars.put_title.Goals as goal

pub returns : goal.returns
unfolding title_lines
returns c = (
  then-written (then-written (then-written c.put_numbered-counted.ensures.0 c.put_numbered-first.ensures.0) c.put_numbered-second.ensures.0) c.put_numbered.ensures.0,
  omega (arith, c.put_numbered-counted.ensures.1, c.put_numbered-first.ensures.1, c.put_numbered-second.ensures.1, c.put_numbered.ensures.1),
)
