-- `length_chart::bars::put_pair` meets its contract: the outlines, then the two bars.
use native.Mathlib.Omega.{arith}
use Rattle.text_buffer.proofs.WrittenLaws.{then-written}
use Rattle.length_chart.specs.Chart.{bar_lines}
use Rattle.length_chart.proofs.bars.put_pair.Goals as goal

pub returns : goal.returns
unfolding bar_lines
returns c = (
  then-written (then-written c.put_plain-first.ensures.0 c.put_numbered-second.ensures.0) c.put_numbered.ensures.0,
  omega (arith, c.put_plain-first.ensures.1, c.put_numbered-second.ensures.1, c.put_numbered.ensures.1),
)
