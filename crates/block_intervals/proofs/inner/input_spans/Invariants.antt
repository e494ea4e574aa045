-- `block_intervals::inner::input_spans` meets its contract. The loop's invariant: the spans of the inputs so far are written.
use Rattle.model.proofs.Prelude.{◌-◌}
use Rattle.block_intervals.proofs.InputSpanCases.{InputsSpanned}
use Rattle.block_intervals.proofs.inner.input_spans.Given as goal

abbrev pub invariant-loop-input : goal.invariant-loop-input
invariant-loop-input l = InputsSpanned l.inputs l.spans l.input
