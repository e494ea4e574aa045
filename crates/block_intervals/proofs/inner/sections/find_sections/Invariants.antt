-- `block_intervals::inner::sections::find_sections` meets its contract. The invariant, `Finding`: the sections so far ascend, and nothing else has changed since the word
-- after them was written.
use Rattle.model.proofs.Prelude.{◌-◌, ◌/◌, length}
use Rattle.block_intervals.proofs.SectionLaws.{Finding}
use Rattle.block_intervals.proofs.inner.sections.find_sections.Given as goal

abbrev pub invariant-loop-output : goal.invariant-loop-output
invariant-loop-output l = Finding l.initial.spans l.base (length l.held / 2) l.spans l.at l.output
