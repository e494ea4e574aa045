-- `block_intervals::inner::sections::clear_sections` meets its contract. The invariant, `Cleared`: the places so far hold 0.
use Rattle.model.proofs.Prelude.{◌-◌}
use Rattle.block_intervals.proofs.SectionLaws.{Cleared}
use Rattle.block_intervals.proofs.inner.sections.clear_sections.Given as goal

abbrev pub invariant-loop-o : goal.invariant-loop-o
invariant-loop-o l = Cleared l.spans l.o
