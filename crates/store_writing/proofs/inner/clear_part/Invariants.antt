-- `store_writing::inner::clear_part` meets its contract: what is left to be made zero, from here, gives the whole.
use Rattle.model.proofs.Prelude.{◌-◌, ◌≡◌, length}
use Rattle.store_writing.specs.Writing.{zeroed}
use Rattle.store_writing.proofs.inner.clear_part.Given as goal

abbrev pub invariant-loop-i : goal.invariant-loop-i
invariant-loop-i l = (length l.words ≡ length l.initial.words) × (zeroed l.words l.i (l.to - l.i) ≡ zeroed l.initial.words l.from (l.to - l.from))
