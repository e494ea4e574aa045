-- `store_writing::inner::clear_part` meets its contract: what is left to be made zero, from here, gives the whole.
use Rattle.model.proofs.Prelude.{◌∙◌, sym, length-set}
use Rattle.store_writing.proofs.EdgeWriteLaws.{zeroed-next, zeroed-end}
use Rattle.store_writing.proofs.inner.clear_part.Goals as goal

pub loop-i-preserved : goal.loop-i-preserved
loop-i-preserved c =
    let l = c.loop-i in
    (length-set l.words l.i 0 ∙ l.invariant.0, sym (zeroed-next l.words l.i _ c.loop-i-test.true) ∙ l.invariant.1)

pub returns : goal.returns
returns c = let l = c.loop-i in sym (zeroed-end l.words l.i _ c.loop-i-test.false) ∙ l.invariant.1
