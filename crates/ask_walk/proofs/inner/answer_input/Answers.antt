-- `ask_walk::inner::answer_input` meets its contract: the input is taken, then what stands after its last end of a line is answered.
use Rattle.model.proofs.Prelude.{sym, length-take-le}
use Rattle.ask_walk.proofs.InputSteps.{last-ready, input-broken, input-answered}
use Rattle.ask_walk.proofs.inner.answer_input.Goals as goal

pub returns-then-not-taken : goal.returns-then-not-taken
returns-then-not-taken c = input-broken c.take_input-taken.ensures _ _ _ _

pub put_last-end-requires : goal.put_last-end-requires
put_last-end-requires c =
    last-ready c.take_input-taken.ensures c.requires.0 c.args.out.now c.requires.2 c.take_input-taken.auto.out

pub slice_bounds-write_answers-end-2 : goal.slice_bounds-write_answers-end-2
slice_bounds-write_answers-end-2 c =
    sym (length-take-le c.put_last-end.result c.put_last-end.new.out c.put_last-end.ensures.inside)

pub returns : goal.returns
returns c =
    input-answered c.take_input-taken.ensures _ _ _ _ _ _ c.put_last-end.ensures
