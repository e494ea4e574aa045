-- `ask_walk::inner::take_input` meets its contract. The invariant, `TakingInput`: the state is that after what was read so far.
use Rattle.model.proofs.Prelude.{sym, length-take-le, arith}
use Rattle.ask_walk.proofs.InputSteps.{input-start, read-few, piece-ready, input-next, input-end}
use Rattle.ask_walk.proofs.inner.take_input.Goals as goal

pub loop-so_far-init : goal.loop-so_far-init
loop-so_far-init c = input-start _ _

pub shape_of-out-then-n-eq0 : goal.shape_of-out-then-n-eq0
shape_of-out-then-n-eq0 c = c.loop-so_far.invariant.same_out

pub returns-then-n-eq0 : goal.returns-then-n-eq0
returns-then-n-eq0 c = input-end c.loop-so_far.invariant _

pub slice_bounds-write_answers-end : goal.slice_bounds-write_answers-end
slice_bounds-write_answers-end c = c.put_answers-answered.ensures.text.inside

pub slice_bounds-write_answers-end-in-loop-so_far : goal.slice_bounds-write_answers-end-in-loop-so_far
slice_bounds-write_answers-end-in-loop-so_far c =
    sym (length-take-le c.put_answers-answered.result.bytes c.put_answers-answered.new.out c.put_answers-answered.ensures.text.inside)

pub loop-so_far-smaller : goal.loop-so_far-smaller
loop-so_far-smaller c =
    omega (arith, c.if-n-eq0.false, c.loop-so_far-test.true)

pub returns-after-loop-so_far : goal.returns-after-loop-so_far
returns-after-loop-so_far c = input-end c.loop-so_far.invariant _

pub loop-so_far-preserved : goal.loop-so_far-preserved
loop-so_far-preserved c =
    let got = c.read_some-got in
    let few = read-few c.loop-so_far.invariant got.result.bytes got.new.space got.ensures.0 got.auto.space c.requires.1 in
    input-next c.loop-so_far.invariant c.put_answers-answered.ensures c.none_waiting-asking.ensures got.ensures.1 few
    (omega (arith, c.loop-so_far-test.true)) got.auto.space

pub put_answers-answered-requires : goal.put_answers-answered-requires
put_answers-answered-requires c =
    let got = c.read_some-got in
    let few = read-few c.loop-so_far.invariant got.result.bytes got.new.space got.ensures.0 got.auto.space c.requires.1 in
    piece-ready c.loop-so_far.invariant c.requires.0 got.ensures.1 few c.requires.2 (omega (arith, c.loop-so_far-test.true))

pub returns-then-not-written : goal.returns-then-not-written
returns-then-not-written c =
    let got = c.read_some-got in
    let few = read-few c.loop-so_far.invariant got.result.bytes got.new.space got.ensures.0 got.auto.space c.requires.1 in
    input-end
    (input-next c.loop-so_far.invariant {space' = got.new.space} c.put_answers-answered.ensures c.none_waiting-asking.ensures got.ensures.1 few
    (omega (arith, c.loop-so_far-test.true)) got.auto.space)
    _
