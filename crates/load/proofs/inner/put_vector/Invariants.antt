-- `load::inner::put_vector` meets its contract. The invariant: what is written, and the records of the inputs that are left, written from here on, give
-- the whole.
use Rattle.load.proofs.VectorSteps.{Writing}
use Rattle.load.proofs.inner.put_vector.Given as goal

abbrev pub invariant-loop-input : goal.invariant-loop-input
invariant-loop-input l =
    Writing l.inputs l.state l.size l.at l.initial.records l.records l.place l.input
