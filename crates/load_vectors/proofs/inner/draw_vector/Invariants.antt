-- `load_vectors::inner::draw_vector` meets its contract. The invariant: the values drawn so far, and those that are left to draw from here, give the vector.
use Rattle.model.proofs.Prelude.{◌-◌}
use Rattle.load_vectors.proofs.DrawSteps.{Drawing}
use Rattle.load_vectors.proofs.inner.draw_vector.Given as goal

abbrev pub invariant-loop-input : goal.invariant-loop-input
invariant-loop-input l = Drawing l.inputs l.state l.vector l.last l.input
