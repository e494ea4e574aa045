-- `load_vectors::inner::draw_vector` meets its contract. The invariant: the values drawn so far, and those that are left to draw from here, give the vector.
use Rattle.model.proofs.Prelude.{◌-◌}
use Rattle.load_vectors.proofs.DrawSteps.{draw-cases}
use Rattle.load_vectors.proofs.inner.draw_vector.Goals as goal

pub loop-input-init : goal.loop-input-init
loop-input-init c = search draw-cases

pub overflow_add-vector : goal.overflow_add-vector
overflow_add-vector c = search draw-cases

pub loop-input-preserved : goal.loop-input-preserved
loop-input-preserved c = search draw-cases

pub returns : goal.returns
returns c = search draw-cases
