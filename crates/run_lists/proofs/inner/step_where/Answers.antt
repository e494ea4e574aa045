-- `run_lists::inner::step_where` meets its contract: once or not at all is no more than once.
use Rattle.model.proofs.Prelude.{ℕ, ◌≤◌, ◌<◌, ◌*◌, le_trans, mul-le-mul_right, arith, rules}
use Rattle.std.proofs.Common.{le_of_eq, mul_comm, one-mul}
use Rattle.run_lists.proofs.inner.step_where.Goals as goal

at_most : (step once : ℕ) → once < 2 → step * once ≤ step
at_most step once l = le_trans (le_of_eq (mul_comm step once)) (le_trans (mul-le-mul_right step (one-most l)) (le_of_eq (one-mul step)))
  where
    one-most : {n : ℕ} → n < 2 → n ≤ 1
    one-most k = omega (arith, k)

pub returns : goal.returns
returns c = search (at_most, rules)
