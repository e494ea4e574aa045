-- `gate_logic::inner::state_word` meets its contract: three bits, a byte apart.
use Rattle.model.proofs.Prelude.{ℕ, ◌+◌, ◌*◌, ◌≡◌, refl, arith}
use Rattle.gate_logic.proofs.inner.state_word.Goals as goal

three-bits : {x y z a b c : ℕ} → x ≡ a → y ≡ b → z ≡ c → x + 256 * y + 65536 * z ≡ a + 256 * b + 65536 * c
three-bits e f g = rw (e, f, g) refl

pub overflow_mul-result : goal.overflow_mul-result
overflow_mul-result c = omega (arith, c.one_where-2.ensures.1)

pub overflow_add-result : goal.overflow_add-result
overflow_add-result c = omega (arith, c.one_where-2.ensures.1, c.one_where.ensures.1)

pub overflow_mul-result-2 : goal.overflow_mul-result-2
overflow_mul-result-2 c = omega (arith, c.one_where-3.ensures.1)

pub overflow_add-result-2 : goal.overflow_add-result-2
overflow_add-result-2 c = omega (arith, c.one_where-3.ensures.1, c.one_where-2.ensures.1, c.one_where.ensures.1)

pub returns : goal.returns
returns c = three-bits c.one_where.ensures.0 c.one_where-2.ensures.0 c.one_where-3.ensures.0
