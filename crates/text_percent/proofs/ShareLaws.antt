-- Thousandths by addition: after some additions of the part, the sum is the quotient times the whole, and a rest below the whole.
use Rattle.model.proofs.Prelude.{ℕ, ◌≤◌, ◌<◌, ◌+◌, ◌-◌, ◌*◌, ◌/◌, ◌≡◌, ◌∙◌, ap, sym, div-eq_of_lt, arith}
use native.Mathlib.Nat.{mul-add-div_right}

-- After `done` additions
module _ (part whole quotient rest done : ℕ) (e : part * done ≡ quotient * whole + rest) where
  one_more : part * (done + 1) ≡ part * done + part
  one_more = omega arith

  pub added-rest : (quotient' rest' : ℕ) → quotient' ≡ quotient → rest' ≡ rest + part → part * (done + 1) ≡ quotient' * whole + rest'
  added-rest quotient' rest' q r =
      let same : quotient' * whole ≡ quotient * whole = ap (λ (k : ℕ). k * whole) q in
      omega (arith, one_more, e, same)

  pub added-whole : part ≤ whole → whole - part ≤ rest → (quotient' rest' : ℕ) → quotient' ≡ quotient + 1 → rest' ≡ rest - (whole - part)
      → part * (done + 1) ≡ quotient' * whole + rest'
  added-whole h l quotient' rest' q r =
      let more : quotient' * whole ≡ quotient * whole + whole = ap (λ (k : ℕ). k * whole) q ∙ omega arith in
      omega (arith, one_more, e, more)

-- All of them
pub all-added : (part whole quotient rest done : ℕ) → 0 < whole → rest < whole → done ≡ 1000
    → part * done ≡ quotient * whole + rest → quotient ≡ part * 1000 / whole
all-added part whole quotient rest done h l i e =
    let none : rest / whole ≡ 0 = div-eq_of_lt l in
    let plus : (quotient * whole + rest) / whole ≡ quotient + rest / whole = mul-add-div_right h quotient rest in
    sym (ap (λ (k : ℕ). part * k / whole) (sym i) ∙ ap (λ (n : ℕ). n / whole) e ∙ plus ∙ omega (arith, none))
