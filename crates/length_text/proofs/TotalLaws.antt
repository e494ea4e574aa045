-- The sum of a row, number by number.
use Rattle.model.proofs.Prelude.{ℕ, ◌≤◌, ◌+◌, suc, zero, ◌≡◌, ◌∙◌, ap, refl, List, [], ◌∷◌, get_or, take, add-one, arith}
use lib.Seq.{take-nil}
use Rattle.model.specs.Base.{sum_of}
use Rattle.length_text.specs.LengthTable.{capped, total}

sum-next : (row : List ℕ) (i : ℕ) → sum_of (take (suc i) row) ≡ sum_of (take i row) + get_or row i 0
sum-next [] i = rw (take-nil {A = ℕ} i) refl
sum-next (x ∷ row) zero = omega arith
sum-next (x ∷ row) (suc i) = omega (arith, sum-next row i)

-- one number more
pub total-next : (row : List ℕ) (i sum r : ℕ) → sum ≡ capped (sum_of (take i row)) → r ≡ capped (sum + get_or row i 0)
    → r ≡ capped (sum_of (take (i + 1) row))
total-next row i sum r e f =
    let next : sum_of (take (i + 1) row) ≡ sum_of (take i row) + get_or row i 0 = rw (add-one i) (sum-next row i) in
    omega arith

-- all of them
pub total-is : (row : List ℕ) (i sum : ℕ) → i ≤ 64 → 64 ≤ i → sum ≡ capped (sum_of (take i row)) → sum ≡ total row
unfolding total
total-is row i sum h l e =
    let all : i ≡ 64 = omega arith in
    e ∙ ap (λ (k : ℕ). capped (sum_of (take k row))) all
