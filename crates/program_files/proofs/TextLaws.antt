-- Texts of other lengths are not the same.
use Rattle.model.proofs.Prelude.{ℕ, ◌≡◌, ap, sym, false, List, length}
use Rattle.model.specs.Report.{same_bytes}
use Rattle.model.proofs.AnswerLaws.{same→}
use Rattle.model.proofs.BoolLaws.{not→false}

pub other_length : (xs ys : List ℕ) → (length xs ≡ length ys → ⊥) → false ≡ same_bytes xs ys
other_length xs ys h = sym (not→false (same_bytes xs ys) (λ t. h (ap (length {A = ℕ}) (same→ xs ys t))))
