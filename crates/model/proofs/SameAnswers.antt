-- Whether two answers of words are the same, as a test that the check computes: by it the tables of examples are judged.
use Rattle.model.proofs.Prelude.{ℕ, ◌≡◌, ap, Bool, false, List, T, eqb, eqb→eq}
use Rattle.model.specs.Base.{Answer, refused, value}
use Rattle.model.specs.Report.{same_bytes}
use Rattle.model.proofs.AnswerLaws.{same→}

unfoldable pub same : Answer (List ℕ) → Answer (List ℕ) → Bool
same (refused m) (refused n) = eqb m n
same (refused m) (value ys) = false
same (value xs) (refused n) = false
same (value xs) (value ys) = same_bytes xs ys

pub same_answer : (a b : Answer (List ℕ)) → T (same a b) → a ≡ b
unfolding same
same_answer (refused m) (refused n) t = ap refused (eqb→eq m n t)
same_answer (refused m) (value ys) t = absurd t
same_answer (value xs) (refused n) t = absurd t
same_answer (value xs) (value ys) t = ap value (same→ xs ys t)
