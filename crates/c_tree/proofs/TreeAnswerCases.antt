-- The code and the answer words of a search and of a question, by the cases of their answers.
use mir.Val.{bool_byte}
use Rattle.model.proofs.Prelude.{ℕ, ◌≡◌, ap, refl, List, [], ◌∷◌, sets, rules}
use Rattle.model.specs.Refusals.{refusal_number_of}
use Rattle.model.specs.declared.Refusal.{Refusal}
use Rattle.tree_words.specs.Calls.{none, found, run_of}
use Rattle.tree_descent.specs.declared.inner.Visit.{Visit}
use Rattle.tree.specs.Answers.{search_of, holds_of}
use Rattle.tree.specs.declared.TreeRun.{TreeRun}
use Rattle.c_answer_words.specs.Codes.{Answered}
use Rattle.c_answer_words.proofs.CodeLaws.{answered-refused, answered-value, bit_is}
use Rattle.c_tree.specs.AnswerWords.{found_words, asked_words}
use Rattle.std.specs.Prelude.{Result, Ok, Err, Option, Some, None}

-- ---- A call that was refused leaves the answer words as they were

module _ (code : ℕ) (w : Refusal) (q : code ≡ refusal_number_of w) (before : List ℕ) where
  pub found-refused : (r : Result (Option TreeRun) Refusal) → r ≡ Err w → Answered (search_of r) found_words code before before
  found-refused r p = answered-refused (search_of r) found_words before w code q (ap search_of p)

  pub holds-refused : (r : Result Visit Refusal) → r ≡ Err w → Answered (holds_of r) asked_words code before before
  holds-refused r p = answered-refused (holds_of r) asked_words before w code q (ap holds_of p)

-- ---- and one that was taken writes them

module _ (code : ℕ) (q : code ≡ 0) (before left : List ℕ) where
  module _ (r : Result (Option TreeRun) Refusal) (f : Option TreeRun) (p : r ≡ Ok f) where
    pub found-run : (t : TreeRun) → f ≡ Some t → left ≡ sets before 0 (1 ∷ t.low ∷ t.high ∷ []) → Answered (search_of r) found_words code before left
    found-run t s e = rw (q, e) (answered-value (search_of r) found_words before (found (run_of t.low t.high)) (rw (p, s) refl))

    pub found_none : f ≡ None → left ≡ sets before 0 (0 ∷ 0 ∷ 0 ∷ []) → Answered (search_of r) found_words code before left
    found_none s e = rw (q, e) (answered-value (search_of r) found_words before none (rw (p, s) refl))

  pub holds-taken : (r : Result Visit Refusal) (v : Visit) → r ≡ Ok v → left ≡ sets before 0 (bool_byte v.held ∷ v.visited ∷ [])
      → Answered (holds_of r) asked_words code before left
  holds-taken r v p e = rw (q, e, bit_is v.held) (answered-value (holds_of r) asked_words before _ (ap holds_of p))

pub ruleset found-cases = (found-refused, found-run, found_none, rules)

pub ruleset holds-cases = (holds-refused, holds-taken, rules)
