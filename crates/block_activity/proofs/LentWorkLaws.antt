-- The working memory that is lent for the words of the nets: what stands past it stays.
use Rattle.model.proofs.Prelude.{ℕ, ◌+◌, suc, ◌≡◌, ◌∙◌, refl, sym, ap₂, List, [], ◌∷◌, length, get_or, drop, length-drop, get_or-drop, arith}
use Rattle.model.specs.Calls.{work_words_count}
use Rattle.block_words.specs.NetStates.{StatesKept}
use Rattle.block_activity.specs.EdgeMarks.{WorkKept}

-- lists of one length that agree at each place
same-words : (xs ys : List ℕ) → length xs ≡ length ys → ((i : ℕ) → get_or xs i 0 ≡ get_or ys i 0) → xs ≡ ys
same-words [] [] e h = refl
same-words [] (y ∷ ys) e h = absurd (omega arith)
same-words (x ∷ xs) [] e h = absurd (omega arith)
same-words (x ∷ xs) (y ∷ ys) e h = ap₂ (λ z (zs : List ℕ). z ∷ zs) (h 0) (same-words xs ys (omega arith) (λ i. h (suc i)))

-- two uses in turn
pub work-kept : {before between after : List ℕ} → StatesKept before between → StatesKept between after → WorkKept before after
work-kept {before} {between} {after} j k = record {
  same_length_of = k.same_length_of ∙ j.same_length_of;
  past_work = same-words (drop work_words_count after) (drop work_words_count before)
      (omega (arith, length-drop work_words_count after, length-drop work_words_count before, k.same_length_of, j.same_length_of))
      (λ i. get_or-drop work_words_count after i 0 ∙ k.past (work_words_count + i) (omega arith) ∙ j.past (work_words_count + i) (omega arith) ∙ sym (get_or-drop work_words_count before i 0));
}
