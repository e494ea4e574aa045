-- The answers to a text that comes in pieces: those to two pieces, one after the other, are those to both as one.
use Rattle.model.proofs.Prelude.{ℕ, ◌≤◌, ◌+◌, ◌≡◌, ◌∙◌, ap, refl, sym, ⊎_elim, true, false, List, [], ◌∷◌, ◌++◌, append_assoc, length, eqb, arith}
use Rattle.model.specs.Base.{Answer}
use Rattle.model.proofs.BoolLaws.{bool_cases}
use Rattle.tree_words.specs.Calls.{Asked}
use Rattle.ask_text.specs.Questions.{byte_after_of, answer_line}
use Rattle.ask_text.specs.Pieces.{place_after, line_after, piece_text}
use Rattle.ask_text.specs.declared.inner.Stated.{Stated}
use Rattle.ask_text.specs.declared.inner.Stated.TheVariants as stated

-- ---- one byte before others

module _ (b : ℕ) (bs : List ℕ) where
  module _ (e : eqb b 10 ≡ true) where
    pub place_end : (place : ℕ) → place_after place (b ∷ bs) ≡ place_after (place + 1) bs
    unfolding place_after
    place_end place = rw (e, place_after) refl

    pub line-end : (line : Stated) → line_after line (b ∷ bs) ≡ line_after stated.Nothing bs
    unfolding line_after
    line-end line = rw (e, line_after) refl

    pub text-end : (ask : ℕ → Answer Asked) (place : ℕ) (line : Stated)
        → piece_text ask place line (b ∷ bs) ≡ answer_line ask place line ++ piece_text ask (place + 1) stated.Nothing bs
    unfolding piece_text
    text-end ask place line = rw (e, piece_text) refl

  module _ (e : eqb b 10 ≡ false) where
    pub place_other : (place : ℕ) → place_after place (b ∷ bs) ≡ place_after place bs
    unfolding place_after
    place_other place = rw (e, place_after) refl

    pub line_other : (line : Stated) → line_after line (b ∷ bs) ≡ line_after (byte_after_of line b) bs
    unfolding line_after
    line_other line = rw (e, line_after) refl

    pub text-other : (ask : ℕ → Answer Asked) (place : ℕ) (line : Stated) → piece_text ask place line (b ∷ bs) ≡ piece_text ask place (byte_after_of line b) bs
    unfolding piece_text
    text-other ask place line = rw (e, piece_text) refl

-- ---- a piece before another

pub place-more : (place : ℕ) (xs ys : List ℕ) → place_after place (xs ++ ys) ≡ place_after (place_after place xs) ys
unfolding place_after
place-more place [] ys = refl
place-more place (b ∷ xs) ys =
    ⊎_elim
    (λ (e : eqb b 10 ≡ true). place_end b (xs ++ ys) e place ∙ place-more (place + 1) xs ys ∙ sym (ap (λ (k : ℕ). place_after k ys) (place_end b xs e place)))
    (λ (e : eqb b 10 ≡ false). place_other b (xs ++ ys) e place ∙ place-more place xs ys ∙ sym (ap (λ (k : ℕ). place_after k ys) (place_other b xs e place)))
    (bool_cases (eqb b 10))

pub line-more : (line : Stated) (xs ys : List ℕ) → line_after line (xs ++ ys) ≡ line_after (line_after line xs) ys
unfolding line_after
line-more line [] ys = refl
line-more line (b ∷ xs) ys =
    ⊎_elim
    (λ (e : eqb b 10 ≡ true).
    line-end b (xs ++ ys) e line ∙ line-more stated.Nothing xs ys ∙ sym (ap (λ (s : Stated). line_after s ys) (line-end b xs e line)))
    (λ (e : eqb b 10 ≡ false).
    line_other b (xs ++ ys) e line ∙ line-more (byte_after_of line b) xs ys ∙ sym (ap (λ (s : Stated). line_after s ys) (line_other b xs e line)))
    (bool_cases (eqb b 10))

pub text-more : (ask : ℕ → Answer Asked) (place : ℕ) (line : Stated) (xs ys : List ℕ)
    → piece_text ask place line (xs ++ ys) ≡ piece_text ask place line xs ++ piece_text ask (place_after place xs) (line_after line xs) ys
unfolding piece_text place_after line_after
text-more ask place line [] ys = refl
text-more ask place line (b ∷ xs) ys =
    ⊎_elim
    (λ (e : eqb b 10 ≡ true).
    let here : List ℕ = answer_line ask place line in
    text-end b (xs ++ ys) e ask place line
    ∙ ap (λ (t : List ℕ). here ++ t) (text-more ask (place + 1) stated.Nothing xs ys)
    ∙ sym (append_assoc here (piece_text ask (place + 1) stated.Nothing xs) (piece_text ask (place_after (place + 1) xs) (line_after stated.Nothing xs) ys))
    ∙ sym (both-parts b xs ask place line ys (text-end b xs e ask place line) (place_end b xs e place) (line-end b xs e line)))
    (λ (e : eqb b 10 ≡ false).
    text-other b (xs ++ ys) e ask place line
    ∙ text-more ask place (byte_after_of line b) xs ys
    ∙ sym (both-parts b xs ask place line ys (text-other b xs e ask place line) (place_other b xs e place) (line_other b xs e line)))
    (bool_cases (eqb b 10))
  where
    both-parts : (b : ℕ) (xs : List ℕ) (ask : ℕ → Answer Asked) (place : ℕ) (line : Stated) (ys : List ℕ) {t : List ℕ} {k : ℕ} {s : Stated}
        → piece_text ask place line (b ∷ xs) ≡ t → place_after place (b ∷ xs) ≡ k → line_after line (b ∷ xs) ≡ s
        → piece_text ask place line (b ∷ xs) ++ piece_text ask (place_after place (b ∷ xs)) (line_after line (b ∷ xs)) ys ≡ t ++ piece_text ask k s ys
    both-parts b xs ask place line ys et ek es i = et i ++ piece_text ask (ek i) (es i) ys

-- a piece has no more lines than bytes
pub place-most : (place : ℕ) (bs : List ℕ) → place_after place bs ≤ place + length bs
unfolding place_after
place-most place [] = omega arith
place-most place (b ∷ bs) =
    ⊎_elim
    (λ (e : eqb b 10 ≡ true). omega (arith, place_end b bs e place, place-most (place + 1) bs))
    (λ (e : eqb b 10 ≡ false). omega (arith, place_other b bs e place, place-most place bs))
    (bool_cases (eqb b 10))
