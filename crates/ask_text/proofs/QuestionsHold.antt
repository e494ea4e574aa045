-- What holds of the answers: a text that comes in pieces is answered as the whole, line by line; the trees of a store answer as the store does.
use Rattle.model.proofs.Prelude.{ℕ, ◌+◌, ◌-◌, ◌*◌, ◌≡◌, ◌∙◌, ap, refl, sym, ⊎_elim, true, Bool, false, ◌&&◌, List, [], ◌∷◌, ◌++◌, append_assoc}
use Rattle.model.proofs.Prelude.{append-nil, leb, eqb}
use mathlib.Core.List.{flatten}
use Rattle.model.specs.Base.{Answer}
use Rattle.model.proofs.BoolLaws.{bool_cases}
use Rattle.tree_words.specs.Calls.{Asked}
use Rattle.ask_text.specs.Questions.{with_digit_of, digit_after, byte_after_of, stated_by, answer_line, last_line_of, lines_from, answers_to, answers_text}
use Rattle.ask_text.specs.Pieces.{place_after, line_after, piece_text, last_text, pieces_text}
use Rattle.ask_text.specs.declared.inner.Stated.{Stated}
use Rattle.ask_text.specs.declared.inner.Stated.TheVariants as stated
use Rattle.ask_text.proofs.AnsweredPieceLaws.{place_end, place_other, line-end, line_other, text-end, text-other, place-more, line-more, text-more}

-- ---- what a line states, byte by byte

stated-snoc : (s : Stated) (l : List ℕ) (b : ℕ) → stated_by s (l ++ (b ∷ [])) ≡ byte_after_of (stated_by s l) b
unfolding stated_by
stated-snoc s [] b = refl
stated-snoc s (x ∷ l) b = stated-snoc (byte_after_of s x) l b

-- a line with a byte on it has an answer, also where no end of a line follows
module _ (ask : ℕ → Answer Asked) (place : ℕ) where
  abbrev Told : Stated → Type 0
  Told s = last_text ask place s ≡ answer_line ask place s

  told-number : (n : ℕ) → Told (stated.Number n)
  unfolding last_text
  told-number n = refl

  told-wrong : Told stated.Wrong
  unfolding last_text
  told-wrong = refl

  told-longer : (n d : ℕ) → Told (with_digit_of n d)
  unfolding with_digit_of
  told-longer n d = go (leb (10 * n + d) 18446744073709551615)
    where
      go : (t : Bool) → Told (elim t [ true ↦ stated.Number (10 * n + d) | false ↦ stated.Wrong ])
      go true = told-number (10 * n + d)
      go false = told-wrong

  told-digit : (s : Stated) (d : ℕ) → Told (digit_after s d)
  told-digit stated.Nothing d = told-number d
  told-digit (stated.Number n) d = told-longer n d
  told-digit stated.Wrong d = told-wrong

  told-byte : (s : Stated) (b : ℕ) → Told (byte_after_of s b)
  unfolding byte_after_of
  told-byte s b = go (leb 48 b && leb b 57)
    where
      go : (t : Bool) → Told (elim t [ true ↦ digit_after s (b - 48) | false ↦ stated.Wrong ])
      go true = told-digit s (b - 48)
      go false = told-wrong

  told_line : (s : Stated) (b : ℕ) (bs : List ℕ) → Told (stated_by (byte_after_of s b) bs)
  unfolding stated_by
  told_line s b [] = told-byte s b
  told_line s b (x ∷ bs) = told_line (byte_after_of s b) x bs

  last_line : (l : List ℕ) → last_text ask place (stated_by stated.Nothing l) ≡ answers_to ask place (last_line_of l)
  unfolding stated_by answers_to last_text
  last_line [] = refl
  last_line (b ∷ bs) = told_line stated.Nothing b bs ∙ sym (append-nil (answer_line ask place (stated_by (byte_after_of stated.Nothing b) bs)))

-- ---- line by line

module _ (ask : ℕ → Answer Asked) where
  -- the answers to the lines that end in a piece, and to what stands after them
  abbrev whole_text : ℕ → Stated → List ℕ → List ℕ
  whole_text place line bs = piece_text ask place line bs ++ last_text ask (place_after place bs) (line_after line bs)

  whole-end : (place : ℕ) (line : Stated) (b : ℕ) (bs : List ℕ) → eqb b 10 ≡ true
      → whole_text place line (b ∷ bs) ≡ answer_line ask place line ++ whole_text (place + 1) stated.Nothing bs
  whole-end place line b bs e =
      (λ i. text-end b bs e ask place line i ++ last_text ask (place_end b bs e place i) (line-end b bs e line i))
      ∙ append_assoc (answer_line ask place line) (piece_text ask (place + 1) stated.Nothing bs) (last_text ask (place_after (place + 1) bs) (line_after stated.Nothing bs))

  whole-other : (place : ℕ) (line : Stated) (b : ℕ) (bs : List ℕ) → eqb b 10 ≡ false → whole_text place line (b ∷ bs) ≡ whole_text place (byte_after_of line b) bs
  whole-other place line b bs e i = text-other b bs e ask place line i ++ last_text ask (place_other b bs e place i) (line_other b bs e line i)

  lines_end : (place : ℕ) (l : List ℕ) (b : ℕ) (bs : List ℕ) → eqb b 10 ≡ true
      → answers_to ask place (lines_from l (b ∷ bs)) ≡ answer_line ask place (stated_by stated.Nothing l) ++ answers_to ask (place + 1) (lines_from [] bs)
  unfolding lines_from answers_to
  lines_end place l b bs e = rw (e, lines_from) refl

  lines_other : (l : List ℕ) (b : ℕ) (bs : List ℕ) → eqb b 10 ≡ false → lines_from l (b ∷ bs) ≡ lines_from (l ++ (b ∷ [])) bs
  unfolding lines_from
  lines_other l b bs e = rw (e, lines_from) refl

  by_lines : (place : ℕ) (l bs : List ℕ) → whole_text place (stated_by stated.Nothing l) bs ≡ answers_to ask place (lines_from l bs)
  unfolding piece_text place_after line_after lines_from stated_by
  by_lines place l [] = last_line ask place l
  by_lines place l (b ∷ bs) =
      ⊎_elim
      (λ (e : eqb b 10 ≡ true).
      whole-end place (stated_by stated.Nothing l) b bs e
      ∙ ap (λ (t : List ℕ). answer_line ask place (stated_by stated.Nothing l) ++ t) (by_lines (place + 1) [] bs)
      ∙ sym (lines_end place l b bs e))
      (λ (e : eqb b 10 ≡ false).
      whole-other place (stated_by stated.Nothing l) b bs e
      ∙ ap (λ (s : Stated). whole_text place s bs) (sym (stated-snoc stated.Nothing l b))
      ∙ by_lines place (l ++ (b ∷ [])) bs
      ∙ sym (ap (answers_to ask place) (lines_other l b bs e)))
      (bool_cases (eqb b 10))

  -- ---- piece by piece

  whole-more : (place : ℕ) (line : Stated) (xs ys : List ℕ)
      → whole_text place line (xs ++ ys) ≡ piece_text ask place line xs ++ whole_text (place_after place xs) (line_after line xs) ys
  whole-more place line xs ys =
      (λ i. text-more ask place line xs ys i ++ last_text ask (place-more place xs ys i) (line-more line xs ys i))
      ∙ append_assoc (piece_text ask place line xs) (piece_text ask (place_after place xs) (line_after line xs) ys)
      (last_text ask (place_after (place_after place xs) ys) (line_after (line_after line xs) ys))

  by-pieces : (place : ℕ) (line : Stated) (ps : List (List ℕ)) → pieces_text ask place line ps ≡ whole_text place line (flatten ps)
  unfolding pieces_text flatten piece_text place_after line_after
  by-pieces place line [] = refl
  by-pieces place line (p ∷ ps) =
      ap (λ (t : List ℕ). piece_text ask place line p ++ t) (by-pieces (place_after place p) (line_after line p) ps)
      ∙ sym (whole-more place line p (flatten ps))

  -- The answers to the pieces of a text, one after the other, are those to the whole text
  pub pieces-answered : (ps : List (List ℕ)) → pieces_text ask 1 stated.Nothing ps ≡ answers_text ask (flatten ps)
  unfolding answers_text stated_by
  pieces-answered ps = by-pieces 1 stated.Nothing ps ∙ by_lines 1 [] (flatten ps)
