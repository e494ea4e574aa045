-- Words that are zero so far: one more of them, a row more of them, none left.
use Rattle.model.proofs.Prelude.{ℕ, ◌≤◌, ◌<◌, ◌+◌, ◌-◌, suc, zero, ◌≡◌, ◌∙◌, ap, refl, sym, ap₂, true, Bool, false, ◌&&◌, and-true, and_assoc, List}
use Rattle.model.proofs.Prelude.{[], ◌∷◌, ◌++◌, length, get_or, drop, take, drop-drop, drop-cons, eqb, add-one, arith, rules, ne_eqb, eq-eqb}
use lib.Bits.{bit_or, or_zero_l, or_add_and, and_le_r}
use lib.Seq.{take-add}
use Rattle.model.specs.Base.{all_of}
use Rattle.store_words.specs.WordAnswers.{zero_words_of, row_words}

zeros-next : (ws : List ℕ) (at n : ℕ) → 0 < n → at < length ws → zero_words_of ws at n ≡ (eqb (get_or ws at 0) 0 && zero_words_of ws (at + 1) (n - 1))
zeros-next ws at zero h l = absurd (omega arith)
zeros-next ws at (suc n) h l =
    let b : suc n - 1 ≡ n = omega arith in
    ap (λ (x : List ℕ). all_of (λ w. eqb w 0) (take (suc n) x)) (drop-cons ws at 0 l) ∙ rw (b, add-one at) refl

none_left : (ws : List ℕ) (at n : ℕ) → n ≤ 0 → zero_words_of ws at n ≡ true
none_left ws at zero h = refl
none_left ws at (suc n) h = absurd (omega arith)

-- no word at all, and the first one with those after it
pub zeros-none : (ws : List ℕ) (at n : ℕ) → n ≡ 0 → true ≡ zero_words_of ws at n
zeros-none ws at n h = sym (none_left ws at n (omega (arith, h)))

pub zeros-first : (ws : List ℕ) (at n : ℕ) → (n ≡ 0 → ⊥) → at + n ≤ length ws
    → (eqb (get_or ws at 0) 0 && zero_words_of ws (at + 1) (n - 1)) ≡ zero_words_of ws at n
zeros-first ws at n some inside = sym (zeros-next ws at n (omega arith) (omega arith))

-- two words are zero where their union of bits is
or_zero_lem : (a b : ℕ) → eqb (bit_or a b) 0 ≡ (eqb a 0 && eqb b 0)
or_zero_lem zero b = ap (λ (x : ℕ). eqb x 0) (or_zero_l b)
or_zero_lem (suc a) b =
    ne_eqb (bit_or (suc a) b) 0 (λ e. absurd (omega (arith, or_add_and (suc a) b, and_le_r (suc a) b, e)))
    ∙ sym (rw (ne_eqb (suc a) 0 (λ e. absurd (omega (arith, e)))) refl)

-- a row, and the words after it
both : (xs ys : List ℕ) → all_of (λ w. eqb w 0) (xs ++ ys) ≡ (all_of (λ w. eqb w 0) xs && all_of (λ w. eqb w 0) ys)
both [] ys = refl
both (x ∷ xs) ys =
    ap (λ (b : Bool). eqb x 0 && b) (both xs ys) ∙ sym (and_assoc (eqb x 0) (all_of (λ w. eqb w 0) xs) (all_of (λ w. eqb w 0) ys))

row : (ws : List ℕ) (at n : ℕ) → row_words ≤ n → zero_words_of ws at n ≡ (zero_words_of ws at row_words && zero_words_of ws (at + row_words) (n - row_words))
row ws at n h =
    let parts : n ≡ row_words + (n - row_words) = omega arith in
    let rest : drop row_words (drop at ws) ≡ drop (at + row_words) ws = drop-drop row_words at ws in
    ap (λ (m : ℕ). all_of (λ w. eqb w 0) (take m (drop at ws))) parts
    ∙ ap (all_of (λ w. eqb w 0)) (take-add row_words (n - row_words) (drop at ws))
    ∙ both (take row_words (drop at ws)) (take (n - row_words) (drop row_words (drop at ws)))
    ∙ ap (λ (l : List ℕ). zero_words_of ws at row_words && all_of (λ w. eqb w 0) (take (n - row_words) l)) rest

-- the words before `place`, whose union of bits is `seen`, and those from `place` on, `left` of them, decide
module _ (ws : List ℕ) (at n place left seen : ℕ) (so_far : (eqb seen 0 && zero_words_of ws place left) ≡ zero_words_of ws at n) where
  pub zeros-end : left ≤ 0 → eqb seen 0 ≡ zero_words_of ws at n
  zeros-end h = sym (and-true (eqb seen 0)) ∙ ap (λ (b : Bool). eqb seen 0 && b) (sym (none_left ws place left h)) ∙ so_far

  -- more bits, where those of the words up to another place are zero as they are
  more : (bits next rest : ℕ) → zero_words_of ws place left ≡ (eqb bits 0 && zero_words_of ws next rest)
      → (eqb (bit_or seen bits) 0 && zero_words_of ws next rest) ≡ zero_words_of ws at n
  more bits next rest e =
      ap (λ (b : Bool). b && zero_words_of ws next rest) (or_zero_lem seen bits)
      ∙ and_assoc (eqb seen 0) (eqb bits 0) (zero_words_of ws next rest)
      ∙ ap (λ (b : Bool). eqb seen 0 && b) (sym e)
      ∙ so_far

  pub zeros-more : place + left ≡ at + n → at + n ≤ length ws → 0 < left
      → (eqb (bit_or seen (get_or ws place 0)) 0 && zero_words_of ws (place + 1) (left - 1)) ≡ zero_words_of ws at n
  zeros-more ends inside some = more (get_or ws place 0) (place + 1) (left - 1) (zeros-next ws place left some (omega arith))

  pub rows_more : (bits : ℕ) → eqb bits 0 ≡ zero_words_of ws place row_words → row_words ≤ left
      → (eqb (bit_or seen bits) 0 && zero_words_of ws (place + row_words) (left - row_words)) ≡ zero_words_of ws at n
  rows_more bits e h =
      more bits (place + row_words) (left - row_words)
      (row ws place left h ∙ ap (λ (b : Bool). b && zero_words_of ws (place + row_words) (left - row_words)) (sym e))

  pub rows_end : seen ≡ 0 → (b : Bool) → b ≡ zero_words_of ws place left → b ≡ zero_words_of ws at n
  rows_end z b e = e ∙ ap (λ (x : Bool). x && zero_words_of ws place left) (sym (eq-eqb seen 0 z)) ∙ so_far

  pub rows-not : (seen ≡ 0 → ⊥) → false ≡ zero_words_of ws at n
  rows-not z = ap (λ (x : Bool). x && zero_words_of ws place left) (sym (ne_eqb seen 0 z)) ∙ so_far

-- the words of a row, the first `i` of them read
pub row_more : (ws : List ℕ) (at i seen : ℕ) → (eqb seen 0 && zero_words_of ws (at + i) (row_words - i)) ≡ zero_words_of ws at row_words
    → at + row_words ≤ length ws → i < row_words
    → (eqb (bit_or seen (get_or ws (at + i) 0)) 0 && zero_words_of ws (at + (i + 1)) (row_words - (i + 1))) ≡ zero_words_of ws at row_words
row_more ws at i seen so_far inside some =
    let next : at + (i + 1) ≡ at + i + 1 = omega arith in
    let rest : row_words - (i + 1) ≡ row_words - i - 1 = omega arith in
    ap₂ (λ (p m : ℕ). eqb (bit_or seen (get_or ws (at + i) 0)) 0 && zero_words_of ws p m) next rest
    ∙ zeros-more ws at row_words (at + i) (row_words - i) seen so_far (omega arith) inside (omega arith)

pub row-end : (ws : List ℕ) (at i seen : ℕ) → (eqb seen 0 && zero_words_of ws (at + i) (row_words - i)) ≡ zero_words_of ws at row_words
    → row_words ≤ i → eqb seen 0 ≡ zero_words_of ws at row_words
row-end ws at i seen so_far h = zeros-end ws at row_words (at + i) (row_words - i) seen so_far (omega arith)

pub row-start : (ws : List ℕ) (at : ℕ) → (eqb 0 0 && zero_words_of ws (at + 0) (row_words - 0)) ≡ zero_words_of ws at row_words
row-start ws at = let here : at + 0 ≡ at = omega arith in ap (λ (p : ℕ). zero_words_of ws p row_words) here

pub ruleset row-cases = (row-start, row_more, row-end, rules)
