-- Lines: what `with_text` has done so far, from its start to its end; two texts one after the other; a text put into a part of a buffer.
use Rattle.model.proofs.Prelude.{ℕ, ◌≤◌, ◌<◌, ◌+◌, suc, zero, min, ◌≡◌, ◌∙◌, ap, refl, sym, ⊎_elim, List, [], ◌∷◌, ◌++◌, append_assoc, append-nil}
use Rattle.model.proofs.Prelude.{length, get_or, drop, take, set, drop_of_length-le, sets, length-take-le, drop-cons, take_all, take_at, min-eq_left}
use Rattle.model.proofs.Prelude.{min-eq_right, add-one, arith}
use Rattle.model.proofs.Prelude.{drop-drop, sets-eq}
use borrow.Rule.Slice.PartMut.{put_mid}
use lib.Seq.{take-suc-set, append_snoc}
use Rattle.model.proofs.BoolLaws.{le_or_lt}
use Rattle.text_line.specs.Lines.{on_line}

-- Bytes `b` of a line that ends at `at`, and the rest of a text from its byte `i` on
module _ (b text : List ℕ) (long : length b ≡ 128) where
  -- the line as `with_text` finds it
  pub line-start : (l at : ℕ) → at ≡ min l 128 → on_line (take at b) (drop 0 text) ≡ on_line (take l b) text
  line-start l at e =
      let same : take at b ≡ take l b =
      ⊎_elim (λ h. ap (λ (k : ℕ). take k b) (e ∙ min-eq_left h))
      (λ h. take_all at b (omega (arith, e ∙ min-eq_right {n = 128} {m = l} (omega arith))) ∙ sym (take_all l b (omega arith))) (le_or_lt l 128) in
      ap (λ (t : List ℕ). on_line t text) same

  -- one byte more
  pub line_step : (at i : ℕ) → at < 128 → i < length text
      → on_line (take (at + 1) (set b at (get_or text i 0))) (drop (i + 1) text) ≡ on_line (take at b) (drop i text)
  unfolding on_line
  line_step at i h l =
      let x : ℕ = get_or text i 0 in
      let front : take (at + 1) (set b at x) ≡ take at b ++ (x ∷ []) = rw (add-one at) (take-suc-set b at x (omega arith)) in
      let rest : x ∷ drop (i + 1) text ≡ drop i text = rw (add-one i) (sym (drop-cons text i 0 l)) in
      ap (λ (t : List ℕ). take 128 (t ++ drop (i + 1) text)) front
      ∙ ap (λ (t : List ℕ). take 128 t) (append_snoc (take at b) x (drop (i + 1) text))
      ∙ ap (λ (t : List ℕ). take 128 (take at b ++ t)) rest

  -- a full line
  pub line-full : (at i : ℕ) → at ≤ 128 → 128 ≤ at → take at b ≡ on_line (take at b) (drop i text)
  unfolding on_line
  line-full at i h l = sym (take_at (take at b) (drop i text) 128 (length-take-le at b (omega arith) ∙ omega arith))

  -- the end of the text
  pub line-end : (at i : ℕ) → at ≤ 128 → length text ≤ i → take at b ≡ on_line (take at b) (drop i text)
  unfolding on_line
  line-end at i h l =
      let none : drop i text ≡ [] = drop_of_length-le text {i = i} l in
      let short : length (take at b) ≤ 128 = omega (arith, length-take-le at b (omega arith)) in
      sym (ap (λ (t : List ℕ). take 128 (take at b ++ t)) none ∙ ap (λ (t : List ℕ). take 128 t) (append-nil (take at b)) ∙ take_all 128 (take at b) short)

take-front : (n : ℕ) (xs ys : List ℕ) → take n (take n xs ++ ys) ≡ take n (xs ++ ys)
take-front zero xs ys = refl
take-front (suc n) [] ys = refl
take-front (suc n) (x ∷ xs) ys = ap (λ (l : List ℕ). x ∷ l) (take-front n xs ys)

-- two texts one after the other
pub on_line-twice : (t a b : List ℕ) → on_line (on_line t a) b ≡ on_line t (a ++ b)
unfolding on_line
on_line-twice t a b = take-front 128 (t ++ a) b ∙ ap (λ (l : List ℕ). take 128 l) (append_assoc t a b)

-- a line with one part more at its end
pub then-part : (t x y a b : List ℕ) → x ≡ on_line t a → y ≡ on_line x b → y ≡ on_line t (a ++ b)
then-part t x y a b e f = f ∙ ap (λ (z : List ℕ). on_line z b) e ∙ on_line-twice t a b

-- the first part of a line
pub first_part : (x y a : List ℕ) → x ≡ [] → y ≡ on_line x a → y ≡ on_line [] a
first_part x y a e f = f ∙ ap (λ (z : List ℕ). on_line z a) e

-- the same part in other words
pub as_part : (t y a b : List ℕ) → y ≡ on_line t a → a ≡ b → y ≡ on_line t b
as_part t y a b e f = e ∙ ap (λ (z : List ℕ). on_line t z) f

-- a text alone on a line
pub on_line-alone : (a : List ℕ) → length a ≤ 128 → on_line [] a ≡ a
unfolding on_line
on_line-alone a h = take_all 128 a h

-- a list with a part of it replaced, from a place on
pub put-part : (to : List ℕ) (at k : ℕ) (part items : List ℕ) → part ≡ items → k ≡ length items → at + length items ≤ length to
    → put_mid at k to part ≡ sets to at items
put-part to at k part items p e h =
    let d : drop k (drop at to) ≡ drop (at + length items) to = drop-drop k at to ∙ ap (λ (n : ℕ). drop (at + n) to) e in
    ap (put_mid at k to) p ∙ sym (append_assoc (take at to) items (drop k (drop at to))) ∙ ap (λ (rest : List ℕ). take at to ++ items ++ rest) d
    ∙ sym (sets-eq items to at h)
