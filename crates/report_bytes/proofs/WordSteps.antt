-- Words of 8 bytes each, written into a report or compared with it one after the other: one word more as the loops count, and the end.
use Rattle.model.proofs.Prelude.{ℕ, ◌≤◌, ◌<◌, ◌+◌, ◌-◌, ◌*◌, ◌≡◌, ◌∙◌, ap, refl, sym, ap₂, true, Bool, false, ◌&&◌, not, List, [], ◌++◌, length, get_or}
use Rattle.model.proofs.Prelude.{drop, take, length-drop, drop_of_length-le, sets, length-take-le, drop-drop, drop-cons, add-one, arith, rules}
use Rattle.model.proofs.Prelude.{not-true, not-false}
use lib.Seq.{take-add}
use Rattle.model.specs.Base.{little_endian}
use Rattle.model.specs.Report.{same_bytes}
use Rattle.record_bytes.proofs.ByteLaws.{sets_append, same-append}
use Rattle.report_bytes.specs.Layout.{word_bytes}

-- the bytes of the next word, then those of the others
next-bytes : (ws : List ℕ) (i : ℕ) → i < length ws → word_bytes (drop i ws) ≡ little_endian 8 (get_or ws i 0) ++ word_bytes (drop (i + 1) ws)
next-bytes ws i h = ap word_bytes (drop-cons ws i 0 h) ∙ rw (add-one i) refl

no_bytes : (ws : List ℕ) (i : ℕ) → length ws ≤ i → word_bytes (drop i ws) ≡ []
no_bytes ws i h = ap word_bytes (drop_of_length-le ws {i = i} h)

-- Writing
pub put_next : (ws : List ℕ) (i : ℕ) → i < length ws → (b b' : List ℕ) (at : ℕ) → b' ≡ sets b (at + 8 * i) (little_endian 8 (get_or ws i 0))
    → (whole : List ℕ) → sets b (at + 8 * i) (word_bytes (drop i ws)) ≡ whole → sets b' (at + 8 * (i + 1)) (word_bytes (drop (i + 1) ws)) ≡ whole
put_next ws i h b b' at p whole w =
    let word : List ℕ = little_endian 8 (get_or ws i 0) in
    let rest : List ℕ = word_bytes (drop (i + 1) ws) in
    let next : at + 8 * (i + 1) ≡ at + 8 * i + 8 = omega arith in
    ap (λ (x : List ℕ). sets x (at + 8 * (i + 1)) rest) p
    ∙ sets_append word rest b (at + 8 * i) (at + 8 * (i + 1)) next
    ∙ sym (ap (λ (x : List ℕ). sets b (at + 8 * i) x) (next-bytes ws i h))
    ∙ w

pub put-start : (ws b : List ℕ) (at : ℕ) → sets b (at + 8 * 0) (word_bytes (drop 0 ws)) ≡ sets b at (word_bytes ws)
put-start ws b at = let e : at + 8 * 0 ≡ at = omega arith in ap (λ (k : ℕ). sets b k (word_bytes ws)) e

pub put-end : (ws b : List ℕ) (at i : ℕ) → length ws ≤ i → (whole : List ℕ) → sets b (at + 8 * i) (word_bytes (drop i ws)) ≡ whole → b ≡ whole
put-end ws b at i h whole w = sym (ap (λ (x : List ℕ). sets b (at + 8 * i) x) (no_bytes ws i h)) ∙ w

pub ruleset put-cases = (put-start, put_next, put-end, rules)

-- Comparing: a part, then the rest
front : (s : List ℕ) (at k m : ℕ) (xs ys : List ℕ) → length xs ≡ k → at + k ≤ length s
    → same_bytes (take (k + m) (drop at s)) (xs ++ ys) ≡ (same_bytes (take k (drop at s)) xs && same_bytes (take m (drop (at + k) s)) ys)
front s at k m xs ys l h =
    let n : length (take k (drop at s)) ≡ k = length-take-le k (drop at s) (simp length-drop (omega arith)) in
    ap (λ (z : List ℕ). same_bytes z (xs ++ ys)) (take-add k m (drop at s))
    ∙ same-append (take k (drop at s)) xs (take m (drop k (drop at s))) ys (n ∙ sym l)
    ∙ ap (λ (z : List ℕ). same_bytes (take k (drop at s)) xs && same_bytes (take m z) ys) (drop-drop k at s)

-- the words that are left, compared from here on
abbrev pub rest_same : List ℕ → ℕ → List ℕ → ℕ → Bool
rest_same report at ws i = same_bytes (take (8 * (length ws - i)) (drop (at + 8 * i) report)) (word_bytes (drop i ws))

pub same_start : (report : List ℕ) (at : ℕ) (ws : List ℕ) → rest_same report at ws 0 ≡ same_bytes (take (8 * length ws) (drop at report)) (word_bytes ws)
same_start report at ws =
    let all : 8 * (length ws - 0) ≡ 8 * length ws = omega arith in
    let from : at + 8 * 0 ≡ at = omega arith in
    ap₂ (λ (n k : ℕ). same_bytes (take n (drop k report)) (word_bytes ws)) all from

module _ (report : List ℕ) (at : ℕ) (ws : List ℕ) (i : ℕ) (h : i < length ws) (fits : at + 8 * length ws ≤ length report) (whole : Bool)
    (w : rest_same report at ws i ≡ whole) where
  abbrev here : Bool
  here = same_bytes (take 8 (drop (at + 8 * i) report)) (little_endian 8 (get_or ws i 0))

  first : whole ≡ (here && rest_same report at ws (i + 1))
  first =
      let word : List ℕ = little_endian 8 (get_or ws i 0) in
      let rest : List ℕ = word_bytes (drop (i + 1) ws) in
      let m : ℕ = 8 * (length ws - (i + 1)) in
      let e : 8 * (length ws - i) ≡ 8 + m = omega arith in
      let next : at + 8 * i + 8 ≡ at + 8 * (i + 1) = omega arith in
      sym w
      ∙ ap₂ (λ (n : ℕ) (y : List ℕ). same_bytes (take n (drop (at + 8 * i) report)) y) e (next-bytes ws i h)
      ∙ front report (at + 8 * i) 8 m word rest refl (omega arith)
      ∙ ap (λ (k : ℕ). here && same_bytes (take m (drop k report)) rest) next

  pub word-other : (t : Bool) → t ≡ here → not t ≡ true → false ≡ whole
  word-other t e n = sym (first ∙ rw (sym e ∙ not-true t n) refl)

  pub word_same : (t : Bool) → t ≡ here → not t ≡ false → rest_same report at ws (i + 1) ≡ whole
  word_same t e n = sym (first ∙ rw (sym e ∙ not-false t n) refl)

pub words-end : (report : List ℕ) (at : ℕ) (ws : List ℕ) (i : ℕ) → length ws ≤ i → (whole : Bool) → rest_same report at ws i ≡ whole → true ≡ whole
words-end report at ws i h whole w =
    let none : 8 * (length ws - i) ≡ 0 = omega arith in
    sym (ap₂ (λ (n : ℕ) (y : List ℕ). same_bytes (take n (drop (at + 8 * i) report)) y) none (no_bytes ws i h)) ∙ w

pub ruleset same_cases = (same_start, word-other, word_same, words-end, rules)
