-- Names as keys: equal keys are equal names, and the place of a key is that of its name.
use Rattle.model.proofs.Prelude.{ℕ, ◌≤◌, ◌<◌, ◌+◌, ◌-◌, ◌*◌, suc, zero, ◌≡◌, ◌∙◌, ap, refl, sym, ap₂, ⊎_elim, true, Bool, false, ◌&&◌, ◌||◌, List, []}
use Rattle.model.proofs.Prelude.{◌∷◌, ◌++◌, append_assoc, length, get_or, drop, take, length-append, set, take-append-drop, drop-drop, get_or-drop}
use Rattle.model.proofs.Prelude.{set_at, leb, T, eqb, leb→le, eqb→eq, sub-one, arith, ne_eqb, eq-eqb}
use lib.Seq.{append_snoc}
use Rattle.model.specs.Base.{all_of, from_little_endian}
use Rattle.model.specs.Read.{within}
use Rattle.model.specs.Report.{same_bytes}
use Rattle.model.proofs.BoolLaws.{T→true, not→false, true→T, or_cases, and_left, and_right, bool_cases}
use Rattle.model.proofs.AnswerLaws.{same_refl, same→}
use Rattle.bench_lines.specs.Text.{name_byte, place}
use Rattle.bench_lines.specs.LineReading.{Named}
use Rattle.bench_lines.specs.Keys.{key_low, key_high, key_words, key_place, Holds, AllNamed}
use Rattle.bench_lines.proofs.BytePartLaws.{both_left, both_right}

-- ---- equal keys are equal names

in_range : (lo hi b : ℕ) → T (within lo hi b) → (lo ≤ b) × (b ≤ hi)
in_range lo hi b t = (leb→le lo b (and_left (leb lo b) (leb b hi) t), leb→le b hi (and_right (leb lo b) (leb b hi) t))

name-byte : (b : ℕ) → name_byte b ≡ true → (0 < b) × (b < 256)
unfolding name_byte
name-byte b e =
    ⊎_elim
    (λ u.
    ⊎_elim
    (λ v.
    ⊎_elim (λ d. let r = in_range 0x30 0x39 b d in (omega arith, omega arith)) (λ d. let r = in_range 0x41 0x5A b d in (omega arith, omega arith))
    (or_cases (within 0x30 0x39 b) (within 0x41 0x5A b) v))
    (λ v. let q = eqb→eq b 0x5F v in (omega arith, omega arith))
    (or_cases (within 0x30 0x39 b || within 0x41 0x5A b) (eqb b 0x5F) u))
    (λ u. let r = in_range 0x61 0x7A b u in (omega arith, omega arith))
    (or_cases (within 0x30 0x39 b || within 0x41 0x5A b || eqb b 0x5F) (within 0x61 0x7A b) (true→T _ e))

pub all_head : (x : ℕ) (xs : List ℕ) → all_of name_byte (x ∷ xs) ≡ true → (0 < x) × (x < 256)
all_head x xs e = name-byte x (both_left (name_byte x) (all_of name_byte xs) e)

value_same : (v w : List ℕ) → all_of name_byte v ≡ true → all_of name_byte w ≡ true
    → from_little_endian v ≡ from_little_endian w → v ≡ w
value_same [] [] a b e = refl
value_same [] (y ∷ ys) a b e = let r = all_head y ys b in absurd (omega arith)
value_same (x ∷ xs) [] a b e = let r = all_head x xs a in absurd (omega arith)
value_same (x ∷ xs) (y ∷ ys) a b e =
    let r = all_head x xs a in
    let q = all_head y ys b in
    let z : x ≡ y = omega arith in
    let t : from_little_endian xs ≡ from_little_endian ys = omega arith in
    ap₂ (λ (n : ℕ) (l : List ℕ). n ∷ l) z (value_same xs ys (both_right (name_byte x) (all_of name_byte xs) a) (both_right (name_byte y) (all_of name_byte ys) b) t)

pub all_take : (n : ℕ) (w : List ℕ) → all_of name_byte w ≡ true → all_of name_byte (take n w) ≡ true
all_take zero w a = refl
all_take (suc n) [] a = refl
all_take (suc n) (x ∷ xs) a =
    rw (both_left (name_byte x) (all_of name_byte xs) a) (all_take n xs (both_right (name_byte x) (all_of name_byte xs) a))

pub all_drop : (n : ℕ) (w : List ℕ) → all_of name_byte w ≡ true → all_of name_byte (drop n w) ≡ true
all_drop zero w a = a
all_drop (suc n) [] a = refl
all_drop (suc n) (x ∷ xs) a = all_drop n xs (both_right (name_byte x) (all_of name_byte xs) a)

key_same : (v w : List ℕ) → all_of name_byte v ≡ true → all_of name_byte w ≡ true → key_low v ≡ key_low w
    → key_high v ≡ key_high w → v ≡ w
key_same v w a b e f =
    sym (take-append-drop 8 v)
    ∙ ap₂ (λ (x y : List ℕ). x ++ y) (value_same (take 8 v) (take 8 w) (all_take 8 v a) (all_take 8 w b) e) (value_same (drop 8 v) (drop 8 w) (all_drop 8 v a) (all_drop 8 w b) f)
    ∙ take-append-drop 8 w

abbrev keys_meet : List ℕ → List ℕ → Bool
keys_meet x y = eqb (key_low y) (key_low x) && eqb (key_high y) (key_high x)

key_test : (x y : List ℕ) → Named x → Named y → keys_meet x y ≡ same_bytes x y
key_test x y nx ny = go (same_bytes x y) refl
  where
    go : (b : Bool) → same_bytes x y ≡ b → keys_meet x y ≡ b
    go true e =
        let q : x ≡ y = same→ x y (true→T (same_bytes x y) e) in
        let a : key_low y ≡ key_low x = ap (λ (w : List ℕ). key_low w) (sym q) in
        let b : key_high y ≡ key_high x = ap (λ (w : List ℕ). key_high w) (sym q) in
        rw (eq-eqb (key_low y) (key_low x) a, eq-eqb (key_high y) (key_high x) b) refl
    go false e = not→false (keys_meet x y) (λ t.
        let q : y ≡ x = key_same y x ny.bytes nx.bytes (eqb→eq (key_low y) (key_low x) (and_left (eqb (key_low y) (key_low x)) (eqb (key_high y) (key_high x)) t))
        (eqb→eq (key_high y) (key_high x) (and_right (eqb (key_low y) (key_low x)) (eqb (key_high y) (key_high x)) t)) in
        mathlib.Core.Bool.true≢false (sym (T→true (same_bytes x x) (same_refl x)) ∙ ap (λ (w : List ℕ). same_bytes x w) (sym q) ∙ e))

-- ---- places

pub place_here : (x y : List ℕ) (ys : List (List ℕ)) → same_bytes x y ≡ true → place x (y ∷ ys) ≡ 0
unfolding place
place_here x y ys e = rw (e, place) refl

pub place-later : (x y : List ℕ) (ys : List (List ℕ)) → same_bytes x y ≡ false → place x (y ∷ ys) ≡ suc (place x ys)
unfolding place
place-later x y ys e = rw (e, place) refl

module _ (low high n at : ℕ) (ws : List ℕ) (b : Bool) where
  key_step : 0 < n → b ≡ eqb (get_or ws at 0) low && eqb (get_or ws (at + 1) 0) high → b ≡ true
      → key_place low high n at ws ≡ 0
  unfolding key_place
  key_step h e t = go n h
    where
      go : (n : ℕ) → 0 < n → key_place low high n at ws ≡ 0
      go zero h = absurd (omega arith)
      go (suc n) h = rw (sym e ∙ t, key_place) refl

  key_next : 0 < n → b ≡ eqb (get_or ws at 0) low && eqb (get_or ws (at + 1) 0) high → b ≡ false
      → key_place low high n at ws ≡ suc (key_place low high (n - 1) (at + 2) ws)
  unfolding key_place
  key_next h e t = go n h
    where
      go : (n : ℕ) → 0 < n → key_place low high n at ws ≡ suc (key_place low high (n - 1) (at + 2) ws)
      go zero h = absurd (omega arith)
      go (suc n) h = rw (sub-one (suc n)) (rw (sym e ∙ t, key_place) refl)

pub key_top : (low high n at : ℕ) (ws : List ℕ) → key_place low high n at ws ≤ n
unfolding key_place
key_top low high zero at ws = omega arith
key_top low high (suc n) at ws =
    go (eqb (get_or ws at 0) low && eqb (get_or ws (at + 1) 0) high) (key_top low high n (at + 2) ws)
  where
    go : (b : Bool) → key_place low high n (at + 2) ws ≤ n
        → elim b [ true ↦ 0 | false ↦ suc (key_place low high n (at + 2) ws) ] ≤ suc n
    go true h = omega arith
    go false h = omega arith

-- the loop of the search
pub find_start : (words : List ℕ) (n low high : ℕ)
    → 0 + key_place low high (n - 0) (2 * 0) words ≡ key_place low high n 0 words
find_start words n low high = let z : n - 0 ≡ n = omega arith in rw z (omega arith)

module _ (words : List ℕ) (n low high i : ℕ) where
  pub find_again : (b : Bool) → b ≡ eqb (get_or words (2 * i) 0) low && eqb (get_or words (2 * i + 1) 0) high → b ≡ false
      → i < n → i + key_place low high (n - i) (2 * i) words ≡ key_place low high n 0 words
      → i + 1 + key_place low high (n - (i + 1)) (2 * (i + 1)) words ≡ key_place low high n 0 words
  find_again b e t h w =
      let m : n - i - 1 ≡ n - (i + 1) = omega arith in
      let j : 2 * i + 2 ≡ 2 * (i + 1) = omega arith in
      let z : key_place low high (n - i) (2 * i) words ≡ suc (key_place low high (n - (i + 1)) (2 * (i + 1)) words) =
      key_next low high (n - i) (2 * i) words b (omega arith) e t ∙ ap₂ (λ (k l : ℕ). suc (key_place low high k l words)) m j in
      omega arith

  pub find_here : (b : Bool) → b ≡ eqb (get_or words (2 * i) 0) low && eqb (get_or words (2 * i + 1) 0) high → b ≡ true
      → i < n
      → i + key_place low high (n - i) (2 * i) words ≡ key_place low high n 0 words → i ≡ key_place low high n 0 words
  find_here b e t h w = omega (arith, key_step low high (n - i) (2 * i) words b (omega arith) e t)

  pub find_none : n ≤ i → i ≤ n → i + key_place low high (n - i) (2 * i) words ≡ key_place low high n 0 words
      → n ≡ key_place low high n 0 words
  unfolding key_place
  find_none h k w =
      let m : n - i ≡ 0 = omega arith in
      let z : key_place low high (n - i) (2 * i) words ≡ 0 = ap (λ (j : ℕ). key_place low high j (2 * i) words) m in
      omega arith

pub head_at : (ws : List ℕ) (at : ℕ) {a : ℕ} {t : List ℕ} → drop at ws ≡ a ∷ t → get_or ws at 0 ≡ a
head_at ws at e =
    let z : at + 0 ≡ at = omega arith in
    ap (λ (k : ℕ). get_or ws k 0) (sym z) ∙ sym (get_or-drop at ws 0 0) ∙ ap (λ (l : List ℕ). get_or l 0 0) e

pub second_at : (ws : List ℕ) (at : ℕ) {a b : ℕ} {t : List ℕ} → drop at ws ≡ a ∷ (b ∷ t) → get_or ws (at + 1) 0 ≡ b
second_at ws at e = sym (get_or-drop at ws 1 0) ∙ ap (λ (l : List ℕ). get_or l 1 0) e

-- the place of a key among the keys of names is the place of its name
key_place_lem : (x : List ℕ) (xs : List (List ℕ)) (ws : List ℕ) (at : ℕ) (rest : List ℕ) → drop at ws ≡ key_words xs ++ rest
    → AllNamed xs → Named x → key_place (key_low x) (key_high x) (length xs) at ws ≡ place x xs
unfolding key_place place key_words AllNamed
key_place_lem x [] ws at rest e a nx = refl
key_place_lem x (y ∷ ys) ws at rest e a nx =
    let ih : key_place (key_low x) (key_high x) (length ys) (at + 2) ws ≡ place x ys =
    key_place_lem x ys ws (at + 2) rest (sym (drop-drop 2 at ws) ∙ ap (drop 2) e) a.1 nx in
    let t : keys_meet x y ≡ eqb (get_or ws at 0) (key_low x) && eqb (get_or ws (at + 1) 0) (key_high x) =
    rw (head_at ws at e, second_at ws at e) refl in
    ⊎_elim
    (λ q.
    key_step (key_low x) (key_high x) (suc (length ys)) at ws (keys_meet x y) (omega arith) t (key_test x y nx a.0 ∙ q)
    ∙ sym (place_here x y ys q))
    (λ q.
    key_next (key_low x) (key_high x) (suc (length ys)) at ws (keys_meet x y) (omega arith) t (key_test x y nx a.0 ∙ q)
    ∙ ap (λ (k : ℕ). suc (key_place (key_low x) (key_high x) k (at + 2) ws)) (sub-one (suc (length ys))) ∙ ap suc ih
    ∙ sym (place-later x y ys q))
    (bool_cases (same_bytes x y))

pub place_of : {x : List ℕ} {xs : List (List ℕ)} {words : List ℕ} {n k : ℕ} → Holds words xs → AllNamed xs
    → Named x → n ≡ length xs → k ≡ key_place (key_low x) (key_high x) n 0 words → k ≡ place x xs
place_of {x} {xs} {words} h a nx e q =
    q ∙ ap (λ (m : ℕ). key_place (key_low x) (key_high x) m 0 words) e ∙ key_place_lem x xs words 0 h.rest h.is a nx

-- ---- one more name

pub length-keys : (xs : List (List ℕ)) → length (key_words xs) ≡ 2 * length xs
unfolding key_words
length-keys [] = refl
length-keys (x ∷ xs) = omega (arith, length-keys xs)

keys_snoc : (xs : List (List ℕ)) (x : List ℕ) → key_words (xs ++ (x ∷ [])) ≡ key_words xs ++ (key_low x ∷ key_high x ∷ [])
unfolding key_words
keys_snoc [] x = refl
keys_snoc (y ∷ ys) x = ap (λ (l : List ℕ). key_low y ∷ key_high y ∷ l) (keys_snoc ys x)

pub put_holds : (words : List ℕ) (xs : List (List ℕ)) (n : ℕ) (x : List ℕ) → Holds words xs → n ≡ length xs
    → 2 * n + 1 < length words → Holds (set (set words (2 * n) (key_low x)) (2 * n + 1) (key_high x)) (xs ++ (x ∷ []))
put_holds words xs n x h e l =
    go h.rest h.is (omega (arith, ap length h.is, length-append (key_words xs) h.rest, length-keys xs))
  where
    go : (rest : List ℕ) → words ≡ key_words xs ++ rest → 2 ≤ length rest
        → Holds (set (set words (2 * n) (key_low x)) (2 * n + 1) (key_high x)) (xs ++ (x ∷ []))
    go [] q m = absurd (omega arith)
    go (a ∷ []) q m = absurd (omega arith)
    go (a ∷ b ∷ rest) q m =
        let k : length (key_words xs) ≡ 2 * n = omega (arith, length-keys xs) in
        let k' : length (key_words xs ++ (key_low x ∷ [])) ≡ 2 * n + 1 =
        omega (arith, length-append (key_words xs) (key_low x ∷ []), k) in
        let s : set words (2 * n) (key_low x) ≡ key_words xs ++ key_low x ∷ (b ∷ rest) =
        ap (λ (l : List ℕ). set l (2 * n) (key_low x)) q ∙ set_at (key_words xs) a (b ∷ rest) (key_low x) (2 * n) k in
        let t : set (set words (2 * n) (key_low x)) (2 * n + 1) (key_high x) ≡ (key_words xs ++ (key_low x ∷ [])) ++ key_high x ∷ rest =
        ap (λ (l : List ℕ). set l (2 * n + 1) (key_high x)) (s ∙ sym (append_snoc (key_words xs) (key_low x) (b ∷ rest)))
        ∙ set_at (key_words xs ++ (key_low x ∷ [])) b rest (key_high x) (2 * n + 1) k' in
        record {
          rest = rest;
          is = t ∙ append_snoc (key_words xs) (key_low x) (key_high x ∷ rest)
              ∙ sym (append_assoc (key_words xs) (key_low x ∷ key_high x ∷ []) rest)
              ∙ ap (λ (l : List ℕ). l ++ rest) (sym (keys_snoc xs x));
        }

pub named-snoc : (xs : List (List ℕ)) (x : List ℕ) → AllNamed xs → Named x → AllNamed (xs ++ (x ∷ []))
unfolding AllNamed
named-snoc [] x a n = (n, tt)
named-snoc (y ∷ ys) x a n = (a.0, named-snoc ys x a.1 n)

-- the two words of a key are tested one after the other
pub meet_no : (a low b high : ℕ) → (a ≡ low → ⊥) → false ≡ eqb a low && eqb b high
meet_no a low b high d = rw (ne_eqb a low d) refl

pub meet_high : (a low b high : ℕ) → a ≡ low → eqb b high ≡ eqb a low && eqb b high
meet_high a low b high e = rw (eq-eqb a low e) refl
