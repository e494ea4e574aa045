-- A table that holds the keys of names and zeros after them has these names: a key's bytes are its name.
use Rattle.model.proofs.Prelude.{ℕ, ◌≤◌, ◌<◌, ◌+◌, ◌*◌, suc, zero, ◌/◌, ◌%◌, ◌≡◌, ◌∙◌, ap, refl, sym, ap₂, ⊎_elim, true, List, [], ◌∷◌, ◌++◌, length}
use Rattle.model.proofs.Prelude.{get_or, drop, take, length-append, length-drop, take-append-drop, length-take-le, arith, ne_eqb, lt-ltb}
use Rattle.model.proofs.Prelude.{le-ltb}
use Rattle.model.specs.Base.{all_of, from_little_endian}
use Rattle.model.proofs.BoolLaws.{le_or_lt}
use Rattle.model.proofs.ListLaws.{zeros-at}
use Rattle.bench_lines.specs.Text.{name_byte}
use Rattle.bench_lines.specs.LineReading.{Named}
use Rattle.bench_lines.specs.Keys.{key_low, key_high, key_words, AllNamed}
use Rattle.bench_lines.proofs.BytePartLaws.{both_right}
use Rattle.bench_lines.proofs.KeyLaws.{all_head, all_take, all_drop, length-keys}
use Rattle.text_buffer.specs.Written.{Written, in_room}
use Rattle.text_buffer.proofs.WrittenLaws.{no_room, room-there, written_as, none_written, then-written}
use Rattle.bench_net_names.specs.Table.{no_names_of, word_bytes, pair_bytes, name_in_of}

-- ---- a key's bytes

bytes_back : (k : ℕ) (w : List ℕ) → length w ≤ k → all_of name_byte w ≡ true → word_bytes k (from_little_endian w) ≡ w
unfolding word_bytes
bytes_back zero [] h a = refl
bytes_back zero (x ∷ xs) h a = absurd (omega arith)
bytes_back (suc k) [] h a = refl
bytes_back (suc k) (x ∷ xs) h a =
    let r = all_head x xs a in
    let v = x + 256 * from_little_endian xs in
    let low : v % 256 ≡ x = omega arith in
    let high : v / 256 ≡ from_little_endian xs = omega arith in
    let ih = bytes_back k xs (omega arith) (both_right (name_byte x) (all_of name_byte xs) a) in
    rw (ne_eqb v 0 (λ e. omega arith), word_bytes)
    (ap₂ (λ (n : ℕ) (l : List ℕ). n ∷ l) low (ap (word_bytes k) high ∙ ih))

key_bytes : (x : List ℕ) → Named x → pair_bytes (key_low x) (key_high x) ≡ x
key_bytes x n =
    let a : length (take 8 x) ≤ 8 =
    ⊎_elim (λ h. omega (arith, length-take-le 8 x h)) (λ h. omega (arith, ap (length {A = ℕ}) (lib.Seq.take_all 8 x (omega arith)))) (le_or_lt 8 (length x)) in
    let b : length (drop 8 x) ≤ 8 = omega (arith, length-drop 8 x, n.short) in
    ap₂ (λ (u v : List ℕ). u ++ v) (bytes_back 8 (take 8 x) a (all_take 8 x n.bytes)) (bytes_back 8 (drop 8 x) b (all_drop 8 x n.bytes))
    ∙ take-append-drop 8 x

-- ---- the names in a table

pub words_append : (us vs : List (List ℕ)) → key_words (us ++ vs) ≡ key_words us ++ key_words vs
unfolding key_words
words_append [] vs = refl
words_append (u ∷ us) vs = ap (λ (l : List ℕ). key_low u ∷ key_high u ∷ l) (words_append us vs)

no_name : (xs : List (List ℕ)) (net : ℕ) → length xs ≤ net → get_or xs net [] ≡ []
no_name [] net h = refl
no_name (x ∷ xs) zero h = absurd (omega arith)
no_name (x ∷ xs) (suc net) h = no_name xs net (omega arith)

abbrev AllZero : List ℕ → Type 0
AllZero zs = (i : ℕ) → get_or zs i 0 ≡ 0

pair-at : (xs : List (List ℕ)) (zs : List ℕ) (net : ℕ) → AllNamed xs → AllZero zs
    → pair_bytes (get_or (key_words xs ++ zs) (2 * net) 0) (get_or (key_words xs ++ zs) (2 * net + 1) 0) ≡ get_or xs net []
unfolding key_words AllNamed word_bytes
pair-at [] zs net a z = rw (z (2 * net), z (2 * net + 1)) refl
pair-at (x ∷ xs) zs zero a z = key_bytes x a.0
pair-at (x ∷ xs) zs (suc net) a z =
    let e : 2 * suc net ≡ suc (suc (2 * net)) = omega arith in
    let f : 2 * suc net + 1 ≡ suc (suc (2 * net + 1)) = omega arith in
    ap₂ (λ (i j : ℕ). pair_bytes (get_or (key_words (x ∷ xs) ++ zs) i 0) (get_or (key_words (x ∷ xs) ++ zs) j 0)) e f
    ∙ pair-at xs zs net a.1 z

pub names_in : (xs : List (List ℕ)) (zs ws : List ℕ) → AllNamed xs → AllZero zs → ws ≡ key_words xs ++ zs → (net : ℕ)
    → name_in_of ws net ≡ get_or xs net []
unfolding name_in_of
names_in xs zs ws a z e net =
    let long : length ws ≡ 2 * length xs + length zs = omega (arith, ap (length {A = ℕ}) e, length-append (key_words xs) zs, length-keys xs) in
    ⊎_elim
    (λ h. rw (le-ltb (2 * net + 1) (length ws) h, name_in_of) (sym (no_name xs net (omega arith))))
    (λ h.
    rw (lt-ltb (2 * net + 1) (length ws) h, name_in_of)
    (ap (λ (l : List ℕ). pair_bytes (get_or l (2 * net) 0) (get_or l (2 * net + 1) 0)) e ∙ pair-at xs zs net a z))
    (le_or_lt (length ws) (2 * net + 1))

pub no-names-zero : AllZero no_names_of
unfolding no_names_of
no-names-zero i = zeros-at 1024 i

pub no-names-long : length no_names_of ≡ 1024
unfolding no_names_of
no-names-long = lib.ListN.length-replicate {A = ℕ} 1024 0

-- ---- a name put from the table

module _ (names out : List ℕ) (net : ℕ) where
  pub name-short : length out < 16 → Written out out 0 (in_room 16 out (name_in_of names net)) 0
  name-short h = no_room 16 out (name_in_of names net) h

  module _ (room : 16 ≤ length out) where
    pub name-none : length names / 2 ≤ net → Written out out 0 (in_room 16 out (name_in_of names net)) 0
    unfolding name_in_of
    name-none h =
        room-there 16 out (name_in_of names net) room
        (written_as (sym (rw (le-ltb (2 * net + 1) (length names) (omega arith), name_in_of) refl)) (none_written out 0 (omega arith)))

    pub name-put : net < length names / 2 → (m r : ℕ) (o1 o2 : List ℕ)
        → Written out o1 0 (word_bytes 8 (get_or names (2 * net) 0)) m → Written o1 o2 m (word_bytes 8 (get_or names (2 * net + 1) 0)) r
        → Written out o2 0 (in_room 16 out (name_in_of names net)) r
    unfolding name_in_of
    name-put h m r o1 o2 p q =
        room-there 16 out (name_in_of names net) room
        (written_as (sym (rw (lt-ltb (2 * net + 1) (length names) (omega arith), name_in_of) refl)) (then-written p q))
