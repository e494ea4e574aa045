-- The bytes of a word, put into eight words.
use Rattle.model.proofs.Prelude.{ℕ, ◌≤◌, ◌<◌, ◌+◌, ◌-◌, ◌*◌, ◌^◌, ◌/◌, ◌%◌, ◌≡◌, ◌∙◌, ap, refl, sym, subst, ⊎_elim, inl, inr, ◌⊎◌, false, ◌||◌}
use Rattle.model.proofs.Prelude.{or-false, List, length, get_or, set, length-set, get_or-set_same, get_or-set_other, not-suc-le-zero, arith}
use native.Mathlib.Nat.{div-one, eq-or-lt_of_le}
use lib.Bits.{bit_and, bit_or}
use lib.Pow.{shr-shr}
use Rattle.model.specs.Base.{bit}
use Rattle.record_bytes.proofs.BitLaws.{or_bit}
use Rattle.block_transpose.specs.Vectors.{Scattered}
use Rattle.block_transpose.proofs.WordShiftLaws.{right-bit, left-bit, left-none, byte-bit, byte-none}

-- byte i of a word is added to a word at `place`
pub record Added (word i place old new : ℕ) : Type 0 where
  pub put : (t : ℕ) → t < 8 → bit new (place + t) ≡ (bit old (place + t) || bit word (8 * i + t))
  pub others : (s : ℕ) → (s < place) ⊎ (place + 8 ≤ s) → s < 64 → bit new s ≡ bit old s

module _ (word i place old left : ℕ) (low : place ≤ 56) (rest : left ≡ word / 2 ^ (8 * i)) where
  byte : ℕ
  byte = (bit_and left 255 * 2 ^ place) % 2 ^ 64

  byte-there : (t : ℕ) → t < 8 → bit byte (place + t) ≡ bit word (8 * i + t)
  unfolding byte
  byte-there t h =
      left-bit (bit_and left 255) place t (omega arith) ∙ byte-bit left h ∙ ap (λ x. bit x t) rest ∙ right-bit word (8 * i) t

  nothing-else : (s : ℕ) → (s < place) ⊎ (place + 8 ≤ s) → s < 64 → bit byte s ≡ false
  unfolding byte
  nothing-else s (inl h) l = left-none (bit_and left 255) place s h (omega arith)
  nothing-else s (inr h) l =
      let m : s ≡ place + (s - place) = omega arith in
      ap (bit byte) m ∙ left-bit (bit_and left 255) place (s - place) (omega arith) ∙ byte-none left (s - place) (omega arith)

  added : Added word i place old (bit_or old ((bit_and left 255 * 2 ^ place) % 2 ^ 64))
  unfolding byte
  added = record {
    put = λ t h. or_bit old byte (place + t) ∙ ap (λ b. bit old (place + t) || b) (byte-there t h);
    others = λ s o h. or_bit old byte s ∙ ap (λ b. bit old s || b) (nothing-else s o h) ∙ or-false (bit old s);
  }

-- the bytes below i are put, the others are left
pub record Scattering (word first place : ℕ) (before after : List ℕ) (left i : ℕ) : Type 0 where
  pub within : i ≤ 8
  pub rest : left ≡ word / 2 ^ (8 * i)
  pub same_length_of : length after ≡ length before
  pub bytes : (k : ℕ) → k < i → Added word k place (get_or before (first + k) 0) (get_or after (first + k) 0)
  pub words : (j : ℕ) → (j < first) ⊎ (first + i ≤ j) → get_or after j 0 ≡ get_or before j 0

module _ {word first place : ℕ} {before : List ℕ} where
  pub scatter_bytes-start : Scattering word first place before before word 0
  scatter_bytes-start = record {
    within = omega arith;
    rest = sym (div-one word);
    same_length_of = refl;
    bytes = λ k h. absurd (not-suc-le-zero h);
    words = λ j o. refl;
  }

  module _ {after : List ℕ} {left i : ℕ} (x : Scattering word first place before after left i) where
    pub scatter_bytes-end : 8 ≤ i → Scattered word first place before after
    scatter_bytes-end h = record {
      same_length_of = x.same_length_of;
      put = λ k t l m. (x.bytes k (omega arith)).put t m;
      others = λ k s l o m. (x.bytes k (omega arith)).others s o m;
      words = λ j o. x.words j (outside j o x.within);
    }
      where
        outside : (j : ℕ) → (j < first) ⊎ (first + 8 ≤ j) → i ≤ 8 → (j < first) ⊎ (first + i ≤ j)
        outside j (inl l) w = inl l
        outside j (inr l) w = inr (omega arith)

    module _ (few : i < 8) (room : first + 8 ≤ 64) (whole : length before ≡ 64) (low : place ≤ 56) where
      new : ℕ
      new = bit_or (get_or after (first + i) 0) ((bit_and left 255 * 2 ^ place) % 2 ^ 64)

      -- byte i is put into the word that is as before
      byte-now : Added word i place (get_or before (first + i) 0) (get_or (set after (first + i) new) (first + i) 0)
      unfolding new
      byte-now =
          let before-it = x.words (first + i) (inr (omega arith)) in
          let now-it = get_or-set_same after (first + i) new 0 (omega (arith, x.same_length_of)) in
          subst (λ (a : ℕ). Added word i place a (get_or (set after (first + i) new) (first + i) 0)) before-it
          (subst (λ (a : ℕ). Added word i place (get_or after (first + i) 0) a) (sym now-it) (added word i place (get_or after (first + i) 0) left low x.rest))

      bytes-then : (k : ℕ) → k < i + 1 → Added word k place (get_or before (first + k) 0) (get_or (set after (first + i) new) (first + k) 0)
      bytes-then k h =
          let is : (ℕ → Type 0) = λ m. Added word m place (get_or before (first + m) 0) (get_or (set after (first + i) new) (first + m) 0) in
          let last : k ≤ i = omega arith in
          ⊎_elim (λ (e : k ≡ i). subst is (sym e) byte-now)
          (λ (l : k < i).
          subst (λ (a : ℕ). Added word k place (get_or before (first + k) 0) a) (sym (get_or-set_other after (first + i) (first + k) new 0 (λ e. apart e l)))
          (x.bytes k l))
          (eq-or-lt_of_le last)
        where
          apart : first + k ≡ first + i → k < i → ⊥
          apart e l = omega arith

      words-then : (j : ℕ) → (j < first) ⊎ (first + (i + 1) ≤ j) → get_or (set after (first + i) new) j 0 ≡ get_or before j 0
      words-then j o = get_or-set_other after (first + i) j new 0 (away o) ∙ x.words j (outside o)
        where
          away : (j < first) ⊎ (first + (i + 1) ≤ j) → j ≡ first + i → ⊥
          away (inl l) e = omega arith
          away (inr l) e = omega arith

          outside : (j < first) ⊎ (first + (i + 1) ≤ j) → (j < first) ⊎ (first + i ≤ j)
          outside (inl l) = inl l
          outside (inr l) = inr (omega arith)

      pub scatter_bytes-step : Scattering word first place before (set after (first + i) (bit_or (get_or after (first + i) 0) ((bit_and left 255 * 2 ^ place) % 2 ^ 64)))
          (left / 2 ^ 8) (i + 1)
      unfolding new
      scatter_bytes-step =
          let m : 8 * i + 8 ≡ 8 * (i + 1) = omega arith in
          record {
            within = omega arith;
            rest = ap (λ y. y / 2 ^ 8) x.rest ∙ shr-shr word (8 * i) 8 ∙ ap (λ k. word / 2 ^ k) m;
            same_length_of = length-set after (first + i) new ∙ x.same_length_of;
            bytes = bytes-then;
            words = words-then;
          }
