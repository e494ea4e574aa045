-- The inputs, eight at a time: eight records at a time for each eight inputs.
use Rattle.model.proofs.Prelude.{ℕ, ◌≤◌, ◌<◌, ◌+◌, ◌-◌, ◌*◌, ◌^◌, ◌%◌, ◌≡◌, ◌∙◌, ap, refl, ap₂, inl, inr, ◌⊎◌, false, ◌||◌, List, length, get_or}
use Rattle.model.proofs.Prelude.{replicate, get_or-replicate, eqb, not-suc-le-zero, arith}
use native.Mathlib.Nat.{zero-div}
use Rattle.model.specs.Base.{bit}
use Rattle.model.proofs.BoolLaws.{cases}
use Rattle.block_transpose.specs.Vectors.{Gathered, Scattered, ColumnTransposed, Transposed}

-- the eight words are 0
abbrev Empty : List ℕ → ℕ → Type 0
Empty words byte = (i : ℕ) → i < 8 → get_or words (8 * byte + i) 0 ≡ 0

-- the records below t are put into the eight words, and nothing stands above
pub record Standing (vectors : List ℕ) (first byte : ℕ) (before after : List ℕ) (t : ℕ) : Type 0 where
  pub eights : t % 8 ≡ 0
  pub same_length_of : length after ≡ length before
  pub words : (j : ℕ) → (j < 8 * byte) ⊎ (8 * byte + 8 ≤ j) → get_or after j 0 ≡ get_or before j 0
  pub bits : Empty before byte → (i s : ℕ) → i < 8 → s < t → bit (get_or after (8 * byte + i) 0) s ≡ bit (get_or vectors (first + s) 0) (8 * byte + i)
  pub free : Empty before byte → (i s : ℕ) → i < 8 → t ≤ s → s < 64 → bit (get_or after (8 * byte + i) 0) s ≡ false

module _ {vectors : List ℕ} {first byte : ℕ} {before : List ℕ} where
  pub transpose_column-start : Standing vectors first byte before before 0
  transpose_column-start = record {
    eights = refl;
    same_length_of = refl;
    words = λ j o. refl;
    bits = λ e i s h l. absurd (not-suc-le-zero l);
    free = λ e i s h l m. ap (λ x. bit x s) (e i h) ∙ ap (λ x. eqb (x % 2) 1) (zero-div (2 ^ s));
  }

  module _ {after : List ℕ} {t : ℕ} (x : Standing vectors first byte before after t) where
    pub transpose_column-end : {n : ℕ} → n ≤ t → ColumnTransposed vectors first n byte before after
    transpose_column-end h = record { same_length_of = x.same_length_of; words = x.words; bits = λ e i s l m. x.bits e i s l (omega arith) }

    module _ {word : ℕ} {then : List ℕ} (y : Gathered vectors (first + t) (8 * byte) word) (z : Scattered word (8 * byte) t after then) where
      -- the next eight records
      added : Empty before byte → (i s : ℕ) → i < 8 → t ≤ s → s < t + 8 → s < 64
          → bit (get_or then (8 * byte + i) 0) s ≡ bit (get_or vectors (first + s) 0) (8 * byte + i)
      added e i s h l m k =
          let u : s ≡ t + (s - t) = omega arith in
          let v : t + (s - t) ≡ s = omega arith in
          let w : first + t + (s - t) ≡ first + s = omega arith in
          let old : bit (get_or after (8 * byte + i) 0) (t + (s - t)) ≡ false = ap (bit (get_or after (8 * byte + i) 0)) v ∙ x.free e i s h l k in
          ap (bit (get_or then (8 * byte + i) 0)) u ∙ z.put i (s - t) h (omega arith) ∙ ap₂ ◌||◌ old (y.bits i (s - t) h (omega arith))
          ∙ ap (λ j. bit (get_or vectors j 0) (8 * byte + i)) w

      pub transpose_column-step : t < 64 → Standing vectors first byte before then (t + 8)
      transpose_column-step few = record {
        eights = omega (arith, x.eights);
        same_length_of = z.same_length_of ∙ x.same_length_of;
        words = λ j o. z.words j o ∙ x.words j o;
        bits = λ e i s h l.
            cases t s (λ (m : t ≤ s). added e i s h m l (omega (arith, x.eights)))
            (λ (m : s < t). z.others i s h (inl m) (omega arith) ∙ x.bits e i s h m);
        free = λ e i s h l m. z.others i s h (inr l) m ∙ x.free e i s h (omega arith) m;
      }

-- the inputs below 8 * byte have their words, the others have 0
pub record Transposing (vectors : List ℕ) (first n : ℕ) (words : List ℕ) (byte : ℕ) : Type 0 where
  pub within : byte ≤ 8
  pub whole : length words ≡ 64
  pub bits : (j : ℕ) → j < 8 * byte → (t : ℕ) → t < n → bit (get_or words j 0) t ≡ bit (get_or vectors (first + t) 0) j
  pub free : (j : ℕ) → 8 * byte ≤ j → j < 64 → get_or words j 0 ≡ 0

pub transpose_start : {vectors : List ℕ} {first n : ℕ} → Transposing vectors first n (replicate 64 0) 0
transpose_start = record {
  within = omega arith;
  whole = refl;
  bits = λ j h t l. absurd (not-suc-le-zero h);
  free = λ j h l. get_or-replicate 64 j 0 0 l;
}

module _ {vectors : List ℕ} {first n : ℕ} {words : List ℕ} {byte : ℕ} (x : Transposing vectors first n words byte) where
  pub transpose_end : {inputs : ℕ} → inputs ≤ 8 * byte → Transposed vectors first n inputs words
  transpose_end h = record { bits = λ j l t m. x.bits j (omega arith) t m }

  module _ {then : List ℕ} (few : byte < 8) (y : ColumnTransposed vectors first n byte words then) where
    -- the next eight inputs
    transpose_column-bits : (j : ℕ) → 8 * byte ≤ j → j < 8 * byte + 8 → (t : ℕ) → t < n → bit (get_or then j 0) t ≡ bit (get_or vectors (first + t) 0) j
    transpose_column-bits j h l t m =
        let u : j ≡ 8 * byte + (j - 8 * byte) = omega arith in
        let v : 8 * byte + (j - 8 * byte) ≡ j = omega arith in
        ap (λ k. bit (get_or then k 0) t) u ∙ y.bits (λ i o. x.free (8 * byte + i) (omega arith) (omega arith)) (j - 8 * byte) t (omega arith) m
        ∙ ap (bit (get_or vectors (first + t) 0)) v

    pub transpose_step : Transposing vectors first n then (byte + 1)
    transpose_step = record {
      within = omega arith;
      whole = y.same_length_of ∙ x.whole;
      bits = λ j h t l.
          cases (8 * byte) j (λ (m : 8 * byte ≤ j). transpose_column-bits j m (omega arith) t l)
          (λ (m : j < 8 * byte). ap (λ a. bit a t) (y.words j (inl m)) ∙ x.bits j m t l);
      free = λ j h l. y.words j (inr (omega arith)) ∙ x.free j (omega arith) l;
    }
