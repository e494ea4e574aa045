-- The words of the inputs, input by input.
use Rattle.model.proofs.Prelude.{ℕ, ◌≤◌, ◌<◌, ◌+◌, ◌-◌, ◌*◌, ◌^◌, ◌≡◌, ◌∙◌, ap, refl, subst, true, ◌&&◌, not, Bool·beq, and-true, Bool·not-not}
use Rattle.model.proofs.Prelude.{and_comm, List, get_or, not-suc-le-zero, arith}
use mir.Syntax.{w64}
use mir.Val.{Fits}
use lib.Bits.{bit_and, bit_xor, xor_lt}
use Rattle.model.specs.Base.{bit}
use Rattle.record_bytes.proofs.BitLaws.{and_bit, xor_bit, rise-bit, fall-bit}
use Rattle.block_words.specs.Words.{WordIs}
use Rattle.block_words.specs.NetStates.{NetPut, InputWords}
use Rattle.block_words.specs.declared.inner.words.NetState.{NetState}
use Rattle.block_words.proofs.WordBitLaws.{not_bit}
use Rattle.block_words.proofs.NetPutLaws.{kept-start, kept_more, put-more}

-- the words of an input, from those under V1 and V2 and the word of the records
abbrev pub input_net : ℕ → ℕ → ℕ → NetState
input_net first last within = record {
  first = first;
  last = last;
  steady = 2 ^ 64 - 1 - bit_xor first last;
  rises = bit_and (bit_and (bit_xor first last) last) within;
  falls = bit_and (bit_and (bit_xor first last) first) within;
}

steady-is : (first last : ℕ) → first < 2 ^ 64 → last < 2 ^ 64 → WordIs (input_net first last 0).steady (λ t. Bool·beq (bit first t) (bit last t)) 64
steady-is first last h l t m =
    not_bit (bit_xor first last) t (xor_lt 64 first last h l) m ∙ ap not (xor_bit first last t) ∙ Bool·not-not (Bool·beq (bit first t) (bit last t))

module _ (first last within n : ℕ) (all : (s : ℕ) → s < n → bit within s ≡ true) where
  within-is : (word : ℕ) → WordIs (bit_and word within) (bit word) n
  within-is word t h = and_bit word within t ∙ ap (λ b. bit word t && b) (all t h) ∙ and-true (bit word t)

  rises-is : WordIs (input_net first last within).rises (λ t. not (bit first t) && bit last t) n
  rises-is t h = within-is (bit_and (bit_xor first last) last) t h ∙ rise-bit first last t

  falls-is : WordIs (input_net first last within).falls (λ t. not (bit last t) && bit first t) n
  falls-is t h = within-is (bit_and (bit_xor first last) first) t h ∙ fall-bit first last t ∙ and_comm (bit first t) (not (bit last t))

module _ {firsts lasts : List ℕ} {n : ℕ} {before : List ℕ} where
  pub input-start : InputWords firsts lasts 0 n before before
  input-start = record {
    kept = kept-start;
    first = λ j h. absurd (not-suc-le-zero h);
    last = λ j h. absurd (not-suc-le-zero h);
    steady = λ j h. absurd (not-suc-le-zero h);
    rises = λ j h. absurd (not-suc-le-zero h);
    falls = λ j h. absurd (not-suc-le-zero h);
  }

  -- one input more; its words fit where they stand afterwards
  pub input-step : {words words' : List ℕ} {input : ℕ} (within : ℕ) → InputWords firsts lasts input n before words → input < 512
      → ((s : ℕ) → s < n → bit within s ≡ true) → NetPut input (input_net (get_or firsts input 0) (get_or lasts input 0) within) words words'
      → ((i : ℕ) → Fits w64 (get_or words' i 0)) → InputWords firsts lasts (input + 1) n before words'
  input-step {words} {words'} {input} within x low all p fits =
      let first = get_or firsts input 0 in
      let last = get_or lasts input 0 in
      let h : first < 2 ^ 64 = omega (arith, p.first, (fits (8 * input)).fits) in
      let l : last < 2 ^ 64 = omega (arith, p.last, (fits (8 * input + 1)).fits) in
      record {
        kept = kept_more p low x.kept;
        first = put-more p (λ k. 8 * k) (λ k m. omega arith) p.first (λ k w. w ≡ get_or firsts k 0) refl x.first;
        last = put-more p (λ k. 8 * k + 1) (λ k m. omega arith) p.last (λ k w. w ≡ get_or lasts k 0) refl x.last;
        steady = put-more p (λ k. 8 * k + 2) (λ k m. omega arith) p.steady
            (λ k w. WordIs w (λ t. Bool·beq (bit (get_or firsts k 0) t) (bit (get_or lasts k 0) t)) 64) (steady-is first last h l) x.steady;
        rises = put-more p (λ k. 8 * k + 3) (λ k m. omega arith) p.rises
            (λ k w. WordIs w (λ t. not (bit (get_or firsts k 0) t) && bit (get_or lasts k 0) t) n) (rises-is first last within n all) x.rises;
        falls = put-more p (λ k. 8 * k + 4) (λ k m. omega arith) p.falls
            (λ k w. WordIs w (λ t. not (bit (get_or lasts k 0) t) && bit (get_or firsts k 0) t) n) (falls-is first last within n all) x.falls;
      }

  pub input-end : {words : List ℕ} {inputs input : ℕ} → InputWords firsts lasts input n before words → input ≤ inputs → inputs ≤ input
      → InputWords firsts lasts inputs n before words
  input-end {words} {inputs} {input} x h l = let e : input ≡ inputs = omega arith in subst (λ k. InputWords firsts lasts k n before words) e x
