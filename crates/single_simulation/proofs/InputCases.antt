-- The states of the inputs, from the words of V1 and V2, and arrays with one entry set.
use Rattle.model.proofs.Prelude.{ℕ, ◌≤◌, ◌<◌, ◌+◌, suc, zero, ◌≡◌, ◌∙◌, ap, refl, sym, subst, ap₂, ⊎_elim, Bool·beq, List, length, get_or, set}
use Rattle.model.proofs.Prelude.{length-set, replicate, length-replicate, get_or-set_same, get_or-set_other, eqb, not-suc-le-zero, arith}
use Rattle.model.specs.Base.{bit}
use Rattle.model.specs.Detect.{Evaluation}
use Rattle.model.proofs.BoolLaws.{equal_or_not}
use Rattle.model.proofs.ListLaws.{zeros-at}
use Rattle.gate_logic.specs.States.{word_of}
use Rattle.single_simulation.specs.StateWords.{state_in, IsState}
use Rattle.single_simulation.specs.Simulated.{input_state_of, InputStates}
use Rattle.single_simulation.proofs.PackStates.{word-form, word_back}

-- the state of an input, from its two digits
pub digit-state : (first last i x y : ℕ) → (x < 2) × (eqb x 1 ≡ bit first i) → (y < 2) × (eqb y 1 ≡ bit last i)
    → word_of (record { under_v1 = eqb x 1; under_v2 = eqb y 1; steady = eqb x y }) ≡ word_of (input_state_of first last i)
digit-state first last i x y a b =
    ap word_of (λ j. record { under_v1 = a.1 j; under_v2 = b.1 j; steady = (same-digit x y a.0 b.0 ∙ ap₂ Bool·beq a.1 b.1) j })
  where
    same-digit : (x y : ℕ) → x < 2 → y < 2 → eqb x y ≡ Bool·beq (eqb x 1) (eqb y 1)
    same-digit zero zero h l = refl
    same-digit zero (suc zero) h l = refl
    same-digit zero (suc (suc y)) h l = absurd (omega arith)
    same-digit (suc zero) zero h l = refl
    same-digit (suc zero) (suc zero) h l = refl
    same-digit (suc zero) (suc (suc y)) h l = absurd (omega arith)
    same-digit (suc (suc x)) y h l = absurd (omega arith)

-- a word that is a state's
state-form : {c : ℕ} (n : Evaluation) → c ≡ word_of n → IsState c
state-form {c} n e = rw e (word-form n)

state-told : {c : ℕ} (n : Evaluation) → c ≡ word_of n → state_in c ≡ n
state-told {c} n e = ap state_in e ∙ word_back n

-- an array with one entry set
module _ (array : List ℕ) (i c : ℕ) (l : i < length array) where
  pub set-each : (form : ℕ → Type 0) → form c → ((k : ℕ) → form (get_or array k 0)) → (k : ℕ) → form (get_or (set array i c) k 0)
  set-each form h b k =
      ⊎_elim
      (λ (e : k ≡ i). subst (λ j. form (get_or (set array i c) j 0)) (sym e) (subst form (sym (get_or-set_same array i c 0 l)) h))
      (λ (n : k ≡ i → ⊥). subst form (sym (get_or-set_other array i k c 0 n)) (b k))
      (equal_or_not k i)

  -- what holds of the entries before i, and of the new one at i, holds of those before i + 1
  pub set_more : (P : ℕ → ℕ → Type 0) → P i c → ((k : ℕ) → k < i → P k (get_or array k 0)) → (k : ℕ) → k < i + 1 → P k (get_or (set array i c) k 0)
  set_more P h b k m =
      ⊎_elim
      (λ (e : k ≡ i). subst (λ j. P j (get_or (set array i c) j 0)) (sym e) (subst (λ x. P i x) (sym (get_or-set_same array i c 0 l)) h))
      (λ (n : k ≡ i → ⊥). subst (λ x. P k x) (sym (get_or-set_other array i k c 0 n)) (b k (below k i n m)))
      (equal_or_not k i)
    where
      below : (k i : ℕ) → (k ≡ i → ⊥) → k < i + 1 → k < i
      below k i n m = omega arith

-- the states of the inputs before i are filled in
pub record InputsTo (first last inputs i : ℕ) (array : List ℕ) : Type 0 where
  pub within : i ≤ inputs
  pub filled : InputStates first last i array

module _ (first last inputs : ℕ) where
  pub inputs-start : InputsTo first last inputs 0 (replicate 512 0)
  inputs-start =
      let z : IsState 0 = record { low = omega arith; mid = omega arith; high = omega arith } in
      record {
        within = omega arith;
        filled = record { room = length-replicate {A = ℕ} 512 0; each = λ i. subst IsState (sym (zeros-at 512 i)) z; same = λ i h. absurd (not-suc-le-zero h) };
      }

  module _ (i : ℕ) (array : List ℕ) where
    pub inputs-more : (c : ℕ) → inputs ≤ 64 → i < inputs → InputsTo first last inputs i array → c ≡ word_of (input_state_of first last i)
        → InputsTo first last inputs (i + 1) (set array i c)
    inputs-more c few h x e =
        let l : i < length array = omega (arith, x.filled.room) in
        record {
          within = omega arith;
          filled = record {
            room = length-set array i c ∙ x.filled.room;
            each = set-each array i c l IsState (state-form (input_state_of first last i) e) x.filled.each;
            same = set_more array i c l (λ k w. state_in w ≡ input_state_of first last k) (state-told (input_state_of first last i) e) x.filled.same;
          };
        }

    pub inputs_end : inputs ≤ i → InputsTo first last inputs i array → InputStates first last inputs array
    inputs_end h x = record { room = x.filled.room; each = x.filled.each; same = λ k l. x.filled.same k (omega (arith, x.within)) }
