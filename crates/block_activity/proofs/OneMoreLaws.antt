-- What holds of the places before one and of that place holds of the places before the next; arrays filled from the first place up.
use Rattle.model.proofs.Prelude.{ℕ, ◌≤◌, ◌<◌, ◌+◌, ◌≡◌, ◌∙◌, sym, subst, ⊎_elim, inl, inr, ◌⊎◌, List, length, get_or, set, length-set, get_or-set_same}
use Rattle.model.proofs.Prelude.{get_or-set_other, arith}
use Rattle.model.proofs.BoolLaws.{equal_or_not}
use Rattle.block_words.specs.Words.{Filled}

pub one_more : (P : ℕ → Type 0) (n : ℕ) → ((t : ℕ) → t < n → P t) → P n → (t : ℕ) → t < n + 1 → P t
one_more P n old new t h = ⊎_elim (λ (e : t ≡ n). subst P (sym e) new) (λ (q : t ≡ n → ⊥). old t (below t n q h)) (equal_or_not t n)
  where
    below : (t n : ℕ) → (t ≡ n → ⊥) → t < n + 1 → t < n
    below t n q h = omega arith

module _ {first n : ℕ} {P : ℕ → ℕ → Type 0} {before after : List ℕ} (x : Filled first n P before after) where
  pub fill_more : first + n < length before → (c : ℕ) → P n c → Filled first (n + 1) P before (set after (first + n) c)
  fill_more room c h = record {
    same_length_of = length-set after (first + n) c ∙ x.same_length_of;
    same = λ i o. get_or-set_other after (first + n) i c 0 (away i o) ∙ x.same i (outside i o);
    each = one_more (λ p. P p (get_or (set after (first + n) c) (first + p) 0)) n
        (λ p l. subst (P p) (sym (get_or-set_other after (first + n) (first + p) c 0 (λ e. omega arith))) (x.each p l))
        (subst (P n) (sym (get_or-set_same after (first + n) c 0 (omega (arith, x.same_length_of)))) h);
  }
    where
      away : (i : ℕ) → (i < first) ⊎ (first + (n + 1) ≤ i) → i ≡ first + n → ⊥
      away i (inl l) e = omega arith
      away i (inr l) e = omega arith

      outside : (i : ℕ) → (i < first) ⊎ (first + (n + 1) ≤ i) → (i < first) ⊎ (first + n ≤ i)
      outside i (inl l) = inl l
      outside i (inr l) = inr (omega arith)
