-- What the search from the greatest length down finds is the first of the longest untested paths.
use Rattle.model.proofs.Prelude.{ℕ, ◌≤◌, ◌<◌, ◌+◌, ◌-◌, suc, zero, ◌≡◌, ◌∙◌, ap, refl, sym, subst, ⊎_elim, true, Bool, false, ◌&&◌, not, List, T, eqb}
use Rattle.model.proofs.Prelude.{eqb→eq, arith, ne_eqb, eq-eqb}
use Rattle.model.specs.Netlist.{Netlist, path_total}
use Rattle.model.specs.Runs.{Run, in_runs}
use Rattle.model.proofs.BoolLaws.{true→T, and_left, bool_cases, cases, equal_or_not}
use Rattle.length_rows.specs.Lengths.{length_of, of_length}
use Rattle.length_search.specs.Untested.{first_from, untested, next_untested_of, longest_from, LongestTrue}
use Rattle.length_search.proofs.FirstLaws.{first-true, first-false}

module _ (P : ℕ → Bool) where
  -- none is found: none passes
  pub first-zero : (n k : ℕ) → 1 ≤ k → first_from P k n ≡ 0 → (j : ℕ) → k ≤ j → j < k + n → P j ≡ false
  first-zero zero k s e j a b = absurd (omega arith)
  first-zero (suc n) k s e j a b =
      ⊎_elim
      (λ (q : P k ≡ true). absurd (omega (arith, first-true P k n q)))
      (λ (q : P k ≡ false).
      cases j k
      (λ h. let z : j ≡ k = omega arith in ap P z ∙ q)
      (λ h. first-zero n (suc k) (omega arith) (sym (first-false P k n q) ∙ e) j h (omega arith)))
      (bool_cases (P k))

  -- one is found: it is there, it passes, and none before it does
  pub record Found (k n r : ℕ) : Type 0 where
    pub not_before : k ≤ r
    pub within : r < k + n
    pub passes : P r ≡ true
    pub none_before_of : (j : ℕ) → k ≤ j → j < r → P j ≡ false

  pub first_found : (n k : ℕ) → 1 ≤ first_from P k n → Found k n (first_from P k n)
  unfolding first_from
  first_found zero k s = absurd (omega arith)
  first_found (suc n) k s =
      ⊎_elim
      (λ (q : P k ≡ true).
      subst (Found k (suc n)) (sym (first-true P k n q))
      (record { not_before = omega arith; within = omega arith; passes = q; none_before_of = λ j a b. absurd (omega arith) }))
      (λ (q : P k ≡ false).
      let f = first_found n (suc k) (omega (arith, first-false P k n q)) in
      subst (Found k (suc n)) (sym (first-false P k n q))
      (record {
        not_before = omega (arith, f.not_before);
        within = omega (arith, f.within);
        passes = f.passes;
        none_before_of = λ j a b. cases j k (λ h. let z : j ≡ k = omega arith in ap P z ∙ q) (λ h. f.none_before_of j h b);
      }))
      (bool_cases (P k))

module _ (N : Netlist) (rs : List Run) where
  -- an untested path of a length, and one that is not
  is-untested : (l k : ℕ) → length_of N k ≡ l → in_runs rs k ≡ false → untested N rs l k ≡ true
  is-untested l k e h = let q : eqb (length_of N k) l ≡ true = eq-eqb (length_of N k) l e in rw (q, h) refl

  clash : (b : Bool) → b ≡ true → b ≡ false → ⊥
  clash b p q = let z : true ≡ false = sym p ∙ q in subst T z tt

  not_held_lem : (a b : Bool) → T (a && not b) → b ≡ false
  not_held_lem true true h = absurd h
  not_held_lem true false h = refl
  not_held_lem false b h = absurd h

  pub longest_true : (l : ℕ) → LongestTrue N rs l (longest_from N rs l 1)
  unfolding longest_from next_untested_of
  longest_true zero = record {
    is_path = λ h. absurd (omega arith);
    length = λ h. absurd (omega arith);
    not_held = λ h. absurd (omega arith);
    others = λ k a b c d e. absurd (omega arith);
    earlier = λ k a b c d e. absurd (omega arith);
    none = λ h. refl;
  }
  longest_true (suc l) =
      ⊎_elim
      (λ (e : next_untested_of N rs (suc l) 1 ≡ 0).
      let below = longest_true l in
      let same : longest_from N rs (suc l) 1 ≡ longest_from N rs l 1 = rw (eq-eqb (next_untested_of N rs (suc l) 1) 0 e, longest_from) refl in
      subst (LongestTrue N rs (suc l)) (sym same)
      (record {
        is_path = below.is_path;
        length = below.length;
        not_held = below.not_held;
        others = λ k a b c d h.
            cases (length_of N k) l
            (λ m. below.others k a b c m h)
            (λ m. absurd (clash (untested N rs (suc l) k) (is-untested (suc l) k (omega arith) h)
            (first-zero (untested N rs (suc l)) (suc (path_total N) - 1) 1 (omega arith) e k a (omega arith))));
        earlier = below.earlier;
        none = below.none;
      }))
      (λ (e : next_untested_of N rs (suc l) 1 ≡ 0 → ⊥).
      let r : ℕ = next_untested_of N rs (suc l) 1 in
      let same : longest_from N rs (suc l) 1 ≡ record { gates = suc l; path = next_untested_of N rs (suc l) 1 } =
      rw (ne_eqb (next_untested_of N rs (suc l) 1) 0 e, longest_from) refl in
      let f : Found (untested N rs (suc l)) 1 (suc (path_total N) - 1) (next_untested_of N rs (suc l) 1) =
      first_found (untested N rs (suc l)) (suc (path_total N) - 1) 1 (omega (arith, e)) in
      let passes : T (of_length N (suc l) (next_untested_of N rs (suc l) 1) && not (in_runs rs (next_untested_of N rs (suc l) 1))) =
      true→T (untested N rs (suc l) (next_untested_of N rs (suc l) 1)) f.passes in
      subst (LongestTrue N rs (suc l)) (sym same)
      (record {
        is_path = λ h. omega (arith, f.within);
        length = λ h. eqb→eq (length_of N (next_untested_of N rs (suc l) 1)) (suc l)
            (and_left (of_length N (suc l) (next_untested_of N rs (suc l) 1)) (not (in_runs rs (next_untested_of N rs (suc l) 1))) passes);
        not_held = λ h. not_held_lem (of_length N (suc l) (next_untested_of N rs (suc l) 1)) (in_runs rs (next_untested_of N rs (suc l) 1)) passes;
        others = λ k a b c d h. d;
        earlier = λ k a b c h m.
            cases (next_untested_of N rs (suc l) 1) k (λ x. x)
            (λ x. absurd (clash (untested N rs (suc l) k) (is-untested (suc l) k c h) (f.none_before_of k a x)));
        none = λ h. absurd (e h);
      }))
      (equal_or_not (next_untested_of N rs (suc l) 1) 0)
