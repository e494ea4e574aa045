-- Which numbers are those of one test record, by what each test of the code says: `n` is the refusal's number, the others those of the five cases.
use Rattle.model.proofs.Prelude.{ℕ, ◌≡◌, refl, true, false, eqb, arith, rules, ne_eqb}
use Rattle.report_verdict.specs.Verdict.{of_record}

module _ (number n : ℕ) (same : n ≡ number) where
  pub of_mark : (mark : ℕ) → mark ≡ 31 → n ≡ mark → true ≡ of_record number
  of_mark mark m e =
      let known : number ≡ 31 = omega arith in
      rw known refl

  pub of_spare-bit : (spare : ℕ) → spare ≡ 32 → n ≡ spare → true ≡ of_record number
  of_spare-bit spare s e =
      let known : number ≡ 32 = omega arith in
      rw known refl

  pub of_unchanged_pair : (pair : ℕ) → pair ≡ 85 → n ≡ pair → true ≡ of_record number
  of_unchanged_pair pair p e =
      let known : number ≡ 85 = omega arith in
      rw known refl

  pub of_working-runs : (work : ℕ) → work ≡ 50 → n ≡ work → true ≡ of_record number
  of_working-runs work w e =
      let known : number ≡ 50 = omega arith in
      rw known refl

  pub of_store-runs : (mark spare pair work store : ℕ) → mark ≡ 31 → spare ≡ 32 → pair ≡ 85 → work ≡ 50 → store ≡ 51
      → (n ≡ mark → ⊥) → (n ≡ spare → ⊥) → (n ≡ pair → ⊥) → (n ≡ work → ⊥) → eqb n store ≡ of_record number
  of_store-runs mark spare pair work store m s p w t no-mark no-spare no-pair no-work =
      let not-31 : eqb number 31 ≡ false = ne_eqb number 31 (λ e. no-mark (omega arith)) in
      let not-32 : eqb number 32 ≡ false = ne_eqb number 32 (λ e. no-spare (omega arith)) in
      let not-85 : eqb number 85 ≡ false = ne_eqb number 85 (λ e. no-pair (omega arith)) in
      let not-50 : eqb number 50 ≡ false = ne_eqb number 50 (λ e. no-work (omega arith)) in
      rw (not-31, not-32, not-85, not-50, same, t) refl

pub ruleset record-cases = (of_mark, of_spare-bit, of_unchanged_pair, of_working-runs, of_store-runs, rules)
