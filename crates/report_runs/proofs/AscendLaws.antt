-- Whether runs ascend, as a test and as a fact.
use Rattle.model.proofs.Prelude.{ℕ, ◌+◌, suc, zero, ◌≡◌, ◌∙◌, sym, subst, true, Bool, false, List, [], ◌∷◌, take, leb, T, leb→le, le→leb}
use Rattle.model.specs.Runs.{Run}
use Rattle.model.proofs.BoolLaws.{and3, all3, T→true, true→T, not→false}
use Rattle.report_runs.specs.ReportRuns.{Ascends, Ordered, ascend}
use Rattle.std.specs.Prelude.{Result, Ok, Err}

ascends→ : (least : ℕ) (rs : List Run) → T (ascend least rs) → Ascends least rs
unfolding ascend
ascends→ least [] t = tt
ascends→ least (r ∷ rs) t =
    let q = and3 (leb least r.low) (leb r.low r.high) (ascend (r.high + 1) rs) t in
    (leb→le _ _ q.0, leb→le _ _ q.1, ascends→ (r.high + 1) rs q.2)

→ascends : (least : ℕ) (rs : List Run) → Ascends least rs → T (ascend least rs)
unfolding ascend
→ascends least [] h = tt
→ascends least (r ∷ rs) h =
    all3 (leb least r.low) (leb r.low r.high) (ascend (r.high + 1) rs)
    (le→leb _ _ h.0) (le→leb _ _ h.1) (→ascends (r.high + 1) rs h.2)

-- the first of ascending runs ascend
ascends-taken : (n least : ℕ) (rs : List Run) → Ascends least rs → Ascends least (take n rs)
ascends-taken zero least rs h = tt
ascends-taken (suc n) least [] h = tt
ascends-taken (suc n) least (r ∷ rs) h = (h.0, h.1, ascends-taken n (r.high + 1) rs h.2)

-- what the test says to a caller
pub ascends-of : (rs : List Run) {b : Bool} → b ≡ ascend 0 rs → b ≡ true → Ascends 0 rs
ascends-of rs e t = ascends→ 0 rs (true→T (ascend 0 rs) (sym e ∙ t))

-- The test from the first run that is out of order
module _ (rs : List Run) (x : Result (Unit {0}) ℕ) (told : Ordered x rs) where
  pub ordered-all : x ≡ Ok tt → true ≡ ascend 0 rs
  ordered-all e =
      let h : Ascends 0 rs = subst (λ (y : Result (Unit {0}) ℕ). Ordered y rs) e told in
      sym (T→true (ascend 0 rs) (→ascends 0 rs h))

  pub ordered-not : (k : ℕ) → x ≡ Err k → false ≡ ascend 0 rs
  ordered-not k e =
      let h : Ordered (Err k) rs = subst (λ (y : Result (Unit {0}) ℕ). Ordered y rs) e told in
      sym (not→false (ascend 0 rs) (λ t. h.2 (ascends-taken (k + 1) 0 rs (ascends→ 0 rs t))))
