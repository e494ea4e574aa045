-- The test calls with records in order: how many are taken, with the first of them and then the others.
use Rattle.model.proofs.Prelude.{ℕ, ◌≤◌, ◌+◌, suc, ◌≡◌, ◌∙◌, ap, refl, sym, List, [], ◌∷◌, ◌++◌, length, zero-add, arith}
use Rattle.model.specs.Base.{Answer, refused, value, ◌into◌}
use Rattle.model.specs.Netlist.{Netlist}
use Rattle.model.specs.Detect.{Class}
use Rattle.model.specs.Calls.{Tested, test_stage, store_left}
use Rattle.model.specs.Report.{test_all}
use Rattle.model.proofs.AnswerLaws.{steps}
use Rattle.block_stage.specs.BlockStage.{one_more_test}
use Rattle.audit_block.specs.RecordsTaken.{taken_of}

-- the records `qs` after those that answered `x`
abbrev pub taken_then_of : Netlist → Class → List (List ℕ) → Answer (List ℕ) → ℕ → ℕ
taken_then_of N c qs (refused n) k = k
taken_then_of N c qs (value left) k = k + taken_of N c qs left

pub then-more : (N : Netlist) (c : Class) (qs : List (List ℕ)) (x : Answer (List ℕ)) (j k : ℕ) → j + taken_then_of N c qs x k ≡ taken_then_of N c qs x (j + k)
then-more N c qs (refused n) j k = refl
then-more N c qs (value left) j k = omega arith

-- one record, then the others
taken-one : (N : Netlist) (c : Class) (qs : List (List ℕ)) (x : Answer Tested) (f g : List ℕ → ℕ) (h : List ℕ → Answer (List ℕ))
    → ((ws : List ℕ) → f ws ≡ taken_then_of N c qs (h ws) (g ws))
    → one_more_test x (λ d. f (store_left d)) ≡ taken_then_of N c qs (x into λ d. h (store_left d)) (one_more_test x (λ d. g (store_left d)))
taken-one N c qs (refused n) f g h q = refl
taken-one N c qs (value d) f g h q =
    let ws : List ℕ = store_left d in
    ap (λ (k : ℕ). 1 + k) (q ws) ∙ then-more N c qs (h ws) 1 (g ws)

pub taken-append : (N : Netlist) (c : Class) (rs qs : List (List ℕ)) (ws : List ℕ)
    → taken_of N c (rs ++ qs) ws ≡ taken_then_of N c qs (test_all N c rs ws) (taken_of N c rs ws)
unfolding taken_of test_all
taken-append N c [] qs ws = sym (zero-add (taken_of N c qs ws))
taken-append N c (r ∷ rs) qs ws =
    taken-one N c qs (test_stage N c r ws) (λ v. taken_of N c (rs ++ qs) v) (λ v. taken_of N c rs v) (λ v. test_all N c rs v) (λ v. taken-append N c rs qs v)

-- no more are taken than there are
pub taken-most : (N : Netlist) (c : Class) (rs : List (List ℕ)) (ws : List ℕ) → taken_of N c rs ws ≤ length rs
unfolding taken_of
taken-most N c [] ws = omega arith
taken-most N c (r ∷ rs) ws = go (test_stage N c r ws) (λ v. taken-most N c rs v)
  where
    go : (x : Answer Tested) → ((v : List ℕ) → taken_of N c rs v ≤ length rs) → one_more_test x (λ d. taken_of N c rs (store_left d)) ≤ suc (length rs)
    go (refused n) h = omega arith
    go (value d) h = omega (arith, h (store_left d))

-- all are where none is refused
pub taken-all : (N : Netlist) (c : Class) (rs : List (List ℕ)) (ws left : List ℕ) → test_all N c rs ws ≡ value left → taken_of N c rs ws ≡ length rs
unfolding taken_of test_all
taken-all N c [] ws left q = refl
taken-all N c (r ∷ rs) ws left q =
    let s = steps (test_stage N c r ws) (λ d. test_all N c rs (store_left d)) q in
    rw s.first (omega (arith, taken-all N c rs (store_left s.got) left s.second))
