-- How many runs the nets before one have, and the words past the first quarter that a walk leaves alone.
use Rattle.model.proofs.Prelude.{ℕ, ◌≤◌, ◌+◌, suc, zero, ◌≡◌, ◌∙◌, ap, refl, List, length, drop, le_refl, add-one, arith}
use Rattle.model.specs.Runs.{Run}
use Rattle.model.specs.Store.{max_runs}
use Rattle.model.proofs.BoolLaws.{cases}
use Rattle.run_lists.specs.RunLists.{write_runs_of}
use Rattle.run_union.proofs.RunWriteLaws.{length-write_runs}
use Rattle.detection.specs.Walks.{runs_before, Kept}
use Rattle.detection.proofs.AddedLaws.{drop-write}

-- ---- places of the nets' runs

pub runs-next : (f : ℕ → List Run) (q : ℕ) → runs_before f (q + 1) ≡ runs_before f q + length (f q)
runs-next f q = rw (add-one q)

pub runs-mono : (f : ℕ → List Run) (q n : ℕ) → q ≤ n → runs_before f q ≤ runs_before f n
runs-mono f q zero h = let e : q ≡ 0 = omega arith in rw e (le_refl 0)
runs-mono f q (suc n) h = cases q n
    (λ k. omega (arith, runs-mono f q n k))
    (λ k. let e : q ≡ suc n = omega arith in rw e (le_refl (runs_before f (suc n))))

-- ---- words past the first quarter

pub kept_refl : (ws : List ℕ) → Kept ws ws
kept_refl ws = record { same = refl; above = λ k l. refl }

pub kept_then : {ws₀ ws₁ ws₂ : List ℕ} → Kept ws₀ ws₁ → Kept ws₁ ws₂ → Kept ws₀ ws₂
kept_then a b = record { same = b.same ∙ a.same; above = λ k l. b.above k l ∙ a.above k l }

pub kept-write : {ws ws' : List ℕ} (start : ℕ) (s : List Run) → ws' ≡ write_runs_of ws start s → start + length s ≤ max_runs → Kept ws ws'
kept-write {ws} start s e h = record {
  same = ap length e ∙ length-write_runs ws start s;
  above = λ k l. ap (drop k) e ∙ drop-write k ws start s (omega arith);
}
