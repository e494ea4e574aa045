-- The net at each pin of a gate's record.
use Rattle.model.proofs.Prelude.{ℕ, ◌<◌, ◌+◌, ◌*◌, suc, zero, ◌≡◌, ◌∙◌, ap, sym, List, get_or, drop, drop-drop, not-suc-le-zero, le_of_suc-le-suc}
use Rattle.model.proofs.Prelude.{add-zero, arith}
use Rattle.model.specs.Base.{field}
use Rattle.model.specs.Read.{net_fields}

-- the net of pin `k`
pub fields_at : (n at : ℕ) (s : List ℕ) (k : ℕ) → k < n → get_or (net_fields n (drop at s)) k 0 ≡ field (at + 2 * k) 2 s
fields_at zero at s k h = absurd (not-suc-le-zero h)
fields_at (suc n) at s zero h = ap (λ j. field j 2 s) (sym (add-zero at))
fields_at (suc n) at s (suc k) h =
    let i : at + 2 + 2 * k ≡ at + 2 * suc k = omega arith in
    ap (λ (b : List ℕ). get_or (net_fields n b) k 0) (drop-drop 2 at s) ∙ fields_at n (at + 2) s k (le_of_suc-le-suc h) ∙ ap (λ j. field j 2 s) i
