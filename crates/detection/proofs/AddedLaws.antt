-- What a call that adds runs leaves: the same under another name, and the words past its room.
use Rattle.model.proofs.Prelude.{ℕ, ◌≤◌, ◌+◌, ◌*◌, ◌≡◌, ◌∙◌, ap, refl, List, [], ◌∷◌, length, drop, take, set, length-take-le, take_all, drop-set-lt}
use Rattle.model.proofs.Prelude.{arith}
use mathlib.Core.Path.{subst₂}
use Rattle.model.specs.Runs.{Run}
use Rattle.run_lists.specs.RunLists.{write_runs_of}
use Rattle.run_lists.specs.Answers.{Adds}
use Rattle.model.proofs.BoolLaws.{cases}
use Rattle.std.specs.Prelude.{Option, Some, None}

pub as_adds : {ws ws' : List ℕ} {start cap : ℕ} {s t : List Run} {q r : (Option ℕ)} → s ≡ t → q ≡ r → Adds ws ws' start cap s q → Adds ws ws' start cap t r
as_adds {ws} {ws'} {start} {cap} e d a = subst₂ (λ s q. Adds ws ws' start cap s q) e d a

pub full-count : {n : ℕ} → ◌≡◌ {A = (Option ℕ)} None (Some n) → ⊥
full-count {n} p = let z : ◌≡◌ {A = ℕ} 0 1 = cc in omega arith

-- ---- words past the runs that are written

pub drop-write : (k : ℕ) (ws : List ℕ) (i : ℕ) (s : List Run) → 2 * (i + length s) ≤ k → drop k (write_runs_of ws i s) ≡ drop k ws
drop-write k ws i [] h = refl
drop-write k ws i (r ∷ s) h =
    drop-write k (set (set ws (2 * i) r.low) (2 * i + 1) r.high) (i + 1) s (omega arith)
    ∙ drop-set-lt k (set ws (2 * i) r.low) (2 * i + 1) r.high (omega arith)
    ∙ drop-set-lt k ws (2 * i) r.low (omega arith)

pub take_short : (cap : ℕ) (s : List Run) → length (take cap s) ≤ cap
take_short cap s = cases (length s) cap
    (λ h. omega (arith, ap length (take_all cap s h)))
    (λ h. omega (arith, length-take-le cap s (omega arith)))

-- a call that adds runs changes no word past its room
pub adds-kept : (k : ℕ) {ws ws' : List ℕ} {start cap : ℕ} {s : List Run} {r : (Option ℕ)} → 2 * (start + cap) ≤ k → Adds ws ws' start cap s r → drop k ws' ≡ drop k ws
adds-kept k {ws} {start = start} {cap = cap} {s = s} h d = ap (drop k) d.writes ∙ drop-write k ws start (take cap s) (omega (arith, take_short cap s))
