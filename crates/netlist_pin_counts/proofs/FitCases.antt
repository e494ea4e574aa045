-- The cases of a gate's pin count.
use Rattle.model.proofs.Prelude.{ℕ, ◌≤◌, ◌<◌, ◌≡◌, refl, sym, false, or-false, leb, eqb, arith, rules, le-leb, lt-leb}
use Rattle.model.specs.Read.{pins_fit}

pub fit-one : (kind n : ℕ) → kind ≤ 2 → eqb n 1 ≡ pins_fit kind n
fit-one kind n h = rw (le-leb kind 2 h, lt-leb 3 kind (omega arith)) (sym (or-false (eqb n 1)))

module _ (kind n : ℕ) (h : 2 < kind) where
  pub fit_none : n < 1 → false ≡ pins_fit kind n
  fit_none l = rw (lt-leb kind 2 h, le-leb 3 kind (omega arith), lt-leb 1 n l) refl

  pub fit-more : 1 ≤ n → leb n 8 ≡ pins_fit kind n
  fit-more l = rw (lt-leb kind 2 h, le-leb 3 kind (omega arith), le-leb 1 n l) refl

pub ruleset fit-cases = (fit-one, fit_none, fit-more, rules)
