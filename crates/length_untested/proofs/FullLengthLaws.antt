-- A length of which as many paths are held as there are has no untested path; the search length by length.
use Rattle.model.proofs.Prelude.{ℕ, ◌≤◌, ◌<◌, ◌+◌, ◌-◌, suc, zero, ◌≡◌, ◌∙◌, ap, refl, sym, true, Bool, false, ◌&&◌, not, List, arith, ne_eqb, eq-eqb}
use Rattle.model.specs.Netlist.{Netlist, path_total}
use Rattle.model.specs.Runs.{Run, in_runs, how_many, how_many_from}
use Rattle.length_rows.specs.Lengths.{of_length, paths_up_to, held_up_to}
use Rattle.length_rows.proofs.HowManyLaws.{one, many-step, how_many-zero}
use Rattle.length_search.specs.Untested.{untested, next_untested_of, longest_from}
use Rattle.length_search.proofs.FirstLaws.{first-none}

-- those that pass a second test, and those that do not
two-parts : (P Q : ℕ → Bool) (n k : ℕ) → how_many_from P k n ≡ how_many_from (λ j. P j && Q j) k n + how_many_from (λ j. P j && not (Q j)) k n
unfolding how_many_from
two-parts P Q zero k = refl
two-parts P Q (suc n) k =
    omega (
      arith,
      two-parts P Q n (suc k),
      many-step P k n,
      many-step (λ j. P j && Q j) k n,
      many-step (λ j. P j && not (Q j)) k n,
      either (P k) (Q k),
    )
  where
    either : (p q : Bool) → one p ≡ one (p && q) + one (p && not q)
    either true true = refl
    either true false = refl
    either false q = refl

pub full-length : (N : Netlist) (rs : List Run) (l from : ℕ) → 1 ≤ from → paths_up_to N l (path_total N) ≡ held_up_to N (in_runs rs) l (path_total N)
    → next_untested_of N rs l from ≡ 0
unfolding paths_up_to held_up_to how_many next_untested_of
full-length N rs l from low e =
    let T : ℕ = path_total N in
    let none : how_many (untested N rs l) T ≡ 0 = omega (arith, e, two-parts (of_length N l) (in_runs rs) T 1) in
    first-none (untested N rs l) (suc T - from) from (λ j a b. how_many-zero (untested N rs l) T none j (omega arith) (omega arith))

module _ (N : Netlist) (rs : List Run) where
  pub longest_none : (l from : ℕ) → 0 < l → next_untested_of N rs l from ≡ 0 → longest_from N rs l from ≡ longest_from N rs (l - 1) 1
  unfolding longest_from
  longest_none zero from h e = absurd (omega arith)
  longest_none (suc l) from h e =
      let z : suc l - 1 ≡ l = omega arith in
      go ∙ ap (λ k. longest_from N rs k 1) (sym z)
    where
      go : longest_from N rs (suc l) from ≡ longest_from N rs l 1
      go = rw (eq-eqb (next_untested_of N rs (suc l) from) 0 e, longest_from) refl

  pub longest_found : (l from : ℕ) → 0 < l → (next_untested_of N rs l from ≡ 0 → ⊥) → longest_from N rs l from ≡ record { gates = l; path = next_untested_of N rs l from }
  unfolding longest_from
  longest_found zero from h n = absurd (omega arith)
  longest_found (suc l) from h n = rw (ne_eqb (next_untested_of N rs (suc l) from) 0 n, longest_from) refl
