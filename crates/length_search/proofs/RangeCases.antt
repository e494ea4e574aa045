-- The cases of one range of path numbers, and of the ranges between runs.
use Rattle.model.proofs.Prelude.{ℕ, ◌≤◌, ◌<◌, ◌+◌, ◌-◌, suc, ◌≡◌, ◌∙◌, ap, refl, sym, true, Bool, false, ◌&&◌, not, and-false, and-true, List, []}
use Rattle.model.proofs.Prelude.{◌∷◌, arith, rules}
use Rattle.model.specs.Base.{value}
use Rattle.model.specs.Netlist.{Netlist}
use Rattle.model.specs.Runs.{Run, Separated, in_runs}
use Rattle.model.specs.Read.{read_netlist}
use Rattle.model.proofs.AnswerLaws.{value_inj}
use Rattle.netlist.specs.declared.inner.Shape.{Shape}
use Rattle.run_lists.proofs.MemberLaws.{member-in, inside-in, inside-lt, inside-gt, below}
use Rattle.length_rows.specs.Lengths.{lengths, of_length, paths_up_to}
use Rattle.length_ranks.specs.NetRows.{Ranked}
use Rattle.length_search.specs.Untested.{first_from, first_of, untested}
use Rattle.length_search.specs.Tasks.{Somewhere}
use Rattle.length_search.proofs.FirstLaws.{first-none, first-skip, first-take, first-same, none_between}

-- ---- one range

module _ {file ps cs : List ℕ} {shape : Shape} {rows : List (List ℕ)} {l from last : ℕ} (r : Ranked file ps cs shape rows last) (short : l < lengths)
    (low : 1 ≤ from) where
  abbrev N : Netlist
  N = r.known.circuit

  legal : read_netlist file ≡ value N
  legal = r.known.tables.legal

  every : (x : ℕ) → x ≡ first_of (of_length N l) from last → (M : Netlist) → read_netlist file ≡ value M → x ≡ first_of (of_length M l) from last
  every x e M k = e ∙ ap (λ (K : Netlist). first_of (of_length K l) from last) (value_inj (sym legal ∙ k))

  pub range-empty : last < from → (M : Netlist) → read_netlist file ≡ value M → 0 ≡ first_of (of_length M l) from last
  range-empty h = every 0 (sym (first-none (of_length N l) (suc last - from) from (λ j a b. absurd (omega arith))))

  module _ (order : from ≤ last) where
    pub range-ranked : Ranked file ps cs shape rows (from - 1)
    range-ranked = record { known = r.known; high = omega (arith, r.high) }

    module _ (before there : ℕ) (fb : (M : Netlist) → read_netlist file ≡ value M → before ≡ paths_up_to M l (from - 1))
        (ft : (M : Netlist) → read_netlist file ≡ value M → there ≡ paths_up_to M l last) where
      pub range_none : there ≤ before → (M : Netlist) → read_netlist file ≡ value M → 0 ≡ first_of (of_length M l) from last
      unfolding paths_up_to
      range_none h =
          every 0
          (sym (first-none (of_length N l) (suc last - from) from
          (λ j a b. none_between (of_length N l) (from - 1) last (omega arith) (omega (arith, fb N legal, ft N legal)) j (omega arith) (omega arith))))

      pub range-some : before < there → Somewhere file ps cs shape rows l (from - 1) last
      range-some h = record { ranked = r; short = short; order = omega arith; some = omega (arith, fb N legal, ft N legal) }

    pub range-found : (x : ℕ) → ((M : Netlist) → read_netlist file ≡ value M → x ≡ first_of (of_length M l) (from - 1 + 1) last)
        → (M : Netlist) → read_netlist file ≡ value M → x ≡ first_of (of_length M l) from last
    range-found x f M k = let z : from - 1 + 1 ≡ from = omega arith in f M k ∙ ap (λ y. first_of (of_length M l) y last) z

pub ruleset range-cases = (range-empty, range-ranked, range_none, range-some, range-found, rules)

-- ---- runs and the ranges between them

module _ (N : Netlist) (l T : ℕ) where
  -- in no run, a path is untested where it has the length
  pub past_all : (from : ℕ) → first_of (of_length N l) from T ≡ first_of (untested N [] l) from T
  unfolding in_runs
  past_all from = first-same (of_length N l) (untested N [] l) (suc T - from) from (λ j a b. sym (and-true (of_length N l j)))

  module _ (r : Run) (rs : List Run) {least : ℕ} (s : Separated T least (r ∷ rs)) (from : ℕ) (low : 1 ≤ from) where
    after : (j : ℕ) → r.high < j → untested N (r ∷ rs) l j ≡ untested N rs l j
    after j h =
        let e : in_runs (r ∷ rs) j ≡ in_runs rs j = sym (member-in j (r ∷ rs)) ∙ rw (inside-gt j r h) (member-in j rs) in
        ap (λ (b : Bool). of_length N l j && not b) e

    inside : (j : ℕ) → r.low ≤ j → j ≤ r.high → untested N (r ∷ rs) l j ≡ false
    inside j a b =
        let e : in_runs (r ∷ rs) j ≡ true = sym (member-in j (r ∷ rs)) ∙ rw (inside-in j r a b) refl in
        ap (λ (x : Bool). of_length N l j && not x) e ∙ and-false (of_length N l j)

    before : (j : ℕ) → j < r.low → untested N (r ∷ rs) l j ≡ of_length N l j
    before j h =
        let e : in_runs (r ∷ rs) j ≡ false = sym (member-in j (r ∷ rs)) ∙ rw (inside-lt j r h) (below (r.high + 2) T j rs s.3 (omega (arith, s.1))) in
        ap (λ (x : Bool). of_length N l j && not x) e ∙ and-true (of_length N l j)

    -- a run that lies before the number does not matter
    pub past-run : r.high < from → first_of (untested N (r ∷ rs) l) from T ≡ first_of (untested N rs l) from T
    past-run h = first-same (untested N (r ∷ rs) l) (untested N rs l) (suc T - from) from (λ j a b. after j (omega arith))

    -- the numbers before the run, in parts
    shut : (a n : ℕ) → r.low ≤ a → a + n ≤ suc r.high → first_from (untested N (r ∷ rs) l) a n ≡ 0
    shut a n x y = first-none (untested N (r ∷ rs) l) n a (λ j p q. inside j (omega arith) (omega arith))

    free : first_of (untested N (r ∷ rs) l) from (r.low - 1) ≡ first_of (of_length N l) from (r.low - 1)
    free = first-same (untested N (r ∷ rs) l) (of_length N l) (suc (r.low - 1) - from) from (λ j a b. before j (omega arith))

    module _ (here : from ≤ r.high) where
      abbrev P : ℕ → Bool
      P = untested N (r ∷ rs) l

      -- one before the run is the first of all
      pub found_before : 1 ≤ first_of (of_length N l) from (r.low - 1) → first_of (of_length N l) from (r.low - 1) ≡ first_of P from T
      found_before h =
          let m : ℕ = suc (r.low - 1) - from in
          let n : ℕ = suc T - from - m in
          let z : m + n ≡ suc T - from = omega (arith, s.1, s.2) in
          sym free ∙ sym (first-take P m n from (omega (arith, free))) ∙ ap (first_from P from) z

      -- none before the run: the search goes on after it
      pub none_before : first_of (of_length N l) from (r.low - 1) ≡ 0 → first_of P from T ≡ first_of (untested N rs l) (r.high + 1) T
      none_before h =
          let m : ℕ = suc (r.low - 1) - from in
          let n : ℕ = suc r.high - (from + m) in
          let z : m + (n + (suc T - (r.high + 1))) ≡ suc T - from = omega (arith, s.1, s.2) in
          let y : from + m + n ≡ r.high + 1 = omega (arith, s.1) in
          sym (ap (first_from P from) z)
          ∙ first-skip P m (n + (suc T - (r.high + 1))) from low (free ∙ h)
          ∙ first-skip P n (suc T - (r.high + 1)) (from + m) (omega arith) (shut (from + m) n (omega arith) (omega arith))
          ∙ ap (λ k. first_from P k (suc T - (r.high + 1))) y
          ∙ first-same P (untested N rs l) (suc T - (r.high + 1)) (r.high + 1) (λ j a b. after j (omega arith))
