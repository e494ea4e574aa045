-- Live nets: an input is live when it makes the edge, a gate's net when one of its pins is active; a net with no runs is not live.
use Rattle.model.proofs.Prelude.{ℕ, ◌≤◌, ◌<◌, ◌+◌, suc, zero, ◌≡◌, ◌∙◌, ap, refl, sym, subst, true, Bool, false, ◌&&◌, ◌||◌, or-false, List, [], ◌∷◌}
use Rattle.model.proofs.Prelude.{length, get_or, T, eqb, arith}
use Rattle.model.specs.Base.{any_of, numbers_from}
use Rattle.model.specs.Netlist.{Netlist, nets, counts, pins_of, pin_net, pin_counts}
use Rattle.model.specs.Path.{counts_before, split}
use Rattle.model.specs.Runs.{Run, add_number, runs_from, runs_among}
use Rattle.model.proofs.BoolLaws.{and_left, and_right, both}
use Rattle.model.proofs.ListLaws.{some_of, any_of_lem}
use Rattle.model.proofs.WellFormed.{WellFormed}
use Rattle.model.proofs.NetLaws.{count-input, count-gate}
use Rattle.model.proofs.NumberLaws.{splits, counts_before-le, length-pin_counts, pin_counts-at}
use Rattle.detection.specs.Cases.{Case, in_set, set_runs_of}
use Rattle.detection.proofs.SetLaws.{set-input, set-gate}
use Rattle.block_words.specs.Block.{live_net, active_pin}

same_test : (a b : Bool) → (T a → T b) → (T b → T a) → a ≡ b
same_test true true f g = refl
same_test true false f g = absurd (f tt)
same_test false true f g = absurd (g tt)
same_test false false f g = refl

module _ (K : Case) (w : WellFormed K.netlist) where
  abbrev N : Netlist
  N = K.netlist

  pub live-input : (net : ℕ) → net < N.inputs → live_net K net ≡ K.makes_edge net
  unfolding live_net
  live-input net i =
      ap (λ n. any_of (in_set K net) (numbers_from 1 n)) (count-input N net i)
      ∙ or-false (in_set K net 1) ∙ set-input K w net 1 i

  module _ (net : ℕ) (i : K.netlist.inputs ≤ net) (l : net < nets K.netlist) where
    forth : T (live_net K net) → T (any_of (active_pin K net) (numbers_from 0 (length (pins_of N net))))
    unfolding live_net active_pin
    forth u =
        let s = some_of (in_set K net) (get_or (counts N) net 0) 1 u in
        let k = s.place in
        let z = splits (pin_counts N net) k s.low (omega (arith, s.high, count-gate N w.lower_pins net i l)) in
        let p = (split (pin_counts N net) k).0 in
        let r = (split (pin_counts N net) k).1 in
        let j : p < length (pins_of N net) = rw (length-pin_counts N w net) at z.place in
        let h : r ≤ get_or (counts N) (pin_net N net p) 0 = rw (pin_counts-at N w net p j) at z.high in
        let q : T (K.is_open net p && in_set K (pin_net N net p) r) =
        subst (λ b. T b) (ap (in_set K net) (sym z.whole) ∙ set-gate K w net p r i l j z.low h) s.passes in
        any_of_lem (active_pin K net) (length (pins_of N net)) 0 p (omega arith) (omega arith)
        (both (K.is_open net p) (live_net K (pin_net N net p)) (and_left (K.is_open net p) (in_set K (pin_net N net p) r) q)
        (any_of_lem (in_set K (pin_net N net p)) (get_or (counts N) (pin_net N net p) 0) 1 r z.low (omega arith)
        (and_right (K.is_open net p) (in_set K (pin_net N net p) r) q)))

    back : T (any_of (active_pin K net) (numbers_from 0 (length (pins_of N net)))) → T (live_net K net)
    unfolding live_net active_pin
    back u =
        let s = some_of (active_pin K net) (length (pins_of N net)) 0 u in
        let p = s.place in
        let j : p < length (pins_of N net) = omega (arith, s.high) in
        let o = and_left (K.is_open net p) (live_net K (pin_net N net p)) s.passes in
        let v = some_of (in_set K (pin_net N net p)) (get_or (counts N) (pin_net N net p) 0) 1
        (and_right (K.is_open net p) (live_net K (pin_net N net p)) s.passes) in
        let r = v.place in
        let h : r ≤ get_or (counts N) (pin_net N net p) 0 = omega (arith, v.high) in
        let b = counts_before p (pin_counts N net) in
        let m = counts_before-le (pin_counts N net) p (rw (length-pin_counts N w net) j) in
        any_of_lem (in_set K net) (get_or (counts N) net 0) 1 (r + b) (omega (arith, v.low))
        (omega (arith, m, h, pin_counts-at N w net p j, count-gate N w.lower_pins net i l))
        (subst (λ c. T c) (sym (set-gate K w net p r i l j v.low h))
        (both (K.is_open net p) (in_set K (pin_net N net p) r) o v.passes))

    pub live-gate : live_net K net ≡ any_of (active_pin K net) (numbers_from 0 (length (pins_of N net)))
    live-gate = same_test (live_net K net) (any_of (active_pin K net) (numbers_from 0 (length (pins_of N net)))) forth back

-- runs: a set with no number has none, another has some
not_none : (k : ℕ) (rs : List Run) → add_number k rs ≡ [] → ⊥
unfolding add_number
not_none k [] q = absurd (clash q)
  where
    clash : {r : Run} {rs : List Run} → r ∷ rs ≡ [] → ⊥
    clash q = let z : ◌≡◌ {A = ℕ} 1 0 = ap some q in omega arith
      where
        some : List Run → ℕ
        some [] = 0
        some (r ∷ rs) = 1
not_none k (r ∷ rs) q = go (eqb r.low (suc k)) q
  where
    clash : {r : Run} {rs : List Run} → r ∷ rs ≡ [] → ⊥
    clash q = let z : ◌≡◌ {A = ℕ} 1 0 = ap some q in omega arith
      where
        some : List Run → ℕ
        some [] = 0
        some (r ∷ rs) = 1

    go : (b : Bool) → ◌≡◌ {A = List Run} (elim b [ true ↦ record { low = k; high = r.high } ∷ rs | false ↦ record { low = k; high = k } ∷ r ∷ rs ]) [] → ⊥
    go true q = clash q
    go false q = clash q

pub no-runs : (P : ℕ → Bool) (n k : ℕ) → any_of P (numbers_from k n) ≡ false → runs_from P k n ≡ []
unfolding runs_from
no-runs P zero k q = refl
no-runs P (suc n) k q = go (P k) (any_of P (numbers_from (suc k) n)) q (no-runs P n (suc k))
  where
    go : (b a : Bool) → (b || a) ≡ false → (a ≡ false → runs_from P (suc k) n ≡ [])
        → ◌≡◌ {A = List Run} (elim b [ true ↦ add_number k (runs_from P (suc k) n) | false ↦ runs_from P (suc k) n ]) []
    go true a q f = absurd (mathlib.Core.Bool.true≢false q)
    go false a q f = f q

pub some_runs : (P : ℕ → Bool) (n k : ℕ) → any_of P (numbers_from k n) ≡ true → runs_from P k n ≡ [] → ⊥
unfolding runs_from
some_runs P zero k q z = mathlib.Core.Bool.false≢true q
some_runs P (suc n) k q z = go (P k) (any_of P (numbers_from (suc k) n)) q (some_runs P n (suc k)) z
  where
    go : (b a : Bool) → (b || a) ≡ true → (a ≡ true → runs_from P (suc k) n ≡ [] → ⊥)
        → ◌≡◌ {A = List Run} (elim b [ true ↦ add_number k (runs_from P (suc k) n) | false ↦ runs_from P (suc k) n ]) [] → ⊥
    go true a q f z = not_none k (runs_from P (suc k) n) z
    go false a q f z = f q z

-- live is: the net's set has runs
pub dead_runs : (K : Case) (net : ℕ) → live_net K net ≡ false → set_runs_of K net ≡ []
unfolding live_net set_runs_of runs_among
dead_runs K net q = no-runs (in_set K net) (get_or (counts K.netlist) net 0) 1 q

pub live-runs : (K : Case) (net : ℕ) → live_net K net ≡ true → set_runs_of K net ≡ [] → ⊥
unfolding live_net set_runs_of runs_among
live-runs K net q = some_runs (in_set K net) (get_or (counts K.netlist) net 0) 1 q
