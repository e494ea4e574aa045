-- The call for one fault: fault numbers are 2i - 1 and 2i, and the answer is the store's runs at the path's number.
use Rattle.model.proofs.Prelude.{ℕ, ◌≤◌, ◌-◌, ◌*◌, ◌%◌, ◌≡◌, refl, ap₂, true, List, [], ◌∷◌, ◌++◌, length, leb, T, eqb, le→leb, arith}
use Rattle.model.specs.Base.{value, checks, Rule}
use Rattle.model.specs.Netlist.{Netlist, path_total}
use Rattle.model.specs.Path.{Edge, rising, falling, fault_number, edge_of_fault, path_of_fault}
use Rattle.model.specs.Runs.{in_runs}
use Rattle.model.specs.Read.{read_netlist, within}
use Rattle.model.specs.Store.{store_rules, store_words_count, store_runs}
use Rattle.model.specs.Calls.{fault_call, store_rule}
use Rattle.model.proofs.BoolLaws.{T→true, eq→eqb, both}
use Rattle.model.proofs.AnswerLaws.{AllPass, →checks, pass_both}

pub path-of_fault : (e : Edge) (i : ℕ) → 1 ≤ i → path_of_fault (fault_number e i) ≡ i
unfolding fault_number
path-of_fault rising i h = omega arith
path-of_fault falling i h = omega arith

pub edge-of_fault : (e : Edge) (i : ℕ) → 1 ≤ i → edge_of_fault (fault_number e i) ≡ e
unfolding fault_number
edge-of_fault rising i h =
    let q : eqb ((2 * i - 1) % 2) 1 ≡ true = T→true (eqb ((2 * i - 1) % 2) 1) (eq→eqb ((2 * i - 1) % 2) 1 (omega arith)) in
    rw (q, edge_of_fault) refl
edge-of_fault falling i h =
    let z : 2 * i % 2 ≡ 0 = omega arith in
    rw (z, edge_of_fault) refl

fault-range : (e : Edge) (i t : ℕ) → 1 ≤ i → i ≤ t → T (within 1 (2 * t) (fault_number e i))
unfolding fault_number
fault-range rising i t h l = both (leb 1 (2 * i - 1)) (leb (2 * i - 1) (2 * t)) (le→leb 1 (2 * i - 1) (omega arith)) (le→leb (2 * i - 1) (2 * t) (omega arith))
fault-range falling i t h l = both (leb 1 (2 * i)) (leb (2 * i) (2 * t)) (le→leb 1 (2 * i) (omega arith)) (le→leb (2 * i) (2 * t) (omega arith))

-- asked for the fault of path i and an edge, a sound store answers whether i lies in a run of that edge
pub fault-held : (file : List ℕ) (N : Netlist) → read_netlist file ≡ value N → (ws : List ℕ) → length ws ≡ store_words_count → AllPass (store_rules (path_total N) ws)
    → (e : Edge) (i : ℕ) → 1 ≤ i → i ≤ path_total N → fault_call file ws (fault_number e i) ≡ value (in_runs (store_runs ws e) i)
unfolding fault_call
fault-held file N q ws l p e i h m =
    let f : ℕ = fault_number e i in
    let a : checks (store_rule ws ∷ []) ≡ value tt = →checks (store_rule ws ∷ []) (rw l tt, tt) in
    let rules : List Rule = store_rules (path_total N) ws ++ ((60, within 1 (2 * path_total N) f) ∷ []) in
    let b : checks rules ≡ value tt =
    →checks rules (pass_both (store_rules (path_total N) ws) ((60, within 1 (2 * path_total N) f) ∷ []) p (fault-range e i (path_total N) h m, tt)) in
    rw (a, q) (rw b (ap₂ (λ (d : Edge) (k : ℕ). value (in_runs (store_runs ws d) k)) (edge-of_fault e i h) (path-of_fault e i h)))
