-- The first fault that is not held is the lower one of the first of each edge.
use Rattle.model.proofs.Prelude.{ℕ, ◌≤◌, ◌<◌, ◌+◌, ◌^◌, ◌/◌, ◌%◌, ◌≡◌, ◌∙◌, ap, refl, sym, subst, ap₂, ⊎_elim, true, Bool, false, List, eqb, eqb→eq}
use Rattle.model.proofs.Prelude.{arith, rules, le-leb, lt-leb, eqb-false}
use Rattle.model.specs.Base.{refused, value}
use Rattle.model.specs.Path.{Edge, rising, falling, fault_number, edge_of_fault, path_of_fault}
use Rattle.model.specs.Runs.{in_runs}
use Rattle.model.specs.Store.{store_runs}
use Rattle.model.proofs.BoolLaws.{bool_cases, true→T, cases}
use Rattle.model.proofs.AnswerLaws.{value_inj, not_refused}
use Rattle.model.proofs.FaultCallLaws.{edge-of_fault, path-of_fault}
use Rattle.path_faults.specs.Answers.{model_edge, fault_call_of, fault_answer}
use Rattle.path_faults.specs.declared.Edge as Code
use Rattle.path_faults.specs.declared.Edge.TheVariants as at
use Rattle.exhaust_undetected.specs.Undetected.{held_number}
use Rattle.exhaust_undetected.specs.Searches.{FirstFree, FirstNotHeld, FirstFault}
use Rattle.std.specs.Prelude.{Result, Ok, Err}
use Rattle.model.specs.declared.Refusal.{Refusal}
use Rattle.path_faults.specs.declared.FaultNo.{FaultNo}

-- the edges are two
not_falling : Edge → Type 0
not_falling rising = Unit {0}
not_falling falling = ⊥

two_edges : rising ≡ falling → ⊥
unfolding not_falling
two_edges e = subst not_falling e tt

-- an odd number is that of a rising fault, an even one that of a falling one
odd-fault : (f : ℕ) → rising ≡ edge_of_fault f → f % 2 ≡ 1
odd-fault f e =
    ⊎_elim
    (λ (q : eqb (f % 2) 1 ≡ true). eqb→eq (f % 2) 1 (true→T (eqb (f % 2) 1) q))
    (λ (q : eqb (f % 2) 1 ≡ false). absurd (two_edges (e ∙ rw (q, edge_of_fault) refl)))
    (bool_cases (eqb (f % 2) 1))

even-fault : (f : ℕ) → falling ≡ edge_of_fault f → f % 2 ≡ 0
even-fault f e =
    ⊎_elim
    (λ (q : eqb (f % 2) 1 ≡ true). absurd (two_edges (sym (e ∙ rw (q, edge_of_fault) refl))))
    (λ (q : eqb (f % 2) 1 ≡ false). omega (arith, eqb-false (f % 2) 1 q))
    (bool_cases (eqb (f % 2) 1))

-- the first path whose rising fault is not before fault `f`, as the code finds it from its path and edge
module _ (f p : ℕ) (d : Code.Edge) (is : p ≡ path_of_fault f) (e : model_edge d ≡ edge_of_fault f) where
  pub from-rising : d ≡ at.Rising → p ≡ f / 2 + 1
  from-rising q = let o : f % 2 ≡ 1 = odd-fault f (sym (ap model_edge q) ∙ e) in omega arith

  pub from-falling : d ≡ at.Falling → p + 1 ≡ f / 2 + 1
  from-falling q = let o : f % 2 ≡ 0 = even-fault f (sym (ap model_edge q) ∙ e) in omega arith

-- a fault is held where its path is, on its edge
pub held_by : (ws : List ℕ) (k : ℕ) (b : Bool) → (k % 2 ≡ 1 → in_runs (store_runs ws rising) (path_of_fault k) ≡ b)
    → (k % 2 ≡ 0 → in_runs (store_runs ws falling) (path_of_fault k) ≡ b) → held_number ws k ≡ b
held_by ws k b odd even =
    ⊎_elim
    (λ (q : eqb (k % 2) 1 ≡ true). rw (q, edge_of_fault) (odd (eqb→eq (k % 2) 1 (true→T (eqb (k % 2) 1) q))))
    (λ (q : eqb (k % 2) 1 ≡ false). rw (q, edge_of_fault) (even (omega (arith, eqb-false (k % 2) 1 q))))
    (bool_cases (eqb (k % 2) 1))

-- the number of a path's fault, of up to 2^62 paths
number_is : (e : Edge) (i : ℕ) → 1 ≤ i → i ≤ 2 ^ 62 → fault_call_of e i ≡ value (fault_number e i)
unfolding fault_call_of
number_is e i a b = simp (le-leb 1 i a, le-leb i (2 ^ 62) b)

number-over : (e : Edge) (i : ℕ) → 1 ≤ i → 2 ^ 62 < i → fault_call_of e i ≡ refused 60
unfolding fault_call_of
number-over e i a b = simp (le-leb 1 i a, lt-leb i (2 ^ 62) b)

-- from the first path of an edge whose fault is not held, where every fault from `from` on that is lower is held
found-fault : (r : Result FaultNo Refusal) (ws : List ℕ) (from : ℕ) (e : Edge) (p : ℕ) → 1 ≤ p → fault_answer r ≡ fault_call_of e p → from ≤ fault_number e p
    → ((k : ℕ) → from ≤ k → k < fault_number e p → held_number ws k ≡ true) → in_runs (store_runs ws e) p ≡ false
    → (2 ^ 62 < p → 2 ^ 63 < fault_number e p) → FirstFault r ws from
found-fault (Ok f) ws from e p l a h b n o =
    cases p (2 ^ 62)
    (λ (m : p ≤ 2 ^ 62).
    let is : f.0 ≡ fault_number e p = value_inj (a ∙ number_is e p l m) in
    let free : held_number ws (fault_number e p) ≡ false =
    ap₂ (λ (d : Edge) (k : ℕ). in_runs (store_runs ws d) k) (edge-of_fault e p l) (path-of_fault e p l) ∙ n in
    subst (λ (k : ℕ). FirstNotHeld k ws from) (sym is) (record { not_before = h; passed = b; is_free = free }))
    (λ (m : 2 ^ 62 < p). absurd (not_refused (sym (a ∙ number-over e p l m))))
found-fault (Err w) ws from e p l a h b n o =
    cases p (2 ^ 62)
    (λ (m : p ≤ 2 ^ 62). absurd (not_refused (a ∙ number_is e p l m)))
    (λ (m : 2 ^ 62 < p). λ k i j. b k i (omega (arith, o m)))

module _ (ws : List ℕ) (from r s i j : ℕ) (low : 1 ≤ from) (up : FirstFree r (store_runs ws rising) i) (down : FirstFree s (store_runs ws falling) j)
    (p : i ≡ from / 2 + 1) (q : j ≡ path_of_fault from) where
  pub rising-first : (a : Result FaultNo Refusal) → fault_answer a ≡ fault_call_of rising r → r ≤ s → FirstFault a ws from
  unfolding fault_number
  rising-first a t l =
      found-fault a ws from rising r (omega (arith, up.not_before)) t (omega (arith, up.not_before))
      (λ k h m.
      held_by ws k true
      (λ o. up.passed (path_of_fault k) (omega arith) (omega arith))
      (λ o. down.passed (path_of_fault k) (omega arith) (omega arith)))
      up.free (λ m. omega arith)

  pub falling-first : (a : Result FaultNo Refusal) → fault_answer a ≡ fault_call_of falling s → s < r → FirstFault a ws from
  unfolding fault_number
  falling-first a t l =
      found-fault a ws from falling s (omega (arith, down.not_before)) t (omega (arith, down.not_before))
      (λ k h m.
      held_by ws k true
      (λ o. up.passed (path_of_fault k) (omega arith) (omega arith))
      (λ o. down.passed (path_of_fault k) (omega arith) (omega arith)))
      down.free (λ m. omega arith)

pub ruleset first-cases = (from-rising, from-falling, rising-first, falling-first, rules)
