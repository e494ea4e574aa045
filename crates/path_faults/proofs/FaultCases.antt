-- The cases of a path number's fault, and of a fault number's edge.
use Rattle.model.proofs.Prelude.{ℕ, ◌≤◌, ◌<◌, ◌-◌, ◌*◌, ◌^◌, ◌%◌, ◌≡◌, refl, rules, le-leb, lt-leb, ne_eqb, eq-eqb}
use Rattle.model.specs.Base.{refused, value}
use Rattle.model.specs.Path.{rising, falling, fault_number, edge_of_fault}
use Rattle.model.specs.Path as model
use Rattle.path_faults.specs.Answers.{model_edge, fault_call_of}
use Rattle.path_faults.specs.declared.Edge.{Edge}
use Rattle.path_faults.specs.declared.Edge.TheVariants as edge

pub fault-zero : (e : model.Edge) (i : ℕ) → i < 1 → refused 60 ≡ fault_call_of e i
unfolding fault_call_of
fault-zero e i h = simp (lt-leb 1 i h)

module _ (i : ℕ) (a : 1 ≤ i) where
  pub fault-over : (e : model.Edge) → 2 ^ 62 < i → refused 60 ≡ fault_call_of e i
  unfolding fault_call_of
  fault-over e h = simp (le-leb 1 i a, lt-leb i (2 ^ 62) h)

  module _ (b : i ≤ 2 ^ 62) (e : Edge) where
    pub fault-rising : e ≡ edge.Rising → value (2 * i - 1) ≡ fault_call_of (model_edge e) i
    unfolding fault_call_of fault_number
    fault-rising h = simp (le-leb 1 i a, le-leb i (2 ^ 62) b, h)

    pub fault-falling : e ≡ edge.Falling → value (2 * i) ≡ fault_call_of (model_edge e) i
    unfolding fault_call_of fault_number
    fault-falling h = simp (le-leb 1 i a, le-leb i (2 ^ 62) b, h)

pub edge-odd : (f : ℕ) → f % 2 ≡ 1 → rising ≡ edge_of_fault f
edge-odd f h = rw (eq-eqb (f % 2) 1 h, edge_of_fault) refl

pub edge-even : (f : ℕ) → (f % 2 ≡ 1 → ⊥) → falling ≡ edge_of_fault f
edge-even f h = rw (ne_eqb (f % 2) 1 h, edge_of_fault) refl

pub ruleset fault-cases = (fault-zero, fault-over, fault-rising, fault-falling, edge-odd, edge-even, rules)
