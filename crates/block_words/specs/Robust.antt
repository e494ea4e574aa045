-- A gate: its steadiness word, and in class 2 the robustly open word of a pin.
use Rattle.std.specs.Prelude.{◌≡◌, true, ◌&&◌, List, map, ℕ, ◌<◌, T, length, get_or}
use Rattle.model.specs.Base.{any_of, bit}
use Rattle.model.specs.Detect.{robust, Evaluation, no_evaluation, gate_steady, is_open}
use Rattle.model.specs.Read.{pins_fit, kind_of}
use Rattle.block_words.specs.Words.{unequal, noncontrolling_mask_of, pin_nets, TallyAt}
use Rattle.block_words.specs.declared.inner.gates.Gate.{Gate}
use Rattle.block_words.specs.declared.inner.gates.PinTally.{PinTally}

-- in record t, what evaluating a net yielded, by its three words
abbrev pub evaluation_at : ℕ → ℕ → ℕ → ℕ → Evaluation
evaluation_at v1 v2 steady t = record { under_v1 = bit v1 t; under_v2 = bit v2 t; steady = bit steady t }

-- one pin is steady at the controlling value
pub record SteadyControllingIs (table : List ℕ) (g : Gate) (lasts steadies : List ℕ) (r : ℕ) : Type 0 where
  pub at : (t : ℕ) → bit r t ≡ any_of (λ net. bit (get_or steadies net 0) t && unequal (bit g.noncontrolling_mask t) (bit (get_or lasts net 0) t)) (pin_nets table g)

-- the steadiness word of a gate, whatever the nets at its pins: `unsteady` where one or more are not steady
pub record SteadyIs (kind unsteady steady_controlling_of r : ℕ) : Type 0 where
  pub at : (ns : List Evaluation) (t : ℕ) → t < 64 → bit unsteady t ≡ any_of (unequal true) (map (λ n. n.steady) ns)
      → bit steady_controlling_of t ≡ any_of (λ n. n.steady && unequal (bit (noncontrolling_mask_of (kind_of kind)) t) n.under_v2) ns
      → bit r t ≡ gate_steady (kind_of kind) ns

-- the robustly open word of a pin, whatever the nets at the gate's pins
pub record RobustIs (kind : ℕ) (last unsteady : PinTally) (v1 v2 steady r : ℕ) : Type 0 where
  pub at : (ns : List Evaluation) (p t : ℕ) → t < 64 → p < length ns → T (pins_fit kind (length ns))
      → TallyAt (map (λ n. n.under_v2) ns) (bit (noncontrolling_mask_of (kind_of kind)) t) last t → TallyAt (map (λ n. n.steady) ns) true unsteady t
      → evaluation_at v1 v2 steady t ≡ get_or ns p no_evaluation → bit r t ≡ is_open robust (kind_of kind) ns p
