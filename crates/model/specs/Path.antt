-- Paths, faults and their numbers.
use Rattle.std.specs.Prelude.{Bool, true, false, ◌&&◌, not, List, [], ◌∷◌, ℕ, zero, suc, ◌+◌, ◌-◌, ◌*◌, ◌/◌, ◌%◌, ltb, leb, eqb, length, take}
use Rattle.model.specs.Base.{sum_of}
use Rattle.model.specs.Netlist.{Netlist, is_input, pins_of, pin_net, pin_counts, output_net, output_counts}

-- A path: an output's place (from 0) and the pins (from 0 in each gate) taken from that output back to an input
pub record CircuitPath : Type 0 where
  pub output : ℕ
  pub pins : List ℕ

pub data Edge : Type 0 where
  rising falling : Edge

-- A fault: an output, the pins of its path and an edge
pub record Fault : Type 0 where
  pub path : CircuitPath
  pub edge : Edge

-- A partial path: the pins lead from `net` back to an input. An input has one, with no pins
unfoldable pub valid_at : Netlist → ℕ → List ℕ → Bool
valid_at N net [] = is_input N net
valid_at N net (p ∷ ps) = not (is_input N net) && ltb p (length (pins_of N net)) && valid_at N (pin_net N net p) ps

-- it is a path of the netlist: it has at least one pin, so that a wire from an input to an output is none
unfoldable pub valid : Netlist → CircuitPath → Bool
valid N p = ltb p.output (length N.outputs) && ltb 0 (length p.pins) && valid_at N (output_net N p.output) p.pins

-- the counts before place `p`, without that of place `p` itself
abbrev pub counts_before : ℕ → List ℕ → ℕ
counts_before p cs = sum_of (take p cs)

-- A partial path at an input has number 1. At a gate, taken through pin p, it has its number at the net of pin p plus the counts of the
-- gate's pins before p
unfoldable pub number_at : Netlist → ℕ → List ℕ → ℕ
number_at N net [] = 1
number_at N net (p ∷ ps) = number_at N (pin_net N net p) ps + counts_before p (pin_counts N net)

-- A path's number adds the counts of the earlier outputs
unfoldable pub number_of : Netlist → CircuitPath → ℕ
number_of N p = number_at N (output_net N p.output) p.pins + counts_before p.output (output_counts N)

-- the place into whose count number `k` falls, and the number there
unfoldable pub split : List ℕ → ℕ → ℕ × ℕ
split [] k = (0, k)
split (c ∷ cs) k = elim (leb k c) [ true ↦ (0, k) | false ↦ (suc (split cs (k - c)).0, (split cs (k - c)).1) ]

-- The partial path of number `k` at `net`, each step at a lower net. `fuel` bounds the steps; the net itself is enough
unfoldable pub path_at : Netlist → ℕ → ℕ → ℕ → List ℕ
path_at N zero net k = []
path_at N (suc fuel) net k =
    elim (is_input N net) [
      | true ↦ []
      | false ↦ (split (pin_counts N net) k).0 ∷ path_at N fuel (pin_net N net (split (pin_counts N net) k).0) (split (pin_counts N net) k).1
    ]

-- The path of a number, found from the output back
unfoldable pub path_of : Netlist → ℕ → CircuitPath
path_of N k =
    let o = (split (output_counts N) k).0 in
    record { output = o; pins = path_at N (output_net N o) (output_net N o) (split (output_counts N) k).1 }

-- Path i has faults 2i - 1 (rising at its input) and 2i (falling)
unfoldable pub fault_number : Edge → ℕ → ℕ
fault_number rising i = 2 * i - 1
fault_number falling i = 2 * i

-- back again: the edge and the path number of a fault number
abbrev pub edge_of_fault : ℕ → Edge
edge_of_fault f = elim (eqb (f % 2) 1) [ true ↦ rising | false ↦ falling ]

abbrev pub path_of_fault : ℕ → ℕ
path_of_fault f = (f + 1) / 2
