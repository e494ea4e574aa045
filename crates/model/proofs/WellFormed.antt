-- What the laws need of a legal netlist: an input, lower pins, ascending outputs.
use Rattle.model.proofs.Prelude.{ℕ, suc, true, Bool, ◌&&◌, List, [], ◌∷◌, leb, T, ltb}
use Rattle.model.specs.Base.{all_of}
use Rattle.model.specs.Netlist.{Netlist, Gate, nets}

-- a gate's pins all name nets lower than its own; the first gate drives `net`
unfoldable pub lower : ℕ → List Gate → Bool
lower net [] = true
lower net (g ∷ gs) = all_of (λ n. ltb n net) g.pins && lower (suc net) gs

-- an ascending list of nets from `least` to below `n`
unfoldable pub ascending_nets : ℕ → ℕ → List ℕ → Bool
ascending_nets n least [] = true
ascending_nets n least (o ∷ os) = leb least o && ltb o n && ascending_nets n (suc o) os

pub record WellFormed (N : Netlist) : Type 0 where
  pub some_input : T (ltb 0 N.inputs)
  pub lower_pins : T (lower N.inputs N.gates)
  pub outputs_ok : T (ascending_nets (nets N) 0 N.outputs)
