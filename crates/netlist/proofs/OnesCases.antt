-- The counts of the inputs, one at a time.
use Rattle.model.proofs.Prelude.{ℕ, ◌≤◌, ◌<◌, ◌+◌, ◌≡◌, List, set, replicate, length-replicate, arith, rules}
use lib.ListN.{replicate-append-replicate}
use Rattle.model.specs.Calls.{padded}
use Rattle.netlist_gates.specs.GateReading.{zeros}
use Rattle.netlist_gates.proofs.PaddedLaws.{pad_set}

pub ones_none : (array : List ℕ) → array ≡ zeros → array ≡ padded (replicate 0 1)
unfolding padded zeros
ones_none array e = e

pub ones-more : (array : List ℕ) (i inputs : ℕ) → i < inputs → inputs ≤ 512 → array ≡ padded (replicate i 1) → set array i 1 ≡ padded (replicate (i + 1) 1)
ones-more array i inputs h k e = rw (e, ← replicate-append-replicate {A = ℕ} i 1 1) (pad_set (replicate i 1) i 1 (length-replicate i 1) (omega arith))

pub ones-all : (array : List ℕ) (i inputs : ℕ) → i ≤ inputs → inputs ≤ i → array ≡ padded (replicate i 1) → array ≡ padded (replicate inputs 1)
ones-all array i inputs h k e = let p : i ≡ inputs = omega arith in rw p at e

pub ruleset ones-cases = (ones_none, ones-more, ones-all, rules)
