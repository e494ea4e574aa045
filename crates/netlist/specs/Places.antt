-- Where the records of a legal netlist's gates and outputs stand in its file.
use Rattle.std.specs.Prelude.{ℕ, zero, suc, List, [], ◌∷◌, ◌++◌, length, drop, replicate}
use Rattle.model.specs.Base.{field}
use Rattle.model.specs.Netlist.{Netlist}
use Rattle.model.specs.Calls.{padded}
use Rattle.netlist_gates.specs.GateReading.{starts}

-- the position of the record of the gate that drives each net; 0 for the inputs and past the last net
unfoldable pub positions : List ℕ → Netlist → List ℕ
positions file N = padded (replicate N.inputs 0 ++ starts (length N.gates) 8 file)

-- the nets that `n` outputs' records (4F 55) name, the first record at the beginning of `bs`
unfoldable pub outputs_from : ℕ → List ℕ → List ℕ
outputs_from zero bs = []
outputs_from (suc n) bs = field 2 2 bs ∷ outputs_from n (drop 4 bs)
