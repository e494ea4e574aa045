-- The names of the nets of a.bench text (document 02's ticket 2): its inputs' first in file order, then its gates' in file order.
use Rattle.std.specs.Prelude.{List, [], ℕ, get_or}
use Rattle.model.specs.Base.{Answer, refused, value}
use Rattle.bench_circuit.specs.Circuit.{Circuit, net_names, circuit_of}

-- a circuit's names; none where there is no circuit
abbrev pub names_in_of : Answer Circuit → List (List ℕ)
names_in_of (refused n) = []
names_in_of (value c) = net_names c

-- The names of a text's nets, in the order of their numbers; none of a text that the converter refuses
unfoldable pub names_of : List ℕ → List (List ℕ)
names_of text = names_in_of (circuit_of text)

-- The name of a net; no bytes where there is no such net
unfoldable pub name_of : List ℕ → ℕ → List ℕ
name_of text net = get_or (names_of text) net []
