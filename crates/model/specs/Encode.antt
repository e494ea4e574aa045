-- The bytes of a netlist file's parts and of a test record, as they are written.
use Rattle.std.specs.Prelude.{List, [], ◌∷◌, ◌++◌, ℕ, length}
use Rattle.model.specs.Base.{little_endian}

-- 4E 4C, I, G, U
unfoldable pub header_bytes : ℕ → ℕ → ℕ → List ℕ
header_bytes i g u = 0x4E ∷ 0x4C ∷ little_endian 2 i ++ little_endian 2 g ++ little_endian 2 u

-- nets of two bytes each
unfoldable pub net_bytes : List ℕ → List ℕ
net_bytes [] = []
net_bytes (n ∷ ns) = little_endian 2 n ++ net_bytes ns

-- 47 54, kind, pin count, the net at each pin
unfoldable pub gate_bytes : ℕ → List ℕ → List ℕ
gate_bytes kind pins = 0x47 ∷ 0x54 ∷ kind ∷ length pins ∷ net_bytes pins

-- 4F 55, net
unfoldable pub output_bytes : ℕ → List ℕ
output_bytes net = 0x4F ∷ 0x55 ∷ little_endian 2 net

-- 54 50, V1, V2, each already in whole bytes
unfoldable pub test_bytes : List ℕ → List ℕ → List ℕ
test_bytes v1 v2 = 0x54 ∷ 0x50 ∷ v1 ++ v2
