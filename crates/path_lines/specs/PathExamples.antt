-- Paths of c17 (document 02, ticket 2's example text), worked by hand: G22 = NAND(G10, G16), G10 = NAND(G1, G3), G16 = NAND(G2, G11).
use Rattle.std.specs.Prelude.{List, ◌++◌, ℕ}
use Rattle.text_line.specs.Lines.{ascii}
use Rattle.text_buffer.specs.Written.{plain_line}

unfoldable pub first_path : List ℕ
first_path =
    plain_line (ascii "output 0: net 9 (G22)")
    ++ plain_line (ascii "net 9 (G22): NAND, pin 0 from net 5 (G10)")
    ++ plain_line (ascii "net 5 (G10): NAND, pin 0 from net 0 (G1)")
    ++ plain_line (ascii "net 0 (G1): input")

-- the same of the netlist file alone, which has no names
unfoldable pub first_unnamed : List ℕ
first_unnamed =
    plain_line (ascii "output 0: net 9")
    ++ plain_line (ascii "net 9: NAND, pin 0 from net 5")
    ++ plain_line (ascii "net 5: NAND, pin 0 from net 0")
    ++ plain_line (ascii "net 0: input")

-- a number that no path has
unfoldable pub no_path : List ℕ
no_path = plain_line (ascii "refused 60")
