-- `viewer_place_lines::reading::place_in` meets its contract: the digits so far make the number, and a byte that is none or a number over 16 bits ends it.
use Rattle.viewer_place_lines.proofs.PlaceLineLaws.{NumberSoFar}
use Rattle.viewer_place_lines.proofs.reading.place_in.Given as goal

abbrev pub invariant-loop-byte : goal.invariant-loop-byte
invariant-loop-byte l = NumberSoFar l.line l.number l.byte-index
