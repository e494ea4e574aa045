-- `viewer_place_lines::reading::place_in` meets its contract: the digits so far make the number, and a byte that is none or a number over 16 bits ends it.
use Rattle.viewer_place_lines.proofs.PlaceLineLaws.{place-cases}
use Rattle.viewer_place_lines.proofs.reading.place_in.Goals as goal

pub returns-then-line-eq0 : goal.returns-then-line-eq0
returns-then-line-eq0 c = search place-cases

pub loop-byte-init : goal.loop-byte-init
loop-byte-init c = search place-cases

pub returns-then-byte-lt48 : goal.returns-then-byte-lt48
returns-then-byte-lt48 c = search place-cases

pub returns-then-byte-gt57 : goal.returns-then-byte-gt57
returns-then-byte-gt57 c = search place-cases

pub overflow_mul-number : goal.overflow_mul-number
overflow_mul-number c = search place-cases

pub overflow_cast-number : goal.overflow_cast-number
overflow_cast-number c = search place-cases

pub overflow_add-number : goal.overflow_add-number
overflow_add-number c = search place-cases

pub returns-then-number-gt-MAX_PLACE : goal.returns-then-number-gt-MAX_PLACE
returns-then-number-gt-MAX_PLACE c = search place-cases

pub loop-byte-preserved : goal.loop-byte-preserved
loop-byte-preserved c = search place-cases

pub overflow_cast-result : goal.overflow_cast-result
overflow_cast-result c = search place-cases

pub returns : goal.returns
returns c = search place-cases
