-- `detection_fault::walking::bit_of` meets its contract: the lowest bit of the shifted word.
use Rattle.record_bytes.proofs.BitLaws.{word-digit}
use Rattle.detection_fault.proofs.walking.bit_of.Goals as goal

pub returns : goal.returns
returns c = (word-digit c.args.word c.args.place).1
