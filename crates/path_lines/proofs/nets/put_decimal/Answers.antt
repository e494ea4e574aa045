-- `path_lines::nets::put_decimal` meets its contract: no number has over 20 digits.
use Rattle.path_lines.proofs.PartCases.{part-cases}
use Rattle.path_lines.proofs.nets.put_decimal.Goals as goal

pub returns : goal.returns
returns c = search part-cases
