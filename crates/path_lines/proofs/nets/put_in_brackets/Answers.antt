-- `path_lines::nets::put_in_brackets` meets its contract.
use Rattle.path_lines.proofs.PartCases.{bracket-cases}
use Rattle.path_lines.proofs.nets.put_in_brackets.Goals as goal

pub returns : goal.returns
returns c = search bracket-cases
