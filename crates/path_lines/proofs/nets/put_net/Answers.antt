-- `path_lines::nets::put_net` meets its contract: its parts, one after the other.
use Rattle.path_lines.proofs.PartCases.{line-cases}
use Rattle.path_lines.proofs.nets.put_net.Goals as goal

pub returns : goal.returns
returns c = search line-cases
