-- `path_lines::nets::put_gate_start` meets its contract: its parts, one after the other.
use Rattle.model.proofs.Prelude.{rules}
use Rattle.path_lines.proofs.PartCases.{start-put}
use Rattle.path_lines.proofs.nets.put_gate_start.Goals as goal

pub returns : goal.returns
returns c =
    (start-put _ _ _ c.put_part-first.ensures.0 c.put_net-colon.ensures.0 c.put_part-second.ensures.0 c.put_kind.ensures.0, search rules)
