-- `path_lines::nets::put_gate_end` meets its contract: its parts, one after the other.
use Rattle.model.proofs.Prelude.{rules}
use Rattle.path_lines.proofs.PartCases.{end-put}
use Rattle.path_lines.proofs.nets.put_gate_end.Goals as goal

pub returns : goal.returns
returns c =
    let put = end-put _ _ _ c.put_part-number.ensures.0 c.put_decimal-from.ensures.0 c.put_part-second.ensures.0 in
    (put c.put_net-end.ensures.0 c.put_part.ensures.0, search rules)
