-- `path_lines::nets::put_output` meets its contract: its parts, one after the other.
use Rattle.model.proofs.Prelude.{rules}
use Rattle.path_lines.proofs.PartCases.{output-put}
use Rattle.path_lines.proofs.nets.put_output.Goals as goal

pub returns : goal.returns
returns c =
    let put = output-put _ _ _ c.put_part-first.ensures.0 c.put_decimal-colon.ensures.0 c.put_part-second.ensures.0 in
    (put c.put_net-end.ensures.0 c.put_part.ensures.0, search rules)
