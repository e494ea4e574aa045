-- `path_lines::nets::put_bracketed` meets its contract: no name, or the name in brackets.
use Rattle.path_lines.proofs.PartCases.{bracket-cases}
use Rattle.path_lines.proofs.nets.put_bracketed.Goals as goal

pub returns-then-bytes-eq0 : goal.returns-then-bytes-eq0
returns-then-bytes-eq0 c = search bracket-cases

pub slice_bounds-put_in_brackets-end : goal.slice_bounds-put_in_brackets-end
slice_bounds-put_in_brackets-end c = search bracket-cases

pub put_in_brackets-requires : goal.put_in_brackets-requires
put_in_brackets-requires c = search bracket-cases

pub returns : goal.returns
returns c = search bracket-cases
