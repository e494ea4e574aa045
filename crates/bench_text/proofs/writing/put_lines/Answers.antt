-- `bench_text::writing::put_lines` meets its contract: the lines that are left, written from here on, give the whole.
use Rattle.model.proofs.Prelude.{◌-◌, rules}
use Rattle.bench_text.proofs.WriteLaws.{lines_start, lines-length, lines_end, lines-few, lines-room, lines-again}
use Rattle.bench_lines.proofs.TextLineLaws.{line_low, line-stop-in, line-less}
use Rattle.bench_text.proofs.writing.put_lines.Goals as goal

pub loop-at-init : goal.loop-at-init
loop-at-init c = search (lines_start, rules)

pub slice_bounds-line-count : goal.slice_bounds-line-count
slice_bounds-line-count c = search (line_low, rules)

pub slice_bounds-line-start : goal.slice_bounds-line-start
slice_bounds-line-start c = search (line_low, line-stop-in, rules)

pub slice_bounds-line-end : goal.slice_bounds-line-end
slice_bounds-line-end c = search (line_low, line-stop-in, rules)

pub put_line-write-requires : goal.put_line-write-requires
put_line-write-requires c = search (lines-few, lines-room, rules)

pub loop-at-smaller : goal.loop-at-smaller
loop-at-smaller c = search (line-less, rules)

pub loop-at-preserved : goal.loop-at-preserved
loop-at-preserved c = search (lines-again, rules)

pub shape_of-out : goal.shape_of-out
shape_of-out c = search (lines-length, rules)

pub returns : goal.returns
returns c = search (lines_end, rules)
