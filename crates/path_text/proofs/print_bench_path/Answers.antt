-- `path_text::print_bench_path` is safe: the text lies in the buffer.
use borrow.Author.Rules.{rules}
use Rattle.path_text.proofs.PrintCases.{text-taken}
use Rattle.path_text.proofs.print_bench_path.Goals as goal

pub slice_bounds-print-end : goal.slice_bounds-print-end
slice_bounds-print-end c = search (text-taken, rules)
