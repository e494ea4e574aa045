-- `viewer_place_lines::read_places` meets its contract: the lines that are left, after the places so far, give the whole.
use Rattle.model.proofs.Prelude.{rules}
use Rattle.bench_lines.proofs.TextLineLaws.{line_low, line-stop-in, line-less, line-counted}
use Rattle.viewer_place_lines.proofs.PlaceListLaws.{text-cases}
use Rattle.viewer_place_lines.proofs.read_places.Goals as goal

pub loop-at-init : goal.loop-at-init
loop-at-init c = (search text-cases, search rules)

pub slice_bounds-place_in-count : goal.slice_bounds-place_in-count
slice_bounds-place_in-count c = search (line_low, rules)

pub slice_bounds-place_in-start : goal.slice_bounds-place_in-start
slice_bounds-place_in-start c = search (line_low, line-stop-in, rules)

pub slice_bounds-place_in-end : goal.slice_bounds-place_in-end
slice_bounds-place_in-end c = search (line_low, line-stop-in, rules)

pub keep-list-requires : goal.keep-list-requires
keep-list-requires c = search text-cases

pub loop-at-smaller : goal.loop-at-smaller
loop-at-smaller c = search (line-less, rules)

pub loop-at-preserved : goal.loop-at-preserved
loop-at-preserved c = (search text-cases, search (line-counted, rules))

pub returns-clause-list_value : goal.returns-clause-list_value
returns-clause-list_value c = search (line_low, line-stop-in, line-less, line-counted, text-cases, rules)

pub returns-in-None-clause-list_value : goal.returns-in-None-clause-list_value
returns-in-None-clause-list_value c = search (line_low, line-stop-in, line-less, line-counted, text-cases, rules)
