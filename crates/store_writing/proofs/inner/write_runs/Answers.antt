-- `store_writing::inner::write_runs` meets its contract: the number of runs at the head, then the edge's places after it.
use Rattle.model.proofs.Prelude.{◌∙◌, length-set, rules}
use Rattle.store_writing.proofs.EdgeWriteCases.{cut-order, cut-held, few-held, few-after, made_inside, places-long, places-zero, runs-made, write-runs-cases}
use Rattle.store_writing.proofs.inner.write_runs.Goals as goal

pub bounds-store-place : goal.bounds-store-place
bounds-store-place c = search write-runs-cases

pub overflow_add-store : goal.overflow_add-store
overflow_add-store c = search write-runs-cases

pub overflow_sub-store : goal.overflow_sub-store
overflow_sub-store c = search write-runs-cases

pub overflow_add-store-in-Made : goal.overflow_add-store-in-Made
overflow_add-store-in-Made c = search write-runs-cases

pub bounds-store-place-in-Made : goal.bounds-store-place-in-Made
bounds-store-place-in-Made c = search write-runs-cases

pub slice_bounds-write_places-count : goal.slice_bounds-write_places-count
slice_bounds-write_places-count c = search write-runs-cases

pub slice_bounds-write_places-start : goal.slice_bounds-write_places-start
slice_bounds-write_places-start c = search write-runs-cases

pub returns-in-Kept : goal.returns-in-Kept
returns-in-Kept c = search write-runs-cases

pub shape_of-store : goal.shape_of-store
shape_of-store c = c.store-1.given.1 ∙ simp length-set

pub returns-in-Made : goal.returns-in-Made
returns-in-Made c = search (cut-order, cut-held, few-held, few-after, made_inside, places-long, places-zero, runs-made, write-runs-cases, rules)

pub write_places-requires-clause-count_in_bounds : goal.write_places-requires-clause-count_in_bounds
write_places-requires-clause-count_in_bounds c = search (cut-order, cut-held, few-held, few-after, made_inside, places-long, places-zero, runs-made, write-runs-cases, rules)

pub write_places-requires-clause-from_le_to : goal.write_places-requires-clause-from_le_to
write_places-requires-clause-from_le_to c = search (cut-order, cut-held, few-held, few-after, made_inside, places-long, places-zero, runs-made, write-runs-cases, rules)

pub write_places-requires-clause-zero_words : goal.write_places-requires-clause-zero_words
write_places-requires-clause-zero_words c = search (cut-order, cut-held, few-held, few-after, made_inside, places-long, places-zero, runs-made, write-runs-cases, rules)
