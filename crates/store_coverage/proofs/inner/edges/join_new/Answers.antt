-- `store_coverage::inner::edges::join_new` meets its contract: the held runs before and after those that are united stay apart from the detected ones.
use Rattle.model.proofs.Prelude.{rules}
use Rattle.store_coverage.proofs.JoinNewCases.{first-low, final_high, union_found, union_held, join-new-cases}
use Rattle.store_coverage.proofs.inner.edges.join_new.Goals as goal

pub overflow_add-end : goal.overflow_add-end
overflow_add-end c = search join-new-cases

pub overflow_mul-end : goal.overflow_mul-end
overflow_mul-end c = search join-new-cases

pub offset_bounds-words-end : goal.offset_bounds-words-end
offset_bounds-words-end c = search join-new-cases

pub bounds-words-end : goal.bounds-words-end
bounds-words-end c = search join-new-cases

pub overflow_add-from : goal.overflow_add-from
overflow_add-from c = search join-new-cases

pub overflow_add-from-in-Some : goal.overflow_add-from-in-Some
overflow_add-from-in-Some c = search join-new-cases

pub returns-then-from-n-gt-MAX_RUNS : goal.returns-then-from-n-gt-MAX_RUNS
returns-then-from-n-gt-MAX_RUNS c = search join-new-cases

pub returns-else-from-n-gt-MAX_RUNS : goal.returns-else-from-n-gt-MAX_RUNS
returns-else-from-n-gt-MAX_RUNS c = search join-new-cases

pub returns-in-None : goal.returns-in-None
returns-in-None c = search join-new-cases

pub first_apart-to-requires : goal.first_apart-to-requires
first_apart-to-requires c = search (first-low, final_high, union_found, union_held, join-new-cases, rules)

pub first_joined-from-requires : goal.first_joined-from-requires
first_joined-from-requires c = search (first-low, final_high, union_found, union_held, join-new-cases, rules)

pub union-requires-clause-sound : goal.union-requires-clause-sound
union-requires-clause-sound c = search (union_found, union_held, join-new-cases, rules)
