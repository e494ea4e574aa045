-- `tree_compaction::inner::compact` meets its contract: where the space has too few words left, the other space holds nothing that is used, so the copy has all of it.
use Rattle.model.proofs.Prelude.{rules}
use Rattle.tree_compaction.proofs.CompactionCases.{room-none, room-long, room_fits, room-enough, room-ask, room-ready, room-made}
use Rattle.tree_compaction.proofs.inner.compact.Goals as goal

pub returns-then-levels-eq0 : goal.returns-then-levels-eq0
returns-then-levels-eq0 c = search (room-none, rules)

pub overflow_sub-end : goal.overflow_sub-end
overflow_sub-end c = search (room_fits, rules)

pub returns-then-end-free-ge-STEP_WORDS : goal.returns-then-end-free-ge-STEP_WORDS
returns-then-end-free-ge-STEP_WORDS c = search (room-enough, rules)

pub put_tree-requires : goal.put_tree-requires
put_tree-requires c = search (room-ready, rules)

pub returns : goal.returns
returns c = search (room-made, rules)

pub copy_at-copied-requires-clause-copy_ask : goal.copy_at-copied-requires-clause-copy_ask
copy_at-copied-requires-clause-copy_ask c = search (room-ask, rules)

pub copy_at-copied-requires-clause-end_in_bounds : goal.copy_at-copied-requires-clause-end_in_bounds
copy_at-copied-requires-clause-end_in_bounds c = search (room-long, room-ask, rules)
