-- `tree_compaction::inner::other_start` meets its contract: the definition has the same test.
use Rattle.model.proofs.Prelude.{rules, lt-ltb, le-ltb}
use Rattle.tree_compaction.proofs.inner.other_start.Goals as goal

pub returns-then-root-lt-UPPER_START : goal.returns-then-root-lt-UPPER_START
returns-then-root-lt-UPPER_START c = search (lt-ltb, le-ltb, rules)

pub returns-else-root-lt-UPPER_START : goal.returns-else-root-lt-UPPER_START
returns-else-root-lt-UPPER_START c = search (lt-ltb, le-ltb, rules)
