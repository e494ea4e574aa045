-- `tree_check::inner::sound_words` meets its contract: each test of the head is one of the definition, in its order.
use Rattle.model.proofs.Prelude.{rules}
use Rattle.tree_check.proofs.HeadCases.{empty-both, empty-first, many-levels, past_end, free-inside, not_sound, root_good, all-counted}
use Rattle.tree_check.proofs.inner.sound_words.Goals as goal

pub returns-then-root-eq0 : goal.returns-then-root-eq0
returns-then-root-eq0 c = search (empty-both, rules)

pub returns-else-root-eq0 : goal.returns-else-root-eq0
returns-else-root-eq0 c = search (empty-first, rules)

pub returns-then-levels-gt-MAX_LEVELS : goal.returns-then-levels-gt-MAX_LEVELS
returns-then-levels-gt-MAX_LEVELS c = search (many-levels, rules)

pub returns-then-space_end-free : goal.returns-then-space_end-free
returns-then-space_end-free c = search (past_end, rules)

pub sound_at-requires : goal.sound_at-requires
sound_at-requires c = search (free-inside, rules)

pub returns-then-not-sound_at : goal.returns-then-not-sound_at
returns-then-not-sound_at c = search (not_sound, rules)

pub returns : goal.returns
returns c = search (all-counted, rules)

pub count_at-requires-clause-good : goal.count_at-requires-clause-good
count_at-requires-clause-good c = search (root_good, rules)
