-- `tree_check::inner::sound_at` meets its contract: the height falls at each call, and each test is one of the definition, in its order.
-- what the calls of the body are asked and give
use Rattle.model.proofs.Prelude.{rules}
use Rattle.tree_check.proofs.TreeTestCases.{at_leaf, at-node, at_first, at_second, at-two, at-third}
use Rattle.tree_check.proofs.NodeTestCases.{node-inside}
use Rattle.tree_check.proofs.inner.+sound_at.Goals as goal

pub first_child-b-requires : goal.first_child-b-requires
first_child-b-requires t c = search (node-inside, rules)

pub returns : goal.returns
returns t c = search (at-third, rules)

pub returns-then-d-eq0 : goal.returns-then-d-eq0
returns-then-d-eq0 t c = search (at-two, rules)

pub returns-then-height-eq0 : goal.returns-then-height-eq0
returns-then-height-eq0 t c = search (at_leaf, rules)

pub returns-then-not-node_sound : goal.returns-then-not-node_sound
returns-then-not-node_sound t c = search (at-node, rules)

pub returns-then-not-sound_at : goal.returns-then-not-sound_at
returns-then-not-sound_at t c = search (at_first, rules)

pub returns-then-not-sound_at-2 : goal.returns-then-not-sound_at-2
returns-then-not-sound_at-2 t c = search (at_second, rules)

pub second_child-c-requires : goal.second_child-c-requires
second_child-c-requires t c = search (node-inside, rules)

pub third_child-d-requires : goal.third_child-d-requires
third_child-d-requires t c = search (node-inside, rules)
