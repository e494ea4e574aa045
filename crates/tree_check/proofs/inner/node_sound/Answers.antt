-- `tree_check::inner::node_sound` meets its contract: the node and its children are read only once they are known to lie inside the used words.
use Rattle.model.proofs.Prelude.{rules}
use Rattle.tree_check.proofs.NodeTestCases.{node-no0, node-no1, node-no2, node-room, in_length, node-two, node-third, node-three}
use Rattle.tree_check.proofs.inner.node_sound.Goals as goal

pub returns-then-not-inside : goal.returns-then-not-inside
returns-then-not-inside c = search (node-no0, rules)

pub first_child-b-requires : goal.first_child-b-requires
first_child-b-requires c = search (node-room, in_length, rules)

pub returns-then-not-inside-2 : goal.returns-then-not-inside-2
returns-then-not-inside-2 c = search (node-no1, rules)

pub second_child-c-requires : goal.second_child-c-requires
second_child-c-requires c = search (node-room, in_length, rules)

pub returns-then-not-inside-3 : goal.returns-then-not-inside-3
returns-then-not-inside-3 c = search (node-no2, rules)

pub third_child-d-requires : goal.third_child-d-requires
third_child-d-requires c = search (node-room, in_length, rules)

pub two_sound-requires : goal.two_sound-requires
two_sound-requires c = (search (node-room, rules), search (in_length, rules), search (in_length, rules))

pub returns-then-d-eq0 : goal.returns-then-d-eq0
returns-then-d-eq0 c = search (node-two, rules)

pub returns-then-not-inside-4 : goal.returns-then-not-inside-4
returns-then-not-inside-4 c = search (node-third, rules)

pub returns : goal.returns
returns c = search (node-three, rules)

pub three_sound-requires : goal.three_sound-requires
three_sound-requires c = search (in_length, rules)
