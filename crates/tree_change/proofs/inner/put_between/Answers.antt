-- `tree_change::inner::put_between` meets its contract: the parts below, between and above are separated as the merged runs are, so they join to a tree of these runs.
use Rattle.model.proofs.Prelude.{◌∙◌, ap, rules}
use Rattle.tree_words.specs.TreeLayout.{space_start_of}
use Rattle.tree_change.proofs.BetweenCases.{between-room, between-order, between-most, front-room, front-both, whole_room, whole-both, whole_ready, whole-done}
use Rattle.tree_change.proofs.inner.put_between.Goals as goal

pub join-tree-requires-clause-room : goal.join-tree-requires-clause-room
join-tree-requires-clause-room c =
    whole_room c.requires (c.space_start-start.ensures ∙ ap space_start_of c.word-root.ensures) c.cut-parts.ensures c.put_leaf.ensures c.join-front.ensures

pub put_leaf-requires : goal.put_leaf-requires
put_leaf-requires c = search (between-room, between-order, between-most, rules)

pub put_tree-requires : goal.put_tree-requires
put_tree-requires c = search (whole_ready, rules)

pub returns : goal.returns
returns c = search (whole-done, rules)

pub join-front-requires-clause-room : goal.join-front-requires-clause-room
join-front-requires-clause-room c =
    front-room c.requires (c.space_start-start.ensures ∙ ap space_start_of c.word-root.ensures) c.cut-parts.ensures c.put_leaf.ensures

pub join-front-requires-clause-both : goal.join-front-requires-clause-both
join-front-requires-clause-both c =
    front-both c.requires (c.space_start-start.ensures ∙ ap space_start_of c.word-root.ensures) c.cut-parts.ensures c.put_leaf.ensures

pub join-tree-requires-clause-both : goal.join-tree-requires-clause-both
join-tree-requires-clause-both c =
    whole-both c.requires (c.space_start-start.ensures ∙ ap space_start_of c.word-root.ensures) c.cut-parts.ensures c.put_leaf.ensures c.join-front.ensures
