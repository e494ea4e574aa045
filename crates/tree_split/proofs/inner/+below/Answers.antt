-- `tree_split::inner::below` meets its contract: the height falls at each call; the children before the one in which the part ends are joined to what is left of it.
use Rattle.model.proofs.Prelude.{rules}
use Rattle.tree_split.proofs.LeafPartCases.{leaf-none, leaf-kept}
use Rattle.tree_split.proofs.BelowCases.{first-in, first_small, first_gives, second-in, second-small, second-both, second-gives, pair-room, pair-first, pair-second, pair-total, input-third}
use Rattle.tree_split.proofs.BelowCases.{third-both, third-gives}
use Rattle.tree_words.proofs.ChildLaws.{height_less}
use Rattle.tree_split.proofs.inner.+below.Goals as goal

pub below-q-requires : goal.below-q-requires
below-q-requires t c = search (input-third, height_less, rules)

pub in_second-requires : goal.in_second-requires
in_second-requires t c = search (second-in, second-small, rules)

pub join-requires-2-clause-both : goal.join-requires-2-clause-both
join-requires-2-clause-both t c = search (third-both, rules)

pub join-requires-clause-both : goal.join-requires-clause-both
join-requires-clause-both t c = search (second-both, rules)

pub put_two-requires-clause-at_in_bounds : goal.put_two-requires-clause-at_in_bounds
put_two-requires-clause-at_in_bounds t c = search (pair-room, pair-first, pair-second, pair-total, rules)

pub put_two-requires-clause-second_bound : goal.put_two-requires-clause-second_bound
put_two-requires-clause-second_bound t c = search (pair-room, pair-first, pair-second, pair-total, rules)

pub reached-requires-2 : goal.reached-requires-2
reached-requires-2 t c = search (first-in, first_small, rules)

pub returns : goal.returns
returns t c = search (third-gives, rules)

pub returns-then-height-eq0 : goal.returns-then-height-eq0
returns-then-height-eq0 t c = search (leaf-kept, rules)

pub returns-then-in_second : goal.returns-then-in_second
returns-then-in_second t c = search (second-gives, rules)

pub returns-then-reached : goal.returns-then-reached
returns-then-reached t c = search (leaf-none, rules)

pub returns-then-reached-2 : goal.returns-then-reached-2
returns-then-reached-2 t c = search (first_gives, rules)
