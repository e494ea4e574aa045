-- `tree_split::inner::above` meets its contract: the height falls at each call; the children behind the one in which the part begins are joined to what is left of it.
use Rattle.model.proofs.Prelude.{rules}
use Rattle.tree_split.proofs.LeafPartCases.{upper_none, upper_kept}
use Rattle.tree_split.proofs.AboveCases.{last-in, input_last, last-gives, first-both, first_gives, second-in, second-both, second-gives, pair-room, pair-second, pair-last, pair-total}
use Rattle.tree_split.proofs.AboveCases.{input-third, third-both, third-gives}
use Rattle.tree_words.proofs.ChildLaws.{height_less}
use Rattle.tree_split.proofs.inner.+above.Goals as goal

pub above-q-requires : goal.above-q-requires
above-q-requires t c = search (input-third, height_less, rules)

pub above-requires : goal.above-requires
above-requires t c = search (input_last, height_less, rules)

pub begun-requires-2 : goal.begun-requires-2
begun-requires-2 t c = search (last-in, rules)

pub begun-requires-3 : goal.begun-requires-3
begun-requires-3 t c = search (second-in, rules)

pub join-requires-clause-both : goal.join-requires-clause-both
join-requires-clause-both t c = search (first-both, rules)

pub join-requires-then-begun-3-clause-both : goal.join-requires-then-begun-3-clause-both
join-requires-then-begun-3-clause-both t c = search (second-both, rules)

pub put_two-requires-clause-at_in_bounds : goal.put_two-requires-clause-at_in_bounds
put_two-requires-clause-at_in_bounds t c = search (pair-room, pair-second, pair-last, pair-total, rules)

pub put_two-requires-clause-second_bound : goal.put_two-requires-clause-second_bound
put_two-requires-clause-second_bound t c = search (pair-room, pair-second, pair-last, pair-total, rules)

pub returns : goal.returns
returns t c = search (third-gives, rules)

pub returns-then-begun : goal.returns-then-begun
returns-then-begun t c = search (upper_none, rules)

pub returns-then-begun-2 : goal.returns-then-begun-2
returns-then-begun-2 t c = search (last-gives, rules)

pub returns-then-begun-3 : goal.returns-then-begun-3
returns-then-begun-3 t c = search (second-gives, rules)

pub returns-then-height-eq0 : goal.returns-then-height-eq0
returns-then-height-eq0 t c = search (upper_kept, rules)

pub returns-then-third-eq0 : goal.returns-then-third-eq0
returns-then-third-eq0 t c = search (first_gives, rules)

pub join-requires-2-clause-both : goal.join-requires-2-clause-both
join-requires-2-clause-both t c = search (third-both, rules)
