-- `tree_copy::inner::copy_at` meets its contract: the height falls at each call; the copies of the children stand side by side, and none of the words copied is written.
use Rattle.model.proofs.Prelude.{rules}
use Rattle.tree_copy.proofs.CopyCases.{copy_leaf-room, copy_order, copy_most, copy_leaf, copy_first, copy_long1, copy_second, copy_two-a, copy_two-b, copy_long2, copy_two-room}
use Rattle.tree_copy.proofs.CopyCases.{copy_two-total, copy_two, copy_third, copy_three-a, copy_three-b, copy_three-c, copy_three-room, copy_three-total, copy_three}
use Rattle.tree_words.proofs.ChildLaws.{height_less}
use Rattle.tree_copy.proofs.inner.+copy_at.Goals as goal

pub copy_at-b-requires : goal.copy_at-b-requires
copy_at-b-requires t c = search (copy_first, height_less, rules)

pub copy_at-c-requires : goal.copy_at-c-requires
copy_at-c-requires t c = search (copy_order, copy_first, copy_long1, copy_second, height_less, rules)

pub copy_at-d-requires : goal.copy_at-d-requires
copy_at-d-requires t c = search (copy_order, copy_first, copy_long1, copy_second, copy_long2, copy_third, height_less, rules)

pub overflow_add-result-2 : goal.overflow_add-result-2
overflow_add-result-2 t c = search (copy_three-room, rules)

pub overflow_add-result-then-third-eq0 : goal.overflow_add-result-then-third-eq0
overflow_add-result-then-third-eq0 t c = search (copy_two-room, rules)

pub put_leaf-requires : goal.put_leaf-requires
put_leaf-requires t c = search (copy_leaf-room, copy_order, copy_most, rules)

pub put_three-requires-clause-at_in_bounds : goal.put_three-requires-clause-at_in_bounds
put_three-requires-clause-at_in_bounds t c = search (copy_three-room, copy_three-a, copy_three-b, copy_three-c, rules)

pub put_three-requires-clause-third_bound : goal.put_three-requires-clause-third_bound
put_three-requires-clause-third_bound t c = search (copy_three-total, rules)

pub put_two-requires-clause-at_in_bounds : goal.put_two-requires-clause-at_in_bounds
put_two-requires-clause-at_in_bounds t c = search (copy_two-room, copy_two-a, copy_two-b, rules)

pub put_two-requires-clause-second_bound : goal.put_two-requires-clause-second_bound
put_two-requires-clause-second_bound t c = search (copy_two-total, rules)

pub returns : goal.returns
returns t c = search (copy_two, copy_three, rules)

pub returns-then-height-eq0 : goal.returns-then-height-eq0
returns-then-height-eq0 t c = search (copy_leaf, rules)

pub returns-then-third-eq0 : goal.returns-then-third-eq0
returns-then-third-eq0 t c = search (copy_two, copy_three, rules)
