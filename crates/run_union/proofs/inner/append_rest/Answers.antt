-- `run_union::inner::append_rest` meets its contract: runs that begin apart from the list are placed, others added one by one.
use Rattle.model.proofs.Prelude.{rules}
use Rattle.run_union.proofs.ShiftedCases.{nothing-more, first_run, placed}
use Rattle.run_union.proofs.inner.append_rest.Goals as goal

pub returns-then-to-from : goal.returns-then-to-from
returns-then-to-from c = search (nothing-more, rules)

pub fit_after-apart-requires : goal.fit_after-apart-requires
fit_after-apart-requires c = search (first_run, rules)

pub returns : goal.returns
returns c = search (placed, rules)
