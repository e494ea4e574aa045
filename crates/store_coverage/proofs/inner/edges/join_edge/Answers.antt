-- `store_coverage::inner::edges::join_edge` meets its contract: the detected runs lie in those that are held, or some are new.
use Rattle.model.proofs.Prelude.{arith}
use Rattle.store_coverage.proofs.CoverLaws.{join-cases}
use Rattle.store_coverage.proofs.inner.edges.join_edge.Goals as goal

pub returns-then-found-eq0 : goal.returns-then-found-eq0
returns-then-found-eq0 c = search join-cases

pub overflow_add-end : goal.overflow_add-end
overflow_add-end c = search join-cases

pub inside-requires : goal.inside-requires
inside-requires c = (omega arith, omega arith, omega arith, search join-cases)

pub returns-then-inside : goal.returns-then-inside
returns-then-inside c = search join-cases

pub returns-in-None : goal.returns-in-None
returns-in-None c = search join-cases

pub returns-else-inside : goal.returns-else-inside
returns-else-inside c = search join-cases
