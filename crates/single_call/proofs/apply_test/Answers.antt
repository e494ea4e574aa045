-- `single_call::apply_test` meets its contract: a store or working memory of a wrong length is refused before the netlist is read.
use Rattle.model.proofs.Prelude.{rules}
use Rattle.single_call.proofs.CallLaws.{no_store, no-work}
use Rattle.single_call.proofs.apply_test.Goals as goal

pub returns-then-store-ne-STORE_WORDS : goal.returns-then-store-ne-STORE_WORDS
returns-then-store-ne-STORE_WORDS c = search (no_store, rules)

pub returns-then-work-lt-WORK_WORDS : goal.returns-then-work-lt-WORK_WORDS
returns-then-work-lt-WORK_WORDS c = search (no-work, rules)

pub test_netlist-requires : goal.test_netlist-requires
test_netlist-requires c = search rules
