-- `gate_logic::inner::evaluate` meets its contract, kind by kind.
use Rattle.model.proofs.Prelude.{rules}
use Rattle.gate_logic.proofs.EvaluationCases.{pins-few, eval_1, eval_2, eval_3, eval_4, eval_5, eval_6, eval_7, eval_8}
use Rattle.gate_logic.proofs.inner.evaluate.Goals as goal

pub all_pins-all-requires : goal.all_pins-all-requires
all_pins-all-requires c = search (pins-few, rules)

pub returns-in-1 : goal.returns-in-1
returns-in-1 c = search (eval_1, rules)

pub returns-in-2 : goal.returns-in-2
returns-in-2 c = search (eval_2, rules)

pub returns-in-3 : goal.returns-in-3
returns-in-3 c = search (eval_3, rules)

pub returns-in-4 : goal.returns-in-4
returns-in-4 c = search (eval_4, rules)

pub returns-in-5 : goal.returns-in-5
returns-in-5 c = search (eval_5, rules)

pub returns-in-6 : goal.returns-in-6
returns-in-6 c = search (eval_6, rules)

pub returns-in-7 : goal.returns-in-7
returns-in-7 c = search (eval_7, rules)

pub returns-in_default : goal.returns-in_default
returns-in_default c = search (eval_8, rules)
