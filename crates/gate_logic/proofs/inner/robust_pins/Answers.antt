-- `gate_logic::inner::robust_pins` meets its contract, kind by kind.
use Rattle.model.proofs.Prelude.{rules}
use Rattle.gate_logic.proofs.EvaluationCases.{pins-few, robust_3, robust_4, robust_5, robust_6, robust_rest}
use Rattle.gate_logic.proofs.inner.robust_pins.Goals as goal

pub all_pins-all-requires : goal.all_pins-all-requires
all_pins-all-requires c = search (pins-few, rules)

pub returns-in-3 : goal.returns-in-3
returns-in-3 c = search (robust_3, rules)

pub returns-in-4 : goal.returns-in-4
returns-in-4 c = search (robust_4, rules)

pub returns-in-5 : goal.returns-in-5
returns-in-5 c = search (robust_5, rules)

pub returns-in-6 : goal.returns-in-6
returns-in-6 c = search (robust_6, rules)

pub returns-in_default : goal.returns-in_default
returns-in_default c = search (robust_rest, rules)
