-- `gate_logic::inner::class_pins` meets its contract, class by class.
use Rattle.model.proofs.Prelude.{rules}
use Rattle.gate_logic.proofs.EvaluationCases.{class-robust, class-other}
use Rattle.gate_logic.proofs.inner.class_pins.Goals as goal

pub returns-then-class-eq2 : goal.returns-then-class-eq2
returns-then-class-eq2 c = search (class-robust, rules)

pub returns : goal.returns
returns c = search (class-other, rules)
