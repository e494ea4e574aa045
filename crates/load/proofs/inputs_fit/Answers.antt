-- `load::inputs_fit` meets its contract: each return is one of the two comparisons.
use Rattle.load.proofs.LoadCallCases.{range-cases}
use Rattle.load.proofs.inputs_fit.Goals as goal

pub returns-then-inputs-lt1 : goal.returns-then-inputs-lt1
returns-then-inputs-lt1 c = search range-cases

pub returns : goal.returns
returns c = search range-cases
