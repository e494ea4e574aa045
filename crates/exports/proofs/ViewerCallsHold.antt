-- A viewer learns nothing of other inputs from the values that the functions return: by the promises of the test calls and of his own.
use Rattle.model.proofs.Prelude.{ℕ, subst, List}
use Rattle.model.specs.Store.{empty_store}
use Rattle.model.specs.Demand3.{start, after_calls}
use Rattle.audit.specs.Promised.{last_store}
use Rattle.audit.specs.CountedCalls.{calls_of}
use Rattle.audit.proofs.CountedCallsHold.{each-taken, store_is}
use Rattle.viewer.specs.ViewerValues.{SameValues}
use Rattle.viewer.proofs.ViewerValuesHold.{values_tell}
use Rattle.exports.specs.ViewerCalls.{ViewerCallsTrue}

pub viewer_calls-true : ViewerCallsTrue
viewer_calls-true netlist N e places ms ks p q k l a =
    subst (λ (ws : List ℕ). SameValues netlist places (last_store empty_store ms) ws) (store_is netlist N e ks q)
    (subst (λ (ws : List ℕ). SameValues netlist places ws (after_calls netlist N start (calls_of ks)).store) (store_is netlist N e ms p)
    (values_tell netlist N e places (calls_of ms) (calls_of ks) (each-taken netlist N e ms start p k) (each-taken netlist N e ks start q l) a))
