-- What a viewer learns from the values that the functions return, over lists of test calls that were made.
use Rattle.std.specs.Prelude.{◌≡◌, List, ℕ}
use Rattle.model.specs.Base.{value}
use Rattle.model.specs.Netlist.{Netlist}
use Rattle.model.specs.Read.{read_netlist}
use Rattle.model.specs.Store.{empty_store}
use Rattle.audit.specs.Promised.{MadeCall, Promised, last_store}
use Rattle.audit.specs.CountedCalls.{calls_of, AllCallsTaken}
use Rattle.viewer_places.specs.Viewer.{AgreeAll}
use Rattle.viewer.specs.ViewerValues.{SameValues}

-- Two lists of test calls, each call with its promise, the first on an empty store, all taken, of one length and call by call of one class, whose
-- tests agree in both values of every input from which an output of the viewer can be reached: he is returned the same of the stores that they left
abbrev pub ViewerCallsTrue : Type 0
ViewerCallsTrue =
    (netlist : List ℕ) (N : Netlist) → read_netlist netlist ≡ value N → (places : List ℕ) (ms ks : List MadeCall)
    → Promised netlist empty_store ms → Promised netlist empty_store ks → AllCallsTaken ms → AllCallsTaken ks → AgreeAll N places (calls_of ms) (calls_of ks)
    → SameValues netlist places (last_store empty_store ms) (last_store empty_store ks)
