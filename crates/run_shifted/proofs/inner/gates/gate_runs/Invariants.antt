-- `run_shifted::inner::gates::gate_runs` meets its contract: the list holds the runs of the pins so far.
use Rattle.model.proofs.Prelude.{◌-◌, ◌≡◌, length}
use Rattle.model.specs.Store.{max_runs}
use Rattle.run_shifted.specs.RunsOfPlaces.{gate_places}
use Rattle.run_shifted.proofs.PlaceRunSteps.{PlacesDone}
use Rattle.run_shifted.proofs.inner.gates.gate_runs.Given as goal

abbrev pub invariant-loop-pin : goal.invariant-loop-pin
invariant-loop-pin l =
    PlacesDone (gate_places l.part l.mask l.counts) l.pins l.starts l.initial.words l.start (max_runs - l.start) l.words l.pin l.count l.offset × (length l.words ≡ length l.initial.words)
