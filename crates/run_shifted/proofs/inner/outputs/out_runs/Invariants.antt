-- `run_shifted::inner::outputs::out_runs` meets its contract: the list holds the runs of the outputs so far.
use Rattle.model.proofs.Prelude.{◌-◌, ◌≡◌, length}
use Rattle.model.specs.Store.{max_runs}
use Rattle.run_shifted.specs.RunsOfPlaces.{output_places}
use Rattle.run_shifted.proofs.PlaceRunSteps.{PlacesDone}
use Rattle.run_shifted.proofs.inner.outputs.out_runs.Given as goal

abbrev pub invariant-loop-place : goal.invariant-loop-place
invariant-loop-place l =
    PlacesDone (output_places l.part l.inputs l.counts) l.outputs l.starts l.initial.words max_runs max_runs l.words l.place l.count l.offset × (length l.words ≡ length l.initial.words)
