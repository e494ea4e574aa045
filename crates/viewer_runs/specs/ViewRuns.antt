-- The runs of both edges as one thing.
use Rattle.std.specs.Prelude.{List}
use Rattle.model.specs.Runs.{Run}
use Rattle.model.specs.Store.{ByEdge}

abbrev pub both_runs : List Run → List Run → ByEdge (List Run)
both_runs up down = record { on_rising = up; on_falling = down }
