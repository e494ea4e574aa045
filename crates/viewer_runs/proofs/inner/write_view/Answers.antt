-- `viewer_runs::inner::write_view` meets its contract: zeros and the number of tests are a store without runs, then each edge's runs are written.
use Rattle.model.proofs.Prelude.{rules}
use Rattle.viewer_runs.proofs.ViewWriteCases.{first-writable, second-writable, both-written}
use Rattle.viewer_runs.proofs.inner.write_view.Goals as goal

pub returns : goal.returns
returns c = search (first-writable, second-writable, both-written, rules)

pub write_runs-requires : goal.write_runs-requires
write_runs-requires c = search (first-writable, second-writable, both-written, rules)

pub write_runs-requires-2 : goal.write_runs-requires-2
write_runs-requires-2 c = search (first-writable, second-writable, both-written, rules)
