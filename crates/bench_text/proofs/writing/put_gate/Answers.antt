-- `bench_text::writing::put_gate` meets its contract: its fields one after the other.
use Rattle.model.proofs.Prelude.{rules}
use Rattle.bench_text.proofs.GateLaws.{gate-put}
use Rattle.bench_text.proofs.writing.put_gate.Goals as goal

pub returns : goal.returns
returns c = search (gate-put, rules)
