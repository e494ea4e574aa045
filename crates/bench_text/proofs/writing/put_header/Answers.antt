-- `bench_text::writing::put_header` meets its contract: its fields one after the other.
use Rattle.model.proofs.Prelude.{rules}
use Rattle.bench_text.proofs.HeaderLaws.{header-put}
use Rattle.bench_text.proofs.writing.put_header.Goals as goal

pub returns : goal.returns
returns c = search (header-put, rules)
