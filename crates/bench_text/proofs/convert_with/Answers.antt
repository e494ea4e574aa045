-- `bench_text::convert_with` meets its contract: a refused line, or what is known at the end.
use Rattle.model.proofs.Prelude.{rules}
use Rattle.bench_text.proofs.ConvertCases.{held-text, text-refused}
use Rattle.bench_text.proofs.convert_with.Goals as goal

pub finish-requires : goal.finish-requires
finish-requires c = search (held-text, rules)

pub returns-in-Err : goal.returns-in-Err
returns-in-Err c = search (text-refused, rules)
