-- `bench_lines::inner::tokens::is_name_byte` meets its contract, range by range.
use Rattle.bench_lines.proofs.ByteCases.{byte-cases}
use Rattle.bench_lines.proofs.inner.tokens.is_name_byte.Goals as goal

pub returns-then-b-lt48 : goal.returns-then-b-lt48
returns-then-b-lt48 c = search byte-cases

pub returns-then-b-le57 : goal.returns-then-b-le57
returns-then-b-le57 c = search byte-cases

pub returns-then-b-lt65 : goal.returns-then-b-lt65
returns-then-b-lt65 c = search byte-cases

pub returns-then-b-le90 : goal.returns-then-b-le90
returns-then-b-le90 c = search byte-cases

pub returns-then-b-eq95 : goal.returns-then-b-eq95
returns-then-b-eq95 c = search byte-cases

pub returns-then-b-lt97 : goal.returns-then-b-lt97
returns-then-b-lt97 c = search byte-cases

pub returns : goal.returns
returns c = search byte-cases
