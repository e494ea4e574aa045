-- `make_load::make` is safe: a load that was started has 1 to 64 inputs.
use Rattle.model.proofs.Prelude.{rules}
use Rattle.make_load.proofs.WriteCases.{start-cases}
use Rattle.make_load.proofs.make.Goals as goal

pub write_load-requires : goal.write_load-requires
write_load-requires c = search (start-cases, rules)
