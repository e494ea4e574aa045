-- Where there is an argument of this place, there are more arguments than its place says.
use Rattle.model.proofs.Prelude.{◌+◌, arith}
use Rattle.program_files.proofs.NameLaws.{name-given}
use Rattle.program_files.proofs.arguments.file_name.Goals as goal

pub returns-then-has_argument-clause-name_told : goal.returns-then-has_argument-clause-name_told
returns-then-has_argument-clause-name_told g c = name-given c.args.place c.argument.result c.args.usual.now c.args.space.now c.argument.new.space (c.args.place + 1) (omega arith)
