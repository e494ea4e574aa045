-- Texts of other lengths are not the same.
use Rattle.model.proofs.Prelude.{rules}
use Rattle.program_files.proofs.TextLaws.{other_length}
use Rattle.program_files.proofs.arguments.same_text.Goals as goal

pub returns-then-left-right : goal.returns-then-left-right
returns-then-left-right c = search (other_length, rules)
