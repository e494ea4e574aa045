-- `program_sentences::alone` meets its contract: a text on a line that was empty.
use Rattle.model.proofs.Prelude.{rules}
use Rattle.text_line.proofs.LineLaws.{first_part}
use Rattle.program_sentences.proofs.conditions.alone.Goals as goal

pub returns : goal.returns
returns c = search (first_part, rules)
