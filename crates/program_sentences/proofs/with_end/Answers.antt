-- `program_sentences::with_end` meets its contract: the line and its end are written from the start on.
use Rattle.model.proofs.Prelude.{rules}
use Rattle.text_buffer.proofs.WrittenLaws.{first-bytes, counts-bytes}
use Rattle.program_sentences.proofs.with_end.Goals as goal

pub returns-clause-bytes_value : goal.returns-clause-bytes_value
returns-clause-bytes_value c = search (first-bytes, counts-bytes, rules)
