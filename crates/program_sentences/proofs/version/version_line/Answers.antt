-- `program_sentences::version::version_line` meets its contract: the text has room on a line.
use Rattle.model.proofs.Prelude.{refl}
use Rattle.program_sentences.proofs.ConditionLaws.{said}
use Rattle.program_sentences.proofs.version.version_line.Goals as goal

pub returns : goal.returns
returns c = said _ _ _ c.alone.ensures tt refl
