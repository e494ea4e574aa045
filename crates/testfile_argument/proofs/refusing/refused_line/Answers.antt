-- `testfile_argument::refused_line` meets its contract: the parts of the line one after the other.
use Rattle.testfile_argument.proofs.RefusingLaws.{refused-cases}
use Rattle.testfile_argument.proofs.refusing.refused_line.Goals as goal

pub returns : goal.returns
returns c = search refused-cases

pub returns-then-is_of_record : goal.returns-then-is_of_record
returns-then-is_of_record c = search refused-cases
