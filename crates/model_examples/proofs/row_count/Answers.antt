-- `model_examples::row_count` meets its contract: the table has thirteen rows.
use Rattle.model_examples.proofs.StarredHold.{thirteen_rows}
use Rattle.model_examples.proofs.row_count.Goals as goal

pub returns : goal.returns
returns c = thirteen_rows
