-- `store_words::inner::parts::edge_runs` meets its contract: the words from where the edge begins, two for each of its runs.
use Rattle.model.proofs.Prelude.{rules}
use Rattle.store_words.proofs.RunPlaceLaws.{rising-words, falling-words}
use Rattle.store_words.proofs.inner.parts.edge_runs.Goals as goal

pub enum_told-1 : goal.enum_told-1
enum_told-1 c = search rules

pub returns-in-Falling : goal.returns-in-Falling
returns-in-Falling c = search (rising-words, falling-words, rules)
