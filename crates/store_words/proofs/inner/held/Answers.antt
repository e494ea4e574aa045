-- `store_words::inner::held` meets its contract: a search of the runs at the run places of the edge.
use Rattle.model.proofs.Prelude.{rules}
use Rattle.store_words.proofs.SoundLaws.{sound-rising, sound-falling, held-rising, held-falling}
use Rattle.store_words.proofs.inner.held.Goals as goal

pub returns-in-Rising : goal.returns-in-Rising
returns-in-Rising c = search (held-rising, rules)

pub returns-in-Falling : goal.returns-in-Falling
returns-in-Falling c = search (held-falling, rules)

pub contains-requires-clause-sound : goal.contains-requires-clause-sound
contains-requires-clause-sound c = search (sound-rising, sound-falling, held-rising, held-falling, rules)

pub contains-requires-in-Falling-clause-sound : goal.contains-requires-in-Falling-clause-sound
contains-requires-in-Falling-clause-sound c = search (sound-rising, sound-falling, held-rising, held-falling, rules)
