-- `exhaust_undetected::inner::next_path` meets its contract: a walk along the runs at the run places of the edge.
use Rattle.model.proofs.Prelude.{rules}
use Rattle.store_words.proofs.SoundLaws.{sound-rising, sound-falling}
use Rattle.exhaust_undetected.proofs.FreeLaws.{path-rising, path-falling}
use Rattle.exhaust_undetected.proofs.inner.next_path.Goals as goal

pub returns-in-Rising : goal.returns-in-Rising
returns-in-Rising c = search (path-rising, rules)

pub returns-in-Falling : goal.returns-in-Falling
returns-in-Falling c = search (path-falling, rules)

pub next_free-requires-clause-sound : goal.next_free-requires-clause-sound
next_free-requires-clause-sound c = search (sound-rising, sound-falling, path-rising, path-falling, rules)

pub next_free-requires-in-Falling-clause-sound : goal.next_free-requires-in-Falling-clause-sound
next_free-requires-in-Falling-clause-sound c = search (sound-rising, sound-falling, path-rising, path-falling, rules)
