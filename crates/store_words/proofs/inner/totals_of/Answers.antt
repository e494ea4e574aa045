-- `store_words::inner::totals_of` meets its contract: the sizes of the runs at the run places of each edge.
use Rattle.model.proofs.Prelude.{rules}
use Rattle.store_words.proofs.SoundLaws.{sound-rising, sound-falling, totals-sum}
use Rattle.store_words.proofs.inner.totals_of.Goals as goal

pub returns : goal.returns
returns c = search (totals-sum, rules)

pub size-falling-requires-clause-sound : goal.size-falling-requires-clause-sound
size-falling-requires-clause-sound c = search (sound-rising, sound-falling, totals-sum, rules)

pub size-rising-requires-clause-sound : goal.size-rising-requires-clause-sound
size-rising-requires-clause-sound c = search (sound-rising, sound-falling, totals-sum, rules)
