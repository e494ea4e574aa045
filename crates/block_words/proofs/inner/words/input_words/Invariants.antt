-- `block_words::inner::words::input_words` meets its contract. The loop's invariant: the words of the inputs before `input` are right, and what is past those of 512 nets is kept.
use Rattle.model.proofs.Prelude.{◌≤◌, ◌-◌}
use Rattle.block_words.specs.NetStates.{InputWords}
use Rattle.block_words.proofs.inner.words.input_words.Given as goal

abbrev pub invariant-loop-input : goal.invariant-loop-input
invariant-loop-input l = InputWords l.firsts l.lasts l.input l.n l.initial.words l.words × (l.input ≤ l.inputs)
