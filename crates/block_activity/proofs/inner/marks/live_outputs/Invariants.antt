-- `block_activity::inner::marks::live_outputs` meets its contract. The loop's invariant: bit p of word t says for each output p before o whether it is live in record t.
use Rattle.block_words.specs.NetStates.{plane}
use Rattle.block_activity.proofs.OutputMarkCases.{Outputting}
use Rattle.block_activity.proofs.inner.marks.live_outputs.Given as goal

abbrev pub invariant-loop-o : goal.invariant-loop-o
invariant-loop-o l = Outputting l.offsets l.inputs l.outputs (plane l.edge l.words) l.outs l.o
