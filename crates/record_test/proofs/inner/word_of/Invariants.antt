-- `record_test::inner::word_of` meets its contract. The loop's invariant: the bytes from k on are read.
use Rattle.record_test.proofs.RecordCases.{Reading}
use Rattle.record_test.proofs.inner.word_of.Given as goal

abbrev pub invariant-loop-k : goal.invariant-loop-k
invariant-loop-k l = Reading l.part l.bytes l.word l.k
