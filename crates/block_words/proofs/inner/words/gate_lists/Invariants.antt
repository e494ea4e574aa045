-- `block_words::inner::words::gate_lists` meets its contract. The loop's invariant: the words of the nets before `net` are right, each record's lists have its live gates before
-- `net`, for every netlist whose table it is and every block of tests of the class, and what is past the words of 512 nets is kept.
use Rattle.model.proofs.Prelude.{◌-◌, ◌≡◌, length}
use Rattle.block_words.proofs.GateListCases.{Listing}
use Rattle.block_words.proofs.inner.words.gate_lists.Given as goal

abbrev pub invariant-loop-net : goal.invariant-loop-net
invariant-loop-net l =
    Listing l.table l.fn.shape l.class l.initial.words l.words l.initial.rising_lists l.rising_lists l.rising_lens
    l.initial.falling_lists l.falling_lists l.falling_lens l.net
    × (length l.rising_rows ≡ 8) × (length l.falling_rows ≡ 8)
