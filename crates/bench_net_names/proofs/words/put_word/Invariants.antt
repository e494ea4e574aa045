-- `bench_net_names::words::put_word` meets its contract: the bytes that are left, put from here on, give the whole.
use Rattle.model.proofs.Prelude.{◌+◌, ◌-◌}
use Rattle.bench_net_names.proofs.WordLaws.{WordLeft}
use Rattle.bench_net_names.proofs.words.put_word.Given as goal

abbrev pub invariant-loop-place : goal.invariant-loop-place
invariant-loop-place l = WordLeft l.initial.out l.at l.word l.out l.place l.rest (l.at + 8 - l.place)
