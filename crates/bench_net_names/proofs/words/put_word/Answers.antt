-- `bench_net_names::words::put_word` meets its contract: the bytes that are left, put from here on, give the whole.
use Rattle.model.proofs.Prelude.{◌≤◌, ◌<◌, ◌+◌, ◌-◌, arith, rules}
use Rattle.std.proofs.Math.Nat.{sub-add-eq, add-sub_cancel_left}
use Rattle.bench_net_names.proofs.WordLaws.{word-start, word-place, word-again, word-stop, word_end, word_same, word-few}
use Rattle.bench_net_names.proofs.words.put_word.Goals as goal

pub loop-place-init : goal.loop-place-init
loop-place-init c = rw (add-sub_cancel_left c.args.at 8) (search (word-start, rules))

pub shape_of-out-then-rest-eq0 : goal.shape_of-out-then-rest-eq0
shape_of-out-then-rest-eq0 c = search (word_same, rules)

pub returns-then-rest-eq0 : goal.returns-then-rest-eq0
returns-then-rest-eq0 c = search (word-stop, word-few, rules)

pub bounds-out-place : goal.bounds-out-place
bounds-out-place c =
    let more : 0 < c.args.at + 8 - c.loop-place.place = omega arith in
    search (word-place, rules)

pub loop-place-preserved : goal.loop-place-preserved
loop-place-preserved c =
    let more : 0 < c.args.at + 8 - c.loop-place.place = omega arith in
    rw (sub-add-eq (c.args.at + 8) c.loop-place.place 1) (search (word-again, rules))

pub shape_of-out : goal.shape_of-out
shape_of-out c = search (word_same, rules)

pub returns : goal.returns
returns c =
    let none : c.args.at + 8 - c.loop-place.place ≤ 0 = omega arith in
    search (word_end, rules)
