-- `bench_net_names::words::copy_words` meets its contract: so many words are copied.
use Rattle.model.proofs.Prelude.{◌≡◌, ◌+◌, ◌-◌, length, take, length-take-le, arith}
use Rattle.text_line.proofs.LineLaws.{put-part}
use Rattle.bench_net_names.proofs.words.copy_words.Goals as goal

pub returns : goal.returns
returns c =
    let args = c.args in
    let long : length (take args.n args.words.now) ≡ args.n = length-take-le args.n args.words.now c.requires.0 in
    put-part args.to_words.now args.at (args.at + args.n - args.at) c.copy_from_slice.new.self (take args.n args.words.now) c.copy_from_slice.ensures.after
    (omega (arith, long)) (omega (arith, long, c.requires.1))
