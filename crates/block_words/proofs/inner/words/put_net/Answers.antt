-- `block_words::inner::words::put_net` meets its contract: five writes, each at a place of its own.
use Rattle.block_words.proofs.NetPutLaws.{room2, room3, room4, room5, net-put}
use Rattle.block_words.proofs.inner.words.put_net.Goals as goal

pub bounds-words-at-2 : goal.bounds-words-at-2
bounds-words-at-2 c = room2 c.args.words.now _ c.args.state c.requires.0 c.requires.1

pub bounds-words-at-3 : goal.bounds-words-at-3
bounds-words-at-3 c = room3 c.args.words.now _ c.args.state c.requires.0 c.requires.1

pub bounds-words-at-4 : goal.bounds-words-at-4
bounds-words-at-4 c = room4 c.args.words.now _ c.args.state c.requires.0 c.requires.1

pub bounds-words-at-5 : goal.bounds-words-at-5
bounds-words-at-5 c = room5 c.args.words.now _ c.args.state c.requires.0 c.requires.1

pub returns : goal.returns
returns c = net-put _ _ _ c.requires.0 c.requires.1
