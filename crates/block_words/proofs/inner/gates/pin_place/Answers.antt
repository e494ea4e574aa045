-- `block_words::inner::gates::pin_place` meets its contract: the pin has one of 512 nets, each with eight words.
use Rattle.model.proofs.Prelude.{arith, rules}
use Rattle.block_words.proofs.inner.gates.pin_place.Goals as goal

pub returns : goal.returns
returns c =
    record { place = search rules; inside = omega (arith, c.requires.0.is_net c.args.pin c.requires.1, c.wide_word.ensures.0) }
