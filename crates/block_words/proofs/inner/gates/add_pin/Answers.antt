-- `block_words::inner::gates::add_pin` meets its contract.
use Rattle.model.proofs.Prelude.{◌∙◌, ap, ◌&&◌, ◌||◌}
use lib.Bits.{bit_and, bit_xor}
use Rattle.model.specs.Base.{bit}
use Rattle.record_bytes.proofs.BitLaws.{and_bit, or_bit, xor_bit}
use Rattle.block_words.proofs.inner.gates.add_pin.Goals as goal

pub returns : goal.returns
returns c =
    let args = c.args in
    let one = args.tally.one in
    let two = args.tally.two in
    let mask = args.noncontrolling in
    let value = args.value in
    let controlling = bit_xor mask value in
    record {
      ones = λ t. or_bit one controlling t ∙ ap (λ b. bit one t || b) (xor_bit mask value t);
      twos = λ t. or_bit two (bit_and one controlling) t
          ∙ ap (λ b. bit two t || b) (and_bit one controlling t ∙ ap (λ b. bit one t && b) (xor_bit mask value t));
      parities = λ t. xor_bit args.tally.parity value t;
    }
