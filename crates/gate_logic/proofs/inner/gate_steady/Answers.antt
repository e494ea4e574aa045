-- `gate_logic::inner::gate_steady` meets its contract: the `or` of two bits.
use Rattle.model.proofs.Prelude.{not, eqb}
use lib.Bits.{bit_and}
use Rattle.gate_logic.proofs.StateLaws.{either}
use Rattle.gate_logic.proofs.inner.gate_steady.Goals as goal

pub returns : goal.returns
returns c =
    let a = c.args in
    either (eqb a.steady a.all) (not (eqb (bit_and a.steady a.controlling) 0)) c.one_where.result c.one_where-2.result
    c.one_where.ensures.0 c.one_where-2.ensures.0
