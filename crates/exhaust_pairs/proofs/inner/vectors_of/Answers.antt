-- `exhaust_pairs::inner::vectors_of` meets its contract: the shifted 1 does not leave the word.
use Rattle.model.proofs.Prelude.{◌≤◌, sym, subst, arith}
use lib.Pow.{pow_mono}
use Rattle.record_bytes.proofs.BitLaws.{one_shifted}
use Rattle.exhaust_pairs.proofs.inner.vectors_of.Goals as goal

pub returns : goal.returns
returns c =
    let is = one_shifted c.args.inputs (omega (arith, c.requires)) in
    (is, subst (λ k. k ≤ 64) (sym is) (pow_mono {i = c.args.inputs} {j = 6} c.requires))
