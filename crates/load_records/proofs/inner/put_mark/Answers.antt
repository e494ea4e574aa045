-- `load_records::inner::put_mark` meets its contract: two bytes stored one after the other.
use Rattle.model.proofs.Prelude.{length-set, arith}
use Rattle.load_records.proofs.TestPutLaws.{mark-put}
use Rattle.load_records.proofs.inner.put_mark.Goals as goal

pub bounds-records-at-2 : goal.bounds-records-at-2
bounds-records-at-2 c = simp length-set (omega (arith, c.requires))

pub returns : goal.returns
returns c = mark-put c.args.records.now c.args.at
