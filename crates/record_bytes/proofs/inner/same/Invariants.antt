-- `record_bytes::inner::same` meets its contract: what is left decides.
use Rattle.model.proofs.Prelude.{◌+◌, ◌-◌, ◌≡◌, drop, take}
use Rattle.model.specs.Base.{little_endian}
use Rattle.model.specs.Report.{same_bytes}
use Rattle.record_bytes.proofs.inner.same.Given as goal

abbrev pub invariant-loop-i : goal.invariant-loop-i
invariant-loop-i l =
    let left = l.k - l.i in
    same_bytes (take left (drop (l.at + l.i) l.s)) (little_endian left l.rest) ≡ same_bytes (take l.k (drop l.at l.s)) (little_endian l.k l.number)
