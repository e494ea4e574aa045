-- `record_bytes::inner::put` meets its contract: what is left to write, written, gives the whole.
use Rattle.model.proofs.Prelude.{◌+◌, ◌-◌, ◌≡◌, length, sets}
use Rattle.model.specs.Base.{little_endian}
use Rattle.record_bytes.proofs.inner.put.Given as goal

abbrev pub invariant-loop-i : goal.invariant-loop-i
invariant-loop-i l =
    (length l.s ≡ length l.initial.s) × (sets l.s (l.at + l.i) (little_endian (l.k - l.i) l.rest) ≡ sets l.initial.s l.at (little_endian l.k l.number))
