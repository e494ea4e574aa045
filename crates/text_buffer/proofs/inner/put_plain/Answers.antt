-- The text, then the end of its line.
use Rattle.std.specs.Prelude.{[], ◌∷◌}
use native.Mathlib.Omega.{arith}
use Rattle.text_buffer.proofs.WrittenLaws.{written, then-written, written-length}
use Rattle.text_buffer.proofs.inner.put_plain.Goals as goal

pub returns : goal.returns
returns c =
    let a = c.args in
    let p1 = written {out = a.out.now} {at = a.at} {t = a.text.now} (omega arith) c.put_text-end.ensures in
    let same = written-length p1 in
    let end = written {out = c.put_text-end.new.out} {at = c.put_text-end.result} {t = 10 ∷ []} (omega (arith, same, p1.place)) c.put_text.ensures in
    (then-written p1 end, omega (arith, p1.place, end.place))
