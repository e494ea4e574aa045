-- The first text, a number of at most 20 digits, the second text with the end of the line.
use native.Mathlib.Omega.{arith}
use Rattle.text_line.specs.Decimal.{decimal_text}
use Rattle.text_line.proofs.DecimalLaws.{at-most-20}
use Rattle.text_buffer.proofs.WrittenLaws.{written, then-written, written-length}
use Rattle.text_buffer.proofs.inner.put_numbered.Goals as goal

pub put_plain-requires : goal.put_plain-requires
put_plain-requires c = omega (arith, at-most-20 c.args.number)

pub returns : goal.returns
returns c =
    let a = c.args in
    let few = at-most-20 a.number in
    let p1 = written {out = a.out.now} {at = a.at} {t = a.before.now} (omega arith) c.put_text-digits.ensures in
    let same = written-length p1 in
    let start = c.put_text-digits in
    let p2 = written {out = start.new.out} {at = start.result} {t = decimal_text a.number} (omega (arith, same, p1.place, few)) c.put_number-rest.ensures in
    let rest = c.put_plain.ensures in
    (then-written (then-written p1 p2) rest.0, omega (arith, p1.place, p2.place, rest.1, few))
