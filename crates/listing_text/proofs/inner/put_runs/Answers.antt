-- `listing_text::inner::put_runs` meets its contract. The invariant: the lines that are left, written from here, give the whole, and there is room for them.
use Rattle.model.proofs.Prelude.{ℕ, ◌<◌, ◌+◌, ◌-◌, ◌*◌, ◌/◌, ◌≡◌, ◌∙◌, ap, sym, List, length, sets, arith, rules}
use Rattle.std.proofs.Math.Nat.{sub-zero, sub-add-eq}
use Rattle.text_buffer.proofs.WrittenLaws.{written-length}
use Rattle.listing_text.proofs.RunSteps.{run_length, runs-step, runs-bytes, runs-end}
use Rattle.listing_text.proofs.inner.put_runs.Goals as goal

pub loop-k-init : goal.loop-k-init
loop-k-init c = rw (sub-zero (length c.args.runs.now / 2)) (search rules, search rules, search rules, search rules)

pub put_run-at-requires : goal.put_run-at-requires
put_run-at-requires c = omega arith

pub loop-k-preserved : goal.loop-k-preserved
loop-k-preserved c =
    let letter = c.args.letter.now in
    let runs = c.args.runs.now in
    let l = c.loop-k in
    let put = c.put_run-at in
    let place = 2 * l.k in
    let left = length runs / 2 - l.k in
    let more : 0 < left = omega arith in
    let next : 2 * (l.k + 1) ≡ place + 2 = omega arith in
    rw (sub-add-eq (length runs / 2) l.k 1, next) (
      written-length put.ensures ∙ l.invariant.0,
      omega (arith, put.ensures.place, run_length letter runs place left c.requires.0, l.invariant.1),
      runs-step letter runs l.out put.new.out place left l.at put.result more put.ensures ∙ l.invariant.2,
      runs-bytes letter runs l.out put.new.out place left l.at put.result more put.ensures ∙ l.invariant.3,
    )

pub returns : goal.returns
returns c =
    let l = c.loop-k in
    let none = runs-end c.args.letter.now c.args.runs.now (2 * l.k) (length c.args.runs.now / 2 - l.k) (omega arith) in (
      record {
        bytes = ap (λ (t : List ℕ). sets l.out l.at t) (sym none) ∙ l.invariant.2;
        place = omega (arith, l.invariant.3, ap (length {A = ℕ}) none);
        inside = omega (arith, l.invariant.1, l.invariant.0, c.requires.1);
      },
      omega (arith, l.invariant.1),
    )
