-- How long the text of a share is at the most.
use Rattle.model.proofs.Prelude.{ℕ, ◌≤◌, ◌<◌, ◌*◌, suc, ◌^◌, zero, ◌/◌, ◌%◌, ◌≡◌, ⊎_elim, true, false, ◌&&◌, length, length-append, leb, eqb, leb→le}
use Rattle.model.proofs.Prelude.{ltb, ltb→lt, mod-lt, pow-suc, arith, lt-ltb, le-ltb}
use native.Mathlib.Nat.{div-lt_iff_lt-mul}
use Rattle.model.proofs.BoolLaws.{le_or_lt, bool_cases, and_left, and_right, true→T}
use Rattle.text_line.specs.Decimal.{digits_of, decimal_text}
use Rattle.text_line.proofs.DecimalLaws.{at-most-20}
use Rattle.text_percent.specs.Shares.{count_text, percent_text, claimed_share, true_share}

-- numbers of few digits
digits-few : (k most n : ℕ) → n < 10 ^ suc k → length (digits_of most n) ≤ suc k
unfolding digits_of
digits-few k zero n h = omega arith
digits-few zero (suc most) n h = rw (lt-ltb n 10 h, digits_of) (omega arith)
digits-few (suc k) (suc most) n h =
    let p : 10 ^ suc (suc k) ≡ 10 ^ suc k * 10 = pow-suc 10 (suc k) in
    let fewer : n / 10 < 10 ^ suc k = omega arith in
    ⊎_elim (λ l. rw (le-ltb n 10 l, digits_of) (simp length-append (omega (arith, digits-few k most (n / 10) fewer))))
    (λ l. rw (lt-ltb n 10 l, digits_of) (omega arith)) (le_or_lt 10 n)

few : (k n : ℕ) → n < 10 ^ suc k → length (decimal_text n) ≤ suc k
unfolding decimal_text
few k n h = digits-few k 20 n h

pub percent_short : (part whole : ℕ) → 0 < whole → part ≤ whole → length (percent_text part whole) ≤ 7
unfolding percent_text
percent_short part whole h l =
    let share : part * 1000 / whole < 1001 =
    (div-lt_iff_lt-mul {k = whole} {x = part * 1000} {y = 1001} h).1 (omega arith) in
    let high : length (decimal_text (part * 1000 / whole / 10)) ≤ 3 = few 2 (part * 1000 / whole / 10) (omega arith) in
    let low : length (decimal_text (part * 1000 / whole % 10)) ≤ 1 =
    few 0 (part * 1000 / whole % 10) (mod-lt (part * 1000 / whole) (omega arith)) in
    simp length-append (omega (arith, high, low))

count-short : (paths : ℕ) → length (count_text paths) ≤ 26
unfolding count_text
count-short paths =
    ⊎_elim (λ (e : eqb paths 1 ≡ true). rw (e, count_text) (simp length-append (omega (arith, at-most-20 paths))))
    (λ (e : eqb paths 1 ≡ false). rw (e, count_text) (simp length-append (omega (arith, at-most-20 paths)))) (bool_cases (eqb paths 1))

module _ (part paths : ℕ) where
  there : (ltb 0 paths && leb part paths) ≡ true → length (percent_text part paths) ≤ 7
  there e =
      percent_short part paths (ltb→lt 0 paths (and_left (ltb 0 paths) (leb part paths) (true→T (ltb 0 paths && leb part paths) e)))
      (leb→le part paths (and_right (ltb 0 paths) (leb part paths) (true→T (ltb 0 paths && leb part paths) e)))

  pub claimed_short : length (claimed_share part paths) ≤ 40
  unfolding claimed_share
  claimed_short =
      ⊎_elim (λ (e : (ltb 0 paths && leb part paths) ≡ true). rw (e, claimed_share) (simp length-append (omega (arith, there e, count-short paths))))
      (λ (e : (ltb 0 paths && leb part paths) ≡ false). rw (e, claimed_share) (simp length-append (omega (arith, count-short paths)))) (bool_cases (ltb 0 paths && leb part paths))

  pub true_short : length (true_share part paths) ≤ 10
  unfolding true_share
  true_short =
      ⊎_elim (λ (e : (ltb 0 paths && leb part paths) ≡ true). rw (e, true_share) (simp length-append (omega (arith, there e))))
      (λ (e : (ltb 0 paths && leb part paths) ≡ false). rw (e, true_share) (omega arith)) (bool_cases (ltb 0 paths && leb part paths))
