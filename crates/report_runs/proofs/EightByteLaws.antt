-- Numbers of four and eight bytes from their fields of two, and the fields before the runs of a report.
use Rattle.model.proofs.Prelude.{ℕ, ◌+◌, ◌*◌, suc, zero, ◌≡◌, ◌∙◌, ap, List, [], ◌∷◌, drop, take, drop-drop, arith}
use Rattle.model.specs.Base.{field, from_little_endian}
use Rattle.report_runs.specs.ReportRuns.{head_of}

two-more : (n : ℕ) (l : List ℕ)
    → from_little_endian (take (suc (suc n)) l) ≡ from_little_endian (take 2 l) + 65536 * from_little_endian (take n (drop 2 l))
two-more zero [] = omega arith
two-more (suc n) [] = omega arith
two-more zero (x ∷ []) = omega arith
two-more (suc n) (x ∷ []) = omega arith
two-more n (x ∷ y ∷ l) = omega arith

-- the field of two bytes, then the others
field-more : (bs : List ℕ) (at n : ℕ) → field at (suc (suc n)) bs ≡ field at 2 bs + 65536 * field (at + 2) n bs
field-more bs at n =
    two-more n (drop at bs) ∙ ap (λ (z : List ℕ). field at 2 bs + 65536 * from_little_endian (take n z)) (drop-drop 2 at bs)

pub four : (bs : List ℕ) (at a b : ℕ) → a ≡ field at 2 bs → b ≡ field (at + 2) 2 bs → a + 65536 * b ≡ field at 4 bs
four bs at a b p q =
    let z : field at 4 bs ≡ a + 65536 * b = field-more bs at 2 ∙ rw (p, q) in
    omega (arith, z)

pub eight : (bs : List ℕ) (at a b c d : ℕ) → a ≡ field at 2 bs → b ≡ field (at + 2) 2 bs → c ≡ field (at + 4) 2 bs
    → d ≡ field (at + 6) 2 bs → a + 65536 * b + 4294967296 * c + 281474976710656 * d ≡ field at 8 bs
eight bs at a b c d p q r s =
    let i : at + 2 + 2 ≡ at + 4 = omega arith in
    let j : at + 4 + 2 ≡ at + 6 = omega arith in
    let x : field (at + 4) 4 bs ≡ c + 65536 * d = field-more bs (at + 4) 2 ∙ rw (j, r, s) in
    let y : field (at + 2) 6 bs ≡ b + 65536 * (c + 65536 * d) = field-more bs (at + 2) 4 ∙ rw (i, x, q) in
    let z : field at 8 bs ≡ a + 65536 * (b + 65536 * (c + 65536 * d)) = field-more bs at 6 ∙ rw (y, p) in
    omega (arith, z)

-- the fields before the runs, as the code reads them
pub head_read : (bs : List ℕ) (a b paths rising_runs_of falling_runs_of risingFaults fallingFaults : ℕ) → a ≡ field 2 2 bs → b ≡ field 4 2 bs
    → paths ≡ field 6 8 bs → rising_runs_of ≡ field 14 2 bs → falling_runs_of ≡ field 16 2 bs → risingFaults ≡ field 18 8 bs → fallingFaults ≡ field 26 8 bs
    → record {
      tests = a + 65536 * b;
      paths = paths;
      rising_runs = rising_runs_of;
      falling_runs = falling_runs_of;
      rising_faults = risingFaults;
      falling_faults = fallingFaults;
    } ≡ head_of bs
head_read bs a b paths rising_runs_of falling_runs_of risingFaults fallingFaults p q r s t u v =
    λ i. record {
      tests = four bs 2 a b p q i;
      paths = r i;
      rising_runs = s i;
      falling_runs = t i;
      rising_faults = u i;
      falling_faults = v i;
    }
