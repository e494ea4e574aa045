-- A test file in pieces of whole records: the test calls with one piece after the other are those with the records of the whole file.
use Rattle.model.proofs.Prelude.{ℕ, ◌≤◌, ◌<◌, ◌+◌, ◌*◌, suc, zero, ◌/◌, ◌%◌, ◌≡◌, ◌∙◌, ap, refl, ap₂, List, [], ◌∷◌, ◌++◌, length, drop, take}
use Rattle.model.proofs.Prelude.{length-append, length-drop, zero-add, suc-mul, suc-add, arith}
use native.Mathlib.Nat.{mul-add-div_right, mod-add-div, mul_comm}
use lib.Seq.{take-append-le, drop-append-le}
use Rattle.model.specs.Base.{Answer, refused, value, ◌into◌}
use Rattle.model.specs.Netlist.{Netlist}
use Rattle.model.specs.Detect.{Class}
use Rattle.model.specs.Read.{record_length}
use Rattle.model.specs.Calls.{Tested, store_left, test_stage}
use Rattle.model.specs.Report.{records, file_records, test_all}

-- the records of a part of a file, then those of the rest
records-append : (len m n : ℕ) (a b : List ℕ) → length a ≡ m * len → records len (m + n) (a ++ b) ≡ records len m a ++ records len n b
records-append len zero n [] b q = ap (λ (k : ℕ). records len k b) (zero-add n)
records-append len zero n (x ∷ a) b q = absurd (omega (arith, q))
records-append len (suc m) n a b q =
    let l : length a ≡ m * len + len = q ∙ suc-mul m len in
    let h : len ≤ length a = omega (arith, l) in
    let d : length (drop len a) ≡ m * len = omega (arith, l, length-drop len a) in
    ap (λ (k : ℕ). records len k (a ++ b)) (suc-add m n)
    ∙ ap₂ {C = List (List ℕ)} (λ (r s : List ℕ). r ∷ records len (m + n) s) (take-append-le len a b h) (drop-append-le len a b h)
    ∙ ap {B = List (List ℕ)} (λ (rs : List (List ℕ)). take len a ∷ rs) (records-append len m n (drop len a) b d)

pub file-records-append : (N : Netlist) (piece rest : List ℕ) → length piece % record_length N ≡ 0
    → file_records N (piece ++ rest) ≡ file_records N piece ++ file_records N rest
file-records-append N piece rest h =
    let len : ℕ = record_length N in
    let m : ℕ = length piece / len in
    let pos : zero < len = omega arith in
    let whole : length piece ≡ m * len = omega (arith, h, mod-add-div (length piece) len, mul_comm len m) in
    let l : length (piece ++ rest) ≡ m * len + length rest = omega (arith, length-append piece rest, whole) in
    let n : length (piece ++ rest) / len ≡ m + length rest / len = ap (λ (k : ℕ). k / len) l ∙ mul-add-div_right pos m (length rest) in
    ap (λ (k : ℕ). records len k (piece ++ rest)) n ∙ records-append len m (length rest / len) piece rest whole

-- one record, then the others
record_first : (N : Netlist) (x : Answer Tested) (f g : List ℕ → Answer (List ℕ)) (h : List ℕ → Answer (List ℕ)) → ((ws : List ℕ) → f ws ≡ (g ws into h))
    → (x into λ d. f (store_left d)) ≡ ((x into λ d. g (store_left d)) into h)
record_first N (refused n) f g h q = refl
record_first N (value d) f g h q = q (store_left d)

pub test_all-append : (N : Netlist) (c : Class) (rs qs : List (List ℕ)) (ws : List ℕ)
    → test_all N c (rs ++ qs) ws ≡ (test_all N c rs ws into λ left. test_all N c qs left)
unfolding test_all
test_all-append N c [] qs ws = refl
test_all-append N c (r ∷ rs) qs ws =
    record_first N (test_stage N c r ws) (λ v. test_all N c (rs ++ qs) v) (λ v. test_all N c rs v) (λ left. test_all N c qs left)
    (λ v. test_all-append N c rs qs v)

-- A piece of whole records, then the rest
pub piece-first : (N : Netlist) (c : Class) (piece rest ws : List ℕ) → length piece % record_length N ≡ 0
    → test_all N c (file_records N (piece ++ rest)) ws ≡ (test_all N c (file_records N piece) ws into λ left. test_all N c (file_records N rest) left)
piece-first N c piece rest ws h =
    ap (λ (rs : List (List ℕ)). test_all N c rs ws) (file-records-append N piece rest h) ∙ test_all-append N c (file_records N piece) (file_records N rest) ws
