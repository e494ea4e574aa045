-- The report record: its length, that it passes its own rules, and that its field for the number of tests has the limit of rule 33.
use Rattle.model.proofs.Prelude.{ℕ, ◌≤◌, ◌<◌, ◌+◌, ◌*◌, suc, ◌^◌, zero, ◌/◌, ◌%◌, ◌≡◌, ap, refl, subst, ◌↔◌, Bool, List, [], ◌∷◌, ◌++◌, length}
use Rattle.model.proofs.Prelude.{drop, length-append, leb, T, eqb, leb→le, eqb→eq, le→leb, arith}
use Rattle.model.specs.Base.{little_endian, from_little_endian, field}
use Rattle.model.specs.Netlist.{Netlist}
use Rattle.model.specs.Path.{Edge, rising, falling}
use Rattle.model.specs.Runs.{Run}
use Rattle.model.specs.Read.{marked, record_length}
use Rattle.model.specs.Store.{ByEdge, of_edge, max_runs, max_tests}
use Rattle.model.specs.Report.{run_bytes, report_head, report_record, report_rules, report_buffer_bytes, records, file_records, whole_records}
use Rattle.model.proofs.BoolLaws.{and_left, and_right, both, eq→eqb}
use Rattle.model.proofs.AnswerLaws.{AllPass, same_refl}

-- A number that its bytes hold is read back
pub little_endian-back : (n k : ℕ) → k < 256 ^ n → from_little_endian (little_endian n k) ≡ k
little_endian-back zero k h = omega arith
little_endian-back (suc n) k h =
    let p : 256 ^ suc n ≡ 256 * 256 ^ n = omega arith in
    omega (arith, little_endian-back n (k / 256) (omega arith))

-- and what is read from bytes so written is a number that they hold
little_endian-below : (n k : ℕ) → from_little_endian (little_endian n k) < 256 ^ n
little_endian-below zero k = omega arith
little_endian-below (suc n) k =
    let p : 256 ^ suc n ≡ 256 * 256 ^ n = omega arith in
    omega (arith, little_endian-below n (k / 256))

pub length-run_bytes : (rs : List Run) → length (run_bytes rs) ≡ 16 * length rs
length-run_bytes [] = refl
length-run_bytes (r ∷ rs) = omega (arith, length-run_bytes rs)

pub length-report_head : (n paths : ℕ) (s : ByEdge (List Run)) → length (report_head n paths s) ≡ 34
unfolding report_head
length-report_head n paths s = refl

-- The length of a report
pub length-report : (n paths : ℕ) (s : ByEdge (List Run))
    → length (report_record n paths s) ≡ 34 + 16 * (length s.on_rising + length s.on_falling)
unfolding report_record
length-report n paths s =
    omega (
      arith,
      length-append (report_head n paths s) (run_bytes s.on_rising ++ run_bytes s.on_falling),
      length-report_head n paths s,
      length-append (run_bytes s.on_rising) (run_bytes s.on_falling),
      length-run_bytes s.on_rising,
      length-run_bytes s.on_falling,
    )

-- A store's report fits the buffer
pub report-fits : (n paths : ℕ) (s : ByEdge (List Run)) → ((d : Edge) → length (of_edge s d) ≤ max_runs)
    → length (report_record n paths s) ≤ report_buffer_bytes
report-fits n paths s f = omega (arith, length-report n paths s, f rising, f falling)

-- A store's report passes its own rules
pub report-passes : (n paths : ℕ) (s : ByEdge (List Run)) → ((d : Edge) → length (of_edge s d) ≤ max_runs)
    → AllPass (report_rules (report_record n paths s) (report_record n paths s))
unfolding report_record report_head
report-passes n paths s f =
    let rep = report_record n paths s in
    let l = length-report n paths s in (
      both (leb 34 (length rep)) (marked 0x52 0x50 rep) (le→leb 34 (length rep) (omega arith)) tt,
      (
        eq→eqb (length rep) (34 + 16 * (field 14 2 rep + field 16 2 rep)) (omega (arith, l, f rising, f falling)),
        (same_refl rep, tt),
      ),
    )

-- The limit of rule 33 on a number of records, as `whole_records` writes it, is that of 32 bits
pub count-limit : (n : ℕ) → T (leb n max_tests) ↔ (n < 2 ^ 32)
count-limit n = (λ t. omega (arith, leb→le n max_tests t), λ h. le→leb n max_tests (omega arith))

-- and that of the report's field of 4 bytes: exactly such a number of tests is read back from the record
pub count-field : (n paths : ℕ) (s : ByEdge (List Run)) → (n < 256 ^ 4) ↔ (field 2 4 (report_record n paths s) ≡ n)
unfolding report_record report_head
count-field n paths s = (λ h. little_endian-back 4 n h, λ q. subst (λ (k : ℕ). k < 256 ^ 4) q (little_endian-below 4 n))

pub length-records : (len n : ℕ) (bs : List ℕ) → length (records len n bs) ≡ n
length-records len zero bs = refl
length-records len (suc n) bs = ap suc (length-records len n (drop len bs))

-- Rule 33 takes a file exactly when it is a whole number of records and the report's field holds the number of them
pub whole-fits : (N : Netlist) (test_file : List ℕ) (paths : ℕ) (s : ByEdge (List Run))
    → T (whole_records N test_file)
    ↔ ((length test_file % record_length N ≡ 0) × (field 2 4 (report_record (length (file_records N test_file)) paths s) ≡ length (file_records N test_file)))
whole-fits N test_file paths s =
    let len : ℕ = record_length N in
    let m : ℕ = length test_file / len in
    let c : length (file_records N test_file) ≡ m = length-records len m test_file in
    let a : Bool = eqb (length test_file % len) 0 in
    let b : Bool = leb m max_tests in (
      λ t. (
        eqb→eq (length test_file % len) 0 (and_left a b t),
        rw c ((count-field m paths s).0 ((count-limit m).0 (and_right a b t))),
      ),
      λ h. both a b (eq→eqb (length test_file % len) 0 h.0)
          ((count-limit m).1 ((count-field m paths s).1 (subst (λ (k : ℕ). field 2 4 (report_record k paths s) ≡ k) c h.1))),
    )
