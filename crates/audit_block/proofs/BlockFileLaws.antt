-- The records of a block among those of a file, and the test calls with them: the place Work of each where none is refused by its own rules.
use Rattle.model.proofs.Prelude.{ℕ, ◌≤◌, ◌<◌, ◌+◌, ◌-◌, ◌*◌, suc, zero, ◌/◌, ◌≡◌, ◌∙◌, ap, refl, sym, subst, List, [], ◌∷◌, ◌++◌, map, length, drop}
use Rattle.model.proofs.Prelude.{take, length-drop, length-map, drop-drop, div-eq_of_lt, add-one, arith}
use native.Mathlib.Nat.{div-eq-sub-div, mul-add, mul-suc, mul-zero}
use Rattle.model.specs.Base.{Answer, refused, value, ◌into◌, checks, numbers_from}
use Rattle.model.specs.Netlist.{Netlist, path_total}
use Rattle.model.specs.Detect.{Class, Test}
use Rattle.model.specs.Read.{test_rules, test_of, record_length}
use Rattle.model.specs.Store.{store_rules}
use Rattle.model.specs.Calls.{Tested, store_left, test_stage}
use Rattle.model.specs.Report.{records, file_records, test_all}
use Rattle.model.proofs.AnswerLaws.{checks-both}
use Rattle.model.proofs.ListLaws.{length-numbers_from}
use Rattle.store_coverage.specs.Stage.{MemoryReady, work_stage}
use Rattle.store_coverage.proofs.StageLaws.{stage-work, stage-refused}
use Rattle.block_activity.specs.Marks.{record_at}
use Rattle.block_stage.specs.BlockStage.{work_all, one_more_test, work_taken}
use Rattle.audit_block.specs.RecordsTaken.{taken_of}
use Rattle.audit_block.proofs.MemoryLaws.{all-memory}

-- ---- the records of a file

records-next : (len : ℕ) (bs : List ℕ) → 0 < len → len ≤ length bs
    → records len (length bs / len) bs ≡ take len bs ∷ records len (length (drop len bs) / len) (drop len bs)
records-next len bs p h =
    let e : length bs / len ≡ (length bs - len) / len + 1 = div-eq-sub-div {m = len} {n = length bs} p h in
    let d : length (drop len bs) ≡ length bs - len = length-drop len bs in
    ap (λ (n : ℕ). records len n bs) (e ∙ add-one ((length bs - len) / len)) ∙ rw d refl

records-end : (len : ℕ) (bs : List ℕ) → length bs < len → records len (length bs / len) bs ≡ []
records-end len bs h = ap (λ (n : ℕ). records len n bs) (div-eq_of_lt {n = length bs} {m = len} h)

module _ (N : Netlist) (test_file : List ℕ) (at : ℕ) where
  pub first-record : record_length N ≤ length test_file - at
      → file_records N (drop at test_file) ≡ take (record_length N) (drop at test_file) ∷ file_records N (drop (at + record_length N) test_file)
  first-record h =
      let len : ℕ = record_length N in
      let l : len ≤ length (drop at test_file) = omega (arith, length-drop at test_file) in
      records-next len (drop at test_file) (omega arith) l
      ∙ ap {B = List (List ℕ)} (λ (x : List ℕ). take len (drop at test_file) ∷ records len (length x / len) x) (drop-drop len at test_file)

  pub no_record : length test_file - at < record_length N → file_records N (drop at test_file) ≡ []
  no_record h = records-end (record_length N) (drop at test_file) (omega (arith, length-drop at test_file))

-- n of them, from record t on
abbrev pub block_records : Netlist → List ℕ → ℕ → ℕ → List (List ℕ)
block_records N part t n = map (record_at N part) (numbers_from t n)

pub length-block : (N : Netlist) (part : List ℕ) (t n : ℕ) → length (block_records N part t n) ≡ n
length-block N part t n = length-map (numbers_from t n) (record_at N part) ∙ length-numbers_from t n

module _ (N : Netlist) (part : List ℕ) where
  -- those of a block, then the others
  file-from : (n t : ℕ) → record_length N * (t + n) ≤ length part
      → file_records N (drop (record_length N * t) part) ≡ block_records N part t n ++ file_records N (drop (record_length N * (t + n)) part)
  file-from zero t h = let z : t ≡ t + 0 = omega arith in ap (λ k. file_records N (drop (record_length N * k) part)) z
  file-from (suc n) t h =
      let m : suc t + n ≡ t + suc n = omega arith in
      let next : record_length N * t + record_length N ≡ record_length N * suc t = sym (mul-suc (record_length N) t) in
      let l : record_length N * (t + suc n) ≡ record_length N * suc t + record_length N * n = ap (λ k. record_length N * k) (sym m) ∙ mul-add (record_length N) (suc t) n in
      first-record N part (record_length N * t) (omega (arith, l, next))
      ∙ ap {B = List (List ℕ)} (λ k. record_at N part t ∷ file_records N (drop k part)) next
      ∙ ap {B = List (List ℕ)} (λ (rs : List (List ℕ)). record_at N part t ∷ rs) (file-from n (suc t) (subst (λ k. record_length N * k ≤ length part) (sym m) h))
      ∙ ap {B = List (List ℕ)} (λ k. block_records N part t (suc n) ++ file_records N (drop (record_length N * k) part)) m

  pub file-block : (n : ℕ) → record_length N * n ≤ length part → file_records N part ≡ block_records N part 0 n ++ file_records N (drop (record_length N * n) part)
  file-block n h =
      let z : record_length N * 0 ≡ 0 = mul-zero (record_length N) in
      let s : 0 + n ≡ n = omega arith in
      ap (λ k. file_records N (drop k part)) (sym z)
      ∙ file-from n 0 (subst (λ k. record_length N * k ≤ length part) (sym s) h)
      ∙ ap (λ k. block_records N part 0 n ++ file_records N (drop (record_length N * k) part)) s

-- ---- the test calls with them

same-bind : {x y : Answer Tested} → x ≡ y → (f g : Tested → Answer (List ℕ)) → ((d : Tested) → x ≡ value d → f d ≡ g d) → (x into f) ≡ (y into g)
same-bind {x} {y} e f g h = go x h ∙ ap (λ (a : Answer Tested). a into g) e
  where
    go : (x : Answer Tested) → ((d : Tested) → x ≡ value d → f d ≡ g d) → (x into f) ≡ (x into g)
    go (refused n) h = refl
    go (value d) h = h d refl

same_more : {x y : Answer Tested} → x ≡ y → (f g : Tested → ℕ) → ((d : Tested) → x ≡ value d → f d ≡ g d) → one_more_test x f ≡ one_more_test y g
same_more {x} {y} e f g h = go x h ∙ ap (λ (a : Answer Tested). one_more_test a g) e
  where
    go : (x : Answer Tested) → ((d : Tested) → x ≡ value d → f d ≡ g d) → one_more_test x f ≡ one_more_test x g
    go (refused n) h = refl
    go (value d) h = ap (λ k. 1 + k) (h d refl)

-- records by number, and the tests that they are
module _ (N : Netlist) (c : Class) (rec : ℕ → List ℕ) (work : List ℕ) where
  abbrev tests : ℕ → Test
  tests t = test_of N c (rec t)

  -- no rule of the place Test refuses n records from record t on
  abbrev Legal : ℕ → ℕ → Type 0
  Legal t n = (i : ℕ) → t ≤ i → i < t + n → checks (test_rules N (rec i)) ≡ value tt

  stage-same : (t : ℕ) (ws : List ℕ) → checks (test_rules N (rec t)) ≡ value tt → MemoryReady N ws work → test_stage N c (rec t) ws ≡ work_stage N (tests t) ws
  stage-same t ws l m = stage-work N c (rec t) ws (sym (checks-both (test_rules N (rec t)) (store_rules (path_total N) ws) ∙ rw (l, m.sound) refl))

  next-memory : (t : ℕ) (ws : List ℕ) → MemoryReady N ws work → (d : Tested) → test_stage N c (rec t) ws ≡ value d → MemoryReady N (store_left d) work
  unfolding test_all
  next-memory t ws m d q = all-memory N c ws work work m refl (rec t ∷ []) (store_left d) (rw q refl)

  later : (t n : ℕ) → Legal t (suc n) → Legal (suc t) n
  later t n h i a b = h i (omega arith) (omega arith)

  block-from : (n t : ℕ) (ws : List ℕ) → MemoryReady N ws work → Legal t n
      → test_all N c (map rec (numbers_from t n)) ws ≡ work_all N tests t n ws
  unfolding test_all work_all
  block-from zero t ws m h = refl
  block-from (suc n) t ws m h =
      same-bind (stage-same t ws (h t (omega arith) (omega arith)) m)
      (λ d. test_all N c (map rec (numbers_from (suc t) n)) (store_left d)) (λ d. work_all N tests (suc t) n (store_left d))
      (λ d q. block-from n (suc t) (store_left d) (next-memory t ws m d q) (later t n h))

  taken-from : (n t : ℕ) (ws : List ℕ) → MemoryReady N ws work → Legal t n
      → taken_of N c (map rec (numbers_from t n)) ws ≡ work_taken N tests t n ws
  unfolding taken_of work_taken
  taken-from zero t ws m h = refl
  taken-from (suc n) t ws m h =
      same_more (stage-same t ws (h t (omega arith) (omega arith)) m)
      (λ d. taken_of N c (map rec (numbers_from (suc t) n)) (store_left d)) (λ d. work_taken N tests (suc t) n (store_left d))
      (λ d q. taken-from n (suc t) (store_left d) (next-memory t ws m d q) (later t n h))

  module _ (n : ℕ) {ws : List ℕ} (m : MemoryReady N ws work) (legal : (i : ℕ) → i < n → checks (test_rules N (rec i)) ≡ value tt) where
    all-legal : Legal 0 n
    all-legal i a b = legal i (omega arith)

    pub block-all : test_all N c (map rec (numbers_from 0 n)) ws ≡ work_all N tests 0 n ws
    block-all = block-from n 0 ws m all-legal

    pub block-taken : taken_of N c (map rec (numbers_from 0 n)) ws ≡ work_taken N tests 0 n ws
    block-taken = taken-from n 0 ws m all-legal

-- a record that a rule of the place Test refuses ends them
module _ (N : Netlist) (c : Class) (part : List ℕ) (n : ℕ) (inside : record_length N * (n + 1) ≤ length part)
    {k : ℕ} (q : checks (test_rules N (record_at N part n)) ≡ refused k) (ws : List ℕ) where
  here : test_stage N c (record_at N part n) ws ≡ refused k
  here = stage-refused N c (record_at N part n) ws k (sym (checks-both (test_rules N (record_at N part n)) (store_rules (path_total N) ws) ∙ rw q refl))

  rest-is : file_records N (drop (record_length N * n) part) ≡ record_at N part n ∷ file_records N (drop (record_length N * n + record_length N) part)
  rest-is = first-record N part (record_length N * n) (omega (arith, inside, mul-suc (record_length N) n, ap (λ i. record_length N * i) (add-one n)))

  pub rest-refused : test_all N c (file_records N (drop (record_length N * n) part)) ws ≡ refused k
  unfolding test_all
  rest-refused = ap (λ (rs : List (List ℕ)). test_all N c rs ws) rest-is ∙ rw here refl

  pub rest-untaken : taken_of N c (file_records N (drop (record_length N * n) part)) ws ≡ 0
  unfolding taken_of
  rest-untaken = ap (λ (rs : List (List ℕ)). taken_of N c rs ws) rest-is ∙ rw here refl
