-- What ticket 3 says of every record of a load, and of the state after so many vectors.
use Rattle.model.proofs.Prelude.{ℕ, ◌<◌, ◌+◌, ◌*◌, suc, zero, ◌/◌, ◌%◌, ◌≡◌, ◌∙◌, ap, refl, sym, subst, List, [], ◌∷◌, ◌++◌, map, append_assoc}
use Rattle.model.proofs.Prelude.{length, get_or, drop, take, length-append, length-map, take_at, drop_at, T, mod-lt, suc-mul, arith}
use native.Mathlib.Nat.{mul-div_cancel}
use Rattle.model.specs.Base.{value, checks}
use Rattle.model.specs.Detect.{Class, nonRobust, Test, has_edge}
use Rattle.model.specs.Netlist.{Netlist}
use Rattle.model.specs.Path.{Edge}
use Rattle.model.specs.Read.{record_length, test_of, test_rules}
use Rattle.model.specs.Report.{records, file_records}
use Rattle.model.proofs.ListLaws.{get_d_map-in}
use Rattle.load.specs.Load.{Pair, input_test, record_bytes, file_bytes, load_records_of, vector_records}
use Rattle.load_vectors.specs.Drawing.{state_after}
use Rattle.load.specs.Passes.{MovesOnly, input_at, edge_at, place_at, load_file, record_at, LoadPasses, state_after_calls}
use Rattle.load.proofs.SizeLaws.{Wide, length-record, test-wide, after-add}
use Rattle.load.proofs.PackedVectorLaws.{judged_pair, record_passes, record_back}
use Rattle.load.proofs.MoveLaws.{TestAt, edge-differs, test-moves, vector_tests, vectors-length, vectors-at, vectors-bytes}

abbrev no_test : Pair
no_test = record { v1 = []; v2 = [] }

-- tests whose vectors have so many inputs
abbrev AllWide : ℕ → List Pair → Type 0
AllWide n ts = (i : ℕ) (d : Pair) → i < length ts → Wide n (get_or ts i d)

-- their records end to end, cut by length alone, are their records
module _ (N : Netlist) where
  cut : (ts : List Pair) → AllWide N.inputs ts
      → (records (record_length N) (length ts) (file_bytes ts) ≡ map record_bytes ts) × (length (file_bytes ts) ≡ length ts * record_length N)
  unfolding file_bytes
  cut [] w = (refl, omega arith)
  cut (t ∷ ts) w =
      let l : length (record_bytes t) ≡ record_length N = length-record N.inputs t (w 0 t (omega arith)) in
      let c = cut ts (λ i d h. w (suc i) d (omega arith)) in
      let n : suc (length ts) * record_length N ≡ length ts * record_length N + record_length N =
      suc-mul (length ts) (record_length N) in
      let a = length-append (record_bytes t) (file_bytes ts) in
      let first : take (record_length N) (record_bytes t ++ file_bytes ts) ≡ record_bytes t =
      take_at (record_bytes t) (file_bytes ts) (record_length N) l in
      let rest : drop (record_length N) (record_bytes t ++ file_bytes ts) ≡ file_bytes ts =
      drop_at (record_bytes t) (file_bytes ts) (record_length N) l in
      let size : length (file_bytes ts) ≡ length ts * record_length N = c.1 in (
        rw (first, rest) (ap (λ (z : List (List ℕ)). record_bytes t ∷ z) c.0),
        omega arith,
      )

  cut-file : (ts : List Pair) → AllWide N.inputs ts → file_records N (file_bytes ts) ≡ map record_bytes ts
  cut-file ts w =
      let c = cut ts w in
      let n : length (file_bytes ts) / record_length N ≡ length ts =
      ap (λ k. k / record_length N) c.1 ∙ mul-div_cancel (length ts) {n = record_length N} (omega arith) in
      ap (λ k. records (record_length N) k (file_bytes ts)) n ∙ c.0

  module _ (vectors s : ℕ) where
    count : length (vector_tests N.inputs vectors s) ≡ vectors * (2 * N.inputs)
    count = vectors-length N.inputs vectors s

    wide_of : (i : ℕ) (t : Pair) → TestAt N.inputs i t → Wide N.inputs t
    wide_of i t a =
        let w : Wide (length a.vector) (input_test a.vector (input_at i) (edge_at i)) =
        test-wide a.vector (input_at i) (edge_at i) in
        subst (λ (n : ℕ). Wide n t) a.long (subst (λ (x : Pair). Wide (length a.vector) x) (sym a.is) w)

    all-wide : AllWide N.inputs (vector_tests N.inputs vectors s)
    all-wide i d h =
        wide_of (i % (2 * N.inputs)) (get_or (vector_tests N.inputs vectors s) i d) (vectors-at N.inputs vectors s i d (omega (arith, count)))

    file-is : load_file N vectors s ≡ map record_bytes (vector_tests N.inputs vectors s)
    file-is =
        ap (file_records N) (vectors-bytes N.inputs vectors s) ∙ cut-file (vector_tests N.inputs vectors s) all-wide

    all-count : length (load_file N vectors s) ≡ length (vector_tests N.inputs vectors s)
    all-count = ap (length {A = List ℕ}) file-is ∙ length-map (vector_tests N.inputs vectors s) record_bytes

    all_whole : length (vector_records N.inputs vectors s) ≡ length (load_file N vectors s) * record_length N
    all_whole =
        ap (length {A = ℕ}) (vectors-bytes N.inputs vectors s) ∙ (cut (vector_tests N.inputs vectors s) all-wide).1
        ∙ sym (ap (λ k. k * record_length N) all-count)

    module _ (i : ℕ) (h : i < vectors * (2 * N.inputs)) where
      inside : i < length (vector_tests N.inputs vectors s)
      inside = omega (arith, count)

      wide : Wide N.inputs (get_or (vector_tests N.inputs vectors s) i no_test)
      wide = all-wide i no_test inside

      record_is : record_at N vectors s i ≡ record_bytes (get_or (vector_tests N.inputs vectors s) i no_test)
      record_is =
          ap (λ (z : List (List ℕ)). get_or z i []) file-is
          ∙ get_d_map-in record_bytes (vector_tests N.inputs vectors s) i no_test [] inside

      some : (n k : ℕ) → i < k * (2 * n) → 0 < 2 * n
      some zero k l = absurd (let z : k * (2 * 0) ≡ 0 = omega arith in omega arith)
      some (suc n) k l = omega arith

      pair-moves : (c : Class)
          → MovesOnly (judged_pair c (get_or (vector_tests N.inputs vectors s) i no_test)) (edge_at (place_at N i)) (input_at (place_at N i))
      pair-moves c =
          let p : ℕ = i % (2 * N.inputs) in
          let t : Pair = get_or (vector_tests N.inputs vectors s) i no_test in
          let a : TestAt N.inputs (i % (2 * N.inputs)) t = vectors-at N.inputs vectors s i no_test h in
          let below : i % (2 * N.inputs) < 2 * N.inputs = mod-lt i {m = 2 * N.inputs} (some N.inputs vectors h) in
          let l = a.long in
          subst (λ (x : Pair). MovesOnly (judged_pair c x) (edge_at p) (input_at p)) (sym a.is)
          (test-moves c a.vector (input_at p) (omega arith) (edge_at p))

      passed : checks (test_rules N (record_at N vectors s i)) ≡ value tt
      passed =
          let t : Pair = get_or (vector_tests N.inputs vectors s) i no_test in
          ap (λ (z : List ℕ). checks (test_rules N z)) record_is
          ∙ record_passes N t wide (edge-differs (judged_pair nonRobust t) (edge_at (place_at N i)) (input_at (place_at N i)) (pair-moves nonRobust).moves)

      moved : (c : Class)
          → MovesOnly (test_of N c (record_at N vectors s i)) (edge_at (place_at N i)) (input_at (place_at N i))
      moved c =
          let t : Pair = get_or (vector_tests N.inputs vectors s) i no_test in
          let back : test_of N c (record_at N vectors s i) ≡ judged_pair c t = ap (test_of N c) record_is ∙ record_back N t wide c in
          subst (λ (x : Test). MovesOnly x (edge_at (place_at N i)) (input_at (place_at N i))) (sym back) (pair-moves c)

-- Every record of a load, on every netlist with as many inputs, passes the test checks and moves exactly one input, in every class
pub load-passes : (N : Netlist) (vectors s : ℕ) → LoadPasses N vectors s
load-passes N vectors s = record {
  whole = all_whole N vectors s;
  count = all-count N vectors s ∙ count N vectors s;
  passes = passed N vectors s;
  moves = λ c i h. moved N vectors s i h c;
}

-- So in every record some input changes
pub load-changes : (N : Netlist) (c : Class) (vectors s i : ℕ) → i < vectors * (2 * N.inputs)
    → (e : Edge) × ((j : ℕ) × T (has_edge (test_of N c (record_at N vectors s i)) e j))
load-changes N c vectors s i h =
    (edge_at (place_at N i), (input_at (place_at N i), ((load-passes N vectors s).moves c i h).moves))

-- The state after n vectors of I inputs is that after n·I steps
pub state-after-calls : (n calls s : ℕ) → state_after_calls n calls s ≡ state_after (calls * n) s
unfolding state_after_calls state_after
state-after-calls n zero s = let e : 0 * n ≡ 0 = omega arith in sym (ap (λ k. state_after k s) e)
state-after-calls n (suc calls) s =
    let e : suc calls * n ≡ n + calls * n = omega (arith, suc-mul calls n) in
    state-after-calls n calls (state_after n s) ∙ sym (after-add n (calls * n) s) ∙ sym (ap (λ k. state_after k s) e)

-- Records of vectors, and then of further ones, are those of all: a load may be written in parts
pub vectors-add : (n a b s : ℕ)
    → vector_records n (a + b) s ≡ vector_records n a s ++ vector_records n b (state_after (a * n) s)
unfolding vector_records state_after
vectors-add n zero b s =
    let e : 0 + b ≡ b = omega arith in
    let z : 0 * n ≡ 0 = omega arith in
    ap (λ k. vector_records n k s) e ∙ sym (ap (λ k. vector_records n b (state_after k s)) z)
vectors-add n (suc a) b s =
    let e : suc a + b ≡ suc (a + b) = omega arith in
    let m : suc a * n ≡ n + a * n = omega (arith, suc-mul a n) in
    let t : state_after (suc a * n) s ≡ state_after (a * n) (state_after n s) =
    ap (λ k. state_after k s) m ∙ after-add n (a * n) s in
    let first : List ℕ = load_records_of n s in
    ap (λ k. vector_records n k s) e
    ∙ ap (λ (z : List ℕ). first ++ z) (vectors-add n a b (state_after n s))
    ∙ sym (append_assoc first (vector_records n a (state_after n s)) (vector_records n b (state_after (a * n) (state_after n s))))
    ∙ ap (λ x. first ++ vector_records n a (state_after n s) ++ vector_records n b x) (sym t)
