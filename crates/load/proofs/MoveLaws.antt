-- The tests of a load in their order: which input each moves, and in which edge.
use Rattle.model.proofs.Prelude.{ℕ, ◌≤◌, ◌<◌, ◌+◌, ◌-◌, ◌*◌, suc, zero, ◌/◌, ◌%◌, ◌≡◌, ◌∙◌, ap, refl, sym, subst, ap₂, ⊎_elim, true, Bool, false}
use Rattle.model.proofs.Prelude.{◌&&◌, not, List, [], ◌∷◌, ◌++◌, append_assoc, length, get_or, length-append, set, List·getD-append, get_or-set_same}
use Rattle.model.proofs.Prelude.{get_or-set_other, T, eqb, suc-mul, mod-eq_of_lt, arith}
use native.Mathlib.Nat.{mod-eq-sub-mod}
use lib.Seq.{get_or-append-add}
use Rattle.model.specs.Detect.{Class, Test, has_edge}
use Rattle.model.specs.Path.{Edge, rising, falling}
use Rattle.model.proofs.BoolLaws.{le_or_lt, equal_or_not}
use Rattle.load.specs.Load.{Pair, final_value, input_test, tests_from, load_tests, file_bytes, load_records_of, vector_records, record_bytes}
use Rattle.load_vectors.specs.Drawing.{state_after, drawn}
use Rattle.load.specs.Passes.{MovesOnly, input_at, edge_at}
use Rattle.load.proofs.VectorSteps.{length-drawn, test-is}
use Rattle.load.proofs.PackedVectorLaws.{judged_pair}

-- an input that keeps its value makes no edge
no-rise : (b : Bool) → T (not b && b) → ⊥
no-rise true t = t
no-rise false t = t

no-fall : (b : Bool) → T (b && not b) → ⊥
no-fall true t = t
no-fall false t = t

-- so the vectors of a test that makes one differ
pub edge-differs : (t : Test) (e : Edge) (j : ℕ) → T (has_edge t e j) → t.v1 ≡ t.v2 → ⊥
unfolding has_edge
edge-differs t rising j m q = no-rise (get_or t.v2 j false) (subst (λ (v : List Bool). T (not (get_or v j false) && get_or t.v2 j false)) q m)
edge-differs t falling j m q = no-fall (get_or t.v2 j false) (subst (λ (v : List Bool). T (get_or v j false && not (get_or t.v2 j false))) q m)

-- two vectors that differ in input j at the most, in a class
module _ (c : Class) (v : List Bool) (j : ℕ) where
  abbrev around : Bool → Bool → Test
  around a b = record { v1 = set v j a; v2 = set v j b; class = c }

  -- another input makes no edge
  elsewhere : (a b : Bool) (f : Edge) (k : ℕ) → (k ≡ j → ⊥) → T (has_edge (around a b) f k) → ⊥
  unfolding has_edge
  elsewhere a b rising k d t =
      no-rise (get_or v k false) (rw (get_or-set_other v j k a false d, get_or-set_other v j k b false d) at t)
  elsewhere a b falling k d t =
      no-fall (get_or v k false) (rw (get_or-set_other v j k a false d, get_or-set_other v j k b false d) at t)

  module _ (inside : j < length v) where
    here : (b : Bool) → get_or (set v j b) j false ≡ b
    here b = get_or-set_same v j b false inside

    -- input j from 0 to 1 rises and does not fall, and the other way round
    edge_here : (e f : Edge) → T (has_edge (around (not (final_value e)) (final_value e)) f j) → f ≡ e
    unfolding has_edge
    edge_here rising rising t = refl
    edge_here rising falling t = absurd (rw (here false) at t)
    edge_here falling rising t = absurd (rw (here true) at t)
    edge_here falling falling t = refl

    moved_here : (e : Edge) → T (has_edge (around (not (final_value e)) (final_value e)) e j)
    unfolding has_edge
    moved_here rising = rw (here false, here true) tt
    moved_here falling = rw (here false, here true) tt

    moved-around : (e : Edge) → MovesOnly (around (not (final_value e)) (final_value e)) e j
    moved-around e =
        let t : Test = around (not (final_value e)) (final_value e) in
        record {
          moves = moved_here e;
          no_other = λ (f : Edge) (k : ℕ) (m : T (has_edge t f k)).
              ⊎_elim (λ (q : k ≡ j). (edge_here e f (subst (λ (i : ℕ). T (has_edge t f i)) q m), q))
              (λ (d : k ≡ j → ⊥). absurd (elsewhere (not (final_value e)) (final_value e) f k d m)) (equal_or_not k j);
        }

    -- The test of an input moves that input alone
    pub test-moves : (e : Edge) → MovesOnly (judged_pair c (input_test v j e)) e j
    test-moves e = subst (λ (t : Pair). MovesOnly (judged_pair c t) e j) (sym (test-is v j e inside)) (moved-around e)

-- the test at a place of a vector's tests
pub record TestAt (n i : ℕ) (t : Pair) : Type 0 where
  pub vector : List Bool
  pub long : length vector ≡ n
  pub is : t ≡ input_test vector (input_at i) (edge_at i)

order : (v : List Bool) (n j i : ℕ) (d : Pair) → i < 2 * n
    → get_or (tests_from v j n) i d ≡ input_test v (j + i / 2) (edge_at i)
unfolding tests_from
order v zero j i d h = absurd (omega arith)
order v (suc n) j zero d h = let e : j + 0 / 2 ≡ j = omega arith in ap (λ k. input_test v k rising) (sym e)
order v (suc n) j (suc zero) d h = let e : j + 1 / 2 ≡ j = omega arith in ap (λ k. input_test v k falling) (sym e)
order v (suc n) j (suc (suc i)) d h =
    let e : suc j + i / 2 ≡ j + suc (suc i) / 2 = omega arith in
    let m : i % 2 ≡ suc (suc i) % 2 = omega arith in
    let l : i < 2 * n = omega arith in
    order v n (suc j) i d l ∙ ap₂ (λ k r. input_test v k (elim (eqb r 0) [ true ↦ rising | false ↦ falling ])) e m

length-tests : (v : List Bool) (j n : ℕ) → length (tests_from v j n) ≡ 2 * n
unfolding tests_from
length-tests v j zero = omega arith
length-tests v j (suc n) = omega (arith, length-tests v (suc j) n)

-- the tests of one vector after another
unfoldable pub vector_tests : ℕ → ℕ → ℕ → List Pair
vector_tests n zero s = []
vector_tests n (suc k) s = load_tests n s ++ vector_tests n k (state_after n s)

load-length : (n s : ℕ) → length (load_tests n s) ≡ 2 * n
unfolding load_tests
load-length n s = length-tests (drawn n s) 0 n

pub vectors-length : (n k s : ℕ) → length (vector_tests n k s) ≡ k * (2 * n)
unfolding vector_tests
vectors-length n zero s = omega arith
vectors-length n (suc k) s =
    let a : length (load_tests n s ++ vector_tests n k (state_after n s)) ≡ length (load_tests n s) + length (vector_tests n k (state_after n s)) =
    length-append (load_tests n s) (vector_tests n k (state_after n s)) in
    let b : suc k * (2 * n) ≡ k * (2 * n) + 2 * n = suc-mul k (2 * n) in
    omega (arith, load-length n s, vectors-length n k (state_after n s))

load_at : (n s i : ℕ) (d : Pair) → i < 2 * n → TestAt n i (get_or (load_tests n s) i d)
unfolding load_tests
load_at n s i d h =
    let e : 0 + i / 2 ≡ i / 2 = omega arith in
    record {
      vector = drawn n s;
      long = length-drawn n s;
      is = order (drawn n s) n 0 i d h ∙ ap (λ k. input_test (drawn n s) k (edge_at i)) e;
    }

-- Each test of a load is that of the input and the edge that the order says
pub vectors-at : (n k s i : ℕ) (d : Pair) → i < k * (2 * n) → TestAt n (i % (2 * n)) (get_or (vector_tests n k s) i d)
unfolding vector_tests
vectors-at n zero s i d h = absurd (omega arith)
vectors-at n (suc k) s i d h =
    let first : List Pair = load_tests n s in
    let rest : List Pair = vector_tests n k (state_after n s) in
    let long : length (load_tests n s) ≡ 2 * n = load-length n s in
    ⊎_elim
    (λ (l : 2 * n ≤ i).
    let m : (i - 2 * n) % (2 * n) ≡ i % (2 * n) = sym (mod-eq-sub-mod l) in
    let b : suc k * (2 * n) ≡ k * (2 * n) + 2 * n = suc-mul k (2 * n) in
    let e : length (load_tests n s) + (i - 2 * n) ≡ i = omega arith in
    let p : get_or (first ++ rest) i d ≡ get_or rest (i - 2 * n) d =
    ap (λ q. get_or (first ++ rest) q d) (sym e) ∙ get_or-append-add first rest (i - 2 * n) d in
    let t : TestAt n ((i - 2 * n) % (2 * n)) (get_or rest (i - 2 * n) d) =
    vectors-at n k (state_after n s) (i - 2 * n) d (omega arith) in
    subst (λ (x : Pair). TestAt n (i % (2 * n)) x) (sym p) (subst (λ (r : ℕ). TestAt n r (get_or rest (i - 2 * n) d)) m t))
    (λ (l : i < 2 * n).
    let p : get_or (first ++ rest) i d ≡ get_or first i d = List·getD-append first rest d i (omega arith) in
    subst (λ (x : Pair). TestAt n (i % (2 * n)) x) (sym p) (subst (λ (r : ℕ). TestAt n r (get_or first i d)) (sym (mod-eq_of_lt l)) (load_at n s i d l)))
    (le_or_lt (2 * n) i)

-- the bytes of tests after tests
file-append : (ts us : List Pair) → file_bytes (ts ++ us) ≡ file_bytes ts ++ file_bytes us
unfolding file_bytes
file-append [] us = refl
file-append (t ∷ ts) us =
    ap (λ (z : List ℕ). record_bytes t ++ z) (file-append ts us)
    ∙ sym (append_assoc (record_bytes t) (file_bytes ts) (file_bytes us))

pub vectors-bytes : (n k s : ℕ) → vector_records n k s ≡ file_bytes (vector_tests n k s)
unfolding vector_records vector_tests load_records_of file_bytes
vectors-bytes n zero s = refl
vectors-bytes n (suc k) s =
    ap (λ (z : List ℕ). file_bytes (load_tests n s) ++ z) (vectors-bytes n k (state_after n s)) ∙ sym (file-append (load_tests n s) (vector_tests n k (state_after n s)))
