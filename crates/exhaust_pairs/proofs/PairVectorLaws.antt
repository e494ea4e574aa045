-- A vector of a few inputs as a number, input 0 as its low bit: a pair of vectors is the test of the record of its numbers, and two different
-- numbers make a legal record.
use Rattle.model.proofs.Prelude.{ℕ, ◌≤◌, ◌<◌, ◌+◌, ◌-◌, ◌*◌, suc, ◌^◌, zero, ◌/◌, ◌%◌, ◌≡◌, ◌∙◌, ap, refl, sym, subst, ap₂, ⊎_elim, true, Bool, false}
use Rattle.model.proofs.Prelude.{◌||◌, List, [], ◌∷◌, map, length, get_or, drop, length-map, T, eqb, zero-add, arith}
use native.Mathlib.Nat.{pow-succ', div-one, div-div-eq-div-mul}
use Rattle.model.specs.Base.{all_of, numbers_from, bit}
use Rattle.model.specs.Netlist.{Netlist}
use Rattle.model.specs.Detect.{Class, Test}
use Rattle.model.specs.Read.{test_rules, test_of, vector, input_bit, vector_bytes_of, spare_zero_of, some_change_of, v1_part, v2_part, record_length}
use Rattle.model.specs.Encode.{test_bytes}
use Rattle.model.proofs.BoolLaws.{both, eq→eqb, or_cases}
use Rattle.model.proofs.ListLaws.{get_d_map-in, all_of_at, length-numbers_from, numbers_from-at}
use Rattle.model.proofs.AnswerLaws.{AllPass}
use Rattle.exhaust_pairs.specs.AllPairs.{pair_record}

abbrev one : Bool → ℕ
one true = 1
one false = 0

abbrev pub as_number : List Bool → ℕ
as_number [] = 0
as_number (b ∷ bs) = one b + 2 * as_number bs

pub number-below : (bs : List Bool) → as_number bs < 2 ^ length bs
number-below [] = omega arith
number-below (true ∷ bs) = rw (pow-succ' 2 (length bs)) (omega (arith, number-below bs))
number-below (false ∷ bs) = rw (pow-succ' 2 (length bs)) (omega (arith, number-below bs))

bit-low : (b : Bool) (r : ℕ) → bit (one b + 2 * r) 0 ≡ b
bit-low true r = let e : (1 + 2 * r) / 2 ^ 0 % 2 ≡ 1 = ap (λ x. x % 2) (div-one (1 + 2 * r)) ∙ omega arith in rw e refl
bit-low false r = let e : (0 + 2 * r) / 2 ^ 0 % 2 ≡ 0 = ap (λ x. x % 2) (div-one (0 + 2 * r)) ∙ omega arith in rw e refl

half : (b : Bool) (r : ℕ) → (one b + 2 * r) / 2 ≡ r
half true r = omega arith
half false r = omega arith

bit_high : (b : Bool) (r j : ℕ) → bit (one b + 2 * r) (suc j) ≡ bit r j
bit_high b r j =
    ap (λ x. eqb ((one b + 2 * r) / x % 2) 1) (pow-succ' 2 j)
    ∙ ap (λ x. eqb (x % 2) 1) (sym (div-div-eq-div-mul (one b + 2 * r) 2 (2 ^ j)))
    ∙ ap (λ x. eqb (x / 2 ^ j % 2) 1) (half b r)

map_next : {A : Type 0} (f : ℕ → A) (n k : ℕ) → map f (numbers_from (suc k) n) ≡ map (λ j. f (suc j)) (numbers_from k n)
map_next f zero k = refl
map_next f (suc n) k = ap (λ r. f (suc k) ∷ r) (map_next f n (suc k))

map-all : {A : Type 0} (f g : ℕ → A) (ls : List ℕ) → ((l : ℕ) → f l ≡ g l) → map f ls ≡ map g ls
map-all f g [] h = refl
map-all f g (l ∷ ls) h = ap₂ (λ a r. a ∷ r) (h l) (map-all f g ls h)

pub map_below : {A : Type 0} (f g : ℕ → A) (n k : ℕ) → ((l : ℕ) → l < k + n → f l ≡ g l) → map f (numbers_from k n) ≡ map g (numbers_from k n)
map_below f g zero k h = refl
map_below f g (suc n) k h = ap₂ (λ a r. a ∷ r) (h k (omega arith)) (map_below f g n (suc k) (λ l m. h l (omega arith)))

-- its bits are the vector
bits_back : (bs : List Bool) → map (bit (as_number bs)) (numbers_from 0 (length bs)) ≡ bs
bits_back [] = refl
bits_back (b ∷ bs) =
    ap₂ (λ x r. x ∷ r) (bit-low b (as_number bs))
    (map_next (bit (as_number (b ∷ bs))) (length bs) 0
    ∙ map-all (λ j. bit (one b + 2 * as_number bs) (suc j)) (bit (as_number bs)) (numbers_from 0 (length bs)) (bit_high b (as_number bs))
    ∙ bits_back bs)

pub same_number : (v u : List Bool) → length v ≡ length u → as_number v ≡ as_number u → v ≡ u
same_number v u l e = sym (bits_back v) ∙ ap₂ (λ x n. map (bit x) (numbers_from 0 n)) e l ∙ bits_back u

pub length-vector : (i : ℕ) (bs : List ℕ) → length (vector i bs) ≡ i
length-vector i bs = length-map (numbers_from 0 i) (input_bit bs) ∙ length-numbers_from 0 i

-- read from one byte
vector-of : (i a : ℕ) (rest : List ℕ) → i ≤ 8 → vector i (a ∷ rest) ≡ map (bit a) (numbers_from 0 i)
vector-of i a rest h =
    map_below (input_bit (a ∷ rest)) (bit a) i 0
    (λ j l.
    let p : j / 8 ≡ 0 = omega arith in
    let q : j % 8 ≡ j = omega arith in
    ap₂ (λ x y. bit (get_or (a ∷ rest) x 0) y) p q)

module _ (N : Netlist) (low : 1 ≤ N.inputs) (high : N.inputs ≤ 6) where
  one_byte : vector_bytes_of N.inputs ≡ 1
  one_byte = omega arith

  pair-length : record_length N ≡ 4
  pair-length = omega (arith, one_byte)

  -- the vectors of a pair's record
  first_of : (a b : ℕ) → vector N.inputs (v1_part N (pair_record a b)) ≡ map (bit a) (numbers_from 0 N.inputs)
  unfolding test_bytes
  first_of a b = vector-of N.inputs a (b ∷ []) (omega arith)

  second-of : (a b : ℕ) → vector N.inputs (v2_part N (pair_record a b)) ≡ map (bit b) (numbers_from 0 N.inputs)
  unfolding test_bytes
  second-of a b = ap (λ n. vector N.inputs (drop (2 + n) (0x54 ∷ 0x50 ∷ a ∷ b ∷ []))) one_byte ∙ vector-of N.inputs b [] (omega arith)

  module _ (c : Class) (a b j : ℕ) (h : j < N.inputs) where
    bit_at : (x : ℕ) → get_or (map (bit x) (numbers_from 0 N.inputs)) j false ≡ bit x j
    bit_at x =
        get_d_map-in (bit x) (numbers_from 0 N.inputs) j 0 false (rw (length-numbers_from 0 N.inputs) h)
        ∙ ap (bit x) (numbers_from-at N.inputs 0 j h ∙ zero-add j)

    pub first_bit : bit a j ≡ get_or (test_of N c (pair_record a b)).v1 j false
    unfolding test_of
    first_bit = sym (ap (λ (v : List Bool). get_or v j false) (first_of a b) ∙ bit_at a)

    pub second-bit : bit b j ≡ get_or (test_of N c (pair_record a b)).v2 j false
    unfolding test_of
    second-bit = sym (ap (λ (v : List Bool). get_or v j false) (second-of a b) ∙ bit_at b)

  -- each pair of vectors is the test of its record
  pub pair_is : (t : Test) → length t.v1 ≡ N.inputs → length t.v2 ≡ N.inputs
      → test_of N t.class (pair_record (as_number t.v1) (as_number t.v2)) ≡ t
  unfolding test_of
  pair_is t l m =
      let a : ℕ = as_number t.v1 in
      let b : ℕ = as_number t.v2 in
      let p : vector N.inputs (v1_part N (pair_record a b)) ≡ t.v1 =
      first_of a b ∙ ap (λ n. map (bit a) (numbers_from 0 n)) (sym l) ∙ bits_back t.v1 in
      let q : vector N.inputs (v2_part N (pair_record a b)) ≡ t.v2 =
      second-of a b ∙ ap (λ n. map (bit b) (numbers_from 0 n)) (sym m) ∙ bits_back t.v2 in
      λ i. record { v1 = p i; v2 = q i; class = t.class }

  -- the number of inputs is one of six
  at-inputs : (f : ℕ → Bool) → T (all_of f (numbers_from 1 6)) → T (f N.inputs)
  at-inputs f t =
      let i : ℕ = N.inputs in
      let p : get_or (numbers_from 1 6) (i - 1) 0 ≡ i = numbers_from-at 6 1 (i - 1) (omega arith) ∙ omega arith in
      subst (λ k. T (f k)) p (all_of_at f (numbers_from 1 6) 0 t (i - 1) (omega arith))

  -- and a vector's number is below 2 to that
  at-vector : (f : ℕ → Bool) → T (all_of f (numbers_from 0 (2 ^ N.inputs))) → (a : ℕ) → a < 2 ^ N.inputs → T (f a)
  at-vector f t a h =
      let m : ℕ = 2 ^ N.inputs in
      let r : get_or (numbers_from 0 m) a 0 ≡ a = numbers_from-at m 0 a h ∙ omega arith in
      subst (λ b. T (f b)) r (all_of_at f (numbers_from 0 m) 0 t a (rw (length-numbers_from 0 m) h))

  -- no spare bit of it is set
  spare : (xs : List ℕ) → T (all_of (λ i. all_of (λ a. spare_zero_of i (a ∷ xs)) (numbers_from 0 (2 ^ i))) (numbers_from 1 6))
  spare xs = tt

  spare-zero : (a : ℕ) (xs : List ℕ) → a < 2 ^ N.inputs → T (spare_zero_of N.inputs (a ∷ xs))
  spare-zero a xs h =
      at-vector (λ b. spare_zero_of N.inputs (b ∷ xs)) (at-inputs (λ i. all_of (λ b. spare_zero_of i (b ∷ xs)) (numbers_from 0 (2 ^ i))) (spare xs)) a h

  -- different numbers differ in an input
  abbrev differ : List ℕ → ℕ → ℕ → ℕ → Bool
  differ xs i a b = eqb a b || some_change_of i (a ∷ xs) (b ∷ [])

  changes : (xs : List ℕ) → T (all_of (λ i. all_of (λ a. all_of (differ xs i a) (numbers_from 0 (2 ^ i))) (numbers_from 0 (2 ^ i))) (numbers_from 1 6))
  changes xs = tt

  some-change : (a b : ℕ) (xs : List ℕ) → a < 2 ^ N.inputs → b < 2 ^ N.inputs → eqb a b ≡ false → T (some_change_of N.inputs (a ∷ xs) (b ∷ []))
  some-change a b xs h m e =
      let i : ℕ = N.inputs in
      let vectors : ℕ → List ℕ = λ k. numbers_from 0 (2 ^ k) in
      let all : T (all_of (λ x. all_of (differ xs i x) (vectors i)) (vectors i)) =
      at-inputs (λ k. all_of (λ x. all_of (differ xs k x) (vectors k)) (vectors k)) (changes xs) in
      let t : T (differ xs i a b) = at-vector (differ xs i a) (at-vector (λ x. all_of (differ xs i x) (vectors i)) all a h) b m in
      ⊎_elim (λ u. absurd (subst T e u)) (λ u. u) (or_cases (eqb a b) (some_change_of i (a ∷ xs) (b ∷ [])) t)

  -- so a pair of different numbers passes the rules of a test
  pub pair-legal : (a b : ℕ) → a < 2 ^ N.inputs → b < 2 ^ N.inputs → eqb a b ≡ false → AllPass (test_rules N (pair_record a b))
  unfolding test_bytes
  pair-legal a b h m e =
      let i : ℕ = N.inputs in
      let v1 : List ℕ = v1_part N (pair_record a b) in
      let v2 : List ℕ = v2_part N (pair_record a b) in
      let second : T (spare_zero_of i v2) =
      subst (λ n. T (spare_zero_of i (drop (2 + n) (0x54 ∷ 0x50 ∷ a ∷ b ∷ [])))) (sym one_byte) (spare-zero b [] m) in
      let change : T (some_change_of i v1 v2) =
      subst (λ n. T (some_change_of i (a ∷ b ∷ []) (drop (2 + n) (0x54 ∷ 0x50 ∷ a ∷ b ∷ [])))) (sym one_byte) (some-change a b (b ∷ []) h m e) in
      (eq→eqb 4 (record_length N) (sym pair-length), (tt, (both (spare_zero_of i v1) (spare_zero_of i v2) (spare-zero a (b ∷ []) h) second, (change, tt))))
