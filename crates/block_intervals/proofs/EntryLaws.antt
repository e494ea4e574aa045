-- Entries of the lists: the byte of a gate's active pins, bit by bit; and the list from a place on, its first net and those that follow.
use Rattle.model.proofs.Prelude.{ℕ, ◌≤◌, ◌<◌, ◌+◌, ◌-◌, ◌*◌, suc, ◌^◌, zero, ◌≡◌, ◌∙◌, ap, refl, sym, true, Bool, false, ◌||◌, List, [], ◌∷◌, map}
use Rattle.model.proofs.Prelude.{length, length-map, lt_of_lt_of_le, arith}
use lib.Pow.{pow_mono}
use Rattle.model.specs.Base.{any_of, bit, numbers_from}
use Rattle.model.proofs.BoolLaws.{cases}
use Rattle.model.proofs.ListLaws.{get_d_map-in, length-numbers_from, numbers_from-at}
use Rattle.gate_packed_pins.specs.Packed.{one_where_of, pack_bits}
use Rattle.gate_packed_pins.proofs.PackBitsLaws.{bits-at, bits_small}
use Rattle.block_words.specs.Lists.{keep_if, keep}
use Rattle.block_intervals.proofs.BitRunLaws.{past_word}

-- ---- packed values

packed-some : (g : ℕ → Bool) (ns : List ℕ) → any_of g ns ≡ true → 0 < pack_bits (map g ns)
packed-some g [] e = absurd (mathlib.Core.Bool.false≢true e)
packed-some g (n ∷ ns) e = go (g n) (pack_bits (map g ns)) e (packed-some g ns)
  where
    go : (b : Bool) (m : ℕ) → (b || any_of g ns) ≡ true → (any_of g ns ≡ true → 0 < m) → 0 < one_where_of b + 2 * m
    go true m e ih = omega arith
    go false m e ih = omega (arith, ih e)

-- the values of a test at the first n numbers
module _ (g : ℕ → Bool) (n : ℕ) where
  abbrev packed : ℕ
  packed = pack_bits (map g (numbers_from 0 n))

  many : length (map g (numbers_from 0 n)) ≡ n
  many = length-map (numbers_from 0 n) g ∙ length-numbers_from 0 n

  pub pack_small : pack_bits (map g (numbers_from 0 n)) < 2 ^ n
  pack_small = rw many at (bits_small (map g (numbers_from 0 n)))

  pub pack_bit : (p : ℕ) → p < n → bit (pack_bits (map g (numbers_from 0 n))) p ≡ g p
  pack_bit p h =
      let e : 0 + p ≡ p = omega arith in
      bits-at (map g (numbers_from 0 n)) p ∙ get_d_map-in g (numbers_from 0 n) p 0 false (rw (length-numbers_from 0 n) h)
      ∙ ap g (numbers_from-at n 0 p h ∙ e)

  pub pack_past : (p : ℕ) → n ≤ p → bit (pack_bits (map g (numbers_from 0 n))) p ≡ false
  pack_past p h = past_word n packed p pack_small h

  pub pack_some : any_of g (numbers_from 0 n) ≡ true → 0 < pack_bits (map g (numbers_from 0 n))
  pack_some e = packed-some g (numbers_from 0 n) e

  pub pack_byte : n ≤ 8 → pack_bits (map g (numbers_from 0 n)) < 256
  pack_byte h = lt_of_lt_of_le pack_small (pow_mono h)

-- ---- lists

no-cons : {x : ℕ} {xs : List ℕ} → ◌≡◌ {A = List ℕ} (x ∷ xs) [] → ⊥
no-cons e = let z : ◌≡◌ {A = ℕ} 1 0 = ap some e in omega arith
  where
    some : List ℕ → ℕ
    some [] = 0
    some (x ∷ xs) = 1

-- the first number from k on that passes, the numbers before it that don't, and what follows it
pub record NextKept (f : ℕ → Bool) (g : ℕ → ℕ) (k m x : ℕ) (xs : List ℕ) : Type 0 where
  pub place : ℕ
  pub low : k ≤ place
  pub high : place < k + m
  pub passes : f place ≡ true
  pub fails : (q : ℕ) → k ≤ q → q < place → f q ≡ false
  pub head : x ≡ g place
  pub tail : xs ≡ map g (keep f (numbers_from (place + 1) (k + m - (place + 1))))

module _ (f : ℕ → Bool) (g : ℕ → ℕ) where
  pub none_kept : (m k : ℕ) → [] ≡ map g (keep f (numbers_from k m)) → (q : ℕ) → k ≤ q → q < k + m → f q ≡ false
  none_kept zero k e q l h = absurd (none k q l h)
    where
      none : (k q : ℕ) → k ≤ q → q < k + 0 → ⊥
      none k q l h = omega arith
  none_kept (suc m) k e q l h = go (f k) refl e (λ e j. none_kept m (suc k) e q j (omega arith))
    where
      go : (b : Bool) → f k ≡ b → [] ≡ map g (keep_if b k (keep f (numbers_from (suc k) m)))
          → ([] ≡ map g (keep f (numbers_from (suc k) m)) → suc k ≤ q → f q ≡ false) → f q ≡ false
      go true d e ih = absurd (no-cons (sym e))
      go false d e ih = cases q k (λ j. let z : q ≡ k = omega arith in ap f z ∙ d) (λ j. ih e j)

  pub next-kept : (m k x : ℕ) (xs : List ℕ) → x ∷ xs ≡ map g (keep f (numbers_from k m)) → NextKept f g k m x xs
  next-kept zero k x xs e = absurd (no-cons e)
  next-kept (suc m) k x xs e = go (f k) refl e (next-kept m (suc k) x xs)
    where
      go : (b : Bool) → f k ≡ b → x ∷ xs ≡ map g (keep_if b k (keep f (numbers_from (suc k) m)))
          → (x ∷ xs ≡ map g (keep f (numbers_from (suc k) m)) → NextKept f g (suc k) m x xs) → NextKept f g k (suc m) x xs
      go true d e ih =
          let a : suc k ≡ k + 1 = omega arith in
          let b : m ≡ k + suc m - (k + 1) = omega arith in
          record {
            place = k;
            low = omega arith;
            high = omega arith;
            passes = d;
            fails = λ q l h. absurd (omega arith);
            head = ap first e;
            tail = ap rest e ∙ (λ j. map g (keep f (numbers_from (a j) (b j))));
          }
        where
          first : List ℕ → ℕ
          first [] = 0
          first (y ∷ ys) = y

          rest : List ℕ → List ℕ
          rest [] = []
          rest (y ∷ ys) = ys
      go false d e ih =
          let n = ih e in
          let a : suc k + m ≡ k + suc m = omega arith in
          record {
            place = n.place;
            low = omega (arith, n.low);
            high = omega (arith, n.high);
            passes = n.passes;
            fails = λ q l h. cases q k
                (λ j. let z : q ≡ k = omega arith in ap f z ∙ d)
                (λ j. n.fails q j h);
            head = n.head;
            tail = n.tail ∙ ap (λ t. map g (keep f (numbers_from (n.place + 1) (t - (n.place + 1))))) a;
          }
