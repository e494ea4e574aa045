-- Lists: tests of all and of some of their elements, elements by place, parts, and consecutive numbers.
use Rattle.model.proofs.Prelude.{ℕ, ◌≤◌, ◌<◌, ◌+◌, suc, zero, ◌≡◌, ◌∙◌, ap, refl, sym, subst, ⊎_elim, true, Bool, ◌||◌, List, [], ◌∷◌, ◌++◌}
use Rattle.model.proofs.Prelude.{map, length, get_or, drop, take, replicate, T, not-suc-le-zero, le_of_suc-le-suc, zero-add, suc-add, arith}
use lib.Seq.{take-nil}
use Rattle.model.specs.Base.{all_of, any_of, numbers_from}
use Rattle.model.proofs.BoolLaws.{and_left, and_right, both, or_cases, or_left, or_right}

module _ {A : Type 0} (P : A → Bool) (x : A) (xs : List A) where
  pub all_of_head : T (all_of P (x ∷ xs)) → T (P x)
  all_of_head t = and_left (P x) (all_of P xs) t

  pub all_of_tail : T (all_of P (x ∷ xs)) → T (all_of P xs)
  all_of_tail t = and_right (P x) (all_of P xs) t

pub get_d_map-in : {A B : Type 0} (f : A → B) (xs : List A) (p : ℕ) (d : A) (e : B) → p < length xs → get_or (map f xs) p e ≡ f (get_or xs p d)
get_d_map-in f [] p d e h = absurd (not-suc-le-zero h)
get_d_map-in f (x ∷ xs) zero d e h = refl
get_d_map-in f (x ∷ xs) (suc p) d e h = get_d_map-in f xs p d e (le_of_suc-le-suc h)

pub all_of_at : {A : Type 0} (P : A → Bool) (xs : List A) (d : A) → T (all_of P xs) → (p : ℕ) → p < length xs → T (P (get_or xs p d))
all_of_at P [] d t p h = absurd (not-suc-le-zero h)
all_of_at P (x ∷ xs) d t zero h = all_of_head P x xs t
all_of_at P (x ∷ xs) d t (suc p) h = all_of_at P xs d (all_of_tail P x xs t) p (le_of_suc-le-suc h)

pub all_of_append : {A : Type 0} (P : A → Bool) (xs : List A) (y : A) → T (all_of P xs) → T (P y) → T (all_of P (xs ++ (y ∷ [])))
all_of_append P [] y t u = both (P y) true u tt
all_of_append P (x ∷ xs) y t u = both (P x) (all_of P (xs ++ (y ∷ []))) (all_of_head P x xs t) (all_of_append P xs y (all_of_tail P x xs t) u)

pub any_map : {A B : Type 0} (f : B → Bool) (g : A → B) (xs : List A) → any_of (λ x. f (g x)) xs ≡ any_of f (map g xs)
any_map f g [] = refl
any_map f g (x ∷ xs) = ap (λ b. f (g x) || b) (any_map f g xs)

pub drop-take : (n m : ℕ) (l : List ℕ) → drop n (take (n + m) l) ≡ take m (drop n l)
drop-take zero m l = ap (λ (k : ℕ). take k l) (zero-add m)
drop-take (suc n) m [] = ap (drop (suc n)) (take-nil {A = ℕ} (suc n + m)) ∙ sym (take-nil {A = ℕ} m)
drop-take (suc n) m (x ∷ xs) = ap (λ (k : ℕ). drop (suc n) (take k (x ∷ xs))) (suc-add n m) ∙ drop-take n m xs

-- the first of some bytes are bytes
pub take-bytes : (n : ℕ) (l : List ℕ) → ((j : ℕ) → get_or l j 0 < 256) → (i : ℕ) → get_or (take n l) i 0 < 256
take-bytes zero l b i = omega arith
take-bytes (suc n) [] b i = omega arith
take-bytes (suc n) (x ∷ xs) b zero = b 0
take-bytes (suc n) (x ∷ xs) b (suc i) = take-bytes n xs (λ j. b (suc j)) i

pub zeros-at : (n i : ℕ) → get_or {A = ℕ} (replicate n 0) i 0 ≡ 0
zeros-at zero i = refl
zeros-at (suc n) zero = refl
zeros-at (suc n) (suc i) = zeros-at n i

pub length-numbers_from : (k n : ℕ) → length (numbers_from k n) ≡ n
length-numbers_from k zero = refl
length-numbers_from k (suc n) = ap suc (length-numbers_from (suc k) n)

pub numbers_from-at : (n k i : ℕ) → i < n → get_or (numbers_from k n) i 0 ≡ k + i
numbers_from-at zero k i h = absurd (not-suc-le-zero h)
numbers_from-at (suc n) k zero h = omega arith
numbers_from-at (suc n) k (suc i) h = omega (arith, numbers_from-at n (suc k) i (le_of_suc-le-suc h))

-- some number of a stretch passes the test
pub record Some (f : ℕ → Bool) (k n : ℕ) : Type 0 where
  pub place : ℕ
  pub low : k ≤ place
  pub high : place < k + n
  pub passes : T (f place)

pub some_of : (f : ℕ → Bool) (n k : ℕ) → T (any_of f (numbers_from k n)) → Some f k n
some_of f zero k t = absurd t
some_of f (suc n) k t =
    ⊎_elim (λ u. record { place = k; low = omega arith; high = omega arith; passes = u })
    (λ u. let s = some_of f n (suc k) u in record { place = s.place; low = omega (arith, s.low); high = omega (arith, s.high); passes = s.passes })
    (or_cases (f k) (any_of f (numbers_from (suc k) n)) t)

pub any_of_lem : (f : ℕ → Bool) (n k i : ℕ) → k ≤ i → i < k + n → T (f i) → T (any_of f (numbers_from k n))
any_of_lem f zero k i a b t = absurd (none k i a b)
  where
    none : (k i : ℕ) → k ≤ i → i < k + 0 → ⊥
    none k i a b = omega arith
any_of_lem f (suc n) k i a b t =
    ⊎_elim (λ e. or_left (f k) (any_of f (numbers_from (suc k) n)) (subst (λ j. T (f j)) (sym e) t))
    (λ l. or_right (f k) (any_of f (numbers_from (suc k) n)) (any_of_lem f n (suc k) i l (omega arith) t))
    (native.Mathlib.Nat.eq-or-lt_of_le a)
