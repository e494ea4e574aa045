-- What a call answers, its rules in their order, fields of bytes, and small functions on lists.
-- In all of these files `T b` says that the test `b` is true; document 01's T, the number of paths, is `path_total`.
use Rattle.std.specs.Prelude.{Bool, true, false, ◌&&◌, ◌||◌, List, [], ◌∷◌, ℕ, zero, suc, ◌+◌, ◌*◌, ◌/◌, ◌%◌, ◌^◌, eqb, take, drop}

-- What a call answers: the number of a refusal, or its value
pub data Answer (A : Type 0) : Type 0 where
  refused : ℕ → Answer A
  value : A → Answer A

infixl 10 ◌into◌
infixl 10 ◌then◌
-- one step after another; the first refusal ends the call
abbrev pub ◌into◌ : {A B : Type 0} → Answer A → (A → Answer B) → Answer B
refused n into f = refused n
value a into f = f a

abbrev pub ◌then◌ : {A B : Type 0} → Answer A → Answer B → Answer B
refused n then b = refused n
value a then b = b

-- the refusal `n`, unless the test passes
abbrev pub check : ℕ → Bool → Answer (Unit {0})
check n true = value tt
check n false = refused n

-- A rule: a test that has to pass, and the number of the refusal where it fails
abbrev pub Rule : Type 0
Rule = ℕ × Bool

-- the rules in their order: the first that fails refuses
abbrev pub checks : List Rule → Answer (Unit {0})
checks [] = value tt
checks (r ∷ rs) = check r.0 r.1 then checks rs

-- whether there is an answer, without its value
abbrev pub passes : {A : Type 0} → Answer A → Answer (Unit {0})
passes x = x then value tt

-- what lent memory holds after a call: as found if it was refused
abbrev pub after : {A : Type 0} → Answer A → List ℕ → (A → List ℕ) → List ℕ
after (refused n) found f = found
after (value a) found f = f a

abbrev pub sum_of : List ℕ → ℕ
sum_of [] = 0
sum_of (n ∷ ns) = n + sum_of ns

-- the test passes for all of the list, and for some of it
abbrev pub all_of : {A : Type 0} → (A → Bool) → List A → Bool
all_of f [] = true
all_of f (x ∷ xs) = f x && all_of f xs

abbrev pub any_of : {A : Type 0} → (A → Bool) → List A → Bool
any_of f [] = false
any_of f (x ∷ xs) = f x || any_of f xs

-- the numbers from `k` on, `n` of them
abbrev pub numbers_from : ℕ → ℕ → List ℕ
numbers_from k zero = []
numbers_from k (suc n) = k ∷ numbers_from (suc k) n

-- a number from its bytes, low byte first
abbrev pub from_little_endian : List ℕ → ℕ
from_little_endian [] = 0
from_little_endian (b ∷ bs) = b + 256 * from_little_endian bs

-- the field of `n` bytes at place `at`
abbrev pub field : ℕ → ℕ → List ℕ → ℕ
field at n bs = from_little_endian (take n (drop at bs))

-- a number as `n` bytes, low byte first
abbrev pub little_endian : ℕ → ℕ → List ℕ
little_endian zero k = []
little_endian (suc n) k = k % 256 ∷ little_endian n (k / 256)

-- bit `i` of a number, counted from the least significant
abbrev pub bit : ℕ → ℕ → Bool
bit k i = eqb (k / 2 ^ i % 2) 1
