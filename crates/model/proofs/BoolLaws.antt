-- Boolean tests as facts.
use Rattle.model.proofs.Prelude.{ℕ, ◌≤◌, ◌<◌, ◌≡◌, refl, ⊎_elim, inl, inr, ◌⊎◌, true, Bool, false, ◌&&◌, not, ◌||◌, Bool·beq, leb, T}
use Rattle.model.proofs.Prelude.{eqb, leb→le, eqb→eq, eqb_refl, eqb-false}
use lib.Dec.{nleb→lt}
-- a comparison's value, from the order
pub use borrow.Author.Tests.{le-leb as le-true, lt-leb as lt-false}

pub and_left : (a b : Bool) → T (a && b) → T a
and_left true b t = tt
and_left false b t = t

pub and_right : (a b : Bool) → T (a && b) → T b
and_right true b t = t
and_right false b t = absurd t

pub both : (a b : Bool) → T a → T b → T (a && b)
both true b s t = t
both false b s t = s

pub and_parts : (a b : Bool) → (a && b) ≡ true → (a ≡ true) × (b ≡ true)
and_parts true b e = (refl, e)
and_parts false b e = absurd (mathlib.Core.Bool.false≢true e)

-- tests that follow from each other have one value
pub same_test : (a b : Bool) → (T a → T b) → (T b → T a) → a ≡ b
same_test true true f g = refl
same_test true false f g = absurd (f tt)
same_test false true f g = absurd (g tt)
same_test false false f g = refl

pub T→true : (b : Bool) → T b → b ≡ true
T→true true t = refl
T→true false t = absurd t

pub true→T : (b : Bool) → b ≡ true → T b
true→T true e = tt
true→T false e = absurd (mathlib.Core.Bool.false≢true e)

pub not→false : (b : Bool) → (T b → ⊥) → b ≡ false
not→false true h = absurd (h tt)
not→false false h = refl

pub false→not : (b : Bool) → b ≡ false → T (not b)
false→not true e = absurd (mathlib.Core.Bool.true≢false e)
false→not false e = tt

pub le_or_lt : (m n : ℕ) → (m ≤ n) ⊎ (n < m)
le_or_lt m n = go (leb m n) refl
  where
    go : (b : Bool) → leb m n ≡ b → (m ≤ n) ⊎ (n < m)
    go true e = inl (leb→le m n (true→T _ e))
    go false e = inr (nleb→lt m n (false→not _ e))

-- by cases on the order of two numbers
pub cases : (m n : ℕ) {C : Type 0} → (m ≤ n → C) → (n < m → C) → C
cases m n f g = ⊎_elim f g (le_or_lt m n)

pub and3 : (a b c : Bool) → T (a && b && c) → T a × T b × T c
and3 true true c t = (tt, tt, t)
and3 true false c t = absurd t
and3 false b c t = absurd t

pub all3 : (a b c : Bool) → T a → T b → T c → T (a && b && c)
all3 true true c s t u = u
all3 true false c s t u = absurd t
all3 false b c s t u = absurd s

pub and4 : (a b c d : Bool) → T (a && b && c && d) → T a × T b × T c × T d
and4 true true true d t = (tt, tt, tt, t)
and4 true true false d t = absurd t
and4 true false c d t = absurd t
and4 false b c d t = absurd t

pub all4 : (a b c d : Bool) → T a → T b → T c → T d → T (a && b && c && d)
all4 true true true d s t u v = v
all4 true true false d s t u v = absurd u
all4 true false c d s t u v = absurd t
all4 false b c d s t u v = absurd s

pub bool_cases : (b : Bool) → (b ≡ true) ⊎ (b ≡ false)
bool_cases true = inl refl
bool_cases false = inr refl

pub equal_or_not : (k j : ℕ) → (k ≡ j) ⊎ (k ≡ j → ⊥)
equal_or_not k j = ⊎_elim (λ e. inl (eqb→eq k j (true→T (eqb k j) e))) (λ e. inr (eqb-false k j e)) (bool_cases (eqb k j))

pub or_cases : (a b : Bool) → T (a || b) → T a ⊎ T b
or_cases true b t = inl tt
or_cases false b t = inr t

pub or_left : (a b : Bool) → T a → T (a || b)
or_left true b t = tt
or_left false b t = absurd t

pub or_right : (a b : Bool) → T b → T (a || b)
or_right true b t = tt
or_right false b t = t

pub or-false : (a : Bool) → T (a || false) → T a
or-false true t = tt
or-false false t = t

pub or_around : (a b c : Bool) → b || (a || c) ≡ (a || b) || c
or_around true true c = refl
or_around true false c = refl
or_around false b c = refl

pub beq→ : (a b : Bool) → T (Bool·beq a b) → a ≡ b
beq→ true true t = refl
beq→ true false t = absurd t
beq→ false true t = absurd t
beq→ false false t = refl

pub eq→eqb : (m n : ℕ) → m ≡ n → T (eqb m n)
eq→eqb m n e = rw e (eqb_refl n)
