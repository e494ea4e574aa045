-- The order of the tests and a test taken again: the store's words come from the number of the taken tests and the set of what they detect.
use Rattle.model.proofs.Prelude.{ℕ, ◌+◌, suc, ◌≡◌, ◌∙◌, ap, refl, sym, subst, ap₂, true, Bool, false, ◌||◌, or_assoc, List, [], ◌∷◌, ◌++◌, map}
use Rattle.model.proofs.Prelude.{length, set, T, arith}
use mathlib.Core.List.{Permᴰ}
use Rattle.model.specs.Base.{Answer, refused, value, any_of}
use Rattle.model.specs.Netlist.{Netlist}
use Rattle.model.specs.Path.{Edge}
use Rattle.model.specs.Detect.{Test, detects_number}
use Rattle.model.specs.Read.{read_netlist, class_of, test_of}
use Rattle.model.specs.Runs.{Run}
use Rattle.model.specs.Calls.{Tested, test_call}
use Rattle.model.specs.Demand3 as demand
use Rattle.model.specs.Store.{ByEdge, tests_word, tests_taken_of, store_of}
use Rattle.model.specs.Demand3.{Call, State, start, next, after_calls, Taken, test_in}
use Rattle.model.specs.Counted.{EachTaken, Order, orders_of, CountedTrue}
use Rattle.model.proofs.BoolLaws.{T→true, or_left, or_right, or_around}
use Rattle.model.proofs.ListLaws.{any_map}
use Rattle.model.proofs.FaultLaws.{detected_at}
use Rattle.model.proofs.HoldingLaws.{Sets, runs_for}
use Rattle.model.proofs.DemandHolds.{Holds, holds-start, holds_after, holds-next}
use Rattle.model.proofs.FileLaws.{calls-append}

-- one of a list passes, in any order
swap_or : (a b c : Bool) → a || (b || c) ≡ b || (a || c)
swap_or a b c = or_around b a c ∙ or_assoc b a c

any_perm : {A : Type 0} (f : A → Bool) {xs ys : List A} → Permᴰ xs ys → any_of f xs ≡ any_of f ys
any_perm f Permᴰ.nil = refl
any_perm f (Permᴰ.cons e d) = ap₂ (λ x b. f x || b) e (any_perm f d)
any_perm f (Permᴰ.swap {a} {b} {a'} {b'} {l} p q) = swap_or (f a) (f b) (any_of f l) ∙ ap₂ (λ x y. f x || (f y || any_of f l)) q p
any_perm f (Permᴰ.trans d e) = any_perm f d ∙ any_perm f e

length-perm : {A : Type 0} {xs ys : List A} → Permᴰ xs ys → length xs ≡ length ys
length-perm Permᴰ.nil = refl
length-perm (Permᴰ.cons e d) = ap suc (length-perm d)
length-perm (Permᴰ.swap p q) = refl
length-perm (Permᴰ.trans d e) = length-perm d ∙ length-perm e

-- the test of a class and a record
abbrev test_by : Netlist → Order → Test
test_by N o = test_of N (class_of o.0) o.1

-- The words are those of the number of the tests and of what they detect
words : (N : Netlist) (s : State) → Holds N s → s.store ≡ store_of (length s.taken) (runs_for N (detected_at N s.taken))
words N s x = x.holding.is ∙ ap (λ n. store_of n (runs_for N (detected_at N s.taken))) x.counted

same-words : (N : Netlist) (s r : State) → Holds N s → Holds N r → length s.taken ≡ length r.taken
    → ((d : Edge) (k : ℕ) → detected_at N s.taken d k ≡ detected_at N r.taken d k) → s.store ≡ r.store
same-words N s r x y l h =
    words N s x ∙ ap₂ (λ (n : ℕ) (D : Sets). store_of n (runs_for N D)) l (λ i d k. h d k i) ∙ sym (words N r y)

module _ (netlist : List ℕ) (N : Netlist) (e : read_netlist netlist ≡ value N) where
  next-taken : (s : State) (c : Call) → Taken netlist s c → (next netlist N s c).taken ≡ test_in N c ∷ s.taken
  next-taken s c k = rw k.answer refl

  -- the tests of a list that is taken whole
  after-length : (cs : List Call) (s : State) → EachTaken netlist N s cs → length (after_calls netlist N s cs).taken ≡ length (orders_of cs) + length s.taken
  unfolding after_calls
  after-length [] s p = omega arith
  after-length (c ∷ cs) s p =
      after-length cs (next netlist N s c) p.1 ∙ ap (λ (ts : List Test). length (orders_of cs) + length ts) (next-taken s c p.0) ∙ omega arith

  after-detected : (cs : List Call) (s : State) → EachTaken netlist N s cs → (d : Edge) (k : ℕ)
      → detected_at N (after_calls netlist N s cs).taken d k ≡ detected_at N (map (test_by N) (orders_of cs)) d k || detected_at N s.taken d k
  unfolding after_calls detected_at
  after-detected [] s p d k = refl
  after-detected (c ∷ cs) s p d k =
      after-detected cs (next netlist N s c) p.1 d k
      ∙ ap (λ (ts : List Test). detected_at N (map (test_by N) (orders_of cs)) d k || detected_at N ts d k) (next-taken s c p.0)
      ∙ or_around (detects_number N (test_in N c) d k) (detected_at N (map (test_by N) (orders_of cs)) d k) (detected_at N s.taken d k)

  orders : (cs ds : List Call) → Permᴰ (orders_of cs) (orders_of ds) → EachTaken netlist N start cs → EachTaken netlist N start ds
      → (after_calls netlist N start cs).store ≡ (after_calls netlist N start ds).store
  unfolding detected_at
  orders cs ds m p q =
      same-words N (after_calls netlist N start cs) (after_calls netlist N start ds) (holds_after netlist N e cs start (holds-start N)) (holds_after netlist N e ds start (holds-start N))
      (omega (arith, after-length cs start p, after-length ds start q, length-perm m))
      (λ d k.
      let f : Test → Bool = λ t. detects_number N t d k in
      after-detected cs start p d k
      ∙ ap (λ b. b || false) (sym (any_map f (test_by N) (orders_of cs)) ∙ any_perm (λ r. f (test_by N r)) m ∙ any_map f (test_by N) (orders_of ds))
      ∙ sym (after-detected ds start q d k))

  -- what a test detects is detected by the tests taken
  abbrev Within : Test → State → Type 0
  Within t s = (d : Edge) (k : ℕ) → T (detects_number N t d k) → T (detected_at N s.taken d k)

  within-next : (t : Test) (s : State) (c : Call) → Within t s → Within t (next netlist N s c)
  unfolding detected_at
  within-next t s c h d k x = go (test_call netlist c.class c.rec s.store c.work)
    where
      go : (a : Answer Tested) → T (detected_at N (demand.with_test a (test_in N c) s.taken) d k)
      go (refused n) = h d k x
      go (value r) = or_right (detects_number N (test_in N c) d k) (detected_at N s.taken d k) (h d k x)

  within-after : (t : Test) (cs : List Call) (s : State) → Within t s → Within t (after_calls netlist N s cs)
  unfolding after_calls
  within-after t [] s h = h
  within-after t (c ∷ cs) s h = within-after t cs (next netlist N s c) (within-next t s c h)

  within-taken : (s : State) (c : Call) → Taken netlist s c → Within (test_in N c) (next netlist N s c)
  unfolding detected_at
  within-taken s c k d j x =
      subst (λ (ts : List Test). T (detected_at N ts d j)) (sym (next-taken s c k))
      (or_left (detects_number N (test_in N c) d j) (detected_at N s.taken d j) x)

  -- a test that brings nothing new is counted
  counted-only : (s : State) → Holds N s → (c : Call) → Taken netlist s c → Within (test_in N c) s
      → (next netlist N s c).store ≡ set s.store tests_word (suc (tests_taken_of s.store))
  unfolding detected_at store_of
  counted-only s x c k h =
      let r = next netlist N s c in
      let t = test_in N c in
      let same : (d : Edge) (j : ℕ) → detected_at N r.taken d j ≡ detected_at N s.taken d j =
      λ d j. ap (λ (ts : List Test). detected_at N ts d j) (next-taken s c k) ∙ absorbed (detects_number N t d j) (detected_at N s.taken d j) (h d j) in
      words N r (holds-next netlist N e s x c)
      ∙ ap₂ (λ (n : ℕ) (D : Sets). store_of n (runs_for N D)) (ap (λ (ts : List Test). length ts) (next-taken s c k)) (λ i d j. same d j i)
      ∙ counted (length s.taken) (runs_for N (detected_at N s.taken))
      ∙ ap (λ ws. set ws tests_word (suc (tests_taken_of ws))) (sym (words N s x))
    where
      absorbed : (a b : Bool) → (T a → T b) → a || b ≡ b
      absorbed true b f = sym (T→true b (f tt))
      absorbed false b f = refl

      counted : (n : ℕ) (q : ByEdge (List Run)) → store_of (suc n) q ≡ set (store_of n q) tests_word (suc (tests_taken_of (store_of n q)))
      counted n q = refl

  again : (before further : List Call) (c d : Call) → c.class ≡ d.class → c.rec ≡ d.rec → Taken netlist (after_calls netlist N start before) c
      → Taken netlist (after_calls netlist N start (before ++ c ∷ further)) d
      → (after_calls netlist N start (before ++ c ∷ further ++ d ∷ [])).store
      ≡ set (after_calls netlist N start (before ++ c ∷ further)).store tests_word (suc (tests_taken_of (after_calls netlist N start (before ++ c ∷ further)).store))
  unfolding after_calls
  again before further c d g q k l =
      let s = after_calls netlist N start before in
      let r = after_calls netlist N start (before ++ c ∷ further) in
      let w : Within (test_in N d) r =
      subst (λ (t : Test). Within t r) (ap₂ (λ x y. test_of N (class_of x) y) g q)
      (subst (λ (z : State). Within (test_in N c) z) (sym (calls-append netlist N e before (c ∷ further) start))
      (within-after (test_in N c) further (next netlist N s c) (within-taken s c k))) in
      ap (λ (z : State). z.store) (calls-append netlist N e (before ++ c ∷ further) (d ∷ []) start)
      ∙ counted-only r (holds_after netlist N e (before ++ c ∷ further) start (holds-start N)) d l w

  pub counted-true : CountedTrue netlist N
  counted-true = record { orders = orders; again = again }
