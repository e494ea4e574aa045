-- A store's words and the runs that they hold.
use Rattle.model.proofs.Prelude.{ℕ, ◌≤◌, ◌+◌, ◌-◌, ◌*◌, suc, zero, ◌≡◌, ◌∙◌, ap, refl, sym, ap₂, Bool, List, [], ◌∷◌, ◌++◌, append_assoc}
use Rattle.model.proofs.Prelude.{append-nil, length, get_or, drop, take, length-append, replicate, length-drop, length-replicate}
use Rattle.model.proofs.Prelude.{take-append-drop, length-take-le, drop-drop, drop-cons, take_all, take_at, drop_at, leb, T, eqb, leb→le}
use Rattle.model.proofs.Prelude.{eqb→eq, le→leb, arith}
use lib.Seq.{get_or_at, take-add}
use Rattle.model.specs.Base.{all_of}
use Rattle.model.specs.Path.{Edge, rising, falling}
use Rattle.model.specs.Runs.{Run, separated_runs_of}
use Rattle.model.specs.Store.{ByEdge, by_edge, of_edge, store_words_count, max_runs, max_tests, place_words, empty_store, runs_at, run_count, tests_taken_of, store_runs, runs_by_edge, lows_highs, places}
use Rattle.model.specs.Store.{store_of, words_after, runs_of_tests_of, both_edges, store_rules, first_word}
use Rattle.model.proofs.ListLaws.{all_of_head, all_of_tail}
use Rattle.model.proofs.BoolLaws.{both, and_left, and_right}
use Rattle.model.proofs.AnswerLaws.{AllPass}

pub length-lows_highs : (rs : List Run) → length (lows_highs rs) ≡ 2 * length rs
length-lows_highs [] = refl
length-lows_highs (r ∷ rs) = omega (arith, length-lows_highs rs)

pub length-places : (rs : List Run) → length rs ≤ max_runs → length (places rs) ≡ place_words
length-places rs h = simp (length-append, length-lows_highs, length-replicate) (omega arith)

-- runs read where they were written
runs_at-written : (rs : List Run) (pre post : List ℕ) (n : ℕ) → length pre ≡ n → runs_at (pre ++ (lows_highs rs ++ post)) n (length rs) ≡ rs
runs_at-written [] pre post n h = refl
runs_at-written (r ∷ rs) pre post n h =
    let ws : List ℕ = pre ++ (r.low ∷ r.high ∷ (lows_highs rs ++ post)) in
    let pre' : List ℕ = pre ++ (r.low ∷ r.high ∷ []) in
    let e : pre' ++ (lows_highs rs ++ post) ≡ ws = append_assoc pre (r.low ∷ r.high ∷ []) (lows_highs rs ++ post) in
    let f : (pre ++ (r.low ∷ [])) ++ (r.high ∷ (lows_highs rs ++ post)) ≡ ws = append_assoc pre (r.low ∷ []) (r.high ∷ (lows_highs rs ++ post)) in
    let l : get_or ws n 0 ≡ r.low = get_or_at pre r.low _ 0 n h in
    let g : get_or ws (suc n) 0 ≡ r.high = ap (λ x. get_or x (suc n) 0) (sym f) ∙ get_or_at (pre ++ (r.low ∷ [])) r.high _ 0 (suc n) (simp length-append (omega arith)) in
    let q : runs_at ws (suc (suc n)) (length rs) ≡ rs =
    ap (λ x. runs_at x (suc (suc n)) (length rs)) (sym e) ∙ runs_at-written rs pre' post (suc (suc n)) (simp length-append (omega arith)) in
    ap₂ {C = List Run} (λ x xs. x ∷ xs) (λ i. record { low = l i; high = g i }) q

-- the words after the runs are zero
after-written : (rs : List Run) (pre post : List ℕ) (n : ℕ) → length pre ≡ n
    → take (place_words - 2 * length rs) (drop (n + 2 * length rs) (pre ++ (places rs ++ post))) ≡ replicate (place_words - 2 * length rs) 0
after-written rs pre post n h =
    let zs : List ℕ = replicate (place_words - 2 * length rs) 0 in
    let e : (pre ++ lows_highs rs) ++ (zs ++ post) ≡ pre ++ (places rs ++ post) =
    append_assoc pre (lows_highs rs) (zs ++ post) ∙ ap (λ x. pre ++ x) (sym (append_assoc (lows_highs rs) zs post)) in
    ap (λ x. take (place_words - 2 * length rs) (drop (n + 2 * length rs) x)) (sym e)
    ∙ ap (take (place_words - 2 * length rs)) (drop_at (pre ++ lows_highs rs) (zs ++ post) (n + 2 * length rs) (simp (length-append, length-lows_highs) (omega arith)))
    ∙ take_at zs post (place_words - 2 * length rs) (length-replicate {A = ℕ} (place_words - 2 * length rs) 0)

all-zero : (n : ℕ) → T (all_of (λ w. eqb w 0) (replicate n 0))
all-zero zero = tt
all-zero (suc n) = all-zero n

pub at_both : (f : Edge → Bool) → ((e : Edge) → T (f e)) → T (both_edges f)
at_both f h = both (f rising) (f falling) (h rising) (h falling)

-- A store holds the number of tests that it was made of
pub tests-store : (tests : ℕ) (s : ByEdge (List Run)) → tests_taken_of (store_of tests s) ≡ tests
unfolding store_of
tests-store tests s = refl

module _ (tests : ℕ) (s : ByEdge (List Run)) (fits : (e : Edge) → length (of_edge s e) ≤ max_runs) where
  -- the words up to an edge's places, and after them
  counts_before : Edge → List ℕ
  counts_before rising = length s.on_rising ∷ length s.on_falling ∷ tests ∷ []
  counts_before falling = length s.on_rising ∷ length s.on_falling ∷ tests ∷ places s.on_rising

  behind : Edge → List ℕ
  behind rising = places s.on_falling
  behind falling = []

  length_before : (e : Edge) → length (counts_before e) ≡ first_word e
  unfolding counts_before
  length_before rising = refl
  length_before falling = omega (arith, length-places s.on_rising (fits rising))

  parts : (e : Edge) → store_of tests s ≡ counts_before e ++ (places (of_edge s e) ++ behind e)
  unfolding store_of counts_before behind
  parts rising = refl
  parts falling =
      ap (λ (x : List ℕ). length s.on_rising ∷ length s.on_falling ∷ tests ∷ (places s.on_rising ++ x)) (sym (append-nil (places s.on_falling)))

  pub run_count-store : (e : Edge) → run_count (store_of tests s) e ≡ length (of_edge s e)
  unfolding store_of
  run_count-store rising = refl
  run_count-store falling = refl

  -- A store holds the runs that it was made of
  pub runs-store : (e : Edge) → store_runs (store_of tests s) e ≡ of_edge s e
  unfolding store_runs
  runs-store e =
      ap (runs_at (store_of tests s) (first_word e)) (run_count-store e)
      ∙ ap (λ x. runs_at x (first_word e) (length (of_edge s e))) (parts e ∙ ap (λ x. counts_before e ++ x) (append_assoc (lows_highs (of_edge s e)) _ (behind e)))
      ∙ runs_at-written (of_edge s e) (counts_before e) _ (first_word e) (length_before e)

  after_store : (e : Edge) → words_after (store_of tests s) e ≡ replicate (place_words - 2 * length (of_edge s e)) 0
  after_store e =
      ap (λ n. take (place_words - 2 * n) (drop (first_word e + 2 * n) (store_of tests s))) (run_count-store e)
      ∙ ap (λ x. take (place_words - 2 * length (of_edge s e)) (drop (first_word e + 2 * length (of_edge s e)) x)) (parts e)
      ∙ after-written (of_edge s e) (counts_before e) (behind e) (first_word e) (length_before e)

  pub length-store : length (store_of tests s) ≡ store_words_count
  unfolding store_of
  length-store = omega (arith, length-append (places s.on_rising) (places s.on_falling), length-places s.on_rising (fits rising), length-places s.on_falling (fits falling))

  -- and passes the checks
  pub store-passes : (n : ℕ) → tests ≤ max_tests → T (runs_of_tests_of (store_of tests s)) → ((e : Edge) → T (separated_runs_of n 1 (of_edge s e)))
      → AllPass (store_rules n (store_of tests s))
  store-passes n few none a =
      let ws : List ℕ = store_of tests s in
      let zeros-behind = at_both (λ e. all_of (λ w. eqb w 0) (words_after ws e)) (λ e. rw (after_store e) (all-zero (place_words - 2 * length (of_edge s e)))) in (
        at_both (λ e. leb (run_count ws e) max_runs) (λ e. le→leb (run_count ws e) max_runs (rw (run_count-store e) (fits e))),
        (
          le→leb (tests_taken_of ws) max_tests (rw (tests-store tests s) few),
          (at_both (λ e. separated_runs_of n 1 (store_runs ws e)) (λ e. rw (runs-store e) (a e)), (none, (zeros-behind, tt))),
        ),
      )

pub empty-store : empty_store ≡ store_of 0 (by_edge (λ e. []))
unfolding store_of
empty-store = refl

-- The words of a sound store are those of the runs that it holds
lows_highs-read : (n : ℕ) (ws : List ℕ) (at : ℕ) → at + 2 * n ≤ length ws → lows_highs (runs_at ws at n) ≡ take (2 * n) (drop at ws)
lows_highs-read zero ws at h = refl
lows_highs-read (suc n) ws at h =
    let e : 2 * suc n ≡ suc (suc (2 * n)) = omega arith in
    let a : drop at ws ≡ get_or ws at 0 ∷ (get_or ws (suc at) 0 ∷ drop (suc (suc at)) ws) =
    drop-cons ws at 0 (omega arith) ∙ ap (λ x. get_or ws at 0 ∷ x) (drop-cons ws (suc at) 0 (omega arith)) in
    let ih = lows_highs-read n ws (suc (suc at)) (omega arith) in
    ap (λ x. get_or ws at 0 ∷ (get_or ws (suc at) 0 ∷ x)) ih ∙ rw (e, a) refl

zeros : (xs : List ℕ) → T (all_of (λ x. eqb x 0) xs) → xs ≡ replicate (length xs) 0
zeros [] t = refl
zeros (x ∷ xs) t = ap₂ (λ a r. a ∷ r) (eqb→eq x 0 (all_of_head (λ x. eqb x 0) x xs t)) (zeros xs (all_of_tail (λ x. eqb x 0) x xs t))

-- an edge's places
places-read : (ws : List ℕ) (at n : ℕ) → n ≤ max_runs → at + place_words ≤ length ws
    → T (all_of (λ w. eqb w 0) (take (place_words - 2 * n) (drop (at + 2 * n) ws)))
    → length (runs_at ws at n) ≡ n → places (runs_at ws at n) ≡ take place_words (drop at ws)
places-read ws at n h l z q =
    let m = place_words - 2 * n in
    let k : length (take m (drop (at + 2 * n) ws)) ≡ m = length-take-le m (drop (at + 2 * n) ws) (simp length-drop (omega arith)) in
    let b : take m (drop (at + 2 * n) ws) ≡ replicate m 0 = zeros _ z ∙ ap (λ j. replicate j 0) k in
    let c : 2 * n + m ≡ place_words = omega arith in
    ap₂ (λ x y. x ++ y) (lows_highs-read n ws at (omega arith)) (ap (λ j. replicate (place_words - 2 * j) 0) q ∙ sym b ∙ ap (take m) (sym (drop-drop (2 * n) at ws)))
    ∙ sym (take-add (2 * n) m (drop at ws)) ∙ rw c refl

pub length-runs_at : (n : ℕ) (ws : List ℕ) (at : ℕ) → length (runs_at ws at n) ≡ n
length-runs_at zero ws at = refl
length-runs_at (suc n) ws at = ap suc (length-runs_at n ws (suc (suc at)))

pub store-runs : (n : ℕ) (ws : List ℕ) → length ws ≡ store_words_count → AllPass (store_rules n ws) → store_of (tests_taken_of ws) (runs_by_edge ws) ≡ ws
unfolding store_of store_runs
store-runs n [] l p = absurd (omega arith)
store-runs n (x ∷ []) l p = absurd (omega arith)
store-runs n (x ∷ y ∷ []) l p = absurd (omega arith)
store-runs n (x ∷ y ∷ tests ∷ zs) l p =
    let ws : List ℕ = x ∷ y ∷ tests ∷ zs in
    let a : x ≤ max_runs = leb→le x max_runs (and_left (leb x max_runs) (leb y max_runs) p.0) in
    let b : y ≤ max_runs = leb→le y max_runs (and_right (leb x max_runs) (leb y max_runs) p.0) in
    let zero? : ℕ → Bool = λ w. eqb w 0 in
    let z = p.1.1.1.1.0 in
    let r : places (runs_at ws (first_word rising) x) ≡ take place_words zs =
    places-read ws (first_word rising) x a (omega arith) (and_left (all_of zero? (words_after ws rising)) (all_of zero? (words_after ws falling)) z) (length-runs_at x ws (first_word rising)) in
    let f : places (runs_at ws (first_word falling) y) ≡ take place_words (drop place_words zs) =
    places-read ws (first_word falling) y b (omega arith) (and_right (all_of zero? (words_after ws rising)) (all_of zero? (words_after ws falling)) z) (length-runs_at y ws (first_word falling)) in
    ap₂ {C = List ℕ} (λ j k. j ∷ k ∷ tests ∷ (places (runs_at ws (first_word rising) x) ++ places (runs_at ws (first_word falling) y)))
    (length-runs_at x ws (first_word rising)) (length-runs_at y ws (first_word falling))
    ∙ ap (λ k. x ∷ y ∷ tests ∷ k)
    (ap₂ (λ u v. u ++ v) r (f ∙ take_all place_words (drop place_words zs) (omega (arith, length-drop place_words zs))) ∙ take-append-drop place_words zs)
