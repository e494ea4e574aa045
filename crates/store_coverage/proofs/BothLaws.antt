-- Both edges: the rising runs stay while the falling ones are made.
use Rattle.model.proofs.Prelude.{ℕ, ◌≤◌, ◌+◌, ◌-◌, ◌*◌, ◌≡◌, ◌∙◌, ap, refl, sym, ap₂, true, Bool, false, ◌&&◌, true≢false, List, [], ◌∷◌, length, leb}
use Rattle.model.proofs.Prelude.{arith, leb-true}
use Rattle.model.specs.Base.{value, checks}
use Rattle.model.specs.Netlist.{Netlist}
use Rattle.model.specs.Path.{rising, falling}
use Rattle.model.specs.Detect.{Test, detects, in_net_set, detects_number}
use Rattle.model.specs.Runs.{Run, working_runs}
use Rattle.model.specs.Store.{max_runs, store_runs, runs_by_edge}
use Rattle.model.specs.Calls.{runs_then_of}
use Rattle.model.proofs.AnswerLaws.{not_refused}
use Rattle.model.proofs.RefusalLaws.{refused-inj}
use Rattle.run_lists.specs.RunLists.{runs_in_words}
use Rattle.run_lists.proofs.RunWordLaws.{length_runs}
use Rattle.store_writing.specs.Writing.{replaced, changed}
use Rattle.store_writing.specs.declared.inner.Change.{Change}
use Rattle.store_writing.specs.declared.inner.Change.TheVariants.{Kept, Made}
use Rattle.store_writing.proofs.EdgeWriteLaws.{length-replaced}
use Rattle.detection.specs.Cases.{Case, case_of, in_set, detects_path, set_runs_of, working}
use Rattle.store_coverage.specs.Covers.{then_runs_of, fits_of, Covers}
use Rattle.store_coverage.specs.Both.{joined, CoversBoth}
use Rattle.store_coverage.specs.declared.inner.edges.Over.{Over}
use Rattle.store_coverage.specs.declared.inner.edges.Over.TheVariants as over
use Rattle.std.specs.Prelude.{Result, Ok, Err}

-- an edge's answer by its two tests
work_fits : Result Change Over → Bool
work_fits (Ok d) = true
work_fits (Err over.Work) = false
work_fits (Err over.Store) = true

store_fits : Result Change Over → Bool
store_fits (Ok d) = true
store_fits (Err over.Work) = true
store_fits (Err over.Store) = false

join_tests : (a b : Result Change Over) → fits_of (joined a b) ≡ checks ((50, work_fits a && work_fits b) ∷ (51, store_fits a && store_fits b) ∷ [])
unfolding work_fits store_fits
join_tests (Ok d) (Ok d') = refl
join_tests (Ok d) (Err over.Work) = refl
join_tests (Ok d) (Err over.Store) = refl
join_tests (Err over.Work) b = refl
join_tests (Err over.Store) (Ok d') = refl
join_tests (Err over.Store) (Err over.Work) = refl
join_tests (Err over.Store) (Err over.Store) = refl

work-test : (a : Result Change Over) (p c : Bool) → fits_of a ≡ checks ((50, p) ∷ (51, c) ∷ []) → work_fits a ≡ p
unfolding work_fits
work-test (Ok d) true c e = refl
work-test (Ok d) false c e = absurd (not_refused (sym e))
work-test (Err over.Work) true true e = absurd (not_refused e)
work-test (Err over.Work) true false e = let z : ◌≡◌ {A = ℕ} 50 51 = refused-inj e in absurd (omega arith)
work-test (Err over.Work) false c e = refl
work-test (Err over.Store) true c e = refl
work-test (Err over.Store) false c e = let z : ◌≡◌ {A = ℕ} 51 50 = refused-inj e in absurd (omega arith)

store-test : (a : Result Change Over) (p c : Bool) → fits_of a ≡ checks ((50, p) ∷ (51, c) ∷ []) → p ≡ true → store_fits a ≡ c
unfolding store_fits
store-test (Ok d) true true e h = refl
store-test (Ok d) true false e h = absurd (not_refused (sym e))
store-test (Ok d) false c e h = absurd (not_refused (sym e))
store-test (Err over.Work) true true e h = absurd (not_refused e)
store-test (Err over.Work) true false e h = let z : ◌≡◌ {A = ℕ} 50 51 = refused-inj e in absurd (omega arith)
store-test (Err over.Work) false c e h = absurd (true≢false (sym h))
store-test (Err over.Store) true true e h = absurd (not_refused e)
store-test (Err over.Store) true false e h = refl
store-test (Err over.Store) false c e h = let z : ◌≡◌ {A = ℕ} 51 50 = refused-inj e in absurd (omega arith)

both-tests : (p q c d x y : Bool) → (p ≡ true → x ≡ c) → (q ≡ true → y ≡ d)
    → checks ((50, p && q) ∷ (51, x && y) ∷ []) ≡ checks ((50, p && q) ∷ (51, c && d) ∷ [])
both-tests true true c d x y f g = ap₂ (λ (u v : Bool). checks ((50, true) ∷ (51, u && v) ∷ [])) (f refl) (g refl)
both-tests true false c d x y f g = refl
both-tests false q c d x y f g = refl

join_is : (a b : Result Change Over) (p q c d : Bool) → fits_of a ≡ checks ((50, p) ∷ (51, c) ∷ []) → fits_of b ≡ checks ((50, q) ∷ (51, d) ∷ [])
    → fits_of (joined a b) ≡ checks ((50, p && q) ∷ (51, c && d) ∷ [])
join_is a b p q c d x y =
    join_tests a b
    ∙ ap₂ (λ (u v : Bool). checks ((50, u && v) ∷ (51, store_fits a && store_fits b) ∷ [])) (work-test a p c x) (work-test b q d y)
    ∙ both-tests p q c d (store_fits a) (store_fits b) (store-test a p c x) (store-test b q d y)

pub fits-parts : (a b : Result Change Over) (r f : Change) → joined a b ≡ Ok (r, f) → (a ≡ Ok r) × (b ≡ Ok f)
fits-parts (Ok d) (Ok d') r f e =
    let p : (d, d') ≡ (r, f) = cc in (ap (λ (x : Change × Change). Ok x.0) p, ap (λ (x : Change × Change). Ok x.1) p)
fits-parts (Ok d) (Err over.Work) r f e = let z : ◌≡◌ {A = ℕ} 0 1 = cc in absurd (omega arith)
fits-parts (Ok d) (Err over.Store) r f e = let z : ◌≡◌ {A = ℕ} 0 1 = cc in absurd (omega arith)
fits-parts (Err over.Work) b r f e = let z : ◌≡◌ {A = ℕ} 0 1 = cc in absurd (omega arith)
fits-parts (Err over.Store) (Ok d) r f e = let z : ◌≡◌ {A = ℕ} 0 1 = cc in absurd (omega arith)
fits-parts (Err over.Store) (Err over.Work) r f e = let z : ◌≡◌ {A = ℕ} 0 1 = cc in absurd (omega arith)
fits-parts (Err over.Store) (Err over.Store) r f e = let z : ◌≡◌ {A = ℕ} 0 1 = cc in absurd (omega arith)

-- an edge whose runs fit has few of them
few-fit : (p c : Bool) (l : ℕ) → leb l max_runs ≡ c → value tt ≡ checks ((50, p) ∷ (51, c) ∷ []) → l ≤ max_runs
few-fit true true l h e = leb-true l max_runs h
few-fit true false l h e = absurd (not_refused (sym e))
few-fit false c l h e = absurd (not_refused (sym e))

-- what was made of an edge in the third quarter is not touched by what is made in the last
still_made : {K F : Case} {s f : List Run} {ws₀ ws₁ ws₂ : List ℕ} {a b : Result Change Over} → Covers K s ws₀ ws₁ (2 * max_runs) a → Covers F f ws₁ ws₂ (3 * max_runs) b
    → (d : Change) → a ≡ Ok d → changed d ws₂ (2 * max_runs) s ≡ then_runs_of K s
still_made x y Kept e = x.runs_are Kept e
still_made {K = K} {s = s} {ws₁ = ws₁} x y (Made from to n) e =
    let made = x.runs_are (Made from to n) e in
    let few : length (then_runs_of K s) ≤ max_runs =
    few-fit (leb (working K) max_runs) (leb (length (then_runs_of K s)) max_runs) (length (then_runs_of K s)) refl (ap fits_of (sym e) ∙ x.answers) in
    let cut = x.within (Made from to n) e in
    let count : from + n + (length s - to) ≡ length (then_runs_of K s) =
    omega (arith, length-replaced from to (runs_in_words ws₁ (2 * max_runs) n) s (omega (arith, cut.0, cut.1)), length_runs ws₁ (2 * max_runs) n, ap (length {A = Run}) made) in
    ap (λ (rs : List Run). replaced from to rs s) (y.between (2 * max_runs) n (omega arith) (omega arith)) ∙ made

pub covers-both : {N : Netlist} {t : Test} {ws ws₀ ws₁ ws₂ : List ℕ} {a b : Result Change Over} {q : Result (Change × Change) Over}
    → Covers (case_of N t rising) (store_runs ws rising) ws₀ ws₁ (2 * max_runs) a → Covers (case_of N t falling) (store_runs ws falling) ws₁ ws₂ (3 * max_runs) b
    → q ≡ joined a b → CoversBoth N t ws ws₀ ws₂ q
unfolding then_runs_of detects_path detects_number detects working set_runs_of in_set in_net_set working_runs
covers-both {N = N} {t = t} {ws = ws} {a = a} {b = b} x y e = record {
  answers =
      ap fits_of e
      ∙ join_is a b (leb (working_runs N t rising) max_runs) (leb (working_runs N t falling) max_runs)
      (leb (length (runs_then_of N (runs_by_edge ws) t rising)) max_runs) (leb (length (runs_then_of N (runs_by_edge ws) t falling)) max_runs) x.answers y.answers;
  rising_runs_of = λ r f p. still_made x y r (fits-parts a b r f (sym e ∙ p)).0;
  falling_runs_of = λ r f p. y.runs_are f (fits-parts a b r f (sym e ∙ p)).1;
  rising_within = λ r f p. x.within r (fits-parts a b r f (sym e ∙ p)).0;
  falling_within = λ r f p. y.within f (fits-parts a b r f (sym e ∙ p)).1;
  kept = λ k h. y.kept k (omega arith) ∙ x.kept k (omega arith);
}
