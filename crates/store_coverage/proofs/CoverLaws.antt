-- One edge: the detected runs, joined to those that the store holds.
use Rattle.model.proofs.Prelude.{ℕ, ◌≤◌, ◌+◌, ◌-◌, ◌*◌, suc, ◌^◌, zero, ◌/◌, ◌≡◌, ◌∙◌, ap, refl, sym, subst, ap₂, subst⁻¹, true, Bool, false, ◌||◌}
use Rattle.model.proofs.Prelude.{cond, or_comm, List, [], ◌∷◌, length, get_or, drop, get_or-drop, leb, arith, rules, le-leb, leb-true}
use mir.Syntax.{w64}
use mir.Val.{Fits}
use Rattle.model.specs.Base.{refused, value, checks}
use Rattle.model.specs.Store.{max_runs}
use Rattle.model.specs.Netlist.{path_total}
use Rattle.model.proofs.WellFormed.{WellFormed}
use Rattle.model.specs.Runs.{Run, runs_among, in_runs}
use Rattle.model.proofs.RunLaws.{runs-separated, runs-test, runs_same}
use Rattle.run_lists.specs.RunLists.{Sound, in_either, run_at, runs_in_words}
use Rattle.run_lists.specs.Answers.{InsideWhere}
use Rattle.run_lists.proofs.MemberLaws.{run-path, sound-mono}
use Rattle.run_lists.proofs.RunWordLaws.{length_runs}
use Rattle.run_lists.proofs.InsideSteps.{walked_none, inside-union}
use Rattle.store_writing.specs.Writing.{changed, Within}
use Rattle.store_writing.specs.declared.inner.Change.{Change}
use Rattle.store_writing.specs.declared.inner.Change.TheVariants.{Kept}
use Rattle.detection.specs.Cases.{Case, detects_path, detected, working}
use Rattle.detection.specs.Walks.{Detects}
use Rattle.detection.proofs.DetectedLaws.{few-detected}
use Rattle.store_coverage.specs.Covers.{then_runs_of, held_runs, JoinReady, Covers}
use Rattle.store_coverage.specs.declared.inner.edges.Over.{Over}
use Rattle.store_coverage.specs.declared.inner.edges.Over.TheVariants as over
use Rattle.std.specs.Prelude.{Option, Some, None, Result, Ok, Err}

-- ---- words that are the same from a place on

at_drop : (n j : ℕ) (a b : List ℕ) → drop n a ≡ drop n b → n ≤ j → get_or a j 0 ≡ get_or b j 0
at_drop n j a b e h =
    let i : n + (j - n) ≡ j = omega arith in
    ap (λ (k : ℕ). get_or a k 0) (sym i)
    ∙ sym (get_or-drop n a (j - n) 0)
    ∙ ap (λ (l : List ℕ). get_or l (j - n) 0) e
    ∙ get_or-drop n b (j - n) 0
    ∙ ap (λ (k : ℕ). get_or b k 0) i

pub runs-drop : (k n f : ℕ) (a b : List ℕ) → drop n a ≡ drop n b → n ≤ 2 * f → runs_in_words a f k ≡ runs_in_words b f k
runs-drop zero n f a b e h = refl
runs-drop (suc k) n f a b e h =
    λ t. run-path {r = run_at a f} {s = run_at b f} (at_drop n (2 * f) a b e h) (at_drop n (2 * f + 1) a b e (omega arith)) t
    ∷ runs-drop k n (f + 1) a b e (omega arith) t

-- ---- what the detected runs' answer says

count-cases : (b : Bool) (x n : ℕ) → ◌≡◌ {A = (Option ℕ)} (Some n) (cond b (Some x) None) → (b ≡ true) × (n ≡ x)
count-cases true x n e = (refl, cc)
count-cases false x n e = let z : ◌≡◌ {A = ℕ} 0 1 = cc in absurd (omega arith)

full-cases : (b : Bool) (x : ℕ) → ◌≡◌ {A = (Option ℕ)} None (cond b (Some x) None) → b ≡ false
full-cases true x e = let z : ◌≡◌ {A = ℕ} 0 1 = cc in absurd (omega arith)
full-cases false x e = refl

detected-apart : (K : Case) → Sound (path_total K.netlist) (detected K)
unfolding detected
detected-apart K = runs-separated (detects_path K) (path_total K.netlist)

module _ {K : Case} {ws₀ ws₁ : List ℕ} {q : (Option ℕ)} (d : Detects K ws₀ ws₁ q) {n : ℕ} (t : q ≡ Some n) where
  pub found-is : (leb (working K) max_runs ≡ true) × (n ≡ length (detected K))
  found-is = count-cases (leb (working K) max_runs) (length (detected K)) n (sym t ∙ d.answers)

  pub found-few : WellFormed K.netlist → n ≤ max_runs
  found-few w = omega (arith, found-is.1, leb-true (working K) max_runs found-is.0, few-detected K w)

  pub found-apart : Sound (path_total K.netlist) (runs_in_words ws₁ max_runs n)
  found-apart = subst⁻¹ (λ (s : List Run). Sound (path_total K.netlist) s) (d.runs_are n t) (detected-apart K)

  pub found-sound : path_total K.netlist ≤ 2 ^ 62 → Sound (2 ^ 62) (runs_in_words ws₁ max_runs n)
  found-sound h = sound-mono 1 (path_total K.netlist) (2 ^ 62) (runs_in_words ws₁ max_runs n) h found-apart

-- the union of the store's runs and the detected runs
pub then_is : (K : Case) (s : List Run) → runs_among (in_either s (detected K)) (path_total K.netlist) ≡ then_runs_of K s
unfolding detected then_runs_of
then_is K s =
    runs_same (in_either s (runs_among (detects_path K) (path_total K.netlist)))
    (λ k. detects_path K k || in_runs s k) (path_total K.netlist)
    (λ j h k.
    ap (λ (b : Bool). in_runs s j || b) (runs-test (detects_path K) (path_total K.netlist) j h k)
    ∙ or_comm (in_runs s j) (detects_path K j))

-- ---- document 01's 50, 51, or neither

rules-work : {a : Bool} (c : Bool) → a ≡ false → refused 50 ≡ checks ((50, a) ∷ (51, c) ∷ [])
rules-work c e = rw e refl

pub rules-store : {a c : Bool} → a ≡ true → c ≡ false → refused 51 ≡ checks ((50, a) ∷ (51, c) ∷ [])
rules-store e d = rw (e, d) refl

pub rules-fit : {a c : Bool} → a ≡ true → c ≡ true → value tt ≡ checks ((50, a) ∷ (51, c) ∷ [])
rules-fit e d = rw (e, d) refl

-- ---- the cases of joining

module _ {q : (Option ℕ)} {held ws₁ : List ℕ} {target : ℕ} (h : JoinReady q held ws₁ target) where
  pub join_over : q ≡ None → (K : Case) (ws₀ : List ℕ) → Detects K ws₀ ws₁ q → Sound (path_total K.netlist) (held_runs held)
      → Covers K (held_runs held) ws₀ ws₁ target (Err over.Work)
  join_over t K ws₀ d so =
      let b : leb (working K) max_runs ≡ false = full-cases (leb (working K) max_runs) (length (detected K)) (sym t ∙ d.answers) in
      record {
        answers = rules-work (leb (length (then_runs_of K (held_runs held))) max_runs) b;
        runs_are = λ c p. (let z : ◌≡◌ {A = ℕ} 0 1 = cc in absurd (omega arith));
        within = λ c p. (let z : ◌≡◌ {A = ℕ} 0 1 = cc in absurd (omega arith));
        kept = λ k l. d.kept k (omega (arith, h.high));
        between = λ f k l m. runs-drop k (4 * max_runs) f ws₁ ws₀ (d.kept (4 * max_runs) (omega arith)) (omega arith);
      }

  as_held : runs_in_words held 0 (length held / 2 - 0) ≡ held_runs held
  as_held = let e : length held / 2 - 0 ≡ length held / 2 = omega arith in ap (λ (k : ℕ). runs_in_words held 0 k) e

  module _ {n : ℕ} (t : q ≡ Some n) where
    -- the place after the detected runs
    pub place-fits : Fits w64 (max_runs + n)
    place-fits = omega (arith, h.few_found n t)

    pub found_inside : 2 * (max_runs + n) ≤ length ws₁
    found_inside = omega (arith, h.few_found n t, h.high, h.room)

    as_found : runs_in_words ws₁ max_runs (max_runs + n - max_runs) ≡ runs_in_words ws₁ max_runs n
    as_found = let e : max_runs + n - max_runs ≡ n = omega arith in ap (λ (k : ℕ). runs_in_words ws₁ max_runs k) e

    union_then : (K : Case) (ws₀ : List ℕ) → Detects K ws₀ ws₁ q
        → runs_among (in_either (runs_in_words held 0 (length held / 2 - 0)) (runs_in_words ws₁ max_runs (max_runs + n - max_runs))) (path_total K.netlist)
        ≡ then_runs_of K (held_runs held)
    union_then K ws₀ d = ap₂ (λ (x y : List Run). runs_among (in_either x y) (path_total K.netlist)) as_held (as_found ∙ d.runs_are n t) ∙ then_is K (held_runs held)

    -- nothing new: each detected run lies in a run of the store
    pub join_known : {k : Bool} → k ≡ true → InsideWhere k held 0 (length held / 2) ws₁ max_runs (max_runs + n)
        → (K : Case) (ws₀ : List ℕ) → Detects K ws₀ ws₁ q → Sound (path_total K.netlist) (held_runs held)
        → Covers K (held_runs held) ws₀ ws₁ target (Ok Kept)
    join_known ek w K ws₀ d so =
        let same : held_runs held ≡ then_runs_of K (held_runs held) =
        sym as_held
        ∙ sym (inside-union (path_total K.netlist) held 0 (length held / 2) ws₁ max_runs (max_runs + n) (omega arith) (λ (_ : true ≡ true). w ek)
        (subst⁻¹ (λ (x : List Run). Sound (path_total K.netlist) x) as_held so))
        ∙ union_then K ws₀ d in
        let l : length (then_runs_of K (held_runs held)) ≡ length held / 2 = ap (length {A = Run}) (sym same) ∙ length_runs held 0 (length held / 2) in
        record {
          answers = rules-fit (found-is d t).0 (le-leb (length (then_runs_of K (held_runs held))) max_runs (omega (arith, l, h.few_held)));
          runs_are = λ g p. (let i : Kept ≡ g = cc in subst (λ (x : Change). changed x ws₁ target (held_runs held) ≡ then_runs_of K (held_runs held)) i same);
          within = λ g p. (let i : Kept ≡ g = cc in subst (λ (x : Change). Within x (length (held_runs held))) i tt);
          kept = λ k m. d.kept k (omega (arith, h.high));
          between = λ f k m o. runs-drop k (4 * max_runs) f ws₁ ws₀ (d.kept (4 * max_runs) (omega arith)) (omega arith);
        }

    -- nothing is detected
    pub join_none : n ≡ 0 → (K : Case) (ws₀ : List ℕ) → Detects K ws₀ ws₁ q → Sound (path_total K.netlist) (held_runs held)
        → Covers K (held_runs held) ws₀ ws₁ target (Ok Kept)
    join_none z = join_known refl (walked_none held 0 (length held / 2) ws₁ max_runs (max_runs + n) (omega arith))

    -- something may be new
    pub ready-count : JoinReady (Some n) held ws₁ target
    ready-count = subst (λ (x : Option ℕ). JoinReady x held ws₁ target) t h

    pub join_count : {ws₂ : List ℕ} {a : Result Change Over}
        → ((K : Case) (ws₀ : List ℕ) → Detects K ws₀ ws₁ (Some n) → Sound (path_total K.netlist) (held_runs held) → Covers K (held_runs held) ws₀ ws₂ target a)
        → (K : Case) (ws₀ : List ℕ) → Detects K ws₀ ws₁ q → Sound (path_total K.netlist) (held_runs held) → Covers K (held_runs held) ws₀ ws₂ target a
    join_count made K ws₀ d so = made K ws₀ (subst (λ (x : Option ℕ). Detects K ws₀ ws₁ x) t d) so

pub ruleset join-cases = (join_over, place-fits, found_inside, join_known, join_none, ready-count, join_count, rules)
