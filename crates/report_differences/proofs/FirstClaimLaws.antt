-- The first false claim, case by case as the code meets it.
use Rattle.model.proofs.Prelude.{ℕ, ◌≤◌, ◌<◌, ◌≡◌, ◌∙◌, ap, refl, sym, ap₂, true, Bool, false, not, true≢false, List, length, get_or, T, arith, rules}
use Rattle.model.proofs.Prelude.{le-leb, lt-leb, ne_eqb, eq-eqb, not-true, not-false}
use mir.Syntax.{w8, w64}
use mir.Val.{Fits}
use Rattle.model.specs.Path.{Edge, rising, falling}
use Rattle.model.specs.Runs.{Run, in_runs}
use Rattle.model.proofs.BoolLaws.{and_left, and_right, T→true, true→T, not→false}
use Rattle.model.proofs.RunLaws.{in→}
use Rattle.length_search.specs.Untested.{first_from}
use Rattle.length_search.proofs.FirstLaws.{first-none, first-is}
use Rattle.report_runs.specs.ReportRuns.{runs_of_bytes, stated_runs, ascend}
use Rattle.report_differences.specs.Differences.{only, outside, FirstPiece, PieceFrom}
use Rattle.report_differences.specs.FirstClaim.{first_claim_of, each_held_of, all_held_of, first_of_edges, first_in_of, claims_held_of, told_of}
use Rattle.report_differences.specs.declared.inner.first.Told.{Told}
use Rattle.report_differences.specs.declared.inner.first.Told.TheVariants as told
use Rattle.report_differences.proofs.RangeCases.{piece-as}
use Rattle.report_differences.proofs.HeldLaws.{each-pass, one-held, run-below}
use Rattle.std.specs.Prelude.{Option, Some, None}
use Rattle.report_differences.specs.declared.inner.walk.FaultRange.{FaultRange}

-- The first number that is claimed and not held, from the first range of them
module _ (i j : ℕ) (a b : List ℕ) (paths : ℕ) (fits : Fits w64 paths) (x : Option FaultRange) (s : PieceFrom x i j a b 1) where
  pub number-none : x ≡ None → 0 ≡ first_from (outside (runs_of_bytes a) (runs_of_bytes b)) 1 paths
  unfolding only
  number-none e =
      let t : FirstPiece None a b 1 = piece-as i j a b 1 x None s e in
      sym (first-none (outside (runs_of_bytes a) (runs_of_bytes b)) paths 1 (λ k h l. t k h (omega (arith, fits.fits))))

  module _ (r : FaultRange) (e : x ≡ Some r) where
    t : FirstPiece (Some r) a b 1
    t = (piece-as i j a b 1 x (Some r) s e).0

    pub number-over : paths < r.low → 0 ≡ first_from (outside (runs_of_bytes a) (runs_of_bytes b)) 1 paths
    unfolding only
    number-over h = sym (first-none (outside (runs_of_bytes a) (runs_of_bytes b)) paths 1 (λ k g l. t.1 k g (omega arith)))

    pub number-found : r.low ≤ paths → r.low ≡ first_from (outside (runs_of_bytes a) (runs_of_bytes b)) 1 paths
    unfolding only
    number-found h =
        sym (first-is (outside (runs_of_bytes a) (runs_of_bytes b)) paths 1 r.low t.0 (omega arith) (t.2.1 r.low (omega arith) t.2.0) t.1)

-- Whether every number is held, from the first range of those that are not
module _ (i j : ℕ) (a b : List ℕ) (x : Option FaultRange) (s : PieceFrom x i j a b 0) where
  not_only : (k : ℕ) → only a b k ≡ false → T (in_runs (runs_of_bytes a) k) → T (in_runs (runs_of_bytes b) k)
  unfolding only
  not_only k e t = held (in_runs (runs_of_bytes b) k) (sym (rw (T→true (in_runs (runs_of_bytes a) k) t) refl) ∙ e)
    where
      held : (y : Bool) → not y ≡ false → T y
      held true e = tt
      held false e = absurd (true≢false e)

  pub held_all : ((k : ℕ) → Fits w8 (get_or a k 0)) → x ≡ None → true ≡ each_held_of (runs_of_bytes a) (runs_of_bytes b)
  held_all f e =
      let t : FirstPiece None a b 0 = piece-as i j a b 0 x None s e in
      sym (T→true _ (each-pass (runs_of_bytes a) (runs_of_bytes b)
      (λ k h. not_only k (t k (omega arith) (run-below a (λ n. (f n).fits) k (in→ (runs_of_bytes a) k h))) h)))

  only-clash : (k : ℕ) → only a b k ≡ true → T (each_held_of (runs_of_bytes a) (runs_of_bytes b)) → ⊥
  unfolding only
  only-clash k e h =
      let t : T (only a b k) = true→T (only a b k) e in
      let claimed : T (in_runs (runs_of_bytes a) k) = and_left (in_runs (runs_of_bytes a) k) (not (in_runs (runs_of_bytes b) k)) t in
      clash (in_runs (runs_of_bytes b) k) (and_right (in_runs (runs_of_bytes a) k) (not (in_runs (runs_of_bytes b) k)) t)
      (one-held (runs_of_bytes a) (runs_of_bytes b) k h (in→ (runs_of_bytes a) k claimed))
    where
      clash : (y : Bool) → T (not y) → T y → ⊥
      clash true s t = s
      clash false s t = t

  pub held-not : (r : FaultRange) → x ≡ Some r → false ≡ each_held_of (runs_of_bytes a) (runs_of_bytes b)
  held-not r e =
      let t : FirstPiece (Some r) a b 0 = (piece-as i j a b 0 x (Some r) s e).0 in
      sym (not→false _ (only-clash r.low (t.2.1 r.low (omega arith) t.2.0)))

-- Lists of runs that may not ascend
module _ (claimed held : List Run) (x : Bool) (e : x ≡ ascend 0 claimed) where
  pub claim_unread : (paths : ℕ) → x ≡ false → 0 ≡ first_claim_of claimed held paths
  unfolding first_claim_of
  claim_unread paths p = let z : ascend 0 claimed ≡ false = sym e ∙ p in sym (rw (z, first_claim_of) refl)

  pub held-unread : x ≡ false → false ≡ all_held_of claimed held
  unfolding all_held_of
  held-unread p = let z : ascend 0 claimed ≡ false = sym e ∙ p in sym (rw (z, all_held_of) refl)

  module _ (p : x ≡ true) (y : Bool) (f : y ≡ ascend 0 held) where
    a-true : ascend 0 claimed ≡ true
    a-true = sym e ∙ p

    pub claim_unheld : (paths : ℕ) → y ≡ false → 0 ≡ first_claim_of claimed held paths
    unfolding first_claim_of
    claim_unheld paths q = let z : ascend 0 held ≡ false = sym f ∙ q in sym (rw (a-true, z, first_claim_of) refl)

    pub claim_compared : (paths r : ℕ) → y ≡ true → r ≡ first_from (outside claimed held) 1 paths → r ≡ first_claim_of claimed held paths
    unfolding first_claim_of
    claim_compared paths r q g = let z : ascend 0 held ≡ true = sym f ∙ q in g ∙ sym (rw (a-true, z, first_claim_of) refl)

    pub held-unheld : y ≡ false → false ≡ all_held_of claimed held
    unfolding all_held_of
    held-unheld q = let z : ascend 0 held ≡ false = sym f ∙ q in sym (rw (a-true, z, all_held_of) refl)

    pub held-compared : (r : Bool) → y ≡ true → r ≡ each_held_of claimed held → r ≡ all_held_of claimed held
    unfolding all_held_of
    held-compared r q g = let z : ascend 0 held ≡ true = sym f ∙ q in g ∙ sym (rw (a-true, z, all_held_of) refl)

-- Both edges
edges-rising : (r f : ℕ) → 0 < r → first_of_edges r f ≡ told.Rising r
unfolding first_of_edges
edges-rising r f h = rw (ne_eqb r 0 (λ e. omega (arith, e)), first_of_edges) refl

edges-falling : (r f : ℕ) → r ≡ 0 → 0 < f → first_of_edges r f ≡ told.Falling f
unfolding first_of_edges
edges-falling r f g h = rw (eq-eqb r 0 g, ne_eqb f 0 (λ e. omega (arith, e)), first_of_edges) refl

edges_none : (r f : ℕ) → r ≡ 0 → f ≡ 0 → first_of_edges r f ≡ told.Nothing
unfolding first_of_edges
edges_none r f g h = rw (eq-eqb r 0 g, eq-eqb f 0 h, first_of_edges) refl

-- the lists of an edge in two reports
edge-claim : (report held a b : List ℕ) (d : Edge) (paths r : ℕ) → runs_of_bytes a ≡ stated_runs report d → runs_of_bytes b ≡ stated_runs held d
    → r ≡ first_claim_of (runs_of_bytes a) (runs_of_bytes b) paths → r ≡ first_claim_of (stated_runs report d) (stated_runs held d) paths
edge-claim report held a b d paths r l m e = e ∙ ap₂ (λ (x y : List Run). first_claim_of x y paths) l m

edge-held : (report held a b : List ℕ) (d : Edge) (r : Bool) → runs_of_bytes a ≡ stated_runs report d → runs_of_bytes b ≡ stated_runs held d
    → r ≡ all_held_of (runs_of_bytes a) (runs_of_bytes b) → r ≡ all_held_of (stated_runs report d) (stated_runs held d)
edge-held report held a b d r l m e = e ∙ ap₂ all_held_of l m

module _ (report held a b : List ℕ) (l : runs_of_bytes a ≡ stated_runs report rising) (m : runs_of_bytes b ≡ stated_runs held rising) where
  module _ (paths r : ℕ) (e : r ≡ first_claim_of (runs_of_bytes a) (runs_of_bytes b) paths) where
    pub found-rising : 0 < r → told.Rising r ≡ first_in_of report held paths
    unfolding first_in_of
    found-rising h =
        sym (edges-rising r (first_claim_of (stated_runs report falling) (stated_runs held falling) paths) h)
        ∙ ap (λ (k : ℕ). first_of_edges k (first_claim_of (stated_runs report falling) (stated_runs held falling) paths))
        (edge-claim report held a b rising paths r l m e)

    module _ (none : r ≤ 0) (c d : List ℕ) (n : runs_of_bytes c ≡ stated_runs report falling) (o : runs_of_bytes d ≡ stated_runs held falling)
        (f : ℕ) (g : f ≡ first_claim_of (runs_of_bytes c) (runs_of_bytes d) paths) where
      both-edges : first_of_edges r f ≡ first_in_of report held paths
      unfolding first_in_of
      both-edges = ap₂ first_of_edges (edge-claim report held a b rising paths r l m e) (edge-claim report held c d falling paths f n o g)

      pub found-falling : 0 < f → told.Falling f ≡ first_in_of report held paths
      found-falling h = sym (edges-falling r f (omega arith) h) ∙ both-edges

      pub found_none : f ≤ 0 → told.Nothing ≡ first_in_of report held paths
      found_none h = sym (edges_none r f (omega arith) (omega arith)) ∙ both-edges

  module _ (x : Bool) (e : x ≡ all_held_of (runs_of_bytes a) (runs_of_bytes b)) where
    pub rising-not : not x ≡ true → false ≡ claims_held_of report held
    unfolding claims_held_of
    rising-not p =
        let z : all_held_of (stated_runs report rising) (stated_runs held rising) ≡ false =
        sym (edge-held report held a b rising x l m e) ∙ not-true x p in
        sym (rw z refl)

    pub falling-tells : not x ≡ false → (c d : List ℕ) → runs_of_bytes c ≡ stated_runs report falling → runs_of_bytes d ≡ stated_runs held falling
        → (y : Bool) → y ≡ all_held_of (runs_of_bytes c) (runs_of_bytes d) → y ≡ claims_held_of report held
    unfolding claims_held_of
    falling-tells p c d n o y g =
        let z : all_held_of (stated_runs report rising) (stated_runs held rising) ≡ true =
        sym (edge-held report held a b rising x l m e) ∙ not-false x p in
        edge-held report held c d falling y n o g ∙ sym (rw z refl)

-- What is told
module _ (report truth plain : List ℕ) (paths : ℕ) where
  pub told-plainly : length plain < 34 → (r : Told) → r ≡ first_in_of report truth paths → r ≡ told_of report truth plain paths
  unfolding told_of
  told-plainly h r e = e ∙ sym (rw (lt-leb 34 (length plain) h, told_of) refl)

  module _ (h : 34 ≤ length plain) (x : Bool) (e : x ≡ claims_held_of report truth) where
    pub told-nothing : x ≡ true → told.Nothing ≡ told_of report truth plain paths
    unfolding told_of
    told-nothing p = let z : claims_held_of report truth ≡ true = sym e ∙ p in sym (rw (le-leb 34 (length plain) h, z, told_of) refl)

    module _ (p : x ≡ false) (y : Bool) (f : y ≡ claims_held_of report plain) where
      not_all : claims_held_of report truth ≡ false
      not_all = sym e ∙ p

      pub told-not_robust : y ≡ true → told.NotRobust ≡ told_of report truth plain paths
      unfolding told_of
      told-not_robust q =
          let z : claims_held_of report plain ≡ true = sym f ∙ q in sym (rw (le-leb 34 (length plain) h, not_all, z, told_of) refl)

      pub told-first : y ≡ false → (r : Told) → r ≡ first_in_of report plain paths → r ≡ told_of report truth plain paths
      unfolding told_of
      told-first q r g =
          let z : claims_held_of report plain ≡ false = sym f ∙ q in g ∙ sym (rw (le-leb 34 (length plain) h, not_all, z, told_of) refl)

pub ruleset number-cases = (number-none, number-over, number-found, rules)

pub ruleset held-cases = (held_all, held-not, rules)

pub ruleset claim-cases = (claim_unread, claim_unheld, claim_compared, held-unread, held-unheld, held-compared, rules)

pub ruleset told-cases = (told-plainly, told-nothing, told-not_robust, told-first, rules)
