-- A viewer's ranges added one after the other are the runs of the path numbers that he sees.
use Rattle.model.proofs.Prelude.{ℕ, ◌≤◌, ◌<◌, ◌+◌, ◌-◌, suc, zero, ◌≡◌, ◌∙◌, ap, refl, sym, subst, ap₂, Bool, ◌||◌, or-false, List, [], ◌∷◌, length}
use Rattle.model.proofs.Prelude.{length-append, leb, T, leb→le, ltb, ltb→lt, arith, lt-ltb, le-ltb}
use Rattle.model.specs.Netlist.{Netlist, output_counts, path_total}
use Rattle.model.specs.Path.{counts_before}
use Rattle.model.specs.Runs.{Run, runs_among, run}
use Rattle.model.proofs.BoolLaws.{and3, cases}
use Rattle.model.proofs.WellFormed.{WellFormed}
use Rattle.model.proofs.NumberLaws.{counts_before-suc, counts_before-le, length-output_counts}
use Rattle.run_lists.specs.RunLists.{add_run, add_runs}
use Rattle.run_lists.proofs.MemberLaws.{inside, member, member-in, inside-lt, inside-gt, runs_of-unique}
use Rattle.run_lists.proofs.RunCutLaws.{member-append}
use Rattle.run_union.proofs.AddRunLaws.{joined-one, joined-two, Asc, add_runs-sound, add_runs-member}
use Rattle.viewer_places.specs.Viewer.{ascending_places, seen}
use Rattle.viewer_places.proofs.OutputRanges.{place_run, place_runs, seen-ranges}
use Rattle.viewer_ranges.specs.Ranges.{range, ranges}

pub range-some : (b l : ℕ) → b < l → range b l ≡ run (b + 1) l ∷ []
range-some b l h = rw (lt-ltb b l h) refl

pub range_none : (b l : ℕ) → l ≤ b → range b l ≡ []
range_none b l h = rw (le-ltb b l h) refl

-- one run more at the end makes a list longer by one at the most
add_run-few : (s : List Run) (r : Run) → length (add_run s r) ≤ suc (length s)
add_run-few [] r = omega arith
add_run-few (c ∷ []) r = cases r.low (c.high + 1)
    (λ h. rw (joined-one c r h) (omega arith))
    (λ h. rw (joined-two c r h) (omega arith))
add_run-few (c ∷ d ∷ s) r = omega (arith, add_run-few (d ∷ s) r)

add_runs-few : (s rs : List Run) → length (add_runs s rs) ≤ length s + length rs
add_runs-few s [] = omega arith
add_runs-few s (r ∷ rs) = omega (arith, add_runs-few (add_run s r) rs, add_run-few s r)

range-few : (b l : ℕ) → length (range b l) ≤ 1
range-few b l = cases l b (λ h. rw (range_none b l h) (omega arith)) (λ h. rw (range-some b l h) (omega arith))

ranges-few : (N : Netlist) (places : List ℕ) → length (ranges N places) ≤ length places
ranges-few N [] = omega arith
ranges-few N (v ∷ vs) =
    let b : ℕ = counts_before v (output_counts N) in
    let l : ℕ = counts_before (suc v) (output_counts N) in
    omega (arith, length-append (range b l) (ranges N vs), range-few b l, ranges-few N vs)

-- no more places than outputs
places-few : (n least : ℕ) (vs : List ℕ) → least ≤ n → T (ascending_places n least vs) → least + length vs ≤ n
places-few n least [] h a = omega arith
places-few n least (v ∷ vs) h a =
    let b = and3 (leb least v) (ltb v n) (ascending_places n (suc v) vs) a in
    let low = leb→le least v b.0 in
    let high = ltb→lt v n b.1 in
    omega (arith, places-few n (suc v) vs high b.2)

pub total-few : (N : Netlist) (n : ℕ) (places : List ℕ) → T (ascending_places n 0 places) → length (add_runs [] (ranges N places)) ≤ n
total-few N n places a = omega (arith, add_runs-few [] (ranges N places), ranges-few N places, places-few n 0 places (omega arith) a)

module _ (N : Netlist) (w : WellFormed N) where
  cs : List ℕ
  cs = output_counts N

  before-mono : (d o : ℕ) → o + d < length cs → counts_before o cs ≤ counts_before (o + d) cs
  before-mono zero o h = let e : o + zero ≡ o = omega arith in rw e (omega arith)
  before-mono (suc d) o h =
      let e : o + suc d ≡ suc o + d = omega arith in
      rw e (omega (arith, before-mono d (suc o) (omega arith), counts_before-suc cs o (omega arith)))

  -- they ascend
  ranges-asc : (m least : ℕ) (places : List ℕ) → least ≤ length cs → m ≤ counts_before least cs + 1 → T (ascending_places (length N.outputs) least places)
      → Asc m (path_total N) (ranges N places)
  unfolding cs path_total
  ranges-asc m least [] l h a = tt
  ranges-asc m least (v ∷ vs) l h a =
      let b = and3 (leb least v) (ltb v (length N.outputs)) (ascending_places (length N.outputs) (suc v) vs) a in
      let low = leb→le least v b.0 in
      let there : v < length cs = rw (length-output_counts N w) (ltb→lt v (length N.outputs) b.1) in
      let at : least + (v - least) ≡ v = omega arith in
      let up : counts_before least cs ≤ counts_before v cs = subst (λ x. counts_before least cs ≤ counts_before x cs) at (before-mono (v - least) least (omega arith)) in
      let next = counts_before-suc cs v there in
      let most = counts_before-le cs v there in
      cases (counts_before (suc v) cs) (counts_before v cs)
      (λ k. rw (range_none (counts_before v cs) (counts_before (suc v) cs) k) (ranges-asc m (suc v) vs there (omega arith) b.2))
      (λ k. rw (range-some (counts_before v cs) (counts_before (suc v) cs) k)
      (omega arith, omega arith, omega arith, ranges-asc (counts_before v cs + 1) (suc v) vs there (omega arith) b.2))

  -- and hold the numbers of the places
  range-member : (x v : ℕ) → member x (range (counts_before v cs) (counts_before (suc v) cs)) ≡ inside x (place_run N v)
  unfolding cs
  range-member x v =
      let lo : ℕ = counts_before v cs in
      let hi : ℕ = counts_before (suc v) cs in
      let e : lo + 1 ≡ suc lo = omega arith in
      cases hi lo
      (λ k. ap (member x) (range_none lo hi k)
      ∙ sym (cases (suc lo) x (λ u. inside-gt x (place_run N v) (omega arith)) (λ u. inside-lt x (place_run N v) u)))
      (λ k. ap (member x) (range-some lo hi k) ∙ or-false (inside x (run (lo + 1) hi)) ∙ ap (λ (n : ℕ). inside x (run n hi)) e)

  ranges-member : (x : ℕ) (places : List ℕ) → member x (ranges N places) ≡ member x (place_runs N places)
  unfolding cs
  ranges-member x [] = refl
  ranges-member x (v ∷ vs) =
      member-append x (range (counts_before v cs) (counts_before (suc v) cs)) (ranges N vs)
      ∙ ap₂ (λ (p q : Bool). p || q) (range-member x v) (ranges-member x vs)

  pub ranges-seen : (places : List ℕ) → T (ascending_places (length N.outputs) 0 places)
      → add_runs [] (ranges N places) ≡ runs_among (seen N places) (path_total N)
  unfolding seen
  ranges-seen places a =
      let asc : Asc 1 (path_total N) (ranges N places) = ranges-asc 1 0 places (omega arith) (omega arith) a in
      runs_of-unique (seen N places) (path_total N) (add_runs [] (ranges N places))
      (add_runs-sound 1 1 (path_total N) [] (ranges N places) tt tt (omega arith) asc)
      (λ x h k. add_runs-member x 1 (path_total N) [] (ranges N places) tt asc ∙ ranges-member x places ∙ member-in x (place_runs N places)
      ∙ sym (seen-ranges N w places 0 x a h k))
