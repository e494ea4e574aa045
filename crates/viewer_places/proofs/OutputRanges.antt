-- What a viewer sees, by ranges of path numbers: the paths that end at an output have numbers one after the other.
use Rattle.model.proofs.Prelude.{ℕ, ◌≤◌, ◌<◌, ◌+◌, ◌-◌, suc, ◌≡◌, ◌∙◌, ap, refl, sym, subst, ap₂, ⊎_elim, true, false, ◌||◌, List, [], ◌∷◌, map}
use Rattle.model.proofs.Prelude.{length, get_or, leb, T, eqb, leb→le, ltb, ltb→lt, eqb→eq, le→leb, arith}
use Rattle.model.specs.Netlist.{Netlist, output_counts, path_total}
use Rattle.model.specs.Path.{counts_before, split, path_of}
use Rattle.model.specs.Runs.{Run, in_run, in_runs}
use Rattle.model.proofs.BoolLaws.{and_left, and_right, both, and3, T→true, true→T, not→false, bool_cases, eq→eqb}
use Rattle.model.proofs.WellFormed.{WellFormed}
use Rattle.model.proofs.NumberLaws.{splits, split-back, counts_before-suc, length-output_counts}
use Rattle.viewer_places.specs.Viewer.{is_place, ascending_places}

-- the numbers of the paths that end at the output of a place
abbrev pub place_run : Netlist → ℕ → Run
place_run N o = record { low = suc (counts_before o (output_counts N)); high = counts_before (suc o) (output_counts N) }

abbrev pub place_runs : Netlist → List ℕ → List Run
place_runs N places = map (place_run N) places

module _ (N : Netlist) (w : WellFormed N) where
  cs : List ℕ
  cs = output_counts N

  -- A path ends at an output exactly when its number is one of these
  pub ends_at : (o k : ℕ) → o < length N.outputs → 1 ≤ k → k ≤ path_total N → eqb o (path_of N k).output ≡ in_run (place_run N o) k
  unfolding path_of path_total cs
  ends_at o k h l m =
      let s = splits cs k l m in
      let p : ℕ = (split cs k).0 in
      let next : counts_before (suc o) cs ≡ counts_before o cs + get_or cs o 0 = counts_before-suc cs o (rw (length-output_counts N w) h) in
      ⊎_elim
      (λ (q : in_run (place_run N o) k ≡ true).
      let t : T (in_run (place_run N o) k) = true→T (in_run (place_run N o) k) q in
      let a = leb→le (suc (counts_before o cs)) k (and_left (leb (suc (counts_before o cs)) k) (leb k (counts_before (suc o) cs)) t) in
      let b = leb→le k (counts_before (suc o) cs) (and_right (leb (suc (counts_before o cs)) k) (leb k (counts_before (suc o) cs)) t) in
      let r : ℕ = k - counts_before o cs in
      let back : split cs (r + counts_before o cs) ≡ (o, r) = split-back cs o r (rw (length-output_counts N w) h) (omega arith) (omega arith) in
      let e : p ≡ o = ap (λ j. (split cs j).0) (omega arith) ∙ ap (λ x. x.0) back in
      T→true (eqb o p) (eq→eqb o p (sym e)) ∙ sym q)
      (λ (q : in_run (place_run N o) k ≡ false).
      not→false (eqb o p)
      (λ t.
      let e : o ≡ p = eqb→eq o p t in
      let whole : (split cs k).1 + counts_before o cs ≡ k = subst (λ x. (split cs k).1 + counts_before x cs ≡ k) (sym e) s.whole in
      let high : (split cs k).1 ≤ get_or cs o 0 = subst (λ x. (split cs k).1 ≤ get_or cs x 0) (sym e) s.high in
      subst T q
      (both (leb (suc (counts_before o cs)) k) (leb k (counts_before (suc o) cs))
      (le→leb (suc (counts_before o cs)) k (omega (arith, s.low)))
      (le→leb k (counts_before (suc o) cs) (omega (arith, s.low)))))
      ∙ sym q)
      (bool_cases (in_run (place_run N o) k))

  -- so a viewer sees the numbers in his outputs' ranges
  pub seen-ranges : (places : List ℕ) (least k : ℕ) → T (ascending_places (length N.outputs) least places) → 1 ≤ k → k ≤ path_total N
      → is_place places (path_of N k).output ≡ in_runs (place_runs N places) k
  unfolding in_runs
  seen-ranges [] least k a l m = refl
  seen-ranges (v ∷ vs) least k a l m =
      let b = and3 (leb least v) (ltb v (length N.outputs)) (ascending_places (length N.outputs) (suc v) vs) a in
      ap₂ (λ x y. x || y) (ends_at v k (ltb→lt v (length N.outputs) b.1) l m) (seen-ranges vs (suc v) k b.2 l m)
