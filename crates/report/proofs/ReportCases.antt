-- A report compared with the one of a sound store, case by case as the code meets them.
use Rattle.model.proofs.Prelude.{ℕ, ◌≤◌, ◌<◌, ◌+◌, ◌*◌, ◌^◌, ◌/◌, ◌≡◌, ◌∙◌, ap, refl, sym, ap₂, true, Bool, false, ◌&&◌, not, List, ◌++◌, length}
use Rattle.model.proofs.Prelude.{drop, take, length-drop, take_all, leb, eqb, leb→le, arith, rules, ne_eqb, eq-eqb, not-true, not-false}
use Rattle.model.specs.Base.{refused, value, checks, field}
use Rattle.model.specs.Path.{rising, falling}
use Rattle.model.specs.Read.{marked}
use Rattle.model.specs.Store.{runs_by_edge}
use Rattle.model.specs.Report.{same_bytes, report_record, report_rules}
use Rattle.model.proofs.BoolLaws.{and_left, true→T}
use Rattle.record_bytes.proofs.ByteLaws.{part-yes, part_no, same_length}
use Rattle.store_words.specs.WordAnswers.{totals_in, totals_both}
use Rattle.store_words.specs.Sound.{SoundWords, edge_words}
use Rattle.store_words.specs.declared.inner.StoreTotals.{StoreTotals}
use Rattle.report_bytes.specs.Layout.{word_bytes, SameHead}
use Rattle.report.proofs.ReportPartLaws.{length-words, report-parts, length_whole}

module _ (report ws : List ℕ) (tests paths : ℕ) (sound : SoundWords (2 ^ 62) ws) (R F : List ℕ) (er : R ≡ edge_words ws rising) (ef : F ≡ edge_words ws falling)
    (t : StoreTotals) (q : totals_in t ≡ totals_both ws) where
  abbrev whole : Bool
  whole = same_bytes report (report_record tests paths (runs_by_edge ws))

  pub other_length : (length report ≡ 34 + 8 * length R + 8 * length F → ⊥) → false ≡ whole
  other_length d =
      sym (same_length report (report_record tests paths (runs_by_edge ws)) (λ e. d (e ∙ length_whole ws sound.few tests paths R F er ef t q)))

  module _ (l : length report ≡ 34 + 8 * length R + 8 * length F)
      (b : Bool) (h : SameHead b report tests paths (length R / 2) (length F / 2) t.rising t.falling) where
    by-head : whole ≡ (b && same_bytes (drop 34 report) (word_bytes R ++ word_bytes F))
    by-head = ap (same_bytes report) (report-parts ws sound.few tests paths R F er ef t q) ∙ h.decides (word_bytes R ++ word_bytes F)

    pub other-head : not b ≡ true → false ≡ whole
    other-head n = sym (by-head ∙ rw (not-true b n) refl)

    module _ (n : not b ≡ false) (u : Bool) (e : u ≡ same_bytes (take (8 * length R) (drop 34 report)) (word_bytes R)) where
      after-head : whole ≡ same_bytes (drop 34 report) (word_bytes R ++ word_bytes F)
      after-head = by-head ∙ rw (not-false b n) refl

      pub other-rising : not u ≡ true → false ≡ whole
      other-rising m =
          sym (after-head ∙ part_no report 34 (8 * length R) (word_bytes R) (word_bytes F) (length-words R) (omega arith) (sym e ∙ not-true u m))

      pub falling-decides : not u ≡ false
          → (v : Bool) → v ≡ same_bytes (take (8 * length F) (drop (34 + 8 * length R) report)) (word_bytes F) → v ≡ whole
      falling-decides m v f =
          let k : take (8 * length F) (drop (34 + 8 * length R) report) ≡ drop (34 + 8 * length R) report =
          take_all (8 * length F) (drop (34 + 8 * length R) report) (simp length-drop (omega arith)) in
          f
          ∙ ap (λ (z : List ℕ). same_bytes z (word_bytes F)) k
          ∙ sym (after-head ∙ part-yes report 34 (8 * length R) (word_bytes R) (word_bytes F) (length-words R) (omega arith) (sym e ∙ not-false u m))

pub ruleset report-cases = (other_length, other-head, other-rising, falling-decides, rules)

-- the fields with the numbers of runs lie within a report that is long enough
module _ (report : List ℕ) (b : Bool) (e : b ≡ (leb 34 (length report) && marked 0x52 0x50 report)) (n : not b ≡ false) where
  long : 34 ≤ length report
  long = leb→le 34 (length report) (and_left (leb 34 (length report)) (marked 0x52 0x50 report) (true→T _ (sym e ∙ not-false b n)))

  pub rising_inside : 15 < length report
  rising_inside = omega (arith, long)

  pub falling_inside : 17 < length report
  falling_inside = omega (arith, long)

-- The place Report, for a report and the bytes that the writer gives
module _ (report written : List ℕ) (b : Bool) (e : b ≡ (leb 34 (length report) && marked 0x52 0x50 report)) where
  pub other-mark : not b ≡ true → refused 70 ≡ checks (report_rules report written)
  other-mark n = rw (sym e ∙ not-true b n) refl

  module _ (n : not b ≡ false) where
    module _ (x y : ℕ) (p : x ≡ field 14 2 report) (q : y ≡ field 16 2 report) where
      pub other-runs : (length report ≡ 34 + 16 * (x + y) → ⊥) → refused 71 ≡ checks (report_rules report written)
      other-runs d =
          let f : eqb (length report) (34 + 16 * (field 14 2 report + field 16 2 report)) ≡ false =
          ne_eqb (length report) (34 + 16 * (field 14 2 report + field 16 2 report)) (λ z. d (z ∙ ap₂ (λ i j. 34 + 16 * (i + j)) (sym p) (sym q))) in
          rw (sym e ∙ not-false b n) (rw f refl)

      module _ (l : length report ≡ 34 + 16 * (x + y)) (u : Bool) (f : u ≡ same_bytes report written) where
        stated : eqb (length report) (34 + 16 * (field 14 2 report + field 16 2 report)) ≡ true
        stated = eq-eqb (length report) (34 + 16 * (field 14 2 report + field 16 2 report)) (l ∙ ap₂ (λ i j. 34 + 16 * (i + j)) p q)

        pub other-bytes : not u ≡ true → refused 72 ≡ checks (report_rules report written)
        other-bytes m = rw (sym e ∙ not-false b n) (rw stated (rw (sym f ∙ not-true u m) refl))

        pub equal-bytes : not u ≡ false → value tt ≡ checks (report_rules report written)
        equal-bytes m = rw (sym e ∙ not-false b n) (rw stated (rw (sym f ∙ not-false u m) refl))

pub ruleset compare-cases = (rising_inside, falling_inside, other-mark, other-runs, other-bytes, equal-bytes, rules)
