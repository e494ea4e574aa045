-- The cases of making a viewer's ranges: what is added so far, with the ranges of the places that are left, is the whole.
use Rattle.model.proofs.Prelude.{ℕ, ◌≤◌, ◌<◌, ◌+◌, ◌-◌, ◌*◌, suc, ◌^◌, ◌≡◌, ◌∙◌, ap, refl, sym, subst, ap₂, List, [], ◌∷◌, ◌++◌, length, get_or, drop}
use Rattle.model.proofs.Prelude.{drop_of_length-le, drop-cons, leb, T, ltb, ltb→lt, add-one, arith, rules}
use Rattle.model.specs.Base.{value, sum_of}
use Rattle.model.specs.Netlist.{Netlist, output_counts, path_total}
use Rattle.model.specs.Path.{counts_before}
use Rattle.model.specs.Runs.{Run, runs_among, run}
use Rattle.model.specs.Read.{read_netlist}
use Rattle.model.proofs.AnswerLaws.{value_inj}
use Rattle.model.proofs.BoolLaws.{and_right, and3}
use Rattle.model.proofs.ReadLaws.{legal, limits}
use Rattle.netlist.specs.declared.inner.Shape.{Shape}
use Rattle.netlist.proofs.TableLaws.{few-outputs, outputs-inside}
use Rattle.path_step.specs.Picks.{RecordsOfOutputs, output_counts_in}
use Rattle.path_step.proofs.OutputPicks.{counts-before}
use Rattle.path_step.proofs.WalkTableLaws.{outputs-before, output-counts}
use Rattle.run_lists.specs.RunLists.{add_run, add_runs, runs_in_words}
use Rattle.run_lists.specs.Answers.{Adds, Room}
use Rattle.run_union.proofs.Adding.{Adding, as_rest, answer-over, adding-start, adding-length, adding-done, part-full, part-more, adds-count}
use Rattle.viewer_places.specs.Viewer.{ascending_places, seen}
use Rattle.viewer_ranges.specs.Ranges.{most_places, range, ranges, Viewable}
use Rattle.viewer_ranges.proofs.ViewRangeLaws.{range-some, range_none, total-few, ranges-seen}
use Rattle.std.specs.Prelude.{Option, Some, None}

-- One range
module _ (part : List ℕ) (place inputs : ℕ) (cs : List ℕ) where
  pub records-fewer : RecordsOfOutputs part (place + 1) → RecordsOfOutputs part place
  records-fewer g = record { inside = omega (arith, g.inside); low = λ o h. g.low o (omega arith) }

  pub sum-fewer : sum_of (output_counts_in part (place + 1) inputs cs) ≤ 2 ^ 62 → sum_of (output_counts_in part place inputs cs) ≤ 2 ^ 62
  sum-fewer h = omega (arith, (counts-before part (place + 1) inputs cs place (omega arith)).1)

module _ (ws : List ℕ) (n : ℕ) (room : Room ws 0 n most_places) {b l : ℕ} {before last : ℕ} (eb : before ≡ b) (el : last ≡ l) where
  pub nothing-added : last ≤ before → Adds ws ws 0 most_places (add_runs (runs_in_words ws 0 n) (range b l)) (Some n)
  nothing-added h =
      subst (λ (s : List Run). Adds ws ws 0 most_places (add_runs (runs_in_words ws 0 n) s) (Some n)) (sym (range_none b l (omega arith)))
      (adding-done ws ws 0 most_places n (runs_in_words ws 0 n) (adding-start ws 0 most_places n [] room.fits))

  pub range-added : (ws' : List ℕ) (r : Option ℕ) → before < last → Adds ws ws' 0 most_places (add_run (runs_in_words ws 0 n) (run (before + 1) last)) r
      → Adds ws ws' 0 most_places (add_runs (runs_in_words ws 0 n) (range b l)) r
  range-added ws' r h d =
      subst (λ (s : List Run). Adds ws ws' 0 most_places (add_runs (runs_in_words ws 0 n) s) r)
      (ap₂ (λ (x y : ℕ). run (x + 1) y ∷ []) eb el ∙ sym (range-some b l (omega arith))) d

pub ruleset range-cases = (records-fewer, sum-fewer, nothing-added, range-added, rules)

-- All ranges
module _ {file cs : List ℕ} {shape : Shape} {places : List ℕ} (k : Viewable file cs shape places) where
  pub outputs-room : 4 * shape.outputs ≤ length file
  outputs-room = outputs-inside k.tables

  pub outputs-few : shape.outputs ≤ 64
  outputs-few = few-outputs k.tables

  ascends : T (ascending_places shape.outputs 0 places)
  ascends = and_right (leb 1 (length places)) (ascending_places shape.outputs 0 places) k.fits

  total-fits : length (add_runs [] (ranges k.circuit places)) ≤ most_places
  total-fits = omega (arith, total-few k.circuit shape.outputs places ascends, outputs-few)

  total-is : (M : Netlist) → read_netlist file ≡ value M → add_runs [] (ranges k.circuit places) ≡ runs_among (seen M places) (path_total M)
  total-is M e =
      ranges-seen k.circuit (legal file k.circuit k.tables.legal) places
      (subst (λ (n : ℕ). T (ascending_places n 0 places)) k.tables.outputs_are ascends)
      ∙ ap (λ (N : Netlist). runs_among (seen N places) (path_total N)) (value_inj (sym k.tables.legal ∙ e))

pub record Viewing (file cs : List ℕ) (shape : Shape) (places part ws₀ ws : List ℕ) (i n : ℕ) : Type 0 where
  pub known : Viewable file cs shape places
  pub part_is : part ≡ drop (length file - 4 * shape.outputs) file
  pub room : 2 * most_places ≤ length ws₀
  pub least : ℕ
  pub ascends : T (ascending_places shape.outputs least (drop i places))
  pub adding : Adding ws₀ ws 0 most_places n (ranges known.circuit (drop i places)) (add_runs [] (ranges known.circuit places))

module _ {file cs : List ℕ} {shape : Shape} {places part : List ℕ} where
  pub viewing_start : (ws : List ℕ) → (k : Viewable file cs shape places) → part ≡ drop (length file - 4 * shape.outputs) file → 2 * most_places ≤ length ws
      → Viewing file cs shape places part ws ws 0 0
  viewing_start ws k e room = record {
    known = k;
    part_is = e;
    room = room;
    least = 0;
    ascends = ascends k;
    adding = adding-start ws 0 most_places 0 (ranges k.circuit places) (omega arith);
  }

  module _ {ws₀ ws : List ℕ} {i n : ℕ} (v : Viewing file cs shape places part ws₀ ws i n) where
    abbrev N : Netlist
    N = v.known.circuit

    abbrev total : List Run
    total = add_runs [] (ranges N places)

    pub viewing_length : length ws ≡ length ws₀
    viewing_length = adding-length ws₀ ws 0 most_places n total (ranges N (drop i places)) v.adding

    -- what a call leaves is as long
    pub still_long : (ws' : List ℕ) → length ws' ≡ length ws → length ws' ≡ length ws₀
    still_long ws' e = e ∙ viewing_length

    pub viewing_room : Room ws 0 n most_places
    viewing_room = record { fits = v.adding.fits; inside = omega (arith, viewing_length, v.room) }

    module _ (h : length places ≤ i) where
      ended : (n ≡ length total) × (runs_in_words ws 0 n ≡ total)
      ended =
          let none : ranges N (drop i places) ≡ [] = ap (ranges N) (drop_of_length-le places {i = i} h) in
          let d = adding-done ws₀ ws 0 most_places n total (as_rest none v.adding) in
          let e = adds-count ws₀ ws 0 most_places n total (Some n) v.room refl d in
          (e.1, e.2)

      pub viewing_end : (M : Netlist) → read_netlist file ≡ value M → runs_in_words ws 0 n ≡ runs_among (seen M places) (path_total M)
      viewing_end M e = ended.1 ∙ total-is v.known M e

      pub viewing_few : n ≤ most_places
      viewing_few = v.adding.fits

    module _ (h : i < length places) {place : ℕ} (is : place ≡ get_or places i 0) where
      next : drop i places ≡ place ∷ drop (suc i) places
      next = drop-cons places i 0 h ∙ ap (λ (x : ℕ). x ∷ drop (suc i) places) (sym is)

      here : T (leb v.least place) × T (ltb place shape.outputs) × T (ascending_places shape.outputs (suc place) (drop (suc i) places))
      here =
          and3 (leb v.least place) (ltb place shape.outputs) (ascending_places shape.outputs (suc place) (drop (suc i) places))
          (subst (λ (x : List ℕ). T (ascending_places shape.outputs v.least x)) next v.ascends)

      there : place < shape.outputs
      there = ltb→lt place shape.outputs here.1

      pub place-records : RecordsOfOutputs part (place + 1)
      place-records = outputs-before v.known.tables v.part_is (place + 1) (omega (arith, there))

      abbrev sum_to : ℕ → ℕ
      sum_to o = sum_of (output_counts_in part o shape.inputs cs)

      sum_is : (o : ℕ) → o ≤ shape.outputs → (sum_to o ≡ counts_before o (output_counts N)) × (sum_to o ≤ path_total N)
      unfolding path_total
      sum_is o l =
          let c = counts-before part shape.outputs shape.inputs cs o l in
          let all = output-counts v.known.tables v.part_is in
          (c.0 ∙ ap (counts_before o) all, omega (arith, c.1, ap sum_of all))

      pub place-small : sum_to (place + 1) ≤ 2 ^ 62
      place-small = omega (arith, (sum_is (place + 1) (omega (arith, there))).1, (limits file N v.known.tables.legal).total_fits)

      module _ {ws' : List ℕ} {q : (Option ℕ)} (d : Adds ws ws' 0 most_places (add_runs (runs_in_words ws 0 n) (range (sum_to place) (sum_to (place + 1)))) q) where
        abbrev piece : List Run
        piece = range (sum_to place) (sum_to (place + 1))

        abbrev after : List Run
        after = ranges N (drop (suc i) places)

        split : ranges N (drop i places) ≡ piece ++ after
        split =
            let e : counts_before (place + 1) (output_counts N) ≡ counts_before (suc place) (output_counts N) =
            ap (λ (o : ℕ). counts_before o (output_counts N)) (add-one place) in
            ap (ranges N) next
            ∙ ap₂ (λ (b l : ℕ). range b l ++ after) (sym (sum_is place (omega (arith, there))).0) (sym ((sum_is (place + 1) (omega (arith, there))).0 ∙ e))

        now : Adding ws₀ ws 0 most_places n (piece ++ after) total
        now = as_rest split v.adding

        never : q ≡ None → ⊥
        never e =
            let f = part-full ws₀ ws 0 most_places n total ws' piece after now q e d in
            omega (arith, answer-over most_places total f.answers, total-fits v.known)

        pub full_runs : (c : ℕ) → q ≡ None → (M : Netlist) → read_netlist file ≡ value M → runs_in_words ws' 0 c ≡ runs_among (seen M places) (path_total M)
        full_runs c e M r = absurd (never e)

        pub full-few : (c : ℕ) → q ≡ None → c ≤ most_places
        full-few c e = absurd (never e)

        pub viewing_next : {c : ℕ} → q ≡ Some c → Viewing file cs shape places part ws₀ ws' (i + 1) c
        viewing_next {c} e = record {
          known = v.known;
          part_is = v.part_is;
          room = v.room;
          least = suc place;
          ascends = rw (add-one i) here.2;
          adding = rw (add-one i) (part-more ws₀ ws 0 most_places n total ws' piece after now q c e v.room d);
        }

pub ruleset view-cases = (
  outputs-room,
  outputs-few,
  viewing_start,
  viewing_length,
  still_long,
  viewing_room,
  viewing_end,
  viewing_few,
  place-records,
  place-small,
  full_runs,
  full-few,
  viewing_next,
  rules,
)
