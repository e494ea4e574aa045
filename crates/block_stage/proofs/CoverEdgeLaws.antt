-- One edge of one record: what each step is handed, and what was made of the held runs. Where every detected number is held they stay as they are.
use Rattle.model.proofs.Prelude.{ℕ, ◌≤◌, ◌*◌, ◌^◌, ◌/◌, ◌≡◌, ◌∙◌, ap, refl, sym, subst, ⊎_elim, true, Bool, false, ◌||◌, cond, List, length, drop}
use Rattle.model.proofs.Prelude.{leb, arith, le-leb, leb-true}
use Rattle.model.specs.Store.{max_runs}
use Rattle.model.specs.Netlist.{path_total}
use Rattle.model.specs.Runs.{Run, runs_among, in_runs}
use Rattle.model.proofs.BoolLaws.{true→T}
use Rattle.model.proofs.ReadLaws.{legal, limits}
use Rattle.model.proofs.RunLaws.{runs-test, runs_same, runs-of_runs}
use Rattle.run_lists.specs.RunLists.{Sound}
use Rattle.run_lists.specs.Answers.{Adds}
use Rattle.run_lists.proofs.MemberLaws.{sound-mono}
use Rattle.run_lists.proofs.RunWordLaws.{length_runs}
use Rattle.store_writing.specs.Writing.{changed, Within}
use Rattle.store_writing.specs.declared.inner.Change.{Change}
use Rattle.store_writing.specs.declared.inner.Change.TheVariants.{Kept}
use Rattle.detection.specs.Cases.{Case, detects_path, detected, working}
use Rattle.detection.specs.Walks.{Detects}
use Rattle.store_coverage.specs.Covers.{then_runs_of, held_runs, JoinReady, Covers}
use Rattle.store_coverage.specs.declared.inner.edges.Over.{Over}
use Rattle.store_coverage.specs.declared.inner.edges.Over.TheVariants as over
use Rattle.store_coverage.proofs.CoverLaws.{runs-drop, rules-fit, found-few, found-sound, join_over}
use Rattle.block_intervals.specs.Spans.{Ascending, InputSpans, ListedAt, SomeListedAt}
use Rattle.block_intervals.specs.LiveOutputs.{runs_of_outputs, OutputsReady, SpansListed}
use Rattle.block_intervals.specs.Sections.{OutputsHeld}
use Rattle.block_intervals.proofs.ListedLaws.{listed-none, spans-over, spans-detect}
use Rattle.block_intervals.proofs.HeldLaws.{AllIn, all_none, outputs-numbers}
use Rattle.block_stage.specs.Covering.{EdgeReady, SomeEdgeReady}
use Rattle.block_stage.specs.declared.covering.EdgeMarks.{EdgeMarks}
use Rattle.block_intervals.specs.Layout.{rising_sections, falling_sections}
use Rattle.std.specs.Prelude.{Option, Some, None, Result, Ok, Err}

-- ---- nothing new

or_held : (a b : Bool) → (a ≡ true → b ≡ true) → (a || b) ≡ b
or_held true b f = sym (f refl)
or_held false b f = refl

-- every detected number is held
then_same : (K : Case) (s : List Run) → Sound (path_total K.netlist) s → AllIn (λ x. in_runs s x ≡ true) (detected K) → then_runs_of K s ≡ s
unfolding then_runs_of detected
then_same K s so a =
    let P = detects_path K in
    let n = path_total K.netlist in
    runs_same (λ k. P k || in_runs s k) (in_runs s) n
    (λ j h l. or_held (P j) (in_runs s j) (λ e. a.each j (true→T (in_runs (runs_among P n) j) (runs-test P n j h l ∙ e))))
    ∙ runs-of_runs n s so

module _ {table offsets entries : List ℕ} {marks : EdgeMarks} {held spans ws : List ℕ} where
  module _ {K : Case} (h : EdgeReady K table offsets entries marks held spans ws) where
    paths : path_total K.netlist ≤ 2 ^ 62
    paths = (limits h.listed.circuit.file K.netlist h.listed.circuit.legal).total_fits

    kept-covers : {ws₁ : List ℕ} → working K ≤ max_runs → AllIn (λ x. in_runs (held_runs held) x ≡ true) (detected K) → ((k : ℕ) → 4 * max_runs ≤ k → drop k ws₁ ≡ drop k ws)
        → Covers K (held_runs held) ws ws₁ marks.target (Ok Kept)
    kept-covers {ws₁} fit a same =
        let e = then_same K (held_runs held) h.sound_held a in
        let l : length (then_runs_of K (held_runs held)) ≡ length held / 2 = ap (length {A = Run}) e ∙ length_runs held 0 (length held / 2) in
        record {
          answers = rules-fit (le-leb (working K) max_runs fit) (le-leb (length (then_runs_of K (held_runs held))) max_runs (omega (arith, l, h.few_held)));
          runs_are = λ d p. (let i : Kept ≡ d = cc in subst (λ (x : Change). changed x ws₁ marks.target (held_runs held) ≡ then_runs_of K (held_runs held)) i (sym e));
          within = λ g p. (let i : Kept ≡ g = cc in subst (λ (x : Change). Within x (length (held_runs held))) i tt);
          kept = λ k m. same k (omega (arith, h.high));
          between = λ f k m o. runs-drop k (4 * max_runs) f ws₁ ws (same (4 * max_runs) (omega arith)) (omega arith);
        }

    -- no input makes the edge
    pub edge_none : marks.edges ≡ 0 → Covers K (held_runs held) ws ws marks.target (Ok Kept)
    edge_none z =
        let d = listed-none h.listed z in
        kept-covers (none-working d) (subst (λ (s : List Run). AllIn (λ x. in_runs (held_runs held) x ≡ true) s) (d.runs_are 0 refl) all_none) (λ k l. refl)
      where
        count-cases : (b : Bool) (n : ℕ) → ◌≡◌ {A = (Option ℕ)} (Some 0) (cond b (Some n) None) → b ≡ true
        count-cases true n e = refl
        count-cases false n e = let w : ◌≡◌ {A = ℕ} 0 1 = cc in absurd (omega arith)

        none-working : Detects K ws ws (Some 0) → working K ≤ max_runs
        none-working d = leb-true (working K) max_runs (count-cases (leb (working K) max_runs) (length (detected K)) d.answers)

    -- what joining is handed
    joins : {ws₁ : List ℕ} {q : (Option ℕ)} → Detects K ws ws₁ q → length ws₁ ≡ length ws → JoinReady q held ws₁ marks.target
    joins d l = record {
      few_found = λ n c. found-few d c (legal h.listed.circuit.file K.netlist h.listed.circuit.legal);
      sound_found = λ n c. found-sound d c paths;
      few_held = h.few_held;
      sound_held = sound-mono 1 (path_total K.netlist) (2 ^ 62) (held_runs held) paths h.sound_held;
      high = h.high;
      room = omega (arith, l, h.room);
    }

    -- after the runs of the listed nets
    module _ {ws₁ spans₁ : List ℕ} {q : (Option ℕ)}
        (made : (K : Case) (outs : ℕ) → ListedAt K table offsets entries marks.edges outs marks.inputs spans ws → SpansListed K offsets outs spans₁ ws ws₁ q) where
      here : SpansListed K offsets marks.outs spans₁ ws ws₁ q
      here = made K marks.outs h.listed

      pub edge-over : q ≡ None → Covers K (held_runs held) ws ws₁ marks.target (Err over.Work)
      edge-over t = let d = spans-over h.listed here t in join_over (joins d here.kept.same) refl K ws d h.sound_held

      module _ {n : ℕ} (t : q ≡ Some n) where
        pub edge-outputs : OutputsReady offsets marks.outs spans₁ ws₁
        edge-outputs = here.ready n t

        pub edge-held : {b : Bool} → b ≡ true → (b ≡ true → OutputsHeld offsets marks.outs spans₁ ws₁ held) → Covers K (held_runs held) ws ws₁ marks.target (Ok Kept)
        edge-held e f =
            kept-covers (here.fits n t)
            (subst (λ (s : List Run). AllIn (λ x. in_runs (held_runs held) x ≡ true) s) (here.detects n t)
            (outputs-numbers (path_total K.netlist) h.sound_held (here.ready n t) (f e)))
            (λ k l. here.kept.above k (omega arith))

        module _ {ws₂ : List ℕ} {r : (Option ℕ)} (x : Adds ws₁ ws₂ max_runs max_runs (runs_of_outputs offsets marks.outs spans₁ ws₁) r) where
          detects : Detects K ws ws₂ r
          detects = spans-detect h.listed here t x

          pub edge-joins : length ws₂ ≡ length ws → JoinReady r held ws₂ marks.target
          edge-joins = joins detects

          pub edge-joined : {ws₃ : List ℕ} {a : Result Change Over}
              → ((K : Case) (w : List ℕ) → Detects K w ws₂ r → Sound (path_total K.netlist) (held_runs held) → Covers K (held_runs held) w ws₃ marks.target a)
              → Covers K (held_runs held) ws ws₃ marks.target a
          edge-joined joined = joined K ws detects h.sound_held

  -- of some case
  module _ (s : SomeEdgeReady table offsets entries marks held spans ws) where
    pub some-spans : SomeListedAt table offsets entries marks.edges marks.inputs spans ws
    some-spans = record { case = s.case; outs = marks.outs; at-list = s.ready.listed }

    pub some-base : marks.base ≤ falling_sections
    some-base = ⊎_elim (λ (e : marks.base ≡ rising_sections). omega arith) (λ (e : marks.base ≡ falling_sections). omega arith) s.ready.sections

    pub some-ascending : {spans₁ : List ℕ} → InputSpans spans₁ marks.inputs → Ascending spans₁ marks.base
    some-ascending {spans₁} i =
        ⊎_elim
        (λ (e : marks.base ≡ rising_sections). subst (λ b. Ascending spans₁ b) (sym e) i.rising)
        (λ (e : marks.base ≡ falling_sections). subst (λ b. Ascending spans₁ b) (sym e) i.falling)
        s.ready.sections
