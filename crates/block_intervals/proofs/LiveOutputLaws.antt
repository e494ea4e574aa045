-- The runs that the live outputs add are those of the detected path numbers: an output that is not live adds none.
use Rattle.model.proofs.Prelude.{ℕ, ◌≤◌, ◌<◌, ◌+◌, ◌-◌, ◌*◌, suc, zero, ◌≡◌, ◌∙◌, ap, refl, sym, ap₂, subst⁻¹, true, Bool, false, ◌&&◌, List, []}
use Rattle.model.proofs.Prelude.{length, get_or, take_all, leb, ltb, arith, lt-ltb, le-ltb, leb-true, ltb-true}
use Rattle.model.specs.Base.{bit, sum_of}
use Rattle.model.specs.Netlist.{Netlist, nets, counts, path_total, output_counts, output_net}
use Rattle.model.specs.Path.{counts_before}
use Rattle.model.specs.Runs.{Run, runs_among, runs_from, Separated}
use Rattle.model.specs.Store.{max_runs}
use Rattle.model.proofs.BoolLaws.{cases, and_parts}
use Rattle.model.proofs.NumberLaws.{output-net, length-output_counts, output_counts-at, counts_before-le, counts_before-suc}
use Rattle.model.proofs.ReadLaws.{Limits}
use Rattle.model.proofs.WellFormed.{WellFormed}
use Rattle.run_lists.specs.RunLists.{only_if, add_runs, shift_runs, runs_in_words}
use Rattle.run_union.proofs.AddRunLaws.{add_runs-append}
use Rattle.detection.specs.Cases.{Case, detects_path, set_runs_of, detected}
use Rattle.detection.proofs.DetectedLaws.{out-part}
use Rattle.block_words.specs.Block.{live_net}
use Rattle.block_words.proofs.LiveLaws.{dead_runs, live-runs}
use Rattle.block_activity.specs.Marks.{OffsetTable, ListedEdge}
use Rattle.block_intervals.specs.Spans.{first_of, end_of, shift_of, standing, SpanIs}
use Rattle.block_intervals.specs.PinSpans.{bit_runs}
use Rattle.block_intervals.specs.LiveOutputs.{runs_of_output, runs_of_outputs, OutputReady, EndsBefore, OutputsReady}
use Rattle.block_intervals.proofs.BitRunLaws.{shift-shift}
use Rattle.block_intervals.proofs.LiveRunLaws.{shift-most, set-counted}
use Rattle.block_activity.specs.Layout.{out_at}

-- a part that the second test takes away is empty
same-part : (a b : Bool) (xs ys : List Run) → (a ≡ true → b ≡ true → xs ≡ ys) → (b ≡ false → ys ≡ []) → only_if (a && b) xs ≡ only_if a ys
same-part true true xs ys f g = f refl refl
same-part true false xs ys f g = sym (g refl)
same-part false b xs ys f g = refl

-- no run of some that are shifted ends over the highest number
shifted_most : (k n b : ℕ) (ws : List ℕ) (m i : ℕ) → Separated n b (shift_runs k (runs_in_words ws i m)) → (j : ℕ) → i ≤ j → j < i + m → get_or ws (2 * j + 1) 0 + k ≤ n
shifted_most k n b ws zero i u j h l = absurd (omega arith)
shifted_most k n b ws (suc m) i u j h l = cases (i + 1) j
    (λ d. shifted_most k n (get_or ws (2 * i + 1) 0 + k + 2) ws m (i + 1) u.3 j d (omega arith))
    (λ d. let e : j ≡ i = omega arith in omega (arith, u.2, ap (λ p. get_or ws (2 * p + 1) 0) e))

module _ (K : Case) where
  abbrev N : Netlist
  N = K.netlist

  abbrev live : ℕ → Bool
  live net = live_net K net

  abbrev D : ℕ → Bool
  D k = detects_path K k

  abbrev before : ℕ → ℕ
  before o = counts_before o (output_counts K.netlist)

  all-before : (n : ℕ) → length (output_counts N) ≤ n → before n ≡ sum_of (output_counts N)
  all-before n h = ap sum_of (take_all n (output_counts N) h)

  -- the runs of a live net are not shifted past its count
  shift-counted : {spans ws : List ℕ} {made net : ℕ} → live net ≡ true → SpanIs K spans ws made net → shift_of spans net ≤ get_or (counts N) net 0
  shift-counted {spans} {ws} {net = net} l at =
      shift-most (shift_of spans net) (get_or (counts N) net 0) 1 (standing spans ws net)
      (subst⁻¹ (λ (s : List Run). Separated (get_or (counts N) net 0) 1 s) at.runs (set-counted K net))
      (λ e. live-runs K net l (sym at.runs ∙ ap (shift_runs (shift_of spans net)) e))

  module _ (w : WellFormed K.netlist) (lim : Limits K.netlist) {offsets spans ws entries : List ℕ} {edges outs : ℕ} (placed : OffsetTable K.netlist offsets)
      (listed : ListedEdge K entries edges outs)
      (spanned : (net : ℕ) → net < nets K.netlist → live_net K net ≡ true → SpanIs K spans ws max_runs net) where
    -- what an output adds, by the model
    output-part : (o : ℕ) → o < length N.outputs → live (output_net N o) ≡ true → runs_of_output offsets spans ws o ≡ shift_runs (before o) (set_runs_of K (output_net N o))
    output-part o h l =
        let net = output_net N o in
        ap₂ (λ n k. shift_runs (shift_of spans n + k) (standing spans ws n)) (placed.out_net o h) (placed.out_offset o h)
        ∙ sym (shift-shift (before o) (shift_of spans net) (standing spans ws net)) ∙ ap (shift_runs (before o)) (spanned net (output-net N w o h) l).runs

    bit_is : (o : ℕ) → o < length N.outputs → bit outs o ≡ (leb N.inputs (output_net N o) && live (output_net N o))
    bit_is o h =
        listed.outs_are o (omega (arith, h, lim.few_outputs))
        ∙ ap (λ b. b && (leb N.inputs (output_net N o) && live (output_net N o))) (lt-ltb o (length N.outputs) h)

    part-is : (o : ℕ) → o < length N.outputs
        → only_if (bit outs o) (runs_of_output offsets spans ws o) ≡ only_if (leb N.inputs (output_net N o)) (shift_runs (before o) (set_runs_of K (output_net N o)))
    part-is o h =
        let net = output_net N o in
        ap (λ b. only_if b (runs_of_output offsets spans ws o)) (bit_is o h)
        ∙ same-part (leb N.inputs net) (live net) (runs_of_output offsets spans ws o) (shift_runs (before o) (set_runs_of K net)) (λ a l. output-part o h l)
        (λ d. ap (shift_runs (before o)) (dead_runs K net d))

    no_output : (o : ℕ) → length N.outputs ≤ o → o < 64 → bit outs o ≡ false
    no_output o h l =
        listed.outs_are o l ∙ ap (λ b. b && (leb N.inputs (output_net N o) && live (output_net N o))) (le-ltb o (length N.outputs) h)

    -- all of them
    many : length (output_counts N) ≡ length N.outputs
    many = length-output_counts N w

    total : sum_of (output_counts N) ≡ path_total N
    unfolding path_total
    total = refl

    outputs-so_far : (n : ℕ) → n ≤ 64 → add_runs [] (bit_runs (runs_of_output offsets spans ws) outs n) ≡ runs_among D (before n)
    unfolding bit_runs runs_among runs_from
    outputs-so_far zero h = refl
    outputs-so_far (suc n) h =
        let f = runs_of_output offsets spans ws in
        add_runs-append [] (bit_runs f outs n) (only_if (bit outs n) (f n))
        ∙ ap (λ (s : List Run). add_runs s (only_if (bit outs n) (f n))) (outputs-so_far n (omega arith))
        ∙ cases (suc n) (length (output_counts N))
        (λ l. ap (add_runs (runs_among D (before n))) (part-is n (omega (arith, many))) ∙ out-part K w n l)
        (λ l.
        ap (λ b. add_runs (runs_among D (before n)) (only_if b (f n))) (no_output n (omega (arith, many)) h)
        ∙ ap (runs_among D) (all-before n (omega arith) ∙ sym (all-before (suc n) (omega arith))))

    pub outputs-detect : runs_of_outputs offsets outs spans ws ≡ detected K
    unfolding detected path_total
    outputs-detect = outputs-so_far 64 (omega arith) ∙ ap (runs_among D) (all-before 64 (omega (arith, many, lim.few_outputs)))

    -- what the loop asks
    is_live : (o : ℕ) → o < 64 → bit outs o ≡ true → (o < length N.outputs) × (N.inputs ≤ output_net N o) × (live (output_net N o) ≡ true)
    is_live o l t =
        let net = output_net N o in
        let first = and_parts (ltb o (length N.outputs)) (leb N.inputs net && live net) (sym (listed.outs_are o l) ∙ t) in
        let second = and_parts (leb N.inputs net) (live net) first.1 in
        (ltb-true o (length N.outputs) first.0, leb-true N.inputs net second.0, second.1)

    output-at : (o : ℕ) → o < 64 → bit outs o ≡ true → OutputReady offsets spans ws o
    output-at o l t =
        let net = output_net N o in
        let there = is_live o l t in
        let h = there.0 in
        let e : out_at offsets o ≡ net = placed.out_net o h in
        let at = subst⁻¹ (λ n. SpanIs K spans ws max_runs n) e (spanned net (output-net N w o h) there.2) in
        let below = shift-counted (ap live e ∙ there.2) at in
        let sum = counts_before-le (output_counts N) o (omega (arith, many)) in
        let gate = output_counts-at N w o h there.1 in
        record {
          is_net = omega (arith, e, output-net N w o h, lim.few_nets);
          ordered = at.ordered;
          before = at.before;
          small = omega (arith, placed.out_offset o h, below, ap (λ n. get_or (counts N) n 0) e, gate, sum, total, lim.total_fits);
          sound = at.sound;
        }

    before-mono : (o p : ℕ) → o ≤ p → p ≤ length (output_counts N) → before o ≤ before p
    before-mono o zero h l = let e : o ≡ 0 = omega arith in omega (arith, ap before e)
    before-mono o (suc p) h l = cases o p
        (λ k. omega (arith, before-mono o p k (omega arith), counts_before-suc (output_counts N) p l))
        (λ k. let e : o ≡ suc p = omega arith in omega (arith, ap before e))

    ends-before : (o p q : ℕ) → o < p → p ≤ q → q < 64 → bit outs o ≡ true → bit outs q ≡ true → EndsBefore offsets spans ws o p
    ends-before o p q l m few t u =
        let h = is_live o (omega arith) t in
        let k = is_live q few u in
        let net = output_net N o in
        let e : out_at offsets o ≡ net = placed.out_net o h.0 in
        let at = subst⁻¹ (λ n. SpanIs K spans ws max_runs n) e (spanned net (output-net N w o h.0) h.2) in
        let counted = subst⁻¹ (λ (s : List Run). Separated (get_or (counts N) (out_at offsets o) 0) 1 s) at.runs (set-counted K (out_at offsets o)) in
        record {
          each = λ i a b.
              let most = shifted_most (shift_of spans (out_at offsets o)) (get_or (counts N) (out_at offsets o) 0) 1 ws
              (end_of spans (out_at offsets o) - first_of spans (out_at offsets o)) (first_of spans (out_at offsets o)) counted i a (omega (arith, at.ordered)) in
              let gate = output_counts-at N w o h.0 h.1 in
              let more = counts_before-suc (output_counts N) o (omega (arith, h.0, many)) in
              let mono = before-mono (suc o) p (omega arith) (omega (arith, k.0, many)) in
              omega (arith, most, ap (λ n. get_or (counts N) n 0) e, gate, more, mono, placed.out_offset o h.0, placed.out_offset p (omega (arith, k.0)));
        }

    pub outputs-ready : 4 * max_runs ≤ length ws → OutputsReady offsets outs spans ws
    outputs-ready room = record { room = room; each = output-at; in_order = ends-before }
