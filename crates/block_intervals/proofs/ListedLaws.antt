-- One record and edge: the runs of the listed nets, Full exactly where the working runs are over 1,024; and those of the detected path numbers after them.
use Rattle.model.proofs.Prelude.{ℕ, ◌≤◌, ◌<◌, ◌+◌, suc, zero, ◌≡◌, ◌∙◌, ap, refl, sym, true, Bool, false, not, cond, List, [], ◌∷◌, length, set}
use Rattle.model.proofs.Prelude.{length-set, get_or-set_same, get_or-set_other, drop-set-lt, leb, arith, rules, le-leb, lt-leb, leb-true, leb-false}
use Rattle.model.specs.Base.{bit}
use Rattle.model.specs.Runs.{Run, run}
use Rattle.model.specs.Store.{max_runs}
use Rattle.model.proofs.ReadLaws.{legal, Limits, limits}
use Rattle.model.proofs.WellFormed.{WellFormed}
use Rattle.run_lists.specs.RunLists.{only_if, run_at}
use Rattle.run_lists.specs.Answers.{Adds}
use Rattle.run_lists.proofs.MemberLaws.{run-path}
use Rattle.run_union.proofs.Adding.{answer-fits, adds-count}
use Rattle.detection.specs.Cases.{Case, set_runs_of, detected, working}
use Rattle.detection.specs.Walks.{input_runs_of, runs_before, Kept, Detects}
use Rattle.detection.proofs.AddedLaws.{as_adds, adds-kept, full-count}
use Rattle.detection.proofs.KeptLaws.{kept_then}
use Rattle.detection.proofs.DetectedLaws.{unmade_edge, input-set, few-detected}
use Rattle.block_intervals.specs.Spans.{InputSpans, ListedAt, SomeListedAt, SpansMade}
use Rattle.block_intervals.specs.PinSpans.{NetsListed, SomeNetsListed}
use Rattle.block_intervals.specs.LiveOutputs.{runs_of_outputs, SpansListed}
use Rattle.block_intervals.proofs.LiveOutputLaws.{outputs-detect, outputs-ready}
use Rattle.std.specs.Prelude.{Option, Some, None}

over-true : {b : Bool} {n : ℕ} → b ≡ true → b ≡ not (leb n max_runs) → max_runs < n
over-true {b} {n} t e = go (leb n max_runs) refl (sym t ∙ e)
  where
    go : (x : Bool) → leb n max_runs ≡ x → true ≡ not x → max_runs < n
    go true q d = absurd (mathlib.Core.Bool.true≢false d)
    go false q d = leb-false n max_runs q

over_false : {b : Bool} {n : ℕ} → b ≡ false → b ≡ not (leb n max_runs) → n ≤ max_runs
over_false {b} {n} t e = go (leb n max_runs) refl (sym t ∙ e)
  where
    go : (x : Bool) → leb n max_runs ≡ x → false ≡ not x → n ≤ max_runs
    go true q d = leb-true n max_runs q
    go false q d = absurd (mathlib.Core.Bool.false≢true d)

-- the words with the run 1 to 1 at run place 0
begun_kept : (ws : List ℕ) → Kept ws (set (set ws 0 1) 1 1)
begun_kept ws = record {
  same = length-set (set ws 0 1) 1 1 ∙ length-set ws 0 1;
  above = λ k l. drop-set-lt k (set ws 0 1) 1 1 (omega arith) ∙ drop-set-lt k ws 0 1 (omega arith);
}

pub begun-length : (ws : List ℕ) → length (set (set ws 0 1) 1 1) ≡ length ws
begun-length ws = (begun_kept ws).same

pub begun-same : (ws ws' : List ℕ) → length ws' ≡ length (set (set ws 0 1) 1 1) → length ws' ≡ length ws
begun-same ws ws' e = e ∙ begun-length ws

begun-run : (ws : List ℕ) → 2 ≤ length ws → run_at (set (set ws 0 1) 1 1) 0 ≡ run 1 1
begun-run ws h =
    run-path {r = run_at (set (set ws 0 1) 1 1) 0} {s = run 1 1}
    (get_or-set_other (set ws 0 1) 1 0 1 0 (λ e. omega arith) ∙ get_or-set_same ws 0 1 0 (omega arith))
    (get_or-set_same (set ws 0 1) 1 1 0 (omega (arith, length-set ws 0 1)))

module _ {table offsets entries : List ℕ} {edges inputs : ℕ} {spans ws : List ℕ} where
  module _ {K : Case} {outs : ℕ} (a : ListedAt K table offsets entries edges outs inputs spans ws) where
    well : WellFormed K.netlist
    well = legal a.circuit.file K.netlist a.circuit.legal

    lim : Limits K.netlist
    lim = limits a.circuit.file K.netlist a.circuit.legal

    pub listed-inputs : inputs ≤ 64
    listed-inputs = omega (arith, a.circuit.inputs_are, lim.few_inputs)

    pub listed-none : edges ≡ 0 → Detects K ws ws (Some 0)
    listed-none z = unmade_edge K well z a.listed.makes_edge ws

    begun-listed : NetsListed K inputs table offsets entries spans (set (set ws 0 1) 1 1)
    begun-listed = record {
      edges = edges;
      outs = outs;
      at-list = record {
        circuit = a.circuit;
        placed = a.placed;
        listed = a.listed;
        input_spans = a.input_spans;
        room = omega (arith, a.room, (begun_kept ws).same);
      };
      first_run_of = begun-run ws (omega (arith, a.room));
    }

    -- the runs of the inputs, by their bits
    inputs-before : (n : ℕ) → n ≤ inputs → runs_before (input_runs_of edges) n ≡ runs_before (set_runs_of K) n
    unfolding input_runs_of
    inputs-before zero h = refl
    inputs-before (suc n) h =
        let i : n < K.netlist.inputs = omega (arith, a.circuit.inputs_are) in
        let e : only_if (bit edges n) (run 1 1 ∷ []) ≡ set_runs_of K n = ap (λ b. only_if b (run 1 1 ∷ [])) (a.listed.makes_edge n i) ∙ input-set K well n i in
        omega (arith, inputs-before n (omega arith), ap (length {A = Run}) e)

  pub listed-nets : SomeListedAt table offsets entries edges inputs spans ws → SomeNetsListed table offsets entries spans (set (set ws 0 1) 1 1)
  listed-nets k = record { case = k.case; inputs = inputs; at-nets = begun-listed k.at-list }

  -- after the nets
  module _ {ws₁ spans₁ : List ℕ} {q : (Option ℕ)}
      (made : (K : Case) (inputs : ℕ) → NetsListed K inputs table offsets entries spans (set (set ws 0 1) 1 1) → SpansMade K inputs (set (set ws 0 1) 1 1) ws₁ spans₁ q) where
    pub listed-spans : SomeListedAt table offsets entries edges inputs spans ws → InputSpans spans₁ inputs
    listed-spans k = (made k.case inputs (begun-listed k.at-list)).input_spans

    module _ {K : Case} {outs : ℕ} (a : ListedAt K table offsets entries edges outs inputs spans ws) where
      m : SpansMade K inputs (set (set ws 0 1) 1 1) ws₁ spans₁ q
      m = made K inputs (begun-listed a)

      kept : Kept ws ws₁
      kept = kept_then (begun_kept ws) m.kept

      over : max_runs < working K → SpansListed K offsets outs spans₁ ws ws₁ None
      over l = record {
        kept = kept;
        over = λ e. l;
        fits = λ n p. absurd (full-count p);
        ready = λ n p. absurd (full-count p);
        detects = λ n p. absurd (full-count p);
      }

      pub listed-full : q ≡ None → SpansListed K offsets outs spans₁ ws ws₁ None
      listed-full t = over (m.full t)

      module _ {n : ℕ} (t : q ≡ Some n) {b : Bool} (e : b ≡ not (leb (runs_before (input_runs_of edges) inputs + n) max_runs)) where
        working-is : runs_before (input_runs_of edges) inputs + n ≡ working K
        working-is = ap (λ k. k + n) (inputs-before a inputs (omega arith)) ∙ m.total n t

        pub listed-over : b ≡ true → SpansListed K offsets outs spans₁ ws ws₁ None
        listed-over o = over (omega (arith, over-true {n = runs_before (input_runs_of edges) inputs + n} o e, working-is))

        pub listed-fits : b ≡ false → SpansListed K offsets outs spans₁ ws ws₁ (Some n)
        listed-fits f = record {
          kept = kept;
          over = λ p. absurd (full-count (sym p));
          fits = λ k p. omega (arith, over_false {n = runs_before (input_runs_of edges) inputs + n} f e, working-is);
          ready = λ k p. outputs-ready K (well a) (lim a) a.placed a.listed (m.spans n t) (omega (arith, a.room, kept.same));
          detects = λ k p. outputs-detect K (well a) (lim a) a.placed a.listed (m.spans n t);
        }

  -- what was made of the list, as the detected runs
  module _ {K : Case} {outs : ℕ} (a : ListedAt K table offsets entries edges outs inputs spans ws) {ws₁ spans₁ : List ℕ} {q : (Option ℕ)}
      (s : SpansListed K offsets outs spans₁ ws ws₁ q) where
    pub spans-over : q ≡ None → Detects K ws ws₁ None
    spans-over t = record {
      answers = ap (λ x. cond x (Some (length (detected K))) None) (sym (lt-leb (working K) max_runs (s.over t)));
      runs_are = λ n p. absurd (full-count p);
      kept = λ k h. s.kept.above k (omega arith);
    }

    pub spans-detect : {n : ℕ} → q ≡ Some n → {ws₂ : List ℕ} {r : (Option ℕ)} → Adds ws₁ ws₂ max_runs max_runs (runs_of_outputs offsets outs spans₁ ws₁) r → Detects K ws ws₂ r
    spans-detect {n} t {ws₂} {r} x =
        let y : Adds ws₁ ws₂ max_runs max_runs (detected K) r = as_adds (s.detects n t) refl x in
        let fit : working K ≤ max_runs = s.fits n t in
        record {
          answers =
              y.answers ∙ answer-fits max_runs (detected K) (length (detected K)) refl (omega (arith, few-detected K (well a)))
              ∙ ap (λ z. cond z (Some (length (detected K))) None) (sym (le-leb (working K) max_runs fit));
          runs_are = λ k p. (adds-count ws₁ ws₂ max_runs max_runs k (detected K) r (omega (arith, a.room, s.kept.same)) p y).2;
          kept = λ k h. adds-kept k (omega arith) y ∙ s.kept.above k (omega arith);
        }

pub ruleset listed-cases = (begun-same, listed-inputs, listed-nets, listed-spans, listed-full, listed-over, listed-fits, rules)
