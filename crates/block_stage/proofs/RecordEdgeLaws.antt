-- One record of a block as the code goes through its edges: what each step is handed, and what was made of a store's runs.
use Rattle.model.proofs.Prelude.{ℕ, ◌≤◌, ◌+◌, ◌*◌, ◌≡◌, refl, sym, subst, inl, inr, ◌⊎◌, List, length, arith}
use Rattle.model.specs.Netlist.{Netlist, nets, path_total}
use Rattle.model.specs.Path.{Edge, rising, falling}
use Rattle.model.specs.Detect.{Test}
use Rattle.model.specs.Store.{max_runs}
use Rattle.model.proofs.ReadLaws.{limits}
use Rattle.model.specs.Runs.{Run}
use Rattle.run_lists.specs.RunLists.{Sound}
use Rattle.store_words.specs.Sound.{FewRuns, edge_words}
use Rattle.store_words.proofs.SoundLaws.{edge-sound, edge_few}
use Rattle.detection.specs.Cases.{Case, case_of}
use Rattle.store_coverage.specs.Covers.{held_runs, Covers}
use Rattle.store_coverage.specs.Both.{joined, CoversBoth}
use Rattle.store_coverage.specs.Stage.{MemoryReady, BothMade, SomeBothMade, work_stage, StageIs}
use Rattle.store_coverage.specs.declared.inner.edges.Over.{Over}
use Rattle.store_writing.specs.declared.inner.Change.{Change}
use Rattle.store_coverage.proofs.WorkMemory.{stage-memory}
use Rattle.store_coverage.proofs.BothLaws.{covers-both}
use Rattle.store_coverage.proofs.EdgesLaws.{held-half, held-are, memory-sound, memory-few}
use Rattle.block_intervals.specs.Spans.{InputSpans}
use Rattle.block_words.specs.Table.{CircuitTable}
use Rattle.block_activity.specs.Marks.{ListedEdge}
use Rattle.block_stage.specs.Covering.{EdgeReady, SomeEdgeReady}
use Rattle.block_stage.specs.declared.covering.EdgeMarks.{EdgeMarks}
use Rattle.block_stage.specs.Listed.{ListedBoth, SomeListedBoth}
use Rattle.block_stage.specs.declared.inner.listed.RecordEdges.{RecordEdges}
use Rattle.block_intervals.specs.Layout.{rising_sections, falling_sections}
use Rattle.std.specs.Prelude.{Result}
use Rattle.model.specs.declared.Refusal.{Refusal}

-- the marks of each edge of a record
abbrev pub up_marks : RecordEdges → EdgeMarks
up_marks edges = record { edges = edges.rises; outs = edges.up_outs; inputs = edges.inputs; base = rising_sections; target = 2048 }

abbrev pub down_marks : RecordEdges → EdgeMarks
down_marks edges = record { edges = edges.falls; outs = edges.down_outs; inputs = edges.inputs; base = falling_sections; target = 3072 }

module _ {table offsets risingList fallingList : List ℕ} {edges : RecordEdges} {ws spans work : List ℕ} where
  -- the runs of an edge, and what is handed over to cover them: the falling ones after the rising ones are covered
  module _ {N : Netlist} {t : Test} (h : ListedBoth N t table offsets risingList fallingList edges ws spans work) where
    edge-ready : (e : Edge) {entries : List ℕ} {marks : EdgeMarks} → ListedEdge (case_of N t e) entries marks.edges marks.outs → marks.inputs ≡ edges.inputs
        → (marks.base ≡ rising_sections) ⊎ (marks.base ≡ falling_sections) → 2 * max_runs ≤ marks.target → marks.target + max_runs ≤ 4 * max_runs
        → {held : List ℕ} → held ≡ edge_words ws e → {spans₁ work₁ : List ℕ} → InputSpans spans₁ edges.inputs → length work₁ ≡ length work
        → EdgeReady (case_of N t e) table offsets entries marks held spans₁ work₁
    edge-ready e {marks = marks} listed same base low high is {spans₁ = spans₁} i l =
        let runs = held-are e (memory-few h.memory) is in
        let half = held-half e (memory-few h.memory) is in
        record {
          listed = record {
            circuit = subst (λ (n : ℕ). CircuitTable N table n (nets N)) (sym same) h.circuit;
            placed = h.placed;
            listed = listed;
            input_spans = subst (λ (n : ℕ). InputSpans spans₁ n) (sym same) i;
            room = omega (arith, l, h.memory.work_length);
          };
          sound_held = subst (Sound (path_total N)) (sym runs) (edge-sound (memory-sound h.memory) e);
          few_held = omega (arith, half, edge_few (memory-few h.memory) e);
          sections = base;
          high = low;
          room = omega (arith, l, h.memory.work_length);
        }

    up-ready : {held : List ℕ} → held ≡ edge_words ws rising → EdgeReady (case_of N t rising) table offsets risingList (up_marks edges) held spans work
    up-ready is = edge-ready rising h.rises refl (inl refl) (omega arith) (omega arith) is h.input_spans refl

    down-ready : {held : List ℕ} → held ≡ edge_words ws falling → {spans₁ work₁ : List ℕ} → InputSpans spans₁ edges.inputs → length work₁ ≡ length work
        → EdgeReady (case_of N t falling) table offsets fallingList (down_marks edges) held spans₁ work₁
    down-ready is i l = edge-ready falling h.falls refl (inr refl) (omega arith) (omega arith) is i l

  module _ (h : SomeListedBoth table offsets risingList fallingList edges ws spans work) where
    pub listed-inputs : edges.inputs ≤ 64
    listed-inputs = let c = h.listed.circuit in omega (arith, c.inputs_are, (limits c.file h.circuit c.legal).few_inputs)

    pub some-few : FewRuns ws
    some-few = memory-few h.listed.memory

    pub some_up : {held : List ℕ} → held ≡ edge_words ws rising → SomeEdgeReady table offsets risingList (up_marks edges) held spans work
    some_up is = record { case = case_of h.circuit h.test rising; ready = up-ready h.listed is }

    pub some-down : {held : List ℕ} → held ≡ edge_words ws falling → {spans₁ work₁ : List ℕ} → InputSpans spans₁ edges.inputs → length work₁ ≡ length work
        → SomeEdgeReady table offsets fallingList (down_marks edges) held spans₁ work₁
    some-down is i l = record { case = case_of h.circuit h.test falling; ready = down-ready h.listed is i l }

  -- both edges are covered
  module _ {heldUp : List ℕ} (hu : heldUp ≡ edge_words ws rising) {work₁ : List ℕ} (l₁ : length work₁ ≡ length work) {a : Result Change Over}
      (up : (K : Case) → EdgeReady K table offsets risingList (up_marks edges) heldUp spans work → Covers K (held_runs heldUp) work work₁ (2 * max_runs) a)
      {heldDown : List ℕ} (hd : heldDown ≡ edge_words ws falling) {spans₁ : List ℕ} (s₁ : InputSpans spans₁ edges.inputs) {work₂ : List ℕ} {b : Result Change Over}
      (down : (K : Case) → EdgeReady K table offsets fallingList (down_marks edges) heldDown spans₁ work₁ → Covers K (held_runs heldDown) work₁ work₂ (3 * max_runs) b) where
    pub both-listed : {q : Result (Change × Change) Over} → q ≡ joined a b → (N : Netlist) (t : Test) → ListedBoth N t table offsets risingList fallingList edges ws spans work
        → CoversBoth N t ws work work₂ q
    both-listed is N t h =
        covers-both
        (subst (λ (s : List Run). Covers (case_of N t rising) s work work₁ (2 * max_runs) a) (held-are rising (memory-few h.memory) hu)
        (up (case_of N t rising) (up-ready h hu)))
        (subst (λ (s : List Run). Covers (case_of N t falling) s work₁ work₂ (3 * max_runs) b) (held-are falling (memory-few h.memory) hd)
        (down (case_of N t falling) (down-ready h hd s₁ l₁)))
        is

  -- what was made is written
  module _ {work' : List ℕ} (same : length work' ≡ length work) {q : Result (Change × Change) Over}
      (covers : (N : Netlist) (t : Test) → ListedBoth N t table offsets risingList fallingList edges ws spans work → CoversBoth N t ws work work' q) where
    listed-made : {N : Netlist} {t : Test} → ListedBoth N t table offsets risingList fallingList edges ws spans work → BothMade N t ws work work' q
    listed-made {N = N} {t = t} h = record { memory = h.memory; same_length_of = same; covers = covers N t h }

    pub listed-writes : SomeListedBoth table offsets risingList fallingList edges ws spans work → SomeBothMade q ws work'
    listed-writes h = record { circuit = h.circuit; test = h.test; found = work; made = listed-made h.listed }

    pub listed-written : {ws' : List ℕ} {r : (Result (Unit {0}) Refusal)}
        → ((N : Netlist) (t : Test) (found : List ℕ) → BothMade N t ws found work' q → StageIs (work_stage N t ws) ws ws' found work' r)
        → (N : Netlist) (t : Test) → ListedBoth N t table offsets risingList fallingList edges ws spans work → StageIs (work_stage N t ws) ws ws' work work' r
    listed-written writes N t h = writes N t work (listed-made h)

    pub listed-few : {ws' : List ℕ} {r : (Result (Unit {0}) Refusal)}
        → ((N : Netlist) (t : Test) (found : List ℕ) → BothMade N t ws found work' q → StageIs (work_stage N t ws) ws ws' found work' r)
        → SomeListedBoth table offsets risingList fallingList edges ws spans work → FewRuns ws'
    listed-few {ws' = ws'} writes h =
        let s = listed-written writes h.circuit h.test h.listed in
        memory-few (subst (λ (x : List ℕ). MemoryReady h.circuit x work') (sym s.store) (stage-memory h.test h.listed.memory same))
