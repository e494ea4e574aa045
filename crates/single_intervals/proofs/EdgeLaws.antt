-- One edge: the runs of the inputs, those of the gates' nets, then those of the detected path numbers.
use Rattle.model.proofs.Prelude.{ℕ, ◌≤◌, ◌<◌, ◌-◌, ◌*◌, ◌≡◌, ◌∙◌, ap, refl, sym, ap₂, subst⁻¹, cond, List, [], ◌∷◌, length, drop, length-drop, leb}
use Rattle.model.proofs.Prelude.{arith, rules, le-leb, lt-leb}
use Rattle.model.specs.Base.{sum_of}
use Rattle.model.specs.Netlist.{Netlist, nets, counts, path_total, output_count, output_counts, output_net}
use Rattle.model.specs.Store.{max_runs}
use Rattle.model.proofs.NetLaws.{output-count-same}
use Rattle.model.proofs.NumberLaws.{length-output_counts, output_counts-is}
use Rattle.model.proofs.ReadLaws.{legal, limits}
use Rattle.model.proofs.WellFormed.{WellFormed}
use Rattle.model.specs.Runs.{run}
use Rattle.netlist.specs.Tables.{output_at}
use Rattle.netlist.specs.declared.inner.Shape.{Shape}
use Rattle.netlist.proofs.TableLaws.{few-outputs, count_at, outputs-inside, output-is, output-below}
use Rattle.run_lists.specs.RunLists.{only_if}
use Rattle.run_lists.specs.Answers.{Adds}
use Rattle.run_union.proofs.Adding.{answer-fits, adds-count}
use Rattle.detection.specs.Cases.{Case, set_runs_of, detected, working}
use Rattle.detection.specs.Walks.{input_runs_of, Kept, Detects}
use Rattle.detection.proofs.AddedLaws.{as_adds, adds-kept, full-count}
use Rattle.detection.proofs.PlaceRunLaws.{paths-most}
use Rattle.detection.proofs.DetectedLaws.{unmade_edge, input-set, set-sound, OutIs, detected-set, working-all, few-detected}
use Rattle.run_shifted.specs.RunsOfPlaces.{output_places, output_runs, runs_in, NetReady, OutputsReady}
use Rattle.single_intervals.specs.Edges.{EdgeAt, SomeEdgeAt}
use Rattle.single_intervals.specs.Nets.{Stand, NetsAt, SomeNetsAt, NetsMade}
use Rattle.single_intervals.proofs.StandLaws.{stand-same, stand-runs, stand-net}
use Rattle.std.specs.Prelude.{Option, Some, None}

total-is : (N : Netlist) → sum_of (output_counts N) ≡ path_total N
unfolding path_total
total-is N = refl

-- an edge that no input makes
pub no_edge : {K : Case} {file positions pathCounts masks : List ℕ} {edges : ℕ} {shape : Shape} {ws : List ℕ} → edges ≡ 0
    → EdgeAt K file positions pathCounts masks edges shape ws → Detects K ws ws (Some 0)
no_edge {K} {file} {ws = ws} z a = unmade_edge K (legal file K.netlist a.tables.legal) z a.makes_edge ws

-- after the inputs
module _ {file ps cs masks : List ℕ} {edges : ℕ} {shape : Shape} {ws₀ ws₁ starts₁ : List ℕ} {first : ℕ}
    (s : Stand (input_runs_of edges) ws₁ starts₁ shape.inputs first) (kept₁ : Kept ws₀ ws₁) where
  nets-at : (K : Case) → EdgeAt K file ps cs masks edges shape ws₀ → NetsAt K file ps cs masks shape ws₁ starts₁ first
  unfolding input_runs_of
  nets-at K a = record {
    tables = a.tables;
    open_pins = a.open_pins;
    room = omega (arith, a.room, kept₁.same);
    inputs_stand = stand-same
        (λ q h.
        let i : q < K.netlist.inputs = omega (arith, a.tables.inputs_are) in
        ap (λ b. only_if b (run 1 1 ∷ [])) (a.makes_edge q i) ∙ input-set K (legal file K.netlist a.tables.legal) q i)
        s;
  }

  pub edge-nets : SomeEdgeAt file ps cs masks edges shape ws₀ → SomeNetsAt file ps cs masks shape ws₁ starts₁ first
  edge-nets k = record { case = k.case; at-nets = nets-at k.case k.at_edge }

  -- after the gates
  module _ {ws₂ starts₂ : List ℕ} {q : (Option ℕ)} (made : (K : Case) → NetsAt K file ps cs masks shape ws₁ starts₁ first → NetsMade K ws₁ ws₂ starts₂ q) where
    pub edge-full : (K : Case) → EdgeAt K file ps cs masks edges shape ws₀ → q ≡ None → Detects K ws₀ ws₂ None
    edge-full K a t =
        let m = made K (nets-at K a) in
        record {
          answers = ap (λ x. cond x (Some (length (detected K))) None) (sym (lt-leb (working K) max_runs (m.full t)));
          runs_are = λ n p. absurd (full-count p);
          kept = λ k h. m.kept.above k (omega arith) ∙ kept₁.above k (omega arith);
        }

    module _ {n : ℕ} (t : q ≡ Some n) {part : List ℕ} (e : part ≡ drop (length file - 4 * shape.outputs) file) where
      -- the outputs, by the tables
      module _ (K : Case) (a : EdgeAt K file ps cs masks edges shape ws₀) where
        abbrev N : Netlist
        N = K.netlist

        m : NetsMade K ws₁ ws₂ starts₂ q
        m = made K (nets-at K a)

        s₂ : Stand (set_runs_of K) ws₂ starts₂ (nets N) n
        s₂ = m.stand n t

        w : WellFormed N
        w = legal file N a.tables.legal

        room : 4 * max_runs ≤ length ws₂
        room = omega (arith, a.room, kept₁.same, m.kept.same)

        many : shape.outputs ≡ length (output_counts N)
        many = a.tables.outputs_are ∙ sym (length-output_counts N w)

        net-is : (o : ℕ) → o < shape.outputs → output_at part o ≡ output_net N o
        net-is o h = ap (λ x. output_at x o) e ∙ output-is a.tables o h

        below : (o : ℕ) → o < shape.outputs → output_net N o < nets N
        below o h = omega (arith, output-below a.tables o h, a.tables.nets_are)

        is : (o : ℕ) → o < length (output_counts N) → OutIs K w (output_places part shape.inputs cs) (runs_in starts₂ ws₂) o
        is o l =
            let h : o < shape.outputs = omega (arith, many) in
            let net = output_net N o in
            record {
              opens_are = ap₂ leb a.tables.inputs_are (net-is o h);
              paths_are = ap (output_count shape.inputs cs) (net-is o h)
                  ∙ output-count-same cs (counts N) net a.tables.inputs_are (count_at a.tables net (output-below a.tables o h))
                  ∙ sym (output_counts-is N w o (omega (arith, a.tables.outputs_are)));
              runs_are = ap (runs_in starts₂ ws₂) (net-is o h) ∙ stand-runs s₂ net (below o h);
            }

        ready : OutputsReady part shape.inputs shape.outputs cs starts₂ ws₂
        ready =
            let lim = limits file N a.tables.legal in
            record {
              inside = omega (arith, ap length e, length-drop (length file - 4 * shape.outputs) file, outputs-inside a.tables);
              ready = record {
                room = omega (arith, room);
                at_place = λ o h. subst⁻¹ (λ x. NetReady starts₂ ws₂ max_runs x) (net-is o h)
                    (stand-net s₂ max_runs s₂.fits lim.few_nets (output_net N o) (below o h) (set-sound K lim (output_net N o)));
                offsets = λ o h.
                    let most = paths-most (output_places part shape.inputs cs) (runs_in starts₂ ws₂) (output_counts N)
                    (λ x. leb N.inputs (output_net N x)) (λ x. set_runs_of K (output_net N x)) is o (omega (arith, many)) in
                    omega (arith, most, total-is N, lim.total_fits);
              };
            }

        pub edge-detects : {ws₃ : List ℕ} {r : (Option ℕ)} → Adds ws₂ ws₃ max_runs max_runs (output_runs part shape.inputs shape.outputs cs starts₂ ws₂) r → Detects K ws₀ ws₃ r
        edge-detects {ws₃} {r} x =
            let y : Adds ws₂ ws₃ max_runs max_runs (detected K) r = as_adds (detected-set K w (output_places part shape.inputs cs) (runs_in starts₂ ws₂) is many) refl x in
            let fit : working K ≤ max_runs = omega (arith, working-all K, s₂.used, s₂.fits) in
            record {
              answers =
                  y.answers ∙ answer-fits max_runs (detected K) (length (detected K)) refl (omega (arith, few-detected K w))
                  ∙ ap (λ z. cond z (Some (length (detected K))) None) (sym (le-leb (working K) max_runs fit));
              runs_are = λ k p. (adds-count ws₂ ws₃ max_runs max_runs k (detected K) r (omega (arith, room)) p y).2;
              kept = λ k h. adds-kept k (omega arith) y ∙ m.kept.above k (omega arith) ∙ kept₁.above k (omega arith);
            }

      pub edge-ready : SomeEdgeAt file ps cs masks edges shape ws₀ → OutputsReady part shape.inputs shape.outputs cs starts₂ ws₂
      edge-ready k = ready k.case k.at_edge

pub ruleset edge-cases = (no_edge, few-outputs, outputs-inside, edge-nets, edge-detects, edge-ready, rules)
