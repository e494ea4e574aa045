-- The loop over the gates: the words hold the runs of the nets so far, by the tables of the netlist.
use Rattle.model.proofs.Prelude.{ℕ, ◌≤◌, ◌<◌, ◌+◌, ◌-◌, ◌*◌, ◌≡◌, ◌∙◌, ap, refl, sym, subst, subst⁻¹, List, length, get_or, take, set, arith, rules}
use mir.Val.{Fits}
use mir.Syntax.{w16, w64}
use Rattle.model.specs.Netlist.{Netlist, nets, pins_of, pin_net, pin_counts}
use Rattle.model.specs.Store.{max_runs}
use Rattle.model.proofs.NumberLaws.{length-pin_counts, pin_counts-at}
use Rattle.model.proofs.ReadLaws.{legal, limits}
use Rattle.model.proofs.WellFormed.{WellFormed}
use Rattle.netlist.specs.Tables.{GatePart, pin_count_in, gate_part_of}
use Rattle.netlist.specs.declared.inner.Shape.{Shape}
use Rattle.netlist.proofs.TableLaws.{few-nets, inputs-below, gate-part, gate-inside, count_at}
use Rattle.run_lists.specs.RunLists.{runs_in_words}
use Rattle.run_lists.specs.Answers.{Adds}
use Rattle.run_union.proofs.Adding.{answer-over, adds-count}
use Rattle.detection.specs.Cases.{Case, set_runs_of}
use Rattle.detection.specs.Walks.{Kept}
use Rattle.detection.proofs.AddedLaws.{as_adds, take_short, full-count}
use Rattle.detection.proofs.KeptLaws.{runs-next, runs-mono, kept_refl, kept_then, kept-write}
use Rattle.detection.proofs.PlaceRunLaws.{paths-most}
use Rattle.detection.proofs.DetectedLaws.{PinIs, pins-all, gate-set, set-sound, working-all}
use Rattle.run_shifted.specs.RunsOfPlaces.{gate_places, runs_in, gate_runs_of, NetReady, GateReady}
use Rattle.single_intervals.specs.Nets.{Stand, NetsAt, SomeNetsAt, NetsMade}
use Rattle.single_intervals.proofs.StandLaws.{stand-runs, stand-net, stand-more}
use Rattle.std.specs.Prelude.{Option, Some, None}

pub record NetsDone (file ps cs masks : List ℕ) (shape : Shape) (ws₀ starts₀ : List ℕ) (first : ℕ) (ws starts : List ℕ) (net start : ℕ) : Type 0 where
  pub some : SomeNetsAt file ps cs masks shape ws₀ starts₀ first
  pub begun : shape.inputs ≤ net
  pub within : net ≤ shape.nets
  pub kept : Kept ws₀ ws
  pub stand : (K : Case) → NetsAt K file ps cs masks shape ws₀ starts₀ first → Stand (set_runs_of K) ws starts net start

module _ {file ps cs masks : List ℕ} {shape : Shape} {ws₀ starts₀ : List ℕ} {first : ℕ} where
  pub nets-start : SomeNetsAt file ps cs masks shape ws₀ starts₀ first → NetsDone file ps cs masks shape ws₀ starts₀ first ws₀ starts₀ shape.inputs first
  nets-start s = record { some = s; begun = omega arith; within = inputs-below s.at-nets.tables; kept = kept_refl ws₀; stand = λ K a. a.inputs_stand }

  module _ {ws starts : List ℕ} {net start : ℕ} (i : NetsDone file ps cs masks shape ws₀ starts₀ first ws starts net start) where
    pub nets-done : shape.nets ≤ net → (K : Case) → NetsAt K file ps cs masks shape ws₀ starts₀ first → NetsMade K ws₀ ws starts (Some start)
    nets-done h K a =
        let all : net ≡ nets K.netlist = omega (arith, i.within, a.tables.nets_are) in
        record {
          kept = i.kept;
          stand = λ n q. let m : start ≡ n = cc in
              subst (λ x. Stand (set_runs_of K) ws starts (nets K.netlist) x) m (subst (λ x. Stand (set_runs_of K) ws starts x start) all (i.stand K a));
          full = λ q. absurd (full-count (sym q));
        }

    module _ (h : net < shape.nets) where
      pub nets-below : net < 512
      nets-below = omega (arith, few-nets i.some.at-nets.tables)

      pub nets-next : net + 1 < 513
      nets-next = omega (arith, nets-below)

      pub nets-index : Fits w64 ((net + 1) * 2)
      nets-index = record { fits = omega (arith, nets-below) }

      pub nets-inside : get_or ps net 0 ≤ length file
      nets-inside = gate-inside i.some.at-nets.tables net i.begun h

      module _ {part : List ℕ} (e : part ≡ gate_part_of file ps net) where
        -- the gate, by the tables
        module _ (K : Case) (a : NetsAt K file ps cs masks shape ws₀ starts₀ first) where
          abbrev N : Netlist
          N = K.netlist

          s : Stand (set_runs_of K) ws starts net start
          s = i.stand K a

          w : WellFormed N
          w = legal file N a.tables.legal

          g : GatePart part N net
          g = subst⁻¹ (λ x. GatePart x N net) e (gate-part a.tables net i.begun h)

          low : N.inputs ≤ net
          low = omega (arith, i.begun, a.tables.inputs_are)

          high : net < nets N
          high = omega (arith, a.tables.nets_are)

          many : pin_count_in part ≡ length (pin_counts N net)
          many = g.pin_count ∙ sym (length-pin_counts N w net)

          is : (p : ℕ) → p < length (pin_counts N net) → PinIs K w net low high (gate_places part (get_or masks net 0) cs) (runs_in starts ws) p
          is p l =
              let q : p < pin_count_in part = omega (arith, many) in
              let k : p < length (pins_of N net) = omega (arith, g.pin_count) in
              let below = g.lower p q in
              record {
                opens_are = a.open_pins.opens net p low high k;
                paths_are = ap (λ x. get_or cs x 0) (g.pin_is p q) ∙ count_at a.tables (pin_net N net p) (omega arith) ∙ sym (pin_counts-at N w net p k);
                runs_are = ap (runs_in starts ws) (g.pin_is p q) ∙ stand-runs s (pin_net N net p) below;
              }

          ready : GateReady part (get_or masks net 0) cs starts ws start
          ready =
              let lim = limits file N a.tables.legal in
              record {
                few_pins = g.few_pins;
                inside = g.inside;
                used = s.fits;
                ready = record {
                  room = omega (arith, s.fits, a.room, i.kept.same);
                  at_place = λ p l. subst⁻¹ (λ x. NetReady starts ws start x) (g.pin_is p l)
                      (stand-net s start (omega arith) (omega (arith, nets-below)) (pin_net N net p) (g.lower p l) (set-sound K lim (pin_net N net p)));
                  offsets = λ p l.
                      let most = paths-most (gate_places part (get_or masks net 0) cs) (runs_in starts ws) (pin_counts N net)
                      (K.is_open net) (λ x. set_runs_of K (pin_net N net x)) is p (omega (arith, many)) in
                      omega (arith, most, pins-all K w net low high, lim.counts_fit net);
                };
              }

          makes : gate_runs_of part (get_or masks net 0) cs starts ws ≡ set_runs_of K net
          makes = gate-set K w net low high (gate_places part (get_or masks net 0) cs) (runs_in starts ws) is many

        pub nets-gate : GateReady part (get_or masks net 0) cs starts ws start
        nets-gate = ready i.some.case i.some.at-nets

        module _ {ws' : List ℕ} {q : (Option ℕ)} (d : Adds ws ws' start (max_runs - start) (gate_runs_of part (get_or masks net 0) cs starts ws) q) where
          made : (K : Case) → NetsAt K file ps cs masks shape ws₀ starts₀ first → Adds ws ws' start (max_runs - start) (set_runs_of K net) q
          made K a = as_adds (makes K a) refl d

          kept : Kept ws₀ ws'
          kept =
              let K = i.some.case in
              let a = i.some.at-nets in
              kept_then i.kept
              (kept-write start (take (max_runs - start) (set_runs_of K net)) (made K a).writes (omega (arith, take_short (max_runs - start) (set_runs_of K net), (s K a).fits)))

          pub nets-full : (starts' : List ℕ) → q ≡ None → (K : Case) → NetsAt K file ps cs masks shape ws₀ starts₀ first → NetsMade K ws₀ ws' starts' None
          nets-full starts' t K a = record {
            kept = kept;
            stand = λ n p. absurd (full-count p);
            full = λ p.
                let over = answer-over (max_runs - start) (set_runs_of K net) (sym t ∙ (made K a).answers) in
                let more = runs-mono (set_runs_of K) (net + 1) (nets K.netlist) (omega (arith, a.tables.nets_are)) in
                omega (arith, working-all K, over, more, runs-next (set_runs_of K) net, (s K a).used, (s K a).fits);
          }

          module _ {c : ℕ} (t : q ≡ Some c) where
            added : (K : Case) → NetsAt K file ps cs masks shape ws₀ starts₀ first
                → (length (set_runs_of K net) ≤ max_runs - start) × (c ≡ length (set_runs_of K net)) × (runs_in_words ws' start c ≡ set_runs_of K net)
            added K a = adds-count ws ws' start (max_runs - start) c (set_runs_of K net) q (omega (arith, a.room, i.kept.same, (s K a).fits)) t (made K a)

            fits : start + c ≤ max_runs
            fits = let m = added i.some.case i.some.at-nets in omega (arith, m.0, m.1, (s i.some.case i.some.at-nets).fits)

            pub nets-sum : Fits w64 (start + c)
            nets-sum = record { fits = omega (arith, fits) }

            pub nets-word : Fits w16 (start + c)
            nets-word = record { fits = omega (arith, fits) }

            pub nets-more : NetsDone file ps cs masks shape ws₀ starts₀ first ws' (set starts (net + 1) (start + c)) (net + 1) (start + c)
            nets-more = record {
              some = i.some;
              begun = omega (arith, i.begun);
              within = omega arith;
              kept = kept;
              stand = λ K a.
                  let m = added K a in
                  stand-more (s K a) (take (max_runs - start) (set_runs_of K net)) (made K a).writes nets-below (ap (runs_in_words ws' start) (sym m.1) ∙ m.2) (omega (arith, m.1)) fits;
            }

pub ruleset gate-cases =
    (nets-start, nets-done, nets-below, nets-next, nets-index, nets-inside, nets-gate, nets-full, nets-sum, nets-word, nets-more, rules)
