-- The loop over a record's list: the live nets before the next one listed have their spans.
use Rattle.model.proofs.Prelude.{ℕ, ◌≤◌, ◌<◌, ◌+◌, ◌-◌, ◌*◌, suc, ◌/◌, ◌≡◌, ◌∙◌, ap, sym, subst, ap₂, ⊎_elim, true, List, map, length, get_or, drop}
use Rattle.model.proofs.Prelude.{drop_of_length-le, drop-cons, add-one, arith, rules}
use mir.Val.{Fits}
use mir.Syntax.{w64}
use Rattle.model.specs.Base.{numbers_from}
use Rattle.model.specs.Netlist.{nets}
use Rattle.model.specs.Store.{max_runs}
use Rattle.model.proofs.BoolLaws.{cases, equal_or_not}
use Rattle.model.proofs.ReadLaws.{limits}
use Rattle.detection.specs.Cases.{Case, set_runs_of}
use Rattle.detection.specs.Walks.{runs_before, Kept}
use Rattle.detection.proofs.AddedLaws.{full-count}
use Rattle.detection.proofs.KeptLaws.{runs-next, runs-mono, kept_refl, kept_then}
use Rattle.detection.proofs.DetectedLaws.{set-sound, working-all}
use Rattle.block_words.specs.Block.{live_net}
use Rattle.block_words.specs.Lists.{keep, gate_entry, live_entries}
use Rattle.block_words.proofs.LiveLaws.{dead_runs, live-runs}
use Rattle.block_intervals.specs.Spans.{SpanIs, InputSpans, SpansMade}
use Rattle.block_intervals.specs.PinSpans.{entry_runs_of, SpanMade, NetSpanned, EntryReady, NetsListed, SomeNetsListed}
use Rattle.block_intervals.proofs.EntryLaws.{NextKept, none_kept, next-kept}
use Rattle.block_intervals.proofs.SpanStayLaws.{runs-dead, some_runs, span-stays, inputs-stay, input-span}
use Rattle.block_intervals.proofs.LiveRunLaws.{GateAt, live_below, entry-net, entry_runs, entry_ready}
use Rattle.std.specs.Prelude.{Option, Some, None}

-- ---- the invariant

-- of a case: the live nets before `next` have their spans, the others from it on are listed from place i on
pub record SpansDone (K : Case) (inputs : ℕ) (entries spans ws : List ℕ) (i made total : ℕ) : Type 0 where
  pub next : ℕ
  pub begun : inputs ≤ next
  pub within : next ≤ nets K.netlist
  pub rest : drop i entries
      ≡ map (gate_entry K) (keep (live_net K) (numbers_from next (nets K.netlist - next)))
  pub input_spans : InputSpans spans inputs
  pub spans_are : (q : ℕ) → q < next → live_net K q ≡ true → SpanIs K spans ws made q
  pub summed : runs_before (set_runs_of K) inputs + total ≡ runs_before (set_runs_of K) next
  pub few : 1 ≤ runs_before (set_runs_of K) next → made ≤ runs_before (set_runs_of K) next
  pub most : total ≤ max_runs * next

pub record NetsSpanned (table offsets entries spans₀ ws₀ spans ws : List ℕ) (i made total : ℕ) : Type 0 where
  pub some : SomeNetsListed table offsets entries spans₀ ws₀
  pub used : made ≤ max_runs
  pub kept : Kept ws₀ ws
  pub done : (K : Case) (inputs : ℕ) → NetsListed K inputs table offsets entries spans₀ ws₀ → SpansDone K inputs entries spans ws i made total

module _ {table offsets entries spans₀ ws₀ : List ℕ} where
  pub spans-start : SomeNetsListed table offsets entries spans₀ ws₀ → NetsSpanned table offsets entries spans₀ ws₀ spans₀ ws₀ 0 1 0
  unfolding live_entries
  spans-start s = record {
    some = s;
    used = omega arith;
    kept = kept_refl ws₀;
    done = λ K inputs a.
        let c = a.at-list.circuit in
        let from : K.netlist.inputs ≡ inputs = sym c.inputs_are in
        let many : length K.netlist.gates ≡ nets K.netlist - inputs = omega (arith, c.inputs_are) in
        record {
          next = inputs;
          begun = omega arith;
          within = omega (arith, c.inputs_are);
          rest = a.at-list.listed.list
              ∙ ap₂ (λ k m. map (gate_entry K) (keep (live_net K) (numbers_from k m))) from many;
          input_spans = a.at-list.input_spans;
          spans_are = input-span a;
          summed = omega arith;
          few = λ h. h;
          most = omega arith;
        };
  }

  module _ {spans ws : List ℕ} {i made total : ℕ} (x : NetsSpanned table offsets entries spans₀ ws₀ spans ws i made total) where
    pub spans-kept : (ws' : List ℕ) → length ws' ≡ length ws → length ws' ≡ length ws₀
    spans-kept ws' e = e ∙ x.kept.same

    pub spans-end : length entries ≤ i → (K : Case) (inputs : ℕ) → NetsListed K inputs table offsets entries spans₀ ws₀ → SpansMade K inputs ws₀ ws spans (Some total)
    spans-end h K inputs a =
        let d = x.done K inputs a in
        let next = d.next in
        let dead = none_kept (live_net K) (gate_entry K) (nets K.netlist - next) next
        (sym (drop_of_length-le entries {i = i} h) ∙ d.rest) in
        let all : runs_before (set_runs_of K) (nets K.netlist) ≡ runs_before (set_runs_of K) next =
        runs-dead (set_runs_of K) next (nets K.netlist) d.within (λ q l k. dead_runs K q (dead q l (omega (arith, d.within)))) in
        record {
          kept = x.kept;
          input_spans = d.input_spans;
          total = λ n e. let m : total ≡ n = cc in omega (arith, m, d.summed, all, working-all K);
          spans = λ n e q l live. cases next q
              (λ k. absurd (mathlib.Core.Bool.false≢true (sym (dead q k (omega (arith, d.within))) ∙ live)))
              (λ k. widen (d.spans_are q k live));
          full = λ e. absurd (full-count (sym e));
        }
      where
        widen : {q : ℕ} → SpanIs K spans ws made q → SpanIs K spans ws max_runs q
        widen y = record { ordered = y.ordered; before = omega (arith, y.before, x.used); small = y.small; sound = y.sound; runs = y.runs }

    module _ (h : i < length entries) where
      -- the next listed net, in a case
      module _ (K : Case) (inputs : ℕ) (a : NetsListed K inputs table offsets entries spans₀ ws₀) where
        d : SpansDone K inputs entries spans ws i made total
        d = x.done K inputs a

        listed : NextKept (live_net K) (gate_entry K) d.next (nets K.netlist - d.next)
            (get_or entries i 0) (drop (suc i) entries)
        listed = next-kept (live_net K) (gate_entry K) (nets K.netlist - d.next) d.next
            (get_or entries i 0) (drop (suc i) entries) (sym (drop-cons entries i 0 h) ∙ d.rest)

        abbrev net : ℕ
        net = listed.place

        high : net < nets K.netlist
        high = omega (arith, listed.high, d.within)

        few-nets : nets K.netlist ≤ 512
        few-nets = (limits a.at-list.circuit.file K.netlist a.at-list.circuit.legal).few_nets

        -- a live net before it is done
        before : (q : ℕ) → q < net → live_net K q ≡ true → q < d.next
        before q l live = cases d.next q (λ k. absurd (mathlib.Core.Bool.false≢true (sym (listed.fails q k l) ∙ live))) (λ k. k)

        gate : GateAt K table offsets inputs spans ws made net
        gate = record {
          circuit = a.at-list.circuit;
          placed = a.at-list.placed;
          low = omega (arith, d.begun, listed.low, a.at-list.circuit.inputs_are);
          high = high;
          live = listed.passes;
          done = λ q l live. d.spans_are q (before q l live) live;
        }

        ready : EntryReady table offsets (get_or entries i 0) spans ws made
        ready = entry_ready gate listed.head d.input_spans.room x.used (omega (arith, a.at-list.room, x.kept.same))

        -- some net before it has runs, so the runs that stand are no more than the runs so far
        standing-few : made ≤ runs_before (set_runs_of K) d.next
        standing-few =
            let q = live_below gate in
            let one = some_runs (set_runs_of K q.place) (live-runs K q.place q.is_live_of) in
            let mono = runs-mono (set_runs_of K) (q.place + 1) d.next (omega (arith, before q.place q.below q.is_live_of)) in
            d.few (omega (arith, one, mono, runs-next (set_runs_of K) q.place))

        so_far : runs_before (set_runs_of K) net ≡ runs_before (set_runs_of K) d.next
        so_far = runs-dead (set_runs_of K) d.next net listed.low (λ q l k. dead_runs K q (listed.fails q l k))

      pub spans-ready : EntryReady table offsets (get_or entries i 0) spans ws made
      spans-ready = ready x.some.case x.some.inputs x.some.at-nets

      module _ {spans' ws' : List ℕ} {r : (Option (ℕ × ℕ))}
          (m : NetSpanned made (get_or entries i 0 / 256) (entry_runs_of table offsets (get_or entries i 0) spans ws) spans ws spans' ws' r) where
        kept : Kept ws₀ ws'
        kept = kept_then x.kept m.kept

        module _ (K : Case) (inputs : ℕ) (a : NetsListed K inputs table offsets entries spans₀ ws₀) where
          abbrev here : ℕ
          here = (listed K inputs a).place

          made-here : NetSpanned made here (set_runs_of K here) spans ws spans' ws' r
          made-here =
              subst (λ n. NetSpanned made n (set_runs_of K here) spans ws spans' ws' r) (entry-net (gate K inputs a) (listed K inputs a).head)
              (subst (λ s. NetSpanned made (get_or entries i 0 / 256) s spans ws spans' ws' r) (entry_runs (gate K inputs a) (listed K inputs a).head) m)

          inputs-kept : InputSpans spans' inputs
          inputs-kept = inputs-stay made-here (omega (arith, (d K inputs a).begun, (listed K inputs a).low)) (omega (arith, high K inputs a, few-nets K inputs a))
              (d K inputs a).input_spans

          pub spans-full : r ≡ None → SpansMade K inputs ws₀ ws' spans' None
          spans-full e = record {
            kept = kept;
            input_spans = inputs-kept;
            total = λ n p. absurd (full-count p);
            spans = λ n p. absurd (full-count p);
            full = λ p.
                let more = runs-mono (set_runs_of K) (here + 1) (nets K.netlist) (omega (arith, high K inputs a)) in
                omega (arith, made-here.over e, working-all K, more, runs-next (set_runs_of K) here, so_far K inputs a, standing-few K inputs a);
          }

          module _ {count after : ℕ} (e : r ≡ Some (count, after)) where
            span : SpanMade made here (set_runs_of K here) spans' ws' count after
            span = made-here.spanned count after e

            few-total : total + count ≤ max_runs * (here + 1)
            few-total = omega (arith, (d K inputs a).most, (listed K inputs a).low, span.few)

            new-span : SpanIs K spans' ws' after here
            new-span = record {
              ordered = span.ordered;
              before = span.before;
              small = span.small;
              sound = span.sound (set-sound K (limits a.at-list.circuit.file K.netlist a.at-list.circuit.legal) here);
              runs = span.runs;
            }

            more : SpansDone K inputs entries spans' ws' (i + 1) after (total + count)
            more = record {
              next = here + 1;
              begun = omega (arith, (d K inputs a).begun, (listed K inputs a).low);
              within = omega (arith, high K inputs a);
              rest = ap (λ k. drop k entries) (add-one i) ∙ (listed K inputs a).tail
                  ∙ ap (λ k. map (gate_entry K) (keep (live_net K) (numbers_from (here + 1) (k - (here + 1))))) whole;
              input_spans = inputs-kept;
              spans_are = λ q l live.
                  ⊎_elim
                  (λ (z : q ≡ here). subst (λ n. SpanIs K spans' ws' after n) (sym z) new-span)
                  (λ (z : q ≡ here → ⊥).
                  span-stays made-here (omega (arith, high K inputs a, few-nets K inputs a)) z span.grows
                  ((d K inputs a).spans_are q (before K inputs a q (omega arith) live) live))
                  (equal_or_not q here);
              summed = omega (arith, (d K inputs a).summed, span.counted, runs-next (set_runs_of K) here, so_far K inputs a);
              few = λ l. omega (arith, span.most, span.counted, runs-next (set_runs_of K) here, so_far K inputs a, standing-few K inputs a);
              most = few-total;
            }
              where
                whole : (d K inputs a).next + (nets K.netlist - (d K inputs a).next) ≡ nets K.netlist
                whole = omega (arith, (d K inputs a).within)

        module _ {count after : ℕ} (e : r ≡ Some (count, after)) where
          abbrev K : Case
          K = x.some.case

          abbrev inputs : ℕ
          inputs = x.some.inputs

          pub spans-sum : Fits w64 (total + count)
          spans-sum = record {
            fits = omega (arith, few-total K inputs x.some.at-nets e, high K inputs x.some.at-nets, few-nets K inputs x.some.at-nets);
          }

          pub spans-more : NetsSpanned table offsets entries spans₀ ws₀ spans' ws' (i + 1) after (total + count)
          spans-more = record {
            some = x.some;
            used = (span K inputs x.some.at-nets e).used;
            kept = kept;
            done = λ K inputs a. more K inputs a e;
          }

pub ruleset spans-cases = (spans-start, spans-kept, spans-end, spans-ready, spans-full, spans-sum, spans-more, rules)
