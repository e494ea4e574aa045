-- The loop over the live outputs: the runs so far, with those of the outputs left, make the whole.
use Rattle.model.proofs.Prelude.{ℕ, ◌≤◌, ◌<◌, ◌+◌, ◌-◌, ◌*◌, ◌^◌, ◌≡◌, ◌∙◌, ap, refl, subst⁻¹, true, List, ◌++◌, length, arith, rules}
use lib.Bits.{bit_and}
use lib.Count.{count_trailing_zeros}
use mir.Val.{Fits}
use mir.Syntax.{w64}
use Rattle.model.specs.Base.{bit}
use Rattle.model.specs.Runs.{Run}
use Rattle.model.specs.Store.{max_runs}
use Rattle.run_lists.specs.RunLists.{Sound, add_runs, shift_runs, runs_in_words}
use Rattle.run_lists.specs.Answers.{Room, Adds}
use Rattle.run_union.specs.Unions.{with_shifted}
use Rattle.run_union.proofs.Adding.{Adding, adding-start, adding-runs, adding-length, adding-done, part-full, part-more, as_rest}
use Rattle.detection.proofs.AddedLaws.{as_adds}
use Rattle.block_words.proofs.LowBitLaws.{low-in, low-there, less-left}
use Rattle.block_intervals.specs.Spans.{first_of, end_of, standing}
use Rattle.block_intervals.specs.PinSpans.{bit_runs}
use Rattle.block_intervals.specs.LiveOutputs.{out_shift, runs_of_output, runs_of_outputs, OutputReady, OutputsReady}
use Rattle.block_intervals.proofs.BitRunLaws.{and_within, no_bits, bits-low}
use Rattle.block_activity.specs.Layout.{offset_table_size, output_offsets_at, output_nets_at, out_at}
use Rattle.block_intervals.specs.Layout.{spans_size, ends_at, shifts_at}
use Rattle.std.specs.Prelude.{Option, Some, None}

-- places of the two arrays
pub place-fits : (x : ℕ) → x < offset_table_size → Fits w64 x
place-fits x h = record { fits = omega arith }

pub place-bytes : (x : ℕ) → x < offset_table_size → Fits w64 (x * 8)
place-bytes x h = record { fits = omega arith }

pub span_fits : (x : ℕ) → x < spans_size → Fits w64 x
span_fits x h = record { fits = omega arith }

pub span-bytes : (x : ℕ) → x < spans_size → Fits w64 (x * 8)
span-bytes x h = record { fits = omega arith }

-- The loop: the runs of the outputs that are not left stand in the second quarter, joined
pub record OutputsDone (offsets : List ℕ) (outs : ℕ) (spans ws₀ ws : List ℕ) (left count : ℕ) : Type 0 where
  pub ready : OutputsReady offsets outs spans ws₀
  pub small : left < 2 ^ 64
  pub within : (o : ℕ) → bit left o ≡ true → bit outs o ≡ true
  pub adding : Adding ws₀ ws max_runs max_runs count (bit_runs (runs_of_output offsets spans ws₀) left 64) (runs_of_outputs offsets outs spans ws₀)

module _ {offsets : List ℕ} {outs : ℕ} {spans ws₀ : List ℕ} where
  pub outputs-start : outs < 2 ^ 64 → OutputsReady offsets outs spans ws₀ → OutputsDone offsets outs spans ws₀ ws₀ outs 0
  outputs-start s r = record {
    ready = r;
    small = s;
    within = λ o e. e;
    adding = adding-start ws₀ max_runs max_runs 0 (bit_runs (runs_of_output offsets spans ws₀) outs 64) (omega arith);
  }

  module _ {ws : List ℕ} {left count : ℕ} (i : OutputsDone offsets outs spans ws₀ ws left count) where
    pub outputs-same : length ws ≡ length ws₀
    outputs-same = adding-length ws₀ ws max_runs max_runs count (runs_of_outputs offsets outs spans ws₀) (bit_runs (runs_of_output offsets spans ws₀) left 64) i.adding

    pub outputs-kept : (ws' : List ℕ) → length ws' ≡ length ws → length ws' ≡ length ws₀
    outputs-kept ws' e = e ∙ outputs-same

    pub outputs-room : Room ws max_runs count max_runs
    outputs-room = record { fits = i.adding.fits; inside = omega (arith, outputs-same, i.ready.room) }

    pub outputs-done : left ≡ 0 → Adds ws₀ ws max_runs max_runs (runs_of_outputs offsets outs spans ws₀) (Some count)
    outputs-done z =
        let f = runs_of_output offsets spans ws₀ in
        adding-done ws₀ ws max_runs max_runs count (runs_of_outputs offsets outs spans ws₀) (as_rest (ap (λ w. bit_runs f w 64) z ∙ no_bits f 64) i.adding)

    -- the lowest output left
    module _ (ne : left ≡ 0 → ⊥) where
      abbrev output : ℕ
      output = count_trailing_zeros 64 left

      abbrev net : ℕ
      net = out_at offsets (count_trailing_zeros 64 left)

      pub output-in : count_trailing_zeros 64 left < 64
      output-in = low-in i.small ne

      pub output-fits : Fits w64 (count_trailing_zeros 64 left)
      output-fits = record { fits = omega (arith, output-in) }

      pub output-ready : OutputReady offsets spans ws₀ (count_trailing_zeros 64 left)
      output-ready = i.ready.each output output-in (i.within output (low-there i.small ne))

      -- the places that are read
      pub net-place : output_nets_at + count_trailing_zeros 64 left < offset_table_size
      net-place = omega (arith, output-in)

      pub offset-place : output_offsets_at + count_trailing_zeros 64 left < offset_table_size
      offset-place = omega (arith, output-in)

      pub first-place : out_at offsets (count_trailing_zeros 64 left) < spans_size
      first-place = omega (arith, output-ready.is_net)

      pub end-place : ends_at + out_at offsets (count_trailing_zeros 64 left) < spans_size
      end-place = omega (arith, output-ready.is_net)

      pub shift-place : shifts_at + out_at offsets (count_trailing_zeros 64 left) < spans_size
      shift-place = omega (arith, output-ready.is_net)

      pub sum_fits : Fits w64 (out_shift offsets spans (count_trailing_zeros 64 left))
      sum_fits = record { fits = omega (arith, output-ready.small) }

      pub output-ordered : first_of spans (out_at offsets (count_trailing_zeros 64 left)) ≤ end_of spans (out_at offsets (count_trailing_zeros 64 left))
      output-ordered = output-ready.ordered

      pub output-before : end_of spans (out_at offsets (count_trailing_zeros 64 left)) ≤ max_runs
      output-before = output-ready.before

      pub output-small : out_shift offsets spans (count_trailing_zeros 64 left) ≤ 2 ^ 62
      output-small = output-ready.small

      stays : standing spans ws net ≡ standing spans ws₀ net
      stays =
          let r = output-ready in
          adding-runs ws₀ ws max_runs max_runs count (bit_runs (runs_of_output offsets spans ws₀) left 64) (runs_of_outputs offsets outs spans ws₀) (first_of spans net)
          (end_of spans net - first_of spans net) i.adding (omega (arith, r.ordered, r.before))

      pub output-sound : Sound (2 ^ 62) (standing spans ws (out_at offsets (count_trailing_zeros 64 left)))
      output-sound = subst⁻¹ (λ (s : List Run). Sound (2 ^ 62) s) stays output-ready.sound

      pub output-less : bit_and left (left - 1) < left
      output-less = less-left i.small ne

      module _ {ws' : List ℕ} {q : (Option ℕ)}
          (d : Adds ws ws' max_runs max_runs (with_shifted ws (first_of spans (out_at offsets (count_trailing_zeros 64 left))) (end_of spans (out_at offsets (count_trailing_zeros 64 left)))
          max_runs count (out_shift offsets spans (count_trailing_zeros 64 left))) q) where
        abbrev part : List Run
        part = runs_of_output offsets spans ws₀ output

        abbrev rest : List Run
        rest = bit_runs (runs_of_output offsets spans ws₀) (bit_and left (left - 1)) 64

        then : Adding ws₀ ws max_runs max_runs count (part ++ rest) (runs_of_outputs offsets outs spans ws₀)
        then = as_rest (bits-low (runs_of_output offsets spans ws₀) i.small ne output-in) i.adding

        added : Adds ws ws' max_runs max_runs (add_runs (runs_in_words ws max_runs count) part) q
        added = as_adds (ap (λ (s : List Run). add_runs (runs_in_words ws max_runs count) (shift_runs (out_shift offsets spans output) s)) stays) refl d

        pub output-full : q ≡ None → Adds ws₀ ws' max_runs max_runs (runs_of_outputs offsets outs spans ws₀) None
        output-full t = part-full ws₀ ws max_runs max_runs count (runs_of_outputs offsets outs spans ws₀) ws' part rest then q t added

        pub output-more : {c : ℕ} → q ≡ Some c → OutputsDone offsets outs spans ws₀ ws' (bit_and left (left - 1)) c
        output-more {c} t = record {
          ready = i.ready;
          small = omega (arith, output-less, i.small);
          within = λ o t. i.within o (and_within left (left - 1) o t);
          adding = part-more ws₀ ws max_runs max_runs count (runs_of_outputs offsets outs spans ws₀) ws' part rest then q c t (omega (arith, i.ready.room)) added;
        }

pub ruleset read-cases = (net-place, offset-place, first-place, end-place, shift-place, place-fits, place-bytes, span_fits, span-bytes, sum_fits, output-fits)

pub ruleset output-cases =
    (outputs-start, outputs-same, outputs-kept, outputs-room, outputs-done, output-ordered, output-before, output-small, output-sound, output-less, output-full, output-more, read-cases, rules)
