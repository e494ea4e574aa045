-- The loop over a gate's active pins: the list holds what the pins that are no longer left add.
use Rattle.model.proofs.Prelude.{ℕ, ◌≤◌, ◌<◌, ◌+◌, ◌-◌, ◌^◌, ◌≡◌, ◌∙◌, ap, refl, subst⁻¹, true, List, ◌++◌, length, arith, rules}
use lib.Bits.{bit_and}
use lib.Count.{count_trailing_zeros}
use mir.Val.{Fits}
use mir.Syntax.{w64}
use Rattle.model.specs.Base.{bit}
use Rattle.model.specs.Runs.{Run}
use Rattle.model.specs.Store.{max_runs}
use Rattle.run_lists.specs.RunLists.{Sound, add_runs, shift_runs, runs_in_words}
use Rattle.run_lists.specs.Answers.{Room, Adds}
use Rattle.run_union.proofs.Adding.{Adding, adding-start, adding-runs, adding-length, adding-done, as_rest, part-full, part-more}
use Rattle.detection.proofs.AddedLaws.{as_adds}
use Rattle.block_words.proofs.LowBitLaws.{low-there, less-left}
use Rattle.block_intervals.specs.Spans.{first_of, end_of, standing}
use Rattle.block_intervals.specs.PinSpans.{source_at, shift_at, pin_runs_of, bit_runs, byte_runs, PinReady, ByteReady}
use Rattle.block_intervals.proofs.BitRunLaws.{set-within, and_within, no_bits, bits-low}
use Rattle.block_words.specs.Layout.{kinds_at}
use Rattle.std.specs.Prelude.{Option, Some, None}

-- the runs of a net that stands before the list are as they were
pub standing-kept : (spans ws ws' : List ℕ) (made net : ℕ) → ((f k : ℕ) → f + k ≤ made → runs_in_words ws' f k ≡ runs_in_words ws f k)
    → first_of spans net ≤ end_of spans net → end_of spans net ≤ made → standing spans ws' net ≡ standing spans ws net
standing-kept spans ws ws' made net below o b = below (first_of spans net) (end_of spans net - first_of spans net) (omega arith)

-- the pins of `byte` that are not left are added
pub record PinsAdding (table offsets : List ℕ) (first byte : ℕ) (spans ws₀ : List ℕ) (made : ℕ) (ws : List ℕ) (left count : ℕ) : Type 0 where
  pub ready : ByteReady table offsets spans ws₀ made first byte
  pub small : left < 256
  pub within : (p : ℕ) → bit left p ≡ true → bit byte p ≡ true
  pub adding : Adding ws₀ ws made (max_runs - made) count (bit_runs (λ p. pin_runs_of table offsets spans ws₀ (first + p)) left 8)
      (byte_runs table offsets first byte spans ws₀)

module _ {table offsets : List ℕ} {first byte : ℕ} {spans ws₀ : List ℕ} {made : ℕ} where
  pub pins-start : ByteReady table offsets spans ws₀ made first byte → PinsAdding table offsets first byte spans ws₀ made ws₀ byte 0
  pins-start r = record {
    ready = r;
    small = r.small;
    within = λ p e. e;
    adding = adding-start ws₀ made (max_runs - made) 0 (bit_runs (λ p. pin_runs_of table offsets spans ws₀ (first + p)) byte 8) (omega arith);
  }

  module _ {ws : List ℕ} {left count : ℕ} (x : PinsAdding table offsets first byte spans ws₀ made ws left count) where
    abbrev adds : ℕ → List Run
    adds p = pin_runs_of table offsets spans ws₀ (first + p)

    abbrev all : List Run
    all = byte_runs table offsets first byte spans ws₀

    pub pins-same : length ws ≡ length ws₀
    pins-same = adding-length ws₀ ws made (max_runs - made) count all (bit_runs adds left 8) x.adding

    pub pins-kept : (ws' : List ℕ) → length ws' ≡ length ws → length ws' ≡ length ws₀
    pins-kept ws' e = e ∙ pins-same

    pub pins-used : made ≤ max_runs
    pins-used = x.ready.used

    pub pins-room : Room ws made count (max_runs - made)
    pins-room = record { fits = x.adding.fits; inside = omega (arith, pins-same, x.ready.room, pins-used) }

    pub pins-done : left ≡ 0 → Adds ws₀ ws made (max_runs - made) (byte_runs table offsets first byte spans ws₀) (Some count)
    pins-done e = adding-done ws₀ ws made (max_runs - made) count all (as_rest (ap (λ w. bit_runs adds w 8) e ∙ no_bits adds 8) x.adding)

    wide : left < 2 ^ 64
    wide = omega (arith, x.small)

    module _ (ne : left ≡ 0 → ⊥) where
      there : bit left (count_trailing_zeros 64 left) ≡ true
      there = low-there wide ne

      pub pin-in : count_trailing_zeros 64 left < 8
      pin-in = set-within 8 left (count_trailing_zeros 64 left) x.small there

      pub pin-place : first + count_trailing_zeros 64 left < kinds_at
      pin-place = omega (arith, pin-in, x.ready.inside)

      pub pin-fits : Fits w64 (count_trailing_zeros 64 left)
      pin-fits = record { fits = omega (arith, pin-in) }

      pub pin-sum : Fits w64 (first + count_trailing_zeros 64 left)
      pin-sum = record { fits = omega (arith, pin-place) }

      pub left_less : bit_and left (left - 1) < left
      left_less = less-left wide ne

      ready₀ : PinReady table offsets spans ws₀ made (first + count_trailing_zeros 64 left)
      ready₀ = x.ready.pins (count_trailing_zeros 64 left) (x.within (count_trailing_zeros 64 left) there)

      kept : standing spans ws (source_at table (first + count_trailing_zeros 64 left)) ≡ standing spans ws₀ (source_at table (first + count_trailing_zeros 64 left))
      kept = standing-kept spans ws₀ ws made (source_at table (first + count_trailing_zeros 64 left))
          (λ f k h. adding-runs ws₀ ws made (max_runs - made) count (bit_runs adds left 8) all f k x.adding h) ready₀.ordered ready₀.before

      pub pin-ready : PinReady table offsets spans ws made (first + count_trailing_zeros 64 left)
      pin-ready = record {
        is_net = ready₀.is_net;
        ordered = ready₀.ordered;
        before = ready₀.before;
        fits = ready₀.fits;
        sound = subst⁻¹ (λ (s : List Run). Sound (2 ^ 62) s) kept ready₀.sound;
      }

      then : Adding ws₀ ws made (max_runs - made) count (adds (count_trailing_zeros 64 left) ++ bit_runs adds (bit_and left (left - 1)) 8) all
      then = as_rest (bits-low adds wide ne pin-in) x.adding

      module _ {ws' : List ℕ} {q : (Option ℕ)}
          (d : Adds ws ws' made (max_runs - made) (add_runs (runs_in_words ws made count) (pin_runs_of table offsets spans ws (first + count_trailing_zeros 64 left))) q) where
        added : Adds ws ws' made (max_runs - made) (add_runs (runs_in_words ws made count) (adds (count_trailing_zeros 64 left))) q
        added = as_adds (ap (λ (s : List Run). add_runs (runs_in_words ws made count) (shift_runs (shift_at table offsets spans (first + count_trailing_zeros 64 left)) s)) kept) refl d

        pub pin-full : q ≡ None → Adds ws₀ ws' made (max_runs - made) (byte_runs table offsets first byte spans ws₀) None
        pin-full t = part-full ws₀ ws made (max_runs - made) count all ws' (adds (count_trailing_zeros 64 left)) (bit_runs adds (bit_and left (left - 1)) 8) then q t added

        pub pin-more : {c : ℕ} → q ≡ Some c → PinsAdding table offsets first byte spans ws₀ made ws' (bit_and left (left - 1)) c
        pin-more {c} t = record {
          ready = x.ready;
          small = omega (arith, left_less, x.small);
          within = λ p e. x.within p (and_within left (left - 1) p e);
          adding = part-more ws₀ ws made (max_runs - made) count all ws' (adds (count_trailing_zeros 64 left)) (bit_runs adds (bit_and left (left - 1)) 8) then q c t
              (omega (arith, x.ready.room, pins-used)) added;
        }

pub ruleset pin-cases =
    (pins-start, pins-same, pins-kept, pins-used, pins-room, pins-done, pin-in, pin-place, pin-fits, pin-sum, left_less, pin-ready, pin-full, pin-more, rules)
