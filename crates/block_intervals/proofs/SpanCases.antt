-- The span of one listed net: that of its one active pin's net, shifted, or of the runs that its active pins make at the end of those that stand.
use Rattle.model.proofs.Prelude.{ℕ, ◌≤◌, ◌<◌, ◌+◌, ◌-◌, ◌*◌, ◌^◌, ◌/◌, ◌%◌, ◌≡◌, ◌∙◌, ap, refl, sym, subst, ap₂}
use Rattle.model.proofs.Prelude.{List, [], ◌++◌, append-nil, length}
use Rattle.model.proofs.Prelude.{get_or, take, set, length-set, get_or-set_same, get_or-set_other, arith, rules}
use mathlib.Core.Path.{subst₂}
use lib.Bits.{bit_and}
use lib.Count.{count_trailing_zeros}
use mir.Val.{Fits}
use mir.Syntax.{w64}
use Rattle.model.specs.Runs.{Run}
use Rattle.model.specs.Store.{max_runs}
use Rattle.run_lists.specs.RunLists.{Sound, add_runs, shift_runs, runs_in_words}
use Rattle.run_lists.specs.Answers.{Adds}
use Rattle.run_lists.proofs.RunWordLaws.{length_runs}
use Rattle.run_union.proofs.Adding.{answer-over, adds-count}
use Rattle.run_union.proofs.RunWriteLaws.{runs-write_before}
use Rattle.run_union.proofs.ShiftLaws.{shift_runs-sound, length_shift}
use Rattle.detection.specs.Walks.{Kept}
use Rattle.detection.proofs.AddedLaws.{take_short}
use Rattle.detection.proofs.KeptLaws.{kept_refl, kept-write}
use Rattle.block_words.proofs.LowBitLaws.{low-there}
use Rattle.block_intervals.specs.Spans.{first_of, end_of, shift_of, standing}
use Rattle.block_intervals.specs.PinSpans.{source_at, shift_at, pin_runs_of, bit_runs, entry_runs_of, with_span, SameSpan, SpanMade, NetSpanned, PinReady, EntryReady}
use Rattle.block_intervals.proofs.BitRunLaws.{set-within, no_bits, bits-low, adds-alone, shift_none}
use Rattle.block_words.specs.Layout.{kinds_at}
use Rattle.block_intervals.specs.Layout.{spans_size, ends_at, shifts_at, rising_sections}
use Rattle.std.specs.Prelude.{Option, Some, None}

-- ---- a span written

module _ (spans : List ℕ) (net first end shift : ℕ) where
  pub span-length : length (with_span spans net first end shift) ≡ length spans
  span-length =
      length-set (set (set spans net first) (ends_at + net) end) (shifts_at + net) shift ∙ length-set (set spans net first) (ends_at + net) end ∙ length-set spans net first

  apart : (i j : ℕ) → i < j → i ≡ j → ⊥
  apart i j h e = omega arith

  far : (i j : ℕ) → j < i → i ≡ j → ⊥
  far i j h e = omega arith

  -- a place that is none of the net's three
  elsewhere : (i : ℕ) → (i ≡ net → ⊥) → (i ≡ 512 + net → ⊥) → (i ≡ 1024 + net → ⊥) → get_or (with_span spans net first end shift) i 0 ≡ get_or spans i 0
  elsewhere i a b d =
      get_or-set_other (set (set spans net first) (ends_at + net) end) (shifts_at + net) i shift 0 d
      ∙ get_or-set_other (set spans net first) (ends_at + net) i end 0 b ∙ get_or-set_other spans net i first 0 a

  module _ (few : net < 512) where
    pub span-others : (q : ℕ) → q < 512 → (q ≡ net → ⊥) → SameSpan spans (with_span spans net first end shift) q
    span-others q h d = record {
      firsts = elsewhere q d (λ e. apart q (ends_at + net) (omega arith) e) (λ e. apart q (shifts_at + net) (omega arith) e);
      ends = elsewhere (ends_at + q) (λ e. far (ends_at + q) net (omega arith) e) (λ e. d (minus ends_at q net e)) (λ e. apart (ends_at + q) (shifts_at + net) (omega arith) e);
      shifts = elsewhere (shifts_at + q) (λ e. far (shifts_at + q) net (omega arith) e) (λ e. far (shifts_at + q) (ends_at + net) (omega arith) e) (λ e. d (minus shifts_at q net e));
    }
      where
        minus : (k a b : ℕ) → k + a ≡ k + b → a ≡ b
        minus k a b e = omega arith

    pub span-past : (k : ℕ) → rising_sections ≤ k → get_or (with_span spans net first end shift) k 0 ≡ get_or spans k 0
    span-past k h = elsewhere k (λ e. far k net (omega arith) e) (λ e. far k (ends_at + net) (omega arith) e) (λ e. far k (shifts_at + net) (omega arith) e)

    module _ (room : length spans ≡ spans_size) where
      long : length (set spans net first) ≡ spans_size
      long = length-set spans net first ∙ room

      longer : length (set (set spans net first) (ends_at + net) end) ≡ spans_size
      longer = length-set (set spans net first) (ends_at + net) end ∙ long

      pub span-first : first_of (with_span spans net first end shift) net ≡ first
      span-first =
          get_or-set_other (set (set spans net first) (ends_at + net) end) (shifts_at + net) net shift 0 (λ e. apart net (shifts_at + net) (omega arith) e)
          ∙ get_or-set_other (set spans net first) (ends_at + net) net end 0 (λ e. apart net (ends_at + net) (omega arith) e)
          ∙ get_or-set_same spans net first 0 (omega arith)

      pub span-end : end_of (with_span spans net first end shift) net ≡ end
      span-end =
          get_or-set_other (set (set spans net first) (ends_at + net) end) (shifts_at + net) (ends_at + net) shift 0 (λ e. apart (ends_at + net) (shifts_at + net) (omega arith) e)
          ∙ get_or-set_same (set spans net first) (ends_at + net) end 0 (omega (arith, long))

      pub span-shift : shift_of (with_span spans net first end shift) net ≡ shift
      span-shift = get_or-set_same (set (set spans net first) (ends_at + net) end) (shifts_at + net) shift 0 (omega (arith, longer))

-- ---- answers

made-over : {a b : ℕ} → ◌≡◌ {A = Option (ℕ × ℕ)} (Some (a, b)) None → ⊥
made-over {a} {b} p = let z : ◌≡◌ {A = ℕ} 0 1 = cc in omega arith

over-made : {a b : ℕ} → ◌≡◌ {A = Option (ℕ × ℕ)} None (Some (a, b)) → ⊥
over-made {a} {b} p = let z : ◌≡◌ {A = ℕ} 0 1 = cc in omega arith

abbrev made_of : Option (ℕ × ℕ) → ℕ × ℕ
made_of (Some x) = x
made_of None = (0, 0)

as_made : {made net : ℕ} {s : List Run} {spans' ws' : List ℕ} {a b : ℕ} → SpanMade made net s spans' ws' a b
    → (count after : ℕ) → ◌≡◌ {A = Option (ℕ × ℕ)} (Some (a, b)) (Some (count, after)) → SpanMade made net s spans' ws' count after
as_made {made} {net} {s} {spans'} {ws'} {a} {b} x count after e =
    let f : a ≡ count = ap (λ (r : Option (ℕ × ℕ)). (made_of r).0) e in
    let g : b ≡ after = ap (λ (r : Option (ℕ × ℕ)). (made_of r).1) e in
    subst₂ (λ m n. SpanMade made net s spans' ws' m n) f g x

module _ {table offsets : List ℕ} {entry : ℕ} {spans ws : List ℕ} {made : ℕ} (r : EntryReady table offsets entry spans ws made) where
  abbrev net : ℕ
  net = entry / 256

  abbrev byte : ℕ
  byte = entry % 256

  abbrev low : ℕ
  low = count_trailing_zeros 64 (entry % 256)

  abbrev s : List Run
  s = entry_runs_of table offsets entry spans ws

  abbrev adds : ℕ → List Run
  adds p = pin_runs_of table offsets spans ws (8 * (entry / 256) + p)

  -- ---- one active pin

  small : byte < 2 ^ 64
  small = omega (arith, r.byte.small)

  some : byte ≡ 0 → ⊥
  some e = omega (arith, r.byte.some)

  low-few : low < 8
  low-few = set-within 8 byte low r.byte.small (low-there small some)

  pub low_fits : Fits w64 (count_trailing_zeros 64 (entry % 256))
  low_fits = record { fits = omega (arith, low-few) }

  pub low_sum : Fits w64 (8 * (entry / 256) + count_trailing_zeros 64 (entry % 256))
  low_sum = record { fits = omega (arith, low-few, r.is_net) }

  pub low-place : 8 * (entry / 256) + count_trailing_zeros 64 (entry % 256) < kinds_at
  low-place = omega (arith, low-few, r.is_net)

  pub low-ready : PinReady table offsets spans ws made (8 * (entry / 256) + count_trailing_zeros 64 (entry % 256))
  low-ready = r.byte.pins low (low-there small some)

  abbrev source : ℕ
  source = source_at table (8 * (entry / 256) + count_trailing_zeros 64 (entry % 256))

  pub low-before : end_of spans (source_at table (8 * (entry / 256) + count_trailing_zeros 64 (entry % 256))) ≤ max_runs
  low-before = omega (arith, low-ready.before, r.byte.used)

  module _ (z : bit_and (entry % 256) (entry % 256 - 1) ≡ 0) where
    one-runs : s ≡ adds low
    one-runs =
        ap (add_runs [])
        (bits-low adds small some low-few ∙ ap (λ w. adds low ++ bit_runs adds w 8) z ∙ ap (λ (t : List Run). adds low ++ t) (no_bits adds 8) ∙ append-nil (adds low))
        ∙ adds-alone (2 ^ 62 + shift_at table offsets spans (8 * (entry / 256) + low)) (adds low)
        (shift_runs-sound 1 1 (2 ^ 62) (shift_at table offsets spans (8 * (entry / 256) + low)) (standing spans ws source) (omega arith) low-ready.sound)

    pub one_span : {spans' : List ℕ} {count : ℕ}
        → spans' ≡ with_span spans (entry / 256) (first_of spans (source_at table (8 * (entry / 256) + count_trailing_zeros 64 (entry % 256))))
        (end_of spans (source_at table (8 * (entry / 256) + count_trailing_zeros 64 (entry % 256))))
        (shift_at table offsets spans (8 * (entry / 256) + count_trailing_zeros 64 (entry % 256)))
        → count ≡ end_of spans (source_at table (8 * (entry / 256) + count_trailing_zeros 64 (entry % 256)))
        - first_of spans (source_at table (8 * (entry / 256) + count_trailing_zeros 64 (entry % 256)))
        → NetSpanned made (entry / 256) (entry_runs_of table offsets entry spans ws) spans ws spans' ws (Some (count, made))
    one_span {spans'} {count} e n = record {
      kept = kept_refl ws;
      below = λ f k h. refl;
      same_room = ap length e ∙ span-length spans net first end shift;
      others = λ q h d. subst (λ x. SameSpan spans x q) (sym e) (span-others spans net first end shift r.is_net q h d);
      sections = λ k h. ap (λ (x : List ℕ). get_or x k 0) e ∙ span-past spans net first end shift r.is_net k h;
      over = λ p. absurd (made-over p);
      spanned = as_made (record {
        counted = n ∙ sym (ap length one-runs ∙ length_shift shift (standing spans ws source) ∙ length_runs ws first (end - first));
        few = omega (arith, n, low-before);
        grows = omega arith;
        most = omega arith;
        used = r.byte.used;
        ordered = omega (arith, firsts, ends, low-ready.ordered);
        before = omega (arith, ends, low-ready.before);
        small = omega (arith, shifts, low-ready.fits);
        sound = λ u. subst (λ (t : List Run). Sound (2 ^ 62) t) (sym same) low-ready.sound;
        runs = ap₂ shift_runs shifts same ∙ sym one-runs;
      });
    }
      where
        first : ℕ
        first = first_of spans source

        end : ℕ
        end = end_of spans source

        shift : ℕ
        shift = shift_at table offsets spans (8 * (entry / 256) + count_trailing_zeros 64 (entry % 256))

        firsts : first_of spans' net ≡ first
        firsts = ap (λ x. first_of x net) e ∙ span-first spans net first end shift r.is_net r.span_room

        ends : end_of spans' net ≡ end
        ends = ap (λ x. end_of x net) e ∙ span-end spans net first end shift r.is_net r.span_room

        shifts : shift_of spans' net ≡ shift
        shifts = ap (λ x. shift_of x net) e ∙ span-shift spans net first end shift r.is_net r.span_room

        same : standing spans' ws net ≡ standing spans ws source
        same = ap₂ (λ a b. runs_in_words ws a (b - a)) firsts ends

  -- ---- more

  module _ {ws' : List ℕ} {q : (Option ℕ)} (d : Adds ws ws' made (max_runs - made) (entry_runs_of table offsets entry spans ws) q) where
    kept : Kept ws ws'
    kept = kept-write made (take (max_runs - made) s) d.writes (omega (arith, take_short (max_runs - made) s, r.byte.used))

    below : (f k : ℕ) → f + k ≤ made → runs_in_words ws' f k ≡ runs_in_words ws f k
    below f k h = ap (λ x. runs_in_words x f k) d.writes ∙ runs-write_before ws made f k (take (max_runs - made) s) h

    pub more-over : q ≡ None → NetSpanned made (entry / 256) (entry_runs_of table offsets entry spans ws) spans ws spans ws' None
    more-over t = record {
      kept = kept;
      below = below;
      same_room = refl;
      others = λ p h k. record { firsts = refl; ends = refl; shifts = refl };
      sections = λ k h. refl;
      over = λ p. omega (arith, answer-over (max_runs - made) s (sym t ∙ d.answers), r.byte.used);
      spanned = λ count after p. absurd (over-made p);
    }

    module _ {c : ℕ} (t : q ≡ Some c) where
      added : (length s ≤ max_runs - made) × (c ≡ length s) × (runs_in_words ws' made c ≡ s)
      added = adds-count ws ws' made (max_runs - made) c s q (omega (arith, r.byte.room, r.byte.used)) t d

      pub more-fits : Fits w64 (made + c)
      more-fits = record { fits = omega (arith, added.0, added.1, r.byte.used) }

      pub more-span : {spans' : List ℕ} → spans' ≡ with_span spans (entry / 256) made (made + c) 0
          → NetSpanned made (entry / 256) (entry_runs_of table offsets entry spans ws) spans ws spans' ws' (Some (c, (made + c)))
      more-span {spans'} e = record {
        kept = kept;
        below = below;
        same_room = ap length e ∙ span-length spans net made (made + c) 0;
        others = λ p h k. subst (λ x. SameSpan spans x p) (sym e) (span-others spans net made (made + c) 0 r.is_net p h k);
        sections = λ k h. ap (λ (x : List ℕ). get_or x k 0) e ∙ span-past spans net made (made + c) 0 r.is_net k h;
        over = λ p. absurd (made-over p);
        spanned = as_made (record {
          counted = added.1;
          few = omega (arith, added.0, added.1);
          grows = omega arith;
          most = omega arith;
          used = omega (arith, added.0, added.1, r.byte.used);
          ordered = omega (arith, firsts, ends);
          before = omega (arith, ends);
          small = omega (arith, shifts);
          sound = λ u. subst (λ (x : List Run). Sound (2 ^ 62) x) (sym same) u;
          runs = ap₂ shift_runs shifts same ∙ shift_none s;
        });
      }
        where
          firsts : first_of spans' net ≡ made
          firsts = ap (λ x. first_of x net) e ∙ span-first spans net made (made + c) 0 r.is_net r.span_room

          ends : end_of spans' net ≡ made + c
          ends = ap (λ x. end_of x net) e ∙ span-end spans net made (made + c) 0 r.is_net r.span_room

          shifts : shift_of spans' net ≡ 0
          shifts = ap (λ x. shift_of x net) e ∙ span-shift spans net made (made + c) 0 r.is_net r.span_room

          same : standing spans' ws' net ≡ s
          same =
              let n : end_of spans' net - first_of spans' net ≡ c = omega (arith, firsts, ends) in
              ap₂ (runs_in_words ws') firsts n ∙ added.2

pub ruleset span-cases = (low_fits, low_sum, low-place, low-ready, low-before, one_span, more-over, more-fits, more-span, rules)
