-- The first outputs that the first held run holds wholly: which outputs are left to ask, and that the runs of the others lie in it.
use Rattle.model.proofs.Prelude.{ℕ, ◌≤◌, ◌<◌, ◌+◌, ◌-◌, ◌^◌, ◌/◌, ◌≡◌, ◌∙◌, ap, refl, sym, true, Bool, false, ◌&&◌, not, List, length, get_or, arith}
use Rattle.model.proofs.Prelude.{rules}
use native.Mathlib.Nat.{lt_of_le_of_lt}
use lib.Bits.{bit_and, and_le_l}
use lib.Count.{count_trailing_zeros}
use lib.Pow.{shr_le}
use Rattle.model.specs.Base.{bit}
use Rattle.model.proofs.BoolLaws.{cases}
use Rattle.record_bytes.proofs.BitLaws.{and_bit, zero_bit}
use Rattle.run_lists.proofs.RunWordLaws.{sound-at}
use Rattle.block_words.proofs.LowBitLaws.{low-there}
use Rattle.block_words.proofs.WordBitLaws.{not_bit}
use Rattle.block_transpose.proofs.WordShiftLaws.{right-bit}
use Rattle.block_intervals.specs.Spans.{first_of, end_of}
use Rattle.block_intervals.specs.LiveOutputs.{OutputsReady}
use Rattle.block_intervals.specs.Sections.{OutputHeld, FirstHolds, Asked}
use Rattle.block_intervals.proofs.BitRunLaws.{set-within, and_within}
use Rattle.block_activity.specs.Layout.{output_offsets_at, out_at}

pub no_answer : {A : Type 0} → false ≡ true → A
no_answer e = absurd (mathlib.Core.Bool.false≢true e)

-- a bit that `and` with the complement takes away
taken-away : (a b : Bool) → a ≡ true → (a && not b) ≡ false → b ≡ true
taken-away a true t e = refl
taken-away true false t e = no_answer (sym e)
taken-away false false t e = no_answer t

-- a word that has no bits from place `first` on
below-first : (whole first : ℕ) → whole / 2 ^ first ≡ 0 → (o : ℕ) → bit whole o ≡ true → o < first
below-first whole first below o t = cases first o
    (λ l.
    let e : first + (o - first) ≡ o = omega arith in
    no_answer (sym (sym (right-bit whole first (o - first)) ∙ ap (λ w. bit w (o - first)) below ∙ zero_bit (o - first)) ∙ ap (bit whole) e ∙ t))
    (λ l. l)

-- one that has some
some_after : (outs first : ℕ) → outs < 2 ^ 64 → (outs / 2 ^ first ≡ 0 → ⊥) → bit outs (first + count_trailing_zeros 64 (outs / 2 ^ first)) ≡ true
some_after outs first s ne = sym (right-bit outs first (count_trailing_zeros 64 (outs / 2 ^ first))) ∙ low-there (lt_of_le_of_lt (shr_le outs first) s) ne

pub asked-all : {offsets : List ℕ} {outs : ℕ} {held : List ℕ} → outs < 2 ^ 64 → Asked offsets outs held outs
asked-all s = record { small = s; within = λ o e. e; others = λ o h t f. no_answer (sym f ∙ t) }

pub asked-rest : {offsets : List ℕ} {outs : ℕ} {held : List ℕ} (whole first : ℕ) → outs < 2 ^ 64 → whole < 2 ^ 64 → whole / 2 ^ first ≡ 0 → (outs / 2 ^ first ≡ 0 → ⊥)
    → 2 ≤ length held → get_or held 0 0 ≤ 1 → get_or offsets (output_offsets_at + first) 0 ≤ get_or held 1 0 → Asked offsets outs held (bit_and outs ((2 ^ 64 - 1) - whole))
asked-rest {outs = outs} whole first s u below ne some low high = record {
  small = lt_of_le_of_lt (and_le_l outs ((2 ^ 64 - 1) - whole)) s;
  within = λ o e. and_within outs ((2 ^ 64 - 1) - whole) o e;
  others = λ o h t f.
      let gone = taken-away (bit outs o) (bit whole o) t (sym (and_bit outs ((2 ^ 64 - 1) - whole) o ∙ ap (λ b. bit outs o && b) (not_bit whole o u h)) ∙ f) in
      record {
        next = first;
        last = first + count_trailing_zeros 64 (outs / 2 ^ first);
        after = below-first whole first below o gone;
        up_to = omega arith;
        few = set-within 64 outs (first + count_trailing_zeros 64 (outs / 2 ^ first)) s (some_after outs first s ne);
        live = some_after outs first s ne;
        some = omega arith;
        low = low;
        high = high;
      };
}

pub ruleset asked-cases = (asked-all, asked-rest, rules)

-- the runs of an output that is not asked
pub whole-held : {offsets : List ℕ} {outs : ℕ} {spans ws held : List ℕ} → OutputsReady offsets outs spans ws → {o : ℕ} → o < 64 → bit outs o ≡ true
    → FirstHolds offsets outs held o → OutputHeld offsets spans ws held o
whole-held {offsets} {spans = spans} {ws = ws} {held = held} r {o} h t f = record {
  each = λ i a b.
      let within = sound-at _ ws (first_of spans (out_at offsets o)) (end_of spans (out_at offsets o)) i (r.each o h t).sound a b in
      let ends = (r.in_order o f.next f.last f.after f.up_to f.few t f.live).each i a b in
      record { place = 0; begun = omega arith; ended = f.some; not_below = omega (arith, f.low, within.least); not_above = omega (arith, ends, f.high) };
}
