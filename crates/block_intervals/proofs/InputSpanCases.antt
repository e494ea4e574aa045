-- The loop over the inputs: the spans of the inputs so far are written.
use Rattle.model.proofs.Prelude.{ℕ, ◌≤◌, ◌<◌, ◌+◌, ◌≡◌, ◌∙◌, subst, List, length, arith, rules}
use Rattle.block_activity.proofs.OneMoreLaws.{one_more}
use Rattle.block_intervals.specs.Spans.{first_of, end_of, shift_of, Ascending, InputSpans}
use Rattle.block_intervals.specs.PinSpans.{with_span, SameSpan}
use Rattle.block_intervals.proofs.SectionLaws.{ascending-same}
use Rattle.block_intervals.proofs.SpanCases.{span-length, span-others, span-past, span-first, span-end, span-shift}
use Rattle.block_intervals.specs.Layout.{spans_size, ends_at, shifts_at, rising_sections, falling_sections}

pub record InputsSpanned (inputs : ℕ) (spans : List ℕ) (input : ℕ) : Type 0 where
  pub few : inputs ≤ 64
  pub within : input ≤ inputs
  pub spanned : InputSpans spans input

pub spans-start : {inputs : ℕ} {spans : List ℕ} → inputs ≤ 64 → length spans ≡ spans_size → Ascending spans rising_sections
    → Ascending spans falling_sections → InputsSpanned inputs spans 0
spans-start h room up down = record {
  few = h;
  within = omega arith;
  spanned = record { room = room; rising = up; falling = down; firsts = λ j l. absurd (omega arith); ends = λ j l. absurd (omega arith); shifts = λ j l. absurd (omega arith) };
}

module _ {inputs : ℕ} {spans : List ℕ} {input : ℕ} (x : InputsSpanned inputs spans input) where
  pub spans-end : inputs ≤ input → InputSpans spans inputs
  spans-end h = let e : input ≡ inputs = omega (arith, x.within) in subst (λ n. InputSpans spans n) e x.spanned

  module _ (l : input < inputs) where
    pub input-place : input < spans_size
    input-place = omega (arith, x.few)

    pub input-end-place : ends_at + input < spans_size
    input-end-place = omega (arith, x.few)

    pub input-shift-place : shifts_at + input < spans_size
    input-shift-place = omega (arith, x.few)

    abbrev now : List ℕ
    now = with_span spans input 0 1 0

    few : input < 512
    few = omega (arith, x.few)

    others : (j : ℕ) → j < input → SameSpan spans now j
    others j h = span-others spans input 0 1 0 few j (omega arith) (λ e. omega arith)

    pub spans-more : InputsSpanned inputs (with_span spans input 0 1 0) (input + 1)
    spans-more =
        let room = x.spanned.room in
        record {
          few = x.few;
          within = omega arith;
          spanned = record {
            room = span-length spans input 0 1 0 ∙ room;
            rising = ascending-same (λ k p q. span-past spans input 0 1 0 few k p) x.spanned.rising;
            falling = ascending-same (λ k p q. span-past spans input 0 1 0 few k (omega arith)) x.spanned.falling;
            firsts = one_more (λ j. first_of now j ≡ 0) input (λ j h. (others j h).firsts ∙ x.spanned.firsts j h) (span-first spans input 0 1 0 few room);
            ends = one_more (λ j. end_of now j ≡ 1) input (λ j h. (others j h).ends ∙ x.spanned.ends j h) (span-end spans input 0 1 0 few room);
            shifts = one_more (λ j. shift_of now j ≡ 0) input (λ j h. (others j h).shifts ∙ x.spanned.shifts j h) (span-shift spans input 0 1 0 few room);
          };
        }

pub ruleset input-span-cases = (spans-start, spans-end, input-place, input-end-place, input-shift-place, spans-more, rules)
