-- Runs of outputs that lie in held runs: one run, those of a net, those of the live outputs one after the other.
use Rattle.model.proofs.Prelude.{ℕ, ◌≤◌, ◌<◌, ◌+◌, ◌-◌, ◌*◌, ◌^◌, ◌/◌, ◌≡◌, ◌∙◌, ap, sym, subst⁻¹, ⊎_elim, true, Bool, false, not, Bool·not-not, List}
use Rattle.model.proofs.Prelude.{length, get_or, leb, arith, rules, leb-true}
use lib.Bits.{bit_and}
use lib.Count.{count_trailing_zeros}
use mir.Val.{Fits}
use mir.Syntax.{w64}
use Rattle.model.specs.Base.{bit}
use Rattle.model.specs.Store.{max_runs}
use Rattle.model.proofs.BoolLaws.{equal_or_not}
use Rattle.model.specs.Runs.{run}
use Rattle.run_lists.specs.RunLists.{Sound, RunWithin, shift_run, run_at, runs_in_words}
use Rattle.run_lists.specs.Answers.{RunInside}
use Rattle.run_lists.proofs.RunWordLaws.{sound-at}
use Rattle.record_bytes.proofs.BitLaws.{zero_bit}
use Rattle.block_words.proofs.LowBitLaws.{low-in, low-there, less-left, others-stay}
use Rattle.block_intervals.specs.Spans.{Ascending}
use Rattle.block_intervals.specs.LiveOutputs.{OutputReady, OutputsReady}
use Rattle.block_intervals.specs.Sections.{SectionIn, SpanHeld, OutputHeld, OutputsHeld, Asked}
use Rattle.block_intervals.proofs.BitRunLaws.{and_within}
use Rattle.block_intervals.proofs.WholeOutputLaws.{no_answer, whole-held}
use Rattle.block_intervals.specs.Layout.{falling_sections}

-- ---- one run, at the place that was found

module _ {held : List ℕ} {low high : ℕ} where
  pub run-not : false ≡ true → RunInside held 0 (length held / 2) (run low high)
  run-not = no_answer

  pub run-there : (at : ℕ) → at < length held / 2 → get_or held (2 * at) 0 ≤ low → leb high (get_or held (2 * at + 1) 0) ≡ true → RunInside held 0 (length held / 2) (run low high)
  run-there at h l e = record { place = at; begun = omega arith; ended = h; not_below = l; not_above = leb-true high (get_or held (2 * at + 1) 0) e }

pub ruleset run-cases = (run-not, run-there, rules)

-- ---- the runs of a net

pub record SpanWalk (ws : List ℕ) (from to shift : ℕ) (held : List ℕ) (i : ℕ) : Type 0 where
  pub begun : from ≤ i
  pub within : i ≤ to
  pub room : 2 * to ≤ length ws
  pub small : shift ≤ 2 ^ 62
  pub sound : Sound (2 ^ 62) (runs_in_words ws from (to - from))
  pub done : (j : ℕ) → from ≤ j → j < i → RunInside held 0 (length held / 2) (shift_run shift (run_at ws j))

module _ {ws : List ℕ} {from to shift : ℕ} {held : List ℕ} where
  pub span-begin : from ≤ to → 2 * to ≤ length ws → shift ≤ 2 ^ 62 → Sound (2 ^ 62) (runs_in_words ws from (to - from)) → SpanWalk ws from to shift held from
  span-begin h r l s = record { begun = omega arith; within = h; room = r; small = l; sound = s; done = λ j p q. absurd (omega arith) }

  pub span-not : false ≡ true → SpanHeld ws from to shift held
  span-not = no_answer

  module _ {i : ℕ} (x : SpanWalk ws from to shift held i) where
    pub span-done : to ≤ i → true ≡ true → SpanHeld ws from to shift held
    span-done h e = record { each = λ j p q. x.done j p (omega arith) }

    module _ (h : i < to) where
      here : RunWithin (2 ^ 62) (run_at ws i)
      here = sound-at (2 ^ 62) ws from to i x.sound x.begun h

      pub span-in : 2 * i + 1 < length ws
      span-in = omega (arith, x.room)

      pub span-low : Fits w64 (get_or ws (2 * i) 0 + shift)
      span-low = record { fits = omega (arith, here.order, here.most, x.small) }

      pub span-high : Fits w64 (get_or ws (2 * i + 1) 0 + shift)
      span-high = record { fits = omega (arith, here.most, x.small) }

      pub span_more : {b : Bool} → not b ≡ false → (b ≡ true → RunInside held 0 (length held / 2) (run (get_or ws (2 * i) 0 + shift) (get_or ws (2 * i + 1) 0 + shift)))
          → SpanWalk ws from to shift held (i + 1)
      span_more {b} e f = record {
        begun = omega (arith, x.begun);
        within = omega arith;
        room = x.room;
        small = x.small;
        sound = x.sound;
        done = λ j p q.
            ⊎_elim
            (λ (d : j ≡ i). subst⁻¹ (λ n. RunInside held 0 (length held / 2) (shift_run shift (run_at ws n))) d (f (sym (Bool·not-not b) ∙ ap not e)))
            (λ (d : j ≡ i → ⊥). x.done j p (omega (arith, d)))
            (equal_or_not j i);
      }

pub ruleset span-held-cases = (span-begin, span-not, span-done, span-in, span-low, span-high, span_more, rules)

-- ---- the live outputs

pub held-not : {offsets : List ℕ} {outs : ℕ} {spans ws held : List ℕ} → false ≡ true → OutputsHeld offsets outs spans ws held
held-not = no_answer

pub record HeldSoFar (offsets : List ℕ) (outs : ℕ) (spans : List ℕ) (base : ℕ) (ws held : List ℕ) (left : ℕ) : Type 0 where
  pub few : base ≤ falling_sections
  pub ready : OutputsReady offsets outs spans ws
  pub ascending : Ascending spans base
  pub last : get_or spans (base + 64) 0 ≤ length held / 2
  pub small : left < 2 ^ 64
  pub within : (o : ℕ) → bit left o ≡ true → bit outs o ≡ true
  pub done : (o : ℕ) → o < 64 → bit outs o ≡ true → bit left o ≡ false → OutputHeld offsets spans ws held o

module _ {offsets : List ℕ} {outs : ℕ} {spans : List ℕ} {base : ℕ} {ws held : List ℕ} where
  pub held-begin : base ≤ falling_sections → OutputsReady offsets outs spans ws → Ascending spans base → get_or spans (base + 64) 0 ≤ length held / 2
      → {left : ℕ} → Asked offsets outs held left → HeldSoFar offsets outs spans base ws held left
  held-begin b r a l q = record {
    few = b;
    ready = r;
    ascending = a;
    last = l;
    small = q.small;
    within = q.within;
    done = λ o h t f. whole-held r h t (q.others o h t f);
  }

  module _ {left : ℕ} (x : HeldSoFar offsets outs spans base ws held left) where
    pub held-done : left ≡ 0 → true ≡ true → OutputsHeld offsets outs spans ws held
    held-done z e = record { each = λ o h t. x.done o h t (ap (λ w. bit w o) z ∙ zero_bit o) }

    module _ (ne : left ≡ 0 → ⊥) where
      pub held_in : count_trailing_zeros 64 left < 64
      held_in = low-in x.small ne

      pub held_fits : Fits w64 (count_trailing_zeros 64 left)
      held_fits = record { fits = omega (arith, held_in) }

      pub held-few : base ≤ falling_sections
      held-few = x.few

      pub held-room : 4 * max_runs ≤ length ws
      held-room = x.ready.room

      pub held-ready : OutputReady offsets spans ws (count_trailing_zeros 64 left)
      held-ready = x.ready.each (count_trailing_zeros 64 left) held_in (x.within (count_trailing_zeros 64 left) (low-there x.small ne))

      pub held-section : SectionIn spans (base + count_trailing_zeros 64 left) (length held / 2)
      held-section =
          let o = count_trailing_zeros 64 left in
          let e : base + o + 1 ≡ base + (o + 1) = omega arith in
          let v : get_or spans (base + o + 1) 0 ≡ get_or spans (base + (o + 1)) 0 = ap (λ k. get_or spans k 0) e in
          record { ordered = x.ascending.next o held_in; within = omega (arith, v, x.ascending.most (o + 1) (omega (arith, held_in)), x.last) }

      pub held-less : bit_and left (left - 1) < left
      held-less = less-left x.small ne

      pub held_more : {b : Bool} → not b ≡ false → (b ≡ true → OutputHeld offsets spans ws held (count_trailing_zeros 64 left))
          → HeldSoFar offsets outs spans base ws held (bit_and left (left - 1))
      held_more {b} e f = record {
        few = x.few;
        ready = x.ready;
        ascending = x.ascending;
        last = x.last;
        small = omega (arith, held-less, x.small);
        within = λ o t. x.within o (and_within left (left - 1) o t);
        done = λ o h t u.
            ⊎_elim
            (λ (d : o ≡ count_trailing_zeros 64 left). subst⁻¹ (λ n. OutputHeld offsets spans ws held n) d (f (sym (Bool·not-not b) ∙ ap not e)))
            (λ (d : o ≡ count_trailing_zeros 64 left → ⊥). x.done o h t (sym (others-stay x.small ne o d) ∙ u))
            (equal_or_not o (count_trailing_zeros 64 left));
      }

pub ruleset held-cases = (held-begin, held-not, held-done, held_in, held_fits, held-few, held-room, held-ready, held-section, held-less, held_more, rules)
