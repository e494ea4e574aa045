-- Sections: those that stay, and those that are cleared or found one after the other.
use Rattle.model.proofs.Prelude.{ℕ, ◌≤◌, ◌<◌, ◌+◌, ◌-◌, ◌*◌, ◌≡◌, ◌∙◌, ap, refl, sym, subst, ⊎_elim, ◌⊎◌, List, length, get_or, set, length-set}
use Rattle.model.proofs.Prelude.{get_or-set_same, get_or-set_other, arith, rules}
use Rattle.model.proofs.BoolLaws.{equal_or_not}
use mir.Val.{Fits}
use mir.Syntax.{w64}
use Rattle.block_intervals.specs.Spans.{Ascending, InputSpans}
use Rattle.block_intervals.specs.Layout.{spans_size, sections_size, ends_at, shifts_at, rising_sections, falling_sections}

pub ascending-same : {base : ℕ} {spans spans' : List ℕ} → ((k : ℕ) → base ≤ k → k ≤ base + 64 → get_or spans' k 0 ≡ get_or spans k 0)
    → Ascending spans base → Ascending spans' base
ascending-same {base} same a =
    let last = same (base + 64) (omega arith) (omega arith) in
    record {
      next = λ o h. (let here = same (base + o) (omega arith) (omega arith) in
          let after = same (base + o + 1) (omega arith) (omega arith) in
          omega (arith, here, after, a.next o h));
      most = λ o h. (let here = same (base + o) (omega arith) (omega arith) in omega (arith, here, last, a.most o h));
    }

-- ---- sections that are all 0

pub record Cleared (spans : List ℕ) (o : ℕ) : Type 0 where
  pub room : length spans ≡ spans_size
  pub within : o ≤ 132
  pub zeros : (k : ℕ) → k < o → get_or spans (rising_sections + k) 0 ≡ 0

pub cleared_none : {spans : List ℕ} → length spans ≡ spans_size → Cleared spans 0
cleared_none l = record { room = l; within = omega arith; zeros = λ k h. absurd (omega arith) }

module _ {spans : List ℕ} {o : ℕ} (x : Cleared spans o) where
  pub cleared_more : o < sections_size → Cleared (set spans (rising_sections + o) 0) (o + 1)
  cleared_more h = record {
    room = length-set spans (rising_sections + o) 0 ∙ x.room;
    within = omega arith;
    zeros = λ k p.
        ⊎_elim
        (λ (e : k ≡ o). ap (λ j. get_or (set spans (rising_sections + o) 0) (rising_sections + j) 0) e ∙ get_or-set_same spans (rising_sections + o) 0 0 (omega (arith, x.room)))
        (λ (d : k ≡ o → ⊥). get_or-set_other spans (rising_sections + o) (rising_sections + k) 0 0 (λ e. d (minus o k e)) ∙ x.zeros k (omega (arith, d)))
        (equal_or_not k o);
  }
    where
      minus : (a b : ℕ) → rising_sections + b ≡ rising_sections + a → b ≡ a
      minus a b e = omega arith

  module _ (h : 132 ≤ o) where
    zero_at : (k : ℕ) → rising_sections ≤ k → k < spans_size → get_or spans k 0 ≡ 0
    zero_at k l m =
        let e : rising_sections + (k - rising_sections) ≡ k = omega arith in
        ap (λ j. get_or spans j 0) (sym e) ∙ x.zeros (k - rising_sections) (omega arith)

    cleared_all : (base : ℕ) → rising_sections ≤ base → base ≤ falling_sections → Ascending spans base
    cleared_all base l m = record {
      next = λ k p. (let here = zero_at (base + k) (omega arith) (omega arith) in omega (arith, here));
      most = λ k p. (let here = zero_at (base + k) (omega arith) (omega arith) in omega (arith, here));
    }

    pub cleared_rising : Ascending spans rising_sections
    cleared_rising = cleared_all rising_sections (omega arith) (omega arith)

    pub cleared_falling : Ascending spans falling_sections
    cleared_falling = cleared_all falling_sections (omega arith) (omega arith)

  pub cleared_room : length spans ≡ spans_size
  cleared_room = x.room

pub ruleset clear-cases = (cleared_none, cleared_more, cleared_rising, cleared_falling, cleared_room, rules)

-- ---- sections found one after the other

-- those before `output` are found, the last of them begins at run `at` at the latest; nothing else of the spans has changed
pub record Found (spans₀ : List ℕ) (base : ℕ) (spans : List ℕ) (at output : ℕ) : Type 0 where
  pub base_is : (base ≡ rising_sections) ⊎ (base ≡ falling_sections)
  pub room : length spans ≡ spans_size
  pub last : (k : ℕ) → k < output → get_or spans (base + k) 0 ≤ at
  pub next : (k : ℕ) → k + 1 < output → get_or spans (base + k) 0 ≤ get_or spans (base + k + 1) 0
  pub below : (k : ℕ) → k < base → get_or spans k 0 ≡ get_or spans₀ k 0
  pub above : (k : ℕ) → base + 64 < k → get_or spans k 0 ≡ get_or spans₀ k 0

base_most : {base : ℕ} → (base ≡ rising_sections) ⊎ (base ≡ falling_sections) → base ≤ falling_sections
base_most b = ⊎_elim (λ e. omega arith) (λ e. omega arith) b

found-more : {spans₀ : List ℕ} {base : ℕ} {spans : List ℕ} {at output : ℕ} → Found spans₀ base spans at output → {new : ℕ} → at ≤ new → output ≤ 64
    → Found spans₀ base (set spans (base + output) new) new (output + 1)
found-more {spans₀} {base} {spans} {at} {output} x {new} h l = record {
  base_is = x.base_is;
  room = length-set spans (base + output) new ∙ x.room;
  last = λ k p.
      ⊎_elim
      (λ (e : k ≡ output). let v : get_or (set spans (base + output) new) (base + k) 0 ≡ new = ap (λ j. get_or (set spans (base + output) new) (base + j) 0) e ∙ here in omega (arith, v))
      (λ (d : k ≡ output → ⊥). let v = there (base + k) (λ e. d (minus e)) in omega (arith, v, x.last k (omega (arith, d))))
      (equal_or_not k output);
  next = λ k p.
      let v = there (base + k) (λ e. omega arith) in
      ⊎_elim
      (λ (e : k + 1 ≡ output).
      let i : base + k + 1 ≡ base + output = omega arith in
      let w : get_or (set spans (base + output) new) (base + k + 1) 0 ≡ new = ap (λ j. get_or (set spans (base + output) new) j 0) i ∙ here in
      omega (arith, v, w, x.last k (omega arith)))
      (λ (d : k + 1 ≡ output → ⊥). let w = there (base + k + 1) (λ e. d (omega arith)) in omega (arith, v, w, x.next k (omega (arith, d))))
      (equal_or_not (k + 1) output);
  below = λ k p. there k (λ e. omega arith) ∙ x.below k p;
  above = λ k p. there k (λ e. omega arith) ∙ x.above k p;
}
  where
    here : get_or (set spans (base + output) new) (base + output) 0 ≡ new
    here = get_or-set_same spans (base + output) new 0 (omega (arith, base_most x.base_is, x.room))

    there : (k : ℕ) → (k ≡ base + output → ⊥) → get_or (set spans (base + output) new) k 0 ≡ get_or spans k 0
    there k d = get_or-set_other spans (base + output) k new 0 d

    minus : {k : ℕ} → base + k ≡ base + output → k ≡ output
    minus e = omega arith

-- the loop: `at` is at most the number of held runs
pub record Finding (spans₀ : List ℕ) (base count : ℕ) (spans : List ℕ) (at output : ℕ) : Type 0 where
  pub within : output ≤ 64
  pub most : at ≤ count
  pub found : Found spans₀ base spans at output

-- the word after the sections of an edge, written first
pub first-written : (spans : List ℕ) (base new : ℕ) → (base ≡ rising_sections) ⊎ (base ≡ falling_sections) → (inputs : ℕ) → inputs ≤ 64 → InputSpans spans inputs
    → InputSpans (set spans (base + 65) new) inputs
first-written spans base new b inputs few i = record {
  room = length-set spans (base + 65) new ∙ i.room;
  rising = ascending-same (λ k p q. there k (apart k p q)) i.rising;
  falling = ascending-same (λ k p q. there k (beyond k p q)) i.falling;
  firsts = λ j h. there j (low j (omega arith)) ∙ i.firsts j h;
  ends = λ j h. there (ends_at + j) (low (ends_at + j) (omega arith)) ∙ i.ends j h;
  shifts = λ j h. there (shifts_at + j) (low (shifts_at + j) (omega arith)) ∙ i.shifts j h;
}
  where
    there : (k : ℕ) → (k ≡ base + 65 → ⊥) → get_or (set spans (base + 65) new) k 0 ≡ get_or spans k 0
    there k d = get_or-set_other spans (base + 65) k new 0 d

    low : (k : ℕ) → k < rising_sections → k ≡ base + 65 → ⊥
    low k l e = ⊎_elim (λ (z : base ≡ rising_sections). omega arith) (λ (z : base ≡ falling_sections). omega arith) b

    apart : (k : ℕ) → rising_sections ≤ k → k ≤ rising_sections + 64 → k ≡ base + 65 → ⊥
    apart k l m e = ⊎_elim (λ (z : base ≡ rising_sections). omega arith) (λ (z : base ≡ falling_sections). omega arith) b

    beyond : (k : ℕ) → falling_sections ≤ k → k ≤ falling_sections + 64 → k ≡ base + 65 → ⊥
    beyond k l m e = ⊎_elim (λ (z : base ≡ rising_sections). omega arith) (λ (z : base ≡ falling_sections). omega arith) b

pub first-room : (spans : List ℕ) (base new : ℕ) → length spans ≡ spans_size → length (set spans (base + 65) new) ≡ spans_size
first-room spans base new l = length-set spans (base + 65) new ∙ l

module _ {base : ℕ} (b : (base ≡ rising_sections) ⊎ (base ≡ falling_sections)) where
  pub first-place : base + 65 < spans_size
  first-place = omega (arith, base_most b)

  pub first_fits : Fits w64 (base + 65)
  first_fits = record { fits = omega (arith, base_most b) }

  pub first-bytes : Fits w64 ((base + 65) * 8)
  first-bytes = record { fits = omega (arith, base_most b) }

module _ {spans₀ : List ℕ} {base count : ℕ} where
  pub finding_none : length spans₀ ≡ spans_size → (base ≡ rising_sections) ⊎ (base ≡ falling_sections) → Finding spans₀ base count spans₀ 0 0
  finding_none l b = record {
    within = omega arith;
    most = omega arith;
    found = record {
      base_is = b;
      room = l;
      last = λ k p. absurd (omega arith);
      next = λ k p. absurd (omega arith);
      below = λ k p. refl;
      above = λ k p. refl;
    };
  }

  module _ {spans : List ℕ} {at output : ℕ} (x : Finding spans₀ base count spans at output) where
    pub finding_most : at ≤ count
    finding_most = x.most

    pub finding_base : base ≤ falling_sections
    finding_base = base_most x.found.base_is

    pub finding_place : (k : ℕ) → k ≤ 64 → base + k < spans_size
    finding_place k h = omega (arith, finding_base)

    pub finding_fits : (k : ℕ) → k ≤ 64 → Fits w64 (base + k)
    finding_fits k h = record { fits = omega (arith, finding_base) }

    pub finding_bytes : (k : ℕ) → k ≤ 64 → Fits w64 ((base + k) * 8)
    finding_bytes k h = record { fits = omega (arith, finding_base) }

    pub finding_more : output < 64 → {new : ℕ} → (at ≤ new) × (new ≤ count) → Finding spans₀ base count (set spans (base + output) new) new (output + 1)
    finding_more h b = record { within = omega arith; most = b.1; found = found-more x.found b.0 (omega arith) }

    module _ (h : 64 ≤ output) where
      done : Found spans₀ base (set spans (base + 64) count) count 65
      done =
          let e : output ≡ 64 = omega (arith, x.within) in
          let y : Found spans₀ base (set spans (base + output) count) count (output + 1) = found-more x.found x.most x.within in
          subst (λ n. Found spans₀ base (set spans (base + n) count) count (n + 1)) e y

      same-below : (k : ℕ) → k < rising_sections → get_or (set spans (base + 64) count) k 0 ≡ get_or spans₀ k 0
      same-below k p = done.below k (⊎_elim (λ (e : base ≡ rising_sections). omega arith) (λ (e : base ≡ falling_sections). omega arith) done.base_is)

      these : Ascending (set spans (base + 64) count) base
      these = record {
        next = λ o p. done.next o (omega arith);
        most = λ o p. (let last : get_or (set spans (base + 64) count) (base + 64) 0 ≡ count = get_or-set_same spans (base + 64) count 0 (omega (arith, finding_base, x.found.room)) in
            omega (arith, last, done.last o (omega arith)));
      }

      pub finding_room : length (set spans (base + 64) count) ≡ spans_size
      finding_room = done.room

      pub finding_done : (inputs : ℕ) → inputs ≤ 64 → InputSpans spans₀ inputs → InputSpans (set spans (base + 64) count) inputs
      finding_done inputs few i = record {
        room = done.room;
        rising = ⊎_elim
            (λ (e : base ≡ rising_sections). subst (λ b. Ascending (set spans (base + 64) count) b) e these)
            (λ (e : base ≡ falling_sections). ascending-same (λ k p q. done.below k (omega arith)) i.rising)
            done.base_is;
        falling = ⊎_elim
            (λ (e : base ≡ rising_sections). ascending-same (λ k p q. done.above k (omega arith)) i.falling)
            (λ (e : base ≡ falling_sections). subst (λ b. Ascending (set spans (base + 64) count) b) e these)
            done.base_is;
        firsts = λ j h. same-below j (omega arith) ∙ i.firsts j h;
        ends = λ j h. same-below (ends_at + j) (omega arith) ∙ i.ends j h;
        shifts = λ j h. same-below (shifts_at + j) (omega arith) ∙ i.shifts j h;
      }

pub finding_all : (spans₁ : List ℕ) (new : ℕ) {base count : ℕ} {spans : List ℕ} {at output : ℕ} → Finding (set spans₁ (base + 65) new) base count spans at output → 64 ≤ output
    → (inputs : ℕ) → inputs ≤ 64 → InputSpans spans₁ inputs → InputSpans (set spans (base + 64) count) inputs
finding_all spans₁ new {base = base} x h inputs few i = finding_done x h inputs few (first-written spans₁ base new x.found.base_is inputs few i)

pub ruleset find_cases =
    (finding_none, finding_most, finding_base, finding_place, finding_fits, finding_bytes, finding_more, finding_room, finding_all, first-room, first-place, first_fits, first-bytes, rules)
