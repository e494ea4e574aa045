-- What the pins of a gate show, the last pin first: those from k on are scanned, and one pin more.
use Rattle.model.proofs.Prelude.{ℕ, ◌≤◌, ◌<◌, ◌+◌, ◌-◌, ◌^◌, ◌≡◌, ◌∙◌, ap, refl, sym, subst, ap₂, true, Bool, false, ◌&&◌, ◌||◌, or_comm, List, ◌∷◌}
use Rattle.model.proofs.Prelude.{get_or, arith}
use lib.Bits.{bit_and, bit_or, bit_xor}
use Rattle.model.specs.Base.{any_of, bit}
use Rattle.model.specs.Detect.{odd}
use Rattle.record_bytes.proofs.BitLaws.{and_bit, or_bit, xor_bit, zero_bit}
use Rattle.block_words.specs.Words.{bits_at, words_at, unequal, two_of, nets_from, PinPlace, TallyAt, TallyIs}
use Rattle.block_words.specs.Robust.{SteadyControllingIs}
use Rattle.block_words.specs.NetStates.{v1_words, v2_words, steady_words, PinAdded, PinsScanned}
use Rattle.block_words.specs.declared.inner.gates.Gate.{Gate}
use Rattle.block_words.specs.declared.inner.gates.PinTally.{PinTally}
use Rattle.block_words.proofs.WordLaws.{nets-more, nets-none, nets-all}
use Rattle.block_words.proofs.PlaneLaws.{pin_at, pin-first}

-- one value more
unequal-turn : (a b : Bool) → unequal a b ≡ unequal b a
unequal-turn true true = refl
unequal-turn true false = refl
unequal-turn false true = refl
unequal-turn false false = refl

tally_more : {vs : List Bool} {tally r : PinTally} {mask value t : ℕ} → TallyAt vs (bit mask t) tally t → PinAdded tally mask value r
    → TallyAt (bit value t ∷ vs) (bit mask t) r t
tally_more {vs} {tally} {r} {mask} {value} {t} x s =
    let u = unequal (bit mask t) in
    record {
      ones = s.ones t ∙ ap (λ a. a || u (bit value t)) x.ones ∙ or_comm (any_of u vs) (u (bit value t));
      twos = s.twos t ∙ ap₂ (λ a b. a || (b && u (bit value t))) x.twos x.ones ∙ or_comm (two_of u vs) (any_of u vs && u (bit value t));
      parities = s.parities t ∙ ap (λ a. unequal a (bit value t)) x.parities ∙ unequal-turn (odd vs) (bit value t);
    }

-- the words say what the pins from k on show
pub record ShownFrom (table : List ℕ) (g : Gate) (mask : ℕ) (array : List ℕ) (k : ℕ) (tally : PinTally) : Type 0 where
  pub at : (t : ℕ) → TallyAt (bits_at (words_at array (nets_from table (g.first + k) (g.pins - k))) t) (bit mask t) tally t

module _ {table : List ℕ} {g : Gate} {mask : ℕ} {array : List ℕ} where
  show_none : ShownFrom table g mask array g.pins (record { one = 0; two = 0; parity = 0 })
  show_none = record {
    at = λ t. subst (λ ns. TallyAt (bits_at (words_at array ns) t) (bit mask t) (record { one = 0; two = 0; parity = 0 }) t)
        (sym (nets-none table g.first g.pins)) (record { ones = zero_bit t; twos = zero_bit t; parities = zero_bit t });
  }

  show_more : {k net value : ℕ} {tally r : PinTally} → 0 < k → k ≤ g.pins → net ≡ get_or table (g.first + (k - 1)) 0 → get_or array net 0 ≡ value
      → ShownFrom table g mask array k tally → PinAdded tally mask value r → ShownFrom table g mask array (k - 1) r
  show_more {k} {net} {value} {tally} {r} l m e v x s = record {
    at = λ t. subst (λ ns. TallyAt (bits_at (words_at array ns) t) (bit mask t) r t) (sym (nets-more table g.first g.pins k net l m e))
        (tally_more (x.at t) (subst (λ w. PinAdded tally mask w r) (sym v) s));
  }

  show_all : {k : ℕ} {tally : PinTally} → k ≤ 0 → ShownFrom table g mask array k tally → TallyIs table g mask array tally
  show_all {k} {tally} z x = record {
    at = λ t. subst (λ ns. TallyAt (bits_at (words_at array ns) t) (bit mask t) tally t) (nets-all table g.first g.pins k z) (x.at t);
  }

-- a pin from k on is steady at the controlling value
abbrev steady_controlling_by : ℕ → List ℕ → List ℕ → ℕ → ℕ → Bool
steady_controlling_by mask lasts steadies t net = bit (get_or steadies net 0) t && unequal (bit mask t) (bit (get_or lasts net 0) t)

pub record SteadyControllingFrom (table : List ℕ) (g : Gate) (lasts steadies : List ℕ) (k word : ℕ) : Type 0 where
  pub at : (t : ℕ) → bit word t
      ≡ any_of (λ net. bit (get_or steadies net 0) t && unequal (bit g.noncontrolling_mask t) (bit (get_or lasts net 0) t)) (nets_from table (g.first + k) (g.pins - k))

module _ {table : List ℕ} {g : Gate} {lasts steadies : List ℕ} where
  steady-none : SteadyControllingFrom table g lasts steadies g.pins 0
  steady-none = record { at = λ t. zero_bit t ∙ ap (any_of (steady_controlling_by g.noncontrolling_mask lasts steadies t)) (sym (nets-none table g.first g.pins)) }

  steady-more : {k net v2 steady word : ℕ} → 0 < k → k ≤ g.pins → net ≡ get_or table (g.first + (k - 1)) 0 → get_or lasts net 0 ≡ v2 → get_or steadies net 0 ≡ steady
      → SteadyControllingFrom table g lasts steadies k word → SteadyControllingFrom table g lasts steadies (k - 1) (bit_or word (bit_and steady (bit_xor g.noncontrolling_mask v2)))
  steady-more {k} {net} {v2} {steady} {word} l m e v s x = record {
    at = λ t.
        let holds = steady_controlling_by g.noncontrolling_mask lasts steadies t in
        let pin : bit (bit_and steady (bit_xor g.noncontrolling_mask v2)) t ≡ holds net =
        and_bit steady (bit_xor g.noncontrolling_mask v2) t
        ∙ ap₂ (λ a b. a && b) (ap (λ w. bit w t) (sym s)) (xor_bit g.noncontrolling_mask v2 t ∙ ap (λ w. unequal (bit g.noncontrolling_mask t) (bit w t)) (sym v)) in
        or_bit word (bit_and steady (bit_xor g.noncontrolling_mask v2)) t ∙ ap₂ (λ a b. a || b) (x.at t) pin
        ∙ or_comm (any_of holds (nets_from table (g.first + k) (g.pins - k))) (holds net)
        ∙ ap (any_of holds) (sym (nets-more table g.first g.pins k net l m e));
  }

  steady-all : {k word : ℕ} → k ≤ 0 → SteadyControllingFrom table g lasts steadies k word → SteadyControllingIs table g lasts steadies word
  steady-all {k} {word} z x = record {
    at = λ t. x.at t ∙ ap (any_of (steady_controlling_by g.noncontrolling_mask lasts steadies t)) (nets-all table g.first g.pins k z);
  }

-- all that the pins from k on show
pub record ScannedFrom (table : List ℕ) (g : Gate) (words : List ℕ) (k : ℕ) (tally₁ tally₂ tally₃ : PinTally) (word : ℕ) : Type 0 where
  pub within : k ≤ g.pins
  pub first : ShownFrom table g g.noncontrolling_mask (v1_words words) k tally₁
  pub last : ShownFrom table g g.noncontrolling_mask (v2_words words) k tally₂
  pub unsteady : ShownFrom table g (2 ^ 64 - 1) (steady_words words) k tally₃
  pub steady_controlling_of : SteadyControllingFrom table g (v2_words words) (steady_words words) k word

module _ {table : List ℕ} {g : Gate} {words : List ℕ} where
  pub scan_pins-start : ScannedFrom table g words g.pins (record { one = 0; two = 0; parity = 0 }) (record { one = 0; two = 0; parity = 0 })
      (record { one = 0; two = 0; parity = 0 }) 0
  scan_pins-start = record { within = omega arith; first = show_none; last = show_none; unsteady = show_none; steady_controlling_of = steady-none }

  module _ {k : ℕ} {first last unsteady : PinTally} {word : ℕ} (x : ScannedFrom table g words k first last unsteady word) where
    pub scan_pins-step : {at : ℕ} {first' last' unsteady' : PinTally} → 0 < k → PinPlace table g (k - 1) at
        → PinAdded first g.noncontrolling_mask (get_or words at 0) first' → PinAdded last g.noncontrolling_mask (get_or words (at + 1) 0) last'
        → PinAdded unsteady (2 ^ 64 - 1) (get_or words (at + 2) 0) unsteady'
        → ScannedFrom table g words (k - 1) first' last' unsteady' (bit_or word (bit_and (get_or words (at + 2) 0) (bit_xor g.noncontrolling_mask (get_or words (at + 1) 0))))
    scan_pins-step l h s₁ s₂ s₃ = record {
      within = omega (arith, x.within);
      first = show_more l x.within refl (pin-first h words) x.first s₁;
      last = show_more l x.within refl (pin_at h words 1) x.last s₂;
      unsteady = show_more l x.within refl (pin_at h words 2) x.unsteady s₃;
      steady_controlling_of = steady-more l x.within refl (pin_at h words 1) (pin_at h words 2) x.steady_controlling_of;
    }

    pub scan_pins-end : k ≤ 0 → PinsScanned table g words (record { first = first; last = last; unsteady = unsteady; steady_controlling = word })
    scan_pins-end z = record { first = show_all z x.first; last = show_all z x.last; unsteady = show_all z x.unsteady; steady_controlling_of = steady-all z x.steady_controlling_of }
