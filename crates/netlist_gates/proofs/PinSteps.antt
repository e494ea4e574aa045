-- The pins of a gate, one at a time.
use Rattle.model.proofs.Prelude.{ℕ, ◌≤◌, ◌<◌, ◌+◌, ◌-◌, suc, ◌^◌, zero, ◌≡◌, ◌∙◌, ap, refl, sym, subst, true, Bool, false, ◌&&◌, and-true, List, ◌∷◌}
use Rattle.model.proofs.Prelude.{get_or, drop, drop-drop, ltb, ltb→lt, sub-one, arith, lt-ltb, le-ltb}
use Rattle.model.specs.Base.{field}
use Rattle.model.specs.Read.{net_fields}
use Rattle.model.proofs.BoolLaws.{and_left, and_right, T→true, true→T}
use Rattle.netlist_gates.specs.GateReading.{pins_lower_of, pin_sum_of, SumIs}
use Rattle.std.specs.Prelude.{Option}

pub pins-step : (n at : ℕ) (s : List ℕ) → 0 < n → net_fields n (drop at s) ≡ field at 2 s ∷ net_fields (n - 1) (drop (at + 2) s)
pins-step zero at s h = absurd (omega arith)
pins-step (suc n) at s h = rw (sub-one (suc n), ← drop-drop 2 at s) refl

module _ (net n at : ℕ) (s : List ℕ) (whole : Bool) (pin : ℕ) where
  step : 0 < n → pin ≡ field at 2 s → pins_lower_of net n at s ≡ ltb pin net && pins_lower_of net (n - 1) (at + 2) s
  unfolding pins_lower_of
  step h e = rw (pins-step n at s h, e) refl

  pub lower-again : 0 < n → pin ≡ field at 2 s → pin < net → pins_lower_of net n at s ≡ whole → pins_lower_of net (n - 1) (at + 2) s ≡ whole
  lower-again h e l w =
      let z : ltb pin net && pins_lower_of net (n - 1) (at + 2) s ≡ whole = sym (step h e) ∙ w in
      rw (lt-ltb pin net l) at z

  pub lower-stop : 0 < n → pin ≡ field at 2 s → net ≤ pin → pins_lower_of net n at s ≡ whole → false ≡ whole
  lower-stop h e l w =
      let z : ltb pin net && pins_lower_of net (n - 1) (at + 2) s ≡ whole = sym (step h e) ∙ w in
      rw (le-ltb pin net l) at z

pub lower-end : (net n at : ℕ) (s : List ℕ) (whole : Bool) → n ≤ 0 → pins_lower_of net n at s ≡ whole → true ≡ whole
unfolding pins_lower_of
lower-end net zero at s whole h w = w
lower-end net (suc n) at s whole h w = absurd (omega arith)

module _ (net n at : ℕ) (s : List ℕ) (pin : ℕ) where
  pub lower-first : 0 < n → pin ≡ field at 2 s → pins_lower_of net n at s ≡ true → pin < net
  lower-first h e w = ltb→lt pin net (and_left (ltb pin net) (pins_lower_of net (n - 1) (at + 2) s) (true→T _ (sym (step net n at s true pin h e) ∙ w)))

pub lower-rest : (net n at : ℕ) (s : List ℕ) → 0 < n → pins_lower_of net n at s ≡ true → pins_lower_of net (n - 1) (at + 2) s ≡ true
lower-rest net n at s h w =
    let rest = pins_lower_of net (n - 1) (at + 2) s in
    T→true rest (and_right (ltb (field at 2 s) net) rest (true→T _ (sym (step net n at s true (field at 2 s) h refl) ∙ w)))

module _ (counts : List ℕ) (n at : ℕ) (s : List ℕ) (sum whole pin : ℕ) where
  split : 0 < n → pin ≡ field at 2 s → pin_sum_of counts n at s ≡ get_or counts pin 0 + pin_sum_of counts (n - 1) (at + 2) s
  unfolding pin_sum_of
  split h e = rw (pins-step n at s h, e) refl

  pub sum-again : 0 < n → pin ≡ field at 2 s → sum + pin_sum_of counts n at s ≡ whole → sum + get_or counts pin 0 + pin_sum_of counts (n - 1) (at + 2) s ≡ whole
  sum-again h e w = omega (arith, split h e)

  pub sum-stop : 0 < n → pin ≡ field at 2 s → sum + pin_sum_of counts n at s ≡ whole → sum ≤ 2 ^ 62 → 2 ^ 62 - sum < get_or counts pin 0 → 2 ^ 62 < whole
  sum-stop h e w l o = omega (arith, split h e)

pub sum-end : (counts : List ℕ) (n at : ℕ) (s : List ℕ) (sum whole : ℕ) → n ≤ 0 → sum + pin_sum_of counts n at s ≡ whole → sum ≡ whole
unfolding pin_sum_of
sum-end counts zero at s sum whole h w = omega arith
sum-end counts (suc n) at s sum whole h w = absurd (omega arith)

pub sum_fits : (counts : List ℕ) (n at : ℕ) (s : List ℕ) (sum whole : ℕ) → n ≤ 0 → sum ≤ 2 ^ 62 → sum + pin_sum_of counts n at s ≡ whole → whole ≤ 2 ^ 62
sum_fits counts n at s sum whole h l w = omega (arith, sum-end counts n at s sum whole h w)

-- ---- the same by what is left of 2^62

module _ (counts : List ℕ) (n at : ℕ) (s : List ℕ) (room whole pin : ℕ) where
  pub room-again : 0 < n → pin ≡ field at 2 s → 2 ^ 62 + pin_sum_of counts n at s ≡ room + whole → get_or counts pin 0 ≤ room
      → 2 ^ 62 + pin_sum_of counts (n - 1) (at + 2) s ≡ room - get_or counts pin 0 + whole
  room-again h e w l = omega (arith, split counts n at s 0 0 pin h e)

  pub room-stop : 0 < n → pin ≡ field at 2 s → 2 ^ 62 + pin_sum_of counts n at s ≡ room + whole → room < get_or counts pin 0 → 2 ^ 62 < whole
  room-stop h e w o = omega (arith, split counts n at s 0 0 pin h e)

pub room-end : (counts : List ℕ) (n at : ℕ) (s : List ℕ) (room whole : ℕ) → n ≤ 0 → 2 ^ 62 + pin_sum_of counts n at s ≡ room + whole → 2 ^ 62 - room ≡ whole
unfolding pin_sum_of
room-end counts zero at s room whole h w = omega arith
room-end counts (suc n) at s room whole h w = absurd (omega arith)

pub room-fits : (counts : List ℕ) (n at : ℕ) (s : List ℕ) (room whole : ℕ) → n ≤ 0 → 2 ^ 62 + pin_sum_of counts n at s ≡ room + whole → whole ≤ 2 ^ 62
unfolding pin_sum_of
room-fits counts zero at s room whole h w = omega arith
room-fits counts (suc n) at s room whole h w = absurd (omega arith)

-- ---- a gate of two pins

module _ (net : ℕ) (s : List ℕ) (a b : ℕ) (e : a ≡ field 4 2 s) (d : b ≡ field 6 2 s) where
  both-lower : pins_lower_of net 2 4 s ≡ ltb a net && (ltb b net && true)
  unfolding pins_lower_of
  both-lower = step net 2 4 s true a (omega arith) e ∙ ap (λ (x : Bool). ltb a net && x) (step net 1 6 s true b (omega arith) d)

  pub two-first-not : net ≤ a → false ≡ pins_lower_of net 2 4 s
  two-first-not h = sym (both-lower ∙ rw (le-ltb a net h) refl)

  pub two-decides : a < net → ltb b net ≡ pins_lower_of net 2 4 s
  two-decides h = sym (both-lower ∙ rw (lt-ltb a net h) (and-true (ltb b net)))

pub two-second-net : (net : ℕ) (s : List ℕ) (b : ℕ) → b ≡ field 6 2 s → pins_lower_of net 2 4 s ≡ true → b < net
two-second-net net s b d w = lower-first net 1 6 s b (omega arith) d (lower-rest net 2 4 s (omega arith) w)

module _ (counts s : List ℕ) (a b : ℕ) (e : a ≡ field 4 2 s) (d : b ≡ field 6 2 s) where
  both-sum : pin_sum_of counts 2 4 s ≡ get_or counts a 0 + (get_or counts b 0 + 0)
  unfolding pin_sum_of
  both-sum = split counts 2 4 s 0 0 a (omega arith) e ∙ ap (λ (x : ℕ). get_or counts a 0 + x) (split counts 1 6 s 0 0 b (omega arith) d)

  pub two-first-over : 2 ^ 62 < get_or counts a 0 → 2 ^ 62 < pin_sum_of counts 2 4 s
  two-first-over h = omega (arith, both-sum)

  pub two-over : get_or counts a 0 ≤ 2 ^ 62 → 2 ^ 62 - get_or counts a 0 < get_or counts b 0 → 2 ^ 62 < pin_sum_of counts 2 4 s
  two-over h l = omega (arith, both-sum)

  pub two-sum-is : get_or counts a 0 + get_or counts b 0 ≡ pin_sum_of counts 2 4 s
  two-sum-is = omega (arith, both-sum)

  pub two-sum-fits : get_or counts a 0 ≤ 2 ^ 62 → get_or counts b 0 ≤ 2 ^ 62 - get_or counts a 0 → pin_sum_of counts 2 4 s ≤ 2 ^ 62
  two-sum-fits h l = omega (arith, both-sum)

module _ (s : List ℕ) {pins : ℕ} (two : pins ≡ 2) where
  pub lower-as_two : (net : ℕ) (r : Bool) → r ≡ pins_lower_of net 2 4 s → r ≡ pins_lower_of net pins 4 s
  lower-as_two net r e = e ∙ ap (λ (n : ℕ). pins_lower_of net n 4 s) (sym two)

  pub two-lower-still : (net : ℕ) → pins_lower_of net pins 4 s ≡ true → pins_lower_of net 2 4 s ≡ true
  two-lower-still net e = sym (ap (λ (n : ℕ). pins_lower_of net n 4 s) two) ∙ e

  pub sum-as_two : (counts : List ℕ) (r : Option ℕ) → SumIs r (pin_sum_of counts 2 4 s) → SumIs r (pin_sum_of counts pins 4 s)
  sum-as_two counts r i = subst (λ (n : ℕ). SumIs r (pin_sum_of counts n 4 s)) (sym two) i
