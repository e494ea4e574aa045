-- The runs of a gate's open pins, counted pin by pin; where the count is 0 the gate has none.
use Rattle.model.proofs.Prelude.{ℕ, ◌≤◌, ◌<◌, ◌+◌, ◌-◌, ◌*◌, suc, zero, ◌≡◌, ◌∙◌, ap, refl, sym, ap₂, subst⁻¹, true, Bool, false, List, [], length}
use Rattle.model.proofs.Prelude.{get_or, take_all, eqb, add-one, arith, rules}
use mir.Val.{Fits}
use mir.Syntax.{w64}
use Rattle.model.specs.Base.{bit}
use Rattle.model.specs.Store.{max_runs}
use Rattle.netlist.specs.Tables.{pin_count_in, pin_in}
use Rattle.run_lists.specs.RunLists.{only_if, add_runs, shift_runs, runs_in_words, write_runs_of}
use Rattle.run_lists.specs.Answers.{Adds}
use Rattle.model.proofs.BoolLaws.{cases}
use Rattle.run_union.proofs.Adding.{answer-fits}
use Rattle.detection.specs.PlaceRuns.{paths_before, first_runs}
use Rattle.detection.proofs.AddedLaws.{as_adds}
use Rattle.run_shifted.specs.RunsOfPlaces.{runs_in, gate_places, gate_runs_of, GateReady}
use Rattle.run_shifted.proofs.OpenNetLaws.{times-most}
use Rattle.single_intervals.specs.OpenRuns.{count_if, run_count, pin_runs_of, open_runs_of, PinsReady}
use Rattle.std.specs.Prelude.{Some}

-- ---- the runs of one pin's net

-- a number times 0 or 1
count-times : (n : ℕ) {opened : ℕ} → opened < 2 → n * opened ≡ count_if (eqb opened 1) n
count-times n {opened} l = cases 1 opened
    (λ h. let one : opened ≡ 1 = omega arith in rw one (omega arith))
    (λ h. let none : opened ≡ 0 = omega arith in rw none (omega arith))

module _ (from to opened : ℕ) (l : opened < 2) where
  pub count_fits : to < 65536 → Fits w64 ((to - from) * opened)
  count_fits h = record { fits = omega (arith, times-most (to - from) l) }

  pub count_small : to < 65536 → (to - from) * opened < 65536
  count_small h = omega (arith, times-most (to - from) l)

  pub count-is : (starts : List ℕ) (net : ℕ) → from ≡ get_or starts net 0 → to ≡ get_or starts (net + 1) 0
      → (to - from) * opened ≡ count_if (eqb opened 1) (run_count starts net)
  count-is starts net e d = count-times (to - from) l ∙ ap₂ (λ (x y : ℕ). count_if (eqb opened 1) (y - x)) e d

pub ruleset count-cases = (count_fits, count_small, count-is, rules)

module _ {part starts : List ℕ} (ready : PinsReady part starts) {pin : ℕ} (h : pin < pin_count_in part) where
  pub pin-inside : 4 + 2 * pin + 2 ≤ length part
  pin-inside = omega (arith, ready.inside)

  pub pin-digit : pin < 64
  pin-digit = omega (arith, ready.few_pins)

  module _ {net : ℕ} (e : net ≡ pin_in part pin) where
    pub pin-is-net : net < 512
    pin-is-net = omega (arith, ready.are_nets pin h)

    pub pin-ordered : get_or starts net 0 ≤ get_or starts (net + 1) 0
    pin-ordered = subst⁻¹ (λ (x : ℕ). get_or starts x 0 ≤ get_or starts (x + 1) 0) e (ready.ordered pin h)

    pub pin-counted : (mask : ℕ) {k : ℕ} {b : Bool} → b ≡ bit mask pin → k ≡ count_if b (run_count starts net) → k ≡ pin_runs_of part mask starts pin
    pin-counted mask o c = c ∙ ap₂ (λ (b : Bool) (x : ℕ). count_if b (run_count starts x)) o e

pub ruleset pin-cases = (pin-inside, pin-digit, pin-is-net, pin-ordered, pin-counted, rules)

-- ---- all pins

-- `sum` counts the runs of the nets of the open ones of the first `pin` pins
pub record OpenDone (part : List ℕ) (mask : ℕ) (starts : List ℕ) (pins pin sum : ℕ) : Type 0 where
  pub ready : PinsReady part starts
  pub all : pins ≡ pin_count_in part
  pub within : pin ≤ pins
  pub total : sum ≡ open_runs_of part mask starts pin
  pub small : sum ≤ 65536 * pin

-- a gate of two pins
module _ (part : List ℕ) (mask : ℕ) (starts : List ℕ) {pins : ℕ} (e : pins ≡ pin_count_in part) (two : pins ≡ 2) where
  pub two-first : 0 < pin_count_in part
  two-first = omega arith

  pub two-second : 1 < pin_count_in part
  two-second = omega arith

  pub two-together : {a b : ℕ} → a ≡ pin_runs_of part mask starts 0 → b ≡ pin_runs_of part mask starts 1 → a + b ≡ open_runs_of part mask starts (pin_count_in part)
  unfolding open_runs_of
  two-together {a} {b} p q =
      let none : a + b ≡ 0 + a + b = omega arith in
      none ∙ ap₂ (λ (x y : ℕ). 0 + x + y) p q ∙ ap (open_runs_of part mask starts) (sym two ∙ e)

pub two_fits : {a b : ℕ} → a < 65536 → b < 65536 → Fits w64 (a + b)
two_fits p q = record { fits = omega arith }

module _ {part : List ℕ} {mask : ℕ} {starts : List ℕ} {pins : ℕ} where
  pub open_start : PinsReady part starts → pins ≡ pin_count_in part → OpenDone part mask starts pins 0 0
  unfolding open_runs_of
  open_start r e = record { ready = r; all = e; within = omega arith; total = refl; small = omega arith }

  module _ {pin sum : ℕ} (i : OpenDone part mask starts pins pin sum) where
    pub open_done : pins ≤ pin → sum ≡ open_runs_of part mask starts (pin_count_in part)
    open_done h = let e : pin ≡ pin_count_in part = omega (arith, i.within, i.all) in i.total ∙ ap (open_runs_of part mask starts) e

    module _ (h : pin < pins) where
      pub open_ready : PinsReady part starts
      open_ready = i.ready

      pub open_pin_lem : pin < pin_count_in part
      open_pin_lem = omega (arith, i.all)

      pub open_sum : {k : ℕ} → k < 65536 → Fits w64 (sum + k)
      open_sum l = record { fits = omega (arith, i.small, i.ready.few_pins, i.all) }

      pub open_more : {k : ℕ} → k ≡ pin_runs_of part mask starts pin → k < 65536 → OpenDone part mask starts pins (pin + 1) (sum + k)
      unfolding open_runs_of
      open_more {k} c l = record {
        ready = i.ready;
        all = i.all;
        within = omega arith;
        total = rw (add-one pin) (omega (arith, i.total, c));
        small = omega (arith, i.small);
      }

pub ruleset open-cases = (open_start, two-first, two-second, two-together, two_fits, open_done, open_ready, open_pin_lem, open_sum, open_more, rules)

-- ---- a gate whose open pins' nets have no run

module _ (part : List ℕ) (mask : ℕ) (counts starts ws : List ℕ) where
  place_none : (b : Bool) (o net : ℕ) → count_if b (run_count starts net) ≡ 0 → only_if b (shift_runs o (runs_in starts ws net)) ≡ []
  unfolding runs_in
  place_none true o net e = ap (λ (k : ℕ). shift_runs o (runs_in_words ws (get_or starts net 0) k)) e
  place_none false o net e = refl

  open_none : (n : ℕ) → open_runs_of part mask starts n ≡ 0 → first_runs (gate_places part mask counts) (runs_in starts ws) n ≡ []
  unfolding open_runs_of first_runs
  open_none zero e = refl
  open_none (suc n) e = ap₂ add_runs (open_none n (omega (arith, e)))
      (place_none (bit mask n) (paths_before (gate_places part mask counts) n) (pin_in part n) (omega (arith, e)))

module _ {part : List ℕ} {mask : ℕ} {counts starts ws : List ℕ} {start : ℕ} (r : GateReady part mask counts starts ws start) where
  pub pins-ready : PinsReady part starts
  pins-ready = record {
    few_pins = r.few_pins;
    inside = r.inside;
    are_nets = λ p l. (r.ready.at_place p l).is_net;
    ordered = λ p l. (r.ready.at_place p l).ordered;
  }

  pub none-added : {k : ℕ} → k ≡ open_runs_of part mask starts (pin_count_in part) → k ≡ 0
      → Adds ws ws start (max_runs - start) (gate_runs_of part mask counts starts ws) (Some 0)
  none-added e z = as_adds (sym (open_none part mask counts starts ws (pin_count_in part) (sym e ∙ z))) refl record {
    answers = sym (answer-fits (max_runs - start) [] 0 refl (omega arith));
    writes = ap (write_runs_of ws start) (sym (take_all (max_runs - start) [] (omega arith)));
  }

pub ruleset pass-cases = (pins-ready, none-added, rules)
