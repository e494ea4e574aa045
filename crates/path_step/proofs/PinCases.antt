-- The cases of the pins of a gate's record: the pin that a number goes through, and the counts before a pin.
use Rattle.model.proofs.Prelude.{ℕ, ◌≤◌, ◌<◌, ◌+◌, ◌-◌, ◌*◌, ◌^◌, ◌≡◌, ◌∙◌, ap, refl, sym, List, length, get_or, drop, length-map, arith, rules}
use mir.Val.{Fits}
use mir.Syntax.{w64}
use Rattle.model.specs.Base.{sum_of}
use Rattle.model.specs.Path.{counts_before}
use Rattle.model.specs.Read.{net_fields}
use Rattle.model.proofs.ListLaws.{get_d_map-in}
use Rattle.model.proofs.ReadLaws.{length-net_fields}
use Rattle.netlist.specs.Tables.{pin_count_in, pin_in}
use Rattle.netlist.proofs.PinLaws.{fields_at}
use Rattle.path_step.specs.Picks.{PinsIn, pin_counts_in, pick_pin_of}
use Rattle.path_step.proofs.SplitLaws.{Passed, FallsAt, passed_none, passed_here, passed-last, passed_on, before-next, before_small}

-- the counts at the pins
pub length-pins : (part cs : List ℕ) → length (pin_counts_in part cs) ≡ pin_count_in part
unfolding pin_counts_in
length-pins part cs = length-map (net_fields (pin_count_in part) (drop 4 part)) (λ n. get_or cs n 0) ∙ length-net_fields (pin_count_in part) (drop 4 part)

pub pins-at : (part cs : List ℕ) (p : ℕ) → p < pin_count_in part → get_or (pin_counts_in part cs) p 0 ≡ get_or cs (pin_in part p) 0
unfolding pin_counts_in
pins-at part cs p h =
    let fields = net_fields (pin_count_in part) (drop 4 part) in
    let there : p < length fields = omega (arith, length-net_fields (pin_count_in part) (drop 4 part)) in
    get_d_map-in (λ n. get_or cs n 0) fields p 0 0 there ∙ ap (λ n. get_or cs n 0) (fields_at (pin_count_in part) 4 part p h)

module _ (part cs : List ℕ) (g : PinsIn part) where
  pub record_head : 3 < length part
  record_head = omega (arith, g.inside)

  module _ (n : ℕ) (few : n ≤ pin_count_in part) (p : ℕ) (there : p < n) where
    pub pin-room : 4 + 2 * p + 2 ≤ length part
    pin-room = omega (arith, g.inside)

    module _ (net : ℕ) (en : net ≡ pin_in part p) where
      pub pin-few : net < 512
      pin-few = omega (arith, g.low p (omega arith))

      pub pin-fits : Fits w64 (net * 8)
      pin-fits = record { fits = omega (arith, pin-few) }

      count-is : get_or cs net 0 ≡ get_or (pin_counts_in part cs) p 0
      count-is = ap (λ n. get_or cs n 0) en ∙ sym (pins-at part cs p (omega arith))

      listed : p < length (pin_counts_in part cs)
      listed = omega (arith, length-pins part cs)

      module _ (i rest : ℕ) (left : Passed (pin_counts_in part cs) i p rest) where
        pick : FallsAt (pin_counts_in part cs) i p rest → record { pin = p; net = net; number = rest } ≡ pick_pin_of part cs i
        unfolding pick_pin_of
        pick f = λ k. record { pin = f.place_is k; net = (en ∙ ap (pin_in part) f.place_is) k; number = f.number_is k }

        pub pick-taken : rest ≤ get_or cs net 0 → record { pin = p; net = net; number = rest } ≡ pick_pin_of part cs i
        pick-taken h = pick (passed_here (pin_counts_in part cs) i p rest listed left (omega (arith, count-is)))

        pub pick_end : pin_count_in part ≤ n → n ≤ p + 1 → record { pin = p; net = net; number = rest } ≡ pick_pin_of part cs i
        pick_end all h = pick (passed-last (pin_counts_in part cs) i p rest listed left (omega (arith, length-pins part cs)))

        pub pick-again : get_or cs net 0 < rest → Passed (pin_counts_in part cs) i (p + 1) (rest - get_or cs net 0)
        pick-again h = rw count-is (passed_on (pin_counts_in part cs) i p rest listed left (omega (arith, count-is)))

      module _ (sum : ℕ) (es : sum ≡ counts_before p (pin_counts_in part cs)) where
        pub sum-again : sum + get_or cs net 0 ≡ counts_before (p + 1) (pin_counts_in part cs)
        sum-again = omega (arith, count-is, before-next (pin_counts_in part cs) p listed)

        pub sum_fits : sum_of (pin_counts_in part cs) ≤ 2 ^ 62 → Fits w64 (sum + get_or cs net 0)
        sum_fits h = record { fits = omega (arith, count-is, before_small (pin_counts_in part cs) p listed) }

pub sum-end : (xs : List ℕ) (j k sum : ℕ) → j ≤ k → k ≤ j → sum ≡ counts_before j xs → sum ≡ counts_before k xs
sum-end xs j k sum h l e = let p : j ≡ k = omega arith in rw p at e

pub sum-start : (xs : List ℕ) → 0 ≡ counts_before 0 xs
sum-start xs = refl

pub ruleset pick-cases = (passed_none, record_head, pin-room, pin-few, pin-fits, pick-taken, pick_end, pick-again, rules)

pub ruleset pins-before-cases = (record_head, pin-room, pin-few, pin-fits, sum-start, sum-again, sum_fits, sum-end, rules)
