-- The cases of a gate's record, by the numbers that were read.
use Rattle.model.proofs.Prelude.{ℕ, ◌≤◌, ◌<◌, ◌+◌, ◌*◌, ◌^◌, ◌≡◌, ◌∙◌, sym, true, Bool, false, ◌&&◌, List, [], ◌∷◌, length, get_or, drop, leb, T, ltb}
use Rattle.model.proofs.Prelude.{ltb→lt, lt→ltb, arith, rules, le-leb, lt-leb, not-true, not-false}
use Rattle.model.specs.Base.{refused, value, all_of}
use Rattle.model.specs.Read.{pins_fit, net_fields, marked}
use Rattle.model.proofs.BoolLaws.{both, T→true, true→T}
use Rattle.model.proofs.ListLaws.{all_of_head, all_of_tail}
use Rattle.netlist_gates.specs.GateReading.{gate_step, SumIs, pins_lower_of, pin_sum_of}
use Rattle.record_bytes.proofs.PartLaws.{begins-long}
use Rattle.std.specs.Prelude.{Option, Some, None}

lower_high : (net high : ℕ) (ps : List ℕ) → net ≤ high → T (all_of (λ p. ltb p net) ps) → T (all_of (λ p. ltb p high) ps)
lower_high net high [] h w = tt
lower_high net high (p ∷ ps) h w =
    let low : p < net = ltb→lt p net (all_of_head (λ q. ltb q net) p ps w) in
    both (ltb p high) (all_of (λ q. ltb q high) ps) (lt→ltb p high (omega (arith, low))) (lower_high net high ps h (all_of_tail (λ q. ltb q net) p ps w))

pub lower-more : (net high n at : ℕ) (s : List ℕ) (b : Bool) → net ≤ high → b ≡ pins_lower_of net n at s → b ≡ true → pins_lower_of high n at s ≡ true
unfolding pins_lower_of
lower-more net high n at s b h e t = T→true _ (lower_high net high (net_fields n (drop at s)) h (true→T _ (sym e ∙ t)))

module _ (counts s : List ℕ) (net : ℕ) (m : Bool) (em : m ≡ leb 4 (length s) && marked 0x47 0x54 s) where
  pub gate-mark : m ≡ false → refused 12 ≡ gate_step net counts s
  unfolding gate_step
  gate-mark h = simp (← em, h)

  module _ (t : m ≡ true) where
    long : 4 ≤ length s
    long = begins-long 4 0x47 0x54 s m em t

    pub gate-kind-in : 2 < length s
    gate-kind-in = omega (arith, long)

    pub gate-count-in : 3 < length s
    gate-count-in = omega (arith, long)

    module _ (kind n : ℕ) (ek : kind ≡ get_or s 2 0) (en : n ≡ get_or s 3 0) where
      pub gate-kind-low : kind < 1 → refused 13 ≡ gate_step net counts s
      unfolding gate_step
      gate-kind-low h = simp (← em, t, ← ek, lt-leb 1 kind h)

      module _ (k1 : 1 ≤ kind) where
        pub gate-kind-high : 8 < kind → refused 13 ≡ gate_step net counts s
        unfolding gate_step
        gate-kind-high h = simp (← em, t, ← ek, le-leb 1 kind k1, lt-leb kind 8 h)

        module _ (fits : Bool) (k8 : kind ≤ 8) (ef : fits ≡ pins_fit kind n) where
          pub gate-pins : fits ≡ false → refused 14 ≡ gate_step net counts s
          unfolding gate_step
          gate-pins h = simp (← em, t, ← ek, ← en, le-leb 1 kind k1, le-leb kind 8 k8, ← ef, h)

          module _ (f : fits ≡ true) where
            pub gate-cut : length s < 4 + 2 * n → refused 12 ≡ gate_step net counts s
            unfolding gate_step
            gate-cut h = simp (← em, t, ← ek, ← en, le-leb 1 kind k1, le-leb kind 8 k8, ← ef, f, lt-leb (4 + 2 * n) (length s) h)

            module _ (lower : Bool) (room : 4 + 2 * n ≤ length s) (el : lower ≡ pins_lower_of net n 4 s) where
              pub gate-pin : lower ≡ false → refused 15 ≡ gate_step net counts s
              unfolding gate_step pins_lower_of
              gate-pin h = simp (← em, t, ← ek, ← en, le-leb 1 kind k1, le-leb kind 8 k8, ← ef, f, le-leb (4 + 2 * n) (length s) room, ← el, h)

              module _ (x : Option ℕ) (lw : lower ≡ true) (e : SumIs x (pin_sum_of counts n 4 s)) where
                pub gate-over : x ≡ None → refused 17 ≡ gate_step net counts s
                unfolding gate_step pins_lower_of pin_sum_of
                gate-over h =
                    let o : 2 ^ 62 < pin_sum_of counts n 4 s = rw h at e in
                    simp (← em, t, ← ek, ← en, le-leb 1 kind k1, le-leb kind 8 k8, ← ef, f, le-leb (4 + 2 * n) (length s) room, ← el, lw, lt-leb _ _ o)

                pub gate-taken : (count : ℕ) → x ≡ Some count → value (record { count = count; size = 4 + 2 * n }) ≡ gate_step net counts s
                unfolding gate_step pins_lower_of pin_sum_of
                gate-taken count h =
                    let o : (count ≡ pin_sum_of counts n 4 s) × (pin_sum_of counts n 4 s ≤ 2 ^ 62) = rw h at e in
                    simp (← em, t, ← ek, ← en, le-leb 1 kind k1, le-leb kind 8 k8, ← ef, f, le-leb (4 + 2 * n) (length s) room, ← el, lw, ← o.0, le-leb count (2 ^ 62) (omega arith))

pub ruleset gate-cases = (
  gate-mark,
  gate-kind-in,
  gate-count-in,
  gate-kind-low,
  gate-kind-high,
  gate-pins,
  gate-cut,
  gate-pin,
  gate-over,
  gate-taken,
  not-true,
  not-false,
  rules,
)
