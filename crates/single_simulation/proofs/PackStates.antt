-- Packing the states at a gate's pins, the last pin first.
use Rattle.model.proofs.Prelude.{ℕ, ◌≤◌, ◌<◌, ◌+◌, ◌-◌, ◌*◌, suc, ◌^◌, ◌/◌, ◌%◌, ◌≡◌, ◌∙◌, ap, refl, sym, subst, ap₂, true, Bool, false, List, ◌∷◌}
use Rattle.model.proofs.Prelude.{length, get_or, drop, drop-drop, eqb, pow-suc, arith}
use lib.Pow.{pow_mono}
use Rattle.model.specs.Detect.{Evaluation}
use Rattle.model.specs.Read.{net_fields}
use Rattle.netlist.specs.Tables.{pin_in}
use Rattle.gate_packed_pins.specs.Packed.{one_where_of}
use Rattle.gate_logic.specs.States.{word_of, state_of, pins_in}
use Rattle.single_simulation.specs.StateWords.{low_lane, mid_lane, high_lane, state_in, IsState, StatesAt, states_at, PacksStates}

-- A state's word has a bit in each byte, and gives the state back
pub word-form : (n : Evaluation) → IsState (word_of n)
word-form n = go n.under_v1 n.under_v2 n.steady
  where
    go : (a b s : Bool) → IsState (one_where_of b + 256 * one_where_of a + 65536 * one_where_of s)
    go true true true = record { low = omega arith; mid = omega arith; high = omega arith }
    go true true false = record { low = omega arith; mid = omega arith; high = omega arith }
    go true false true = record { low = omega arith; mid = omega arith; high = omega arith }
    go true false false = record { low = omega arith; mid = omega arith; high = omega arith }
    go false true true = record { low = omega arith; mid = omega arith; high = omega arith }
    go false true false = record { low = omega arith; mid = omega arith; high = omega arith }
    go false false true = record { low = omega arith; mid = omega arith; high = omega arith }
    go false false false = record { low = omega arith; mid = omega arith; high = omega arith }

pub word_back : (n : Evaluation) → state_in (word_of n) ≡ n
word_back n = go n.under_v1 n.under_v2 n.steady
  where
    go : (a b s : Bool) → state_in (one_where_of b + 256 * one_where_of a + 65536 * one_where_of s) ≡ state_of a b s
    go true true true = refl
    go true true false = refl
    go true false true = refl
    go true false false = refl
    go false true true = refl
    go false true false = refl
    go false false true = refl
    go false false false = refl

-- the pins from k on are packed
pub record PackingStates (part : List ℕ) (pins : ℕ) (array : List ℕ) (packed k : ℕ) : Type 0 where
  pub within : k ≤ pins
  pub low : low_lane packed < 2 ^ (pins - k)
  pub mid : mid_lane packed < 2 ^ (pins - k)
  pub high : high_lane packed < 2 ^ (pins - k)
  pub states : pins_in (pins - k) (mid_lane packed) (low_lane packed) (high_lane packed) ≡ states_at array (net_fields (pins - k) (drop (4 + 2 * k) part))

-- one more pin below the others
one_more : (n a b s x y z : ℕ) → x < 2 → y < 2 → z < 2
    → pins_in (suc n) (2 * a + x) (2 * b + y) (2 * s + z) ≡ state_of (eqb x 1) (eqb y 1) (eqb z 1) ∷ pins_in n a b s
unfolding pins_in
one_more n a b s x y z h i j =
    let d : (2 * a + x) % 2 ≡ x = omega arith in
    let e : (2 * b + y) % 2 ≡ y = omega arith in
    let f : (2 * s + z) % 2 ≡ z = omega arith in
    let u : (2 * a + x) / 2 ≡ a = omega arith in
    let v : (2 * b + y) / 2 ≡ b = omega arith in
    let w : (2 * s + z) / 2 ≡ s = omega arith in
    rw (d, e, f, u, v, w) refl

-- the bytes of a word with one more pin below the others
record Lanes (v : ℕ) (a b c : ℕ) : Type 0 where
  is-low : low_lane v ≡ a
  is-mid : mid_lane v ≡ b
  is-high : high_lane v ≡ c

lanes_of : (a b c : ℕ) → a < 256 → b < 256 → Lanes (a + 256 * b + 65536 * c) a b c
lanes_of a b c h l =
    let q : a + 256 * b + 65536 * c ≡ a + 256 * (b + 256 * c) = omega arith in
    let d : (a + 256 * (b + 256 * c)) / 256 ≡ b + 256 * c = omega arith in
    record {
      is-low = rw q (omega arith);
      is-mid = rw (q, d) (omega arith);
      is-high = omega arith;
    }

word-parts : (v : ℕ) → v ≡ low_lane v + 256 * mid_lane v + 65536 * high_lane v
word-parts v =
    let q : v / 65536 ≡ v / 256 / 256 = omega arith in
    omega arith

lanes_more : (v w : ℕ) → low_lane v < 128 → mid_lane v < 128 → low_lane w < 2 → mid_lane w < 2
    → Lanes (2 * v + w) (2 * low_lane v + low_lane w) (2 * mid_lane v + mid_lane w) (2 * high_lane v + high_lane w)
lanes_more v w h l i j =
    let a : ℕ = 2 * low_lane v + low_lane w in
    let b : ℕ = 2 * mid_lane v + mid_lane w in
    let c : ℕ = 2 * high_lane v + high_lane w in
    let q : 2 * v + w ≡ a + 256 * b + 65536 * c = omega (arith, word-parts v, word-parts w) in
    rw q (lanes_of a b c (omega arith) (omega arith))

few_bits : (n b : ℕ) → n ≤ 7 → b < 2 ^ n → b < 128
few_bits n b m q = native.Mathlib.Nat.lt_of_lt_of_le q (pow_mono m)

module _ {part : List ℕ} {pins : ℕ} {array : List ℕ} (h : StatesAt part pins array) where
  pub states-start : PackingStates part pins array 0 pins
  unfolding pins_in
  states-start =
      let z : pins - pins ≡ 0 = omega arith in
      record { within = omega arith; low = rw z (omega arith); mid = rw z (omega arith); high = rw z (omega arith); states = rw z refl }

  module _ {packed k : ℕ} (p : PackingStates part pins array packed k) where
    module _ (l : 0 < k) where
      low-room : low_lane packed < 128
      low-room = few_bits (pins - k) (low_lane packed) (omega (arith, h.few, p.within)) p.low

      mid-room : mid_lane packed < 128
      mid-room = few_bits (pins - k) (mid_lane packed) (omega (arith, h.few, p.within)) p.mid

      high-room : high_lane packed < 128
      high-room = few_bits (pins - k) (high_lane packed) (omega (arith, h.few, p.within)) p.high

      -- there is room for one more pin
      pub states-room : packed < 8388608
      states-room = omega (arith, high-room)

      pub states-fit : (net : ℕ) → 2 * packed + get_or array net 0 < 16777216
      states-fit net = let q = h.states net in omega (arith, states-room, q.high, high-room, q.mid, q.low, mid-room, low-room)

      pub states-step : {net : ℕ} → net ≡ pin_in part (k - 1) → PackingStates part pins array (2 * packed + get_or array net 0) (k - 1)
      states-step {net} e =
          let n : pins - (k - 1) ≡ suc (pins - k) = omega (arith, p.within) in
          let w : ℕ = get_or array net 0 in
          let q : IsState w = h.states net in
          let ln = lanes_more packed w low-room mid-room q.low q.mid in
          let lo : low_lane (2 * packed + w) ≡ 2 * low_lane packed + low_lane w = ln.is-low in
          let mi : mid_lane (2 * packed + w) ≡ 2 * mid_lane packed + mid_lane w = ln.is-mid in
          let hi : high_lane (2 * packed + w) ≡ 2 * high_lane packed + high_lane w = ln.is-high in
          let d : 4 + 2 * (k - 1) + 2 ≡ 4 + 2 * k = omega arith in
          let v : pins_in (suc (pins - k)) (2 * mid_lane packed + mid_lane w) (2 * low_lane packed + low_lane w) (2 * high_lane packed + high_lane w)
          ≡ states_at array (net_fields (suc (pins - k)) (drop (4 + 2 * (k - 1)) part)) =
          one_more (pins - k) (mid_lane packed) (low_lane packed) (high_lane packed) (mid_lane w) (low_lane w) (high_lane w) q.mid q.low q.high
          ∙ ap₂ (λ x (y : List Evaluation). state_in (get_or array x 0) ∷ y) (e ∙ refl)
          (p.states ∙ ap (λ m. states_at array (net_fields (pins - k) m)) (ap (λ j. drop j part) (sym d) ∙ sym (drop-drop 2 (4 + 2 * (k - 1)) part))) in
          record {
            within = omega (arith, p.within);
            low = rw (n, lo) (double (pins - k) (low_lane packed) (low_lane w) p.low q.low);
            mid = rw (n, mi) (double (pins - k) (mid_lane packed) (mid_lane w) p.mid q.mid);
            high = rw (n, hi) (double (pins - k) (high_lane packed) (high_lane w) p.high q.high);
            states = rw (n, mi, lo, hi) v;
          }
        where
          double : (n a b : ℕ) → a < 2 ^ n → b < 2 → 2 * a + b < 2 ^ suc n
          double n a b q r = rw pow-suc (omega arith)

    pub states-done : k ≤ 0 → PacksStates part pins array packed
    states-done z =
        let n : pins - k ≡ pins = omega arith in
        let a : 4 + 2 * k ≡ 4 = omega arith in
        record { low = rw n at p.low; mid = rw n at p.mid; high = rw n at p.high; states = rw (n, a) at p.states }

    pub states-inside : 0 < k → 4 + 2 * (k - 1) + 2 ≤ length part
    states-inside l = omega (arith, h.inside, p.within)

    pub states-net : {net : ℕ} → 0 < k → net ≡ pin_in part (k - 1) → net < 512
    states-net l e = rw e (h.is_net (k - 1) (omega (arith, p.within)))

-- a gate of two pins
module _ {part array : List ℕ} (h : StatesAt part 2 array) where
  pub first-net : {a : ℕ} → a ≡ pin_in part 0 → a < 512
  first-net e = rw e (h.is_net 0 (omega arith))

  pub second-net : {b : ℕ} → b ≡ pin_in part 1 → b < 512
  second-net e = rw e (h.is_net 1 (omega arith))

  module _ {b : ℕ} (d : b ≡ pin_in part 1) where
    second-packed : PackingStates part 2 array (get_or array b 0) 1
    second-packed =
        let none : 2 * 0 + get_or array b 0 ≡ get_or array b 0 = omega arith in
        subst (λ w. PackingStates part 2 array w 1) none (states-step h (states-start h) (omega arith) d)

    pub two-fit : (a : ℕ) → 2 * get_or array b 0 + get_or array a 0 < 16777216
    two-fit a = states-fit h second-packed (omega arith) a

    pub two-packed : {a : ℕ} → a ≡ pin_in part 0 → PacksStates part 2 array (2 * get_or array b 0 + get_or array a 0)
    two-packed e = states-done h (states-step h second-packed (omega arith) e) (omega arith)

-- a packed word's bytes fill no more than 24 bits
pub packed-fits : {part : List ℕ} {pins : ℕ} {array : List ℕ} {packed : ℕ} → pins ≤ 8 → PacksStates part pins array packed → packed < 16777216
packed-fits {packed = packed} f k =
    let q : high_lane packed < 256 = native.Mathlib.Nat.lt_of_lt_of_le k.high (pow_mono f) in
    omega arith
