-- The active words of a gate's pins, the last pin first: those from k on are written and summed, and one pin more.
use Rattle.model.proofs.Prelude.{ℕ, ◌≤◌, ◌<◌, ◌+◌, ◌-◌, suc, ◌≡◌, ◌∙◌, ap, sym, subst, ap₂, ⊎_elim, inl, ◌&&◌, ◌||◌, or_comm, List, ◌∷◌}
use Rattle.model.proofs.Prelude.{length, get_or, set, length-set, get_or-set_same, get_or-set_other, arith}
use lib.Bits.{bit_and, bit_or}
use Rattle.model.specs.Base.{any_of, bit, numbers_from}
use Rattle.model.specs.Detect.{Class}
use Rattle.model.proofs.BoolLaws.{equal_or_not}
use Rattle.record_bytes.proofs.BitLaws.{and_bit, or_bit, zero_bit}
use Rattle.block_words.specs.Words.{bits_at, words_at, first_words, pin_word, PinPlace}
use Rattle.block_words.specs.NetStates.{v1_words, v2_words, steady_words, rise_words, fall_words, PinOpenIs, ActiveBoth}
use Rattle.block_words.specs.declared.inner.gates.Gate.{Gate}
use Rattle.block_words.specs.declared.inner.gates.PinScan.{PinScan}
use Rattle.block_words.proofs.PlaneLaws.{pin_at, pin-first}
use Rattle.block_words.proofs.PushCases.{outside}

-- an array with one word more, from the last place down
module _ (array : List ℕ) (i c : ℕ) (l : i < length array) where
  set_first : (n : ℕ) → words_at (set array i c) (numbers_from i (suc n)) ≡ c ∷ words_at array (numbers_from (suc i) n)
  set_first n = ap₂ (λ x (xs : List ℕ). x ∷ xs) (get_or-set_same array i c 0 l) (outside array i c n (suc i) (inl (next i)))
    where
      next : (i : ℕ) → i < suc i
      next i = omega arith

-- three arrays so, of which each place is right
module _ (xs ys zs : List ℕ) (i : ℕ) {a b c : ℕ} (P : ℕ → ℕ → ℕ → ℕ → Type 0) where
  set-each : {n : ℕ} → i < length xs → i < length ys → i < length zs → P i a b c
      → ((p : ℕ) → i < p → p < n → P p (get_or xs p 0) (get_or ys p 0) (get_or zs p 0))
      → (p : ℕ) → i ≤ p → p < n → P p (get_or (set xs i a) p 0) (get_or (set ys i b) p 0) (get_or (set zs i c) p 0)
  set-each {n} lx ly lz h f p m o = ⊎_elim there elsewhere (equal_or_not p i)
    where
      after : ℕ → Type 0
      after q = P q (get_or (set xs i a) q 0) (get_or (set ys i b) q 0) (get_or (set zs i c) q 0)

      there : p ≡ i → after p
      there e = subst after (sym e) (rw (get_or-set_same xs i a 0 lx, get_or-set_same ys i b 0 ly, get_or-set_same zs i c 0 lz) h)

      elsewhere : (p ≡ i → ⊥) → after p
      elsewhere q = rw (get_or-set_other xs i p a 0 q, get_or-set_other ys i p b 0 q, get_or-set_other zs i p c 0 q) (f p (omega arith) o)

-- the sum of the rows from k on
pub record SumFrom (n : ℕ) (rows : List ℕ) (k sum : ℕ) : Type 0 where
  pub room : length rows ≡ 8
  pub some : (t : ℕ) → bit sum t ≡ any_of (λ v. v) (bits_at (words_at rows (numbers_from k (n - k))) t)

sum-none : {n : ℕ} {rows : List ℕ} → length rows ≡ 8 → SumFrom n rows n 0
sum-none {n} r = let z : n - n ≡ 0 = omega arith in record { room = r; some = rw z (λ t. zero_bit t) }

sum_more : {n : ℕ} {rows : List ℕ} {k sum : ℕ} → 0 < k → k ≤ n → n ≤ 8 → SumFrom n rows k sum → (w : ℕ) → SumFrom n (set rows (k - 1) w) (k - 1) (bit_or sum w)
sum_more {n} {rows} {k} {sum} l m few x w =
    let i : k - 1 < length rows = omega (arith, x.room) in
    let s : suc (k - 1) ≡ k = omega arith in
    let more : n - (k - 1) ≡ suc (n - k) = omega arith in
    let row : words_at (set rows (k - 1) w) (numbers_from (k - 1) (n - (k - 1))) ≡ w ∷ words_at rows (numbers_from k (n - k)) =
    ap (λ j. words_at (set rows (k - 1) w) (numbers_from (k - 1) j)) more ∙ set_first rows (k - 1) w i (n - k)
    ∙ ap (λ j. w ∷ words_at rows (numbers_from j (n - k))) s in
    record {
      room = length-set rows (k - 1) w ∙ x.room;
      some = λ t. or_bit sum w t ∙ ap (λ a. a || bit w t) (x.some t)
          ∙ or_comm (any_of (λ v. v) (bits_at (words_at rows (numbers_from k (n - k))) t)) (bit w t)
          ∙ ap (λ ws. any_of (λ v. v) (bits_at ws t)) (sym row);
    }

-- one pin: its open word, and its active words for the two edges
pub record PinActive (c : Class) (table : List ℕ) (g : Gate) (scan : PinScan) (words : List ℕ) (p w up down : ℕ) : Type 0 where
  pub opened : PinOpenIs c g.kind scan (pin_word table g (v1_words words) p) (pin_word table g (v2_words words) p) (pin_word table g (steady_words words) p) w
  pub rises : (t : ℕ) → bit up t ≡ (bit w t && bit (pin_word table g (rise_words words) p) t)
  pub falls : (t : ℕ) → bit down t ≡ (bit w t && bit (pin_word table g (fall_words words) p) t)

-- the words of the pins from k on, their open words in an array that the code does not hold, and the sums
pub record ActiveFrom (c : Class) (table : List ℕ) (g : Gate) (scan : PinScan) (words : List ℕ) (k : ℕ) (rising_rows falling_rows : List ℕ) (up down : ℕ) : Type 0 where
  pub within : k ≤ g.pins
  pub opens : List ℕ
  pub room : length opens ≡ 8
  pub each : (p : ℕ) → k ≤ p → p < g.pins → PinActive c table g scan words p (get_or opens p 0) (get_or rising_rows p 0) (get_or falling_rows p 0)
  pub rises : SumFrom g.pins rising_rows k up
  pub falls : SumFrom g.pins falling_rows k down

module _ {c : Class} {table : List ℕ} {g : Gate} {scan : PinScan} {words : List ℕ} where
  -- the pin at hand
  pin-active : {p at w : ℕ} → PinPlace table g p at → PinOpenIs c g.kind scan (get_or words at 0) (get_or words (at + 1) 0) (get_or words (at + 2) 0) w
      → PinActive c table g scan words p w (bit_and w (get_or words (at + 3) 0)) (bit_and w (get_or words (at + 4) 0))
  pin-active {p} {at} {w} h o = record {
    opened = rw (pin-first h words, pin_at h words 1, pin_at h words 2) o;
    rises = λ t. and_bit w (get_or words (at + 3) 0) t ∙ ap (λ v. bit w t && bit v t) (sym (pin_at h words 3));
    falls = λ t. and_bit w (get_or words (at + 4) 0) t ∙ ap (λ v. bit w t && bit v t) (sym (pin_at h words 4));
  }

  pub active-start : {rising_rows falling_rows : List ℕ} → length rising_rows ≡ 8 → length falling_rows ≡ 8 → ActiveFrom c table g scan words g.pins rising_rows falling_rows 0 0
  active-start {rising_rows} a b =
      record { within = omega arith; opens = rising_rows; room = a; each = λ p l h. absurd (none g.pins p l h); rises = sum-none a; falls = sum-none b }
    where
      none : (n p : ℕ) → n ≤ p → p < n → ⊥
      none n p l h = omega arith

  module _ {k : ℕ} {rising_rows falling_rows : List ℕ} {up down : ℕ} (x : ActiveFrom c table g scan words k rising_rows falling_rows up down) where
    active-more : {w a b : ℕ} → 0 < k → g.pins ≤ 8 → PinActive c table g scan words (k - 1) w a b
        → ActiveFrom c table g scan words (k - 1) (set rising_rows (k - 1) a) (set falling_rows (k - 1) b) (bit_or up a) (bit_or down b)
    active-more {w} {a} {b} l few pin = record {
      within = omega (arith, x.within);
      opens = set x.opens (k - 1) w;
      room = length-set x.opens (k - 1) w ∙ x.room;
      each = set-each x.opens rising_rows falling_rows (k - 1) (PinActive c table g scan words) (omega (arith, x.room, x.within)) (omega (arith, x.rises.room, x.within))
          (omega (arith, x.falls.room, x.within)) pin (λ p m h. x.each p (omega arith) h);
      rises = sum_more l x.within few x.rises a;
      falls = sum_more l x.within few x.falls b;
    }

    pub active-step : {at w : ℕ} → 0 < k → g.pins ≤ 8 → PinPlace table g (k - 1) at
        → PinOpenIs c g.kind scan (get_or words at 0) (get_or words (at + 1) 0) (get_or words (at + 2) 0) w
        → ActiveFrom c table g scan words (k - 1)
        (set rising_rows (k - 1) (bit_and w (get_or words (at + 3) 0))) (set falling_rows (k - 1) (bit_and w (get_or words (at + 4) 0)))
        (bit_or up (bit_and w (get_or words (at + 3) 0))) (bit_or down (bit_and w (get_or words (at + 4) 0)))
    active-step l few h o = active-more l few (pin-active h o)

    pub active-end : k ≤ 0 → ActiveBoth c table g scan words rising_rows falling_rows (record { up = up; down = down })
    active-end z =
        let n : g.pins - k ≡ g.pins = omega arith in
        let o : k ≡ 0 = omega arith in
        let q : (rows : List ℕ) → words_at rows (numbers_from k (g.pins - k)) ≡ first_words rows g.pins = (λ rows. ap₂ (λ a b. words_at rows (numbers_from a b)) o n) in
        record {
          opens = λ p. get_or x.opens p 0;
          opened = λ p h. (x.each p (omega arith) h).opened;
          rises = record {
            room = x.rises.room;
            each = λ p h. (x.each p (omega arith) h).rises;
            some = λ t. x.rises.some t ∙ ap (λ ws. any_of (λ v. v) (bits_at ws t)) (q rising_rows);
          };
          falls = record {
            room = x.falls.room;
            each = λ p h. (x.each p (omega arith) h).falls;
            some = λ t. x.falls.some t ∙ ap (λ ws. any_of (λ v. v) (bits_at ws t)) (q falling_rows);
          };
        }
