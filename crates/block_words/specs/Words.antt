-- Words with a bit for each record of a block, and what a gate's pins show in them.
use Rattle.std.specs.Prelude.{◌≡◌, Bool, false, ◌&&◌, ◌||◌, not, List, [], ◌∷◌, map, ◌⊎◌, ℕ, ◌+◌, ◌-◌, ◌*◌, ◌^◌, ◌≤◌, ◌<◌, T, length, get_or}
use Rattle.std.specs.Bool.{beq}
use Rattle.model.specs.Base.{any_of, bit, numbers_from}
use Rattle.model.specs.Netlist.{Kind, buffer, inverter, and, nand, or, nor, xor, xnor}
use Rattle.model.specs.Detect.{nonRobust, Evaluation, no_evaluation, odd, gate_value, others, is_open}
use Rattle.model.specs.Read.{pins_fit, kind_of}
use Rattle.block_words.specs.declared.inner.gates.Gate.{Gate}
use Rattle.block_words.specs.declared.inner.gates.PinTally.{PinTally}
use Rattle.block_words.specs.Layout.{kinds_at, pin_counts_at, nets_size}

-- bit t of the word is what `f` says of record t, for the first n records
abbrev pub WordIs : ℕ → (ℕ → Bool) → ℕ → Type 0
WordIs w f n = (t : ℕ) → t < n → bit w t ≡ f t

-- bit t of each word
abbrev pub bits_at : List ℕ → ℕ → List Bool
bits_at ws t = map (λ w. bit w t) ws

-- what an array has at places
abbrev pub words_at : List ℕ → List ℕ → List ℕ
words_at array ns = map (λ n. get_or array n 0) ns

-- the one or the other, not both
abbrev pub unequal : Bool → Bool → Bool
unequal a b = not (beq a b)

-- two or more of the list pass the test
abbrev pub two_of : (Bool → Bool) → List Bool → Bool
two_of f [] = false
two_of f (v ∷ vs) = (any_of f vs && f v) || two_of f vs

-- all ones where 0 is the controlling value, else 0
abbrev pub noncontrolling_mask_of : Kind → ℕ
noncontrolling_mask_of buffer = 0
noncontrolling_mask_of inverter = 0
noncontrolling_mask_of and = 2 ^ 64 - 1
noncontrolling_mask_of nand = 2 ^ 64 - 1
noncontrolling_mask_of or = 0
noncontrolling_mask_of nor = 0
noncontrolling_mask_of xor = 0
noncontrolling_mask_of xnor = 0

-- Of `n` words from place `first` on, each is as `P` says; the others are as before
pub record Filled (first n : ℕ) (P : ℕ → ℕ → Type 0) (before after : List ℕ) : Type 0 where
  pub same_length_of : length after ≡ length before
  pub same : (i : ℕ) → (i < first) ⊎ (first + n ≤ i) → get_or after i 0 ≡ get_or before i 0
  pub each : (p : ℕ) → p < n → P p (get_or after (first + p) 0)

-- a gate, read from the table
pub record GateIs (table : List ℕ) (net : ℕ) (g : Gate) : Type 0 where
  pub kind_is : g.kind ≡ get_or table (kinds_at + net) 0
  pub pins_are : g.pins ≡ get_or table (pin_counts_at + net) 0
  pub first_is : g.first ≡ 8 * net
  pub mask_is : g.noncontrolling_mask ≡ noncontrolling_mask_of (kind_of g.kind)

-- the gate's pins stand in the table, each with one of 512 nets
pub record PinsIn (table : List ℕ) (g : Gate) : Type 0 where
  pub few : g.pins ≤ 8
  pub inside : g.first + 8 ≤ kinds_at
  pub is_net : (p : ℕ) → p < g.pins → get_or table (g.first + p) 0 < 512

-- the place of the words of the net at pin p
pub record PinPlace (table : List ℕ) (g : Gate) (p at : ℕ) : Type 0 where
  pub place : at ≡ 8 * get_or table (g.first + p) 0
  pub inside : at + 8 ≤ nets_size

-- the nets at the `n` pins from place `first` on, and their words
abbrev pub nets_from : List ℕ → ℕ → ℕ → List ℕ
nets_from table first n = words_at table (numbers_from first n)

abbrev pub pin_nets : List ℕ → Gate → List ℕ
pin_nets table g = nets_from table g.first g.pins

abbrev pub pin_words : List ℕ → Gate → List ℕ → List ℕ
pin_words table g array = words_at array (pin_nets table g)

-- the word of the net at pin p
abbrev pub pin_word : List ℕ → Gate → List ℕ → ℕ → ℕ
pin_word table g array p = get_or array (get_or table (g.first + p) 0) 0

-- what pins with these values show in record t, where a value is controlling that differs from `b`
pub record TallyAt (vs : List Bool) (b : Bool) (r : PinTally) (t : ℕ) : Type 0 where
  pub ones : bit r.one t ≡ any_of (unequal b) vs
  pub twos : bit r.two t ≡ two_of (unequal b) vs
  pub parities : bit r.parity t ≡ odd vs

pub record TallyIs (table : List ℕ) (g : Gate) (mask : ℕ) (array : List ℕ) (r : PinTally) : Type 0 where
  pub at : (t : ℕ) → TallyAt (bits_at (pin_words table g array) t) (bit mask t) r t

-- the value word of a gate, whatever the values at its pins
pub record ValueIs (kind one parity r : ℕ) : Type 0 where
  pub at : (vs : List Bool) (t : ℕ) → t < 64 → T (pins_fit kind (length vs)) → bit one t ≡ any_of (unequal (bit (noncontrolling_mask_of (kind_of kind)) t)) vs
      → bit parity t ≡ odd vs → bit r t ≡ gate_value (kind_of kind) vs

-- every pin but the marked one is non-controlling
pub record SidesNoncontrolling (one two mark r : ℕ) : Type 0 where
  pub at : (vs : List Bool) (b : Bool) (p t : ℕ) → t < 64 → p < length vs → bit one t ≡ any_of (unequal b) vs → bit two t ≡ two_of (unequal b) vs
      → bit mark t ≡ unequal b (get_or vs p false) → bit r t ≡ others (beq b) vs p

-- the open word of a pin in class 1, whatever the nets at the gate's pins
pub record OpenIs (kind : ℕ) (tally : PinTally) (value r : ℕ) : Type 0 where
  pub at : (ns : List Evaluation) (p t : ℕ) → t < 64 → p < length ns → TallyAt (map (λ n. n.under_v2) ns) (bit (noncontrolling_mask_of (kind_of kind)) t) tally t
      → bit value t ≡ (get_or ns p no_evaluation).under_v2 → bit r t ≡ is_open nonRobust (kind_of kind) ns p

-- the first words of an array
abbrev pub first_words : List ℕ → ℕ → List ℕ
first_words array n = words_at array (numbers_from 0 n)
