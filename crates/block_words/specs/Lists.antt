-- The lists of live gates of the records of a block.
use Rattle.std.specs.Prelude.{◌≡◌, Bool, true, false, List, [], ◌∷◌, ◌++◌, map, ℕ, ◌+◌, ◌*◌, ◌≤◌, ◌<◌, length, get_or}
use Rattle.std.specs.Int.Count.{count_trailing_zeros}
use Rattle.model.specs.Base.{numbers_from}
use Rattle.model.specs.Netlist.{Netlist, pins_of}
use Rattle.model.specs.Path.{Edge}
use Rattle.model.specs.Detect.{Test}
use Rattle.detection.specs.Cases.{Case, case_of}
use Rattle.gate_packed_pins.specs.Packed.{one_where_of, pack_bits}
use Rattle.block_words.specs.Words.{words_at, bits_at, first_words}
use Rattle.block_words.specs.Block.{live_net, active_pin}
use Rattle.block_words.specs.Layout.{list_size, lists_size}

-- those of the list that pass the test
abbrev pub keep_if : Bool → ℕ → List ℕ → List ℕ
keep_if true x xs = x ∷ xs
keep_if false x xs = xs

abbrev pub keep : (ℕ → Bool) → List ℕ → List ℕ
keep f [] = []
keep f (x ∷ xs) = keep_if (f x) x (keep f xs)

-- a gate's entry: its net, and the byte of its active pins
unfoldable pub gate_entry : Case → ℕ → ℕ
gate_entry K net = 256 * net + pack_bits (map (active_pin K net) (numbers_from 0 (length (pins_of K.netlist net))))

-- the entries of the live ones of the first m gates, ascending
unfoldable pub live_entries : Case → ℕ → List ℕ
live_entries K m = map (gate_entry K) (keep (live_net K) (numbers_from K.netlist.inputs m))

-- the list of record t
abbrev pub entries : List ℕ → List ℕ → ℕ → List ℕ
entries list lens t = words_at list (numbers_from (list_size * t) (get_or lens t 0))

-- the list of each record is that of its live gates
pub record ListsTrue (N : Netlist) (tests : ℕ → Test) (e : Edge) (n : ℕ) (list lens : List ℕ) : Type 0 where
  pub lists : (t : ℕ) → t < n → entries list lens t ≡ live_entries (case_of N (tests t) e) (length N.gates)

-- room for 64 lists, and for one entry more in each
pub record ListRoom (list lens : List ℕ) : Type 0 where
  pub places : lists_size ≤ length list
  pub records : length lens ≡ 64
  pub one_more_of : (t : ℕ) → t < 64 → get_or lens t 0 < list_size

-- room for 64 lists, each empty
pub record EmptyLists (list lens : List ℕ) : Type 0 where
  pub places : lists_size ≤ length list
  pub records : length lens ≡ 64
  pub empty : (t : ℕ) → t < 64 → get_or lens t 0 ≡ 0

-- the lowest record of a word that has one
pub record LowestRecord (records t : ℕ) : Type 0 where
  pub is_lowest : t ≡ count_trailing_zeros 64 records
  pub inside : t < 64

-- a live gate's entry in record t, from the active words of its pins
abbrev pub entry_of : ℕ → List ℕ → ℕ → ℕ → ℕ
entry_of net rows pins t = 256 * net + pack_bits (bits_at (first_words rows pins) t)

-- one more at the end
abbrev pub push_if : Bool → ℕ → List ℕ → List ℕ
push_if true x xs = xs ++ (x ∷ [])
push_if false x xs = xs

-- the lists of the records that pass the test have one entry more, that of record t the entry f t
pub record Pushed (list lens list' lens' : List ℕ) (b : ℕ → Bool) (f : ℕ → ℕ) : Type 0 where
  pub same_length_of : length list' ≡ length list
  pub same_records : length lens' ≡ length lens
  pub lists : (t : ℕ) → t < 64 → entries list' lens' t ≡ push_if (b t) (f t) (entries list lens t)
  pub counts : (t : ℕ) → t < 64 → get_or lens' t 0 ≡ get_or lens t 0 + one_where_of (b t)
