-- What a gate's active pins add to the runs of its net, and the span that the net then has.
use Rattle.std.specs.Prelude.{◌≡◌, true, List, [], ◌++◌, ℕ, zero, suc, ◌+◌, ◌*◌, ◌/◌, ◌%◌, ◌^◌, ◌≤◌, ◌<◌, length, get_or, set}
use Rattle.model.specs.Base.{bit}
use Rattle.model.specs.Runs.{Run, run}
use Rattle.model.specs.Store.{max_runs}
use Rattle.run_lists.specs.RunLists.{Sound, only_if, add_runs, shift_runs, run_at, runs_in_words}
use Rattle.detection.specs.Cases.{Case}
use Rattle.detection.specs.Walks.{Kept}
use Rattle.block_intervals.specs.Spans.{first_of, end_of, shift_of, standing, ListedAt}
use Rattle.block_words.specs.Layout.{kinds_at}
use Rattle.block_intervals.specs.Layout.{spans_size, ends_at, shifts_at, rising_sections}
use Rattle.std.specs.Prelude.{Option, Some, None}

-- the net at a pin's place in the table, and by how much the runs that stand for it are higher at the pin
abbrev pub source_at : List ℕ → ℕ → ℕ
source_at table at = get_or table at 0

abbrev pub shift_at : List ℕ → List ℕ → List ℕ → ℕ → ℕ
shift_at table offsets spans at = shift_of spans (source_at table at) + get_or offsets at 0

-- what the pin at a place adds
abbrev pub pin_runs_of : List ℕ → List ℕ → List ℕ → List ℕ → ℕ → List Run
pin_runs_of table offsets spans ws at = shift_runs (shift_at table offsets spans at) (standing spans ws (source_at table at))

-- what the set ones of the first n bits of a word add, the lowest first
unfoldable pub bit_runs : (ℕ → List Run) → ℕ → ℕ → List Run
bit_runs f w zero = []
bit_runs f w (suc n) = bit_runs f w n ++ only_if (bit w n) (f n)

-- the runs of a gate's net: what its active pins, one bit each in a byte, add one after the other
abbrev pub byte_runs : List ℕ → List ℕ → ℕ → ℕ → List ℕ → List ℕ → List Run
byte_runs table offsets first byte spans ws = add_runs [] (bit_runs (λ p. pin_runs_of table offsets spans ws (first + p)) byte 8)

-- the runs of the net at a pin stand before run place `made`
pub record PinReady (table offsets spans ws : List ℕ) (made at : ℕ) : Type 0 where
  pub is_net : source_at table at < 512
  pub ordered : first_of spans (source_at table at) ≤ end_of spans (source_at table at)
  pub before : end_of spans (source_at table at) ≤ made
  pub fits : shift_at table offsets spans at ≤ 2 ^ 62
  pub sound : Sound (2 ^ 62) (standing spans ws (source_at table at))

-- the active pins of a gate whose pins are at the places from `first` on
pub record ByteReady (table offsets spans ws : List ℕ) (made first byte : ℕ) : Type 0 where
  pub inside : first + 8 ≤ kinds_at
  pub some : 0 < byte
  pub small : byte < 256
  pub used : made ≤ max_runs
  pub room : 2 * max_runs ≤ length ws
  pub pins : (p : ℕ) → bit byte p ≡ true → PinReady table offsets spans ws made (first + p)

-- a list's entry: 256 net + byte of active pins
pub record EntryReady (table offsets : List ℕ) (entry : ℕ) (spans ws : List ℕ) (made : ℕ) : Type 0 where
  pub is_net : entry / 256 < 512
  pub span_room : length spans ≡ spans_size
  pub byte : ByteReady table offsets spans ws made (8 * (entry / 256)) (entry % 256)

abbrev pub entry_runs_of : List ℕ → List ℕ → ℕ → List ℕ → List ℕ → List Run
entry_runs_of table offsets entry spans ws = byte_runs table offsets (8 * (entry / 256)) (entry % 256) spans ws

-- the spans with that of a net written
abbrev pub with_span : List ℕ → ℕ → ℕ → ℕ → ℕ → List ℕ
with_span spans net first end shift = set (set (set spans net first) (ends_at + net) end) (shifts_at + net) shift

pub record SameSpan (spans spans' : List ℕ) (net : ℕ) : Type 0 where
  pub firsts : first_of spans' net ≡ first_of spans net
  pub ends : end_of spans' net ≡ end_of spans net
  pub shifts : shift_of spans' net ≡ shift_of spans net

-- a net whose runs are `s`: `count` of them, all runs before run place `after`
pub record SpanMade (made net : ℕ) (s : List Run) (spans' ws' : List ℕ) (count after : ℕ) : Type 0 where
  pub counted : count ≡ length s
  pub few : count ≤ max_runs
  pub grows : made ≤ after
  pub most : after ≤ made + count
  pub used : after ≤ max_runs
  pub ordered : first_of spans' net ≤ end_of spans' net
  pub before : end_of spans' net ≤ after
  pub small : shift_of spans' net ≤ 2 ^ 62
  pub sound : Sound (2 ^ 62) s → Sound (2 ^ 62) (standing spans' ws' net)
  pub runs : shift_runs (shift_of spans' net) (standing spans' ws' net) ≡ s

-- the span of one net more; the other spans and the runs before run place `made` are as they were
pub record NetSpanned (made net : ℕ) (s : List Run) (spans ws spans' ws' : List ℕ) (r : Option (ℕ × ℕ)) : Type 0 where
  pub kept : Kept ws ws'
  pub below : (f k : ℕ) → f + k ≤ made → runs_in_words ws' f k ≡ runs_in_words ws f k
  pub same_room : length spans' ≡ length spans
  pub others : (q : ℕ) → q < 512 → (q ≡ net → ⊥) → SameSpan spans spans' q
  pub sections : (k : ℕ) → rising_sections ≤ k → get_or spans' k 0 ≡ get_or spans k 0
  pub over : r ≡ None → max_runs < made + length s
  pub spanned : (count after : ℕ) → r ≡ Some (count, after) → SpanMade made net s spans' ws' count after

-- what all listed nets are handed: a case's list and tables, and the run 1 to 1 at run place 0
pub record NetsListed (K : Case) (inputs : ℕ) (table offsets entries spans ws : List ℕ) : Type 0 where
  pub edges : ℕ
  pub outs : ℕ
  pub at-list : ListedAt K table offsets entries edges outs inputs spans ws
  pub first_run_of : run_at ws 0 ≡ run 1 1

pub record SomeNetsListed (table offsets entries spans ws : List ℕ) : Type 0 where
  pub case : Case
  pub inputs : ℕ
  pub at-nets : NetsListed case inputs table offsets entries spans ws
