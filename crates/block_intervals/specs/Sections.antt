-- The runs of outputs that lie in held runs.
use Rattle.std.specs.Prelude.{◌≡◌, true, false, List, ℕ, ◌+◌, ◌/◌, ◌^◌, ◌≤◌, ◌<◌, length, get_or}
use Rattle.model.specs.Base.{bit}
use Rattle.run_lists.specs.RunLists.{shift_run, run_at}
use Rattle.run_lists.specs.Answers.{RunInside}
use Rattle.block_intervals.specs.Spans.{first_of, end_of}
use Rattle.block_intervals.specs.LiveOutputs.{out_shift}
use Rattle.block_activity.specs.Layout.{output_offsets_at, out_at}

-- a section that begins at the number at place `at` and ends at the next: within `count` runs
pub record SectionIn (spans : List ℕ) (at count : ℕ) : Type 0 where
  pub ordered : get_or spans at 0 ≤ get_or spans (at + 1) 0
  pub within : get_or spans (at + 1) 0 ≤ count

-- each of the runs from..to of some words, shifted, lies in one of the held runs
pub record SpanHeld (ws : List ℕ) (from to shift : ℕ) (held : List ℕ) : Type 0 where
  pub each : (i : ℕ) → from ≤ i → i < to → RunInside held 0 (length held / 2) (shift_run shift (run_at ws i))

-- the runs of an output
abbrev pub OutputHeld : List ℕ → List ℕ → List ℕ → List ℕ → ℕ → Type 0
OutputHeld offsets spans ws held o = SpanHeld ws (first_of spans (out_at offsets o)) (end_of spans (out_at offsets o)) (out_shift offsets spans o) held

-- those of each output of a word
pub record OutputsHeld (offsets : List ℕ) (outs : ℕ) (spans ws held : List ℕ) : Type 0 where
  pub each : (o : ℕ) → o < 64 → bit outs o ≡ true → OutputHeld offsets spans ws held o

-- the first held run begins with number 1 at the latest and reaches the paths before an output `next`, after output o and no later than a live one
pub record FirstHolds (offsets : List ℕ) (outs : ℕ) (held : List ℕ) (o : ℕ) : Type 0 where
  pub next : ℕ
  pub last : ℕ
  pub after : o < next
  pub up_to : next ≤ last
  pub few : last < 64
  pub live : bit outs last ≡ true
  pub some : 0 < length held / 2
  pub low : get_or held 0 0 ≤ 1
  pub high : get_or offsets (output_offsets_at + next) 0 ≤ get_or held 1 0

-- the outputs of a word that are left to ask: for the others the first held run holds all that they can have
pub record Asked (offsets : List ℕ) (outs : ℕ) (held : List ℕ) (left : ℕ) : Type 0 where
  pub small : left < 2 ^ 64
  pub within : (o : ℕ) → bit left o ≡ true → bit outs o ≡ true
  pub others : (o : ℕ) → o < 64 → bit outs o ≡ true → bit left o ≡ false → FirstHolds offsets outs held o
