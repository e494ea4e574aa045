-- The runs that the live outputs add one after the other: those of their nets, shifted by the paths of the outputs before. And what is made of a record's list
-- before them.
use Rattle.std.specs.Prelude.{◌≡◌, true, List, [], ℕ, ◌+◌, ◌*◌, ◌^◌, ◌≤◌, ◌<◌, length, get_or}
use Rattle.model.specs.Base.{bit}
use Rattle.model.specs.Runs.{Run}
use Rattle.model.specs.Store.{max_runs}
use Rattle.run_lists.specs.RunLists.{Sound, add_runs, shift_runs}
use Rattle.detection.specs.Cases.{Case, detected, working}
use Rattle.detection.specs.Walks.{Kept}
use Rattle.block_intervals.specs.Spans.{first_of, end_of, shift_of, standing}
use Rattle.block_intervals.specs.PinSpans.{bit_runs}
use Rattle.block_activity.specs.Layout.{output_offsets_at, out_at}
use Rattle.std.specs.Prelude.{Option, Some, None}

-- of an output: by how much its runs are higher than those that stand for its net, and its runs
abbrev pub out_shift : List ℕ → List ℕ → ℕ → ℕ
out_shift offsets spans o = shift_of spans (out_at offsets o) + get_or offsets (output_offsets_at + o) 0

abbrev pub runs_of_output : List ℕ → List ℕ → List ℕ → ℕ → List Run
runs_of_output offsets spans ws o = shift_runs (out_shift offsets spans o) (standing spans ws (out_at offsets o))

-- the runs of the outputs of a word, joined
abbrev pub runs_of_outputs : List ℕ → ℕ → List ℕ → List ℕ → List Run
runs_of_outputs offsets outs spans ws = add_runs [] (bit_runs (runs_of_output offsets spans ws) outs 64)

-- the runs of an output's net stand in the first quarter of the words
pub record OutputReady (offsets spans ws : List ℕ) (o : ℕ) : Type 0 where
  pub is_net : out_at offsets o < 512
  pub ordered : first_of spans (out_at offsets o) ≤ end_of spans (out_at offsets o)
  pub before : end_of spans (out_at offsets o) ≤ max_runs
  pub small : out_shift offsets spans o ≤ 2 ^ 62
  pub sound : Sound (2 ^ 62) (standing spans ws (out_at offsets o))

-- the runs of an output, shifted, end no later than the paths before output p do
pub record EndsBefore (offsets spans ws : List ℕ) (o p : ℕ) : Type 0 where
  pub each : (i : ℕ) → first_of spans (out_at offsets o) ≤ i → i < end_of spans (out_at offsets o)
      → get_or ws (2 * i + 1) 0 + out_shift offsets spans o ≤ get_or offsets (output_offsets_at + p) 0

-- those of each output of a word, each before the outputs after it up to another of the word; and there is room in the second quarter
pub record OutputsReady (offsets : List ℕ) (outs : ℕ) (spans ws : List ℕ) : Type 0 where
  pub room : 4 * max_runs ≤ length ws
  pub each : (o : ℕ) → o < 64 → bit outs o ≡ true → OutputReady offsets spans ws o
  pub in_order : (o p q : ℕ) → o < p → p ≤ q → q < 64 → bit outs o ≡ true → bit outs q ≡ true → EndsBefore offsets spans ws o p

-- the runs of a record's listed nets stand, by their spans: Full exactly where the working runs are over 1,024, and else the live outputs add the detected runs
pub record SpansListed (K : Case) (offsets : List ℕ) (outs : ℕ) (spans' ws ws' : List ℕ) (r : Option ℕ) : Type 0 where
  pub kept : Kept ws ws'
  pub over : r ≡ None → max_runs < working K
  pub fits : (n : ℕ) → r ≡ Some n → working K ≤ max_runs
  pub ready : (n : ℕ) → r ≡ Some n → OutputsReady offsets outs spans' ws'
  pub detects : (n : ℕ) → r ≡ Some n → runs_of_outputs offsets outs spans' ws' ≡ detected K
