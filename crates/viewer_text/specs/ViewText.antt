-- What `view_outputs` prints of a store for a viewer (document 02, ticket 13): runs and totals as the listing does, for his outputs only.
-- Names: ws is the store, places the viewer.
use Rattle.std.specs.Prelude.{◌≡◌, List, ◌++◌, ℕ, take}
use Rattle.model.specs.Base.{Answer, refused, value}
use Rattle.model.specs.Runs.{Run}
use Rattle.model.specs.Store.{ByEdge, empty_store}
use Rattle.model.specs.Refusals.{refusal_number_of}
use Rattle.viewer_places.specs.Viewer.{viewer_totals_call, viewer_runs_call}
use Rattle.text_buffer.specs.Written.{Written, in_room}
use Rattle.listing_lines.specs.ListingLines.{numbered, refused_line_of}
use Rattle.listing_text.specs.Listing.{rising_word, falling_word, rising_letter, falling_letter, run_lines, store_lines}
use Rattle.listing_text.specs.StoreText.{out_bytes}
use Rattle.std.specs.Prelude.{Result, Ok, Err}
use Rattle.model.specs.declared.Refusal.{Refusal}

-- `R low high` for each rising run, `F low high` for each falling one, then the totals `rising` and `falling`
unfoldable pub view_lines : ByEdge (List Run) → ByEdge ℕ → List ℕ
view_lines runs totals =
    run_lines rising_letter runs.on_rising
    ++ run_lines falling_letter runs.on_falling
    ++ numbered rising_word totals.on_rising
    ++ numbered falling_word totals.on_falling

-- the lines of what the calls answer; of a refusal `refused` and the number alone
unfoldable pub shown : Answer (ByEdge (List Run)) → Answer (ByEdge ℕ) → List ℕ
shown (refused number) totals = refused_line_of number
shown (value runs) (refused number) = refused_line_of number
shown (value runs) (value totals) = view_lines runs totals

-- What a viewer is shown: the runs and the totals that his calls answer, with an empty store as the second one
unfoldable pub view_text : List ℕ → List ℕ → List ℕ → List ℕ
view_text netlist ws places = shown (viewer_runs_call netlist ws empty_store places) (viewer_totals_call netlist ws places)

-- the lines of an answer and of the second store that it left
unfoldable pub answer_text : Result (Unit {0}) Refusal → List ℕ → List ℕ
answer_text (Ok tt) second = store_lines second
answer_text (Err w) second = refused_line_of (refusal_number_of w)

-- A text at the start of a buffer and nothing else changed; nothing at all in one that is too short
pub record Shown (out out' text : List ℕ) (n : ℕ) : Type 0 where
  pub put : Written out out' 0 (in_room out_bytes out text) n
  pub first : take n out' ≡ in_room out_bytes out text
