-- What `exhaust_block` prints of a netlist in a class (document 02, ticket 14), but for the paths in gates, and the faults whose paths it prints.
-- Names: class is the number of a class, left the store that all pairs leave, paths the number of paths.
use Rattle.std.specs.Prelude.{◌≡◌, List, [], ◌++◌, ℕ, length, take, replicate}
use Rattle.model.specs.Base.{Answer, refused, value}
use Rattle.model.specs.Netlist.{Netlist, path_total}
use Rattle.model.specs.Read.{read_netlist}
use Rattle.model.specs.Store.{empty_store}
use Rattle.model.specs.Calls.{work_words_count}
use Rattle.exhaust_pairs.specs.Exhaust.{exhaust_call, exhaust_answer}
use Rattle.exhaust.specs.Answers.{totals_among}
use Rattle.exhaust_undetected.specs.Undetected.{undetected, listed}
use Rattle.text_buffer.specs.Written.{Written, plain_line}
use Rattle.listing_lines.specs.ListingLines.{refused_line_of}
use Rattle.listing_text.specs.Listing.{store_lines}
use Rattle.exhaust_undetected_text.specs.UndetectedText.{count_text}
use Rattle.exhaust_text.specs.declared.FaultList.{FaultList}
use Rattle.exhaust_text.specs.declared.BlockShown.{BlockShown}

-- the runs and the totals as the listing has them, then how many faults are not held
unfoldable pub block_lines : List ℕ → ℕ → List ℕ
block_lines left paths = store_lines left ++ plain_line (count_text (length (undetected left paths)))

-- working memory of zeros
abbrev pub zero_work : List ℕ
zero_work = replicate work_words_count 0

-- all pairs of a netlist in a class, with memory of zeros: the store that they leave
abbrev pub block_call : List ℕ → ℕ → Answer (List ℕ)
block_call netlist class = exhaust_call netlist class empty_store zero_work

-- the number of paths, none of a refused netlist
abbrev pub paths_of : Answer Netlist → ℕ
paths_of (refused n) = 0
paths_of (value N) = path_total N

-- the text of what the call answers: of a refusal `refused` and the number alone
abbrev pub shown_text : Answer (List ℕ) → ℕ → List ℕ
shown_text (refused number) paths = refused_line_of number
shown_text (value left) paths = block_lines left paths

-- the faults that are listed after it, none after a refusal
abbrev pub shown_faults : Answer (List ℕ) → ℕ → List ℕ
shown_faults (refused number) paths = []
shown_faults (value left) paths = listed left paths

-- What all pairs of a netlist show
unfoldable pub block_text : List ℕ → ℕ → List ℕ
block_text netlist class = shown_text (block_call netlist class) (paths_of (read_netlist netlist))

unfoldable pub block_faults : List ℕ → ℕ → List ℕ
block_faults netlist class = shown_faults (block_call netlist class) (paths_of (read_netlist netlist))

-- the numbers on a list
abbrev pub list_of : FaultList → List ℕ
list_of fs = take fs.count fs.numbers

-- The text stands at the start of the buffer and nothing else changed; the list; and whether the pairs are refused
pub record BlockTrue (r : BlockShown) (netlist : List ℕ) (class : ℕ) (out out' : List ℕ) : Type 0 where
  pub put : Written out out' 0 (block_text netlist class) r.length
  pub text : take r.length out' ≡ block_text netlist class
  pub list : list_of r.faults ≡ block_faults netlist class
  pub answer : totals_among r.answer ≡ exhaust_answer netlist class empty_store zero_work
