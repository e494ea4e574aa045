-- The answers to a text that comes in pieces: what each piece adds, and what is known between two pieces, which is the place of the line at hand and
-- what it states so far.
use Rattle.std.specs.Prelude.{◌≡◌, true, false, List, [], ◌∷◌, ◌++◌, ℕ, ◌+◌, ◌*◌, ◌^◌, ◌≤◌, ◌<◌, eqb, length}
use Rattle.model.specs.Base.{Answer}
use Rattle.model.specs.Path.{path_of_fault}
use Rattle.model.specs.Runs.{in_runs}
use Rattle.text_buffer.specs.Written.{Written}
use Rattle.tree_words.specs.TreeLayout.{tree_runs}
use Rattle.tree_words.specs.Ways.{way_to}
use Rattle.tree_words.specs.Calls.{Asked}
use Rattle.tree_descent.specs.declared.inner.Visit.{Visit}
use Rattle.tree_filling.specs.TreesOfStore.{TreesReady}
use Rattle.ask_text.specs.declared.inner.Stated.{Stated}
use Rattle.ask_text.specs.declared.inner.Stated.TheVariants as stated
use Rattle.ask_text.specs.declared.inner.Asking.{Asking}
use Rattle.ask_text.specs.Questions.{tree_of, fault_asked, byte_after_of, answer_line}

-- the most bytes of an answer
abbrev pub answer_bytes : ℕ
answer_bytes = 128

-- the place of the line at hand after the bytes of a piece, and what it states so far
unfoldable pub place_after : ℕ → List ℕ → ℕ
place_after place [] = place
place_after place (b ∷ bs) = elim (eqb b 10) [ true ↦ place_after (place + 1) bs | false ↦ place_after place bs ]

unfoldable pub line_after : Stated → List ℕ → Stated
line_after line [] = line
line_after line (b ∷ bs) = elim (eqb b 10) [ true ↦ line_after stated.Nothing bs | false ↦ line_after (byte_after_of line b) bs ]

-- the answers to the lines that end in a piece
unfoldable pub piece_text : (ℕ → Answer Asked) → ℕ → Stated → List ℕ → List ℕ
piece_text ask place line [] = []
piece_text ask place line (b ∷ bs) =
    elim (eqb b 10) [
      | true ↦ answer_line ask place line ++ piece_text ask (place + 1) stated.Nothing bs
      | false ↦ piece_text ask place (byte_after_of line b) bs
    ]

-- the answer to what stands after the last end of a line
unfoldable pub last_text : (ℕ → Answer Asked) → ℕ → Stated → List ℕ
last_text ask place stated.Nothing = []
last_text ask place (stated.Number n) = answer_line ask place (stated.Number n)
last_text ask place stated.Wrong = answer_line ask place stated.Wrong

-- all pieces of a text, one after the other
unfoldable pub pieces_text : (ℕ → Answer Asked) → ℕ → Stated → List (List ℕ) → List ℕ
pieces_text ask place line [] = last_text ask place line
pieces_text ask place line (p ∷ ps) = piece_text ask place line p ++ pieces_text ask (place_after place p) (line_after line p) ps

-- What is asked for the answer to one line, and what one more byte of a text leaves: the text it adds stands in the buffer after what waited there
pub record ByteReady (s : Asking) (paths : ℕ) (up down out : List ℕ) : Type 0 where
  pub trees : TreesReady paths up down
  pub room : s.bytes + answer_bytes ≤ length out
  pub places : s.place + 1 < 2 ^ 64

-- The same for a piece
pub record PieceReady (s : Asking) (paths : ℕ) (up down piece out : List ℕ) : Type 0 where
  pub trees : TreesReady paths up down
  pub room : s.bytes + answer_bytes * length piece ≤ length out
  pub places : s.place + length piece < 2 ^ 64

pub record PieceAnswered (s r : Asking) (paths : ℕ) (up down piece out out' : List ℕ) : Type 0 where
  pub text : Written out out' s.bytes (piece_text (fault_asked paths up down) s.place s.line piece) r.bytes
  pub few : r.bytes ≤ s.bytes + answer_bytes * length piece
  pub place_is_of : r.place ≡ place_after s.place piece
  pub line_is : r.line ≡ line_after s.line piece

-- what a tree answers for a fault
pub record FaultVisited (r : Visit) (up down : List ℕ) (fault : ℕ) : Type 0 where
  pub held : r.held ≡ in_runs (tree_runs (tree_of up down fault)) (path_of_fault fault)
  pub visited : r.visited ≡ length (way_to (tree_of up down fault) (path_of_fault fault))
