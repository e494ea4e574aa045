-- Questions that were read in pieces. The input is the bytes that the reads left in the space, one piece after the other: there is such an input.
use Rattle.std.specs.Prelude.{◌≡◌, true, List, ℕ, ◌+◌, ◌^◌, ◌<◌, length, take}
use Rattle.ask_text.specs.Questions.{fault_asked}
use Rattle.ask_text.specs.Pieces.{place_after, line_after, last_text}
use Rattle.ask_text.specs.declared.inner.Stated.TheVariants as stated
use Rattle.ask_walk.specs.declared.inner.Taken.{Taken}
use Rattle.ask_walk.specs.declared.inner.AnsweredInput.{AnsweredInput}

-- the most bytes that are read at a time, and the bytes of the buffer that their answers are put into
abbrev pub piece_bytes : ℕ
piece_bytes = 512

abbrev pub out_bytes : ℕ
out_bytes = 65536

-- An input that was taken: its length, and the state after it, with no answer waiting
pub record InputTaken (r : Taken) : Type 0 where
  pub input : List ℕ
  pub bytes_are : r.bytes ≡ length input
  pub most : r.bytes < 2 ^ 63 + piece_bytes
  pub place_is_of : r.asking.place ≡ place_after 1 input
  pub line_is : r.asking.line ≡ line_after stated.Nothing input
  pub none : r.asking.bytes ≡ 0

-- An input that was read to its end: the buffer then begins with the answer to what stands after the last end of a line
pub record InputAnswered (r : AnsweredInput) (paths : ℕ) (up down out' : List ℕ) : Type 0 where
  pub input : List ℕ
  pub bytes_are : r.bytes ≡ length input
  pub last : r.whole ≡ true → take r.end out' ≡ last_text (fault_asked paths up down) (place_after 1 input) (line_after stated.Nothing input)
