-- A load that is written in pieces, each as long as a buffer takes: end to end they are what the program writes (proofs/WalkHolds).
-- Names: w is a walk, room the number of the buffer's bytes, n a number of pieces.
use Rattle.std.specs.Prelude.{Option, Some, None, Result, Ok, Err, ◌≡◌, true, false, List, [], ◌++◌, ℕ, zero, suc, ◌-◌, ◌*◌, ◌/◌, ltb, length}
use Rattle.model.specs.Read.{within}
use Rattle.load_vectors.specs.Drawing.{state_after}
use Rattle.load_request.specs.Requests.{Request}
use Rattle.load.specs.Load.{vector_records}
use Rattle.load.specs.Answers.{vector_size_of}
use Rattle.load_walk.specs.declared.inner.Walk.{Walk}
use Rattle.load_walk.specs.declared.StartRefusal.{StartRefusal}
use Rattle.load_walk.specs.declared.StartRefusal.TheVariants as start

-- what load.bin starts: another length than ten bytes nothing, and a number of inputs outside 1 to 64 nothing; else the load begins with the seed
unfoldable pub start_of : Option Request → Result Walk StartRefusal
start_of None = Err start.OtherLength
start_of (Some r) =
    elim (within 1 64 r.inputs) [
      | true ↦ Ok (record { state = r.seed; left = r.vectors; inputs = r.inputs; size = 0 })
      | false ↦ Err start.InputsRefused
    ]

-- the records that a walk has still to write
abbrev pub to_write : Walk → List ℕ
to_write w = vector_records w.inputs w.left w.state

-- the bytes of what load.bin starts
abbrev pub started_bytes : Result Walk StartRefusal → List ℕ
started_bytes (Ok w) = to_write w
started_bytes (Err why) = []

abbrev pub lesser : ℕ → ℕ → ℕ
lesser a b = elim (ltb a b) [ true ↦ a | false ↦ b ]

-- the vectors of the next piece: as many as are left, or as the buffer has room for
abbrev pub vectors_next : ℕ → Walk → ℕ
vectors_next room w = lesser w.left (room / vector_size_of w.inputs)

-- The next piece: the records of so many vectors, the first drawn from the walk's state
unfoldable pub piece_of : ℕ → Walk → List ℕ
piece_of room w = vector_records w.inputs (vectors_next room w) w.state

-- The walk after it: the state goes on
unfoldable pub next_walk : ℕ → Walk → Walk
next_walk room w =
    record {
      state = state_after (vectors_next room w * w.inputs) w.state;
      left = w.left - vectors_next room w;
      inputs = w.inputs;
      size = length (piece_of room w);
    }

-- the walk after n pieces, and their bytes end to end
unfoldable pub walk_after : ℕ → ℕ → Walk → Walk
walk_after room zero w = w
walk_after room (suc n) w = next_walk room (walk_after room n w)

unfoldable pub pieces_of : ℕ → ℕ → Walk → List ℕ
pieces_of room zero w = []
pieces_of room (suc n) w = pieces_of room n w ++ piece_of room (walk_after room n w)

-- a walk after some pieces, each from where the one before it ended
pub record Walked (room : ℕ) (w w' : Walk) : Type 0 where
  pub pieces : ℕ
  pub is : w' ≡ walk_after room pieces w
