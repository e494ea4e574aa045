-- What a piece of a test file and a load answer, as their answer words are written.
use Rattle.std.specs.Prelude.{List, [], ◌∷◌, ℕ}
use Rattle.model.specs.Base.{Answer, value, ◌into◌, ◌then◌}
use Rattle.audit_pieces.specs.Calls.{RecordsSaid}
use Rattle.load.specs.Calls.{Handed}

-- a piece of a test file: the number of its records if all were taken, else the number of the first refusal, of the call or of a record
abbrev pub all_taken : Answer RecordsSaid → Answer ℕ
all_taken x = x into λ r. r.said then value r.taken

-- a load: the state afterwards, then the bytes written
abbrev pub load_words : Handed → List ℕ
load_words h = h.state ∷ h.written ∷ []
