-- The test calls with the pieces of a file, one after the other, are those with the file.
use Rattle.model.proofs.Prelude.{ℕ, ◌/◌, ◌%◌, ◌≡◌, ◌∙◌, ap, refl, sym, List, [], ◌∷◌, ◌++◌, append-nil, length, div-eq_of_lt, arith}
use Rattle.model.specs.Base.{Answer, refused, value}
use Rattle.model.specs.Netlist.{Netlist}
use Rattle.model.specs.Detect.{Class}
use Rattle.model.specs.Read.{record_length}
use Rattle.model.specs.Report.{records, test_all}
use Rattle.model.proofs.PieceLaws.{piece-first}
use Rattle.audit_piece_steps.specs.Steps.{with_piece}
use Rattle.audit_piece_steps.specs.JoinedPieces.{joined, WholeButLast, with_pieces}

-- no piece changes nothing
pub no_bytes : (N : Netlist) (c : Class) (x : Answer (List ℕ)) → with_piece N c [] x ≡ x
unfolding with_piece test_all
no_bytes N c (refused n) = refl
no_bytes N c (value ws) =
    let d : 0 / record_length N ≡ 0 = div-eq_of_lt {n = 0} {m = record_length N} (omega arith) in
    ap (λ (k : ℕ). test_all N c (records (record_length N) k []) ws) d

-- a piece of whole records, then another
pub piece_then : (N : Netlist) (c : Class) (piece rest : List ℕ) (x : Answer (List ℕ)) → length piece % record_length N ≡ 0
    → with_piece N c rest (with_piece N c piece x) ≡ with_piece N c (piece ++ rest) x
unfolding with_piece
piece_then N c piece rest (refused n) h = refl
piece_then N c piece rest (value ws) h = sym (piece-first N c piece rest ws h)

-- The pieces of a file, one after the other, are the file
pub pieces-joined : (N : Netlist) (c : Class) (ps : List (List ℕ)) → WholeButLast N ps → (x : Answer (List ℕ))
    → with_pieces N c ps x ≡ with_piece N c (joined ps) x
unfolding with_pieces
pieces-joined N c [] h x = sym (no_bytes N c x)
pieces-joined N c (p ∷ []) h x = ap (λ (b : List ℕ). with_piece N c b x) (sym (append-nil p))
pieces-joined N c (p ∷ q ∷ ps) h x = pieces-joined N c (q ∷ ps) h.1 (with_piece N c p x) ∙ piece_then N c p (joined (q ∷ ps)) x h.0
