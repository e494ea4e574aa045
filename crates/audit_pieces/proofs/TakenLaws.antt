-- The number of records taken: piece after piece it is that of the whole file.
use Rattle.model.proofs.Prelude.{ℕ, ◌+◌, ◌/◌, ◌%◌, ◌≡◌, ◌∙◌, ap, refl, sym, ap₂, List, [], ◌∷◌, ◌++◌, append-nil, length, zero-add, div-eq_of_lt}
use Rattle.model.proofs.Prelude.{arith}
use Rattle.model.specs.Base.{Answer, refused, value}
use Rattle.model.specs.Netlist.{Netlist}
use Rattle.model.specs.Detect.{Class}
use Rattle.model.specs.Read.{read_netlist, class_of, record_length}
use Rattle.model.specs.Report.{records, file_records, test_all}
use Rattle.model.proofs.PieceLaws.{file-records-append}
use Rattle.netlist.specs.declared.inner.Loaded.{Loaded}
use Rattle.audit_block.specs.RecordsTaken.{file_of, taken_of}
use Rattle.audit_block.specs.declared.inner.TakenRecords.{TakenRecords}
use Rattle.audit_block.proofs.TakenRecordLaws.{taken_then_of, then-more, taken-append}
use Rattle.audit_piece_steps.specs.Steps.{with_piece, taken_with}
use Rattle.audit_piece_steps.specs.JoinedPieces.{joined, WholeButLast}
use Rattle.audit_pieces.specs.Together.{MadePiece, bytes_of, Promised, last_answer}

as_then : (N : Netlist) (c : Class) (piece : List ℕ) (x : Answer (List ℕ)) (k : ℕ) → taken_with N c piece x k ≡ taken_then_of N c (file_records N piece) x k
unfolding taken_with
as_then N c piece (refused n) k = refl
as_then N c piece (value left) k = refl

-- a piece of whole records, then another
pub taken-both : (N : Netlist) (c : Class) (piece rest : List ℕ) (x : Answer (List ℕ)) (k : ℕ) → length piece % record_length N ≡ 0
    → taken_with N c rest (with_piece N c piece x) (taken_with N c piece x k) ≡ taken_with N c (piece ++ rest) x k
unfolding with_piece taken_with
taken-both N c piece rest (refused n) k h = refl
taken-both N c piece rest (value ws) k h =
    let x : Answer (List ℕ) = test_all N c (file_records N piece) ws in
    let qs : List (List ℕ) = file_records N rest in
    as_then N c rest x (k + taken_of N c (file_records N piece) ws)
    ∙ sym (then-more N c qs x k (taken_of N c (file_records N piece) ws))
    ∙ ap (λ (j : ℕ). k + j) (sym (taken-append N c (file_records N piece) qs ws))
    ∙ ap (λ (rs : List (List ℕ)). k + taken_of N c rs ws) (sym (file-records-append N piece rest h))

-- no piece
pub taken_none : (N : Netlist) (c : Class) (x : Answer (List ℕ)) (k : ℕ) → k ≡ taken_with N c [] x k
unfolding taken_with taken_of
taken_none N c (refused n) k = refl
taken_none N c (value ws) k =
    let d : 0 / record_length N ≡ 0 = div-eq_of_lt {n = 0} {m = record_length N} (omega arith) in
    let z : taken_of N c (file_records N []) ws ≡ 0 = ap (λ (i : ℕ). taken_of N c (records (record_length N) i []) ws) d in
    omega (arith, z)

-- the pieces in order
abbrev pub taken_withs : Netlist → Class → List (List ℕ) → Answer (List ℕ) → ℕ → ℕ
taken_withs N c [] x k = k
taken_withs N c (p ∷ ps) x k = taken_withs N c ps (with_piece N c p x) (taken_with N c p x k)

taken-joined : (N : Netlist) (c : Class) (ps : List (List ℕ)) → WholeButLast N ps → (x : Answer (List ℕ)) (k : ℕ) → taken_withs N c ps x k ≡ taken_with N c (joined ps) x k
taken-joined N c [] h x k = taken_none N c x k
taken-joined N c (p ∷ []) h x k = ap (λ (b : List ℕ). taken_with N c b x k) (sym (append-nil p))
taken-joined N c (p ∷ q ∷ ps) h x k = taken-joined N c (q ∷ ps) h.1 (with_piece N c p x) (taken_with N c p x k) ∙ taken-both N c p (joined (q ∷ ps)) x k h.0

-- from a store, and none taken before
pub taken-whole : (N : Netlist) (c : Class) (ps : List (List ℕ)) → WholeButLast N ps → (ws : List ℕ) → taken_withs N c ps (value ws) 0 ≡ taken_of N c (file_records N (joined ps)) ws
unfolding taken_with
taken-whole N c ps h ws = taken-joined N c ps h (value ws) 0 ∙ zero-add (taken_of N c (file_records N (joined ps)) ws)

-- of the values that the pieces return
pub last_taken : (netlist : List ℕ) (loaded : Loaded) (class : ℕ) (N : Netlist) → read_netlist netlist ≡ value N
    → (before : TakenRecords) (ws : List ℕ) (ms : List MadePiece) → Promised netlist loaded class before ws ms
    → (last_answer before ms).taken ≡ taken_withs N (class_of class) (bytes_of ms) (file_of before.answer ws) before.taken
last_taken netlist loaded class N e before ws [] p = refl
last_taken netlist loaded class N e before ws (m ∷ ms) p =
    last_taken netlist loaded class N e m.answer m.left ms p.1
    ∙ ap₂ (λ x k. taken_withs N (class_of class) (bytes_of ms) x k) (p.0.answer N e) (p.0.taken N e)
