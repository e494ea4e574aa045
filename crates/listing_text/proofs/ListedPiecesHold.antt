-- A test file in pieces, each but the last a whole number of records: the lines of the pieces, one after the other, are those of the whole file,
-- and with the lines before and after them the listing.
use Rattle.model.proofs.Prelude.{ℕ, ◌+◌, ◌*◌, suc, ◌≡◌, ◌∙◌, ap, refl, sym, ap₂, true, List, [], ◌∷◌, ◌++◌, append_assoc, append-nil, length}
use Rattle.model.proofs.Prelude.{length-append, T, arith}
use Rattle.model.specs.Base.{Answer, value, ◌into◌, ◌then◌, checks}
use Rattle.model.specs.Netlist.{Netlist, path_total}
use Rattle.model.specs.Detect.{Class}
use Rattle.model.specs.Read.{within, read_netlist, class_of, class_rule, record_length}
use Rattle.model.proofs.BoolLaws.{T→true}
use Rattle.model.specs.Store.{empty_store}
use Rattle.model.specs.Calls.{test_stage}
use Rattle.store_coverage.specs.Stage.{store_after}
use Rattle.store_coverage.specs.TestCall.{returned_by}
use Rattle.listing_lines.specs.ListingLines.{paths_line, record_line}
use Rattle.listing_text.specs.Listing.{record_lines, store_after_all, listed_records, store_lines, listing_of, listing_text}
use Rattle.listing_text.specs.Pieces.{joined, WholeButLast, piece_lines, store_after_pieces}
use Rattle.listing_text.proofs.CutLaws.{listed-end, listed-append}

-- the records of one list after those of another
lines-append : (N : Netlist) (c : Class) (place : ℕ) (rs ss : List (List ℕ)) (ws : List ℕ)
    → record_lines N c place (rs ++ ss) ws ≡ record_lines N c place rs ws ++ record_lines N c (place + length rs) ss (store_after_all N c rs ws)
unfolding record_lines store_after_all
lines-append N c place [] ss ws = let z : place ≡ place + 0 = omega arith in ap (λ (k : ℕ). record_lines N c k ss ws) z
lines-append N c place (r ∷ rs) ss ws =
    let line : List ℕ = record_line place (returned_by (test_stage N c r ws)) in
    let next : List ℕ = store_after (test_stage N c r ws) ws in
    let z : suc place + length rs ≡ place + suc (length rs) = omega arith in
    ap (λ (x : List ℕ). line ++ x) (lines-append N c (suc place) rs ss next)
    ∙ sym (append_assoc line (record_lines N c (suc place) rs next) (record_lines N c (suc place + length rs) ss (store_after_all N c rs next)))
    ∙ ap (λ (k : ℕ). line ++ record_lines N c (suc place) rs next ++ record_lines N c k ss (store_after_all N c rs next)) z

store-append : (N : Netlist) (c : Class) (rs ss : List (List ℕ)) (ws : List ℕ) → store_after_all N c (rs ++ ss) ws ≡ store_after_all N c ss (store_after_all N c rs ws)
unfolding store_after_all
store-append N c [] ss ws = refl
store-append N c (r ∷ rs) ss ws = store-append N c rs ss (store_after (test_stage N c r ws) ws)

pub pieces-lines : (N : Netlist) (c : Class) (place : ℕ) (ps : List (List ℕ)) (ws : List ℕ) → WholeButLast N ps
    → piece_lines N c place ps ws ≡ record_lines N c place (listed_records N (joined ps)) ws
unfolding record_lines
pieces-lines N c place [] ws w = ap (λ (rs : List (List ℕ)). record_lines N c place rs ws) (sym (listed-end N [] 0 (omega arith)))
pieces-lines N c place (p ∷ []) ws w = append-nil (record_lines N c place (listed_records N p) ws) ∙ ap (λ (x : List ℕ). record_lines N c place (listed_records N x) ws) (sym (append-nil p))
pieces-lines N c place (p ∷ q ∷ ps) ws w =
    let rest : List ℕ = joined (q ∷ ps) in
    let next : List ℕ = store_after_all N c (listed_records N p) ws in
    ap (λ (x : List ℕ). record_lines N c place (listed_records N p) ws ++ x) (pieces-lines N c (place + length (listed_records N p)) (q ∷ ps) next w.1)
    ∙ sym (lines-append N c place (listed_records N p) (listed_records N rest) ws)
    ∙ ap (λ (x : List (List ℕ)). record_lines N c place x ws) (sym (listed-append N w.0.0 p rest w.0.1))

pub pieces-store : (N : Netlist) (c : Class) (ps : List (List ℕ)) (ws : List ℕ) → WholeButLast N ps → store_after_pieces N c ps ws ≡ store_after_all N c (listed_records N (joined ps)) ws
unfolding store_after_all
pieces-store N c [] ws w = ap (λ (rs : List (List ℕ)). store_after_all N c rs ws) (sym (listed-end N [] 0 (omega arith)))
pieces-store N c (p ∷ []) ws w = ap (λ (x : List ℕ). store_after_all N c (listed_records N x) ws) (sym (append-nil p))
pieces-store N c (p ∷ q ∷ ps) ws w =
    let rest : List ℕ = joined (q ∷ ps) in
    pieces-store N c (q ∷ ps) (store_after_all N c (listed_records N p) ws) w.1
    ∙ sym (store-append N c (listed_records N p) (listed_records N rest) ws)
    ∙ ap (λ (x : List (List ℕ)). store_after_all N c x ws) (sym (listed-append N w.0.0 p rest w.0.1))

-- one piece more, after whole records
module _ (N : Netlist) (c : Class) (before piece : List ℕ) (k : ℕ) (h : length before ≡ k * record_length N) where
  pub store-more : (ws : List ℕ)
      → store_after_all N c (listed_records N piece) (store_after_all N c (listed_records N before) ws) ≡ store_after_all N c (listed_records N (before ++ piece)) ws
  store-more ws =
      sym (store-append N c (listed_records N before) (listed_records N piece) ws)
      ∙ ap (λ (x : List (List ℕ)). store_after_all N c x ws) (sym (listed-append N k before piece h))

  pub lines_more : (place : ℕ) (ws : List ℕ)
      → record_lines N c place (listed_records N before) ws
      ++ record_lines N c (place + length (listed_records N before)) (listed_records N piece) (store_after_all N c (listed_records N before) ws)
      ≡ record_lines N c place (listed_records N (before ++ piece)) ws
  lines_more place ws =
      sym (lines-append N c place (listed_records N before) (listed_records N piece) ws)
      ∙ ap (λ (x : List (List ℕ)). record_lines N c place x ws) (sym (listed-append N k before piece h))

  pub count-more : length (listed_records N (before ++ piece)) ≡ length (listed_records N before) + length (listed_records N piece)
  count-more = ap (length {A = List ℕ}) (listed-append N k before piece h) ∙ length-append (listed_records N before) (listed_records N piece)

-- what the program writes, piece by piece, is the listing of the whole file
pub pieces-hold : (N : Netlist) (netlist : List ℕ) (class : ℕ) (ps : List (List ℕ)) → read_netlist netlist ≡ value N → T (within 1 2 class) → WholeButLast N ps
    → paths_line (path_total N) ++ piece_lines N (class_of class) 1 ps empty_store ++ store_lines (store_after_pieces N (class_of class) ps empty_store)
    ≡ listing_text netlist class (joined ps)
unfolding listing_text listing_of
pieces-hold N netlist class ps e k w =
    let c : Class = class_of class in
    let known : within 1 2 class ≡ true = T→true (within 1 2 class) k in
    let before : (read_netlist netlist into λ M. checks (class_rule class ∷ []) then value M) ≡ value N = rw e (rw known refl) in
    ap₂ (λ (x y : List ℕ). paths_line (path_total N) ++ x ++ store_lines y) (pieces-lines N c 1 ps empty_store w) (pieces-store N c ps empty_store w)
    ∙ sym (ap (λ (a : Answer Netlist). listing_of a c (joined ps)) before)
