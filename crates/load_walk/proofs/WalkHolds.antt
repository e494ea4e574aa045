-- The pieces of a load end to end: what is written, and what the walk has still to write, is the load; so once none is left they are what the
-- program writes.
use Rattle.model.proofs.Prelude.{ℕ, ◌≤◌, ◌+◌, ◌-◌, ◌*◌, suc, zero, ◌/◌, ◌≡◌, ◌∙◌, ap, refl, sym, true, Bool, false, List, [], ◌++◌, append_assoc}
use Rattle.model.proofs.Prelude.{append-nil, length, take, length-append, sets, take_at, sets-eq, ltb, suc-mul, arith}
use Rattle.std.specs.Prelude.{Option, Some, None, Ok, Err}
use borrow.Author.Tests.{ltb-false}
use Rattle.model.specs.Read.{within}
use Rattle.load_vectors.specs.Drawing.{state_after}
use Rattle.load_request.specs.Requests.{Request}
use Rattle.load.specs.Load.{load_records_of, vector_records}
use Rattle.load.specs.Calls.{program_bytes}
use Rattle.load.specs.Answers.{vector_size_of}
use Rattle.load.proofs.SizeLaws.{length-load, no-vectors}
use Rattle.load.proofs.LoadsHold.{vectors-add}
use Rattle.load_walk.specs.LoadWalk.{start_of, to_write, started_bytes, lesser, vectors_next, piece_of, next_walk, walk_after, pieces_of}
use Rattle.load_walk.specs.declared.inner.Walk.{Walk}
use Rattle.load_walk.specs.declared.StartRefusal.TheVariants as start

pub lesser-left : (a b : ℕ) → lesser a b ≤ a
lesser-left a b = go (ltb a b) (λ e. ltb-false a b e)
  where
    go : (t : Bool) → (t ≡ false → b ≤ a) → elim t [ true ↦ a | false ↦ b ] ≤ a
    go true f = omega arith
    go false f = f refl

-- a piece, and what is to be written after it, is what was to be written before it
pub piece-first : (room : ℕ) (w : Walk) → piece_of room w ++ to_write (next_walk room w) ≡ to_write w
unfolding piece_of next_walk
piece-first room w =
    let k : ℕ = vectors_next room w in
    let e : vectors_next room w + (w.left - vectors_next room w) ≡ w.left = omega (arith, lesser-left w.left (room / vector_size_of w.inputs)) in
    sym (vectors-add w.inputs (vectors_next room w) (w.left - vectors_next room w) w.state) ∙ ap (λ (m : ℕ). vector_records w.inputs m w.state) e

-- so for any number of pieces
pub pieces-first : (room n : ℕ) (w : Walk) → pieces_of room n w ++ to_write (walk_after room n w) ≡ to_write w
unfolding pieces_of walk_after
pieces-first room zero w = refl
pieces-first room (suc n) w =
    append_assoc (pieces_of room n w) (piece_of room (walk_after room n w)) (to_write (next_walk room (walk_after room n w)))
    ∙ ap (λ (x : List ℕ). pieces_of room n w ++ x) (piece-first room (walk_after room n w))
    ∙ pieces-first room n w

-- what load.bin starts is what the program writes: nothing for another length, and for a number of inputs that is refused
pub start-holds : (asked : Option Request) → started_bytes (start_of asked) ≡ program_bytes asked
unfolding start_of program_bytes
start-holds None = refl
start-holds (Some r) = go (within 1 64 r.inputs)
  where
    go : (t : Bool)
        → started_bytes (elim t [ true ↦ Ok (record { state = r.seed; left = r.vectors; inputs = r.inputs; size = 0 }) | false ↦ Err start.InputsRefused ])
        ≡ elim t [ true ↦ vector_records r.inputs r.vectors r.seed | false ↦ [] ]
    go true = refl
    go false = refl

-- the pieces after which no vector is left are what the program writes
pub walk-holds : (asked : Option Request) (w : Walk) (room n : ℕ) → start_of asked ≡ Ok w → (walk_after room n w).left ≡ 0
    → pieces_of room n w ≡ program_bytes asked
walk-holds asked w room n s e =
    let v : Walk = walk_after room n w in
    let none : to_write (walk_after room n w) ≡ [] = ap (λ (k : ℕ). vector_records v.inputs k v.state) e ∙ no-vectors v.inputs v.state in
    sym (append-nil (pieces_of room n w))
    ∙ ap (λ (x : List ℕ). pieces_of room n w ++ x) (sym none)
    ∙ pieces-first room n w
    ∙ sym (ap started_bytes s)
    ∙ start-holds asked

-- the bytes of so many vectors' records
pub length-vectors : (n k s : ℕ) → length (vector_records n k s) ≡ k * vector_size_of n
unfolding vector_records
length-vectors n zero s = omega arith
length-vectors n (suc k) s =
    let m : suc k * vector_size_of n ≡ k * vector_size_of n + vector_size_of n = suc-mul k (vector_size_of n) in
    omega (arith, length-append (load_records_of n s) (vector_records n k (state_after n s)), length-load n s, length-vectors n k (state_after n s))

-- the buffer begins with the piece, of the size that the walk tells
pub piece-taken : (room : ℕ) (w : Walk) (found : List ℕ) → length (piece_of room w) ≤ length found
    → take (next_walk room w).size (sets found 0 (piece_of room w)) ≡ piece_of room w
unfolding next_walk
piece-taken room w found h =
    let p : List ℕ = piece_of room w in
    ap (take (length (piece_of room w))) (sets-eq (piece_of room w) found 0 (omega arith)) ∙ take_at (piece_of room w) _ (length (piece_of room w)) refl
