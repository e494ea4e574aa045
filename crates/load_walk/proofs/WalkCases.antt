-- The cases of what load.bin starts, of a piece, and of the walk from piece to piece.
use Rattle.model.proofs.Prelude.{ℕ, ◌≤◌, ◌<◌, ◌-◌, ◌*◌, suc, ◌^◌, ◌/◌, ◌≡◌, ◌∙◌, ap, refl, sym, true, Bool, false, not, List, length, sets, ltb}
use Rattle.model.proofs.Prelude.{mul-le-mul_right, arith, rules, not-true, not-false, lt-ltb, le-ltb, ltb-true}
use native.Mathlib.Nat.{div-mul-le_self, le-div_iff_mul-le}
use Rattle.model.specs.Read.{within}
use Rattle.load_vectors.specs.Drawing.{state_after}
use Rattle.load_request.specs.Requests.{Request, request_of}
use Rattle.load_request.specs.AskedLoads.{asked_of}
use Rattle.load.specs.Load.{vector_records}
use Rattle.load.specs.Answers.{vector_size_of}
use Rattle.load.proofs.SizeLaws.{size-most, size-positive}
use Rattle.load.proofs.LoadCallCases.{range-least, range-most}
use Rattle.load_walk.specs.LoadWalk.{start_of, lesser, vectors_next, piece_of, next_walk, walk_after, Walked}
use Rattle.load_walk.specs.declared.inner.Walk.{Walk}
use Rattle.load_walk.specs.declared.StartRefusal.{StartRefusal}
use Rattle.load_walk.specs.declared.StartRefusal.TheVariants as start
use Rattle.load_walk.proofs.WalkHolds.{lesser-left, length-vectors}
use Rattle.std.specs.Prelude.{Option, Some, None, Result, Ok, Err}
use Rattle.load_request.specs.declared.LoadAsked.{LoadAsked}

-- What load.bin starts
module _ (bs : List ℕ) (a : Option LoadAsked) (e : asked_of a ≡ request_of bs) where
  pub begin_none : a ≡ None → Err start.OtherLength ≡ start_of (request_of bs)
  unfolding start_of
  begin_none n = rw (sym e, n, start_of) refl

  module _ (l0 : LoadAsked) (l : a ≡ Some l0) (fit : Bool) (is : fit ≡ within 1 64 l0.inputs) where
    pub begin_refused : not fit ≡ true → Err start.InputsRefused ≡ start_of (request_of bs)
    unfolding start_of
    begin_refused f = let r : within 1 64 l0.inputs ≡ false = sym is ∙ not-true fit f in rw (sym e, l, start_of) (rw r refl)

    pub begin_load : not fit ≡ false → Ok (record { state = l0.seed; left = l0.vectors; inputs = l0.inputs; size = 0 }) ≡ start_of (request_of bs)
    unfolding start_of
    begin_load f = let r : within 1 64 l0.inputs ≡ true = sym is ∙ not-false fit f in rw (sym e, l, start_of) (rw r refl)

pub ruleset begin-cases = (begin_none, begin_refused, begin_load, rules)

-- The smaller of two numbers
pub lesser-first : (a b : ℕ) → a < b → a ≡ lesser a b
lesser-first a b h = rw (lt-ltb a b h, lesser) refl

pub lesser-second : (a b : ℕ) → b ≤ a → b ≡ lesser a b
lesser-second a b h = rw (le-ltb a b h, lesser) refl

pub ruleset lesser-cases = (lesser-first, lesser-second, rules)

lesser-right : (a b : ℕ) → lesser a b ≤ b
lesser-right a b = go (ltb a b) (λ e. ltb-true a b e)
  where
    go : (t : Bool) → (t ≡ true → a < b) → elim t [ true ↦ a | false ↦ b ] ≤ b
    go true f = omega (arith, f refl)
    go false f = omega arith

lesser-some : (a b : ℕ) → 0 < a → 0 < b → 0 < lesser a b
lesser-some a b h l = go (ltb a b)
  where
    go : (t : Bool) → 0 < elim t [ true ↦ a | false ↦ b ]
    go true = h
    go false = l

-- the records of as many vectors as fit lie in the buffer
fit-bytes : (room each vectors : ℕ) → vectors ≤ room / each → vectors * each ≤ room
fit-bytes room each vectors few =
    let a : vectors * each ≤ room / each * each = mul-le-mul_right {m = vectors} {n = room / each} each few in
    let b : room / each * each ≤ room = div-mul-le_self room each in
    omega arith

-- The next piece
module _ (w : Walk) (each vectors : ℕ) (found : List ℕ) (sized : each ≡ vector_size_of w.inputs) (is : vectors ≡ lesser w.left (length found / each)) where
  next-vectors : vectors ≡ vectors_next (length found) w
  next-vectors = is ∙ ap (λ (k : ℕ). lesser w.left (length found / k)) sized

  fits : vectors * each ≤ length found
  fits = fit-bytes (length found) each vectors (omega (arith, lesser-right w.left (length found / each)))

  pub next-room : vectors * vector_size_of w.inputs ≤ length found
  next-room = let e : vectors * each ≡ vectors * vector_size_of w.inputs = ap (λ k. vectors * k) sized in omega (arith, fits)

  pub next-size : length found < 2 ^ 64 → vectors * each < 2 ^ 64
  next-size l = omega (arith, fits)

  pub next-few : vectors ≤ w.left
  next-few = omega (arith, lesser-left w.left (length found / each))

  pub next-walk : (after : ℕ) → after ≡ state_after (vectors * w.inputs) w.state
      → record { state = after; left = w.left - vectors; inputs = w.inputs; size = vectors * each } ≡ next_walk (length found) w
  unfolding next_walk piece_of
  next-walk after e =
      let made : ℕ → ℕ → Walk = λ v size. record { state = state_after (v * w.inputs) w.state; left = w.left - v; inputs = w.inputs; size = size } in
      let size : vectors * each ≡ length (vector_records w.inputs vectors w.state) =
      ap (λ k. vectors * k) sized ∙ sym (length-vectors w.inputs vectors w.state) in
      ap (λ (s : ℕ). record { state = s; left = w.left - vectors; inputs = w.inputs; size = vectors * each }) e
      ∙ ap (λ (k : ℕ). made vectors k) size
      ∙ ap (λ (v : ℕ). made v (length (vector_records w.inputs v w.state))) next-vectors

  pub next-bytes : (bytes : List ℕ) → bytes ≡ sets found 0 (vector_records w.inputs vectors w.state) → bytes ≡ sets found 0 (piece_of (length found) w)
  unfolding piece_of
  next-bytes bytes e = e ∙ ap (λ (v : ℕ). sets found 0 (vector_records w.inputs v w.state)) next-vectors

pub ruleset piece-cases = (next-room, next-size, next-few, next-walk, next-bytes, rules)

-- A load that was started has 1 to 64 inputs
started : (x : Option Request) (w : Walk) → start_of x ≡ Ok w → within 1 64 w.inputs ≡ true
unfolding start_of
started None w e = absurd (no-load e)
  where
    no-load : ◌≡◌ {A = Result Walk StartRefusal} (Err start.OtherLength) (Ok w) → ⊥
    no-load e = let z : ◌≡◌ {A = ℕ} 0 1 = cc in omega arith
started (Some r) w e = go (within 1 64 r.inputs) refl e
  where
    go : (t : Bool) → within 1 64 r.inputs ≡ t
        → ◌≡◌ {A = Result Walk StartRefusal}
        (elim t [ true ↦ Ok (record { state = r.seed; left = r.vectors; inputs = r.inputs; size = 0 }) | false ↦ Err start.InputsRefused ]) (Ok w)
        → within 1 64 w.inputs ≡ true
    go true k e = let z : record { state = r.seed; left = r.vectors; inputs = r.inputs; size = 0 } ≡ w = cc in
        ap (λ (v : Walk). within 1 64 v.inputs) (sym z) ∙ k
    go false k e = absurd (let z : ◌≡◌ {A = ℕ} 0 1 = cc in omega arith)

module _ (x : Option Request) (r : Result Walk StartRefusal) (is : r ≡ start_of x) (w : Walk) (l : r ≡ Ok w) where
  pub started-least : 1 ≤ w.inputs
  started-least = range-least w.inputs (started x w (sym is ∙ l))

  pub started-most : w.inputs ≤ 64
  started-most = range-most w.inputs (started x w (sym is ∙ l))

-- From piece to piece
pub walked-first : (room : ℕ) (w : Walk) → Walked room w w
unfolding walk_after
walked-first room w = record { pieces = 0; is = refl }

pub walked_next : {room : ℕ} {w v v' : Walk} → Walked room w v → v' ≡ next_walk room v → Walked room w v'
unfolding walk_after
walked_next {room} {w} {v} {v'} g e = record { pieces = suc g.pieces; is = e ∙ ap (next_walk room) g.is }

pub next-inputs : (room : ℕ) (v : Walk) → (next_walk room v).inputs ≡ v.inputs
unfolding next_walk
next-inputs room v = refl

module _ (room : ℕ) (v : Walk) where
  -- a piece lies in the buffer
  pub piece-size : (next_walk room v).size ≤ room
  unfolding next_walk piece_of
  piece-size =
      let k : ℕ = vectors_next room v in
      let few : vectors_next room v ≤ room / vector_size_of v.inputs = lesser-right v.left (room / vector_size_of v.inputs) in
      omega (arith, length-vectors v.inputs (vectors_next room v) v.state, fit-bytes room (vector_size_of v.inputs) (vectors_next room v) few)

  -- and leaves fewer vectors
  pub piece-less : 1 ≤ v.inputs → v.inputs ≤ 64 → 2304 ≤ room → 0 < v.left → (next_walk room v).left < v.left
  unfolding next_walk
  piece-less least few long more =
      let each : ℕ = vector_size_of v.inputs in
      let s : vector_size_of v.inputs ≤ 2304 = size-most v.inputs few in
      let any : 0 < room / vector_size_of v.inputs =
      (le-div_iff_mul-le {k = vector_size_of v.inputs} {x = 1} {y = room} (size-positive v.inputs least)).1 (omega arith) in
      omega (arith, lesser-some v.left (room / vector_size_of v.inputs) more any)
