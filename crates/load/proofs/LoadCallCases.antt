-- The cases of the load call, and the records of several vectors as they are written one after another.
use Rattle.model.proofs.Prelude.{ℕ, ◌≤◌, ◌<◌, ◌+◌, ◌-◌, ◌*◌, suc, ◌^◌, zero, ◌≡◌, ◌∙◌, ap, refl, sym, true, Bool, false, not, List, [], ◌++◌, length}
use Rattle.model.proofs.Prelude.{drop, sets, sets-eq, leb, leb→le, suc-mul, arith, rules, le-leb, lt-leb, not-true, not-false}
use Rattle.model.specs.Read.{within}
use Rattle.model.specs.declared.Refusal.TheVariants as why
use Rattle.model.proofs.BoolLaws.{and_left, and_right, true→T}
use Rattle.record_bytes.proofs.ByteLaws.{sets_append}
use Rattle.load_vectors.specs.Drawing.{state_after}
use Rattle.load_vectors.proofs.DrawSteps.{no_steps}
use Rattle.load.specs.Load.{load_records_of, vector_records}
use Rattle.load.specs.Calls.{load_buffer_bytes, load_call, load_answer, load_buffer}
use Rattle.load.specs.Answers.{LoadTrue, vector_size_of}
use Rattle.load.proofs.SizeLaws.{length-load, size-most, after-add, vectors-next, no-vectors}
use Rattle.std.specs.Prelude.{Ok, Err}

-- a number of inputs in range
pub range-least : (n : ℕ) → within 1 64 n ≡ true → 1 ≤ n
range-least n e = leb→le 1 n (and_left (leb 1 n) (leb n 64) (true→T (within 1 64 n) e))

pub range-most : (n : ℕ) → within 1 64 n ≡ true → n ≤ 64
range-most n e = leb→le n 64 (and_right (leb 1 n) (leb n 64) (true→T (within 1 64 n) e))

pub range_none : (n : ℕ) → n < 1 → false ≡ within 1 64 n
range_none n h = rw (lt-leb 1 n h) refl

pub range-rest : (n : ℕ) → 1 ≤ n → leb n 64 ≡ within 1 64 n
range-rest n h = rw (le-leb 1 n h) refl

pub ruleset range-cases = (range_none, range-rest, rules)

module _ (state inputs : ℕ) (buffer : List ℕ) where
  pub load-short : length buffer < load_buffer_bytes
      → LoadTrue (Err why.ReportBufferLength) state inputs buffer buffer
  unfolding load_call load_answer load_buffer
  load-short h = record {
    answer = rw (lt-leb load_buffer_bytes (length buffer) h) refl;
    buffer = rw (lt-leb load_buffer_bytes (length buffer) h) refl;
  }

  module _ (h : load_buffer_bytes ≤ length buffer) (fit : Bool) (is : fit ≡ within 1 64 inputs) where
    pub load-range : not fit ≡ true → LoadTrue (Err why.HeaderRange) state inputs buffer buffer
    unfolding load_call load_answer load_buffer
    load-range n =
        let r : within 1 64 inputs ≡ false = sym is ∙ not-true fit n in
        record {
          answer = rw (le-leb load_buffer_bytes (length buffer) h, r) refl;
          buffer = rw (le-leb load_buffer_bytes (length buffer) h, r) refl;
        }

    module _ (n : not fit ≡ false) where
      r : within 1 64 inputs ≡ true
      r = sym is ∙ not-false fit n

      pub load-few : inputs ≤ 64
      load-few = range-most inputs r

      pub load-room : 0 + vector_size_of inputs ≤ length buffer
      load-room = omega (arith, size-most inputs load-few)

      pub load-written : (s k : ℕ) (left : List ℕ) → s ≡ state_after inputs state
          → left ≡ sets buffer 0 (load_records_of inputs state) → k ≡ vector_size_of inputs
          → LoadTrue (Ok (record { state = s; length = k })) state inputs buffer left
      unfolding load_call load_answer load_buffer
      load-written s k left p q e =
          let R : List ℕ = load_records_of inputs state in
          let size : length R ≡ vector_size_of inputs = length-load inputs state in
          let start : 0 + length R ≡ length R = omega arith in
          let fits : 0 + length R ≤ length buffer = omega (arith, size-most inputs load-few) in
          let put : left ≡ R ++ drop (length R) buffer =
          q ∙ sets-eq R buffer 0 fits ∙ ap (λ (i : ℕ). R ++ drop i buffer) start in
          let m : k ≡ length R = e ∙ sym size in
          record {
            answer = rw (p, m) (rw (le-leb load_buffer_bytes (length buffer) h, r) refl);
            buffer = put ∙ rw (le-leb load_buffer_bytes (length buffer) h, r) refl;
          }

pub ruleset load-cases = (load-short, load-range, load-few, load-room, load-written, rules)

-- what is written, and the records of the vectors that are left, give the whole
pub record Gathering (inputs state vectors size : ℕ) (found records : List ℕ) (last place left : ℕ) : Type 0 where
  pub long : length records ≡ length found
  pub stands : place + left * size ≡ vectors * size
  pub whole : sets records place (vector_records inputs left last) ≡ sets found 0 (vector_records inputs vectors state)
  pub steps : state_after (left * inputs) last ≡ state_after (vectors * inputs) state

pub gather_first : (inputs state vectors size : ℕ) (found : List ℕ)
    → Gathering inputs state vectors size found found state 0 vectors
gather_first inputs state vectors size found = record { long = refl; stands = omega arith; whole = refl; steps = refl }

less_one : (k n : ℕ) → 0 < k → k * n ≡ n + (k - 1) * n
less_one zero n h = absurd (omega arith)
less_one (suc k) n h =
    let e : suc k - 1 ≡ k = omega arith in
    let m : suc k * n ≡ k * n + n = suc-mul k n in
    let p : (suc k - 1) * n ≡ k * n = ap (λ i. i * n) e in
    omega arith

module _ (inputs state vectors size : ℕ) (sized : size ≡ vector_size_of inputs) (found records : List ℕ) (last place left : ℕ)
    (g : Gathering inputs state vectors size found records last place left) where
  module _ (more : 0 < left) (fits : vectors * vector_size_of inputs ≤ length found) where
    room : place + size ≤ length found
    room =
        let m : left * size ≡ size + (left - 1) * size = less_one left size more in
        let v : vectors * size ≡ vectors * vector_size_of inputs = ap (λ k. vectors * k) sized in
        omega (arith, g.stands)

    pub gather_room : place + vector_size_of inputs ≤ length records
    gather_room = omega (arith, room, g.long)

    pub gather_fits : length found < 2 ^ 64 → place < 2 ^ 64
    gather_fits l = omega (arith, room)

  pub gather_next : 0 < left → (after : ℕ) (b : List ℕ) → after ≡ state_after inputs last
      → b ≡ sets records place (load_records_of inputs last)
      → length b ≡ length records → Gathering inputs state vectors size found b after (place + size) (left - 1)
  gather_next more after b p q same =
      let e : vector_records inputs left last ≡ load_records_of inputs last ++ vector_records inputs (left - 1) after =
      vectors-next inputs left last more ∙ ap (λ s. load_records_of inputs last ++ vector_records inputs (left - 1) s) (sym p) in
      let i : place + size ≡ place + length (load_records_of inputs last) = ap (λ k. place + k) (sized ∙ sym (length-load inputs last)) in
      let m : left * size ≡ size + (left - 1) * size = less_one left size more in
      let n : left * inputs ≡ inputs + (left - 1) * inputs = less_one left inputs more in
      record {
        long = same ∙ g.long;
        stands = omega (arith, g.stands);
        whole =
            ap (λ (z : List ℕ). sets z (place + size) (vector_records inputs (left - 1) after)) q
            ∙ sets_append (load_records_of inputs last) (vector_records inputs (left - 1) after) records place (place + size) i
            ∙ sym (ap (λ (z : List ℕ). sets records place z) e)
            ∙ g.whole;
        steps =
            ap (λ s. state_after ((left - 1) * inputs) s) p ∙ sym (after-add inputs ((left - 1) * inputs) last) ∙ sym (ap (λ k. state_after k last) n) ∙ g.steps;
      }

  module _ (done : left ≤ 0) where
    none : left ≡ 0
    none = omega arith

    pub gather_state : last ≡ state_after (vectors * inputs) state
    gather_state =
        let z : 0 * inputs ≡ 0 = omega arith in
        sym (no_steps last) ∙ sym (ap (λ k. state_after k last) z) ∙ sym (ap (λ k. state_after (k * inputs) last) none) ∙ g.steps

    pub gather_bytes : records ≡ sets found 0 (vector_records inputs vectors state)
    gather_bytes =
        let e : vector_records inputs left last ≡ [] = ap (λ k. vector_records inputs k last) none ∙ no-vectors inputs last in
        sym (ap (λ (z : List ℕ). sets records place z) e) ∙ g.whole

pub ruleset gather-cases = (gather_first, gather_room, gather_fits, gather_next, gather_state, gather_bytes, rules)
