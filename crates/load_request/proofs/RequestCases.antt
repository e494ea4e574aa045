-- The cases of load.bin: ten bytes, or another length; a field of four bytes, by its halves.
use Rattle.model.proofs.Prelude.{ℕ, ◌<◌, ◌+◌, ◌*◌, ◌≡◌, ap, refl, List, [], ◌∷◌, length, drop, take, length-drop, drop-drop, arith, rules, ne_eqb}
use Rattle.model.proofs.Prelude.{eq-eqb}
use Rattle.model.specs.Base.{field, from_little_endian}
use Rattle.load_request.specs.Requests.{request_bytes, request_of}
use Rattle.load_request.specs.AskedLoads.{asked_of}
use Rattle.std.specs.Prelude.{Some, None}

-- a field of four bytes, by its halves
four_bytes : (l : List ℕ) → 3 < length l
    → from_little_endian (take 4 l) ≡ from_little_endian (take 2 l) + 65536 * from_little_endian (take 2 (drop 2 l))
four_bytes [] h = absurd (omega arith)
four_bytes (a ∷ []) h = absurd (omega arith)
four_bytes (a ∷ b ∷ []) h = absurd (omega arith)
four_bytes (a ∷ b ∷ c ∷ []) h = absurd (omega arith)
four_bytes (a ∷ b ∷ c ∷ d ∷ l) h = omega arith

pub field-four : (bs : List ℕ) (at low high : ℕ) → at + 3 < length bs → low ≡ field at 2 bs → high ≡ field (at + 2) 2 bs
    → low + 65536 * high ≡ field at 4 bs
field-four bs at low high h p q =
    let l : 3 < length (drop at bs) = omega (arith, length-drop at bs) in
    let e = four_bytes (drop at bs) l in
    let f : from_little_endian (take 2 (drop 2 (drop at bs))) ≡ field (at + 2) 2 bs =
    ap (λ (z : List ℕ). from_little_endian (take 2 z)) (drop-drop 2 at bs) in
    omega arith

pub request_none : (bs : List ℕ) → (length bs ≡ request_bytes → ⊥) → asked_of None ≡ request_of bs
unfolding request_of
request_none bs d = rw (ne_eqb (length bs) request_bytes d, request_of) refl

pub request_some : (bs : List ℕ) → length bs ≡ request_bytes → (s n i : ℕ) → s ≡ field 0 4 bs → n ≡ field 4 4 bs
    → i ≡ field 8 2 bs → asked_of (Some (record { seed = s; vectors = n; inputs = i })) ≡ request_of bs
unfolding request_of
request_some bs l s n i p q r = rw (p, q, r) (rw (eq-eqb (length bs) request_bytes l, request_of) refl)

pub ruleset request-cases = (request_none, request_some, field-four, rules)
