-- Text written into a buffer, one part after the other.
use mathlib.Core.Path.{◌≡◌, refl, ap, sym, ◌∙◌, subst}
use mathlib.Core.List.{List, [], ◌++◌}
use Prim.Native.Nat.{ℕ, ◌+◌, ◌≤◌, ◌<◌}
use native.Mathlib.Numerals.{add-one}
use native.Mathlib.Omega.{arith}
use borrow.Author.Tests.{lt-ltb, le-ltb}
use lib.ListN.{length, take, drop, length-append}
use lib.Seq.{sets, sets-eq, length-sets, take_at, drop_at, length-take-le}
use Rattle.io.specs.Counts.{IsPrefixLen}
use Rattle.record_bytes.proofs.ByteLaws.{sets_append}
use Rattle.text_buffer.specs.Written.{Written, each_below_of, in_room}

-- from what `text_line::inner` promises
pub written : {out out' : List ℕ} {at r : ℕ} {t : List ℕ} → at + length t ≤ length out → (out' ≡ sets out at t) × (r ≡ at + length t)
    → Written out out' at t r
written {out} {out'} {at} {r} {t} h e =
    let same : length out' ≡ length out = ap (length {A = ℕ}) e.0 ∙ length-sets out at t in
    record { bytes = e.0; place = e.1; inside = omega (arith, e.1) }

-- no text yet
pub none_written : (out : List ℕ) (at : ℕ) → at ≤ length out → Written out out at [] at
none_written out at h = record { bytes = refl; place = omega arith; inside = h }

-- one part after the other
pub then-written : {out o1 o2 : List ℕ} {at m r : ℕ} {s t : List ℕ} → Written out o1 at s m → Written o1 o2 m t r → Written out o2 at (s ++ t) r
then-written {out} {o1} {o2} {at} {m} {r} {s} {t} p q = record {
  bytes = q.bytes ∙ ap (λ (x : List ℕ). sets x m t) p.bytes ∙ sets_append s t out at m p.place;
  place = omega (arith, q.place, p.place, length-append s t);
  inside = q.inside;
}

-- the same text in other words
pub written_as : {out out' : List ℕ} {at r : ℕ} {s t : List ℕ} → s ≡ t → Written out out' at s r → Written out out' at t r
written_as {out} {out'} {at} {r} e p = subst (λ (x : List ℕ). Written out out' at x r) e p

-- the buffer is as long as before
pub written-length : {out out' : List ℕ} {at r : ℕ} {t : List ℕ} → Written out out' at t r → length out' ≡ length out
written-length {out} {out'} {at} {r} {t} p = ap (length {A = ℕ}) p.bytes ∙ length-sets out at t

-- the buffer up to a text's end, and past it
module _ {out out' : List ℕ} {at r : ℕ} {t : List ℕ} (p : Written out out' at t r) where
  fits : at + length t ≤ length out
  fits = omega (arith, p.place, p.inside, written-length p)

  split : out' ≡ take at out ++ t ++ drop (at + length t) out
  split = p.bytes ∙ sets-eq t out at fits

  text-end : length (take at out ++ t) ≡ r
  text-end = omega (arith, length-append (take at out) t, length-take-le at out (omega (arith, fits)), p.place)

  pub written-taken : take r out' ≡ take at out ++ t
  written-taken = ap (take r) split ∙ take_at (take at out ++ t) (drop (at + length t) out) r text-end

  pub written-past : drop r out' ≡ drop r out
  written-past = ap (drop r) split ∙ drop_at (take at out ++ t) (drop (at + length t) out) r text-end ∙ ap (λ (k : ℕ). drop k out) (sym p.place)

-- the text at the start of the buffer
pub first-bytes : {out out' : List ℕ} {r : ℕ} {t : List ℕ} → Written out out' 0 t r → take r out' ≡ t
first-bytes p = written-taken p

pub counts-bytes : {out out' : List ℕ} {r : ℕ} {t : List ℕ} → Written out out' 0 t r → IsPrefixLen r out'
counts-bytes {out} {out'} {r} {t} p = (p.inside, sym (length-take-le r out' p.inside))

-- The texts of the numbers below one: none yet, and one more
pub none_below : (f : ℕ → List ℕ) (out : List ℕ) (at : ℕ) → at ≤ length out → Written out out at (each_below_of f 0) at
unfolding each_below_of
none_below f out at h = none_written out at h

pub one-more-below : (f : ℕ → List ℕ) (i : ℕ) {out o1 o2 : List ℕ} {at m r : ℕ} → Written out o1 at (each_below_of f i) m → Written o1 o2 m (f i) r
    → Written out o2 at (each_below_of f (i + 1)) r
unfolding each_below_of
one-more-below f i p q = rw (add-one i, each_below_of) (then-written p q)

-- A buffer that is too short is left as it is; in another the text is written
module _ (least : ℕ) (out text : List ℕ) where
  pub no_room : length out < least → Written out out 0 (in_room least out text) 0
  unfolding in_room
  no_room h = rw (lt-ltb (length out) least h, in_room) (none_written out 0 (omega arith))

  pub room-there : {out' : List ℕ} {r : ℕ} → least ≤ length out → Written out out' 0 text r → Written out out' 0 (in_room least out text) r
  unfolding in_room
  room-there h p = rw (le-ltb (length out) least h, in_room) p
