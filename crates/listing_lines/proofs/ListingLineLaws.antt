-- The lines of a listing as they are put into a buffer, part after part: what they say, and how long they are at most.
use Rattle.model.proofs.Prelude.{ℕ, ◌≤◌, ◌<◌, ◌+◌, ◌*◌, suc, zero, ◌≡◌, ◌∙◌, ap, refl, sym, subst, List, [], ◌∷◌, ◌++◌, append_assoc, length}
use Rattle.model.proofs.Prelude.{length-append, sets, add-one, arith}
use lib.Seq.{append_snoc}
use Rattle.model.specs.Base.{Answer, refused, value}
use Rattle.model.specs.Calls.{FaultCounts}
use Rattle.model.specs.Refusals.{refusal_number_of}
use Rattle.model.specs.declared.Refusal.{Refusal}
use Rattle.text_line.specs.Decimal.{decimal_text, refused_word, refused_text}
use Rattle.text_line.proofs.DecimalLaws.{at-most-20}
use Rattle.text_buffer.specs.Written.{Written}
use Rattle.text_buffer.proofs.WrittenLaws.{written, none_written, then-written, written_as, written-length}
use Rattle.listing_lines.specs.ListingLines.{numbered, pair_text, refused_line_of, record_line, answer_in, answer_at, answer_lines}

-- Two numbers and the end of their line
pub pair-length : (first second : ℕ) → length (pair_text first second) ≤ 42
pair-length first second = simp length-append (omega (arith, at-most-20 first, at-most-20 second))

pub pair_put : (out o1 o2 o3 o4 : List ℕ) (at s n e r first second : ℕ) → at + 42 ≤ length out
    → (o1 ≡ sets out at (decimal_text first)) × (s ≡ at + length (decimal_text first))
    → (o2 ≡ sets o1 s (32 ∷ [])) × (n ≡ s + length {A = ℕ} (32 ∷ []))
    → (o3 ≡ sets o2 n (decimal_text second)) × (e ≡ n + length (decimal_text second))
    → (o4 ≡ sets o3 e (10 ∷ [])) × (r ≡ e + length {A = ℕ} (10 ∷ []))
    → Written out o4 at (pair_text first second) r
pair_put out o1 o2 o3 o4 at s n e r first second h e1 e2 e3 e4 =
    let few1 : length (decimal_text first) ≤ 20 = at-most-20 first in
    let few2 : length (decimal_text second) ≤ 20 = at-most-20 second in
    let p1 : Written out o1 at (decimal_text first) s = written {out = out} {at = at} {t = decimal_text first} (omega arith) e1 in
    let l1 : length o1 ≡ length out = written-length p1 in
    let p2 : Written o1 o2 s (32 ∷ []) n = written {out = o1} {at = s} {t = 32 ∷ []} (omega (arith, e1.1)) e2 in
    let l2 : length o2 ≡ length o1 = written-length p2 in
    let p3 : Written o2 o3 n (decimal_text second) e = written {out = o2} {at = n} {t = decimal_text second} (omega (arith, e1.1, e2.1)) e3 in
    let l3 : length o3 ≡ length o2 = written-length p3 in
    let p4 : Written o3 o4 e (10 ∷ []) r = written {out = o3} {at = e} {t = 10 ∷ []} (omega (arith, e1.1, e2.1, e3.1)) e4 in
    written_as (ap (λ (x : List ℕ). x ++ 10 ∷ []) (append_snoc (decimal_text first) 32 (decimal_text second)))
    (then-written (then-written (then-written p1 p2) p3) p4)

pub refusal-put : (out out' : List ℕ) (at r n : ℕ) (w : Refusal) → n ≡ refusal_number_of w
    → Written out out' at (numbered refused_word n) r → Written out out' at (refused_line_of (refusal_number_of w)) r
unfolding refused_line_of refused_text
refusal-put out out' at r n w e p = written_as (ap (λ (k : ℕ). numbered refused_word k) e) p

-- The line of a record: its place and a space, then the rest
place-put : (out o1 o2 : List ℕ) (at s n place : ℕ) → at + 63 ≤ length out
    → (o1 ≡ sets out at (decimal_text place)) × (s ≡ at + length (decimal_text place))
    → (o2 ≡ sets o1 s (32 ∷ [])) × (n ≡ s + length {A = ℕ} (32 ∷ []))
    → Written out o2 at (decimal_text place ++ 32 ∷ []) n
place-put out o1 o2 at s n place h e1 e2 =
    let few : length (decimal_text place) ≤ 20 = at-most-20 place in
    let p1 : Written out o1 at (decimal_text place) s = written {out = out} {at = at} {t = decimal_text place} (omega arith) e1 in
    let l1 : length o1 ≡ length out = written-length p1 in
    then-written p1 (written {out = o1} {at = s} {t = 32 ∷ []} (omega (arith, e1.1)) e2)

taken-text : (a b c : List ℕ) → (a ++ 32 ∷ []) ++ (b ++ 32 ∷ c ++ 10 ∷ []) ≡ a ++ 32 ∷ b ++ 32 ∷ c ++ 10 ∷ []
taken-text a b c = simp append_assoc

refused-text : (a b : List ℕ) → (a ++ 32 ∷ []) ++ (b ++ 10 ∷ []) ≡ a ++ 32 ∷ b ++ 10 ∷ []
refused-text a b = simp append_assoc

module _ (out o1 o2 o3 : List ℕ) (at s n r place : ℕ) (h : at + 63 ≤ length out)
    (e1 : (o1 ≡ sets out at (decimal_text place)) × (s ≡ at + length (decimal_text place)))
    (e2 : (o2 ≡ sets o1 s (32 ∷ [])) × (n ≡ s + length {A = ℕ} (32 ∷ []))) (x y : ℕ) where
  pub line_taken : (k : ℕ) → k ≡ 0 → Written o2 o3 n (pair_text x y) r → Written out o3 at (record_line place (answer_in x y k)) r
  unfolding record_line
  line_taken zero e p = written_as (taken-text (decimal_text place) (decimal_text x) (decimal_text y)) (then-written (place-put out o1 o2 at s n place h e1 e2) p)
  line_taken (suc k) e p = absurd (omega (arith, e))

  pub line_refused : (k : ℕ) → (k ≡ 0 → ⊥) → Written o2 o3 n (numbered refused_word k) r → Written out o3 at (record_line place (answer_in x y k)) r
  unfolding record_line refused_text
  line_refused zero e p = absurd (e refl)
  line_refused (suc k) e p = written_as (refused-text (decimal_text place) (refused_text (suc k))) (then-written (place-put out o1 o2 at s n place h e1 e2) p)

-- no line of a record is over 63 bytes
record_most : (place : ℕ) (a : Answer FaultCounts) → length (record_line place a) ≤ 63
unfolding record_line refused_text
record_most place (refused n) = simp length-append (omega (arith, at-most-20 place, at-most-20 n))
record_most place (value c) =
    simp length-append (omega (arith, at-most-20 place, at-most-20 c.new_faults.on_rising, at-most-20 c.new_faults.on_falling))

lines-length : (place : ℕ) (answers : List ℕ) (n : ℕ) → length (answer_lines place answers n) ≤ 63 * n
unfolding answer_lines
lines-length place answers zero = omega arith
lines-length place answers (suc n) =
    simp length-append (omega (arith, lines-length place answers n, record_most (place + n) (answer_at answers n)))

-- The lines of answers as the loop puts them
module _ (out₀ : List ℕ) (start first : ℕ) (answers : List ℕ) (lines : ℕ) where
  pub record PuttingLines (out : List ℕ) (at place t : ℕ) : Type 0 where
    pub within : t ≤ lines
    pub place_is_of : place ≡ first + t
    pub room : length out ≡ length out₀
    pub put : Written out₀ out start (answer_lines first answers t) at

  pub lines_start : start ≤ length out₀ → PuttingLines out₀ start first 0
  unfolding answer_lines
  lines_start h = record { within = omega arith; place_is_of = omega arith; room = refl; put = none_written out₀ start h }

  module _ {out : List ℕ} {at place t : ℕ} (g : PuttingLines out at place t) where
    pub lines-most : at ≤ start + 63 * t
    lines-most = omega (arith, g.put.place, lines-length first answers t)

    pub lines_next : t < lines → {out' : List ℕ} {r : ℕ} → Written out out' at (record_line place (answer_at answers t)) r → PuttingLines out' r (place + 1) (t + 1)
    unfolding answer_lines
    lines_next h {out' = out'} {r = r} p = record {
      within = omega arith;
      place_is_of = omega (arith, g.place_is_of);
      room = written-length p ∙ g.room;
      put =
          subst (λ (k : ℕ). Written out₀ out' start (answer_lines first answers k) r) (sym (add-one t))
          (then-written g.put (subst (λ (k : ℕ). Written out out' at (record_line k (answer_at answers t)) r) g.place_is_of p));
    }

    pub lines-done : lines ≤ t → Written out₀ out start (answer_lines first answers lines) at
    lines-done h = let all : t ≡ lines = omega (arith, g.within) in subst (λ (k : ℕ). Written out₀ out start (answer_lines first answers k) at) all g.put
