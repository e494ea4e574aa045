-- What the set bits of a word add: nothing where none is set, else what the lowest adds and then the others; and runs that are apart or shifted.
use Rattle.model.proofs.Prelude.{ℕ, ◌≤◌, ◌<◌, ◌+◌, ◌-◌, suc, ◌^◌, zero, ◌/◌, ◌%◌, ◌≡◌, ◌∙◌, ap, refl, sym, ⊎_elim, true, false, ◌&&◌}
use Rattle.model.proofs.Prelude.{List, [], ◌∷◌}
use Rattle.model.proofs.Prelude.{◌++◌, append_assoc, append-nil, eqb, not-suc-le-zero, le_of_suc-le-suc, div-eq_of_lt, lt_of_lt_of_le, arith}
use lib.Bits.{bit_and}
use lib.Count.{count_trailing_zeros, under}
use lib.Pow.{pow_mono}
use Rattle.model.specs.Base.{bit}
use Rattle.model.specs.Runs.{Run, run}
use Rattle.model.proofs.BoolLaws.{and_left, T→true, true→T, cases, equal_or_not}
use Rattle.run_lists.specs.RunLists.{Sound, only_if, add_runs, shift_runs}
use Rattle.run_lists.proofs.MemberLaws.{member, run-path, runs_of-unique}
use Rattle.run_union.proofs.AddRunLaws.{Asc, sound-asc, add_runs-sound, add_runs-member}
use Rattle.record_bytes.proofs.BitLaws.{zero_bit, and_bit}
use Rattle.record_bytes.proofs.BitLaws.{half-bit, first_bit}
use Rattle.block_words.proofs.LowBitLaws.{low-there, others-stay, low-gone}
use Rattle.block_intervals.specs.PinSpans.{bit_runs}

-- ---- bits

-- no bit below the lowest set one is set
below-low : (d n t : ℕ) → t < count_trailing_zeros d n → bit n t ≡ false
unfolding count_trailing_zeros
below-low zero n t h = absurd (not-suc-le-zero h)
below-low (suc d) n t h = go (n % 2) refl t h (below-low d (n / 2))
  where
    go : (r : ℕ) → n % 2 ≡ r → (t : ℕ) → t < under r (count_trailing_zeros d (n / 2))
        → ((t : ℕ) → t < count_trailing_zeros d (n / 2) → bit (n / 2) t ≡ false) → bit n t ≡ false
    go zero e zero h ih = first_bit n ∙ ap (λ x. eqb x 1) e
    go zero e (suc t) h ih = half-bit n t ∙ ih t (le_of_suc-le-suc h)
    go (suc r) e t h ih = absurd (not-suc-le-zero h)

-- nor one past the word
pub past_word : (d n p : ℕ) → n < 2 ^ d → d ≤ p → bit n p ≡ false
past_word d n p h l = ap (λ x. eqb (x % 2) 1) (div-eq_of_lt {n = n} {m = 2 ^ p} (lt_of_lt_of_le h (pow_mono l)))

pub set-within : (d n p : ℕ) → n < 2 ^ d → bit n p ≡ true → p < d
set-within d n p h e = cases d p (λ l. absurd (mathlib.Core.Bool.false≢true (sym (past_word d n p h l) ∙ e))) (λ l. l)

-- a bit of `and` is one of its first word
pub and_within : (a b p : ℕ) → bit (bit_and a b) p ≡ true → bit a p ≡ true
and_within a b p e = T→true (bit a p) (and_left (bit a p) (bit b p) (true→T (bit a p && bit b p) (sym (and_bit a b p) ∙ e)))

-- ---- what they add

module _ (f : ℕ → List Run) where
  bits_none : (w n : ℕ) → ((p : ℕ) → p < n → bit w p ≡ false) → bit_runs f w n ≡ []
  unfolding bit_runs
  bits_none w zero h = refl
  bits_none w (suc n) h =
      ap (λ b. bit_runs f w n ++ only_if b (f n)) (h n (omega arith)) ∙ append-nil (bit_runs f w n) ∙ bits_none w n (λ p l. h p (omega arith))

  pub no_bits : (n : ℕ) → bit_runs f 0 n ≡ []
  no_bits n = bits_none 0 n (λ p l. zero_bit p)

  -- places past the last set bit add nothing
  pub bits-past : (w n m : ℕ) → n ≤ m → ((p : ℕ) → n ≤ p → bit w p ≡ false) → bit_runs f w m ≡ bit_runs f w n
  unfolding bit_runs
  bits-past w n zero l h = let e : 0 ≡ n = omega arith in ap (bit_runs f w) e
  bits-past w n (suc m) l h = cases n m
      (λ k. ap (λ b. bit_runs f w m ++ only_if b (f m)) (h m k) ∙ append-nil (bit_runs f w m) ∙ bits-past w n m k h)
      (λ k. let e : suc m ≡ n = omega arith in ap (bit_runs f w) e)

  module _ (w w' low : ℕ) (below : (p : ℕ) → p < low → bit w p ≡ false) (there : bit w low ≡ true) (gone : bit w' low ≡ false)
      (stay : (p : ℕ) → (p ≡ low → ⊥) → bit w' p ≡ bit w p) where
    bits-first : (n : ℕ) → low < n → bit_runs f w n ≡ f low ++ bit_runs f w' n
    unfolding bit_runs
    bits-first zero l = absurd (omega arith)
    bits-first (suc n) l =
        ⊎_elim
        (λ (e : n ≡ low). rw e (here))
        (λ (d : n ≡ low → ⊥).
        (λ j. bits-first n (omega arith) j ++ only_if (sym (stay n d) j) (f n)) ∙ append_assoc (f low) (bit_runs f w' n) (only_if (bit w' n) (f n)))
        (equal_or_not n low)
      where
        here : bit_runs f w low ++ only_if (bit w low) (f low) ≡ f low ++ (bit_runs f w' low ++ only_if (bit w' low) (f low))
        here =
            (λ j. bits_none w low below j ++ only_if (there j) (f low)) ∙ sym (append-nil (f low))
            ∙ (λ j. f low ++ (sym (bits_none w' low (λ p k. stay p (omega arith) ∙ below p k)) j ++ only_if (sym gone j) (f low)))

  -- the lowest set bit of a word, then the others
  pub bits-low : {w : ℕ} (small : w < 2 ^ 64) (ne : w ≡ 0 → ⊥) {n : ℕ} → count_trailing_zeros 64 w < n
      → bit_runs f w n ≡ f (count_trailing_zeros 64 w) ++ bit_runs f (bit_and w (w - 1)) n
  bits-low {w} small ne {n} l =
      bits-first w (bit_and w (w - 1)) (count_trailing_zeros 64 w) (λ p k. below-low 64 w p k) (low-there small ne) (low-gone small ne) (others-stay small ne) n l

-- ---- runs

-- runs that are apart, added to none
pub adds-alone : (n : ℕ) (s : List Run) → Sound n s → add_runs [] s ≡ s
adds-alone n s u =
    let asc : Asc 1 n s = sound-asc 1 1 n s (omega arith) u in
    runs_of-unique (λ x. member x s) n (add_runs [] s) (add_runs-sound 1 1 n [] s tt tt (omega arith) asc) (λ x h k. add_runs-member x 1 n [] s tt asc)
    ∙ sym (runs_of-unique (λ x. member x s) n s u (λ x h k. refl))

pub shift-shift : (a b : ℕ) (s : List Run) → shift_runs a (shift_runs b s) ≡ shift_runs (b + a) s
shift-shift a b [] = refl
shift-shift a b (r ∷ s) =
    let e : (k : ℕ) → k + b + a ≡ k + (b + a) = λ k. omega arith in
    (λ j. run (e r.low j) (e r.high j) ∷ shift-shift a b s j)

pub shift_none : (s : List Run) → shift_runs 0 s ≡ s
shift_none [] = refl
shift_none (r ∷ s) =
    let e : (k : ℕ) → k + 0 ≡ k = λ k. omega arith in
    (λ j. run-path {r = run (r.low + 0) (r.high + 0)} {s = r} (e r.low) (e r.high) j ∷ shift_none s j)
