-- The cases of the header, by the numbers that were read.
use Rattle.model.proofs.Prelude.{ℕ, ◌≤◌, ◌<◌, ◌≡◌, true, Bool, false, ◌&&◌, List, length, leb, arith, rules, not-true, not-false}
use Rattle.model.specs.Base.{refused, value, field}
use Rattle.model.specs.Read.{header_range, marked}
use Rattle.netlist.specs.Reading.{header_step}
use Rattle.record_bytes.proofs.PartLaws.{begins-long}

module _ (s : List ℕ) (m : Bool) (em : m ≡ leb 8 (length s) && marked 0x4E 0x4C s) where
  pub header-mark : m ≡ false → refused 10 ≡ header_step s
  unfolding header_step
  header-mark h = simp (← em, h)

  module _ (t : m ≡ true) where
    long : 8 ≤ length s
    long = begins-long 8 0x4E 0x4C s m em t

    pub header-inputs : 3 < length s
    header-inputs = omega (arith, long)

    pub header-gates : 5 < length s
    header-gates = omega (arith, long)

    pub header-outputs : 7 < length s
    header-outputs = omega (arith, long)

    module _ (i g u : ℕ) (fits : Bool) (ei : i ≡ field 2 2 s) (eg : g ≡ field 4 2 s) (eu : u ≡ field 6 2 s) (e : fits ≡ header_range i g u) where
      pub header-found : fits ≡ true → value (record { inputs = i; gates = g; outputs = u }) ≡ header_step s
      unfolding header_step
      header-found h = simp (← em, t, ← ei, ← eg, ← eu, ← e, h)

      pub header-range : fits ≡ false → refused 11 ≡ header_step s
      unfolding header_step
      header-range h = simp (← em, t, ← ei, ← eg, ← eu, ← e, h)

pub ruleset header-cases = (header-mark, header-inputs, header-gates, header-outputs, header-found, header-range, not-true, not-false, rules)
