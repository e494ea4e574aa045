-- What is wrong with claimed numbers, case by case as the code meets them.
use Rattle.model.proofs.Prelude.{ℕ, ◌≤◌, ◌<◌, ◌+◌, ◌-◌, ◌^◌, ◌≡◌, List, arith, rules}
use mir.Syntax.{w64}
use mir.Val.{Fits}
use Rattle.report_claim_words.specs.declared.Kind.TheVariants as kind
use Rattle.report_differences.specs.Differences.{Passed, FirstPiece, PieceFrom}
use Rattle.report_differences.proofs.RunCases.{passed_none, passed_later}
use Rattle.report_differences.proofs.RangeCases.{piece-as}
use Rattle.audit_report.specs.ClaimedNumbers.{ClaimTrue}
use Rattle.audit_report.specs.declared.claims.Claim.{Claim}
use Rattle.std.specs.Prelude.{Option, Some, None}
use Rattle.report_differences.specs.declared.inner.walk.FaultRange.{FaultRange}

module _ (i j : ℕ) (a plain : List ℕ) (low high : ℕ) (lh : low ≤ high) (hb : Fits w64 high) (x : Option FaultRange) (s : PieceFrom x i j a plain low) where
  -- no number from `low` on is in the runs of `a` only
  pub claim_nothing : x ≡ None → ClaimTrue (record { kind = kind.NotRobust; high = high }) a plain low high
  claim_nothing e =
      let t : FirstPiece None a plain low = piece-as i j a plain low x None s e in
      record { some = lh; within = omega arith; kind_is = λ k l m. t k l (omega (arith, hb.fits)) }

  module _ (r : FaultRange) (e : x ≡ Some r) where
    t : FirstPiece (Some r) a plain low
    t = (piece-as i j a plain low x (Some r) s e).0

    pub claim_before : high < r.low → ClaimTrue (record { kind = kind.NotRobust; high = high }) a plain low high
    claim_before h = record { some = lh; within = omega arith; kind_is = λ k l m. t.1 k l (omega arith) }

    pub claim_until : low < r.low → r.low ≤ high → ClaimTrue (record { kind = kind.NotRobust; high = r.low - 1 }) a plain low high
    claim_until h g = record { some = omega arith; within = omega arith; kind_is = λ k l m. t.1 k l (omega arith) }

    pub claim_whole : r.low ≤ low → high < r.high → ClaimTrue (record { kind = kind.FalseClaim; high = high }) a plain low high
    claim_whole h g = record { some = lh; within = omega arith; kind_is = λ k l m. t.2.1 k (omega arith) (omega arith) }

    pub claim_part : r.low ≤ low → r.high ≤ high → ClaimTrue (record { kind = kind.FalseClaim; high = r.high }) a plain low high
    claim_part h g = record { some = omega (arith, t.0, t.2.0); within = g; kind_is = λ k l m. t.2.1 k (omega arith) m }

-- the range that a walk finds from a number on, and the walk after it
module _ (i j : ℕ) (a b : List ℕ) (from : ℕ) (x : Option FaultRange) (s : PieceFrom x i j a b from) (r0 : FaultRange) (e : x ≡ Some r0) where
  u : PieceFrom (Some r0) i j a b from
  u = piece-as i j a b from x (Some r0) s e

  pub range-some : r0.low ≤ r0.high
  range-some = u.0.2.0

  pub range-less : Fits w64 r0.high → 2 ^ 64 - (r0.high + 1) < 2 ^ 64 - from
  range-less h = omega (arith, u.0.0, u.0.2.0, h.fits)

  pub first-passed : Passed a i (r0.high + 1)
  first-passed = u.1

  pub last-passed : Passed b j (r0.high + 1)
  last-passed = u.2

  -- the walk goes on within the range
  module _ (plain : List ℕ) (r : Claim) (split : ClaimTrue r a plain r0.low r0.high) where
    pub split-less : Fits w64 r0.high → 2 ^ 64 - (r.high + 1) < 2 ^ 64 - from
    split-less h = omega (arith, u.0.0, split.some, split.within, h.fits)

    pub within-passed : (k : ℕ) (l : List ℕ) → Passed l k from → Passed l k (r.high + 1)
    within-passed k l p = passed_later l k from (r.high + 1) (omega (arith, u.0.0, split.some)) p

pub ruleset claim-cases = (claim_nothing, claim_before, claim_until, claim_whole, claim_part, rules)

pub ruleset walk-cases = (passed_none, range-some, range-less, first-passed, last-passed, split-less, within-passed, rules)
