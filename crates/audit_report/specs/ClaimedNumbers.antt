-- What is wrong with claimed numbers: whether they are in the true report in class 1.
use Rattle.std.specs.Prelude.{◌≡◌, Bool, true, false, List, ℕ, ◌≤◌}
use Rattle.report_differences.specs.Differences.{only}
use Rattle.report_claim_words.specs.declared.Kind.{Kind}
use Rattle.report_claim_words.specs.declared.Kind.TheVariants as kind
use Rattle.audit_report.specs.declared.claims.Claim.{Claim}

-- a claim that is false in class 1, too
abbrev pub is_false : Kind → Bool
is_false kind.FalseClaim = true
is_false kind.NotRobust = false
is_false kind.Missed = false

-- Numbers from `low` on, up to one that is not over `high`: all are in the runs of `a` only, or none is
pub record ClaimTrue (r : Claim) (a plain : List ℕ) (low high : ℕ) : Type 0 where
  pub some : low ≤ r.high
  pub within : r.high ≤ high
  pub kind_is : (k : ℕ) → low ≤ k → k ≤ r.high → only a plain k ≡ is_false r.kind
