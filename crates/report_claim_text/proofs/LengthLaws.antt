-- No line on a refused report is longer than 128 bytes.
use Prim.Native.Nat.{ℕ, ◌≤◌}
use native.Mathlib.Omega.{arith}
use lib.ListN.{length, length-append}
use Rattle.path_faults.specs.Answers.{model_edge}
use Rattle.path_faults.specs.declared.Edge.{Edge}
use Rattle.text_line.proofs.DecimalLaws.{at-most-20}
use Rattle.text_percent.proofs.ShareLengths.{claimed_short, true_short}
use Rattle.report_claim_words.specs.declared.Kind.{Kind}
use Rattle.report_claim_words.specs.declared.Field.{Field}
use Rattle.report_claim_words.proofs.WordLengths.{edge-short, kind-short, field-short, plural_short, paths-short}
use Rattle.report_claim_text.specs.Claims.{claim_text, more_text, field_text, faults_text, order_text}

pub claim_short : (k : Kind) (e : Edge) (low high : ℕ) → length (claim_text k e low high) ≤ 128
unfolding claim_text
claim_short k e low high = simp length-append (omega (arith, kind-short k, edge-short (model_edge e), paths-short low high))

pub more-short : (k : Kind) (count : ℕ) → length (more_text k count) ≤ 128
unfolding more_text
more-short k count = simp length-append (omega (arith, at-most-20 count, plural_short k count))

pub field-line-short : (f : Field) (claimed truth : ℕ) → length (field_text f claimed truth) ≤ 128
unfolding field_text
field-line-short f claimed truth =
    simp length-append (omega (arith, field-short f, at-most-20 claimed, at-most-20 truth))

pub order-short : (e : Edge) (number low high : ℕ) → length (order_text e number low high) ≤ 128
unfolding order_text
order-short e number low high =
    simp length-append (omega (arith, edge-short (model_edge e), at-most-20 number, at-most-20 low, at-most-20 high))

pub faults-short : (e : Edge) (claimed truth paths : ℕ) → length (faults_text e claimed truth paths) ≤ 128
unfolding faults_text
faults-short e claimed truth paths =
    simp length-append
    (omega (arith, edge-short (model_edge e), at-most-20 claimed, at-most-20 truth, claimed_short claimed paths, true_short truth paths))
