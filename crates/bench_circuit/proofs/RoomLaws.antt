-- Room for one more in a netlist's header, as the code tests it.
use Rattle.model.proofs.Prelude.{ℕ, ◌≤◌, ◌+◌, suc, ◌≡◌, ◌&&◌, leb, T, leb→le, ltb, ltb→lt, le→leb, lt→ltb, arith}
use Rattle.model.specs.Netlist.{max_nets}
use Rattle.model.specs.Read.{within, header_range}
use Rattle.model.proofs.BoolLaws.{both, and_left, and_right, all4, and4, same_test}

in_range : (low high n : ℕ) → low ≤ n → n ≤ high → T (within low high n)
in_range low high n p q = both (leb low n) (leb n high) (le→leb low n p) (le→leb n high q)

-- the numbers of a header
pub header : (i g u : ℕ) → 1 ≤ i → i ≤ 64 → g ≤ 511 → i + g ≤ 512 → 1 ≤ u → u ≤ 64 → T (header_range i g u)
header i g u i1 i64 g511 n512 u1 u64 =
    all4 (within 1 64 i) (leb g 511) (leb (i + g) max_nets) (within 1 64 u)
    (in_range 1 64 i i1 i64) (le→leb g 511 g511) (le→leb (i + g) max_nets n512) (in_range 1 64 u u1 u64)

module _ (i g u : ℕ) (t : T (header_range i g u)) where
  parts : T (within 1 64 i) × T (leb g 511) × T (leb (i + g) max_nets) × T (within 1 64 u)
  parts = and4 (within 1 64 i) (leb g 511) (leb (i + g) max_nets) (within 1 64 u) t

  pub header-inputs : i ≤ 64
  header-inputs = leb→le i 64 (and_right (leb 1 i) (leb i 64) parts.0)

  pub header-gates : g ≤ 511
  header-gates = leb→le g 511 parts.1

  pub header-nets : i + g ≤ 512
  header-nets = leb→le (i + g) 512 parts.2

  pub header-outputs : u ≤ 64
  header-outputs = leb→le u 64 (and_right (leb 1 u) (leb u 64) parts.3)

pub room-input : (i g : ℕ) → ltb i 64 && ltb (i + g) 512 ≡ header_range (suc i) g 1
room-input i g =
    same_test (ltb i 64 && ltb (i + g) 512) (header_range (suc i) g 1)
    (λ t.
    let a = ltb→lt i 64 (and_left (ltb i 64) (ltb (i + g) 512) t) in
    let b = ltb→lt (i + g) 512 (and_right (ltb i 64) (ltb (i + g) 512) t) in
    header (suc i) g 1 (omega arith) (omega arith) (omega arith) (omega arith) (omega arith) (omega arith))
    (λ t.
    let a = header-inputs (suc i) g 1 t in
    let b = header-nets (suc i) g 1 t in
    both (ltb i 64) (ltb (i + g) 512) (lt→ltb i 64 (omega arith)) (lt→ltb (i + g) 512 (omega arith)))

pub room-gate : (i g : ℕ) → ltb g 511 && ltb (i + g) 512 ≡ header_range 1 (suc g) 1 && leb (i + suc g) max_nets
room-gate i g =
    same_test (ltb g 511 && ltb (i + g) 512) (header_range 1 (suc g) 1 && leb (i + suc g) max_nets)
    (λ t.
    let a = ltb→lt g 511 (and_left (ltb g 511) (ltb (i + g) 512) t) in
    let b = ltb→lt (i + g) 512 (and_right (ltb g 511) (ltb (i + g) 512) t) in
    both (header_range 1 (suc g) 1) (leb (i + suc g) max_nets)
    (header 1 (suc g) 1 (omega arith) (omega arith) (omega arith) (omega arith) (omega arith) (omega arith)) (le→leb (i + suc g) max_nets (omega arith)))
    (λ t.
    let a = header-gates 1 (suc g) 1 (and_left (header_range 1 (suc g) 1) (leb (i + suc g) max_nets) t) in
    let b : i + suc g ≤ 512 = leb→le (i + suc g) 512 (and_right (header_range 1 (suc g) 1) (leb (i + suc g) max_nets) t) in
    both (ltb g 511) (ltb (i + g) 512) (lt→ltb g 511 (omega arith)) (lt→ltb (i + g) 512 (omega arith)))

pub room-output : (u : ℕ) → ltb u 64 ≡ header_range 1 0 (suc u)
room-output u =
    same_test (ltb u 64) (header_range 1 0 (suc u))
    (λ t. let a = ltb→lt u 64 t in header 1 0 (suc u) (omega arith) (omega arith) (omega arith) (omega arith) (omega arith) (omega arith))
    (λ t. let a = header-outputs 1 0 (suc u) t in lt→ltb u 64 (omega arith))
