-- Laws of separated runs and of the runs at the leaves of sound nodes.
use Rattle.model.proofs.Prelude.{ℕ, ◌≤◌, ◌+◌, suc, ◌^◌, ◌≡◌, List, [], ◌∷◌, ◌++◌, append_assoc, arith}
use Rattle.model.specs.Runs.{Run, size, Separated}
use Rattle.tree_words.specs.TreeLayout.{low_at_of, high_at_of, total_at_of, child1, child2, child3, leaves_at}
use Rattle.tree_words.specs.Nodes.{Good, good-leaf, good-two, good-three}
use Rattle.tree_words.proofs.NodeLaws.{leaves-leaf, leaves-two, leaves-three}
use Rattle.model.proofs.RunLaws.{separated_weaken}

-- ---- lists of separated runs

pub sep-right : (n least : ℕ) (xs ys : List Run) → 1 ≤ least → Separated n least (xs ++ ys) → Separated n 1 ys
sep-right n least [] ys q s = separated_weaken n least 1 ys q s
sep-right n least (x ∷ xs) ys q s = sep-right n (x.high + 2) xs ys (omega arith) s.3

pub size-append : (xs ys : List Run) → size (xs ++ ys) ≡ size xs + size ys
unfolding size
size-append [] ys = omega arith
size-append (x ∷ xs) ys = omega (arith, size-append xs ys)

-- ---- the leaves of sound nodes

module _ {ws : List ℕ} {start free : ℕ} where
  -- they are separated from `low_at_of` on, and what is separated behind `high_at_of` may follow
  pub good-then : {h a : ℕ} → Good ws start free h a → (least : ℕ) (rest : List Run) → least ≤ low_at_of ws a → Separated (2 ^ 62) (high_at_of ws a + 2) rest
      → Separated (2 ^ 62) least (leaves_at ws h a ++ rest)
  good-then {a = a} (good-leaf t) least rest q s = rw (leaves-leaf ws a) (q, t.order, t.most, s)
  good-then {h = suc h} {a = a} (good-two t b c) least rest q s =
      rw (leaves-two ws h a t.no_third, append_assoc)
      (good-then b least (leaves_at ws h (child2 ws a) ++ rest) (omega (arith, t.low))
      (good-then c (high_at_of ws (child1 ws a) + 2) rest t.apart (rw t.high at s)))
  good-then {h = suc h} {a = a} (good-three t b c d) least rest q s =
      rw (leaves-three ws h a t.some_third, append_assoc, append_assoc)
      (good-then b least (leaves_at ws h (child2 ws a) ++ (leaves_at ws h (child3 ws a) ++ rest)) (omega (arith, t.low))
      (good-then c (high_at_of ws (child1 ws a) + 2) (leaves_at ws h (child3 ws a) ++ rest) t.apart
      (good-then d (high_at_of ws (child2 ws a) + 2) rest t.apart2 (rw t.high at s))))

  -- and the other way round
  pub good-rest : {h a : ℕ} → Good ws start free h a → (least : ℕ) (rest : List Run) → Separated (2 ^ 62) least (leaves_at ws h a ++ rest)
      → (least ≤ low_at_of ws a) × Separated (2 ^ 62) (high_at_of ws a + 2) rest
  good-rest {a = a} (good-leaf t) least rest s = let u = rw (leaves-leaf ws a) at s in (u.0, u.3)
  good-rest {h = suc h} {a = a} (good-two t b c) least rest s =
      let u = good-rest b least (leaves_at ws h (child2 ws a) ++ rest) (rw (leaves-two ws h a t.no_third, append_assoc) at s) in
      let v = good-rest c (high_at_of ws (child1 ws a) + 2) rest u.1 in
      (omega (arith, t.low, u.0), rw t.high v.1)
  good-rest {h = suc h} {a = a} (good-three t b c d) least rest s =
      let u = good-rest b least (leaves_at ws h (child2 ws a) ++ (leaves_at ws h (child3 ws a) ++ rest)) (rw (leaves-three ws h a t.some_third, append_assoc, append_assoc) at s) in
      let v = good-rest c (high_at_of ws (child1 ws a) + 2) (leaves_at ws h (child3 ws a) ++ rest) u.1 in
      let w = good-rest d (high_at_of ws (child2 ws a) + 2) rest v.1 in
      (omega (arith, t.low, u.0), rw t.high w.1)

  pub good-total : {h a : ℕ} → Good ws start free h a → total_at_of ws a ≡ size (leaves_at ws h a)
  unfolding size
  good-total {a = a} (good-leaf t) = rw (leaves-leaf ws a) (omega (arith, t.counted))
  good-total {h = suc h} {a = a} (good-two t b c) =
      rw (leaves-two ws h a t.no_third, size-append) (omega (arith, t.counted, good-total b, good-total c))
  good-total {h = suc h} {a = a} (good-three t b c d) =
      rw (leaves-three ws h a t.some_third, size-append, size-append) (omega (arith, t.counted, good-total b, good-total c, good-total d))

  -- neighbours with separated leaves are apart
  pub good-apart : {h k a b : ℕ} → Good ws start free h a → Good ws start free k b → (least : ℕ) (rest : List Run)
      → Separated (2 ^ 62) least (leaves_at ws h a ++ (leaves_at ws k b ++ rest)) → high_at_of ws a + 2 ≤ low_at_of ws b
  good-apart {h} {k} {a} {b} ga gb least rest s = (good-rest gb (high_at_of ws a + 2) rest (good-rest ga least (leaves_at ws k b ++ rest) s).1).0
