-- The room that a part of a tree asks, and the words that it costs.
use Rattle.model.proofs.Prelude.{ℕ, ◌≤◌, ◌<◌, ◌+◌, ◌-◌, ◌*◌, ◌^◌, List, length, arith}
use mir.Val.{Fits}
use mir.Syntax.{w64}
use Rattle.tree_words.specs.TreeLayout.{high_at_of}
use Rattle.tree_split.specs.Splitting.{SplitInput}
use Rattle.tree_words.proofs.NodeLaws.{good-bounds}

-- ---- room and cost: the parts below, then those above

pub cost_join : (h f p l e : ℕ) → p ≤ f + (16 * h + 16 * l) → l ≤ h → e ≤ p + (16 * (h - l) + 16 * (l - h) + 8) → e ≤ f + (32 * h + 8)
cost_join h f p l e q r s = omega arith

pub room-join : (h f p l n : ℕ) → p ≤ f + (16 * h + 16 * l) → l ≤ h → f + 32 * (h + 1) ≤ n → p + (16 * (h - l) + 16 * (l - h) + 8) ≤ n
room-join h f p l n q r s = omega arith

pub room-four : (h f p l n : ℕ) → p ≤ f + 8 + (16 * h + 16 * l) → l ≤ h → f + 32 * (h + 1) ≤ n → p + (16 * (h + 1 - l) + 16 * (l - (h + 1)) + 8) ≤ n
room-four h f p l n q r s = omega arith

pub cost_four : (h f p l e : ℕ) → p ≤ f + 8 + (16 * h + 16 * l) → l ≤ h → e ≤ p + (16 * (h + 1 - l) + 16 * (l - (h + 1)) + 8) → e ≤ f + 32 * (h + 1)
cost_four h f p l e q r s = omega arith

pub cost_join_up : (h f p l e : ℕ) → p ≤ f + (16 * h + 16 * l) → l ≤ h → e ≤ p + (16 * (l - h) + 16 * (h - l) + 8) → e ≤ f + (32 * h + 8)
cost_join_up h f p l e q r s = omega arith

pub room-join_up : (h f p l n : ℕ) → p ≤ f + (16 * h + 16 * l) → l ≤ h → f + 32 * (h + 1) ≤ n → p + (16 * (l - h) + 16 * (h - l) + 8) ≤ n
room-join_up h f p l n q r s = omega arith

pub room-four-up : (h f p l n : ℕ) → p ≤ f + 8 + (16 * h + 16 * l) → l ≤ h → f + 32 * (h + 1) ≤ n → p + (16 * (l - (h + 1)) + 16 * (h + 1 - l) + 8) ≤ n
room-four-up h f p l n q r s = omega arith

pub cost_four-up : (h f p l e : ℕ) → p ≤ f + 8 + (16 * h + 16 * l) → l ≤ h → e ≤ p + (16 * (l - (h + 1)) + 16 * (h + 1 - l) + 8) → e ≤ f + 32 * (h + 1)
cost_four-up h f p l e q r s = omega arith

-- ---- what can be read of a node

module _ (ws : List ℕ) (start free h a low : ℕ) (n : SplitInput ws start free h a) where
  pub ends-in : a + 3 ≤ length ws
  ends-in = omega (arith, (good-bounds n.good).ended, n.room.inside)

  pub high_small : high_at_of ws a ≤ 2 ^ 62
  high_small = (good-bounds n.good).most

  pub fits-eight : length ws < 2 ^ 64 → Fits w64 (free + 8)
  fits-eight q = record { fits = omega (arith, n.room.inside) }

  pub fits_one : Fits w64 (h + 1)
  fits_one = record { fits = omega (arith, n.small) }
