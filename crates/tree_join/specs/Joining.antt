-- What the functions that make trees of trees ask and promise.
use Rattle.std.specs.Prelude.{◌≡◌, true, false, List, [], ◌++◌, ℕ, suc, ◌+◌, ◌-◌, ◌*◌, ◌≤◌, ◌<◌, ltb, eqb, length}
use Rattle.model.specs.Runs.{Run}
use Rattle.tree_words.specs.TreeLayout.{child1, child2, child3, leaves_at, leaves_of}
use Rattle.tree_join.specs.declared.inner.Grown.{Grown}
use Rattle.tree_join.specs.declared.inner.Part.{Part}
use Rattle.tree_words.specs.Nodes.{Good, Whole, Kept, Sep}

-- the leaves below a node that may be missing (0)
unfoldable pub leaves_or : List ℕ → ℕ → ℕ → List Run
leaves_or ws h a = elim (eqb a 0) [ true ↦ [] | false ↦ leaves_at ws h a ]

unfoldable pub front_leaves : List ℕ → ℕ → ℕ → List Run
front_leaves ws h a = elim (eqb (child3 ws a) 0) [ true ↦ leaves_at ws h (child1 ws a) | false ↦ leaves_at ws h (child1 ws a) ++ leaves_at ws h (child2 ws a) ]

unfoldable pub back_leaves : List ℕ → ℕ → ℕ → List Run
back_leaves ws h a = leaves_at ws h (child2 ws a) ++ leaves_or ws h (child3 ws a)

-- words in which nodes may be made: `room` words from `free` on
pub record Room (ws : List ℕ) (start free room : ℕ) : Type 0 where
  pub headed : 4 ≤ start
  pub begun : start ≤ free
  pub inside : free + room ≤ length ws

-- two to four neighbours, 0 for those that are missing
pub record Neighbours (ws : List ℕ) (start free h a b c d : ℕ) : Type 0 where
  pub good_a : Good ws start free h a
  pub good_b : Good ws start free h b
  pub good_c : (c ≡ 0 → ⊥) → Good ws start free h c
  pub good_d : (d ≡ 0 → ⊥) → Good ws start free h d
  pub order : c ≡ 0 → d ≡ 0
  pub sep : Sep (leaves_at ws h a ++ (leaves_at ws h b ++ (leaves_or ws h c ++ leaves_or ws h d)))

-- one node or two with the leaves `rs`, for which at most `cost` words were used; one where `slim` is 0
pub record Grows (ws ws' : List ℕ) (start free h cost slim : ℕ) (rs : List Run) (g : Grown) : Type 0 where
  pub first : Good ws' start g.free h g.first
  pub second : (g.second ≡ 0 → ⊥) → Good ws' start g.free h g.second
  pub leaves : leaves_at ws' h g.first ++ leaves_or ws' h g.second ≡ rs
  pub kept : Kept ws ws' free g.free
  pub spent : g.free ≤ free + cost
  pub thin : slim ≡ 0 → g.second ≡ 0

-- an inner node, and what its last or its first child is replaced by
pub record AttachLast (ws : List ℕ) (start free h at a b : ℕ) : Type 0 where
  pub node : Good ws start free (suc h) at
  pub good_a : Good ws start free h a
  pub good_b : (b ≡ 0 → ⊥) → Good ws start free h b
  pub sep : Sep (front_leaves ws h at ++ (leaves_at ws h a ++ leaves_or ws h b))

pub record AttachFirst (ws : List ℕ) (start free h at a b : ℕ) : Type 0 where
  pub node : Good ws start free (suc h) at
  pub good_a : Good ws start free h a
  pub good_b : (b ≡ 0 → ⊥) → Good ws start free h b
  pub sep : Sep (leaves_at ws h a ++ (leaves_or ws h b ++ back_leaves ws h at))

-- a higher tree and a lower one beside it
pub record Beside (ws : List ℕ) (start free h a k b : ℕ) : Type 0 where
  pub higher : Good ws start free h a
  pub lower : Good ws start free k b
  pub order : k ≤ h

-- 0 where the lower tree comes below a root that has two children
unfoldable pub slim : List ℕ → ℕ → ℕ → ℕ → ℕ
slim ws h a k = elim (ltb k h) [ true ↦ child3 ws a | false ↦ 1 ]

-- one node or two of the same height
pub record Pair (ws : List ℕ) (start free h a b : ℕ) : Type 0 where
  pub small : h ≤ 20
  pub good_a : Good ws start free h a
  pub good_b : (b ≡ 0 → ⊥) → Good ws start free h b
  pub sep : Sep (leaves_at ws h a ++ leaves_or ws h b)

-- two trees, and what is made of them
pub record Both (ws : List ℕ) (start free l a m b : ℕ) : Type 0 where
  pub small_a : l ≤ 20
  pub small_b : m ≤ 20
  pub whole_a : Whole ws start free l a
  pub whole_b : Whole ws start free m b
  pub sep : Sep (leaves_of ws l a ++ leaves_of ws m b)

pub record Joins (ws ws' : List ℕ) (start free l a m b : ℕ) (p : Part) : Type 0 where
  pub whole : Whole ws' start p.free p.levels p.root
  pub leaves : leaves_of ws' p.levels p.root ≡ leaves_of ws l a ++ leaves_of ws m b
  pub kept : Kept ws ws' free p.free
  pub spent : p.free ≤ free + (16 * (l - m) + 16 * (m - l) + 8)
  pub at_least_a : l ≤ p.levels
  pub at_least_b : m ≤ p.levels
  pub at_most : (n : ℕ) → l ≤ n → m ≤ n → p.levels ≤ n + 1
  pub thin_a : m < l → child3 ws a ≡ 0 → p.levels ≤ l
  pub thin_b : l < m → child3 ws b ≡ 0 → p.levels ≤ m

-- one node or two as a tree
pub record Crowns (ws ws' : List ℕ) (start free h b : ℕ) (rs : List Run) (p : Part) : Type 0 where
  pub whole : Whole ws' start p.free p.levels p.root
  pub leaves : leaves_of ws' p.levels p.root ≡ rs
  pub kept : Kept ws ws' free p.free
  pub spent : p.free ≤ free + 8
  pub at_least : h + 1 ≤ p.levels
  pub at_most : p.levels ≤ h + 2
  pub thin : b ≡ 0 → p.levels ≤ h + 1

-- ---- the promises by the functions' parameters

abbrev pub Grouped : List ℕ → List ℕ → ℕ → ℕ → ℕ → ℕ → ℕ → ℕ → ℕ → Grown → Type 0
Grouped ws ws' start free h a b c d g =
    Grows ws ws' start free (suc h) 16 d (leaves_at ws h a ++ (leaves_at ws h b ++ (leaves_or ws h c ++ leaves_or ws h d))) g

abbrev pub AttachedLast : List ℕ → List ℕ → ℕ → ℕ → ℕ → ℕ → ℕ → ℕ → Grown → Type 0
AttachedLast ws ws' start free h at a b g =
    Grows ws ws' start free (suc h) 16 (child3 ws at) (front_leaves ws h at ++ (leaves_at ws h a ++ leaves_or ws h b)) g

abbrev pub AttachedFirst : List ℕ → List ℕ → ℕ → ℕ → ℕ → ℕ → ℕ → ℕ → Grown → Type 0
AttachedFirst ws ws' start free h at a b g =
    Grows ws ws' start free (suc h) 16 (child3 ws at) (leaves_at ws h a ++ (leaves_or ws h b ++ back_leaves ws h at)) g

abbrev pub JoinedRight : List ℕ → List ℕ → ℕ → ℕ → ℕ → ℕ → ℕ → ℕ → Grown → Type 0
JoinedRight ws ws' start free h a k b g = Grows ws ws' start free h (16 * (h - k)) (slim ws h a k) (leaves_at ws h a ++ leaves_at ws k b) g

abbrev pub JoinedLeft : List ℕ → List ℕ → ℕ → ℕ → ℕ → ℕ → ℕ → ℕ → Grown → Type 0
JoinedLeft ws ws' start free h a k b g = Grows ws ws' start free h (16 * (h - k)) (slim ws h a k) (leaves_at ws k b ++ leaves_at ws h a) g

abbrev pub AttachedRoot : List ℕ → List ℕ → ℕ → ℕ → ℕ → ℕ → ℕ → Part → Type 0
AttachedRoot ws ws' start free h a b p = Crowns ws ws' start free h b (leaves_at ws h a ++ leaves_or ws h b) p
