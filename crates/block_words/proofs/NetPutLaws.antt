-- The words of one net written among those of 512 nets: what its writes leave, and the planes of words afterwards.
use Rattle.model.proofs.Prelude.{ℕ, ◌≤◌, ◌<◌, ◌+◌, ◌*◌, ◌≡◌, ◌∙◌, refl, sym, subst, ⊎_elim, inl, inr, ◌⊎◌, List, length, get_or, set, length-set}
use Rattle.model.proofs.Prelude.{get_or-set_same, get_or-set_other, arith}
use Rattle.model.proofs.BoolLaws.{equal_or_not}
use Rattle.block_words.specs.NetStates.{plane, NetPut, StatesKept}
use Rattle.block_words.specs.declared.inner.words.NetState.{NetState}
use Rattle.block_words.proofs.PlaneLaws.{plane-at}
use Rattle.block_words.specs.Layout.{nets_size}

-- Five writes, one after the other
module _ (before : List ℕ) (net : ℕ) (s : NetState) where
  abbrev with1 : List ℕ
  with1 = set before (8 * net) s.first

  abbrev with2 : List ℕ
  with2 = set with1 (8 * net + 1) s.last

  abbrev with3 : List ℕ
  with3 = set with2 (8 * net + 2) s.steady

  abbrev with4 : List ℕ
  with4 = set with3 (8 * net + 3) s.rises

  abbrev pub with_net : List ℕ
  with_net = set with4 (8 * net + 4) s.falls

  length1 : length with1 ≡ length before
  length1 = length-set before (8 * net) s.first

  length2 : length with2 ≡ length before
  length2 = length-set with1 (8 * net + 1) s.last ∙ length1

  length3 : length with3 ≡ length before
  length3 = length-set with2 (8 * net + 2) s.steady ∙ length2

  length4 : length with4 ≡ length before
  length4 = length-set with3 (8 * net + 3) s.rises ∙ length3

  -- the places are there at each write
  module _ (low : net < 512) (room : nets_size ≤ length before) where
    pub room2 : 8 * net + 1 < length with1
    room2 = omega (arith, length1)

    pub room3 : 8 * net + 2 < length with2
    room3 = omega (arith, length2)

    pub room4 : 8 * net + 3 < length with3
    room4 = omega (arith, length3)

    pub room5 : 8 * net + 4 < length with4
    room5 = omega (arith, length4)

    apart : (at : ℕ) (j k : ℕ) → j < k → at + j ≡ at + k → ⊥
    apart at j k l e = omega arith

    at-start : (at k : ℕ) → 0 < k → at ≡ at + k → ⊥
    at-start at k l e = omega arith

    away : (i at k : ℕ) → (i < at) ⊎ (at + 5 ≤ i) → k < 5 → i ≡ at + k → ⊥
    away i at k (inl h) l e = omega arith
    away i at k (inr h) l e = omega arith

    away-start : (i at : ℕ) → (i < at) ⊎ (at + 5 ≤ i) → i ≡ at → ⊥
    away-start i at (inl h) e = omega arith
    away-start i at (inr h) e = omega arith

    -- a place that the later writes do not meet
    past5 : (i : ℕ) → (i ≡ 8 * net + 4 → ⊥) → get_or with_net i 0 ≡ get_or with4 i 0
    past5 i d = get_or-set_other with4 (8 * net + 4) i s.falls 0 d

    past4 : (i : ℕ) → (i ≡ 8 * net + 4 → ⊥) → (i ≡ 8 * net + 3 → ⊥) → get_or with_net i 0 ≡ get_or with3 i 0
    past4 i d e = past5 i d ∙ get_or-set_other with3 (8 * net + 3) i s.rises 0 e

    past3 : (i : ℕ) → (i ≡ 8 * net + 4 → ⊥) → (i ≡ 8 * net + 3 → ⊥) → (i ≡ 8 * net + 2 → ⊥) → get_or with_net i 0 ≡ get_or with2 i 0
    past3 i d e f = past4 i d e ∙ get_or-set_other with2 (8 * net + 2) i s.steady 0 f

    past2 : (i : ℕ) → (i ≡ 8 * net + 4 → ⊥) → (i ≡ 8 * net + 3 → ⊥) → (i ≡ 8 * net + 2 → ⊥) → (i ≡ 8 * net + 1 → ⊥) → get_or with_net i 0 ≡ get_or with1 i 0
    past2 i d e f g = past3 i d e f ∙ get_or-set_other with1 (8 * net + 1) i s.last 0 g

    pub net-put : NetPut net s before with_net
    net-put =
        let at = 8 * net in
        record {
          same_length_of = length-set with4 (8 * net + 4) s.falls ∙ length4;
          others = λ i o.
              past2 i (away i at 4 o (omega arith)) (away i at 3 o (omega arith)) (away i at 2 o (omega arith)) (away i at 1 o (omega arith))
              ∙ get_or-set_other before (8 * net) i s.first 0 (away-start i at o);
          first = past2 at (at-start at 4 (omega arith)) (at-start at 3 (omega arith)) (at-start at 2 (omega arith)) (at-start at 1 (omega arith))
              ∙ get_or-set_same before (8 * net) s.first 0 (omega arith);
          last = past3 (at + 1) (apart at 1 4 (omega arith)) (apart at 1 3 (omega arith)) (apart at 1 2 (omega arith))
              ∙ get_or-set_same with1 (8 * net + 1) s.last 0 room2;
          steady = past4 (at + 2) (apart at 2 4 (omega arith)) (apart at 2 3 (omega arith)) ∙ get_or-set_same with2 (8 * net + 2) s.steady 0 room3;
          rises = past5 (at + 3) (apart at 3 4 (omega arith)) ∙ get_or-set_same with3 (8 * net + 3) s.rises 0 room4;
          falls = get_or-set_same with4 (8 * net + 4) s.falls 0 room5;
        }

-- What is past the words of 512 nets stays
pub kept-start : {words : List ℕ} → StatesKept words words
kept-start = record { same_length_of = refl; past = λ i h. refl }

module _ {net : ℕ} {s : NetState} {before after : List ℕ} (p : NetPut net s before after) where
  -- One word of each net, at the place that `at` says: what holds of the nets before `net`, and of the new word of `net`, holds of those before `net` + 1
  pub put-more : (at : ℕ → ℕ) → ((k : ℕ) → k < net → at k < 8 * net) → {v : ℕ} → get_or after (at net) 0 ≡ v → (P : ℕ → ℕ → Type 0) → P net v
      → ((k : ℕ) → k < net → P k (get_or before (at k) 0)) → (k : ℕ) → k < net + 1 → P k (get_or after (at k) 0)
  put-more at under {v} e P h b k m =
      ⊎_elim
      (λ (q : k ≡ net). subst (λ j. P j (get_or after (at j) 0)) (sym q) (subst (λ x. P net x) (sym e) h))
      (λ (d : k ≡ net → ⊥). let l = below k net d m in subst (λ x. P k x) (sym (p.others (at k) (inl (under k l)))) (b k l))
      (equal_or_not k net)
    where
      below : (k net : ℕ) → (k ≡ net → ⊥) → k < net + 1 → k < net
      below k net d m = omega arith

  module _ (low : net < 512) where
    pub kept_more : {start : List ℕ} → StatesKept start before → StatesKept start after
    kept_more x = record {
      same_length_of = p.same_length_of ∙ x.same_length_of;
      past = λ i h. p.others i (inr (omega arith)) ∙ x.past i h;
    }

    -- one word of each net, as a plane
    pub plane-more : (i : ℕ) → i < 5 → {v : ℕ} → get_or after (8 * net + i) 0 ≡ v → (P : ℕ → ℕ → Type 0) → P net v
        → ((k : ℕ) → k < net → P k (get_or (plane i before) k 0)) → (k : ℕ) → k < net + 1 → P k (get_or (plane i after) k 0)
    plane-more i few e P h b k m =
        subst (λ x. P k x) (sym (plane-at i k after (omega arith)))
        (put-more (λ j. 8 * j + i) (λ j l. omega arith) e P h (λ j l. subst (λ x. P j x) (plane-at i j before (omega arith)) (b j l)) k m)
