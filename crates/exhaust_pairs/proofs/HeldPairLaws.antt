-- Pairs of vectors in words: how they are written, one V2 more at a time, and the tests that they are.
use Rattle.model.proofs.Prelude.{ℕ, ◌≤◌, ◌<◌, ◌+◌, suc, ◌^◌, zero, ◌≡◌, ◌∙◌, ap, refl, sym, subst, ap₂, List, [], ◌∷◌, ◌++◌, map, append-nil, length}
use Rattle.model.proofs.Prelude.{set, zero-add, suc-add, arith, rules, ne_eqb, eq-eqb}
use Rattle.model.specs.Base.{numbers_from, value, checks}
use Rattle.model.specs.Netlist.{Netlist}
use Rattle.model.specs.Read.{test_rules}
use Rattle.model.proofs.AnswerLaws.{AllPass, →checks}
use Rattle.record_test.proofs.VectorWordLaws.{both, both-room, new-first, new-second, old-first, old-second}
use Rattle.exhaust_pairs.specs.AllPairs.{pair_record, pairs_with}
use Rattle.exhaust_pairs.specs.HeldPairs.{held_pair, held_pairs}
use Rattle.exhaust_pairs.proofs.PairVectorLaws.{map_below}
use Rattle.exhaust_pairs.proofs.PairListLaws.{with-equal, with-other, with-one, AllLegal, legal-with}

map-one : {A : Type 0} (f : ℕ → A) (n k : ℕ) → map f (numbers_from k (n + 1)) ≡ map f (numbers_from k n) ++ (f (k + n) ∷ [])
map-one f zero k = ap (λ x. f x ∷ []) (omega arith)
map-one f (suc n) k =
    ap (λ x. map f (numbers_from k x)) (suc-add n 1) ∙ ap (λ r. f k ∷ r) (map-one f n (suc k))
    ∙ ap (λ x. f k ∷ map f (numbers_from (suc k) n) ++ (f x ∷ [])) (omega arith)

-- one V2 more: the one that is V1, or another
module _ (first second pairs : ℕ) (vectors : List ℕ) (held : held_pairs vectors pairs ≡ pairs_with first 0 second) where
  next-is : (last : List (List ℕ)) → pairs_with first second 1 ≡ last → held_pairs vectors pairs ++ last ≡ pairs_with first 0 (second + 1)
  next-is last e =
      ap₂ (λ (x y : List (List ℕ)). x ++ y) held (sym e) ∙ ap (λ (k : ℕ). pairs_with first 0 second ++ pairs_with first k 1) (sym (zero-add second))
      ∙ sym (with-one second first 0)

  held-equal : second ≡ first → held_pairs vectors pairs ≡ pairs_with first 0 (second + 1)
  unfolding pairs_with
  held-equal e = sym (append-nil (held_pairs vectors pairs)) ∙ next-is [] (with-equal first second 0 (eq-eqb first second (sym e)))

  module _ (few : pairs < 64) (room : length vectors ≡ 128) where
    abbrev after : List ℕ
    after = both vectors pairs first second room few

    before_same : (t : ℕ) → t < 0 + pairs → held_pair after t ≡ held_pair vectors t
    before_same t h =
        let l : t < pairs = omega arith in
        ap₂ pair_record (old-first vectors pairs first second room few t l) (old-second vectors pairs first second room few t l)

    held-other : (second ≡ first → ⊥) → held_pairs (set (set vectors pairs first) (64 + pairs) second) (pairs + 1) ≡ pairs_with first 0 (second + 1)
    unfolding held_pairs pairs_with
    held-other d =
        let last : held_pair after (0 + pairs) ≡ pair_record first second =
        ap (held_pair after) (zero-add pairs) ∙ ap₂ pair_record (new-first vectors pairs first second room few) (new-second vectors pairs first second room few) in
        map-one (held_pair after) pairs 0
        ∙ ap₂ (λ (x : List (List ℕ)) (y : List ℕ). x ++ (y ∷ [])) (map_below (held_pair after) (held_pair vectors) pairs 0 before_same) last
        ∙ next-is (pair_record first second ∷ []) (with-other first second 0 (ne_eqb first second (λ e. d (sym e))))

-- The words hold the pairs of a V1 with the V2 below `second`
pub record HeldSoFar (first count : ℕ) (vectors : List ℕ) (pairs second : ℕ) : Type 0 where
  pub held : held_pairs vectors pairs ≡ pairs_with first 0 second
  pub few : pairs ≤ second
  pub within : second ≤ count
  pub room : length vectors ≡ 128

pub held_start : (first count : ℕ) (vectors : List ℕ) → length vectors ≡ 128 → HeldSoFar first count vectors 0 0
unfolding held_pairs pairs_with
held_start first count vectors l = record { held = refl; few = omega arith; within = omega arith; room = l }

module _ {first count : ℕ} {vectors : List ℕ} {pairs second : ℕ} (most : count ≤ 64) (g : HeldSoFar first count vectors pairs second) (more : second < count) where
  pub held-skip : second ≡ first → HeldSoFar first count vectors pairs (second + 1)
  held-skip e = record { held = held-equal first second pairs vectors g.held e; few = omega (arith, g.few); within = omega arith; room = g.room }

  pub held-put : (second ≡ first → ⊥) → HeldSoFar first count (set (set vectors pairs first) (64 + pairs) second) (pairs + 1) (second + 1)
  held-put d =
      let l : pairs < 64 = omega (arith, g.few) in
      record {
        held = held-other first second pairs vectors g.held l g.room d;
        few = omega (arith, g.few);
        within = omega arith;
        room = both-room vectors pairs first second g.room l;
      }

pub held-end : (inputs : ℕ) {first count : ℕ} {vectors : List ℕ} {pairs second : ℕ} → (count ≡ 2 ^ inputs) × (count ≤ 64)
    → HeldSoFar first count vectors pairs second → count ≤ second → (pairs ≤ 64) × (length vectors ≡ 128) × (held_pairs vectors pairs ≡ pairs_with first 0 (2 ^ inputs))
held-end inputs {first} e g h =
    (omega (arith, e.1, g.few, g.within), g.room, g.held ∙ ap (pairs_with first 0) (omega (arith, e.0, g.within)))

pub ruleset held-cases = (held_start, rules)

-- each of them is legal
legal-at : (N : Netlist) (f : ℕ → List ℕ) (n k t : ℕ) → AllLegal N (map f (numbers_from k n)) → t < n → AllPass (test_rules N (f (k + t)))
legal-at N f zero k t p h = absurd (omega arith)
legal-at N f (suc n) k zero p h = subst (λ x. AllPass (test_rules N (f x))) (omega arith) p.0
legal-at N f (suc n) k (suc t) p h = subst (λ x. AllPass (test_rules N (f x))) (omega arith) (legal-at N f n (suc k) t p.1 (omega arith))

module _ (N : Netlist) (low : 1 ≤ N.inputs) (high : N.inputs ≤ 6) (first : ℕ) (below : first < 2 ^ N.inputs) where
  pub held-legal : (vectors : List ℕ) (n : ℕ) → held_pairs vectors n ≡ pairs_with first 0 (2 ^ N.inputs) → (t : ℕ) → t < n
      → checks (test_rules N (held_pair vectors t)) ≡ value tt
  unfolding held_pairs
  held-legal vectors n e t h =
      let all = legal-with N low high (2 ^ N.inputs) first 0 below (omega arith) in
      let p = legal-at N (held_pair vectors) n 0 t (subst (AllLegal N) (sym e) all) h in
      →checks (test_rules N (held_pair vectors t)) (subst (λ x. AllPass (test_rules N (held_pair vectors x))) (zero-add t) p)
