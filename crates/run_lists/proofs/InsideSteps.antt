-- Runs that lie in the runs of another list: one more of them, and what it says of the union.
use Rattle.model.proofs.Prelude.{ℕ, ◌≤◌, ◌<◌, ◌+◌, ◌-◌, ◌*◌, suc, zero, ◌≡◌, ◌∙◌, ap, refl, sym, subst, ⊎_elim, true, Bool, false, ◌||◌, List, ◌∷◌}
use Rattle.model.proofs.Prelude.{◌++◌, get_or, leb, T, leb→le, arith}
use Rattle.model.specs.Runs.{Run, runs_among, in_run, in_runs}
use Rattle.model.proofs.BoolLaws.{or_cases, and_left, and_right, cases}
use Rattle.model.proofs.RunLaws.{runs_same, runs-of_runs}
use Rattle.run_lists.specs.RunLists.{Sound, in_either, run_at, runs_in_words}
use Rattle.run_lists.specs.Answers.{RunInside, InsideWhere}
use Rattle.run_lists.proofs.MemberLaws.{member, member-in}
use Rattle.run_lists.proofs.RunCutLaws.{cut-hit, runs-cut}

-- the runs before run `j` lie inside
pub record Walked (a : List ℕ) (a-from a-to : ℕ) (b : List ℕ) (b-from b-to i j : ℕ) : Type 0 where
  pub a-begun : a-from ≤ i
  pub a-within : i ≤ a-to
  pub b-begun : b-from ≤ j
  pub b-within : j ≤ b-to
  pub done : (k : ℕ) → b-from ≤ k → k < j → RunInside a a-from a-to (run_at b k)

module _ (a : List ℕ) (a-from a-to : ℕ) (b : List ℕ) (b-from b-to : ℕ) where
  pub walked_none : b-to ≤ b-from → InsideWhere true a a-from a-to b b-from b-to
  walked_none h e k p q = absurd (omega arith)

  pub walked_start : (i : ℕ) → (a-from ≤ i) × (i ≤ a-to) → b-from ≤ b-to → Walked a a-from a-to b b-from b-to i b-from
  walked_start i h k = record { a-begun = h.0; a-within = h.1; b-begun = omega arith; b-within = k; done = λ m p q. absurd (omega arith) }

  module _ (i j : ℕ) (w : Walked a a-from a-to b b-from b-to i j) where
    pub walked_more : (k : ℕ) → (i ≤ k) × (k ≤ a-to) → k < a-to → j < b-to → get_or a (2 * k) 0 ≤ get_or b (2 * j) 0 → get_or b (2 * j + 1) 0 ≤ get_or a (2 * k + 1) 0
        → Walked a a-from a-to b b-from b-to k (j + 1)
    walked_more k q h g l m = record {
      a-begun = omega (arith, w.a-begun, q.0);
      a-within = q.1;
      b-begun = omega (arith, w.b-begun);
      b-within = omega arith;
      done = λ n p r. cases j n
          (λ f. let e : j ≡ n = omega arith in
          subst (λ (x : ℕ). RunInside a a-from a-to (run_at b x)) e (record { place = k; begun = omega (arith, w.a-begun, q.0); ended = h; not_below = l; not_above = m }))
          (λ f. w.done n p f);
    }

    pub walked_end : b-to ≤ j → InsideWhere true a a-from a-to b b-from b-to
    walked_end h e k p q = w.done k p (omega arith)

  pub no_answer : InsideWhere false a a-from a-to b b-from b-to
  no_answer e = let z : ◌≡◌ {A = ℕ} 0 1 = cc in absurd (omega arith)

  -- a number of a run that lies inside
  pub inside-member : (n : ℕ) → Sound n (runs_in_words a a-from (a-to - a-from)) → (r : Run) (x : ℕ) → RunInside a a-from a-to r → T (in_run r x)
      → in_runs (runs_in_words a a-from (a-to - a-from)) x ≡ true
  inside-member n s r x h t =
      let cut : runs_in_words a a-from (a-to - a-from)
      ≡ runs_in_words a a-from (h.place - a-from) ++ run_at a h.place ∷ runs_in_words a (h.place + 1) (a-to - (h.place + 1)) =
      runs-cut a a-from h.place a-to h.begun h.ended in
      let low : r.low ≤ x = leb→le r.low x (and_left (leb r.low x) (leb x r.high) t) in
      let high : x ≤ r.high = leb→le x r.high (and_right (leb r.low x) (leb x r.high) t) in
      sym (member-in x (runs_in_words a a-from (a-to - a-from)))
      ∙ ap (λ (rs : List Run). member x rs) cut
      ∙ cut-hit 1 n x (runs_in_words a a-from (h.place - a-from)) (run_at a h.place) (runs_in_words a (h.place + 1) (a-to - (h.place + 1)))
      (subst (λ (rs : List Run). Sound n rs) cut s) (omega (arith, h.not_below, low)) (omega (arith, h.not_above, high))

-- the run of a list that a number lies in
record Hit (b : List ℕ) (from to x : ℕ) : Type 0 where
  at : ℕ
  begun : from ≤ at
  ended : at < to
  hit : T (in_run (run_at b at) x)

hit-at : (b : List ℕ) (x n i : ℕ) → T (in_runs (runs_in_words b i n) x) → Hit b i (i + n) x
unfolding in_runs
hit-at b x zero i t = absurd t
hit-at b x (suc n) i t =
    ⊎_elim
    (λ (h : T (in_run (run_at b i) x)). record { at = i; begun = omega arith; ended = omega arith; hit = h })
    (λ (h : T (in_runs (runs_in_words b (i + 1) n) x)).
    let g : Hit b (i + 1) (i + 1 + n) x = hit-at b x n (i + 1) h in
    record { at = g.at; begun = omega (arith, g.begun); ended = omega (arith, g.ended); hit = g.hit })
    (or_cases (in_run (run_at b i) x) (in_runs (runs_in_words b (i + 1) n) x) t)

or_absorbs : (p q : Bool) → (T q → p ≡ true) → (p || q) ≡ p
or_absorbs true q f = refl
or_absorbs false true f = sym (f tt)
or_absorbs false false f = refl

-- The union with runs that lie inside is the list itself
pub inside-union : (n : ℕ) (a : List ℕ) (a-from a-to : ℕ) (b : List ℕ) (b-from b-to : ℕ) → b-from ≤ b-to → InsideWhere true a a-from a-to b b-from b-to
    → Sound n (runs_in_words a a-from (a-to - a-from))
    → runs_among (in_either (runs_in_words a a-from (a-to - a-from)) (runs_in_words b b-from (b-to - b-from))) n ≡ runs_in_words a a-from (a-to - a-from)
inside-union n a a-from a-to b b-from b-to l w s =
    let xs : List Run = runs_in_words a a-from (a-to - a-from) in
    let ys : List Run = runs_in_words b b-from (b-to - b-from) in
    runs_same (in_either xs ys) (in_runs xs) n
    (λ x p q. or_absorbs (in_runs xs x) (in_runs ys x)
    (λ t. let h : Hit b b-from (b-from + (b-to - b-from)) x = hit-at b x (b-to - b-from) b-from t in
    inside-member a a-from a-to b b-from b-to n s (run_at b h.at) x (w refl h.at h.begun (omega (arith, h.ended))) h.hit))
    ∙ runs-of_runs n xs s
