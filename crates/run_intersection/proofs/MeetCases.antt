-- The cases of the walk along two lists: what is put so far, followed by what the runs that are left have in common, is the whole.
use Rattle.model.proofs.Prelude.{ℕ, ◌≤◌, ◌<◌, ◌+◌, ◌-◌, ◌*◌, suc, min, max, ◌≡◌, ◌∙◌, ap, refl, sym, ap₂, List, [], ◌∷◌, ◌++◌, append_assoc}
use Rattle.model.proofs.Prelude.{append-nil, length, get_or, set, arith, rules}
use Rattle.model.specs.Runs.{Run, run}
use Rattle.run_lists.specs.RunLists.{run_at, runs_in_words, write_runs_of}
use Rattle.run_lists.proofs.RunWordLaws.{runs-next, runs-snoc}
use Rattle.run_union.proofs.RunWriteLaws.{runs-write, runs-write_before}
use Rattle.run_intersection.specs.Meets.{overlap, meets}
use Rattle.run_intersection.proofs.MeetLaws.{overlap-one, overlap-none, meet_first, meet_second}

-- One turn: what two runs have in common is put after the runs that stand there
module _ (ws : List ℕ) (k : ℕ) (x y : Run) where
  pub nothing_put : {low high : ℕ} → low ≡ max x.low y.low → high ≡ min x.high y.high → high < low
      → runs_in_words ws 0 k ≡ runs_in_words ws 0 k ++ overlap x y
  nothing_put p q h = sym (append-nil (runs_in_words ws 0 k)) ∙ ap (λ (s : List Run). runs_in_words ws 0 k ++ s) (sym (overlap-none x y (omega arith)))

  pub one-put : {low high : ℕ} → low ≡ max x.low y.low → high ≡ min x.high y.high → low ≤ high → 2 * k + 1 < length ws
      → runs_in_words (set (set ws (2 * k) low) (2 * k + 1) high) 0 (k + 1) ≡ runs_in_words ws 0 k ++ overlap x y
  one-put {low} {high} p q h room =
      let r : List Run = run low high ∷ [] in
      let n : k + 1 ≡ suc k = omega arith in
      let z : 0 + k ≡ k = omega arith in
      ap (λ (i : ℕ). runs_in_words (write_runs_of ws k r) 0 i) n ∙ runs-snoc (write_runs_of ws k r) 0 k
      ∙ ap₂ (λ (s : List Run) (i : ℕ). s ++ run_at (write_runs_of ws k r) i ∷ []) (runs-write_before ws k 0 k r (omega arith)) z
      ∙ ap (λ (s : List Run). runs_in_words ws 0 k ++ s) (runs-write ws k r (omega arith) ∙ sym (overlap-one x y (omega arith) ∙ same))
    where
      same : (run (max x.low y.low) (min x.high y.high) ∷ []) ≡ (run low high ∷ [])
      same = ap₂ (λ (a b : ℕ). run a b ∷ []) (sym p) (sym q)

pub ruleset put-cases = (nothing_put, one-put, rules)

pub record Meeting (a : List ℕ) (m : ℕ) (b : List ℕ) (n : ℕ) (ws₀ ws : List ℕ) (i j k : ℕ) : Type 0 where
  pub a_fits : 2 * m ≤ length a
  pub b_fits : 2 * n ≤ length b
  pub room : 2 * (m + n) ≤ length ws
  pub same_length_of : length ws ≡ length ws₀
  pub a_within : i ≤ m
  pub b_within : j ≤ n
  pub few : k ≤ i + j
  pub whole : runs_in_words ws 0 k ++ meets (runs_in_words a i (m - i)) (runs_in_words b j (n - j)) ≡ meets (runs_in_words a 0 m) (runs_in_words b 0 n)

module _ {a : List ℕ} {m : ℕ} {b : List ℕ} {n : ℕ} where
  pub meeting_start : (ws : List ℕ) → 2 * m ≤ length a → 2 * n ≤ length b → 2 * (m + n) ≤ length ws → Meeting a m b n ws ws 0 0 0
  meeting_start ws p q r =
      let x : m - 0 ≡ m = omega arith in
      let y : n - 0 ≡ n = omega arith in
      record { a_fits = p; b_fits = q; room = r; same_length_of = refl; a_within = omega arith; b_within = omega arith; few = omega arith; whole = rw (x, y) refl }

  module _ {ws₀ ws : List ℕ} {i j k : ℕ} (now : Meeting a m b n ws₀ ws i j k) where
    done : meets (runs_in_words a i (m - i)) (runs_in_words b j (n - j)) ≡ [] → runs_in_words ws 0 k ≡ meets (runs_in_words a 0 m) (runs_in_words b 0 n)
    done e = sym (append-nil (runs_in_words ws 0 k)) ∙ ap (λ (s : List Run). runs_in_words ws 0 k ++ s) (sym e) ∙ now.whole

    none_left : (xs : List Run) → meets xs [] ≡ []
    none_left [] = refl
    none_left (x ∷ xs) = refl

    pub meeting_end : m ≤ i → runs_in_words ws 0 k ≡ meets (runs_in_words a 0 m) (runs_in_words b 0 n)
    meeting_end h = let z : m - i ≡ 0 = omega arith in done (rw z refl)

    pub meeting_short : n ≤ j → runs_in_words ws 0 k ≡ meets (runs_in_words a 0 m) (runs_in_words b 0 n)
    meeting_short h = let z : n - j ≡ 0 = omega arith in done (rw z (none_left (runs_in_words a i (m - i))))

    pub meeting_few : k ≤ m + n
    meeting_few = omega (arith, now.few, now.a_within, now.b_within)

    module _ (h : i < m) (l : j < n) where
      pub put-room : 2 * k + 1 < length ws
      put-room = omega (arith, now.few, now.room)

      abbrev next-a : List Run
      next-a = runs_in_words a (i + 1) (m - (i + 1))

      abbrev next-b : List Run
      next-b = runs_in_words b (j + 1) (n - (j + 1))

      split : meets (runs_in_words a i (m - i)) (runs_in_words b j (n - j)) ≡ meets (run_at a i ∷ next-a) (run_at b j ∷ next-b)
      split = ap₂ meets (runs-next a i m h) (runs-next b j n l)

      module _ {ws' : List ℕ} {k' : ℕ} (long : length ws' ≡ length ws) (fit : k' ≤ k + 1)
          (put : runs_in_words ws' 0 k' ≡ runs_in_words ws 0 k ++ overlap (run_at a i) (run_at b j)) where
        go_on : (i' j' : ℕ) → i' ≤ m → j' ≤ n → i' + j' ≡ i + j + 1
            → meets (runs_in_words a i (m - i)) (runs_in_words b j (n - j)) ≡ overlap (run_at a i) (run_at b j) ++ meets (runs_in_words a i' (m - i')) (runs_in_words b j' (n - j'))
            → Meeting a m b n ws₀ ws' i' j' k'
        go_on i' j' p q s e = record {
          a_fits = now.a_fits;
          b_fits = now.b_fits;
          room = omega (arith, now.room, long);
          same_length_of = long ∙ now.same_length_of;
          a_within = p;
          b_within = q;
          few = omega (arith, now.few);
          whole =
              let rest : List Run = meets (runs_in_words a i' (m - i')) (runs_in_words b j' (n - j')) in
              ap (λ (x : List Run). x ++ rest) put ∙ append_assoc (runs_in_words ws 0 k) (overlap (run_at a i) (run_at b j)) rest
              ∙ ap (λ (x : List Run). runs_in_words ws 0 k ++ x) (sym e) ∙ now.whole;
        }

        pub pass_first : get_or a (2 * i + 1) 0 < get_or b (2 * j + 1) 0 → Meeting a m b n ws₀ ws' (i + 1) j k'
        pass_first g =
            go_on (i + 1) j (omega arith) (omega arith) (omega arith)
            (split ∙ meet_first (run_at a i) (run_at b j) (λ zs. meets next-a zs) next-b g
            ∙ ap (λ (s : List Run). overlap (run_at a i) (run_at b j) ++ meets next-a s) (sym (runs-next b j n l)))

        pub pass_second : get_or b (2 * j + 1) 0 ≤ get_or a (2 * i + 1) 0 → Meeting a m b n ws₀ ws' i (j + 1) k'
        pass_second g =
            go_on i (j + 1) (omega arith) (omega arith) (omega arith)
            (split ∙ meet_second (run_at a i) (run_at b j) (λ zs. meets next-a zs) next-b g
            ∙ ap (λ (s : List Run). overlap (run_at a i) (run_at b j) ++ meets s next-b) (sym (runs-next a i m h)))

pub ruleset meet-cases = (meeting_start, meeting_end, meeting_short, meeting_few, put-room, pass_first, pass_second, rules)
