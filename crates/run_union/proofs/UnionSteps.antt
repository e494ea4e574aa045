-- Steps of `union` and `left_first`: the lists are read by ascending low; what is added so far and what is left make the union.
use Rattle.model.proofs.Prelude.{ℕ, ◌≤◌, ◌<◌, ◌+◌, ◌-◌, ◌*◌, ◌^◌, ◌≡◌, ◌∙◌, ap, refl, sym, subst, subst⁻¹, true, Bool, false, true≢false, List, []}
use Rattle.model.proofs.Prelude.{◌∷◌, length, get_or, leb, arith}
use Rattle.model.specs.Runs.{Run}
use Rattle.run_lists.specs.RunLists.{RunWithin, Sound, add_run, add_runs, run_at, runs_in_words}
use Rattle.run_lists.specs.Answers.{Adds, Room}
use Rattle.run_lists.proofs.RunWordLaws.{runs-next, sound-at}
use Rattle.model.proofs.BoolLaws.{cases}
use Rattle.run_union.specs.Unions.{left_first_of, Unites}
use Rattle.run_union.proofs.UnionLaws.{interleave, interleave-left, interleave-right, add_runs-union}
use Rattle.run_union.proofs.Adding.{Adding, as_rest, adding-start, adding-length, adding-done, adding-run, adding-runs, part-full, part-more}
use Rattle.std.specs.Prelude.{Option, Some, None}

-- what is left to merge at the cursors i and j
abbrev pub rest : List ℕ → ℕ → ℕ → List ℕ → ℕ → ℕ → List Run
rest a i m b j n = interleave (runs_in_words a i (m - i)) (runs_in_words b j (n - j))

module _ (a : List ℕ) (i m : ℕ) (b : List ℕ) (j n : ℕ) where
  abbrev left? : Bool
  left? = left_first_of (runs_in_words a i (m - i)) (runs_in_words b j (n - j))

  pub left_first-none : m ≤ i → false ≡ left?
  left_first-none h = let z : m - i ≡ 0 = omega arith in rw z

  pub left_first-only : i < m → n ≤ j → true ≡ left?
  left_first-only h k = let z : n - j ≡ 0 = omega arith in rw (z, runs-next a i m h)

  pub left_first-both : i < m → j < n → leb (get_or a (2 * i) 0) (get_or b (2 * j) 0) ≡ left?
  left_first-both h k = rw (runs-next a i m h, runs-next b j n k)

  left_lt : left? ≡ true → i < m
  left_lt e = cases m i (λ h. let z : m - i ≡ 0 = omega arith in absurd (true≢false (sym (rw z at e)))) (λ h. h)

  right_lt : left? ≡ false → i ≤ m → i + j < m + n → j < n
  right_lt e h l = cases n j
      (λ k.
      let z : n - j ≡ 0 = omega arith in
      let lt : i < m = omega arith in
      absurd (true≢false (rw (z, runs-next a i m lt) at e)))
      (λ k. k)

  rest-left : left? ≡ true → rest a i m b j n ≡ run_at a i ∷ rest a (i + 1) m b j n
  rest-left e =
      let s : runs_in_words a i (m - i) ≡ run_at a i ∷ runs_in_words a (i + 1) (m - (i + 1)) = runs-next a i m (left_lt e) in
      ap (λ (t : List Run). interleave t (runs_in_words b j (n - j))) s
      ∙ interleave-left (run_at a i) (runs_in_words a (i + 1) (m - (i + 1))) (runs_in_words b j (n - j)) (ap (λ (t : List Run). left_first_of t (runs_in_words b j (n - j))) (sym s) ∙ e)

  rest-right : left? ≡ false → i ≤ m → i + j < m + n → rest a i m b j n ≡ run_at b j ∷ rest a i m b (j + 1) n
  rest-right e h l =
      let s : runs_in_words b j (n - j) ≡ run_at b j ∷ runs_in_words b (j + 1) (n - (j + 1)) = runs-next b j n (right_lt e h l) in
      ap (λ (t : List Run). interleave (runs_in_words a i (m - i)) t) s
      ∙ interleave-right (runs_in_words a i (m - i)) (run_at b j) (runs_in_words b (j + 1) (n - (j + 1))) (ap (λ (t : List Run). left_first_of (runs_in_words a i (m - i)) t) (sym s) ∙ e)

  rest-none : m ≤ i → n ≤ j → rest a i m b j n ≡ []
  rest-none h k =
      let p : m - i ≡ 0 = omega arith in
      let q : n - j ≡ 0 = omega arith in
      rw (p, q)

-- `k` runs stand at `start`, and the runs i..a-to of the one list and j..b-to of the other are left
pub record Merging (a : List ℕ) (a-from a-to : ℕ) (ws₀ : List ℕ) (b-from b-to start cap : ℕ) (ws : List ℕ) (i j k : ℕ) : Type 0 where
  pub room : Room ws₀ start 0 cap
  pub below : b-to ≤ start
  pub a-sound : Sound (2 ^ 62) (runs_in_words a a-from (a-to - a-from))
  pub b-sound : Sound (2 ^ 62) (runs_in_words ws₀ b-from (b-to - b-from))
  pub a-begun : a-from ≤ i
  pub a-within : i ≤ a-to
  pub b-begun : b-from ≤ j
  pub b-within : j ≤ b-to
  pub same_length_of : length ws ≡ length ws₀
  pub adding : Adding ws₀ ws start cap k (rest a i a-to ws₀ j b-to) (add_runs [] (rest a a-from a-to ws₀ b-from b-to))

pub merging_start : (a : List ℕ) (a-from a-to : ℕ) (ws : List ℕ) (b-from b-to start cap : ℕ) → a-from ≤ a-to → b-from ≤ b-to → b-to ≤ start → Room ws start 0 cap
    → Sound (2 ^ 62) (runs_in_words a a-from (a-to - a-from)) → Sound (2 ^ 62) (runs_in_words ws b-from (b-to - b-from))
    → Merging a a-from a-to ws b-from b-to start cap ws a-from b-from 0
merging_start a a-from a-to ws b-from b-to start cap p q h room u v = record {
  room = room;
  below = h;
  a-sound = u;
  b-sound = v;
  a-begun = omega arith;
  a-within = p;
  b-begun = omega arith;
  b-within = q;
  same_length_of = refl;
  adding = adding-start ws start cap 0 (rest a a-from a-to ws b-from b-to) (omega arith);
}

module _ {a : List ℕ} {a-from a-to : ℕ} {ws₀ : List ℕ} {b-from b-to start cap : ℕ} {ws : List ℕ} {i j k : ℕ}
    (now : Merging a a-from a-to ws₀ b-from b-to start cap ws i j k) where
  total : List Run
  total = add_runs [] (rest a a-from a-to ws₀ b-from b-to)

  unites : (ws' : List ℕ) (q : Option ℕ) → Adds ws₀ ws' start cap total q → Unites a a-from a-to ws₀ b-from b-to start cap ws' q
  unfolding total
  unites ws' q d t u v =
      subst (λ (s : List Run). Adds ws₀ ws' start cap s q)
      (add_runs-union t (runs_in_words a a-from (a-to - a-from)) (runs_in_words ws₀ b-from (b-to - b-from)) u v) d

  pub merging_room : Room ws start k cap
  merging_room = record { fits = now.adding.fits; inside = omega (arith, now.same_length_of, now.room.inside) }

  pub merging_end : a-to + b-to ≤ i + j → Unites a a-from a-to ws₀ b-from b-to start cap ws (Some k)
  unfolding total
  merging_end h =
      unites ws (Some k)
      (adding-done ws₀ ws start cap k total
      (as_rest (rest-none a i a-to ws₀ j b-to (omega (arith, now.b-within)) (omega (arith, now.a-within))) now.adding))

  module _ {flag : Bool} (says : flag ≡ left_first_of (runs_in_words a i (a-to - i)) (runs_in_words ws j (b-to - j))) where
    -- the runs before `start` are as they were
    was : flag ≡ left_first_of (runs_in_words a i (a-to - i)) (runs_in_words ws₀ j (b-to - j))
    unfolding total
    was =
        says
        ∙ ap (λ (s : List Run). left_first_of (runs_in_words a i (a-to - i)) s)
        (adding-runs ws₀ ws start cap k (rest a i a-to ws₀ j b-to) total j (b-to - j) now.adding (omega (arith, now.b-within, now.below)))

    module _ (yes : flag ≡ true) where
      pub left_below : i < a-to
      left_below = left_lt a i a-to ws₀ j b-to (sym was ∙ yes)

      pub left-run : RunWithin (2 ^ 62) (run_at a i)
      left-run = sound-at (2 ^ 62) a a-from a-to i now.a-sound now.a-begun left_below

      left-now : Adding ws₀ ws start cap k (run_at a i ∷ rest a (i + 1) a-to ws₀ j b-to) total
      unfolding total
      left-now = as_rest (rest-left a i a-to ws₀ j b-to (sym was ∙ yes)) now.adding

      module _ {ws' : List ℕ} {q : (Option ℕ)} (adds : Adds ws ws' start cap (add_run (runs_in_words ws start k) (run_at a i)) q) where
        pub left-full : q ≡ None → Unites a a-from a-to ws₀ b-from b-to start cap ws' None
        left-full e = unites ws' None (part-full ws₀ ws start cap k total ws' (run_at a i ∷ []) (rest a (i + 1) a-to ws₀ j b-to) left-now q e adds)

        pub left-more : (c : ℕ) → q ≡ Some c → Merging a a-from a-to ws₀ b-from b-to start cap ws' (i + 1) j c
        unfolding total
        left-more c e =
            let more : Adding ws₀ ws' start cap c (rest a (i + 1) a-to ws₀ j b-to) total =
            part-more ws₀ ws start cap k total ws' (run_at a i ∷ []) (rest a (i + 1) a-to ws₀ j b-to) left-now q c e now.room.inside adds in
            record {
              room = now.room;
              below = now.below;
              a-sound = now.a-sound;
              b-sound = now.b-sound;
              a-begun = omega (arith, now.a-begun);
              a-within = omega (arith, left_below);
              b-begun = now.b-begun;
              b-within = now.b-within;
              same_length_of = adding-length ws₀ ws' start cap c total (rest a (i + 1) a-to ws₀ j b-to) more;
              adding = more;
            }

    module _ (no : flag ≡ false) (lt : i + j < a-to + b-to) where
      right-within : j < b-to
      right-within = right_lt a i a-to ws₀ j b-to (sym was ∙ no) now.a-within lt

      pub right-below : j < start
      right-below = omega (arith, right-within, now.below)

      same : run_at ws j ≡ run_at ws₀ j
      unfolding total
      same = adding-run ws₀ ws start cap k (rest a i a-to ws₀ j b-to) total j now.adding right-below

      pub right-run : RunWithin (2 ^ 62) (run_at ws j)
      right-run = subst⁻¹ (RunWithin (2 ^ 62)) same (sound-at (2 ^ 62) ws₀ b-from b-to j now.b-sound now.b-begun right-within)

      right-now : Adding ws₀ ws start cap k (run_at ws j ∷ rest a i a-to ws₀ (j + 1) b-to) total
      unfolding total
      right-now =
          as_rest
          (rest-right a i a-to ws₀ j b-to (sym was ∙ no) now.a-within lt ∙ ap (λ (r : Run). r ∷ rest a i a-to ws₀ (j + 1) b-to) (sym same))
          now.adding

      module _ {ws' : List ℕ} {q : (Option ℕ)} (adds : Adds ws ws' start cap (add_run (runs_in_words ws start k) (run_at ws j)) q) where
        pub right-full : q ≡ None → Unites a a-from a-to ws₀ b-from b-to start cap ws' None
        right-full e = unites ws' None (part-full ws₀ ws start cap k total ws' (run_at ws j ∷ []) (rest a i a-to ws₀ (j + 1) b-to) right-now q e adds)

        pub right-more : (c : ℕ) → q ≡ Some c → Merging a a-from a-to ws₀ b-from b-to start cap ws' i (j + 1) c
        unfolding total
        right-more c e =
            let more : Adding ws₀ ws' start cap c (rest a i a-to ws₀ (j + 1) b-to) total =
            part-more ws₀ ws start cap k total ws' (run_at ws j ∷ []) (rest a i a-to ws₀ (j + 1) b-to) right-now q c e now.room.inside adds in
            record {
              room = now.room;
              below = now.below;
              a-sound = now.a-sound;
              b-sound = now.b-sound;
              a-begun = now.a-begun;
              a-within = now.a-within;
              b-begun = omega (arith, now.b-begun);
              b-within = omega (arith, right-within);
              same_length_of = adding-length ws₀ ws' start cap c total (rest a i a-to ws₀ (j + 1) b-to) more;
              adding = more;
            }
