-- Runs added to a part of a list, where those before the part end too low to join them and those after it begin too high: the list with the
-- union in place of the part is the union with the whole list.
use Rattle.model.proofs.Prelude.{ℕ, ◌≤◌, ◌<◌, ◌+◌, ◌-◌, ◌*◌, suc, zero, ◌≡◌, ◌∙◌, ap, refl, sym, subst, ap₂, true, Bool, false, ◌||◌, or_comm, List}
use Rattle.model.proofs.Prelude.{[], ◌∷◌, ◌++◌, append-nil, get_or, le_refl, arith}
use Rattle.model.specs.Runs.{Run, runs_among, Separated}
use Rattle.model.proofs.RunLaws.{separated_weaken}
use Rattle.run_lists.specs.RunLists.{Sound, add_runs, in_either, run_at, runs_in_words}
use Rattle.run_lists.proofs.MemberLaws.{member, member-in, runs_of-unique}
use Rattle.run_lists.proofs.RunCutLaws.{member-append, low-ge, sound-left}
use Rattle.run_lists.proofs.RunWordLaws.{runs-snoc, runs-next, sound-at}
use Rattle.run_union.specs.Unions.{least_after, BeginsOver}
use Rattle.run_union.proofs.AddRunLaws.{sound-asc, add_runs-sound, add_runs-member}
use Rattle.run_union.proofs.UnionLaws.{interleave, interleave-asc, interleave-member, add_runs-union}

-- ---- a list and the least number of a run after it

sound-after : (b n : ℕ) (s t : List Run) → Separated n b (s ++ t) → Separated n (least_after b s) t
sound-after b n [] t u = u
sound-after b n (r ∷ s) t u = sound-after (r.high + 2) n s t u.3

sound-append : (b n : ℕ) (s t : List Run) → Separated n b (s ++ t) → (t' : List Run) → Separated n (least_after b s) t' → Separated n b (s ++ t')
sound-append b n [] t u t' v = v
sound-append b n (r ∷ s) t u t' v = (u.0, u.1, u.2, sound-append (r.high + 2) n s t u.3 t' v)

-- ---- lists that end below a number

-- runs before one that begins at `t` + 2 or over end at `t` or below
ends-before : (b n t : ℕ) (s : List Run) (r : Run) (rs : List Run) → Separated n b (s ++ r ∷ rs) → t + 2 ≡ r.low → Separated t b s
ends-before b n t [] r rs u e = tt
ends-before b n t (c ∷ s) r rs u e =
    let l = low-ge (c.high + 2) n s r rs u.3 in
    (u.0, u.1, omega arith, ends-before (c.high + 2) n t s r rs u.3 e)

-- runs whose last one ends at `t` or below all do
ends_with : (b n t : ℕ) (s : List Run) (r : Run) → Separated n b (s ++ r ∷ []) → r.high ≤ t → Separated t b (s ++ r ∷ [])
ends_with b n t [] r u h = (u.0, u.1, h, tt)
ends_with b n t (c ∷ s) r u h =
    let v = ends_with (c.high + 2) n t s r u.3 h in
    let l = low-ge (c.high + 2) n s r [] u.3 in
    let o = sound-after (c.high + 2) n s (r ∷ []) u.3 in
    (u.0, u.1, omega (arith, o.1), v)

-- such runs, then one that begins at `t` + 2
sound-then : (b n t : ℕ) (s : List Run) (r : Run) (rs : List Run) → Separated t b s → t + 2 ≡ r.low → b ≤ r.low → Separated n 1 (r ∷ rs) → Separated n b (s ++ r ∷ rs)
sound-then b n t [] r rs u e h v = (h, v.1, v.2, v.3)
sound-then b n t (c ∷ s) r rs u e h v = (u.0, u.1, omega arith, sound-then (c.high + 2) n t s r rs u.3 e (omega arith) v)

-- ---- the union in the middle

or_middle : (a b c d : Bool) → a || ((b || d) || c) ≡ (a || (b || c)) || d
or_middle true b c d = refl
or_middle false true c d = refl
or_middle false false c d = or_comm d c

module _ (n : ℕ) (a m c d : List Run) where
  united : List Run
  united = add_runs [] (interleave m d)

  united-sound : (b t : ℕ) → Separated t b m → Separated t b d → Separated t b united
  unfolding united
  united-sound b t u v =
      add_runs-sound b b t [] (interleave m d) tt tt (le_refl b) (interleave-asc b t m d (sound-asc b b t m (le_refl b) u) (sound-asc b b t d (le_refl b) v))

  united-member : (b : ℕ) → Separated n b m → Separated n b d → (x : ℕ) → member x united ≡ member x m || member x d
  unfolding united
  united-member b u v x =
      add_runs-member x b n [] (interleave m d) tt (interleave-asc b n m d (sound-asc b b n m (le_refl b) u) (sound-asc b b n d (le_refl b) v))
      ∙ interleave-member x m d

  whole-member : (x : ℕ) → member x united ≡ member x m || member x d → member x (a ++ (united ++ c)) ≡ in_either (a ++ (m ++ c)) d x
  whole-member x made =
      member-append x a (united ++ c)
      ∙ ap (λ (p : Bool). member x a || p) (member-append x united c ∙ ap (λ (p : Bool). p || member x c) made)
      ∙ or_middle (member x a) (member x m) (member x c) (member x d)
      ∙ ap (λ (p : Bool). p || member x d) (sym (member-append x a (m ++ c) ∙ ap (λ (p : Bool). member x a || p) (member-append x m c)))
      ∙ ap₂ (λ (p q : Bool). p || q) (member-in x (a ++ (m ++ c))) (member-in x d)

-- the runs that are added lie over those before the part, and each number from `high` on bounds them
abbrev pub Between : ℕ → ℕ → List Run → Type 0
Between b high d = (t : ℕ) → high ≤ t → Separated t b d

middle-sound : (b n high : ℕ) (m c d : List Run) → Separated n b (m ++ c) → Between b high d → high ≤ n → BeginsOver high c → Separated n b (united n [] m c d ++ c)
middle-sound b n high m [] d u v h o =
    subst (λ (s : List Run). Separated n b s) (sym (append-nil (united n [] m [] d))) (united-sound n [] m [] d b n (sound-left b n m [] u) (v n h))
middle-sound b n high m (r ∷ rs) d u v h o =
    let top : r.low - 2 + 2 ≡ r.low = omega arith in
    let whole = sound-after b n m (r ∷ rs) u in
    sound-then b n (r.low - 2) (united n [] m (r ∷ rs) d) r rs
    (united-sound n [] m (r ∷ rs) d b (r.low - 2) (ends-before b n (r.low - 2) m r rs u top) (v (r.low - 2) (omega arith)))
    top (low-ge b n m r rs u) (omega arith, whole.1, whole.2, whole.3)

least-over : (b : ℕ) (s : List Run) → 1 ≤ b → 1 ≤ least_after b s
least-over b [] h = h
least-over b (r ∷ s) h = least-over (r.high + 2) s (omega arith)

-- the part of a list is one
pub sound-middle : (n : ℕ) (a m c : List Run) → Sound n (a ++ (m ++ c)) → Sound n m
sound-middle n a m c u =
    separated_weaken n (least_after 1 a) 1 m (least-over 1 a (le_refl 1)) (sound-left (least_after 1 a) n m c (sound-after 1 n a (m ++ c) u))

pub middle-union : (n high : ℕ) (a m c d : List Run) → Sound n (a ++ (m ++ c)) → Sound n d → Between (least_after 1 a) high d → high ≤ n → BeginsOver high c
    → a ++ (runs_among (in_either m d) n ++ c) ≡ runs_among (in_either (a ++ (m ++ c)) d) n
unfolding united
middle-union n high a m c d u v w h o =
    let made : united n a m c d ≡ runs_among (in_either m d) n = add_runs-union n m d (sound-middle n a m c u) v in
    ap (λ (s : List Run). a ++ (s ++ c)) (sym made)
    ∙ runs_of-unique (in_either (a ++ (m ++ c)) d) n (a ++ (united n a m c d ++ c))
    (sound-append 1 n a (m ++ c) u (united n a m c d ++ c) (middle-sound (least_after 1 a) n high m c d (sound-after 1 n a (m ++ c) u) w h o))
    (λ x p q. whole-member n a m c d x (united-member n a m c d 1 (sound-middle n a m c u) v x))

-- ---- the same of runs in words

-- runs in words end with the last
pub last-high : (n : ℕ) (ws : List ℕ) (i k : ℕ) → 1 ≤ k → Sound n (runs_in_words ws i k) → get_or ws (2 * (i + k) - 1) 0 ≤ n
last-high n ws i k p u =
    let e : k ≡ i + k - i = omega arith in
    let w : 2 * (i + k - 1) + 1 ≡ 2 * (i + k) - 1 = omega arith in
    let last = sound-at n ws i (i + k) (i + k - 1) (subst (λ (m : ℕ). Sound n (runs_in_words ws i m)) e u) (omega arith) (omega arith) in
    subst (λ (j : ℕ). get_or ws j 0 ≤ n) w last.most

-- and lie over what the first one does
pub words-between : (n b : ℕ) (ws : List ℕ) (i k : ℕ) → 1 ≤ k → Sound n (runs_in_words ws i k) → b ≤ get_or ws (2 * i) 0 → Between b (get_or ws (2 * (i + k) - 1) 0) (runs_in_words ws i k)
words-between n b ws i zero p u h t l = absurd (omega arith)
words-between n b ws i (suc k) p u h t l =
    let w : 2 * (i + suc k) - 1 ≡ 2 * (i + k) + 1 = omega arith in
    let cut : runs_in_words ws i (suc k) ≡ runs_in_words ws i k ++ run_at ws (i + k) ∷ [] = runs-snoc ws i k in
    let over : Separated n b (runs_in_words ws i (suc k)) = (h, u.1, u.2, u.3) in
    subst (λ (s : List Run). Separated t b s) (sym cut)
    (ends_with b n t (runs_in_words ws i k) (run_at ws (i + k)) (subst (λ (s : List Run). Separated n b s) cut over) (subst (λ (j : ℕ). get_or ws j 0 ≤ t) w l))

least-snoc : (b : ℕ) (s : List Run) (r : Run) → least_after b (s ++ r ∷ []) ≡ r.high + 2
least-snoc b [] r = refl
least-snoc b (c ∷ s) r = least-snoc (c.high + 2) s r

-- what is asked of the run before a place, and of the run at one
pub joined_at : (ws : List ℕ) (k low : ℕ) → (k ≡ 0 → ⊥) → get_or ws (2 * k - 1) 0 < low - 1 → least_after 1 (runs_in_words ws 0 k) ≤ low
joined_at ws k low p h =
    let e : k ≡ suc (k - 1) = omega arith in
    let w : 2 * (0 + (k - 1)) + 1 ≡ 2 * k - 1 = omega arith in
    let last : least_after 1 (runs_in_words ws 0 k) ≡ get_or ws (2 * k - 1) 0 + 2 =
    ap (λ (m : ℕ). least_after 1 (runs_in_words ws 0 m)) e
    ∙ ap (least_after 1) (runs-snoc ws 0 (k - 1))
    ∙ least-snoc 1 (runs_in_words ws 0 (k - 1)) (run_at ws (0 + (k - 1)))
    ∙ ap (λ (m : ℕ). get_or ws m 0 + 2) w in
    omega (arith, last)

pub apart-at : (ws : List ℕ) (i to high : ℕ) → i < to → high + 1 < get_or ws (2 * i) 0 → BeginsOver high (runs_in_words ws i (to - i))
apart-at ws i to high l h = subst (BeginsOver high) (sym (runs-next ws i to l)) h

pub apart-end : (ws : List ℕ) (i to high : ℕ) → to ≤ i → BeginsOver high (runs_in_words ws i (to - i))
apart-end ws i to high l = let z : to - i ≡ 0 = omega arith in subst (λ (n : ℕ). BeginsOver high (runs_in_words ws i n)) (sym z) tt
