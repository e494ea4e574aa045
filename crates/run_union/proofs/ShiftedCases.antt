-- Cases of `fit_after`, `append_rest` and `append_shifted`: runs that begin apart from a list join neither it nor each other.
use Rattle.model.proofs.Prelude.{ℕ, ◌≤◌, ◌<◌, ◌+◌, ◌-◌, ◌*◌, suc, ◌^◌, zero, ◌≡◌, ◌∙◌, ap, refl, sym, subst, ap₂, Bool, false, not, List, [], ◌∷◌}
use Rattle.model.proofs.Prelude.{◌++◌, append_assoc, append-nil, length, get_or, take, length-append, length-take-le, take_all, ltb, arith, not-false}
use Rattle.model.proofs.Prelude.{ltb-true}
use mathlib.Core.Bool.{false≢true}
use Rattle.model.specs.Runs.{Run, Separated}
use Rattle.run_lists.specs.RunLists.{RunWithin, Sound, add_run, add_runs, shift_run, shift_runs, run_at, runs_in_words, write_runs_of}
use Rattle.run_lists.specs.Answers.{Room, answer, Adds}
use Rattle.run_lists.proofs.RunWordLaws.{length_runs, runs-snoc, runs-next, sound-at}
use Rattle.model.proofs.BoolLaws.{cases}
use Rattle.model.proofs.RunLaws.{separated_weaken}
use Rattle.run_union.specs.Unions.{with_shifted, FitsWhere}
use Rattle.run_union.proofs.AddRunLaws.{joined-two, add_runs-length}
use Rattle.run_union.proofs.ShiftLaws.{shift_runs-sound, length_shift}
use Rattle.run_union.proofs.RunWriteLaws.{write_runs-self, write_runs-write_runs, write_append}
use Rattle.run_union.proofs.Adding.{Adding, answer-fits, adding-start, adding-length, adding-runs, adding-done, as_rest, part-full, part-more}
use Rattle.std.specs.Prelude.{Option, Some, None}

-- the last run, where there is one, ends at `h` or below
EndsBy : List Run → ℕ → Type 0
EndsBy [] h = Unit {0}
EndsBy (c ∷ []) h = c.high ≤ h
EndsBy (c ∷ d ∷ s) h = EndsBy (d ∷ s) h

ends_snoc : (s : List Run) (r : Run) → EndsBy (s ++ r ∷ []) r.high
unfolding EndsBy
ends_snoc [] r = omega arith
ends_snoc (c ∷ []) r = omega arith
ends_snoc (c ∷ d ∷ s) r = ends_snoc (d ∷ s) r

runs-end : (ws : List ℕ) (i k : ℕ) → EndsBy (runs_in_words ws i k) (get_or ws (2 * (i + k) - 1) 0)
unfolding EndsBy
runs-end ws i zero = tt
runs-end ws i (suc k) =
    let e : 2 * (i + k) + 1 ≡ 2 * (i + suc k) - 1 = omega arith in
    subst (λ (s : List Run). EndsBy s (get_or ws (2 * (i + suc k) - 1) 0)) (sym (runs-snoc ws i k))
    (subst (λ (h : ℕ). EndsBy (runs_in_words ws i k ++ run_at ws (i + k) ∷ []) (get_or ws h 0)) e (ends_snoc (runs_in_words ws i k) (run_at ws (i + k))))

add_apart : (s : List Run) (r : Run) (h : ℕ) → EndsBy s h → h + 1 < r.low → add_run s r ≡ s ++ r ∷ []
unfolding EndsBy
add_apart [] r h e l = refl
add_apart (c ∷ []) r h e l = joined-two c r (omega (arith, e))
add_apart (c ∷ d ∷ s) r h e l = ap {B = List Run} (λ t. c ∷ t) (add_apart (d ∷ s) r h e l)

adds-apart : (n h : ℕ) (s rs : List Run) → EndsBy s h → Separated n (h + 2) rs → add_runs s rs ≡ s ++ rs
adds-apart n h s [] e a = sym (append-nil s)
adds-apart n h s (r ∷ rs) e a =
    ap (λ (t : List Run). add_runs t rs) (add_apart s r h e (omega (arith, a.0)))
    ∙ adds-apart n r.high (s ++ r ∷ []) rs (ends_snoc s r) a.3
    ∙ append_assoc s (r ∷ []) rs

-- separated runs are so from the first one's low on
from_first : (n b : ℕ) (rs : List Run) (r : Run) (t : List Run) → rs ≡ r ∷ t → Separated n b rs → Separated n r.low rs
from_first n b rs r t e a = subst (λ (x : List Run). Separated n r.low x) (sym e) (tight (subst (λ (x : List Run). Separated n b x) e a))
  where
    tight : Separated n b (r ∷ t) → Separated n r.low (r ∷ t)
    tight q = (omega arith, q.1, q.2, q.3)

-- ---- fit_after

pub fits-no : (ws : List ℕ) (from to start n cap offset : ℕ) → FitsWhere false ws from to start n cap offset
fits-no ws from to start n cap offset e = absurd (false≢true e)

pub fits-yes : (ws : List ℕ) (from to start n cap offset : ℕ) → Room ws start n cap → RunWithin (2 ^ 62) (run_at ws from) → to - from ≤ cap - n
    → FitsWhere (ltb (get_or ws (2 * (start + n) - 1) 0) (get_or ws (2 * from) 0 + offset - 1)) ws from to start n cap offset
fits-yes ws from to start n cap offset room w h e =
    let l = ltb-true (get_or ws (2 * (start + n) - 1) 0) (get_or ws (2 * from) 0 + offset - 1) e in
    (omega (arith, room.fits), omega (arith, w.least, l))

-- ---- append_rest

pub nothing-more : {ws : List ℕ} {from to start count cap : ℕ} (offset : ℕ) → to ≤ from → Room ws start count cap
    → Adds ws ws start cap (with_shifted ws from to start count offset) (Some count)
nothing-more {ws} {from} {to} {start} {count} {cap} offset h room =
    let z : to - from ≡ 0 = omega arith in
    subst (λ (k : ℕ). Adds ws ws start cap (add_runs (runs_in_words ws start count) (shift_runs offset (runs_in_words ws from k))) (Some count)) (sym z)
    (adding-done ws ws start cap count (runs_in_words ws start count) (adding-start ws start cap count [] room.fits))

pub first_run : (ws : List ℕ) (from to : ℕ) → Sound (2 ^ 62) (runs_in_words ws from (to - from)) → from < to → RunWithin (2 ^ 62) (run_at ws from)
first_run ws from to sound lt = sound-at (2 ^ 62) ws from to from sound (omega arith) lt

module _ {ws : List ℕ} {start count cap : ℕ} (from to offset : ℕ) (room : Room ws start count cap)
    (r : Bool) (fits : FitsWhere r ws from to start count cap offset) (yes : not r ≡ false) where
  pub placed-room : 2 * (start + count + (to - from)) ≤ length ws
  placed-room = omega (arith, (fits (not-false r yes)).0, room.inside)

  -- the runs of the list, those added, and the word of the list's last high
  abbrev list : List Run
  list = runs_in_words ws start count

  abbrev more : List Run
  more = shift_runs offset (runs_in_words ws from (to - from))

  abbrev last : ℕ
  last = get_or ws (2 * (start + count) - 1) 0

  module _ (lt : from < to) (sound : Sound (2 ^ 62) (runs_in_words ws from (to - from))) where
    more-apart : Separated (2 ^ 62 + offset) (last + 2) more
    more-apart =
        shift_runs-sound (get_or ws (2 * from) 0) (last + 2) (2 ^ 62) offset (runs_in_words ws from (to - from)) (omega (arith, (fits (not-false r yes)).1))
        (from_first (2 ^ 62) 1 (runs_in_words ws from (to - from)) (run_at ws from) (runs_in_words ws (from + 1) (to - (from + 1))) (runs-next ws from to lt) sound)

    together : add_runs list more ≡ list ++ more
    together = adds-apart (2 ^ 62 + offset) last list more (runs-end ws start count) more-apart

    -- all of them placed after the list
    pub placed : (ws' : List ℕ) → ws' ≡ write_runs_of ws (start + count) more → Adds ws ws' start cap (with_shifted ws from to start count offset) (Some (count + (to - from)))
    placed ws' e =
        let few = (fits (not-false r yes)).0 in
        let l : length (list ++ more) ≡ count + (to - from) =
        length-append list more
        ∙ ap₂ ◌+◌ (length_runs ws start count) (length_shift offset (runs_in_words ws from (to - from)) ∙ length_runs ws from (to - from)) in
        let all : take cap (list ++ more) ≡ list ++ more = take_all cap (list ++ more) (omega (arith, l, few)) in
        record {
          answers = sym (ap (answer cap) together ∙ answer-fits cap (list ++ more) (count + (to - from)) l few);
          writes =
              e
              ∙ ap (λ (x : List ℕ). write_runs_of x (start + count) more) (sym (write_runs-self ws start count))
              ∙ write_append ws start (start + count) list more (rw (length_runs ws start count) refl)
              ∙ ap (λ (s : List Run). write_runs_of ws start s) (sym all ∙ ap (take cap) (sym together));
        }

-- ---- append_shifted: the first run, then the rest

enough : (k : ℕ) (l : List Run) (n : ℕ) → n ≤ k → n ≤ length l → n ≤ length (take k l)
enough k l n h g = cases k (length l) (λ q. omega (arith, length-take-le k l q)) (λ q. omega (arith, ap (length {A = Run}) (take_all k l (omega arith))))

module _ {ws : List ℕ} {from to start count cap : ℕ} (offset : ℕ) (lt : from < to) (below : to ≤ start) (room : Room ws start count cap)
    (sound : Sound (2 ^ 62) (runs_in_words ws from (to - from))) where
  abbrev total : List Run
  total = with_shifted ws from to start count offset

  abbrev first : List Run
  first = shift_run offset (run_at ws from) ∷ []

  abbrev rest : List Run
  rest = shift_runs offset (runs_in_words ws (from + 1) (to - (from + 1)))

  split : Adding ws ws start cap count (first ++ rest) total
  split = as_rest (ap (shift_runs offset) (runs-next ws from to lt)) (adding-start ws start cap count (shift_runs offset (runs_in_words ws from (to - from))) room.fits)

  module _ {ws₁ : List ℕ} {q : (Option ℕ)} (adds : Adds ws ws₁ start cap (add_run (runs_in_words ws start count) (shift_run offset (run_at ws from))) q) where
    pub first-full : q ≡ None → Adds ws ws₁ start cap (with_shifted ws from to start count offset) None
    first-full e = part-full ws ws start cap count total ws₁ first rest split q e adds

    module _ {n : ℕ} (e : q ≡ Some n) where
      then-rest : Adding ws ws₁ start cap n rest total
      then-rest = part-more ws ws start cap count total ws₁ first rest split q n e room.inside adds

      pub rest-room : Room ws₁ start n cap
      rest-room = record { fits = then-rest.fits; inside = omega (arith, adding-length ws ws₁ start cap n total rest then-rest, room.inside) }

      rest-runs : runs_in_words ws₁ (from + 1) (to - (from + 1)) ≡ runs_in_words ws (from + 1) (to - (from + 1))
      rest-runs = adding-runs ws ws₁ start cap n rest total (from + 1) (to - (from + 1)) then-rest (omega arith)

      pub rest-sound : Sound (2 ^ 62) (runs_in_words ws₁ (from + 1) (to - (from + 1)))
      rest-sound =
          subst (λ (s : List Run). Sound (2 ^ 62) s) (sym rest-runs)
          (separated_weaken (2 ^ 62) ((run_at ws from).high + 2) 1 (runs_in_words ws (from + 1) (to - (from + 1))) (omega arith)
          (subst (λ (s : List Run). Separated (2 ^ 62) 1 s) (runs-next ws from to lt) sound).3)

      pub all-added : {ws₂ : List ℕ} {r : (Option ℕ)} → Adds ws₁ ws₂ start cap (with_shifted ws₁ (from + 1) to start n offset) r
          → Adds ws ws₂ start cap (with_shifted ws from to start count offset) r
      all-added {ws₂} {r} d =
          let list : List Run = runs_in_words ws₁ start n in
          let grown : List Run = add_runs list rest in
          let d₁ : Adds ws₁ ws₂ start cap grown r = subst (λ (s : List Run). Adds ws₁ ws₂ start cap (add_runs list (shift_runs offset s)) r) rest-runs d in
          let long : length list ≤ length (take cap grown) =
          enough cap grown (length list) (omega (arith, length_runs ws₁ start n, then-rest.fits)) (add_runs-length list rest) in
          subst (λ (s : List Run). Adds ws ws₂ start cap s r) then-rest.left
          (record {
            answers = d₁.answers;
            writes =
                d₁.writes
                ∙ ap (λ (l : List ℕ). write_runs_of l start (take cap grown)) then-rest.kept
                ∙ write_runs-write_runs ws start list (take cap grown) long;
          })
