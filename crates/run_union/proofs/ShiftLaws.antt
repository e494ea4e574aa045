-- A list of runs shifted, and the runs of a set part by part: each part is shifted behind the parts before it.
use Rattle.model.proofs.Prelude.{ℕ, ◌≤◌, ◌+◌, ◌-◌, suc, ◌≡◌, ◌∙◌, ap, refl, sym, true, Bool, false, ◌&&◌, ◌||◌, or-false, cond, List, [], ◌∷◌, ◌++◌}
use Rattle.model.proofs.Prelude.{length, leb, le_refl, arith, le-leb, lt-leb}
use Rattle.model.specs.Runs.{Run, runs_among, Separated}
use Rattle.model.proofs.RunLaws.{runs_same, runs-separated}
use Rattle.run_lists.specs.RunLists.{Sound, only_if, add_runs, shift_run, shift_runs}
use Rattle.run_lists.proofs.MemberLaws.{inside, member, inside-in, inside-lt, inside-gt, below, above, sound-mono, runs_of-member, runs_of-unique}
use Rattle.model.proofs.BoolLaws.{cases}
use Rattle.run_union.proofs.AddRunLaws.{LowsLe, lows-mono, Asc, sound-asc, add_runs-sound, add_runs-member}

pub shift_runs-sound : (b c n o : ℕ) (rs : List Run) → c ≤ b + o → Separated n b rs → Separated (n + o) c (shift_runs o rs)
shift_runs-sound b c n o [] h u = tt
shift_runs-sound b c n o (r ∷ rs) h u = (omega arith, omega arith, omega arith, shift_runs-sound (r.high + 2) (r.high + o + 2) n o rs (omega arith) u.3)

shift_run-inside : (x o : ℕ) (r : Run) → inside (x + o) (shift_run o r) ≡ inside x r
shift_run-inside x o r = cases r.low x
    (λ p. cases x r.high
    (λ q. rw (inside-in x r p q, inside-in (x + o) (shift_run o r) (omega arith) (omega arith)))
    (λ q. rw (inside-gt x r q, inside-gt (x + o) (shift_run o r) (omega arith))))
    (λ p. rw (inside-lt x r p, inside-lt (x + o) (shift_run o r) (omega arith)))

pub shift_runs-member : (x o : ℕ) (rs : List Run) → member (x + o) (shift_runs o rs) ≡ member x rs
shift_runs-member x o [] = refl
shift_runs-member x o (r ∷ rs) = rw (shift_run-inside x o r, shift_runs-member x o rs)

pub shift-append : (o : ℕ) (s t : List Run) → shift_runs o (s ++ t) ≡ shift_runs o s ++ shift_runs o t
shift-append o [] t = refl
shift-append o (r ∷ s) t = ap {B = List Run} (λ x. shift_run o r ∷ x) (shift-append o s t)

pub length_shift : (o : ℕ) (rs : List Run) → length (shift_runs o rs) ≡ length rs
length_shift o [] = refl
length_shift o (r ∷ rs) = ap suc (length_shift o rs)

-- ---- a list after another

-- a set on 1 to `o`, and after it another one, whose number 1 is then o + 1
abbrev pub followed_by : ℕ → (ℕ → Bool) → (ℕ → Bool) → ℕ → Bool
followed_by o P Q x = cond (leb x o) (P x) (Q (x - o))

pub sound-lows : (b n : ℕ) (rs : List Run) → Separated n b rs → LowsLe n rs
sound-lows b n [] u = tt
sound-lows b n (r ∷ rs) u = (omega arith, sound-lows (r.high + 2) n rs u.3)

-- the runs of a set on 1 to o with the runs of another set on 1 to c added after them, shifted by o
pub add_runs-followed_by : (o c : ℕ) (rs ss : List Run) → Sound o rs → Sound c ss
    → add_runs rs (shift_runs o ss) ≡ runs_among (followed_by o (λ x. member x rs) (λ x. member x ss)) (c + o)
add_runs-followed_by o c rs ss u v = runs_of-unique (followed_by o (λ x. member x rs) (λ x. member x ss)) (c + o) (add_runs rs (shift_runs o ss))
    (add_runs-sound 1 (o + 1) (c + o) rs (shift_runs o ss) (sound-mono 1 o (c + o) rs (omega arith) u) l (omega arith) asc)
    (λ x h k. add_runs-member x (o + 1) (c + o) rs (shift_runs o ss) l asc ∙ same x h k)
  where
    w : Separated (c + o) (o + 1) (shift_runs o ss)
    w = shift_runs-sound 1 (o + 1) c o ss (omega arith) v

    asc : Asc (o + 1) (c + o) (shift_runs o ss)
    asc = sound-asc (o + 1) (o + 1) (c + o) (shift_runs o ss) (le_refl (o + 1)) w

    l : LowsLe (o + 1) rs
    l = lows-mono o (o + 1) rs (omega arith) (sound-lows 1 o rs u)

    same : (x : ℕ) → 1 ≤ x → x ≤ c + o → member x rs || member x (shift_runs o ss) ≡ followed_by o (λ x. member x rs) (λ x. member x ss) x
    same x h k = cases x o
        (λ p. rw (le-leb x o p, below (o + 1) (c + o) x (shift_runs o ss) w (omega arith)) (or-false (member x rs)))
        (λ p.
        let e : x ≡ (x - o) + o = omega arith in
        let m : member x (shift_runs o ss) ≡ member (x - o) ss = ap (λ (y : ℕ). member y (shift_runs o ss)) e ∙ shift_runs-member (x - o) o ss in
        rw (lt-leb x o p, above 1 o x rs u p) m)

-- one more part of c numbers, or nothing where it is not open
pub add_runs-part : (P Q : ℕ → Bool) (o c : ℕ) (b : Bool) → ((r : ℕ) → 1 ≤ r → r ≤ c → P (r + o) ≡ b && Q r)
    → add_runs (runs_among P o) (only_if b (shift_runs o (runs_among Q c))) ≡ runs_among P (o + c)
add_runs-part P Q o c true e =
    add_runs-followed_by o c (runs_among P o) (runs_among Q c) (runs-separated P o) (runs-separated Q c)
    ∙ runs_same (followed_by o (λ x. member x (runs_among P o)) (λ x. member x (runs_among Q c))) P (c + o)
    (λ x h k. cases x o
    (λ p. rw (le-leb x o p) (runs_of-member P o x h p))
    (λ p.
    let i : (x - o) + o ≡ x = omega arith in
    rw (lt-leb x o p) (runs_of-member Q c (x - o) (omega arith) (omega arith) ∙ sym (e (x - o) (omega arith) (omega arith)) ∙ ap P i)))
    ∙ ap (runs_among P) (omega arith)
add_runs-part P Q o c false e =
    runs_of-unique P (o + c) (runs_among P o) (sound-mono 1 o (o + c) (runs_among P o) (omega arith) (runs-separated P o))
    (λ x h k. cases x o
    (λ p. runs_of-member P o x h p)
    (λ p.
    let i : (x - o) + o ≡ x = omega arith in
    above 1 o x (runs_among P o) (runs-separated P o) p ∙ sym (sym (ap P i) ∙ e (x - o) (omega arith) (omega arith))))
