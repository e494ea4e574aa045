-- The runs that a place adds where it is open, or not.
use Rattle.model.proofs.Prelude.{ℕ, ◌≤◌, ◌<◌, ◌+◌, ◌-◌, ◌*◌, ◌^◌, ◌≡◌, ◌∙◌, ap, refl, sym, subst, ap₂, true, Bool, false, List, [], get_or, eqb, arith}
use Rattle.model.proofs.Prelude.{rules}
use mir.Val.{Fits}
use mir.Syntax.{w64}
use Rattle.model.specs.Runs.{Run}
use Rattle.run_lists.specs.RunLists.{Sound, only_if, add_runs, shift_runs, runs_in_words}
use Rattle.run_lists.specs.Answers.{Adds}
use Rattle.model.proofs.BoolLaws.{cases}
use Rattle.detection.proofs.AddedLaws.{as_adds}
use Rattle.run_shifted.specs.RunsOfPlaces.{runs_in, with_net, NetReady}
use Rattle.std.specs.Prelude.{Option}

only-open : {b : Bool} {s : List Run} → b ≡ true → only_if b s ≡ s
only-open e = rw e

only-shut : {b : Bool} (s : List Run) → b ≡ false → only_if b s ≡ []
only-shut s e = rw e

shift-only : (b : Bool) (o : ℕ) (s : List Run) → shift_runs o (only_if b s) ≡ only_if b (shift_runs o s)
shift-only true o s = refl
shift-only false o s = refl

sound-only : (n : ℕ) (b : Bool) (s : List Run) → Sound n s → Sound n (only_if b s)
sound-only n true s h = h
sound-only n false s h = tt

-- a number times 0 or 1
pub times-most : (n : ℕ) {opened : ℕ} → opened < 2 → n * opened ≤ n
times-most n {opened} l = cases 1 opened
    (λ h. let one : opened ≡ 1 = omega arith in rw one (omega arith))
    (λ h. let none : opened ≡ 0 = omega arith in rw none (omega arith))

module _ {starts ws : List ℕ} {start net from to opened : ℕ} (r : NetReady starts ws start net) (e : from ≡ get_or starts net 0) (d : to ≡ get_or starts (net + 1) 0)
    (l : opened < 2) where
  times : (to - from) * opened ≤ to - from
  times = times-most (to - from) l

  opened-runs : runs_in_words ws from (from + (to - from) * opened - from) ≡ only_if (eqb opened 1) (runs_in starts ws net)
  unfolding runs_in
  opened-runs =
      let whole : runs_in_words ws from (to - from) ≡ runs_in starts ws net = ap₂ (λ (x y : ℕ). runs_in_words ws x (y - x)) e d in
      cases 1 opened
      (λ h.
      let one : opened ≡ 1 = omega arith in
      let n : from + (to - from) * opened - from ≡ to - from = rw one (omega arith) in
      ap (runs_in_words ws from) n ∙ whole ∙ sym (only-open (ap (λ k. eqb k 1) one)))
      (λ h.
      let none : opened ≡ 0 = omega arith in
      let n : from + (to - from) * opened - from ≡ 0 = rw none (omega arith) in
      ap (runs_in_words ws from) n ∙ sym (only-shut (runs_in starts ws net) (ap (λ k. eqb k 1) none)))

  pub net-times : to < 65536 → Fits w64 ((to - from) * opened)
  net-times h = record { fits = omega (arith, times) }

  pub net-end : to < 65536 → Fits w64 (from + (to - from) * opened)
  net-end h = record { fits = omega (arith, times, r.ordered) }

  pub net-begins : from ≤ from + (to - from) * opened
  net-begins = omega arith

  pub net-ends : from + (to - from) * opened ≤ start
  net-ends = omega (arith, times, r.ordered, r.before)

  pub net-sound : Sound (2 ^ 62) (runs_in_words ws from (from + (to - from) * opened - from))
  net-sound = subst (λ (s : List Run). Sound (2 ^ 62) s) (sym opened-runs) (sound-only (2 ^ 62) (eqb opened 1) (runs_in starts ws net) r.sound)

  pub net-added : (count offset : ℕ) {cap : ℕ} {ws' : List ℕ} {q : (Option ℕ)}
      → Adds ws ws' start cap (add_runs (runs_in_words ws start count) (shift_runs offset (runs_in_words ws from (from + (to - from) * opened - from)))) q
      → Adds ws ws' start cap (with_net starts ws start count (eqb opened 1) offset net) q
  unfolding with_net
  net-added count offset a =
      as_adds (ap (add_runs (runs_in_words ws start count)) (ap (shift_runs offset) opened-runs ∙ shift-only (eqb opened 1) offset (runs_in starts ws net))) refl a

pub ruleset net-cases = (net-times, net-end, net-begins, net-ends, net-sound, net-added, rules)
