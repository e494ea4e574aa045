-- What lies in held runs: the numbers of runs that are added, shifted or joined lie there where those of the runs do.
use Rattle.model.proofs.Prelude.{ℕ, ◌≤◌, ◌<◌, ◌+◌, ◌-◌, suc, zero, ◌/◌, max, ◌≡◌, ◌∙◌, ap, refl, sym, subst⁻¹, ⊎_elim, true, Bool, false, List, []}
use Rattle.model.proofs.Prelude.{◌∷◌, ◌++◌, length, leb, T, leb→le, arith}
use Rattle.model.specs.Base.{bit}
use Rattle.model.specs.Runs.{Run, in_run, in_runs, run}
use Rattle.model.proofs.BoolLaws.{and_left, and_right, both, cases, or_cases, or_left, or_right, true→T, le-true}
use Rattle.run_lists.specs.RunLists.{Sound, only_if, add_run, add_runs, shift_run, shift_runs, run_at, runs_in_words}
use Rattle.run_lists.specs.Answers.{RunInside}
use Rattle.run_lists.proofs.InsideSteps.{inside-member}
use Rattle.run_union.proofs.AddRunLaws.{joined-one, joined-two}
use Rattle.block_intervals.specs.Spans.{first_of, end_of}
use Rattle.block_intervals.specs.PinSpans.{bit_runs}
use Rattle.block_intervals.specs.LiveOutputs.{out_shift, runs_of_output, runs_of_outputs, OutputsReady}
use Rattle.block_intervals.specs.Sections.{OutputsHeld}
use Rattle.block_activity.specs.Layout.{out_at}

-- each number of some runs has a property
pub record AllIn (P : ℕ → Type 0) (s : List Run) : Type 0 where
  pub each : (x : ℕ) → T (in_runs s x) → P x

module _ {P : ℕ → Type 0} where
  pub all_none : AllIn P []
  unfolding in_runs
  all_none = record { each = λ x t. absurd t }

  all_cons : {r : Run} {s : List Run} → ((x : ℕ) → T (in_run r x) → P x) → AllIn P s → AllIn P (r ∷ s)
  unfolding in_runs
  all_cons {r} {s} f a = record { each = λ x t. ⊎_elim (λ (h : T (in_run r x)). f x h) (λ (h : T (in_runs s x)). a.each x h) (or_cases (in_run r x) (in_runs s x) t) }

  all_head : {r : Run} {s : List Run} → AllIn P (r ∷ s) → (x : ℕ) → T (in_run r x) → P x
  unfolding in_runs
  all_head {r} {s} a x t = a.each x (or_left (in_run r x) (in_runs s x) t)

  all_tail : {r : Run} {s : List Run} → AllIn P (r ∷ s) → AllIn P s
  unfolding in_runs
  all_tail {r} {s} a = record { each = λ x t. a.each x (or_right (in_run r x) (in_runs s x) t) }

  all_append : (s : List Run) {t : List Run} → AllIn P s → AllIn P t → AllIn P (s ++ t)
  all_append [] a b = b
  all_append (r ∷ s) a b = all_cons (all_head a) (all_append s (all_tail a) b)

  -- runs added one after the other: a number between two that are joined lies in one of them
  in_joined : (c r : Run) → r.low ≤ c.high + 1 → ((x : ℕ) → T (in_run c x) → P x) → ((x : ℕ) → T (in_run r x) → P x)
      → (x : ℕ) → T (in_run (run c.low (max c.high r.high)) x) → P x
  in_joined c r h f g x t =
      let top = max c.high r.high in
      let low : c.low ≤ x = leb→le c.low x (and_left (leb c.low x) (leb x top) t) in
      let high : x ≤ max c.high r.high = leb→le x top (and_right (leb c.low x) (leb x top) t) in
      let within : (a b : ℕ) → a ≤ x → x ≤ b → T (in_run (run a b) x) =
      λ a b p q. both (leb a x) (leb x b) (true→T (leb a x) (le-true a x p)) (true→T (leb x b) (le-true x b q)) in
      cases x c.high
      (λ k. f x (within c.low c.high low k))
      (λ k. g x (within r.low r.high (omega arith) (omega arith)))

  all_one : (s : List Run) (r : Run) → AllIn P s → ((x : ℕ) → T (in_run r x) → P x) → AllIn P (add_run s r)
  all_one [] r a f = all_cons f all_none
  all_one (c ∷ []) r a f = cases r.low (c.high + 1)
      (λ h. rw (joined-one c r h) (all_cons (in_joined c r h (all_head a) f) all_none))
      (λ h. rw (joined-two c r h) (all_cons (all_head a) (all_cons f all_none)))
  all_one (c ∷ d ∷ s) r a f = all_cons (all_head a) (all_one (d ∷ s) r (all_tail a) f)

  all-added : (s t : List Run) → AllIn P s → AllIn P t → AllIn P (add_runs s t)
  all-added s [] a b = a
  all-added s (r ∷ t) a b = all-added (add_run s r) t (all_one s r a (all_head b)) (all_tail b)

  -- those of the set bits of a word
  all-bits : (f : ℕ → List Run) (w n : ℕ) → ((o : ℕ) → o < n → bit w o ≡ true → AllIn P (f o)) → AllIn P (bit_runs f w n)
  unfolding bit_runs
  all-bits f w zero h = all_none
  all-bits f w (suc n) h = all_append (bit_runs f w n) (all-bits f w n (λ o l e. h o (omega arith) e)) (last (bit w n) refl)
    where
      last : (b : Bool) → bit w n ≡ b → AllIn P (only_if b (f n))
      last true e = h n (omega arith) e
      last false e = all_none

  all-standing : (k : ℕ) (ws : List ℕ) (n i : ℕ) → ((j : ℕ) → i ≤ j → j < i + n → (x : ℕ) → T (in_run (shift_run k (run_at ws j)) x) → P x)
      → AllIn P (shift_runs k (runs_in_words ws i n))
  all-standing k ws zero i f = all_none
  all-standing k ws (suc n) i f = all_cons (f i (omega arith) (omega arith)) (all-standing k ws n (i + 1) (λ j p q. f j (omega arith) (omega arith)))

-- the live outputs' runs lie in held runs, so all their numbers do
pub outputs-numbers : {offsets : List ℕ} {outs : ℕ} {spans ws held : List ℕ} (n : ℕ) → Sound n (runs_in_words held 0 (length held / 2)) → OutputsReady offsets outs spans ws
    → OutputsHeld offsets outs spans ws held
    → AllIn (λ x. in_runs (runs_in_words held 0 (length held / 2)) x ≡ true) (runs_of_outputs offsets outs spans ws)
outputs-numbers {offsets} {outs} {spans} {ws} {held} n so ready h =
    all-added [] (bit_runs (runs_of_output offsets spans ws) outs 64) all_none
    (all-bits (runs_of_output offsets spans ws) outs 64
    (λ o l e.
    let r = ready.each o l e in
    all-standing (out_shift offsets spans o) ws (end_of spans (out_at offsets o) - first_of spans (out_at offsets o)) (first_of spans (out_at offsets o))
    (λ j p q x t. in_held (shift_run (out_shift offsets spans o) (run_at ws j)) x ((h.each o l e).each j p (omega (arith, r.ordered))) t)))
  where
    whole : length held / 2 - 0 ≡ length held / 2
    whole = omega arith

    in_held : (r : Run) (x : ℕ) → RunInside held 0 (length held / 2) r → T (in_run r x) → in_runs (runs_in_words held 0 (length held / 2)) x ≡ true
    in_held r x i t =
        ap (λ k. in_runs (runs_in_words held 0 k) x) (sym whole)
        ∙ inside-member held 0 (length held / 2) [] 0 0 n (subst⁻¹ (λ k. Sound n (runs_in_words held 0 k)) whole so) r x i t
