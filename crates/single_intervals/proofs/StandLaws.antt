-- The runs of one net after the other in the words: one net more, and the inputs' one after the other.
use Rattle.model.proofs.Prelude.{ℕ, ◌≤◌, ◌<◌, ◌+◌, ◌-◌, ◌*◌, suc, ◌^◌, zero, ◌≡◌, ◌∙◌, ap, refl, sym, subst, ap₂, subst⁻¹, true, Bool, false, List}
use Rattle.model.proofs.Prelude.{[], ◌∷◌, length, get_or, set, length-set, get_or-set_same, get_or-set_other, eqb, le_refl, arith, rules}
use Rattle.model.specs.Base.{bit}
use Rattle.model.specs.Runs.{Run, run}
use Rattle.model.specs.Store.{max_runs}
use Rattle.run_lists.specs.RunLists.{Sound, only_if, runs_in_words, write_runs_of}
use Rattle.model.proofs.BoolLaws.{cases}
use Rattle.run_union.proofs.RunWriteLaws.{runs-write, runs-write_before}
use Rattle.run_shifted.specs.RunsOfPlaces.{runs_in, NetReady}
use Rattle.detection.specs.Walks.{input_runs_of, runs_before, Kept}
use Rattle.detection.proofs.KeptLaws.{runs-next, runs-mono, kept_refl, kept_then, kept-write}
use Rattle.single_intervals.specs.Nets.{Stand}

-- ---- the nets so far

pub stand-start : (f : ℕ → List Run) (ws starts : List ℕ) → length starts ≡ 513 → Stand f ws (set starts 0 0) 0 0
stand-start f ws starts l = record {
  used = refl;
  fits = omega arith;
  start_room = length-set starts 0 0 ∙ l;
  starts_are = λ q h. let e : q ≡ 0 = omega arith in rw e (get_or-set_same starts 0 0 0 (omega (arith, l)));
  runs_are = λ q h. absurd (omega arith);
}

-- the same runs under another name
same-before : (f g : ℕ → List Run) (n : ℕ) → ((q : ℕ) → q < n → f q ≡ g q) → runs_before f n ≡ runs_before g n
same-before f g zero h = refl
same-before f g (suc n) h = ap₂ ◌+◌ (same-before f g n (λ q l. h q (omega arith))) (ap length (h n (omega arith)))

pub stand-same : {f g : ℕ → List Run} {ws starts : List ℕ} {net start : ℕ} → ((q : ℕ) → q < net → f q ≡ g q) → Stand f ws starts net start → Stand g ws starts net start
stand-same {f} {g} {ws} {net = net} h s =
    let before : (q : ℕ) → q ≤ net → runs_before f q ≡ runs_before g q = λ q l. same-before f g q (λ p k. h p (omega arith)) in
    record {
      used = s.used ∙ before net (le_refl net);
      fits = s.fits;
      start_room = s.start_room;
      starts_are = λ q l. s.starts_are q l ∙ before q l;
      runs_are = λ q l.
          sym (λ j. runs_in_words ws (before q (omega arith) j) (length (h q l j))) ∙ s.runs_are q l ∙ h q l;
    }

module _ {f : ℕ → List Run} {ws starts : List ℕ} {net start : ℕ} (s : Stand f ws starts net start) where
  ends : (q : ℕ) → q < net → get_or starts (q + 1) 0 ≡ get_or starts q 0 + length (f q)
  ends q h = omega (arith, s.starts_are q (omega arith), s.starts_are (q + 1) (omega arith), runs-next f q)

  -- the runs of a net before, as the starts give them
  pub stand-runs : (q : ℕ) → q < net → runs_in starts ws q ≡ f q
  unfolding runs_in
  stand-runs q h =
      let d : get_or starts (q + 1) 0 - get_or starts q 0 ≡ length (f q) = omega (arith, ends q h) in
      ap₂ (runs_in_words ws) (s.starts_are q (omega arith)) d ∙ s.runs_are q h

  pub stand-net : (room : ℕ) → start ≤ room → net ≤ 512 → (q : ℕ) → q < net → Sound (2 ^ 62) (f q) → NetReady starts ws room q
  stand-net room l few q h sound =
      record {
        is_net = omega arith;
        ordered = omega (arith, ends q h);
        before = omega (arith, s.used, s.starts_are (q + 1) (omega arith), runs-mono f (q + 1) net (omega arith));
        sound = subst⁻¹ (λ (x : List Run). Sound (2 ^ 62) x) (stand-runs q h) sound;
      }

  -- one net more: its runs are written at the place after the others
  pub stand-more : {ws' : List ℕ} (new : List Run) → ws' ≡ write_runs_of ws start new → net < 512 → runs_in_words ws' start (length (f net)) ≡ f net
      → {next : ℕ} → next ≡ start + length (f net) → next ≤ max_runs → Stand f ws' (set starts (net + 1) next) (net + 1) next
  stand-more {ws'} new w few made {next} n fit =
      let used : next ≡ runs_before f (net + 1) = omega (arith, runs-next f net, s.used) in
      record {
        used = used;
        fits = fit;
        start_room = length-set starts (net + 1) next ∙ s.start_room;
        starts_are = λ q l. cases q net
            (λ m. get_or-set_other starts (net + 1) q next 0 (omega arith) ∙ s.starts_are q m)
            (λ m. let e : q ≡ net + 1 = omega arith in rw e (get_or-set_same starts (net + 1) next 0 (omega (arith, s.start_room)) ∙ used));
        runs_are = λ q l. cases (q + 1) net
            (λ m.
            ap (λ (x : List ℕ). runs_in_words x (runs_before f q) (length (f q))) w
            ∙ runs-write_before ws start (runs_before f q) (length (f q)) new (omega (arith, s.used, runs-next f q, runs-mono f (q + 1) net m))
            ∙ s.runs_are q (omega arith))
            (λ m. let e : q ≡ net = omega arith in rw e (ap (λ (k : ℕ). runs_in_words ws' k (length (f net))) (sym s.used) ∙ made));
      }

-- ---- the loop over the inputs

pub record InputsDone (edges inputs : ℕ) (ws₀ ws starts : List ℕ) (input start : ℕ) : Type 0 where
  pub few : inputs ≤ 64
  pub within : input ≤ inputs
  pub below : start ≤ input
  pub room : 2 * max_runs ≤ length ws
  pub stand : Stand (input_runs_of edges) ws starts input start
  pub kept : Kept ws₀ ws

pub inputs-start : (edges inputs : ℕ) (ws starts : List ℕ) → inputs ≤ 64 → length starts ≡ 513 → 2 * max_runs ≤ length ws
    → InputsDone edges inputs ws ws (set starts 0 0) 0 0
inputs-start edges inputs ws starts few l room = record {
  few = few;
  within = omega arith;
  below = omega arith;
  room = room;
  stand = stand-start (input_runs_of edges) ws starts l;
  kept = kept_refl ws;
}

-- the run counts as often as the digit says
one-run : (ws : List ℕ) (start : ℕ) (b : Bool) → 2 * (start + 1) ≤ length ws
    → runs_in_words (write_runs_of ws start (run 1 1 ∷ [])) start (length (only_if b (run 1 1 ∷ []))) ≡ only_if b (run 1 1 ∷ [])
one-run ws start true h = runs-write ws start (run 1 1 ∷ []) h
one-run ws start false h = refl

digit-length : (d : ℕ) (b : Bool) → d < 2 → eqb d 1 ≡ b → length (only_if b (run 1 1 ∷ [])) ≡ d
digit-length d b l e = cases 1 d
    (λ h. let one : d ≡ 1 = omega arith in ap (λ b. length (only_if b (run 1 1 ∷ []))) (sym e ∙ ap (λ k. eqb k 1) one) ∙ sym one)
    (λ h. let none : d ≡ 0 = omega arith in ap (λ b. length (only_if b (run 1 1 ∷ []))) (sym e ∙ ap (λ k. eqb k 1) none) ∙ sym none)

module _ {edges inputs : ℕ} {ws₀ ws starts : List ℕ} {input start : ℕ} (i : InputsDone edges inputs ws₀ ws starts input start) where
  pub inputs-more : input < inputs → {d : ℕ} → d < 2 → eqb d 1 ≡ bit edges input
      → InputsDone edges inputs ws₀ (set (set ws (2 * start) 1) (2 * start + 1) 1) (set starts (input + 1) (start + d)) (input + 1) (start + d)
  unfolding input_runs_of
  inputs-more h {d} l e =
      let written = write_runs_of ws start (run 1 1 ∷ []) in
      let many : length (only_if (bit edges input) (run 1 1 ∷ [])) ≡ d = digit-length d (bit edges input) l e in
      let kept : Kept ws written = kept-write start (run 1 1 ∷ []) refl (omega (arith, i.few, i.below)) in
      record {
        few = i.few;
        within = omega arith;
        below = omega (arith, i.below);
        room = omega (arith, i.room, kept.same);
        stand = stand-more i.stand (run 1 1 ∷ []) refl (omega (arith, i.few)) (one-run ws start (bit edges input) (omega (arith, i.room, i.few, i.below)))
            (omega (arith, many)) (omega (arith, i.few, i.below));
        kept = kept_then i.kept kept;
      }

  pub inputs-second : input < inputs → 2 * start + 1 < length (set ws (2 * start) 1)
  inputs-second h = omega (arith, length-set ws (2 * start) 1, i.room, i.below, i.few)

  pub inputs-done : inputs ≤ input → Stand (input_runs_of edges) ws starts inputs start
  inputs-done h = let e : input ≡ inputs = omega (arith, i.within) in subst (λ k. Stand (input_runs_of edges) ws starts k start) e i.stand

pub ruleset input-cases = (inputs-start, inputs-more, inputs-second, inputs-done, rules)
