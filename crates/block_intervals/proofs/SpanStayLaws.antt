-- Runs of nets so far, and spans: those that stay where one net more has its span, and those of the inputs.
use Rattle.model.proofs.Prelude.{ℕ, ◌≤◌, ◌<◌, ◌-◌, suc, ◌^◌, zero, ◌≡◌, ◌∙◌, ap, refl, sym, subst, ap₂, true, List, [], ◌∷◌, length, arith}
use Rattle.model.specs.Runs.{Run, run}
use Rattle.model.proofs.BoolLaws.{cases}
use Rattle.model.proofs.ReadLaws.{legal}
use Rattle.run_lists.specs.RunLists.{Sound, only_if, shift_runs, runs_in_words}
use Rattle.detection.specs.Cases.{Case}
use Rattle.detection.specs.Walks.{runs_before}
use Rattle.detection.proofs.DetectedLaws.{input-set}
use Rattle.block_words.specs.Block.{live_net}
use Rattle.block_words.proofs.LiveLaws.{live-input}
use Rattle.block_intervals.specs.Spans.{first_of, end_of, standing, SpanIs, InputSpans}
use Rattle.block_intervals.specs.PinSpans.{SameSpan, NetSpanned, NetsListed}
use Rattle.block_intervals.proofs.SectionLaws.{ascending-same}
use Rattle.std.specs.Prelude.{Option}

-- nets without runs add none
pub runs-dead : (f : ℕ → List Run) (n m : ℕ) → n ≤ m → ((q : ℕ) → n ≤ q → q < m → f q ≡ []) → runs_before f m ≡ runs_before f n
runs-dead f n zero h d = let e : 0 ≡ n = omega arith in ap (runs_before f) e
runs-dead f n (suc m) h d = cases n m
    (λ l. omega (arith, runs-dead f n m l (λ q a b. d q a (omega arith)), ap (length {A = Run}) (d m l (omega arith))))
    (λ l. let e : suc m ≡ n = omega arith in ap (runs_before f) e)

pub some_runs : (s : List Run) → (s ≡ [] → ⊥) → 1 ≤ length s
some_runs [] ne = absurd (ne refl)
some_runs (r ∷ s) ne = omega arith

-- ---- spans that stay

module _ {made net : ℕ} {s : List Run} {spans ws spans' ws' : List ℕ} {r : (Option (ℕ × ℕ))} (m : NetSpanned made net s spans ws spans' ws' r) where
  pub span-stays : {K : Case} {after q : ℕ} → q < 512 → (q ≡ net → ⊥) → made ≤ after → SpanIs K spans ws made q → SpanIs K spans' ws' after q
  span-stays {K} {after} {q} h d l x =
      let o = m.others q h d in
      let same : standing spans' ws' q ≡ standing spans ws q =
      ap₂ (λ a b. runs_in_words ws' a (b - a)) o.firsts o.ends ∙ m.below (first_of spans q) (end_of spans q - first_of spans q) (omega (arith, x.ordered, x.before)) in
      record {
        ordered = omega (arith, o.firsts, o.ends, x.ordered);
        before = omega (arith, o.ends, x.before);
        small = omega (arith, o.shifts, x.small);
        sound = subst (λ (t : List Run). Sound (2 ^ 62) t) (sym same) x.sound;
        runs = ap₂ shift_runs o.shifts same ∙ x.runs;
      }

  pub inputs-stay : {inputs : ℕ} → inputs ≤ net → net < 512 → InputSpans spans inputs → InputSpans spans' inputs
  inputs-stay {inputs} l h x =
      let o : (j : ℕ) → j < inputs → SameSpan spans spans' j = λ j k. m.others j (omega arith) (λ e. omega arith) in
      record {
        room = m.same_room ∙ x.room;
        rising = ascending-same (λ k p q. m.sections k p) x.rising;
        falling = ascending-same (λ k p q. m.sections k (omega arith)) x.falling;
        firsts = λ j k. (o j k).firsts ∙ x.firsts j k;
        ends = λ j k. (o j k).ends ∙ x.ends j k;
        shifts = λ j k. (o j k).shifts ∙ x.shifts j k;
      }

-- ---- the inputs

pub input-span : {K : Case} {inputs : ℕ} {table offsets entries spans₀ ws₀ : List ℕ} → NetsListed K inputs table offsets entries spans₀ ws₀
    → (q : ℕ) → q < inputs → live_net K q ≡ true → SpanIs K spans₀ ws₀ 1 q
input-span {K} {inputs} {spans₀ = spans₀} {ws₀ = ws₀} a q h l =
    let x = a.at-list.input_spans in
    let c = a.at-list.circuit in
    let w = legal c.file K.netlist c.legal in
    let i : q < K.netlist.inputs = omega (arith, c.inputs_are) in
    let first = x.firsts q h in
    let end = x.ends q h in
    let edge : K.makes_edge q ≡ true = sym (live-input K w q i) ∙ l in
    let same : standing spans₀ ws₀ q ≡ run 1 1 ∷ [] = ap₂ (λ a b. runs_in_words ws₀ a (b - a)) first end ∙ ap (λ (r : Run). r ∷ []) a.first_run_of in
    record {
      ordered = omega (arith, first, end);
      before = omega (arith, end);
      small = omega (arith, x.shifts q h);
      sound = subst (λ (s : List Run). Sound (2 ^ 62) s) (sym same) (omega arith, omega arith, omega arith, tt);
      runs = ap₂ shift_runs (x.shifts q h) same ∙ sym (ap (λ b. only_if b (run 1 1 ∷ [])) edge) ∙ input-set K w q i;
    }
