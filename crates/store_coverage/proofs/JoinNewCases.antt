-- One edge with new runs: those that it holds around them are united with them, the others stay before and after.
use Rattle.model.proofs.Prelude.{ℕ, ◌≤◌, ◌<◌, ◌+◌, ◌-◌, ◌*◌, ◌^◌, ◌/◌, ◌≡◌, ◌∙◌, ap, refl, sym, subst, ap₂, subst⁻¹, List, ◌++◌, length, get_or, drop}
use Rattle.model.proofs.Prelude.{take, length-append, arith, rules, le-leb, lt-leb}
use mir.Syntax.{w64}
use mir.Val.{Fits}
use Rattle.model.specs.Store.{max_runs}
use Rattle.model.specs.Netlist.{path_total}
use Rattle.model.specs.Runs.{Run, runs_among}
use Rattle.run_lists.specs.RunLists.{Sound, in_either, runs_in_words}
use Rattle.run_lists.specs.Answers.{Adds}
use Rattle.run_lists.proofs.RunCutLaws.{take_runs, drop-runs, runs-cut-twice}
use Rattle.run_lists.proofs.RunWordLaws.{length_runs, sound-at}
use Rattle.run_union.specs.Unions.{least_after, BeginsOver, Unites}
use Rattle.run_union.proofs.RunWriteLaws.{runs-write_before}
use Rattle.run_union.proofs.Adding.{answer-count, answer-over, adds-count}
use Rattle.run_union.proofs.MiddleLaws.{sound-middle, middle-union, last-high, words-between}
use Rattle.store_writing.specs.Writing.{changed, Within}
use Rattle.store_writing.specs.declared.inner.Change.{Change}
use Rattle.store_writing.specs.declared.inner.Change.TheVariants.{Made}
use Rattle.detection.specs.Cases.{Case}
use Rattle.detection.specs.Walks.{Detects}
use Rattle.detection.proofs.AddedLaws.{as_adds, adds-kept}
use Rattle.store_coverage.specs.Covers.{then_runs_of, held_runs, JoinReady, Covers}
use Rattle.store_coverage.specs.declared.inner.edges.Over.TheVariants as over
use Rattle.store_coverage.proofs.CoverLaws.{runs-drop, found-is, found-apart, then_is, rules-store, rules-fit}
use Rattle.std.specs.Prelude.{Option, Some, None, Ok, Err}

module _ {held ws₁ : List ℕ} {target found : ℕ} (h : JoinReady (Some found) held ws₁ target) (some : 1 ≤ found) where
  abbrev new : List Run
  new = runs_in_words ws₁ max_runs found

  few-found : found ≤ max_runs
  few-found = h.few_found found refl

  -- the place after the detected runs, and the word before it
  pub end_fits : Fits w64 (max_runs + found)
  end_fits = omega (arith, few-found)

  pub twice-fits : Fits w64 (2 * (max_runs + found))
  twice-fits = omega (arith, few-found)

  pub word_fits : Fits w64 ((2 * (max_runs + found) - 1) * 8)
  word_fits = omega (arith, few-found)

  pub word-inside : 2 * (max_runs + found) - 1 < length ws₁
  word-inside = omega (arith, few-found, h.high, h.room)

  as_found : runs_in_words ws₁ max_runs (max_runs + found - max_runs) ≡ new
  as_found = let e : max_runs + found - max_runs ≡ found = omega arith in ap (λ (k : ℕ). runs_in_words ws₁ max_runs k) e

  pub union_found : Sound (2 ^ 62) (runs_in_words ws₁ max_runs (max_runs + found - max_runs))
  union_found = subst⁻¹ (λ (x : List Run). Sound (2 ^ 62) x) as_found (h.sound_found found refl)

  -- the first low and the last high
  pub first-low : 1 ≤ get_or ws₁ (2 * max_runs) 0
  first-low = (sound-at (2 ^ 62) ws₁ max_runs (max_runs + found) max_runs union_found (omega arith) (omega arith)).least

  pub final_high : get_or ws₁ (2 * (max_runs + found) - 1) 0 ≤ 2 ^ 62
  final_high = last-high (2 ^ 62) ws₁ max_runs found some (h.sound_found found refl)

  module _ {from to : ℕ} (begun : (from ≤ length held / 2) × (least_after 1 (runs_in_words held 0 from) ≤ get_or ws₁ (2 * max_runs) 0))
      (ended : (from ≤ to) × (to ≤ length held / 2) × BeginsOver (get_or ws₁ (2 * (max_runs + found) - 1) 0) (runs_in_words held to (length held / 2 - to))) where
    abbrev before : List Run
    before = runs_in_words held 0 from

    abbrev around : List Run
    around = runs_in_words held from (to - from)

    abbrev behind : List Run
    behind = runs_in_words held to (length held / 2 - to)

    parts : held_runs held ≡ before ++ (around ++ behind)
    parts =
        let f : 0 + from ≡ from = omega arith in
        let t : 0 + to ≡ to = omega arith in
        runs-cut-twice held 0 from to (length held / 2) ended.0 ended.1
        ∙ ap₂ (λ (i j : ℕ). runs_in_words held 0 from ++ (runs_in_words held i (to - from) ++ runs_in_words held j (length held / 2 - to))) f t

    around-sound : (n : ℕ) → Sound n (held_runs held) → Sound n around
    around-sound n s = sound-middle n before around behind (subst (Sound n) parts s)

    pub union_held : Sound (2 ^ 62) around
    union_held = around-sound (2 ^ 62) h.sound_held

    module _ {ws₂ : List ℕ} {r : (Option ℕ)} (u : Unites held from to ws₁ max_runs (max_runs + found) target max_runs ws₂ r) {n : ℕ} (e : r ≡ Some n) where
      few-made : n ≤ max_runs
      few-made =
          let fits = answer-count max_runs n (runs_among (in_either around (runs_in_words ws₁ max_runs (max_runs + found - max_runs))) (2 ^ 62)) (sym e ∙ (u (2 ^ 62) union_held union_found).answers) in
          omega (arith, fits.0, fits.1)

      pub sum_fits : Fits w64 (from + n)
      sum_fits = omega (arith, few-made, begun.0, h.few_held)

      pub then-fits : Fits w64 (from + n + (length held / 2 - to))
      then-fits = omega (arith, few-made, begun.0, h.few_held)

    module _ {ws₂ : List ℕ} {r : (Option ℕ)} (u : Unites held from to ws₁ max_runs (max_runs + found) target max_runs ws₂ r)
        (K : Case) (ws₀ : List ℕ) (d : Detects K ws₀ ws₁ (Some found)) (so : Sound (path_total K.netlist) (held_runs held)) where
      abbrev paths : ℕ
      paths = path_total K.netlist

      abbrev middle : List Run
      middle = runs_among (in_either around new) paths

      abbrev then : List Run
      then = then_runs_of K (held_runs held)

      new-sound : Sound paths new
      new-sound = found-apart d refl

      then-parts : before ++ (middle ++ behind) ≡ then
      then-parts =
          middle-union paths (get_or ws₁ (2 * (max_runs + found) - 1) 0) before around behind new (subst (Sound paths) parts so) new-sound
          (words-between paths (least_after 1 before) ws₁ max_runs found some new-sound begun.1) (last-high paths ws₁ max_runs found some new-sound) ended.2
          ∙ ap₂ (λ (x y : List Run). runs_among (in_either x y) paths) (sym parts) (d.runs_are found refl)
          ∙ then_is K (held_runs held)

      length-then : length then ≡ from + length middle + (length held / 2 - to)
      length-then =
          ap (length {A = Run}) (sym then-parts)
          ∙ length-append before (middle ++ behind)
          ∙ omega (arith, length-append middle behind, length_runs held 0 from, length_runs held to (length held / 2 - to))

      united : Adds ws₁ ws₂ target max_runs middle r
      united =
          as_adds (ap (λ (x : List Run). runs_among (in_either around x) paths) as_found) refl
          (u paths (around-sound paths so) (subst⁻¹ (Sound paths) as_found new-sound))

      kept₂ : (k : ℕ) → 2 * (target + max_runs) ≤ k → drop k ws₂ ≡ drop k ws₀
      kept₂ k l = adds-kept k l united ∙ d.kept k (omega (arith, h.high))

      between₂ : (f k : ℕ) → 2 * max_runs ≤ f → f + k ≤ target → runs_in_words ws₂ f k ≡ runs_in_words ws₀ f k
      between₂ f k l m =
          ap (λ (x : List ℕ). runs_in_words x f k) united.writes
          ∙ runs-write_before ws₁ target f k (take max_runs middle) m
          ∙ runs-drop k (4 * max_runs) f ws₁ ws₀ (d.kept (4 * max_runs) (omega arith)) (omega arith)

      over-store : max_runs < length then → Covers K (held_runs held) ws₀ ws₂ target (Err over.Store)
      over-store o = record {
        answers = rules-store (found-is d refl).0 (lt-leb (length then) max_runs o);
        runs_are = λ c p. (let z : ◌≡◌ {A = ℕ} 0 1 = cc in absurd (omega arith));
        within = λ c p. (let z : ◌≡◌ {A = ℕ} 0 1 = cc in absurd (omega arith));
        kept = kept₂;
        between = between₂;
      }

      -- the middle alone is over the store's runs
      pub join_full : r ≡ None → Covers K (held_runs held) ws₀ ws₂ target (Err over.Store)
      join_full e = over-store (omega (arith, answer-over max_runs middle (sym e ∙ united.answers), length-then))

      module _ {n : ℕ} (e : r ≡ Some n) where
        made : (length middle ≤ max_runs) × (n ≡ length middle) × (runs_in_words ws₂ target n ≡ middle)
        made = adds-count ws₁ ws₂ target max_runs n middle r h.room e united

        -- with those before and after it
        pub join_many : max_runs < from + n + (length held / 2 - to) → Covers K (held_runs held) ws₀ ws₂ target (Err over.Store)
        join_many o = over-store (omega (arith, o, made.1, length-then))

        changed-is : changed (Made from to n) ws₂ target (held_runs held) ≡ then
        changed-is =
            let t : 0 + to ≡ to = omega arith in
            ap₂ (λ (x y : List Run). x ++ (runs_in_words ws₂ target n ++ y)) (take_runs held 0 from (length held / 2) begun.0)
            (drop-runs held 0 to (length held / 2) ended.1 ∙ ap (λ (i : ℕ). runs_in_words held i (length held / 2 - to)) t)
            ∙ ap (λ (x : List Run). before ++ (x ++ behind)) made.2
            ∙ then-parts

        pub join_made : from + n + (length held / 2 - to) ≤ max_runs → Covers K (held_runs held) ws₀ ws₂ target (Ok (Made from to n))
        join_made few = record {
          answers = rules-fit (found-is d refl).0 (le-leb (length then) max_runs (omega (arith, few, made.1, length-then)));
          runs_are = λ g p. (let i : Made from to n ≡ g = cc in subst (λ (x : Change). changed x ws₂ target (held_runs held) ≡ then) i changed-is);
          within = λ g p.
              (let i : Made from to n ≡ g = cc in
              subst (λ (x : Change). Within x (length (held_runs held))) i (ended.0, omega (arith, ended.1, length_runs held 0 (length held / 2))));
          kept = kept₂;
          between = between₂;
        }

pub ruleset join-new-cases = (end_fits, twice-fits, word_fits, word-inside, sum_fits, then-fits, join_full, join_many, join_made, rules)
