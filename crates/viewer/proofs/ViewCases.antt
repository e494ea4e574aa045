-- The cases of the answers to a viewer: what looking refuses, the numbers of the runs that he sees, these runs written, the question for one fault.
use Rattle.model.proofs.Prelude.{ℕ, ◌≤◌, ◌<◌, ◌*◌, ◌^◌, ◌≡◌, ◌∙◌, ap, refl, sym, ap₂, ⊎_elim, true, Bool, false, ◌&&◌, and-false, List, [], ◌∷◌}
use Rattle.model.proofs.Prelude.{length, leb, leb→le, arith, rules, le-leb, lt-leb, ne_eqb, eq-eqb}
use Rattle.model.specs.Base.{Answer, refused, value, ◌then◌, checks, passes}
use Rattle.model.specs.Netlist.{Netlist, path_total}
use Rattle.model.specs.Path.{rising, falling, edge_of_fault, path_of_fault}
use Rattle.model.specs.Runs.{Run, in_runs, size}
use Rattle.model.specs.Read.{within}
use Rattle.model.specs.Store.{ByEdge, by_edge, max_runs, store_words_count, tests_taken_of, store_runs, store_of}
use Rattle.model.specs.Refusals.{refusal_number_of}
use Rattle.model.specs.declared.Refusal.{Refusal}
use Rattle.model.specs.declared.Refusal.TheVariants as why
use Rattle.model.proofs.BoolLaws.{bool_cases, and_left, and_right, true→T}
use Rattle.run_lists.specs.RunLists.{Sound, runs_in_words}
use Rattle.run_lists.proofs.RunWordLaws.{length_runs}
use Rattle.store_words.specs.Sound.{SoundWords, FewRuns}
use Rattle.run_intersection.specs.Meets.{meets}
use Rattle.viewer_runs.specs.ViewRuns.{both_runs}
use Rattle.viewer_places.specs.Viewer.{seen, seen_runs, viewer_totals_call, viewer_runs_call, viewer_runs_answer, viewer_runs_store, viewer_fault_call}
use Rattle.viewer_ranges.specs.Ranges.{most_places}
use Rattle.viewer.specs.ViewAnswers.{ViewTrue, looked, Looked, LookTrue, asked_on}
use Rattle.viewer.proofs.LookLaws.{totals-as, runs_as, fault-as, look_sound, paths-fit, ranges-sound, own-seen, seen-meets, seen-total}
use Rattle.std.specs.Prelude.{Result, Ok, Err}

-- A store of another length
module _ (file ws places : List ℕ) (d : length ws ≡ store_words_count → ⊥) where
  pub totals-short : refused 1 ≡ viewer_totals_call file ws places
  unfolding viewer_totals_call
  totals-short = rw (ne_eqb (length ws) store_words_count d) refl

  pub fault-short : (fault : ℕ) → refused 1 ≡ viewer_fault_call file ws places fault
  unfolding viewer_fault_call
  fault-short fault = rw (ne_eqb (length ws) store_words_count d) refl

-- a refused call leaves the second store
view-refused : (w : Refusal) (file ws places second : List ℕ) → viewer_runs_call file ws second places ≡ refused (refusal_number_of w)
    → ViewTrue (Err w) file ws places second second
unfolding viewer_runs_answer viewer_runs_store
view-refused w file ws places second e = record { answer = rw e refl; words = rw e refl }

pub view-short : (file ws places second : List ℕ) → (length ws ≡ store_words_count → ⊥) → ViewTrue (Err why.StoreLength) file ws places second second
unfolding viewer_runs_call
view-short file ws places second d = view-refused why.StoreLength file ws places second (rw (ne_eqb (length ws) store_words_count d) refl)

pub view-second : (file ws places second : List ℕ) → length ws ≡ store_words_count → (length second ≡ store_words_count → ⊥)
    → ViewTrue (Err why.StoreLength) file ws places second second
unfolding viewer_runs_call
view-second file ws places second l d =
    view-refused why.StoreLength file ws places second (rw (eq-eqb (length ws) store_words_count l, ne_eqb (length second) store_words_count d) refl)

module _ (file ws places words : List ℕ) (l : length ws ≡ store_words_count) (a : Result (ℕ × ℕ) Refusal) (t : LookTrue a file ws places words) where
  -- What looking refuses
  module _ (w : Refusal) (e : a ≡ Err w) where
    no : looked file ws places ≡ refused (refusal_number_of w)
    no = rw e at t

    pub totals-refused : refused (refusal_number_of w) ≡ viewer_totals_call file ws places
    totals-refused = sym (totals-as file ws places l ∙ rw no refl)

    pub fault-refused : (fault : ℕ) → refused (refusal_number_of w) ≡ viewer_fault_call file ws places fault
    fault-refused fault = sym (fault-as file ws places l fault ∙ rw no refl)

    pub runs-refused : (second : List ℕ) → length second ≡ store_words_count → ViewTrue (Err w) file ws places second second
    runs-refused second m = view-refused w file ws places second (runs_as file ws places l second m ∙ rw no refl)

  module _ {n total : ℕ} (e : a ≡ Ok (n, total)) where
    is : Looked file ws places words n total
    is = rw e at t

    abbrev N : Netlist
    N = is.circuit

    abbrev own : List Run
    own = runs_in_words words 0 n

    pub view-sound : SoundWords (2 ^ 62) ws
    view-sound = look_sound l is

    pub view-few : FewRuns ws
    view-few = view-sound.few

    pub own-sound : Sound (2 ^ 62) (runs_in_words words 0 n)
    own-sound = ranges-sound l is

    pub own-few : n ≤ most_places
    own-few = is.few

    pub total-fits : total ≤ 2 ^ 62
    total-fits = paths-fit l is

    -- Totals
    pub totals-answer : {r f : ℕ} → r ≡ size (meets own (store_runs ws rising)) → f ≡ size (meets own (store_runs ws falling))
        → value (record { on_rising = r; on_falling = f }) ≡ viewer_totals_call file ws places
    totals-answer {r} {f} p q =
        let er = p ∙ seen-total l is rising in
        let ef = q ∙ seen-total l is falling in
        ap value (λ i. record { on_rising = er i; on_falling = ef i }) ∙ sym (totals-as file ws places l ∙ rw is.passes refl)

    -- A question
    asked-same : (p q : ℕ → Bool) (paths fault : ℕ) → ((j : ℕ) → 1 ≤ j → j ≤ paths → p j ≡ q j) → asked_on p ws paths fault ≡ asked_on q ws paths fault
    unfolding asked_on
    asked-same p q paths fault h =
        ⊎_elim
        (λ (g : within 1 (2 * paths) fault ≡ true).
        let low = leb→le 1 fault (and_left (leb 1 fault) (leb fault (2 * paths)) (true→T (within 1 (2 * paths) fault) g)) in
        let high = leb→le fault (2 * paths) (and_right (leb 1 fault) (leb fault (2 * paths)) (true→T (within 1 (2 * paths) fault) g)) in
        ap (λ (b : Bool). checks ((60, within 1 (2 * paths) fault) ∷ (90, b) ∷ []) then value (in_runs (store_runs ws (edge_of_fault fault)) (path_of_fault fault)))
        (h (path_of_fault fault) (omega arith) (omega arith)))
        (λ (g : within 1 (2 * paths) fault ≡ false). rw g refl)
        (bool_cases (within 1 (2 * paths) fault))

    pub fault-answer : {b : Answer Bool} (fault : ℕ) → b ≡ asked_on (in_runs own) ws total fault → b ≡ viewer_fault_call file ws places fault
    fault-answer fault p =
        p ∙ ap (λ (m : ℕ). asked_on (in_runs own) ws m fault) is.total_is
        ∙ asked-same (in_runs own) (seen N places) (path_total N) fault (own-seen l is)
        ∙ sym (fault-as file ws places l fault ∙ rw is.passes refl)

    -- The runs
    module _ (second : List ℕ) (m : length second ≡ store_words_count) (up : List ℕ) (r : ℕ) (down : List ℕ) (f : ℕ)
        (made_up : runs_in_words up 0 r ≡ meets own (store_runs ws rising)) (made-down : runs_in_words down 0 f ≡ meets own (store_runs ws falling)) where
      up_is : runs_in_words up 0 r ≡ seen_runs N places ws rising
      up_is = made_up ∙ seen-meets l is rising

      down_is : runs_in_words down 0 f ≡ seen_runs N places ws falling
      down_is = made-down ∙ seen-meets l is falling

      up-many : length (seen_runs N places ws rising) ≡ r
      up-many = ap (λ (x : List Run). length x) (sym up_is) ∙ length_runs up 0 r

      down-many : length (seen_runs N places ws falling) ≡ f
      down-many = ap (λ (x : List Run). length x) (sym down_is) ∙ length_runs down 0 f

      call : viewer_runs_call file ws second places ≡ (checks ((51, leb r max_runs && leb f max_runs) ∷ []) then value (by_edge (seen_runs N places ws)))
      call =
          runs_as file ws places l second m ∙ rw is.passes
          (ap₂ (λ (x y : ℕ). checks ((51, leb x max_runs && leb y max_runs) ∷ []) then value (by_edge (seen_runs N places ws))) up-many down-many)

      pub rising-over : max_runs < r → ViewTrue (Err why.StoreRuns) file ws places second second
      rising-over h = view-refused why.StoreRuns file ws places second (call ∙ rw (lt-leb r max_runs h) refl)

      pub falling-over : max_runs < f → ViewTrue (Err why.StoreRuns) file ws places second second
      falling-over h = view-refused why.StoreRuns file ws places second (call ∙ rw (lt-leb f max_runs h, and-false (leb r max_runs)) refl)

      pub view-written : {second' : List ℕ} {tests : ℕ} → r ≤ max_runs → f ≤ max_runs → tests ≡ tests_taken_of ws
          → second' ≡ store_of tests (both_runs (runs_in_words up 0 r) (runs_in_words down 0 f)) → ViewTrue (Ok tt) file ws places second second'
      unfolding viewer_runs_answer viewer_runs_store
      view-written {second'} {tests} h g p q =
          let taken : viewer_runs_call file ws second places ≡ value (by_edge (seen_runs N places ws)) =
          call ∙ rw (le-leb r max_runs h, le-leb f max_runs g) refl in
          let both : both_runs (runs_in_words up 0 r) (runs_in_words down 0 f) ≡ by_edge (seen_runs N places ws) = λ i. record { on_rising = up_is i; on_falling = down_is i } in
          record {
            answer = rw taken refl;
            words = q ∙ ap₂ (λ (x : ℕ) (s : ByEdge (List Run)). store_of x s) p both ∙ rw taken refl;
          }

pub ruleset view-cases = (
  totals-short,
  fault-short,
  view-short,
  view-second,
  totals-refused,
  fault-refused,
  runs-refused,
  view-sound,
  view-few,
  own-sound,
  total-fits,
  totals-answer,
  fault-answer,
  rising-over,
  falling-over,
  view-written,
  rules,
)
