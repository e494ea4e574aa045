-- What a viewer's calls answer where they are not refused, the store that they leave, and its lines: those that he is shown.
use Rattle.model.proofs.Prelude.{ℕ, ◌≤◌, ◌^◌, ◌≡◌, ◌∙◌, ap, refl, sym, subst, List, [], ◌∷◌, ◌++◌, append_assoc, length, length-replicate, leb, T}
use Rattle.model.proofs.Prelude.{eqb, leb→le}
use Rattle.model.specs.Base.{Answer, refused, value, ◌into◌, ◌then◌, Rule, checks, passes}
use Rattle.model.specs.Netlist.{Netlist, path_total}
use Rattle.model.specs.Path.{Edge, rising, falling}
use Rattle.model.specs.Runs.{Run, Separated, how_many}
use Rattle.model.specs.Read.{read_netlist}
use Rattle.model.specs.Store.{ByEdge, by_edge, of_edge, both_edges, max_runs, store_words_count, empty_store, run_count, tests_taken_of, store_runs, store_of, store_rules}
use Rattle.model.specs.Calls.{store_rule}
use Rattle.model.proofs.BoolLaws.{and_left, and_right}
use Rattle.model.proofs.AnswerLaws.{Passed, not_refused, AllPass, Steps, steps, then-first, then-second, checks→, →checks, pass_first, pass_second, pass_both}
use Rattle.model.proofs.ReadLaws.{limits}
use Rattle.model.proofs.RunLaws.{runs-separated}
use Rattle.model.proofs.RunSizeLaws.{runs-size}
use Rattle.model.proofs.StoreLaws.{run_count-store, runs-store, length-store}
use Rattle.run_lists.proofs.MemberLaws.{sound-mono}
use Rattle.store_words.specs.Sound.{SoundWords}
use Rattle.viewer_places.specs.Viewer.{places_rule, seen_held, seen_runs, viewer_totals_call, viewer_runs_call, viewer_runs_answer, viewer_runs_store}
use Rattle.listing_lines.specs.ListingLines.{numbered, refused_line_of}
use Rattle.listing_text.specs.Listing.{rising_word, falling_word, rising_letter, falling_letter, run_lines, totals_lines, store_lines}
use Rattle.viewer_text.specs.ViewText.{view_lines, shown, view_text}

module _ (netlist ws places : List ℕ) where
  -- of the second store only the length matters
  pub runs-second : (second : List ℕ) → length second ≡ store_words_count → viewer_runs_call netlist ws second places ≡ viewer_runs_call netlist ws empty_store places
  unfolding viewer_runs_call
  runs-second second l =
      ap (λ (n : ℕ). checks (store_rule ws ∷ (1, eqb n store_words_count) ∷ []) then read_netlist netlist
      into λ N. checks (store_rules (path_total N) ws
      ++ (places_rule N places ∷ (51, both_edges (λ e. leb (length (seen_runs N places ws e)) max_runs)) ∷ []))
      then value (by_edge (seen_runs N places ws)))
      (l ∙ sym (length-replicate {A = ℕ} store_words_count 0))

  pub second-answer : (second : List ℕ) → length second ≡ store_words_count
      → viewer_runs_answer netlist ws second places ≡ viewer_runs_answer netlist ws empty_store places
  unfolding viewer_runs_answer
  second-answer second l = ap (λ (a : Answer (ByEdge (List Run))). passes a) (runs-second second l)

  -- a refused view
  refused-call : {A : Type 0} (a : Answer A) (n : ℕ) → refused n ≡ passes a → a ≡ refused n
  refused-call (refused m) n e = sym (told e)
    where
      told : {A : Type 0} {n m : ℕ} → ◌≡◌ {A = Answer (Unit {0})} (refused n) (refused m) → ◌≡◌ {A = Answer A} (refused n) (refused m)
      told e = cc
  refused-call (value x) n e = absurd (not_refused e)

  pub refused-shown : (second : List ℕ) (n : ℕ) → length second ≡ store_words_count → refused n ≡ viewer_runs_answer netlist ws second places
      → refused_line_of n ≡ view_text netlist ws places
  unfolding viewer_runs_answer view_text shown
  refused-shown second n l e =
      sym (rw (sym (runs-second second l) ∙ refused-call (viewer_runs_call netlist ws second places) n e) refl)

  -- what is known of a view that is not refused
  record Viewed (second : List ℕ) : Type 0 where
    circuit : Netlist
    legal : read_netlist netlist ≡ value circuit
    long : AllPass (store_rule ws ∷ [])
    sound : AllPass (store_rules (path_total circuit) ws)
    fit : AllPass (places_rule circuit places ∷ [])
    few : (e : Edge) → length (seen_runs circuit places ws e) ≤ max_runs
    runs : viewer_runs_call netlist ws second places ≡ value (by_edge (seen_runs circuit places ws))

  passed : {A : Type 0} (a : Answer A) → value tt ≡ passes a → Passed a
  passed (refused n) e = absurd (not_refused (sym e))
  passed (value x) e = record { got = x; is = refl }

  abbrev view_rules : Netlist → List Rule
  view_rules N = places_rule N places ∷ (51, both_edges (λ e. leb (length (seen_runs N places ws e)) max_runs)) ∷ []

  abbrev all_rules : Netlist → List Rule
  all_rules N = store_rules (path_total N) ws ++ view_rules N

  few-runs : (N : Netlist) → T (both_edges (λ e. leb (length (seen_runs N places ws e)) max_runs)) → (e : Edge) → length (seen_runs N places ws e) ≤ max_runs
  few-runs N t rising =
      leb→le (length (seen_runs N places ws rising)) max_runs
      (and_left (leb (length (seen_runs N places ws rising)) max_runs) (leb (length (seen_runs N places ws falling)) max_runs) t)
  few-runs N t falling =
      leb→le (length (seen_runs N places ws falling)) max_runs
      (and_right (leb (length (seen_runs N places ws rising)) max_runs) (leb (length (seen_runs N places ws falling)) max_runs) t)

  viewed : (second : List ℕ) → value tt ≡ viewer_runs_answer netlist ws second places → Viewed second
  unfolding viewer_runs_answer viewer_runs_call
  viewed second e =
      let lent : List Rule = store_rule ws ∷ store_rule second ∷ [] in
      let p : Passed (viewer_runs_call netlist ws second places) = passed (viewer_runs_call netlist ws second places) e in
      let s : Steps (checks lent then read_netlist netlist) (λ N. checks (all_rules N) then value (by_edge (seen_runs N places ws))) p.got =
      steps (checks lent then read_netlist netlist) (λ N. checks (all_rules N) then value (by_edge (seen_runs N places ws))) p.is in
      let N : Netlist = s.got in
      let runs : Answer (ByEdge (List Run)) = value (by_edge (seen_runs N places ws)) in
      let lengths : AllPass lent = checks→ lent (then-first (checks lent) (read_netlist netlist) s.first) in
      let all : AllPass (all_rules N) = checks→ (all_rules N) (then-first (checks (all_rules N)) runs s.second) in
      let rest : AllPass (view_rules N) = pass_second (store_rules (path_total N) ws) (view_rules N) all in
      record {
        circuit = N;
        legal = then-second (checks lent) (read_netlist netlist) s.first;
        long = (lengths.0, tt);
        sound = pass_first (store_rules (path_total N) ws) (view_rules N) all;
        fit = (rest.0, tt);
        few = few-runs N rest.1.0;
        runs = p.is ∙ sym (then-second (checks (all_rules N)) runs s.second);
      }

  module _ (second : List ℕ) (l : length second ≡ store_words_count) (e : value tt ≡ viewer_runs_answer netlist ws second places) where
    k : Viewed second
    k = viewed second e

    abbrev N : Netlist
    N = k.circuit

    abbrev both : ByEdge (List Run)
    both = by_edge (seen_runs N places ws)

    fits : (e : Edge) → length (of_edge both e) ≤ max_runs
    fits rising = k.few rising
    fits falling = k.few falling

    totals-are : viewer_totals_call netlist ws places ≡ value (by_edge (λ e. how_many (seen_held N places ws e) (path_total N)))
    unfolding viewer_totals_call
    totals-are =
        let more : checks (store_rules (path_total N) ws ++ (places_rule N places ∷ [])) ≡ value tt =
        →checks (store_rules (path_total N) ws ++ (places_rule N places ∷ [])) (pass_both (store_rules (path_total N) ws) (places_rule N places ∷ []) k.sound k.fit) in
        rw (→checks (store_rule ws ∷ []) k.long, k.legal, more) refl

    module _ (second' : List ℕ) (w : second' ≡ viewer_runs_store netlist ws second places) where
      words_are : second' ≡ store_of (tests_taken_of ws) both
      unfolding viewer_runs_store
      words_are = w ∙ rw k.runs refl

      held : (e : Edge) → store_runs second' e ≡ seen_runs N places ws e
      held rising = ap (λ (x : List ℕ). store_runs x rising) words_are ∙ runs-store (tests_taken_of ws) both fits rising
      held falling = ap (λ (x : List ℕ). store_runs x falling) words_are ∙ runs-store (tests_taken_of ws) both fits falling

      apart : (e : Edge) → Separated (2 ^ 62) 1 (store_runs second' e)
      apart e =
          subst (Separated (2 ^ 62) 1) (sym (held e))
          (sound-mono 1 (path_total N) (2 ^ 62) (seen_runs N places ws e) (limits netlist N k.legal).total_fits (runs-separated (seen_held N places ws e) (path_total N)))

      count : (e : Edge) → run_count second' e ≤ max_runs
      count e = rw (words_are) (rw (run_count-store (tests_taken_of ws) both fits e) (fits e))

      pub view-sound : SoundWords (2 ^ 62) second'
      view-sound = record {
        few = record {
          long = ap (λ (x : List ℕ). length x) words_are ∙ length-store (tests_taken_of ws) both fits;
          few_rising = count rising;
          few_falling = count falling;
        };
        sound_rising = apart rising;
        sound_falling = apart falling;
      }

      abbrev totals : ByEdge ℕ
      totals = by_edge (λ e. how_many (seen_held N places ws e) (path_total N))

      lines_are : store_lines second' ≡ view_lines both totals
      unfolding store_lines totals_lines view_lines
      lines_are =
          rw (held rising, held falling, runs-size (seen_held N places ws rising) (path_total N), runs-size (seen_held N places ws falling) (path_total N))
          (sym (append_assoc (run_lines rising_letter both.on_rising ++ run_lines falling_letter both.on_falling) (numbered rising_word totals.on_rising)
          (numbered falling_word totals.on_falling)))

      text-is : view_text netlist ws places ≡ view_lines both totals
      unfolding view_text shown
      text-is = rw (sym (runs-second second l) ∙ k.runs, totals-are) refl

      pub view-shown : store_lines second' ≡ view_text netlist ws places
      view-shown = lines_are ∙ sym text-is
