-- A viewer's calls as steps after looking, and what looking leaves known of the store and of the path numbers that he sees.
use Rattle.model.proofs.Prelude.{ℕ, ◌≤◌, ◌*◌, ◌^◌, ◌≡◌, ◌∙◌, ap, refl, sym, subst, Bool, ◌&&◌, List, [], ◌∷◌, ◌++◌, append_assoc, length, leb, arith}
use Rattle.model.proofs.Prelude.{eq-eqb}
use Rattle.model.specs.Base.{Answer, refused, value, ◌into◌, ◌then◌, Rule, checks}
use Rattle.model.specs.Netlist.{Netlist, path_total}
use Rattle.model.specs.Path.{Edge, edge_of_fault, path_of_fault}
use Rattle.model.specs.Runs.{Run, in_runs, size, how_many}
use Rattle.model.specs.Read.{within, read_netlist}
use Rattle.model.specs.Store.{ByEdge, by_edge, both_edges, max_runs, store_words_count, store_runs, store_rules}
use Rattle.model.proofs.AnswerLaws.{AllPass, value_inj, Steps, steps, then-first, then-second, checks→, →checks, pass_first, checks-both}
use Rattle.model.proofs.ReadLaws.{limits}
use Rattle.model.proofs.RunLaws.{runs-separated, runs_same, runs-test}
use Rattle.model.proofs.RunSizeLaws.{runs-size}
use Rattle.run_lists.specs.RunLists.{Sound, runs_in_words}
use Rattle.run_lists.proofs.MemberLaws.{sound-mono}
use Rattle.store_words.specs.Sound.{SoundWords}
use Rattle.store_words.proofs.SoundLaws.{sound-words, sound_more, edge-sound}
use Rattle.run_intersection.specs.Meets.{meets, in_both}
use Rattle.run_intersection.proofs.MeetLaws.{meets-runs}
use Rattle.viewer_places.specs.Viewer.{places_rule, seen, seen_held, seen_runs, viewer_totals_call, viewer_runs_call, viewer_fault_call}
use Rattle.viewer.specs.ViewAnswers.{look_rules, looked, Looked, asked_on}

module _ (file ws places : List ℕ) where
  more-rules : (N : Netlist) (rs : List Rule) → checks (store_rules (path_total N) ws ++ (places_rule N places ∷ rs)) ≡ (checks (look_rules N ws places) then checks rs)
  more-rules N rs =
      ap checks (sym (append_assoc (store_rules (path_total N) ws) (places_rule N places ∷ []) rs)) ∙ checks-both (look_rules N ws places) rs

  -- rules and steps after looking
  look_more : {A : Type 0} (rs : Netlist → List Rule) (f : Netlist → Answer A)
      → (read_netlist file into λ N. checks (store_rules (path_total N) ws ++ (places_rule N places ∷ rs N)) then f N)
      ≡ (looked file ws places into λ N. checks (rs N) then f N)
  unfolding looked
  look_more {A} rs f = go (read_netlist file)
    where
      step : (N : Netlist) (c : Answer (Unit {0})) → ((c then checks (rs N)) then f N) ≡ ((c then value N) into λ M. checks (rs M) then f M)
      step N (refused n) = refl
      step N (value u) = refl

      go : (m : Answer Netlist) → (m into λ N. checks (store_rules (path_total N) ws ++ (places_rule N places ∷ rs N)) then f N)
          ≡ ((m into λ N. checks (look_rules N ws places) then value N) into λ N. checks (rs N) then f N)
      go (refused n) = refl
      go (value N) = ap (λ (c : Answer (Unit {0})). c then f N) (more-rules N (rs N)) ∙ step N (checks (look_rules N ws places))

  abbrev totals_from : Netlist → Answer (ByEdge ℕ)
  totals_from N = value (by_edge (λ e. how_many (seen_held N places ws e) (path_total N)))

  abbrev full_rule : Netlist → List Rule
  full_rule N = (51, both_edges (λ e. leb (length (seen_runs N places ws e)) max_runs)) ∷ []

  abbrev runs_from : Netlist → Answer (ByEdge (List Run))
  runs_from N = value (by_edge (seen_runs N places ws))

  module _ (l : length ws ≡ store_words_count) where
    pub totals-as : viewer_totals_call file ws places ≡ (looked file ws places into totals_from)
    unfolding viewer_totals_call
    totals-as = rw (eq-eqb (length ws) store_words_count l) (look_more (λ N. []) totals_from)

    pub runs_as : (second : List ℕ) → length second ≡ store_words_count
        → viewer_runs_call file ws second places ≡ (looked file ws places into λ N. checks (full_rule N) then runs_from N)
    unfolding viewer_runs_call
    runs_as second m = rw (eq-eqb (length ws) store_words_count l, eq-eqb (length second) store_words_count m) (look_more full_rule runs_from)

    pub fault-as : (fault : ℕ) → viewer_fault_call file ws places fault ≡ (looked file ws places into λ N. asked_on (seen N places) ws (path_total N) fault)
    unfolding viewer_fault_call asked_on
    fault-as fault =
        rw (eq-eqb (length ws) store_words_count l)
        (look_more (λ N. (60, within 1 (2 * path_total N) fault) ∷ (90, seen N places (path_of_fault fault)) ∷ [])
        (λ N. value (in_runs (store_runs ws (edge_of_fault fault)) (path_of_fault fault))))

-- What looking leaves known
module _ {file ws places words : List ℕ} {n total : ℕ} (l : length ws ≡ store_words_count) (k : Looked file ws places words n total) where
  abbrev N : Netlist
  N = k.circuit

  abbrev T : ℕ
  T = path_total N

  parts : (read_netlist file ≡ value N) × AllPass (look_rules N ws places)
  unfolding looked
  parts =
      let s : Steps (read_netlist file) (λ M. checks (look_rules M ws places) then value M) N = steps (read_netlist file) (λ M. checks (look_rules M ws places) then value M) k.passes in
      let same : s.got ≡ N = value_inj (then-second (checks (look_rules s.got ws places)) (value s.got) s.second) in (
        s.first ∙ ap value same,
        subst (λ (M : Netlist). AllPass (look_rules M ws places)) same
            (checks→ (look_rules s.got ws places) (then-first (checks (look_rules s.got ws places)) (value s.got) s.second)),
      )

  total-fits : T ≤ 2 ^ 62
  total-fits = (limits file N parts.0).total_fits

  sound : SoundWords T ws
  sound =
      sound-words T ws l
      (sym (→checks (store_rules T ws) (pass_first (store_rules T ws) (places_rule N places ∷ []) parts.1)))

  pub look_sound : SoundWords (2 ^ 62) ws
  look_sound = sound_more T (2 ^ 62) ws total-fits sound

  pub paths-fit : total ≤ 2 ^ 62
  paths-fit = omega (arith, total-fits, k.total_is)

  own-sound : Sound T (runs_in_words words 0 n)
  own-sound = subst (Sound T) (sym k.runs) (runs-separated (seen N places) T)

  pub ranges-sound : Sound (2 ^ 62) (runs_in_words words 0 n)
  ranges-sound = sound-mono 1 T (2 ^ 62) (runs_in_words words 0 n) total-fits own-sound

  -- a number lies in the ranges exactly when he sees it
  pub own-seen : (j : ℕ) → 1 ≤ j → j ≤ T → in_runs (runs_in_words words 0 n) j ≡ seen N places j
  own-seen j h m = ap (λ (rs : List Run). in_runs rs j) k.runs ∙ runs-test (seen N places) T j h m

  -- what the ranges and an edge's runs have in common are the runs that he sees
  pub seen-meets : (e : Edge) → meets (runs_in_words words 0 n) (store_runs ws e) ≡ seen_runs N places ws e
  unfolding seen_held
  seen-meets e =
      meets-runs T (runs_in_words words 0 n) (store_runs ws e) own-sound (edge-sound sound e)
      ∙ runs_same (in_both (runs_in_words words 0 n) (store_runs ws e)) (seen_held N places ws e) T
      (λ j h m. ap (λ (b : Bool). b && in_runs (store_runs ws e) j) (own-seen j h m))

  pub seen-total : (e : Edge) → size (meets (runs_in_words words 0 n) (store_runs ws e)) ≡ how_many (seen_held N places ws e) T
  seen-total e = ap size (seen-meets e) ∙ runs-size (seen_held N places ws e) T
