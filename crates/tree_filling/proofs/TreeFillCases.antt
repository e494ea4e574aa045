-- The cases of filling the trees of a store: lent memory, the netlist and the store's words are refused in this order, then both are filled.
use Rattle.model.proofs.Prelude.{ℕ, ◌≤◌, ◌<◌, ◌^◌, ◌/◌, ◌≡◌, ◌∙◌, ap, refl, sym, subst, List, [], ◌∷◌, length, leb→le, eqb→eq, arith, rules, le-leb}
use Rattle.model.proofs.Prelude.{lt-leb, ne_eqb, eq-eqb}
use Rattle.model.specs.Base.{Answer, refused, value, ◌into◌, ◌then◌, Rule, checks}
use Rattle.model.specs.Netlist.{Netlist, path_total}
use Rattle.model.specs.Path.{Edge, rising, falling}
use Rattle.model.specs.Read.{read_netlist}
use Rattle.model.specs.Refusals.{refusal_number_of}
use Rattle.model.specs.Runs.{Run}
use Rattle.model.specs.Store.{store_words_count, store_runs, store_rules, run_count}
use Rattle.model.specs.Calls.{store_rule, survey_call}
use Rattle.model.specs.declared.Refusal.{Refusal}
use Rattle.model.specs.declared.Refusal.TheVariants as why
use Rattle.model.proofs.AnswerLaws.{not_refused, value_inj, then-first, then-second, steps, checks→}
use Rattle.model.proofs.ReadLaws.{limits}
use Rattle.netlist.specs.Answers.{surveyed_of}
use Rattle.netlist.specs.declared.NetlistSurvey.{NetlistSurvey}
use Rattle.netlist.proofs.LoadLaws.{legal-survey, refused-survey, paths-fit}
use Rattle.run_lists.specs.RunLists.{runs_in_words}
use Rattle.store_words.specs.Sound.{SoundWords, FewRuns, edge_words}
use Rattle.store_words.proofs.RunPlaceLaws.{edge-words-runs, edge-words-fit}
use Rattle.store_words.proofs.SoundLaws.{checked_sound, edge-sound, edge_few}
use Rattle.tree_words.specs.TreeLayout.{tree_words_count, tree_runs}
use Rattle.tree_words.specs.Calls.{length_rule, Holding}
use Rattle.tree_words.specs.Nodes.{Sep, SoundTree}
use Rattle.tree_filling.specs.TreesOfStore.{fill_on, fill_call, FilledBy, FillTrue, Fillable, TreesReady}
use Rattle.std.specs.Prelude.{Result, Ok, Err}
use Rattle.model.specs.Returned.{answer_of}

-- ---- a refusal leaves the words

as_found : (call : Answer (List Run)) (n : ℕ) (ws : List ℕ) → call ≡ refused n → Holding call ws ws
as_found call n ws e = record {
  same_length_of = refl;
  past = refl;
  sound = λ rs q. absurd (not_refused (sym e ∙ q));
  held = λ rs q. absurd (not_refused (sym e ∙ q));
  refusal = λ k q. refl;
}

refused-by : (call : Answer ℕ) (w : Refusal) (store up down : List ℕ) → call ≡ refused (refusal_number_of w) → FilledBy call (Err w) store up up down down
refused-by call w store up down e = record {
  answer = sym e;
  on_rising = as_found (call then value (store_runs store rising)) (refusal_number_of w) up (ap (λ (x : Answer ℕ). x then value (store_runs store rising)) e);
  on_falling = as_found (call then value (store_runs store falling)) (refusal_number_of w) down (ap (λ (x : Answer ℕ). x then value (store_runs store falling)) e);
}

-- ---- once the netlist is read

-- the words of an edge's runs
part-runs : {store part : List ℕ} → FewRuns store → (e : Edge) → part ≡ edge_words store e → runs_in_words part 0 (length part / 2) ≡ store_runs store e
part-runs {store} {part} few e q =
    let many : length part / 2 ≡ run_count store e = omega (arith, ap (length {A = ℕ}) q, edge-words-fit store e few) in
    ap (λ (k : ℕ). runs_in_words part 0 k) many
    ∙ ap (λ (l : List ℕ). runs_in_words l 0 (run_count store e)) q
    ∙ edge-words-runs store e

module _ (paths : ℕ) (store : List ℕ) (l : length store ≡ store_words_count) (c : Result (Unit {0}) Refusal) (checked : answer_of c ≡ checks (store_rules paths store)) where
  pub both-refused : (up down : List ℕ) (w : Refusal) → c ≡ Err w → FilledBy (fill_on paths store) (Err w) store up up down down
  unfolding fill_on
  both-refused up down w e = refused-by (fill_on paths store) w store up down (rw (sym checked ∙ ap answer_of e) refl)

  module _ (fits : paths ≤ 2 ^ 62) (k : c ≡ Ok tt) where
    sound : SoundWords (2 ^ 62) store
    sound = checked_sound paths store c checked l fits k

    pub few_words : FewRuns store
    few_words = sound.few

    fillable : (e : Edge) {part ws : List ℕ} → part ≡ edge_words store e → tree_words_count ≤ length ws → Fillable part ws
    fillable e {part} {ws} q p = record {
      apart = subst (λ (rs : List Run). Sep rs) (sym (part-runs sound.few e q)) (edge-sound sound e);
      few = omega (arith, ap (length {A = ℕ}) q, edge-words-fit store e sound.few, edge_few sound.few e);
      long = p;
    }

    pub rising-fillable : {part ws : List ℕ} → part ≡ edge_words store rising → tree_words_count ≤ length ws → Fillable part ws
    rising-fillable = fillable rising

    pub falling-fillable : {part ws : List ℕ} → part ≡ edge_words store falling → tree_words_count ≤ length ws → Fillable part ws
    falling-fillable = fillable falling

    taken : fill_on paths store ≡ value paths
    unfolding fill_on
    taken = rw (sym checked ∙ ap answer_of k) refl

    leaves : (e : Edge) {part ws ws' : List ℕ} → part ≡ edge_words store e → Holding (value (runs_in_words part 0 (length part / 2))) ws ws'
        → Holding (fill_on paths store then value (store_runs store e)) ws ws'
    leaves e {part} {ws} {ws'} q h =
        let call = ap value (part-runs sound.few e q) ∙ ap (λ (x : Answer ℕ). x then value (store_runs store e)) (sym taken) in
        subst (λ (x : Answer (List Run)). Holding x ws ws') call h

    pub both-filled : {partUp partDown up up' down down' : List ℕ} → partUp ≡ edge_words store rising
        → Holding (value (runs_in_words partUp 0 (length partUp / 2))) up up'
        → partDown ≡ edge_words store falling
        → Holding (value (runs_in_words partDown 0 (length partDown / 2))) down down'
        → FilledBy (fill_on paths store) (Ok paths) store up up' down down'
    both-filled qu hu qd hd = record { answer = sym taken; on_rising = leaves rising qu hu; on_falling = leaves falling qd hd }

pub ruleset both-cases = (both-refused, few_words, rising-fillable, falling-fillable, both-filled, rules)

-- ---- the call

module _ (netlist store up down : List ℕ) where
  pub trees-store : (length store ≡ store_words_count → ⊥) → FillTrue (Err why.StoreLength) netlist store up up down down
  unfolding fill_call
  trees-store d = refused-by (fill_call netlist store up down) why.StoreLength store up down (rw (ne_eqb (length store) store_words_count d) refl)

  module _ (l : length store ≡ store_words_count) where
    pub trees-up : length up < tree_words_count → FillTrue (Err why.TreeLength) netlist store up up down down
    unfolding fill_call
    trees-up h =
        refused-by (fill_call netlist store up down) why.TreeLength store up down (rw (eq-eqb (length store) store_words_count l, lt-leb tree_words_count (length up) h) refl)

    module _ (p : tree_words_count ≤ length up) where
      pub trees-down : length down < tree_words_count → FillTrue (Err why.TreeLength) netlist store up up down down
      unfolding fill_call
      trees-down h =
          refused-by (fill_call netlist store up down) why.TreeLength store up down
          (rw (eq-eqb (length store) store_words_count l, le-leb tree_words_count (length up) p, lt-leb tree_words_count (length down) h) refl)

      module _ (q : tree_words_count ≤ length down) (r : Result NetlistSurvey Refusal) (t : surveyed_of r ≡ survey_call netlist) where
        passed : fill_call netlist store up down ≡ (read_netlist netlist into λ N. fill_on (path_total N) store)
        unfolding fill_call
        passed = rw (eq-eqb (length store) store_words_count l, le-leb tree_words_count (length up) p, le-leb tree_words_count (length down) q) refl

        pub trees-netlist : (w : Refusal) → r ≡ Err w → FillTrue (Err w) netlist store up up down down
        trees-netlist w e =
            refused-by (fill_call netlist store up down) w store up down
            (passed ∙ rw (refused-survey netlist r t w e) refl)

        pub trees-legal : (d : NetlistSurvey) → r ≡ Ok d → {a : (Result ℕ Refusal)} {up' down' : List ℕ} → FilledBy (fill_on d.total store) a store up up' down down'
            → FillTrue a netlist store up up' down down'
        trees-legal d e {a} {up'} {down'} f =
            let s = legal-survey netlist r t d e in
            let call : fill_on d.total store ≡ fill_call netlist store up down =
            ap (λ (n : ℕ). fill_on n store) s.total_is ∙ sym (passed ∙ rw s.is_read refl) in
            subst (λ (x : Answer ℕ). FilledBy x a store up up' down down') call f

pub ruleset trees-cases = (trees-store, trees-up, trees-down, trees-netlist, paths-fit, trees-legal, rules)

-- ---- trees that were filled can be asked

-- what a call that was not refused found
pub record Found (netlist store up down : List ℕ) (paths : ℕ) : Type 0 where
  pub circuit : Netlist
  pub is_read : read_netlist netlist ≡ value circuit
  pub total : path_total circuit ≡ paths
  pub store_long_of : length store ≡ store_words_count
  pub up_long : tree_words_count ≤ length up
  pub down_long : tree_words_count ≤ length down
  pub sound_store : checks (store_rules (path_total circuit) store) ≡ value tt

pub found_all : (netlist store up down : List ℕ) {paths : ℕ} → fill_call netlist store up down ≡ value paths → Found netlist store up down paths
unfolding fill_call fill_on
found_all netlist store up down {paths} e =
    let lent : List Rule = store_rule store ∷ length_rule up ∷ length_rule down ∷ [] in
    let s = steps (checks lent then read_netlist netlist) (λ N. checks (store_rules (path_total N) store) then value (path_total N)) e in
    let N = s.got in
    let passed = checks→ lent (then-first (checks lent) (read_netlist netlist) s.first) in
    record {
      circuit = N;
      is_read = then-second (checks lent) (read_netlist netlist) s.first;
      total = value_inj (then-second (checks (store_rules (path_total N) store)) (value (path_total N)) s.second);
      store_long_of = eqb→eq (length store) store_words_count passed.0;
      up_long = leb→le tree_words_count (length up) passed.1.0;
      down_long = leb→le tree_words_count (length down) passed.1.1.0;
      sound_store = (then-first (checks (store_rules (path_total N) store)) (value (path_total N)) s.second).is;
    }

module _ {call : Answer ℕ} {paths : ℕ} (e : call ≡ value paths) (rs : List Run) {ws ws' : List ℕ} (h : Holding (call then value rs) ws ws') where
  held-call : (call then value rs) ≡ value rs
  held-call = ap (λ (x : Answer ℕ). x then value rs) e

  pub filled-sound : tree_words_count ≤ length ws → SoundTree ws'
  filled-sound p = record { long = omega (arith, p, h.same_length_of); sound = h.sound rs held-call }

  pub filled_runs : tree_runs ws' ≡ rs
  filled_runs = h.held rs held-call

pub trees-ready : (r : Result ℕ Refusal) (netlist store up up' down down' : List ℕ) → FillTrue r netlist store up up' down down' → (paths : ℕ) → r ≡ Ok paths
    → TreesReady paths up' down'
trees-ready r netlist store up up' down down' f paths k =
    let e : fill_call netlist store up down ≡ value paths = sym f.answer ∙ ap answer_of k in
    let found = found_all netlist store up down e in
    record {
      few = omega (arith, found.total, (limits netlist found.circuit found.is_read).total_fits);
      up_sound = filled-sound e (store_runs store rising) f.on_rising found.up_long;
      down_sound = filled-sound e (store_runs store falling) f.on_falling found.down_long;
    }
