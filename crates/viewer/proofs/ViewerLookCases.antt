-- The cases of looking: the netlist, the store's words and the places are refused in this order, then the ranges are made.
use Rattle.model.proofs.Prelude.{ℕ, ◌≤◌, ◌^◌, ◌≡◌, ◌∙◌, ap, refl, sym, true, Bool, false, not, List, [], ◌∷◌, length, arith, rules, not-true}
use Rattle.model.proofs.Prelude.{not-false}
use Rattle.model.specs.Base.{Answer, refused, value, ◌then◌, checks}
use Rattle.model.specs.Netlist.{Netlist, path_total}
use Rattle.model.specs.Runs.{runs_among}
use Rattle.model.specs.Read.{read_netlist}
use Rattle.model.specs.Store.{store_words_count, store_rules}
use Rattle.model.specs.Refusals.{refusal_number_of}
use Rattle.model.specs.declared.Refusal.{Refusal}
use Rattle.model.proofs.BoolLaws.{true→T}
use Rattle.model.proofs.AnswerLaws.{checks-both}
use Rattle.model.proofs.ReadLaws.{limits}
use Rattle.netlist.specs.Answers.{LegalLoad, LoadTrue}
use Rattle.netlist.specs.declared.inner.Shape.{Shape}
use Rattle.netlist.proofs.LoadCases.{zeros-are}
use Rattle.run_lists.specs.RunLists.{runs_in_words}
use Rattle.viewer_places.specs.Viewer.{places_fit_of, places_rule, seen}
use Rattle.viewer_ranges.specs.Ranges.{most_places, Viewable}
use Rattle.viewer.specs.ViewAnswers.{look_rules, looked, Opened, LookTrue}
use Rattle.std.specs.Prelude.{Result, Ok, Err}
use Rattle.netlist.specs.declared.inner.LegalNetlist.{LegalNetlist}
use Rattle.model.specs.Returned.{answer_of}

-- The store's words and the places, on the tables of a legal netlist
module _ {file cs : List ℕ} {shape : Shape} {total : ℕ} {ws : List ℕ} (o : Opened file cs shape total ws) where
  abbrev N : Netlist
  N = o.circuit

  pub open_fits : total ≤ 2 ^ 62
  open_fits = omega (arith, o.total_is, (limits file N o.tables.legal).total_fits)

  pub open_long : length ws ≡ store_words_count
  open_long = o.long

  pub look_viewable : (places : List ℕ) {fit : Bool} → fit ≡ places_fit_of shape.outputs places → not fit ≡ false → Viewable file cs shape places
  look_viewable places {fit} judged f = record {
    circuit = N;
    positions = o.positions;
    tables = o.tables;
    fits = true→T (places_fit_of shape.outputs places) (sym judged ∙ not-false fit f);
  }

  module _ (c : Result (Unit {0}) Refusal) (checked : answer_of c ≡ checks (store_rules total ws)) (places words : List ℕ) where
    on-words : looked file ws places ≡ (answer_of c then checks (places_rule N places ∷ []) then value N)
    unfolding looked
    on-words =
        let is : answer_of c ≡ checks (store_rules (path_total N) ws) = checked ∙ ap (λ (n : ℕ). checks (store_rules n ws)) o.total_is in
        let begun : looked file ws places ≡ (checks (look_rules N ws places) then value N) = rw o.tables.legal refl in
        begun
        ∙ ap (λ (x : Answer (Unit {0})). x then value N) (checks-both (store_rules (path_total N) ws) (places_rule N places ∷ []))
        ∙ ap (λ (x : Answer (Unit {0})). x then checks (places_rule N places ∷ []) then value N) (sym is)

    pub look_store : (w : Refusal) → c ≡ Err w → LookTrue (Err w) file ws places words
    look_store w e = on-words ∙ ap (λ (x : Result (Unit {0}) Refusal). answer_of x then checks (places_rule N places ∷ []) then value N) e

    module _ (e : c ≡ Ok tt) {fit : Bool} (judged : fit ≡ places_fit_of shape.outputs places) where
      on-places : looked file ws places ≡ (checks (places_rule N places ∷ []) then value N)
      on-places = on-words ∙ ap (λ (x : Result (Unit {0}) Refusal). answer_of x then checks (places_rule N places ∷ []) then value N) e

      rule_is : fit ≡ (places_rule N places).1
      rule_is = judged ∙ ap (λ (n : ℕ). places_fit_of n places) o.tables.outputs_are

      pub look_places : not fit ≡ true → looked file ws places ≡ refused 89
      look_places f = on-places ∙ rw (sym rule_is ∙ not-true fit f) refl

      pub look_seen : not fit ≡ false → {n : ℕ}
          → ((M : Netlist) → read_netlist file ≡ value M → runs_in_words words 0 n ≡ runs_among (seen M places) (path_total M)) → n ≤ most_places
          → LookTrue (Ok (n, total)) file ws places words
      look_seen f r few = record {
        circuit = N;
        passes = on-places ∙ rw (sym rule_is ∙ not-false fit f) refl;
        total_is = o.total_is;
        runs = r N o.tables.legal;
        few = few;
      }

-- The netlist
module _ (file cs ps : List ℕ) (a : Result LegalNetlist Refusal) (la : LoadTrue a file cs ps) (ws : List ℕ) where
  pub look_netlist : (places words : List ℕ) (w : Refusal) → a ≡ Err w → LookTrue (Err w) file ws places words
  unfolding looked
  look_netlist places words w e =
      let n : read_netlist file ≡ refused (refusal_number_of w) = rw e at la in
      rw n refl

  pub look_opened : length ws ≡ store_words_count → {l0 : LegalNetlist} → a ≡ Ok l0 → Opened file cs l0.shape l0.total ws
  look_opened l {l0} e =
      let is : LegalLoad file cs ps l0.shape l0.total = rw e at la in
      record { circuit = is.circuit; positions = ps; tables = is.tables; total_is = is.total_is; long = l }

pub ruleset look-cases = (zeros-are, open_fits, open_long, look_store, look_places, look_viewable, look_seen, look_netlist, look_opened, rules)
