-- The cases of the call: store length, netlist and the store's words are refused in this order, then the rows.
use Rattle.model.proofs.Prelude.{ℕ, ◌≤◌, ◌^◌, ◌≡◌, ◌∙◌, ap, refl, sym, subst, List, [], ◌∷◌, ◌++◌, length, arith, rules, ne_eqb, eq-eqb}
use Rattle.model.specs.Base.{Answer, refused, value, ◌then◌, checks}
use Rattle.model.specs.Netlist.{Netlist, path_total}
use Rattle.model.specs.Read.{read_netlist}
use Rattle.model.specs.Refusals.{refusal_number_of}
use Rattle.model.specs.Store.{ByEdge, by_edge, store_words_count, store_rules}
use Rattle.model.specs.declared.Refusal.{Refusal}
use Rattle.model.proofs.AnswerLaws.{checks-both}
use Rattle.model.proofs.ReadLaws.{limits}
use Rattle.netlist.specs.Answers.{LegalLoad, LoadTrue}
use Rattle.netlist.proofs.LoadCases.{zeros-are}
use Rattle.store_words.proofs.SoundLaws.{sound-words}
use Rattle.length_rows.specs.Lengths.{Rows, rows_of, length_rule, lengths_call}
use Rattle.length_coverage.specs.LengthAnswers.{lengths_of, lengths_on, Countable}
use Rattle.length_coverage.specs.declared.LengthRows.{LengthRows}
use Rattle.std.specs.Prelude.{Result, Ok, Err}
use Rattle.netlist.specs.declared.inner.LegalNetlist.{LegalNetlist}
use Rattle.model.specs.Returned.{answer_of}

pub call-short : (file ws : List ℕ) → (length ws ≡ store_words_count → ⊥) → refused 1 ≡ lengths_call file ws
unfolding lengths_call
call-short file ws d = rw (ne_eqb (length ws) store_words_count d) refl

module _ (file ws : List ℕ) (l : length ws ≡ store_words_count) (cs ps : List ℕ) (a : Result LegalNetlist Refusal) (la : LoadTrue a file cs ps) where
  pub call-netlist : (w : Refusal) → a ≡ Err w → refused (refusal_number_of w) ≡ lengths_call file ws
  unfolding lengths_call
  call-netlist w e =
      let n : read_netlist file ≡ refused (refusal_number_of w) = rw e at la in
      rw (eq-eqb (length ws) store_words_count l, n) refl

  module _ (l0 : LegalNetlist) (e : a ≡ Ok l0) where
    is : LegalLoad file cs ps l0.shape l0.total
    is = rw e at la

    abbrev N : Netlist
    N = is.circuit

    pub call-fit : l0.total ≤ 2 ^ 62
    call-fit = omega (arith, is.total_is, (limits file N is.tables.legal).total_fits)

    module _ (c : Result (Unit {0}) Refusal) (checked : answer_of c ≡ checks (store_rules l0.total ws)) where
      -- the call, from what the checks of the store's words answer
      on-words : lengths_call file ws ≡ (answer_of c then checks (length_rule N ∷ []) then value (by_edge (rows_of N ws)))
      unfolding lengths_call
      on-words =
          let rows : Answer (ByEdge Rows) = value (by_edge (rows_of N ws)) in
          let words : answer_of c ≡ checks (store_rules (path_total N) ws) = checked ∙ ap (λ n. checks (store_rules n ws)) is.total_is in
          let begun : lengths_call file ws ≡ (checks (store_rules (path_total N) ws ++ (length_rule N ∷ [])) then rows) =
          rw (eq-eqb (length ws) store_words_count l, is.tables.legal) refl in
          begun
          ∙ ap (λ (x : Answer (Unit {0})). x then rows) (checks-both (store_rules (path_total N) ws) (length_rule N ∷ []))
          ∙ ap (λ (x : Answer (Unit {0})). x then checks (length_rule N ∷ []) then rows) (sym words)

      pub call-store : (w : Refusal) → c ≡ Err w → refused (refusal_number_of w) ≡ lengths_call file ws
      call-store w k =
          sym
          (on-words ∙ ap (λ (x : Result (Unit {0}) Refusal). answer_of x then checks (length_rule N ∷ []) then value (by_edge (rows_of N ws))) k)

      module _ (k : c ≡ Ok tt) where
        pub call-countable : Countable file ps cs l0.shape l0.total ws
        call-countable = record {
          circuit = N;
          tables = is.tables;
          total_is = is.total_is;
          sound = sound-words l0.total ws l (sym (ap answer_of k) ∙ checked);
        }

        pub call-counted : (r : Result LengthRows Refusal) → ((M : Netlist) → read_netlist file ≡ value M → lengths_of r ≡ lengths_on M ws)
            → lengths_of r ≡ lengths_call file ws
        unfolding lengths_on
        call-counted r f =
            f N is.tables.legal
            ∙ sym
            (on-words ∙ ap (λ (x : Result (Unit {0}) Refusal). answer_of x then checks (length_rule N ∷ []) then value (by_edge (rows_of N ws))) k)

pub ruleset call-cases = (zeros-are, call-short, call-netlist, call-fit, call-store, call-countable, call-counted, rules)
