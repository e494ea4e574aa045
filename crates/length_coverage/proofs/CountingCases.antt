-- The cases of counting the rows of a legal netlist and a sound store: one path is too long, or the rows are those of the definition.
use Rattle.model.proofs.Prelude.{ℕ, ◌<◌, ◌^◌, ◌/◌, ◌≡◌, ◌∙◌, ap, refl, sym, subst, ap₂, true, false, List, [], ◌∷◌, length, eqb, arith, ne_eqb}
use Rattle.model.proofs.Prelude.{eq-eqb}
use Rattle.model.specs.Base.{Answer, refused, value, sum_of}
use Rattle.model.specs.Netlist.{Netlist, path_total}
use Rattle.model.specs.Path.{Edge, rising, falling}
use Rattle.model.specs.Runs.{Run, in_runs}
use Rattle.model.specs.Read.{read_netlist}
use Rattle.model.specs.Store.{ByEdge, by_edge, run_count, store_runs}
use Rattle.model.proofs.AnswerLaws.{value_inj}
use Rattle.model.proofs.ReadLaws.{limits}
use Rattle.netlist.specs.Tables.{SomeCircuit}
use Rattle.netlist.specs.declared.inner.Shape.{Shape}
use Rattle.run_lists.specs.RunLists.{Sound, runs_in_words}
use Rattle.store_words.specs.Sound.{FewRuns, edge_words}
use Rattle.store_words.proofs.SoundLaws.{edge-sound}
use Rattle.store_words.proofs.RunPlaceLaws.{edge-words-runs, edge-words-fit}
use Rattle.length_rows.specs.Lengths.{lengths, row, paths_up_to, held_up_to, Rows, rows_of, length_rule}
use Rattle.length_rows.proofs.RowLaws.{row-length}
use Rattle.length_rows.proofs.LengthsHold.{paths-add, too_long}
use Rattle.length_ranks.specs.NetRows.{NetRows, Ranked}
use Rattle.length_coverage.specs.LengthAnswers.{rows_in, lengths_of, lengths_on, Countable, CountableRows, in_words, RunsRanked}
use Rattle.std.specs.Prelude.{Ok}

-- The words of an edge's runs
module _ (ws : List ℕ) (f : FewRuns ws) (e : Edge) where
  many : length (edge_words ws e) / 2 ≡ run_count ws e
  many = omega (arith, edge-words-fit ws e f)

  runs-are : runs_in_words (edge_words ws e) 0 (length (edge_words ws e) / 2) ≡ store_runs ws e
  runs-are = ap (λ k. runs_in_words (edge_words ws e) 0 k) many ∙ edge-words-runs ws e

module _ {file ps cs : List ℕ} {shape : Shape} {total : ℕ} {ws : List ℕ} {rows : List (List ℕ)} (k : CountableRows file ps cs shape total ws rows) where
  abbrev C : Netlist
  C = k.known.circuit

  read : read_netlist file ≡ value C
  read = k.known.tables.legal

  pub total-ranked : Ranked file ps cs shape rows total
  total-ranked = record { known = k.known; high = omega (arith, k.total_is) }

  pub edge-ranked : (e : Edge) (part : List ℕ) → part ≡ edge_words ws e → RunsRanked file ps cs shape rows part
  edge-ranked e part ep = record {
    known = k.known;
    apart = subst (λ (x : List ℕ). Sound (path_total C) (runs_in_words x 0 (length x / 2))) (sym ep)
        (subst (λ (x : List Run). Sound (path_total C) x) (sym (runs-are ws k.sound.few e))
        (subst (λ n. Sound n (store_runs ws e)) k.total_is (edge-sound k.sound e)));
  }

  module _ {paths : List ℕ} (ep : (M : Netlist) → read_netlist file ≡ value M → paths ≡ row (λ l. paths_up_to M l total)) where
    paths-are : (e : Edge) → paths ≡ (rows_of C ws e).paths
    unfolding rows_of
    paths-are e = ep C read ∙ ap (λ n. row (λ l. paths_up_to C l n)) k.total_is

    pub paths-long : length paths ≡ lengths
    paths-long = ap (λ (x : List ℕ). length x) (ep C read) ∙ row-length (λ l. paths_up_to C l total)

    pub paths-fit : sum_of paths < 2 ^ 64
    paths-fit = omega (arith, ap sum_of (paths-are rising), paths-add C ws rising, (limits file C read).total_fits)

    module _ {sum : ℕ} (es : sum ≡ sum_of paths) where
      rule_is : (length_rule C).1 ≡ eqb sum total
      rule_is = too_long C ws rising ∙ ap₂ eqb (sym (es ∙ ap sum_of (paths-are rising))) (sym k.total_is)

      every : {a : Answer (ByEdge Rows)} → a ≡ lengths_on C ws → (M : Netlist) → read_netlist file ≡ value M → a ≡ lengths_on M ws
      every {a} p M e = subst (λ (K : Netlist). a ≡ lengths_on K ws) (value_inj (sym read ∙ e)) p

      pub one-too_long : (sum ≡ total → ⊥) → (M : Netlist) → read_netlist file ≡ value M → refused 84 ≡ lengths_on M ws
      unfolding lengths_on
      one-too_long ne =
          let no : (length_rule C).1 ≡ false = rule_is ∙ ne_eqb sum total ne in
          let refusal : lengths_on C ws ≡ refused 84 = rw no refl in
          every (sym refusal)

      module _ (eq : sum ≡ total) {up down : List ℕ} (eu : up ≡ edge_words ws rising) (ed : down ≡ edge_words ws falling) {rise fall : List ℕ}
          (er : (M : Netlist) → read_netlist file ≡ value M → rise ≡ row (λ l. held_up_to M (in_words up) l (path_total M)))
          (ef : (M : Netlist) → read_netlist file ≡ value M → fall ≡ row (λ l. held_up_to M (in_words down) l (path_total M))) where
        rows_are : (e : Edge) (part held : List ℕ) → part ≡ edge_words ws e → held ≡ row (λ l. held_up_to C (in_words part) l (path_total C))
            → rows_in (paths ∷ held ∷ []) ≡ rows_of C ws e
        unfolding rows_of
        rows_are e part held q p =
            let runs : runs_in_words part 0 (length part / 2) ≡ store_runs ws e =
            ap (λ (x : List ℕ). runs_in_words x 0 (length x / 2)) q ∙ runs-are ws k.sound.few e in
            let held-is : held ≡ (rows_of C ws e).held = p ∙ ap (λ (x : List Run). row (λ l. held_up_to C (in_runs x) l (path_total C))) runs in
            λ i. record { paths = paths-are e i; held = held-is i }

        pub all-counted : (M : Netlist) → read_netlist file ≡ value M
            → lengths_of (Ok (record { rising = paths ∷ rise ∷ []; falling = paths ∷ fall ∷ [] })) ≡ lengths_on M ws
        unfolding lengths_on
        all-counted =
            let yes : (length_rule C).1 ≡ true = rule_is ∙ eq-eqb sum total eq in
            let taken : lengths_on C ws ≡ value (by_edge (rows_of C ws)) = rw yes refl in
            let r = rows_are rising up rise eu (er C read) in
            let f = rows_are falling down fall ed (ef C read) in
            let both : lengths_of (Ok (record { rising = paths ∷ rise ∷ []; falling = paths ∷ fall ∷ [] })) ≡ value (by_edge (rows_of C ws)) =
            λ i. value (record { on_rising = r i; on_falling = f i }) in
            every (both ∙ sym taken)

-- The rows of the nets first
module _ {file ps cs : List ℕ} {shape : Shape} {total : ℕ} {ws : List ℕ} (k : Countable file ps cs shape total ws) where
  pub some-circuit : SomeCircuit file ps shape
  some-circuit = record { counts = cs; known = record { circuit = k.circuit; tables = k.tables } }

  pub rows-known : {rows : List (List ℕ)} → ((M : Netlist) → read_netlist file ≡ value M → NetRows M shape.nets rows)
      → CountableRows file ps cs shape total ws rows
  rows-known e = record {
    known = record { circuit = k.circuit; tables = k.tables; rows_are_of = e k.circuit k.tables.legal };
    total_is = k.total_is;
    sound = k.sound;
  }
