-- The first line by the netlist's answer and the class's.
use Rattle.model.proofs.Prelude.{ℕ, ◌≡◌, ◌∙◌, ap, refl, sym, subst, true, Bool, false, not, List, rules, not-true, not-false}
use Rattle.model.specs.Base.{refused}
use Rattle.model.specs.Read.{within}
use Rattle.model.specs.Refusals.{refusal_number_of}
use Rattle.model.specs.declared.Refusal.{Refusal}
use Rattle.model.specs.declared.Refusal.TheVariants as why
use Rattle.netlist.specs.Answers.{LoadedTrue}
use Rattle.netlist.specs.declared.inner.Loaded.{Loaded}
use Rattle.netlist.proofs.LoadLaws.{loaded_legal, loaded_refused}
use Rattle.listing_lines.specs.ListingLines.{paths_line, refused_line_of}
use Rattle.text_buffer.specs.Written.{Written}
use Rattle.text_buffer.proofs.WrittenLaws.{written_as}
use Rattle.listing_head.specs.ListingHead.{listed_netlist, head_line, is_passed, PassedTables, ListedTrue, HeadTrue}
use Rattle.std.specs.Prelude.{Result, Ok, Err, Some, None}

-- The netlist, then the class
module _ (netlist : List ℕ) (class : ℕ) (r : Result Loaded Refusal) (t : LoadedTrue r netlist) where
  pub netlist-refused : (w : Refusal) → r ≡ Err w → ListedTrue (Err w) netlist class
  netlist-refused w e = rw (loaded_refused r netlist t w e) refl

  module _ (d : Loaded) (e : r ≡ Ok d) (known : Bool) (k : known ≡ within 1 2 class) where
    pub class-unknown : not known ≡ true → ListedTrue (Err why.UnknownClass) netlist class
    class-unknown n = rw (loaded_legal r netlist t d e).tables.legal (rw (sym k ∙ not-true known n) refl)

    pub both-passed : not known ≡ false → ListedTrue (Ok d) netlist class
    both-passed n =
        let l = loaded_legal r netlist t d e in
        record { load = l; is = rw l.tables.legal (rw (sym k ∙ not-false known n) refl) }

pub ruleset listed-cases = (netlist-refused, class-unknown, both-passed, rules)

-- The line
module _ (netlist : List ℕ) (class : ℕ) (r : Result Loaded Refusal) (t : ListedTrue r netlist class) {out out' : List ℕ} {end : ℕ} where
  pub head-refused : (w : Refusal) → r ≡ Err w → Written out out' 0 (refused_line_of (refusal_number_of w)) end
      → HeadTrue (record { end = end; tables = None }) netlist class out out'
  unfolding head_line
  head-refused w e p =
      let l : listed_netlist netlist class ≡ refused (refusal_number_of w) = subst (λ (x : Result Loaded Refusal). ListedTrue x netlist class) e t in
      record { line = written_as (sym (ap head_line l)) p; tables_are = ap is_passed l }

  pub head_passed : (d : Loaded) → r ≡ Ok d → Written out out' 0 (paths_line d.total) end
      → HeadTrue (record { end = end; tables = Some d }) netlist class out out'
  unfolding head_line
  head_passed d e p =
      let l : PassedTables netlist class d = subst (λ (x : Result Loaded Refusal). ListedTrue x netlist class) e t in
      record {
        line = written_as (ap paths_line l.load.total_is ∙ sym (ap head_line l.is)) p;
        tables_are = (ap is_passed l.is, record { circuit = l.load.circuit; tables = l.load.tables });
      }

pub ruleset head-cases = (head-refused, head_passed, rules)
