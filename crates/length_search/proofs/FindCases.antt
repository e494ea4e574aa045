-- The cases of the search for the first path of a length: how many there are up to a number, and two numbers that draw together.
use Rattle.model.proofs.Prelude.{ℕ, ◌≤◌, ◌<◌, ◌+◌, ◌-◌, suc, ◌/◌, ◌≡◌, ◌∙◌, ap, sym, true, Bool, false, List, get_or, arith, rules}
use mir.Val.{Fits}
use mir.Syntax.{w64}
use Rattle.model.specs.Base.{value}
use Rattle.model.specs.Netlist.{Netlist}
use Rattle.model.specs.Read.{read_netlist}
use Rattle.model.proofs.AnswerLaws.{value_inj}
use Rattle.model.proofs.ReadLaws.{limits}
use Rattle.netlist.specs.declared.inner.Shape.{Shape}
use Rattle.length_rows.specs.Lengths.{lengths, row, of_length, paths_up_to}
use Rattle.length_rows.proofs.RowLaws.{row_at}
use Rattle.length_rows.proofs.PathLengthLaws.{paths-grow}
use Rattle.length_ranks.specs.NetRows.{Ranked}
use Rattle.length_search.specs.Untested.{first_of}
use Rattle.length_search.specs.Tasks.{Somewhere}
use Rattle.length_search.proofs.FirstLaws.{first-is, none_between, one_more}

-- one number of a row
pub rank_at : (file : List ℕ) (l number : ℕ) → l < lengths → (ns : List ℕ) → ((N : Netlist) → read_netlist file ≡ value N → ns ≡ row (λ k. paths_up_to N k number))
    → (N : Netlist) → read_netlist file ≡ value N → get_or ns l 0 ≡ paths_up_to N l number
rank_at file l number h ns f N e = ap (λ (x : List ℕ). get_or x l 0) (f N e) ∙ row_at (λ k. paths_up_to N k number) l h

pub ruleset rank-cases = (rank_at, rules)

-- Up to `under` there is no path of the length over `low`, up to `over` there is one
pub record Drawing (file ps cs : List ℕ) (shape : Shape) (rows : List (List ℕ)) (l low high before under over : ℕ) : Type 0 where
  pub task : Somewhere file ps cs shape rows l low high
  pub before_is : before ≡ paths_up_to task.ranked.known.circuit l low
  pub begun : low ≤ under
  pub order : under < over
  pub most : over ≤ high
  pub not_yet_of : paths_up_to task.ranked.known.circuit l under ≤ before
  pub some : before < paths_up_to task.ranked.known.circuit l over

module _ {file ps cs : List ℕ} {shape : Shape} {rows : List (List ℕ)} {l low high : ℕ} where
  module _ (t : Somewhere file ps cs shape rows l low high) where
    abbrev C : Netlist
    C = t.ranked.known.circuit

    pub find_ranked : Ranked file ps cs shape rows low
    find_ranked = record { known = t.ranked.known; high = omega (arith, t.ranked.high, t.order) }

    pub find_short : l < lengths
    find_short = t.short

    pub find_start : (before : ℕ) → ((N : Netlist) → read_netlist file ≡ value N → before ≡ paths_up_to N l low)
        → Drawing file ps cs shape rows l low high before low high
    find_start before f =
        let b : before ≡ paths_up_to C l low = f C t.ranked.known.tables.legal in
        let apart : low < high =
        Rattle.model.proofs.BoolLaws.cases high low (λ h. absurd (omega (arith, t.some, paths-grow C l {m = high} {n = low} h))) (λ h. h) in
        record {
          task = t;
          before_is = b;
          begun = omega arith;
          order = apart;
          most = omega arith;
          not_yet_of = omega arith;
          some = omega (arith, t.some);
        }

  module _ {before under over : ℕ} (d : Drawing file ps cs shape rows l low high before under over) where
    abbrev N : Netlist
    N = d.task.ranked.known.circuit

    legal : read_netlist file ≡ value N
    legal = d.task.ranked.known.tables.legal

    pub draw_back : under ≤ over
    draw_back = omega (arith, d.order)

    pub draw_fits : Fits w64 (under + (over - under) / 2)
    draw_fits = record { fits = omega (arith, d.order, d.most, d.task.ranked.high, (limits file N legal).total_fits) }

    pub draw_ranked : Ranked file ps cs shape rows (under + (over - under) / 2)
    draw_ranked = record { known = d.task.ranked.known; high = omega (arith, d.order, d.most, d.task.ranked.high) }

    pub draw_short : l < lengths
    draw_short = d.task.short

    module _ (apart : 1 < over - under) (there : ℕ) (f : (M : Netlist) → read_netlist file ≡ value M → there ≡ paths_up_to M l (under + (over - under) / 2)) where
      is : there ≡ paths_up_to N l (under + (over - under) / 2)
      is = f N legal

      pub draw_over : before < there → Drawing file ps cs shape rows l low high before under (under + (over - under) / 2)
      draw_over h = record {
        task = d.task;
        before_is = d.before_is;
        begun = d.begun;
        order = omega arith;
        most = omega (arith, d.most);
        not_yet_of = d.not_yet_of;
        some = omega (arith, is);
      }

      pub draw_under : there ≤ before → Drawing file ps cs shape rows l low high before (under + (over - under) / 2) over
      draw_under h = record {
        task = d.task;
        before_is = d.before_is;
        begun = omega (arith, d.begun);
        order = omega arith;
        most = d.most;
        not_yet_of = omega (arith, is);
        some = d.some;
      }

    pub draw_less : 1 < over - under → (under + (over - under) / 2) - under < over - under
    draw_less h = omega arith

    pub draw_less-2 : 1 < over - under → over - (under + (over - under) / 2) < over - under
    draw_less-2 h = omega arith

    module _ (near : over - under ≤ 1) where
      pub draw_some : 1 ≤ over
      draw_some = omega (arith, d.order)

      pub draw_end : (M : Netlist) → read_netlist file ≡ value M → over ≡ first_of (of_length M l) (low + 1) high
      unfolding paths_up_to
      draw_end M e =
          let P : ℕ → Bool = of_length N l in
          let z : over ≡ suc under = omega (arith, d.order) in
          let passes : P over ≡ true =
          ap P z ∙ one_more P under (omega (arith, d.not_yet_of, d.some, ap (λ k. paths_up_to N l k) z)) in
          let none : (j : ℕ) → low + 1 ≤ j → j < over → P j ≡ false =
          λ j a b. none_between P low under d.begun (omega (arith, d.not_yet_of, d.before_is)) j (omega arith) (omega arith) in
          sym (first-is P (suc high - (low + 1)) (low + 1) over (omega (arith, d.begun)) (omega (arith, d.most, d.begun)) passes none)
          ∙ ap (λ (K : Netlist). first_of (of_length K l) (low + 1) high) (value_inj (sym legal ∙ e))

pub ruleset find_cases = (find_ranked, find_short, find_start, draw_back, draw_fits, draw_ranked, draw_short, draw_over, draw_under, draw_less, draw_less-2, draw_some, draw_end, rules)
