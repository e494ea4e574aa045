-- The cases of the outputs' records: the output that a number ends at, and the counts before an output.
use Rattle.model.proofs.Prelude.{ℕ, ◌≤◌, ◌<◌, ◌+◌, ◌-◌, ◌*◌, suc, ◌^◌, zero, ◌≡◌, ◌∙◌, ap, refl, sym, List, length, get_or, drop, take, length-map}
use Rattle.model.proofs.Prelude.{arith, rules}
use mir.Val.{Fits}
use mir.Syntax.{w64}
use Rattle.model.specs.Base.{sum_of}
use Rattle.model.specs.Netlist.{output_count}
use Rattle.model.specs.Path.{counts_before}
use Rattle.model.proofs.ListLaws.{get_d_map-in}
use Rattle.netlist.specs.Places.{outputs_from}
use Rattle.netlist.specs.Tables.{output_in, output_at}
use Rattle.netlist.proofs.OutputLaws.{length-outputs, outputs-at, output-here, output-long}
use Rattle.path_step.specs.Picks.{RecordsOfOutputs, output_counts_in, pick_output_of}
use Rattle.path_step.proofs.SplitLaws.{Passed, passed_none, passed_here, passed-last, passed_on, before-next, before_small, before-whole}
use Rattle.path_step.proofs.PinCases.{sum-start}

module _ (part : List ℕ) (n inputs : ℕ) (cs : List ℕ) where
  pub length-counts : length (output_counts_in part n inputs cs) ≡ n
  unfolding output_counts_in
  length-counts = length-map (outputs_from n part) (output_count inputs cs) ∙ length-outputs n part

  pub counts-at : (o : ℕ) → o < n → get_or (output_counts_in part n inputs cs) o 0 ≡ output_count inputs cs (output_at part o)
  unfolding output_counts_in
  counts-at o h =
      get_d_map-in (output_count inputs cs) (outputs_from n part) o 0 0 (omega (arith, length-outputs n part))
      ∙ ap (output_count inputs cs) (outputs-at n part o h)

-- the counts of the first outputs are those before a place, and no more than all
pub counts-before : (part : List ℕ) (n inputs : ℕ) (cs : List ℕ) (place : ℕ) → place ≤ n
    → (sum_of (output_counts_in part place inputs cs) ≡ counts_before place (output_counts_in part n inputs cs))
    × (sum_of (output_counts_in part place inputs cs) ≤ sum_of (output_counts_in part n inputs cs))
unfolding output_counts_in outputs_from
counts-before part n inputs cs zero h = (refl, omega arith)
counts-before part zero inputs cs (suc place) h = absurd (omega arith)
counts-before part (suc n) inputs cs (suc place) h =
    let ih = counts-before (drop 4 part) n inputs cs place (omega arith) in
    (ap (λ x. output_count inputs cs (output_in part) + x) ih.0, omega (arith, ih.1))

module _ (part : List ℕ) (n : ℕ) (g : RecordsOfOutputs part n) (o : ℕ) (there : o < n) where
  pub output-start : 4 * o ≤ length part
  output-start = omega (arith, g.inside)

  pub output-fits : length part < 2 ^ 64 → Fits w64 (4 * o)
  output-fits h = record { fits = omega (arith, g.inside) }

  pub output-room : 4 ≤ length (take (length part - 4 * o) (drop (4 * o) part))
  output-room = output-long part o n g.inside there

  module _ (net : ℕ) (en : net ≡ output_in (take (length part - 4 * o) (drop (4 * o) part))) where
    net-is : net ≡ output_at part o
    net-is = output-here part o net en

    pub output-few : net < 512
    output-few = omega (arith, net-is, g.low o there)

    module _ (inputs : ℕ) (cs : List ℕ) (count : ℕ) (ec : count ≡ output_count inputs cs net) where
      count-is : count ≡ get_or (output_counts_in part n inputs cs) o 0
      count-is = ec ∙ ap (output_count inputs cs) net-is ∙ sym (counts-at part n inputs cs o there)

      listed : o < length (output_counts_in part n inputs cs)
      listed = omega (arith, length-counts part n inputs cs)

      module _ (i rest : ℕ) (left : Passed (output_counts_in part n inputs cs) i o rest) where
        pub output-taken : rest ≤ count → record { pin = o; net = net; number = rest } ≡ pick_output_of part n inputs cs i
        unfolding pick_output_of
        output-taken h =
            let f = passed_here (output_counts_in part n inputs cs) i o rest listed left (omega (arith, count-is)) in
            λ k. record { pin = f.place_is k; net = (net-is ∙ ap (λ j. output_at part j) f.place_is) k; number = f.number_is k }

        pub output-again : count < rest → Passed (output_counts_in part n inputs cs) i (o + 1) (rest - count)
        output-again h = rw count-is (passed_on (output_counts_in part n inputs cs) i o rest listed left (omega (arith, count-is)))

      module _ (total : ℕ) (et : total ≡ counts_before o (output_counts_in part n inputs cs)) where
        pub total-again : total + count ≡ counts_before (o + 1) (output_counts_in part n inputs cs)
        total-again = omega (arith, count-is, before-next (output_counts_in part n inputs cs) o listed)

        pub total-fits : sum_of (output_counts_in part n inputs cs) ≤ 2 ^ 62 → Fits w64 (total + count)
        total-fits h = record { fits = omega (arith, count-is, before_small (output_counts_in part n inputs cs) o listed) }

    -- the last output takes what is left
    pub output-end : (inputs : ℕ) (cs : List ℕ) (i rest : ℕ) → Passed (output_counts_in part n inputs cs) i o rest → n ≤ o + 1
        → record { pin = o; net = net; number = rest } ≡ pick_output_of part n inputs cs i
    unfolding pick_output_of
    output-end inputs cs i rest left h =
        let xs = output_counts_in part n inputs cs in
        let f = passed-last xs i o rest (omega (arith, length-counts part n inputs cs)) left (omega (arith, length-counts part n inputs cs)) in
        λ k. record { pin = f.place_is k; net = (net-is ∙ ap (λ j. output_at part j) f.place_is) k; number = f.number_is k }

pub total-end : (part : List ℕ) (n inputs : ℕ) (cs : List ℕ) (o total : ℕ) → o ≤ n → n ≤ o → total ≡ counts_before o (output_counts_in part n inputs cs)
    → total ≡ sum_of (output_counts_in part n inputs cs)
total-end part n inputs cs o total h l e =
    e ∙ before-whole (output_counts_in part n inputs cs) o (omega (arith, length-counts part n inputs cs))

pub ruleset output-cases = (passed_none, output-start, output-fits, output-room, output-few, output-taken, output-again, output-end, rules)

pub ruleset outputs-before-cases = (output-start, output-fits, output-room, output-few, sum-start, total-again, total-fits, total-end, rules)
