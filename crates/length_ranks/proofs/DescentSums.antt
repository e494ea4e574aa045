-- The cases of the descent: what is added so far, with what the net at hand still gives for paths longer by the gates so far, is the whole.
use Rattle.model.proofs.Prelude.{ℕ, ◌≤◌, ◌<◌, ◌+◌, ◌-◌, suc, ◌^◌, ◌≡◌, ◌∙◌, ap, refl, sym, ap₂, List, length, get_or, set, length-set, get_or-set_same}
use Rattle.model.proofs.Prelude.{get_or-set_other, arith, rules}
use mir.Val.{Fits}
use mir.Syntax.{w64}
use Rattle.model.specs.Base.{value, sum_of}
use Rattle.model.specs.Netlist.{Netlist, nets, pin_net, pin_counts}
use Rattle.model.specs.Path.{counts_before, split}
use Rattle.model.specs.Read.{read_netlist}
use Rattle.model.proofs.AnswerLaws.{value_inj}
use Rattle.model.proofs.BoolLaws.{cases}
use Rattle.model.proofs.ReadLaws.{legal, limits}
use Rattle.model.proofs.WellFormed.{WellFormed}
use Rattle.netlist.specs.Tables.{CircuitTables, SomeTables, gate_part_of, pin_count_in}
use Rattle.netlist.specs.declared.inner.Shape.{Shape}
use Rattle.netlist.proofs.TableLaws.{gate-part, gate-inside, few-nets, count_at}
use Rattle.path_step.specs.Picks.{PinsIn, pin_counts_in, pick_pin_of}
use Rattle.path_step.specs.declared.inner.pins.Pick.{Pick}
use Rattle.path_step.proofs.PinStepCases.{step-pins, step-number}
use Rattle.path_of_number.proofs.DescentCases.{pin-is, number_is, one, net-is, below, pick-low-number, pick-high-number}
use Rattle.length_rows.specs.Lengths.{lengths, partials_up_to}
use Rattle.length_rows.specs.RowSums.{Room, added, longer}
use Rattle.length_rows.proofs.RowLaws.{added_is, added-at, added-length, longer-at, longer-short, longer-most, longer-none}
use Rattle.length_rows.proofs.PathLengthLaws.{pin_partials, partials-few, partials-input, partials-input-more, partials-gate-none, partials-step}
use Rattle.length_ranks.specs.NetRows.{RowTables, Small, pin_sums, pin_sums_before}
use Rattle.length_ranks.proofs.NetRowLaws.{before-are, sums-small}

pub record Descending (file ps cs : List ℕ) (rows : List (List ℕ)) (net number : ℕ) (ns : List ℕ) (inputs : ℕ) (ms : List ℕ) (at rest gates : ℕ)
    : Type 0 where
  pub shape : Shape
  pub known : RowTables file ps cs shape rows
  pub inputs_are : inputs ≡ shape.inputs
  pub begun : (net < shape.nets) × (number ≤ get_or cs net 0) × Small ns
  pub high : at < shape.nets
  pub some : 1 ≤ rest
  pub small : rest ≤ get_or cs at 0
  pub near : gates + at ≤ net
  pub long : length ms ≡ lengths
  pub whole : (l : ℕ) → l < lengths
      → get_or ms l 0 + longer gates (λ k. partials_up_to known.circuit at k rest) l ≡ get_or ns l 0 + partials_up_to known.circuit net l number

module _ {file ps cs : List ℕ} {rows : List (List ℕ)} {net number : ℕ} {ns : List ℕ} where
  pub down-start : (shape : Shape) → RowTables file ps cs shape rows → net < shape.nets → 1 ≤ number → number ≤ get_or cs net 0 → Small ns
      → Descending file ps cs rows net number ns shape.inputs ns net number 0
  down-start shape known high some small few = record {
    shape = shape;
    known = known;
    inputs_are = refl;
    begun = (high, small, few);
    high = high;
    some = some;
    small = small;
    near = omega arith;
    long = few.long;
    whole = λ l h. ap (λ k. get_or ns l 0 + k) (longer-none (λ k. partials_up_to known.circuit net k number) l);
  }

  module _ {inputs : ℕ} {ms : List ℕ} {at rest gates : ℕ} (d : Descending file ps cs rows net number ns inputs ms at rest gates) where
    abbrev N : Netlist
    N = d.known.circuit

    abbrev t : CircuitTables N file ps cs d.shape
    t = d.known.tables

    w : WellFormed N
    w = legal file N t.legal

    -- no number passes twice 2^62
    bounded : (l : ℕ) → l < lengths → get_or ns l 0 + partials_up_to N net l number ≤ 2 ^ 62 + 2 ^ 62
    bounded l h =
        let begun = d.begun in
        omega (
          arith,
          begun.2.few l h,
          partials-few N net l number,
          begun.1,
          count_at t net begun.0,
          (limits file N t.legal).counts_fit net,
        )

    known-tables : SomeTables file ps cs d.shape
    known-tables = record { circuit = N; tables = t }

    pub down-few : at < 512
    down-few = omega (arith, few-nets t, d.high)

    pub down-gates : Fits w64 (gates + 1)
    down-gates = record { fits = omega (arith, d.near, few-nets t, d.begun.0) }

    -- At a gate
    module _ (gate : inputs ≤ at) where
      low : d.shape.inputs ≤ at
      low = omega (arith, d.inputs_are)

      pub down-inside : get_or ps at 0 ≤ length file
      down-inside = gate-inside t at low d.high

      module _ (part : List ℕ) (ep : part ≡ gate_part_of file ps at) where
        pub down-pins : PinsIn part
        down-pins = step-pins file ps cs d.shape known-tables at d.high low part ep

        pub down-number : rest ≤ sum_of (pin_counts_in part cs)
        down-number = step-number file ps cs d.shape known-tables at d.high low part ep rest d.small

        pub down-room : Room ms (longer (gates + 1) (pin_sums part rows))
        down-room =
            let sums : (l : ℕ) → l < lengths → longer (gates + 1) (pin_sums (gate_part_of file ps at) rows) l ≤ 2 ^ 62 =
            λ l h. longer-most (gates + 1) (pin_sums (gate_part_of file ps at) rows) l (2 ^ 62)
            (λ k a. sums-small t d.known.rows_are_of at low d.high (omega (arith, d.high)) k (omega arith)) in
            record {
              long = d.long;
              fits = λ l h. omega (arith, sums l h, ap (λ (x : List ℕ). longer (gates + 1) (pin_sums x rows) l) ep, d.whole l h, bounded l h);
            }

        module _ (p : Pick) (e : p ≡ pick_pin_of part cs rest) where
          pub down-pin : p.pin ≤ pin_count_in part
          down-pin =
              let there = one file ps cs d.shape at rest d.high low d.some d.small part ep p e N t in
              omega (arith, there, (gate-part t at low d.high).pin_count, ap pin_count_in ep)

          pub down-less : p.net < at
          down-less = below file ps cs d.shape at rest d.high low d.some d.small part ep p e N t

          -- the partial paths with one gate more: of the pins before, and of the pin that the number goes through
          step : (k : ℕ) → k < lengths → partials_up_to N at (suc k) rest ≡ pin_sums_before part rows p.pin k + partials_up_to N p.net k p.number
          step k h =
              let pin = pin-is file ps cs d.shape at rest d.high low d.some d.small part ep p e N t in
              let number = number_is file ps cs d.shape at rest d.high low d.some d.small part ep p e N t in
              let there = net-is file ps cs d.shape at rest d.high low d.some d.small part ep p e N t in
              let before : pin_sums_before part rows p.pin k ≡ counts_before (split (pin_counts N at) rest).0 (pin_partials N at k) =
              ap (λ (x : List ℕ). pin_sums_before x rows p.pin k) ep
              ∙ before-are t d.known.rows_are_of at low d.high (omega (arith, d.high)) p.pin k h
              ∙ ap (λ j. counts_before j (pin_partials N at k)) pin in
              let rest-is : partials_up_to N p.net k p.number ≡ partials_up_to N (pin_net N at (split (pin_counts N at) rest).0) k (split (pin_counts N at) rest).1 =
              ap₂ (λ n j. partials_up_to N n k j) there number in
              partials-step N w at k (omega (arith, t.inputs_are)) (omega (arith, t.nets_are, d.high)) rest d.some (omega (arith, d.small, count_at t at d.high))
              ∙ omega (arith, before, rest-is)

          further : (l : ℕ) → l < lengths
              → longer gates (λ k. partials_up_to N at k rest) l
              ≡ longer (gates + 1) (pin_sums_before part rows p.pin) l + longer (gates + 1) (λ k. partials_up_to N p.net k p.number) l
          further l h =
              let f : ℕ → ℕ = λ k. partials_up_to N at k rest in
              let g : ℕ → ℕ = pin_sums_before part rows p.pin in
              let q : ℕ → ℕ = λ k. partials_up_to N p.net k p.number in
              cases (gates + 1) l
              (λ u.
              let k : l - gates ≡ suc (l - (gates + 1)) = omega arith in
              let here : longer gates f l ≡ f (suc (l - (gates + 1))) = longer-at gates f l (omega arith) ∙ ap f k in
              omega (arith, here, step (l - (gates + 1)) (omega arith), longer-at (gates + 1) g l u, longer-at (gates + 1) q l u))
              (λ u.
              let none : longer gates f l ≡ 0 =
              cases gates l
              (λ v. let z : l - gates ≡ 0 = omega arith in longer-at gates f l v ∙ ap f z ∙ partials-gate-none N w at rest (omega (arith, t.inputs_are)))
              (λ v. longer-short gates f l v) in
              omega (arith, none, longer-short (gates + 1) g l u, longer-short (gates + 1) q l u))

          pub down-next : (ms' : List ℕ) → ms' ≡ added ms (longer (gates + 1) (pin_sums_before part rows p.pin))
              → Descending file ps cs rows net number ns inputs ms' p.net p.number (gates + 1)
          down-next ms' e' = record {
            shape = d.shape;
            known = d.known;
            inputs_are = d.inputs_are;
            begun = d.begun;
            high = omega (arith, down-less, d.high);
            some = pick-low-number file ps cs d.shape at rest d.high low d.some d.small part ep p e known-tables;
            small = pick-high-number file ps cs d.shape at rest d.high low d.some d.small part ep p e known-tables;
            near = omega (arith, down-less, d.near);
            long = ap (λ (x : List ℕ). length x) e' ∙ added-length ms (longer (gates + 1) (pin_sums_before part rows p.pin));
            whole = λ l h.
                omega (
                  arith,
                  ap (λ (x : List ℕ). get_or x l 0) e',
                  added-at ms (longer (gates + 1) (pin_sums_before part rows p.pin)) l h,
                  further l h,
                  d.whole l h,
                );
          }

    -- At an input
    module _ (input : at < inputs) where
      at-input : at < N.inputs
      at-input = omega (arith, t.inputs_are, d.inputs_are)

      -- the numbers of the circuit at hand are those of every netlist that the file is
      every : (M : Netlist) → read_netlist file ≡ value M → added ns (λ l. partials_up_to N net l number) ≡ added ns (λ l. partials_up_to M net l number)
      every M read = ap (λ (K : Netlist). added ns (λ l. partials_up_to K net l number)) (value_inj (sym t.legal ∙ read))

      pub down-long : lengths ≤ gates → (M : Netlist) → read_netlist file ≡ value M → ms ≡ added ns (λ l. partials_up_to M net l number)
      down-long h M read =
          added_is ns ms (λ l. partials_up_to N net l number) d.long
          (λ l b. omega (arith, d.whole l b, longer-short gates (λ k. partials_up_to N at k rest) l (omega arith)))
          ∙ every M read

      module _ (here : gates < lengths) where
        last : longer gates (λ k. partials_up_to N at k rest) gates ≡ rest
        last =
            let z : gates - gates ≡ 0 = omega arith in
            longer-at gates (λ k. partials_up_to N at k rest) gates (omega arith) ∙ ap (λ k. partials_up_to N at k rest) z ∙ partials-input N w at rest at-input

        others : (l : ℕ) → (l ≡ gates → ⊥) → longer gates (λ k. partials_up_to N at k rest) l ≡ 0
        others l n =
            let f : ℕ → ℕ = λ k. partials_up_to N at k rest in
            cases gates l
            (λ u.
            let k : l - gates ≡ suc (l - gates - 1) = omega (arith, n) in
            longer-at gates f l u ∙ ap f k ∙ partials-input-more N w at (l - gates - 1) rest at-input)
            (λ u. longer-short gates f l u)

        pub down_fits : Fits w64 (get_or ms gates 0 + rest)
        down_fits = record { fits = omega (arith, last, d.whole gates here, bounded gates here) }

        abbrev written : List ℕ
        written = set ms gates (get_or ms gates 0 + rest)

        there : get_or written gates 0 ≡ get_or ns gates 0 + partials_up_to N net gates number
        there = get_or-set_same ms gates (get_or ms gates 0 + rest) 0 (omega (arith, d.long)) ∙ omega (arith, last, d.whole gates here)

        elsewhere : (l : ℕ) → l < lengths → (l ≡ gates → ⊥) → get_or written l 0 ≡ get_or ns l 0 + partials_up_to N net l number
        elsewhere l b n = get_or-set_other ms gates l (get_or ms gates 0 + rest) 0 n ∙ omega (arith, others l n, d.whole l b)

        pub down-end : (M : Netlist) → read_netlist file ≡ value M → written ≡ added ns (λ l. partials_up_to M net l number)
        down-end M read =
            added_is ns written (λ l. partials_up_to N net l number) (length-set ms gates (get_or ms gates 0 + rest) ∙ d.long)
            (λ l b. cases gates l
            (λ u. cases l gates (λ v. let z : l ≡ gates = omega arith in rw z there) (λ v. elsewhere l b (λ z. omega arith)))
            (λ u. elsewhere l b (λ z. omega arith)))
            ∙ every M read

pub ruleset down-cases = (down-start, down-few, down-gates, down-inside, down-pins, down-number, down-room, down-pin, down-less, down-next, down_fits, rules)
