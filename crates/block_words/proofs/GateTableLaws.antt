-- The table of a legal netlist: filled from the gates' records, and what evaluating a block needs of it. Only the first part speaks of the file.
use Rattle.model.proofs.Prelude.{ℕ, ◌≤◌, ◌<◌, ◌+◌, ◌*◌, ◌≡◌, ◌∙◌, ap, sym, subst, ⊎_elim, inl, inr, List, length, get_or, set, length-set}
use Rattle.model.proofs.Prelude.{get_or-set_same, get_or-set_other, ext_get_or, leb, T, leb→le, arith, rules}
use Rattle.model.specs.Base.{numbers_from}
use Rattle.model.specs.Netlist.{Netlist, nets, gate_of, pins_of, pin_net}
use Rattle.model.specs.Read.{kind_of, pins_fit}
use Rattle.model.proofs.BoolLaws.{and_right, equal_or_not}
use Rattle.model.proofs.WellFormed.{WellFormed}
use Rattle.model.proofs.ReadLaws.{legal, limits, pins-fit}
use Rattle.model.proofs.ListLaws.{length-numbers_from, numbers_from-at}
use Rattle.model.proofs.NumberLaws.{pin-lower}
use Rattle.netlist.specs.Tables.{CircuitTables, SomeCircuit, GatePart, gate_part_of, kind_in, pin_count_in, pin_in}
use Rattle.netlist.specs.declared.inner.Shape.{Shape}
use Rattle.netlist.proofs.TableLaws as tables
use Rattle.block_words.specs.Words.{pin_nets, Filled, GateIs, PinsIn}
use Rattle.block_words.specs.Table.{NetsIn, GateNumbers, GateRow, CircuitTable, SomeTable}
use Rattle.block_words.specs.declared.inner.gates.Gate.{Gate}
use Rattle.block_words.proofs.WordLaws.{words-length, words-at}
use Rattle.block_words.specs.Layout.{gate_table_size, kinds_at, pin_counts_at}

-- the numbers of a gate's record
numbers-in : {part : List ℕ} {N : Netlist} {net : ℕ} → GatePart part N net → GateNumbers N net (kind_in part) (pin_count_in part) (pin_in part)
numbers-in g = record {
  low_kind = g.low_kind;
  high_kind = g.high_kind;
  kind_is = g.kind_is;
  fits = g.fits;
  pin_count = g.pin_count;
  pin_is = λ p h. g.pin_is p (omega (arith, g.pin_count));
}

-- the same numbers elsewhere
same_numbers : {N : Netlist} {net kind pins kind' pins' : ℕ} {pin pin' : ℕ → ℕ} → kind' ≡ kind → pins' ≡ pins
    → ((p : ℕ) → p < length (pins_of N net) → pin' p ≡ pin p) → GateNumbers N net kind pins pin → GateNumbers N net kind' pins' pin'
same_numbers {N} {net} {kind} {pins} {kind'} {pins'} e f h x = record {
  low_kind = rw e x.low_kind;
  high_kind = rw e x.high_kind;
  kind_is = ap kind_of e ∙ x.kind_is;
  fits = subst (λ k. T (pins_fit k pins')) (sym e) (subst (λ m. T (pins_fit kind m)) (sym f) x.fits);
  pin_count = f ∙ x.pin_count;
  pin_is = λ p l. h p l ∙ x.pin_is p l;
}

pub row-few : {N : Netlist} {net kind pins : ℕ} {pin : ℕ → ℕ} → GateNumbers N net kind pins pin → pins ≤ 8
row-few {N} {net} {kind} {pins} x = leb→le pins 8 (and_right (leb 1 pins) (leb pins 8) (pins-fit kind pins x.fits))

-- Tabling: the rows of the nets before `net` are filled
pub record Tabling (file positions : List ℕ) (shape : Shape) (table : List ℕ) (net : ℕ) : Type 0 where
  pub from_inputs : shape.inputs ≤ net
  pub to_nets : net ≤ shape.nets
  pub few_nets : shape.nets ≤ 512
  pub room : length table ≡ gate_table_size
  pub rows : (N : Netlist) (cs : List ℕ) → CircuitTables N file positions cs shape → (i : ℕ) → N.inputs ≤ i → i < net → GateRow N table i

module _ {file positions : List ℕ} {shape : Shape} (s : SomeCircuit file positions shape) where
  pub table-start : {table : List ℕ} → length table ≡ gate_table_size → Tabling file positions shape table shape.inputs
  table-start r = record {
    from_inputs = omega arith;
    to_nets = tables.inputs-below s.known.tables;
    few_nets = tables.few-nets s.known.tables;
    room = r;
    rows = λ N cs c i l h. absurd (none N.inputs i shape.inputs c.inputs_are l h);
  }
    where
      none : (a b i : ℕ) → i ≡ a → a ≤ b → b < i → ⊥
      none a b i e l h = omega arith

  module _ {table : List ℕ} {net : ℕ} (x : Tabling file positions shape table net) (t : net < shape.nets) where
    here : GatePart (gate_part_of file positions net) s.known.circuit net
    here = tables.gate-part s.known.tables net x.from_inputs t

    pub part-starts : get_or positions net 0 ≤ length file
    part-starts = tables.gate-inside s.known.tables net x.from_inputs t

    module _ {part : List ℕ} (ep : part ≡ gate_part_of file positions net) where
      pub part-kind : 2 < length part
      part-kind = rw ep (omega (arith, here.inside))

      pub part_count : 3 < length part
      part_count = rw ep (omega (arith, here.inside))

      pub part-nets : {pins : ℕ} → pins ≡ get_or part 3 0 → NetsIn part pins
      part-nets e = subst (λ n. NetsIn part n) (sym e) (subst (λ (y : List ℕ). NetsIn y (pin_count_in y)) (sym ep) (record {
        few = here.few_pins;
        inside = here.inside;
        is_net = λ p h. rw (here.pin_is p h) (omega (arith, here.lower p h, t, x.few_nets));
      }))

      pub table-room : length (set (set table (kinds_at + net) (get_or part 2 0)) (pin_counts_at + net) (get_or part 3 0)) ≡ gate_table_size
      table-room = length-set (set table (kinds_at + net) (get_or part 2 0)) (pin_counts_at + net) (get_or part 3 0) ∙ length-set table (kinds_at + net) (get_or part 2 0) ∙ x.room

      pub table_step : {table' : List ℕ} {pins : ℕ} → pins ≡ get_or part 3 0
          → Filled (8 * net) pins (λ p w. w ≡ pin_in part p) (set (set table (kinds_at + net) (get_or part 2 0)) (pin_counts_at + net) (get_or part 3 0)) table'
          → Tabling file positions shape table' (net + 1)
      table_step {table'} {pins} en f = record {
        from_inputs = omega (arith, x.from_inputs);
        to_nets = omega arith;
        few_nets = x.few_nets;
        room = f.same_length_of ∙ table-room;
        rows = λ N cs c i l h.
            ⊎_elim
            (λ (e : i ≡ net). subst (λ j. GateRow N table' j) (sym e) (new N cs c))
            (λ (q : i ≡ net → ⊥). old N cs c i l (omega (arith, q)))
            (equal_or_not i net);
      }
        where
          kind : ℕ
          kind = get_or part 2 0

          count : ℕ
          count = get_or part 3 0

          few : pins ≤ 8
          few = (part-nets en).few

          above : (i : ℕ) → kinds_at ≤ i → get_or table' i 0 ≡ get_or (set (set table (kinds_at + net) kind) (pin_counts_at + net) count) i 0
          above i h = f.same i (inr (omega (arith, few, t, x.few_nets)))

          other : (i : ℕ) → (i ≡ pin_counts_at + net → ⊥) → (i ≡ kinds_at + net → ⊥)
              → get_or (set (set table (kinds_at + net) kind) (pin_counts_at + net) count) i 0 ≡ get_or table i 0
          other i a b = get_or-set_other (set table (kinds_at + net) kind) (pin_counts_at + net) i count 0 a ∙ get_or-set_other table (kinds_at + net) i kind 0 b

          low : kinds_at + net < length table
          low = omega (arith, x.room, t, x.few_nets)

          high : pin_counts_at + net < length (set table (kinds_at + net) kind)
          high = omega (arith, length-set table (kinds_at + net) kind, x.room, t, x.few_nets)

          new : (N : Netlist) (cs : List ℕ) → CircuitTables N file positions cs shape → GateRow N table' net
          new N cs c =
              let g = numbers-in (subst (λ (y : List ℕ). GatePart y N net) (sym ep) (tables.gate-part c net x.from_inputs t)) in
              same_numbers
              (above (kinds_at + net) (omega arith) ∙ get_or-set_other (set table (kinds_at + net) kind) (pin_counts_at + net) (kinds_at + net) count 0 (λ e. omega arith)
              ∙ get_or-set_same table (kinds_at + net) kind 0 low)
              (above (pin_counts_at + net) (omega arith) ∙ get_or-set_same (set table (kinds_at + net) kind) (pin_counts_at + net) count 0 high)
              (λ p l. f.each p (omega (arith, en, g.pin_count))) g

          old : (N : Netlist) (cs : List ℕ) → CircuitTables N file positions cs shape → (i : ℕ) → N.inputs ≤ i → i < net → GateRow N table' i
          old N cs c i l h =
              let r = x.rows N cs c i l h in
              let m : i < 512 = omega (arith, t, x.few_nets) in
              same_numbers
              (above (kinds_at + i) (omega arith) ∙ other (kinds_at + i) (λ e. omega (arith, m)) (λ e. omega (arith, h)))
              (above (pin_counts_at + i) (omega arith) ∙ other (pin_counts_at + i) (λ e. omega (arith, h)) (λ e. omega (arith, t, x.few_nets)))
              (λ p q. f.same (8 * i + p) (inl (omega (arith, row-few r, r.pin_count)))
              ∙ other (8 * i + p) (λ e. omega (arith, m, q, row-few r, r.pin_count)) (λ e. omega (arith, m, q, row-few r, r.pin_count))) r

  pub table-end : {table : List ℕ} {net : ℕ} → shape.nets ≤ net → Tabling file positions shape table net
      → (length table ≡ gate_table_size) × ((N : Netlist) (cs : List ℕ) → CircuitTables N file positions cs shape → CircuitTable N table shape.inputs shape.nets)
  table-end {table} {net} h x = (
    x.room,
    λ N cs c. record {
      file = file;
      legal = c.legal;
      inputs_are = c.inputs_are;
      nets_are = c.nets_are;
      rows = λ i l m. x.rows N cs c i l (omega (arith, c.nets_are));
    },
  )

-- What the table says
module _ {table : List ℕ} {inputs netCount : ℕ} (s : SomeTable table inputs netCount) where
  pub few-inputs : inputs ≤ 64
  few-inputs = omega (arith, s.is_in.inputs_are, (limits s.is_in.file s.circuit s.is_in.legal).few_inputs)

  pub few-nets : netCount ≤ 512
  few-nets = omega (arith, s.is_in.nets_are, (limits s.is_in.file s.circuit s.is_in.legal).few_nets)

  pub from-inputs : inputs ≤ netCount
  from-inputs = omega (arith, s.is_in.inputs_are, s.is_in.nets_are)

pub well : {N : Netlist} {table : List ℕ} {inputs netCount : ℕ} → CircuitTable N table inputs netCount → WellFormed N
well {N} c = legal c.file N c.legal

-- a gate that was read from the table
module _ {N : Netlist} {table : List ℕ} {net : ℕ} {g : Gate} (w : WellFormed N) (low : N.inputs ≤ net) (high : net < nets N) (r : GateRow N table net)
    (i : GateIs table net g) where
  pub count-is : g.pins ≡ length (pins_of N net)
  count-is = i.pins_are ∙ r.pin_count

  pub kind-is : kind_of g.kind ≡ (gate_of N net).kind
  kind-is = ap kind_of i.kind_is ∙ r.kind_is

  pub pins-few : g.pins ≤ 8
  pins-few = omega (arith, i.pins_are, row-few r)

  pub kind_fits : T (pins_fit g.kind (length (pins_of N net)))
  kind_fits = subst (λ k. T (pins_fit k (length (pins_of N net)))) (sym i.kind_is)
      (subst (λ m. T (pins_fit (get_or table (kinds_at + net) 0) m)) r.pin_count r.fits)

  pub pin-is : (p : ℕ) → p < length (pins_of N net) → get_or table (g.first + p) 0 ≡ pin_net N net p
  pin-is p l = ap (λ f. get_or table (f + p) 0) i.first_is ∙ r.pin_is p l

  pub lower : (p : ℕ) → p < length (pins_of N net) → pin_net N net p < net
  lower p l = pin-lower N w net p low high l

  pub pins-are : pin_nets table g ≡ pins_of N net
  pins-are =
      let ns = numbers_from g.first g.pins in
      let n = length-numbers_from g.first g.pins in
      let m = words-length table ns in
      ext_get_or 0 (pin_nets table g) (pins_of N net) (m ∙ n ∙ count-is)
      (λ p h.
      words-at table ns p (omega (arith, m)) ∙ ap (λ j. get_or table j 0) (numbers_from-at g.pins g.first p (omega (arith, m, n)))
      ∙ pin-is p (omega (arith, m, n, count-is)))

  pub pins-in : net < 512 → PinsIn table g
  pins-in few = record {
    few = pins-few;
    inside = omega (arith, i.first_is);
    is_net = λ p h. let l : p < length (pins_of N net) = omega (arith, count-is) in rw (pin-is p l) (omega (arith, lower p l));
  }

-- of some netlist
module _ {table : List ℕ} {inputs netCount : ℕ} (s : SomeTable table inputs netCount) {net : ℕ} (l : inputs ≤ net) (t : net < netCount) {g : Gate} (i : GateIs table net g) where
  row : GateRow s.circuit table net
  row = s.is_in.rows net (omega (arith, s.is_in.inputs_are)) (omega (arith, s.is_in.nets_are))

  pub gate-pins : PinsIn table g
  gate-pins = pins-in (well s.is_in) (omega (arith, s.is_in.inputs_are)) (omega (arith, s.is_in.nets_are)) row i (omega (arith, few-nets s))

  pub low-kind : 1 ≤ g.kind
  low-kind = rw i.kind_is row.low_kind

  pub high-kind : g.kind ≤ 8
  high-kind = rw i.kind_is row.high_kind

pub ruleset table-cases = (table-start, part-starts, part-kind, part_count, part-nets, table-room, table_step, rules)
