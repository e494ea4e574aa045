-- The rows at a gate's pins, out of the part of the file that begins with its record, are those of the nets at its pins.
use Rattle.model.proofs.Prelude.{ℕ, ◌≤◌, ◌<◌, ◌-◌, suc, ◌^◌, zero, ◌≡◌, ◌∙◌, ap, sym, subst, List, [], length, get_or, set, length-set, replicate}
use Rattle.model.proofs.Prelude.{length-map, length-replicate, get_or-replicate, ext_get_or, arith, rules}
use Rattle.model.specs.Base.{value, sum_of}
use Rattle.model.specs.Netlist.{Netlist, counts, nets, pins_of}
use Rattle.model.specs.Path.{counts_before}
use Rattle.model.specs.Read.{read_netlist}
use Rattle.model.proofs.AnswerLaws.{value_inj}
use Rattle.model.proofs.ListLaws.{get_d_map-in}
use Rattle.model.proofs.NetLaws.{count-input}
use Rattle.model.proofs.ReadLaws.{legal, limits}
use Rattle.model.proofs.WellFormed.{WellFormed}
use Rattle.netlist.specs.Tables.{CircuitTables, GatePart, gate_part_of, pin_count_in, pin_in}
use Rattle.netlist.specs.declared.inner.Shape.{Shape}
use Rattle.netlist.proofs.TableLaws.{gate-part, gate-inside, few-nets}
use Rattle.path_step.specs.Picks.{PinsIn, pin_counts_in}
use Rattle.path_step.proofs.PinCases.{length-pins, pins-at}
use Rattle.path_step.proofs.SplitLaws.{before-whole}
use Rattle.path_step.proofs.WalkTableLaws.{pins-in, pin-low}
use Rattle.length_rows.specs.Lengths.{lengths, row, partials}
use Rattle.length_rows.specs.RowSums.{Room, added, longer, column}
use Rattle.length_rows.proofs.RowLaws.{row_at, row_is, row_same, added-zeros, longer-short, longer-at, longer-most, zeros-room, column-at}
use Rattle.length_rows.proofs.PathLengthLaws.{pin_partials, partials-few, partials-input, partials-input-more, partials-gate-none, partials-gate}
use Rattle.length_ranks.specs.NetRows.{NetRows, RowsBefore, pin_sums, pin_sums_before}

-- no more partial paths of a length than there are, and these are at most 2^62
pub partials-small : (file : List ℕ) (N : Netlist) → read_netlist file ≡ value N → (net l : ℕ) → partials N net l ≤ 2 ^ 62
unfolding partials
partials-small file N e net l = omega (arith, partials-few N net l (get_or (counts N) net 0), (limits file N e).counts_fit net)

module _ {N : Netlist} {file ps cs : List ℕ} {shape : Shape} (t : CircuitTables N file ps cs shape) {m : ℕ} {rows : List (List ℕ)} (r : NetRows N m rows)
    (net : ℕ) (low : shape.inputs ≤ net) (high : net < shape.nets) (done : net ≤ m) where
  abbrev part : List ℕ
  part = gate_part_of file ps net

  gate : GatePart part N net
  gate = gate-part t net low high

  pub pins-are : (l : ℕ) → l < lengths → pin_counts_in part (column l rows) ≡ pin_partials N net l
  pins-are l h =
      let long : length (pin_counts_in part (column l rows)) ≡ pin_count_in part = length-pins part (column l rows) in
      ext_get_or 0 (pin_counts_in part (column l rows)) (pin_partials N net l) (long ∙ gate.pin_count ∙ sym (length-map (pins_of N net) (λ n. partials N n l)))
      (λ p b.
      let there : p < pin_count_in part = omega (arith, long) in
      let right : get_or rows (pin_in part p) [] ≡ row (partials N (pin_in part p)) = r.right (pin_in part p) (omega (arith, pin-low t net low high p there)) in
      pins-at part (column l rows) p there ∙ column-at l rows (pin_in part p) ∙ ap (λ (x : List ℕ). get_or x l 0) right ∙ row_at (partials N (pin_in part p)) l h
      ∙ ap (λ n. partials N n l) (gate.pin_is p there)
      ∙ sym (get_d_map-in (λ n. partials N n l) (pins_of N net) p 0 0 (omega (arith, gate.pin_count))))

  pub sums-are : (l : ℕ) → l < lengths → pin_sums part rows l ≡ partials N net (suc l)
  unfolding pin_sums
  sums-are l h =
      ap sum_of (pins-are l h)
      ∙ sym (partials-gate N (legal file N t.legal) net l (omega (arith, t.inputs_are)) (omega (arith, t.nets_are)))

  pub before-are : (pin l : ℕ) → l < lengths → pin_sums_before part rows pin l ≡ counts_before pin (pin_partials N net l)
  unfolding pin_sums_before
  before-are pin l h = ap (counts_before pin) (pins-are l h)

  pub sums-small : (l : ℕ) → l < lengths → pin_sums part rows l ≤ 2 ^ 62
  sums-small l h = omega (arith, sums-are l h, partials-small file N t.legal net (suc l))

-- The row of a net
module _ (file ps : List ℕ) (shape : Shape) (net : ℕ) (rows : List (List ℕ)) (b : RowsBefore file ps shape net rows) (high : net < shape.nets) where
  t : CircuitTables b.circuit file ps b.counts shape
  t = b.tables

  same : (N : Netlist) → read_netlist file ≡ value N → b.circuit ≡ N
  same N e = value_inj (sym t.legal ∙ e)

  pub row-few : net < 512
  row-few = omega (arith, few-nets t)

  pub input-row : net < shape.inputs → (N : Netlist) → read_netlist file ≡ value N → set (replicate lengths 0) 0 1 ≡ row (partials N net)
  unfolding partials
  input-row i N e =
      let input : net < N.inputs = subst (λ (M : Netlist). net < M.inputs) (same N e) (omega (arith, t.inputs_are)) in
      row_is (set (replicate lengths 0) 0 1) (partials N net) (length-set (replicate {A = ℕ} lengths 0) 0 1 ∙ length-replicate {A = ℕ} lengths 0)
      (λ l h. at l h (legal file N e) input)
    where
      at : (l : ℕ) → l < lengths → WellFormed N → net < N.inputs → get_or (set (replicate lengths 0) 0 1) l 0 ≡ partials N net l
      at zero h w i = sym (partials-input N w net (get_or (counts N) net 0) i ∙ count-input N net i)
      at (suc l) h w i = get_or-replicate 63 l 0 0 (omega arith) ∙ sym (partials-input-more N w net l (get_or (counts N) net 0) i)

  module _ (low : shape.inputs ≤ net) where
    pub row_inside : get_or ps net 0 ≤ length file
    row_inside = gate-inside t net low high

    module _ (part : List ℕ) (ep : part ≡ gate_part_of file ps net) where
      pub row-pins : PinsIn part
      row-pins = subst PinsIn (sym ep) (pins-in t net low high)

      pub row-head : 3 < length part
      row-head = omega (arith, row-pins.inside)

      pub row_room : Room (replicate lengths 0) (longer 1 (pin_sums part rows))
      row_room =
          let sums : (l : ℕ) → l < lengths → longer 1 (pin_sums (gate_part_of file ps net) rows) l ≤ 2 ^ 62 =
          λ l h. longer-most 1 (pin_sums (gate_part_of file ps net) rows) l (2 ^ 62) (λ k a. sums-small t b.rows_are_of net low high (omega arith) k (omega arith)) in
          zeros-room (longer 1 (pin_sums part rows)) (λ l h. omega (arith, sums l h, ap (λ (x : List ℕ). longer 1 (pin_sums x rows) l) ep))

      module _ (pins : ℕ) (many : pins ≡ pin_count_in part) where
        all-pins : (l : ℕ) → l < lengths → pin_sums_before part rows pins l ≡ partials b.circuit net (suc l)
        unfolding pin_sums_before pin_sums
        all-pins l h =
            before-whole (pin_counts_in part (column l rows)) pins (many ∙ sym (length-pins part (column l rows)))
            ∙ ap (λ (x : List ℕ). pin_sums x rows l) ep ∙ sums-are t b.rows_are_of net low high (omega arith) l h

        at-gate : (l : ℕ) → l < lengths → longer 1 (pin_sums_before part rows pins) l ≡ partials b.circuit net l
        unfolding partials
        at-gate zero h =
            longer-short 1 (pin_sums_before part rows pins) 0 (omega arith)
            ∙ sym (partials-gate-none b.circuit (legal file b.circuit t.legal) net (get_or (counts b.circuit) net 0) (omega (arith, t.inputs_are)))
        at-gate (suc l) h =
            let back : suc l - 1 ≡ l = omega arith in
            longer-at 1 (pin_sums_before part rows pins) (suc l) (omega arith) ∙ ap (pin_sums_before part rows pins) back ∙ all-pins l (omega arith)

        pub gate-row : (ms : List ℕ) → ms ≡ added (replicate lengths 0) (longer 1 (pin_sums_before part rows pins))
            → (N : Netlist) → read_netlist file ≡ value N → ms ≡ row (partials N net)
        gate-row ms e N read =
            e ∙ added-zeros (longer 1 (pin_sums_before part rows pins))
            ∙ row_same (λ l h. at-gate l h ∙ ap (λ (M : Netlist). partials M net l) (same N read))

pub ruleset net-row-cases = (row-few, input-row, row_inside, row-pins, row-head, row_room, gate-row, rules)
