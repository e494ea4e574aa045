-- The cases of writing a path: what its parts may rely on, and what the words of a path are in the buffer.
use Rattle.model.proofs.Prelude.{ℕ, ◌≤◌, ◌<◌, ◌+◌, ◌-◌, ◌*◌, ◌≡◌, ◌∙◌, ap, sym, subst, ap₂, List, ◌++◌, length, get_or, drop, set, length-set}
use Rattle.model.proofs.Prelude.{replicate, sets, arith, rules}
use mir.Val.{Fits}
use mir.Syntax.{w16}
use Rattle.model.specs.Base.{sum_of}
use Rattle.model.specs.Netlist.{Netlist, counts, path_total, output_counts, output_net}
use Rattle.model.specs.Path.{CircuitPath, path_of, split, path_at}
use Rattle.model.specs.Calls.{path_written, words_of}
use Rattle.model.proofs.NumberLaws.{Splits, splits, length-output_counts, output_counts-at, output-gate, number-of_path}
use Rattle.model.proofs.PathCallLaws.{path-fits}
use Rattle.model.proofs.ReadLaws.{legal, limits}
use Rattle.model.proofs.WellFormed.{WellFormed}
use Rattle.netlist.specs.Tables.{CircuitTables, SomeTables, output_at}
use Rattle.netlist.specs.declared.inner.Shape.{Shape}
use Rattle.netlist.proofs.TableLaws.{few-outputs, some-output, few-nets, outputs-inside, output-is, output-below, count_at}
use Rattle.path_step.specs.Picks.{RecordsOfOutputs, output_counts_in, pick_output_of}
use Rattle.path_of_number.specs.Tasks.{Wanted, PinsWritten, blank}
use Rattle.path_step.specs.declared.inner.pins.Pick.{Pick}
use Rattle.path_step.proofs.WalkTableLaws.{outputs-before, output-counts}
use Rattle.path_of_number.proofs.PathWordLaws.{words, buffer-is, length-blank, end-room, blank-room, same-words}

module _ (file ps cs : List ℕ) (shape : Shape) (k : ℕ) (r : Wanted file ps cs shape k) where
  abbrev t : CircuitTables r.circuit file ps cs shape
  t = r.tables

  pub wanted-some : 0 < shape.outputs
  wanted-some = some-output t

  pub wanted-few : shape.outputs ≤ 64
  wanted-few = few-outputs t

  pub wanted_room : 4 * shape.outputs ≤ length file
  wanted_room = outputs-inside t

  pub wanted-known : SomeTables file ps cs shape
  wanted-known = record { circuit = r.circuit; tables = t }

  module _ (outs : List ℕ) (eo : outs ≡ drop (length file - 4 * shape.outputs) file) where
    pub wanted-outputs : RecordsOfOutputs outs shape.outputs
    wanted-outputs = outputs-before t eo shape.outputs (omega arith)

    pub wanted-small : k ≤ sum_of (output_counts_in outs shape.outputs shape.inputs cs)
    unfolding path_total
    wanted-small =
        let sum : sum_of (output_counts_in outs shape.outputs shape.inputs cs) ≡ sum_of (output_counts r.circuit) =
        ap sum_of (output-counts t eo) in
        omega (arith, sum, r.high)

    module _ (o : Pick) (ep : o ≡ pick_output_of outs shape.outputs shape.inputs cs k) where
      -- the same of every netlist that has these tables
      module _ (N : Netlist) (u : CircuitTables N file ps cs shape) (high : k ≤ path_total N) where
        w : WellFormed N
        w = legal file N u.legal

        chosen : Splits (output_counts N) k (split (output_counts N) k)
        unfolding path_total
        chosen = splits (output_counts N) k r.low high

        pub pin-is : o.pin ≡ (split (output_counts N) k).0
        unfolding pick_output_of
        pin-is = ap (λ (x : Pick). x.pin) ep ∙ ap (λ (x : List ℕ). (split x k).0) (output-counts u eo)

        pub number_is : o.number ≡ (split (output_counts N) k).1
        unfolding pick_output_of
        number_is = ap (λ (x : Pick). x.number) ep ∙ ap (λ (x : List ℕ). (split x k).1) (output-counts u eo)

        pub place : o.pin < length N.outputs
        place = omega (arith, pin-is, chosen.place, length-output_counts N w)

        pub net-is : o.net ≡ output_net N o.pin
        unfolding pick_output_of
        net-is =
            ap (λ (x : Pick). x.net) ep ∙ ap₂ (λ (x : List ℕ) j. output_at x j) eo (sym (ap (λ (x : Pick). x.pin) ep))
            ∙ output-is u o.pin (omega (arith, place, u.outputs_are))

        low-net : o.net < shape.nets
        low-net = omega (arith, net-is, output-below u o.pin (omega (arith, place, u.outputs_are)))

        low-number : 1 ≤ o.number
        low-number = omega (arith, number_is, chosen.low)

        high-number : o.number ≤ get_or cs o.net 0
        high-number =
            let p = (split (output_counts N) k).0 in
            let there : p < length N.outputs = omega (arith, pin-is, place) in
            let gate = output-gate N w p there (omega (arith, chosen.low, chosen.high)) in
            let net : o.net ≡ output_net N p = net-is ∙ ap (output_net N) pin-is in
            omega (
              arith,
              number_is,
              chosen.high,
              output_counts-at N w p there gate,
              ap (λ x. get_or (counts N) x 0) net,
              count_at u o.net low-net,
            )

        path-is : path_of N k ≡ record { output = o.pin; pins = path_at N o.net o.net o.number }
        unfolding path_of
        path-is = sym (λ j. record { output = pin-is j; pins = path_at N ((net-is ∙ ap (output_net N) pin-is) j) ((net-is ∙ ap (output_net N) pin-is) j) (number_is j) })

        few : 2 + length (path_at N o.net o.net o.number) ≤ 513
        few = omega (
          arith,
          path-fits N w (limits file N u.legal) (path_of N k) (number-of_path N w k r.low high).is_path,
          ap (λ (x : CircuitPath). length x.pins) path-is,
        )

      pub picked_pin : Fits w16 o.pin
      picked_pin = record { fits = omega (arith, place r.circuit t r.high, t.outputs_are, few-outputs t) }

      pub picked_net : o.net < shape.nets
      picked_net = low-net r.circuit t r.high

      pub picked_low : 1 ≤ o.number
      picked_low = low-number r.circuit t r.high

      pub picked_high : o.number ≤ get_or cs o.net 0
      picked_high = high-number r.circuit t r.high

      pub picked_room : (path cleared : List ℕ) → 513 ≤ length path → cleared ≡ blank 513 path → 2 + o.net ≤ length (set cleared 0 o.pin)
      picked_room path cleared h ec =
          omega (arith, picked_net, few-nets t, length-set cleared 0 o.pin, ap (λ (x : List ℕ). length x) ec, length-blank 513 path h)

      module _ (cleared now : List ℕ) (end : ℕ)
          (f : (N : Netlist) → CircuitTables N file ps cs shape → PinsWritten N o.net o.number 2 end (set cleared 0 o.pin) now) where
        end_is : end ≡ 2 + length (path_at r.circuit o.net o.net o.number)
        end_is = (f r.circuit t).end_is

        pub end_back : 2 ≤ end
        end_back = omega (arith, end_is)

        pub end_fits : Fits w16 (end - 2)
        end_fits = record { fits = omega (arith, end_is, few r.circuit t r.high) }

        pub path-written : (ws : List ℕ) → 513 ≤ length ws → cleared ≡ blank 513 ws
            → (N : Netlist) → CircuitTables N file ps cs shape → set now 1 (end - 2) ≡ path_written (path_of N k) ws
        path-written ws h ec N u =
            let same : r.circuit ≡ N = Rattle.model.proofs.AnswerLaws.value_inj (sym t.legal ∙ u.legal) in
            let high : k ≤ path_total N = subst (λ (M : Netlist). k ≤ path_total M) same r.high in
            let p : CircuitPath = record { output = o.pin; pins = path_at N o.net o.net o.number } in
            let z : end - 2 ≡ length p.pins = omega (arith, (f N u).end_is) in
            let y : 2 + length p.pins ≡ length (words_of p) = omega arith in
            let now-is : now ≡ sets (set (blank 513 ws) 0 p.output) 2 p.pins =
            (f N u).words_are ∙ ap (λ (x : List ℕ). sets x 2 p.pins) (ap (λ (x : List ℕ). set x 0 p.output) ec) in
            ap₂ (λ (x : List ℕ) c. set x 1 c) now-is z
            ∙ words 513 p.output p.pins ws (few N u high) h
            ∙ ap (λ j. words_of p ++ (replicate (513 - j) 0 ++ drop 513 ws)) y
            ∙ buffer-is p ws
            ∙ ap (λ (x : CircuitPath). path_written x ws) (sym (path-is N u high))

pub ruleset writing-cases = (
  wanted-some,
  wanted-few,
  wanted_room,
  wanted-known,
  wanted-outputs,
  wanted-small,
  picked_pin,
  picked_net,
  picked_low,
  picked_high,
  picked_room,
  end_back,
  end_fits,
  path-written,
  end-room,
  blank-room,
  same-words,
  rules,
)
