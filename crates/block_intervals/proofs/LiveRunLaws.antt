-- The runs of a live gate's net: what its active pins add one after the other; a pin that is not active adds nothing.
use Rattle.model.proofs.Prelude.{ℕ, ◌≤◌, ◌<◌, ◌+◌, ◌*◌, suc, ◌^◌, zero, ◌/◌, ◌%◌, ◌≡◌, ◌∙◌, ap, refl, sym, subst, ap₂, true, Bool, false, ◌&&◌, List}
use Rattle.model.proofs.Prelude.{[], ◌∷◌, map, length, get_or, arith}
use mathlib.Core.Path.{subst₂}
use lib.Count.{count_trailing_zeros}
use Rattle.model.specs.Base.{bit, numbers_from}
use Rattle.model.specs.Netlist.{Netlist, nets, counts, pins_of, pin_net, pin_counts}
use Rattle.model.specs.Path.{counts_before}
use Rattle.model.specs.Runs.{Run, Separated}
use Rattle.model.specs.Store.{max_runs}
use Rattle.model.proofs.BoolLaws.{T→true, true→T, and_right, cases}
use Rattle.model.proofs.NumberLaws.{length-pin_counts, pin_counts-at, pin-lower, counts_before-le, counts_before-suc}
use Rattle.model.proofs.ReadLaws.{legal, limits, Limits}
use Rattle.model.proofs.RunLaws.{runs-separated}
use Rattle.model.proofs.WellFormed.{WellFormed}
use Rattle.run_lists.specs.RunLists.{only_if, add_runs, shift_runs}
use Rattle.run_union.proofs.AddRunLaws.{add_runs-append}
use Rattle.detection.specs.Cases.{Case, in_set, set_runs_of}
use Rattle.detection.specs.PlaceRuns.{Places, paths_before, place_runs, first_runs}
use Rattle.detection.proofs.DetectedLaws.{gate-set, pins-all}
use Rattle.block_words.specs.Block.{live_net, active_pin}
use Rattle.gate_packed_pins.specs.Packed.{pack_bits}
use Rattle.block_words.specs.Lists.{gate_entry}
use Rattle.block_words.specs.Table.{GateRow, CircuitTable}
use Rattle.block_words.proofs.LiveLaws.{live-gate, dead_runs, live-runs}
use Rattle.block_words.proofs.LowBitLaws.{low-there}
use Rattle.block_words.proofs.GateTableLaws.{row-few}
use Rattle.block_activity.specs.Marks.{OffsetTable}
use Rattle.block_intervals.specs.Spans.{shift_of, standing, SpanIs}
use Rattle.block_intervals.specs.PinSpans.{source_at, shift_at, pin_runs_of, bit_runs, byte_runs, entry_runs_of, PinReady, ByteReady, EntryReady}
use Rattle.block_intervals.proofs.BitRunLaws.{bits-past, shift-shift}
use Rattle.block_intervals.proofs.EntryLaws.{pack_bit, pack_past, pack_some, pack_byte}
use Rattle.block_intervals.specs.Layout.{spans_size}

-- no number of some shifted runs is below the shift
pub shift-most : (o n b : ℕ) (s : List Run) → Separated n b (shift_runs o s) → (s ≡ [] → ⊥) → o ≤ n
shift-most o n b [] u ne = absurd (ne refl)
shift-most o n b (r ∷ s) u ne = omega (arith, u.1, u.2)

pub set-counted : (K : Case) (net : ℕ) → Separated (get_or (counts K.netlist) net 0) 1 (set_runs_of K net)
unfolding set_runs_of
set-counted K net = runs-separated (in_set K net) (get_or (counts K.netlist) net 0)

-- a live gate's net, by the tables, and the spans of the live nets before it
pub record GateAt (K : Case) (table offsets : List ℕ) (inputs : ℕ) (spans ws : List ℕ) (made net : ℕ) : Type 0 where
  pub circuit : CircuitTable K.netlist table inputs (nets K.netlist)
  pub placed : OffsetTable K.netlist offsets
  pub low : K.netlist.inputs ≤ net
  pub high : net < nets K.netlist
  pub live : live_net K net ≡ true
  pub done : (q : ℕ) → q < net → live_net K q ≡ true → SpanIs K spans ws made q

module _ {K : Case} {table offsets : List ℕ} {inputs : ℕ} {spans ws : List ℕ} {made net : ℕ} (g : GateAt K table offsets inputs spans ws made net) where
  abbrev N : Netlist
  N = K.netlist

  abbrev live? : ℕ → Bool
  live? q = live_net K q

  abbrev active : ℕ → Bool
  active p = active_pin K net p

  abbrev pins : ℕ
  pins = length (pins_of K.netlist net)

  abbrev byte : ℕ
  byte = pack_bits (map (active_pin K net) (numbers_from 0 (length (pins_of K.netlist net))))

  abbrev pc : List ℕ
  pc = pin_counts K.netlist net

  w : WellFormed N
  w = legal g.circuit.file N g.circuit.legal

  lim : Limits N
  lim = limits g.circuit.file N g.circuit.legal

  row : GateRow N table net
  row = g.circuit.rows net g.low g.high

  few-pins : pins ≤ 8
  few-pins = omega (arith, row.pin_count, row-few row)

  many : length pc ≡ pins
  many = length-pin_counts N w net

  -- ---- an active pin

  some_byte : 0 < byte
  some_byte = pack_some active pins (sym (live-gate K w net g.low g.high) ∙ g.live)

  is-active : (p : ℕ) → bit byte p ≡ true → (p < pins) × (active p ≡ true)
  is-active p e = cases pins p
      (λ h. absurd (mathlib.Core.Bool.false≢true (sym (pack_past active pins p h) ∙ e)))
      (λ h. (h, sym (pack_bit active pins p h) ∙ e))

  live-pin : (p : ℕ) → active p ≡ true → live? (pin_net N net p) ≡ true
  unfolding active_pin
  live-pin p a = T→true (live? (pin_net N net p)) (and_right (K.is_open net p) (live? (pin_net N net p)) (true→T (active p) a))

  module _ (p : ℕ) (h : p < pins) where
    source : source_at table (8 * net + p) ≡ pin_net N net p
    source = row.pin_is p h

    offset : get_or offsets (8 * net + p) 0 ≡ counts_before p pc
    offset = g.placed.pin_offset net p g.low g.high h

    lower : pin_net N net p < net
    lower = pin-lower N w net p g.low g.high h

    module _ (l : live? (pin_net N net p) ≡ true) where
      span : SpanIs K spans ws made (source_at table (8 * net + p))
      span = subst (λ q. SpanIs K spans ws made q) (sym source) (g.done (pin_net N net p) lower l)

      set_runs : shift_runs (shift_of spans (source_at table (8 * net + p))) (standing spans ws (source_at table (8 * net + p))) ≡ set_runs_of K (pin_net N net p)
      set_runs = span.runs ∙ ap (set_runs_of K) source

      -- what it adds
      pin-adds : pin_runs_of table offsets spans ws (8 * net + p) ≡ shift_runs (counts_before p pc) (set_runs_of K (pin_net N net p))
      pin-adds =
          sym (shift-shift (get_or offsets (8 * net + p) 0) (shift_of spans (source_at table (8 * net + p))) (standing spans ws (source_at table (8 * net + p))))
          ∙ ap₂ shift_runs offset set_runs

      no_none : standing spans ws (source_at table (8 * net + p)) ≡ [] → ⊥
      no_none e = live-runs K (pin_net N net p) l (sym set_runs ∙ ap (shift_runs (shift_of spans (source_at table (8 * net + p)))) e)

      shift-few : shift_at table offsets spans (8 * net + p) ≤ 2 ^ 62
      shift-few =
          let most : shift_of spans (source_at table (8 * net + p)) ≤ get_or (counts N) (pin_net N net p) 0 = shift-most (shift_of spans (source_at table (8 * net + p)))
          (get_or (counts N) (pin_net N net p) 0) 1 (standing spans ws (source_at table (8 * net + p)))
          (subst (λ (s : List Run). Separated (get_or (counts N) (pin_net N net p) 0) 1 s) (sym set_runs) (set-counted K (pin_net N net p))) no_none in
          let sum = counts_before-le pc p (omega (arith, many)) in
          omega (arith, most, offset, sum, pin_counts-at N w net p h, pins-all K w net g.low g.high, lim.counts_fit net)

      pin-ready : PinReady table offsets spans ws made (8 * net + p)
      pin-ready = record {
        is_net = omega (arith, source, lower, g.high, lim.few_nets);
        ordered = span.ordered;
        before = span.before;
        fits = shift-few;
        sound = span.sound;
      }

  -- ---- all pins

  abbrev adds : ℕ → List Run
  adds p = pin_runs_of table offsets spans ws (8 * net + p)

  abbrev P : Places
  P = record { net_of = pin_net K.netlist net; opens = λ p q. K.is_open net p; paths = λ q. get_or (counts K.netlist) q 0 }

  paths-are : (p : ℕ) → p ≤ pins → paths_before P p ≡ counts_before p pc
  paths-are zero h = refl
  paths-are (suc p) h = omega (arith, paths-are p (omega arith), counts_before-suc pc p (omega (arith, many)), pin_counts-at N w net p h)

  place_same : (p : ℕ) → p < pins → place_runs P (set_runs_of K) p ≡ only_if (bit byte p) (adds p)
  unfolding active_pin
  place_same p h =
      go (K.is_open net p) (live? (pin_net N net p)) refl ∙ sym (ap (λ b. only_if b (adds p)) (pack_bit active pins p h))
    where
      go : (o l : Bool) → live? (pin_net N net p) ≡ l → only_if o (shift_runs (paths_before P p) (set_runs_of K (pin_net N net p))) ≡ only_if (o && l) (adds p)
      go true true e = ap (λ n. shift_runs n (set_runs_of K (pin_net N net p))) (paths-are p (omega arith)) ∙ sym (pin-adds p h e)
      go true false e = ap (shift_runs (paths_before P p)) (dead_runs K (pin_net N net p) e)
      go false l e = refl

  first-same : (n : ℕ) → n ≤ pins → first_runs P (set_runs_of K) n ≡ add_runs [] (bit_runs adds byte n)
  unfolding first_runs bit_runs
  first-same zero h = refl
  first-same (suc n) h =
      ap₂ add_runs (first-same n (omega arith)) (place_same n h) ∙ sym (add_runs-append [] (bit_runs adds byte n) (only_if (bit byte n) (adds n)))

  set-bytes : byte_runs table offsets (8 * net) byte spans ws ≡ set_runs_of K net
  set-bytes =
      ap (add_runs []) (bits-past adds byte pins 8 few-pins (pack_past active pins)) ∙ sym (first-same pins (omega arith))
      ∙ gate-set K w net g.low g.high P (set_runs_of K) (λ p h. record {
        opens_are = refl;
        paths_are = sym (pin_counts-at N w net p (omega (arith, many)));
        runs_are = refl;
      }) (sym many)

  -- ---- the entry

  module _ {entry : ℕ} (e : entry ≡ gate_entry K net) where
    pub entry-net : entry / 256 ≡ net
    unfolding gate_entry
    entry-net = omega (arith, e, pack_byte active pins few-pins)

    entry-byte : entry % 256 ≡ byte
    unfolding gate_entry
    entry-byte = omega (arith, e, pack_byte active pins few-pins)

    pub entry_runs : entry_runs_of table offsets entry spans ws ≡ set_runs_of K net
    entry_runs = ap₂ (λ n b. byte_runs table offsets (8 * n) b spans ws) entry-net entry-byte ∙ set-bytes

    pub entry_ready : length spans ≡ spans_size → made ≤ max_runs → 2 * max_runs ≤ length ws → EntryReady table offsets entry spans ws made
    entry_ready span_room used room = record {
      is_net = omega (arith, entry-net, g.high, lim.few_nets);
      span_room = span_room;
      byte = subst₂ (λ n b. ByteReady table offsets spans ws made (8 * n) b) (sym entry-net) (sym entry-byte) (record {
        inside = omega (arith, g.high, lim.few_nets);
        some = some_byte;
        small = pack_byte active pins few-pins;
        used = used;
        room = room;
        pins = λ p b.
            let a = is-active p b in
            pin-ready p a.0 (live-pin p a.1);
      });
    }

  -- ---- a live net before it

  pub record LiveBelow : Type 0 where
    pub place : ℕ
    pub below : place < net
    pub is_live_of : live_net K place ≡ true

  pub live_below : LiveBelow
  live_below =
      let p = count_trailing_zeros 64 byte in
      let wide : byte < 2 ^ 64 = omega (arith, pack_byte active pins few-pins) in
      let a = is-active p (low-there wide (λ e. omega (arith, some_byte))) in
      record { place = pin_net N net p; below = lower p a.0; is_live_of = live-pin p a.1 }
