-- The marks of a block's records, from what the steps promise.
use Rattle.model.proofs.Prelude.{ℕ, ◌≤◌, ◌<◌, ◌+◌, ◌*◌, ◌≡◌, ◌∙◌, ap, sym, ap₂, false, ◌&&◌, not, and_comm, List, length, get_or, zero-add, arith}
use Rattle.model.specs.Base.{bit}
use Rattle.model.specs.Netlist.{Netlist}
use Rattle.model.specs.Path.{rising, falling}
use Rattle.model.specs.Detect.{Test, has_edge}
use Rattle.model.specs.Read.{class_of}
use Rattle.netlist.specs.declared.inner.Shape.{Shape}
use Rattle.block_words.specs.Block.{BlockOf}
use Rattle.block_words.specs.Table.{CircuitTable}
use Rattle.block_words.specs.NetStates.{rise_words, fall_words, InputWords, GatesListed}
use Rattle.block_transpose.specs.Vectors.{Transposed}
use Rattle.block_activity.specs.Marks.{OffsetTable, VectorsOf, MarksTrue}
use Rattle.block_activity.specs.EdgeMarks.{BatchTables, OutsAre, EdgeWritten}
use Rattle.block_activity.specs.declared.inner.Batch.{Batch}
use Rattle.block_words.proofs.InputStateLaws.{inputs-stated}
use Rattle.block_activity.proofs.EdgeListLaws.{input-bits, listed-edge}
use Rattle.block_words.specs.Layout.{list_size, lists_size}
use Rattle.block_activity.specs.Layout.{up_outs_at, up_lengths_at, down_lengths_at}

-- the numbers of a block's netlist
abbrev shape_of : Batch → Shape
shape_of b = record { inputs = b.inputs; nets = b.nets; outputs = b.outputs }

-- the marks of the rising edge, and those of the falling edge that are written after them
module _ {vectors upOuts risingLens downOuts fallingLens marks₀ marks₁ marks : List ℕ} {n : ℕ} (few : n ≤ 64) (w₁ : EdgeWritten vectors n 0 upOuts risingLens marks₀ marks₁)
    (w₂ : EdgeWritten vectors n 64 downOuts fallingLens marks₁ marks) (t : ℕ) (h : t < n) where
  edge_kept : get_or marks t 0 ≡ get_or marks₁ (0 + t) 0
  edge_kept = w₂.others t (λ s l. (λ e. omega arith, λ e. omega arith, λ e. omega arith)) ∙ ap (λ k. get_or marks₁ k 0) (sym (zero-add t))

  up-outs : get_or marks (up_outs_at + t) 0 ≡ get_or upOuts t 0
  up-outs = w₂.others (up_outs_at + t) (λ s l. (λ e. omega arith, λ e. omega arith, λ e. omega arith)) ∙ w₁.outs_at t h

  rising-lens : get_or marks (up_lengths_at + t) 0 ≡ get_or risingLens t 0
  rising-lens = w₂.others (up_lengths_at + t) (λ s l. (λ e. omega arith, λ e. omega arith, λ e. omega arith)) ∙ w₁.lens_at t h

  module _ {N : Netlist} {tests : ℕ → Test} (v : VectorsOf N tests n vectors) where
    first-at : (j : ℕ) → j < N.inputs → bit (get_or vectors (0 + t) 0) j ≡ get_or (tests t).v1 j false
    first-at j l = ap (λ k. bit (get_or vectors k 0) j) (zero-add t) ∙ v.first t j h l

    rise-bits : (j : ℕ) → j < N.inputs → bit (get_or marks t 0) j ≡ has_edge (tests t) rising j
    unfolding has_edge
    rise-bits j l = ap (λ k. bit k j) edge_kept ∙ w₁.edges t j h ∙ ap₂ (λ y z. not y && z) (first-at j l) (v.second t j h l)

    fall-bits : (j : ℕ) → j < N.inputs → bit (get_or marks (64 + t) 0) j ≡ has_edge (tests t) falling j
    unfolding has_edge
    fall-bits j l =
        w₂.edges t j h ∙ ap₂ (λ y z. not y && z) (v.second t j h l) (first-at j l) ∙ and_comm (not (get_or (tests t).v2 j false)) (get_or (tests t).v1 j false)

-- all marks, from what the steps promise
module _ {table offsets : List ℕ} {b : Batch} (s : BatchTables table offsets b) {vectors firsts lasts : List ℕ}
    (s₁ : Transposed vectors 0 b.records b.inputs firsts) (s₂ : Transposed vectors 64 b.records b.inputs lasts)
    {words₀ words₁ words risingLists₀ risingLists risingLens fallingLists₀ fallingLists fallingLens : List ℕ} (i : InputWords firsts lasts b.inputs b.records words₀ words₁)
    (g : GatesListed table (shape_of b) b.class words₁ words risingLists₀ risingLists risingLens fallingLists₀ fallingLists fallingLens) (r₁ : lists_size ≤ length risingLists₀)
    (r₂ : lists_size ≤ length fallingLists₀)
    {upOuts downOuts marks₀ marks₁ marks : List ℕ} (o₁ : OutsAre offsets b.inputs b.outputs (rise_words words) upOuts)
    (w₁ : EdgeWritten vectors b.records 0 upOuts risingLens marks₀ marks₁) (o₂ : OutsAre offsets b.inputs b.outputs (fall_words words) downOuts)
    (w₂ : EdgeWritten vectors b.records 64 downOuts fallingLens marks₁ marks) where
  pub marks_true : (N : Netlist) (tests : ℕ → Test) → CircuitTable N table b.inputs b.nets → OffsetTable N offsets → length N.outputs ≡ b.outputs
      → BlockOf tests (class_of b.class) b.records → VectorsOf N tests b.records vectors → MarksTrue N tests b.records risingLists fallingLists marks
  marks_true N tests c p q k v =
      let few = s.few_records in
      let stated = inputs-stated few c (input-bits c.inputs_are v s₁ s₂) i in
      let passed = g.right N tests b.records c k stated in
      let nets = passed.0 in
      record {
        each = λ t h.
            let l : t < 64 = omega arith in
            let up_room : list_size * t + get_or marks (up_lengths_at + t) 0 ≤ length risingLists = omega (arith, rising-lens few w₁ w₂ t h, g.up_counts t l, g.up_places) in
            let down-room : list_size * t + get_or marks (down_lengths_at + t) 0 ≤ length fallingLists = omega (arith, w₂.lens_at t h, g.down_counts t l, g.down_places) in
            record {
              up_room_of = up_room;
              down_room = down-room;
              rises = listed-edge c p q few nets.rises o₁ passed.1 t (get_or marks (up_lengths_at + t) 0) h (rising-lens few w₁ w₂ t h) up_room (up-outs few w₁ w₂ t h)
                  (rise-bits few w₁ w₂ t h v);
              falls = listed-edge c p q few nets.falls o₂ passed.2 t (get_or marks (down_lengths_at + t) 0) h (w₂.lens_at t h) down-room (w₂.outs_at t h)
                  (fall-bits few w₁ w₂ t h v);
            };
      }
