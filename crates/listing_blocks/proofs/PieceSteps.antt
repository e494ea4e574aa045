-- The records of a piece as the loop lists them: the start, one block more, and both ends, of the piece and of the buffer's room.
use Rattle.model.proofs.Prelude.{ℕ, ◌≤◌, ◌<◌, ◌+◌, ◌-◌, ◌*◌, ◌^◌, ◌≡◌, ◌∙◌, ap, refl, sym, subst, List, ◌++◌, append_assoc, length, drop, take}
use Rattle.model.proofs.Prelude.{length-drop, drop-drop, arith}
use Rattle.model.specs.Netlist.{Netlist}
use Rattle.model.specs.Detect.{Class}
use Rattle.model.specs.Read.{class_of}
use Rattle.model.specs.Calls.{work_words_count}
use Rattle.model.proofs.AnswerLaws.{value_inj}
use Rattle.model.proofs.BoolLaws.{cases}
use Rattle.record_bytes.proofs.PartLaws.{part-rest}
use Rattle.netlist.specs.Tables.{SomeTables}
use Rattle.netlist.specs.declared.inner.Loaded.{Loaded}
use Rattle.store_coverage.specs.Stage.{MemoryReady}
use Rattle.text_buffer.specs.Written.{Written}
use Rattle.text_buffer.proofs.WrittenLaws.{written-length, written-taken, written-past}
use Rattle.audit_block.specs.FileBlocks.{BlockTables, BlocksReady, TablesMade}
use Rattle.audit_block.specs.declared.inner.FileNumbers.{FileNumbers}
use Rattle.listing_lines.specs.ListingLines.{answer_lines}
use Rattle.listing_text.specs.Listing.{record_lines, store_after_all, listed_records}
use Rattle.listing_blocks.specs.Answers.{block_bytes, ListedTo, PieceReady, PieceLines}
use Rattle.listing_blocks.specs.BlockLines.{PartTrue, PartDone, ListBlocksReady, BlocksListed}
use Rattle.listing_blocks.specs.declared.inner.Listed.{Listed}
use Rattle.listing_blocks.specs.declared.blocks.PartAnswers.{PartAnswers}
use Rattle.block_words.specs.Layout.{lists_size}

abbrev class_in : FileNumbers → Class
class_in n = class_of n.class

abbrev here : ℕ → ℕ → ℕ → Listed
here place used bytes = record { place = place; used = used; bytes = bytes }

-- what lies past a place lies past a later one
past-later : (xs ys : List ℕ) {a b : ℕ} → a ≤ b → drop a xs ≡ drop a ys → drop b xs ≡ drop b ys
past-later xs ys {a} {b} h e =
    let far : a + (b - a) ≡ b = omega arith in
    subst (λ (k : ℕ). drop k xs ≡ drop k ys) far (sym (drop-drop (b - a) a xs) ∙ ap (drop (b - a)) e ∙ drop-drop (b - a) a ys)

module _ (table offsets : List ℕ) (numbers : FileNumbers) (from : Listed) (piece ws₀ work₀ out₀ : List ℕ) where
  -- the records before byte `used` are listed; where none is yet, no line is put
  pub record Listing (risingLists fallingLists ws work out : List ℕ) (place used bytes : ℕ) : Type 0 where
    pub ready : ListBlocksReady table offsets numbers from piece ws₀ work₀ out₀
    pub up_room_of : length risingLists ≡ lists_size
    pub down_room : length fallingLists ≡ lists_size
    pub within : used ≤ length piece
    pub begun : from.used ≤ used
    pub none : used ≡ from.used → bytes ≡ from.bytes
    pub few_places : place + from.used ≤ from.place + used
    pub room : length out ≡ length out₀
    pub inside : bytes ≤ length out
    pub past_lines : drop bytes out ≡ drop bytes out₀
    pub same_store : length ws ≡ length ws₀
    pub same_length_of : length work ≡ length work₀
    pub past_work : drop work_words_count work ≡ drop work_words_count work₀
    pub listed : (N : Netlist) → BlockTables N table offsets numbers → MemoryReady N ws₀ work₀
        → ListedTo N (class_in numbers) from (here place used bytes) piece ws₀ ws work out₀ out

module _ {table offsets : List ℕ} {numbers : FileNumbers} {from : Listed} {piece ws₀ work₀ out₀ : List ℕ} where
  pub listing_start : ListBlocksReady table offsets numbers from piece ws₀ work₀ out₀ → {risingLists fallingLists : List ℕ} → length risingLists ≡ lists_size
      → length fallingLists ≡ lists_size
      → Listing table offsets numbers from piece ws₀ work₀ out₀ risingLists fallingLists ws₀ work₀ out₀ from.place from.used from.bytes
  listing_start r u d = record {
    ready = r;
    up_room_of = u;
    down_room = d;
    within = r.begun.within;
    begun = omega arith;
    none = λ e. refl;
    few_places = omega arith;
    room = refl;
    inside = r.begun.inside;
    past_lines = refl;
    same_store = refl;
    same_length_of = refl;
    past_work = refl;
    listed = λ N t m. record { memory = m; lines = refl; store = refl; count = refl };
  }

  module _ {risingLists fallingLists ws work out : List ℕ} {place used bytes : ℕ}
      (g : Listing table offsets numbers from piece ws₀ work₀ out₀ risingLists fallingLists ws work out place used bytes) where
    pub listing_ready : BlocksReady table offsets numbers risingLists fallingLists ws work
    listing_ready = record {
      netlist = g.ready.netlist;
      tables = g.ready.tables;
      memory = (g.listed g.ready.netlist g.ready.tables g.ready.memory).memory;
      up_room_of = omega (arith, g.up_room_of);
      down_room = omega (arith, g.down_room);
    }

    listing_ended : (from.used < length piece → from.bytes + block_bytes ≤ length out₀ → from.used < used)
        → BlocksListed from (here place used bytes) table offsets numbers piece ws₀ ws work₀ work out₀ out
    listing_ended f = record {
      onward = record {
        within = g.within;
        inside = g.inside;
        further = f;
        places = g.few_places;
        past_lines = g.past_lines;
        same_length_of = g.same_length_of;
        past_work = g.past_work;
      };
      of_circuit = g.listed;
    }

    pub listing_end : length piece ≤ used → BlocksListed from (here place used bytes) table offsets numbers piece ws₀ ws work₀ work out₀ out
    listing_end h = listing_ended (λ a b. omega arith)

    -- no room for the lines of a block
    pub listing_full : length out - bytes < block_bytes → BlocksListed from (here place used bytes) table offsets numbers piece ws₀ ws work₀ work out₀ out
    listing_full h = listing_ended (λ a b. moved b)
      where
        moved : from.bytes + block_bytes ≤ length out₀ → from.used < used
        moved b =
            cases used from.used (λ (e : used ≤ from.used). (let same : used ≡ from.used = omega (arith, g.begun) in absurd (omega (arith, g.none same, g.room))))
            (λ (e : from.used < used). e)

    -- one block more
    module _ (h : used < length piece) {r : PartAnswers} {risingLists' fallingLists' ws' work' : List ℕ}
        (d : PartDone r table offsets numbers (take (length piece - used) (drop used piece)) risingLists risingLists' fallingLists fallingLists' ws ws' work work') where
      part-is : take (length piece - used) (drop used piece) ≡ drop used piece
      part-is = part-rest used piece

      part_length : length (take (length piece - used) (drop used piece)) ≡ length piece - used
      part_length = ap (length {A = ℕ}) part-is ∙ length-drop used piece

      pub block_within : used + r.used ≤ length piece
      block_within = omega (arith, d.within, part_length)

      block-some : 1 ≤ r.used
      block-some = d.some (omega (arith, part_length))

      pub block_room : block_bytes ≤ length out - bytes → bytes + 63 * r.lines ≤ length out
      block_room o = omega (arith, d.few)

      pub block-places : place + r.lines < 2 ^ 64
      block-places = omega (arith, g.few_places, g.ready.begun.places, d.fewer, block_within)

      pub block-less : length piece - (used + r.used) < length piece - used
      block-less = omega (arith, block-some, block_within)

      module _ {out' : List ℕ} {e : ℕ} (p : Written out out' bytes (answer_lines place r.answers r.lines) e) where
        listed_next : (N : Netlist) → BlockTables N table offsets numbers → MemoryReady N ws₀ work₀
            → ListedTo N (class_in numbers) from (here (place + r.lines) (used + r.used) e) piece ws₀ ws' work' out₀ out'
        listed_next N t m =
            let l = g.listed N t m in
            let b : PartTrue r N (class_in numbers) (drop used piece) ws ws' work' =
            subst (λ (x : List ℕ). PartTrue r N (class_in numbers) x ws ws' work') part-is (d.of_circuit N t l.memory) in
            let far : drop r.used (drop used piece) ≡ drop (used + r.used) piece = drop-drop r.used used piece in
            let text : List ℕ = answer_lines place r.answers r.lines in
            let others : List ℕ → List ℕ = λ x. record_lines N (class_in numbers) (place + r.lines) (listed_records N x) ws' in
            record {
              memory = b.memory;
              lines =
                  ap (λ (x : List ℕ). x ++ others (drop (used + r.used) piece)) (written-taken p)
                  ∙ append_assoc (take bytes out) text (others (drop (used + r.used) piece))
                  ∙ ap (λ (x : List ℕ). take bytes out ++ (text ++ others x)) (sym far)
                  ∙ ap (λ (x : List ℕ). take bytes out ++ x) (b.listed.lines place)
                  ∙ l.lines;
              store = ap (λ (x : List ℕ). store_after_all N (class_in numbers) (listed_records N x) ws') (sym far) ∙ b.listed.store ∙ l.store;
              count = omega (arith, l.count, b.listed.count, ap (λ (x : List ℕ). length (listed_records N x)) far);
            }

        pub listing_next : Listing table offsets numbers from piece ws₀ work₀ out₀ risingLists' fallingLists' ws' work' out' (place + r.lines) (used + r.used) e
        listing_next = record {
          ready = g.ready;
          up_room_of = d.kept.same_rising ∙ g.up_room_of;
          down_room = d.kept.same_falling ∙ g.down_room;
          within = block_within;
          begun = omega (arith, g.begun);
          none = λ q. absurd (omega (arith, q, g.begun, block-some));
          few_places = omega (arith, g.few_places, d.fewer);
          room = written-length p ∙ g.room;
          inside = p.inside;
          past_lines = written-past p ∙ past-later out out₀ {a = bytes} {b = e} (omega (arith, p.place)) g.past_lines;
          same_store = d.store_length ∙ g.same_store;
          same_length_of = d.kept.same_length_of ∙ g.same_length_of;
          past_work = d.kept.past_work ∙ g.past_work;
          listed = listed_next;
        }

-- As `list_piece` meets them
module _ {netlist : List ℕ} {t : Loaded} {from : Listed} {piece ws work out : List ℕ} (p : PieceReady netlist t from piece ws work out) where
  pub piece-tables : SomeTables netlist t.positions t.counts t.shape
  piece-tables = record { circuit = p.circuit; tables = p.tables }

  module _ {numbers : FileNumbers} {class : ℕ} {table offsets : List ℕ} (made : TablesMade numbers netlist t.positions t.counts t.shape class table offsets) where
    pub piece-blocks : ListBlocksReady table offsets numbers from piece ws work out
    piece-blocks = record { netlist = p.circuit; tables = made.tables p.circuit p.tables; memory = p.memory; begun = p.begun }

    pub piece-listed : {r : Listed} {ws' work' out' : List ℕ} → BlocksListed from r table offsets numbers piece ws ws' work work' out out'
        → PieceLines from r netlist t class piece ws ws' work work' out out'
    piece-listed {r} {ws'} {work'} {out'} b = record {
      onward = b.onward;
      of_circuit = λ N k.
          let memory = subst (λ (M : Netlist). MemoryReady M ws work) (value_inj (sym p.tables.legal ∙ k.legal)) p.memory in
          subst (λ (numbers : FileNumbers). ListedTo N (class_of numbers.class) from r piece ws ws' work' out out') made.numbers_are
          (b.of_circuit N (made.tables N k) memory);
    }
