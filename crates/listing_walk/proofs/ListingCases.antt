-- The listing's walk over a file that is read piece by piece: its start, one piece more, its ends, and the lines after those of the records.
use Rattle.model.proofs.Prelude.{ℕ, ◌≤◌, ◌<◌, ◌+◌, ◌*◌, ◌^◌, ◌/◌, ◌%◌, ◌≡◌, ◌∙◌, ap, refl, sym, ap₂, Bool, List, [], ◌++◌, append_assoc, length, drop}
use Rattle.model.proofs.Prelude.{take, length-take-le, arith, rules}
use native.Mathlib.Nat.{div-add-mod'}
use Rattle.model.specs.Base.{value}
use Rattle.model.specs.Netlist.{Netlist, path_total}
use Rattle.model.specs.Detect.{Class}
use Rattle.model.specs.Read.{vector_bytes_of, record_length, read_netlist, class_of}
use Rattle.model.specs.Store.{empty_store}
use Rattle.model.specs.Calls.{work_words_count}
use Rattle.model.proofs.ReadLaws.{limits}
use Rattle.netlist.specs.declared.inner.Loaded.{Loaded}
use Rattle.store_words.specs.Sound.{SoundWords}
use Rattle.store_words.proofs.SoundLaws.{sound-words, sound_more}
use Rattle.listing_text.specs.Listing.{record_lines, listed_records, store_after_all, store_lines}
use Rattle.listing_text.specs.StoreText.{out_bytes}
use Rattle.listing_text.proofs.CutLaws.{listed-end}
use Rattle.listing_text.proofs.ListedPiecesHold.{lines_more, store-more, count-more}
use Rattle.listing_blocks.specs.Answers.{block_bytes, ListReady}
use Rattle.text_buffer.specs.Written.{Written}
use Rattle.text_buffer.proofs.WrittenLaws.{written-length, first-bytes}
use Rattle.listing_piece.specs.PieceListing.{ReadReady, ReadOf, ReadListed}
use Rattle.listing_walk.specs.ListingWalk.{piece_bytes, listed_store, LinesWaiting, FileListed}
use Rattle.testfile_reading.proofs.ReadPieceLaws.{part_length, FileSoFar, file-start, file-more, file-over, file-next, file-last}

-- nothing is read yet
none-listed : (N : Netlist) → listed_records N [] ≡ []
none-listed N = listed-end N [] 0 (omega arith)

store-none : (N : Netlist) (c : Class) → listed_store N c [] ≡ empty_store
unfolding store_after_all
store-none N c = ap (λ (rs : List (List ℕ)). store_after_all N c rs empty_store) (none-listed N)

lines_none : (N : Netlist) (c : Class) → record_lines N c 1 (listed_records N []) empty_store ≡ []
unfolding record_lines
lines_none N c = ap (λ (rs : List (List ℕ)). record_lines N c 1 rs empty_store) (none-listed N)

module _ {netlist : List ℕ} {t : Loaded} {ws work out : List ℕ} (h : ListReady netlist t ws work out) where
  pub list-inputs : t.shape.inputs ≤ 64
  list-inputs = omega (arith, h.tables.inputs_are, (limits netlist h.circuit h.tables.legal).few_inputs)

  list-sound : SoundWords (2 ^ 62) ws
  list-sound =
      sound_more (path_total h.circuit) (2 ^ 62) ws (limits netlist h.circuit h.tables.legal).total_fits
      (sound-words (path_total h.circuit) ws h.memory.store_length (sym h.memory.sound))

module _ (netlist : List ℕ) (t : Loaded) (class : ℕ) (full most : ℕ) (work₀ : List ℕ) where
  -- What was read so far is a whole number of records, and its records were listed: their lines are those that were written, then those that wait
  pub record ListedSoFar (place waiting bytes : ℕ) (space ws work out : List ℕ) : Type 0 where
    pub test_file : List ℕ
    pub read : FileSoFar netlist full most test_file bytes space
    pub store : (N : Netlist) → read_netlist netlist ≡ value N → ws ≡ listed_store N (class_of class) test_file
    pub place_is_of : (N : Netlist) → read_netlist netlist ≡ value N → place ≡ 1 + length (listed_records N test_file)
    pub few : place ≤ 1 + bytes
    pub ready : ListReady netlist t ws work out
    pub room : waiting + block_bytes ≤ length out
    pub written : List ℕ
    pub text : (N : Netlist) → read_netlist netlist ≡ value N
        → written ++ take waiting out ≡ record_lines N (class_of class) 1 (listed_records N test_file) empty_store
    pub same_length_of : length work ≡ length work₀
    pub past_work : drop work_words_count work ≡ drop work_words_count work₀

module _ {netlist : List ℕ} {t : Loaded} {class full most : ℕ} {work₀ : List ℕ} where
  pub listed_start : {space ws out : List ℕ} → ListReady netlist t ws work₀ out → ws ≡ empty_store
      → length space ≡ most → ListedSoFar netlist t class full most work₀ 1 0 0 space ws work₀ out
  listed_start {space = space} r e l = record {
    test_file = [];
    read = file-start netlist full most space l;
    store = λ N q. e ∙ sym (store-none N (class_of class));
    place_is_of = λ N q. omega (arith, ap (length {A = List ℕ}) (none-listed N));
    few = omega arith;
    ready = r;
    room = omega (arith, r.room);
    written = [];
    text = λ N q. sym (lines_none N (class_of class));
    same_length_of = refl;
    past_work = refl;
  }

  module _ {place waiting bytes : ℕ} {space ws work out : List ℕ} (g : ListedSoFar netlist t class full most work₀ place waiting bytes space ws work out) where
    abbrev f : List ℕ
    f = g.test_file

    pub listed-long : full ≤ most → full ≤ length space
    listed-long h = omega (arith, g.read.space_length)

    pub listed-read : (n : ℕ) (space' : List ℕ) → n ≤ length space' → n ≤ full → full ≤ most → most ≤ piece_bytes → bytes ≤ 9223372036854775807
        → ReadReady place waiting netlist t (take n space') ws work out
    listed-read n space' cn cm fm mp b = record { ready = g.ready; room = g.room; places = omega (arith, length-take-le n space' cn, cm, fm, mp, b, g.few) }

    module _ {record_bytes : ℕ} (eb : record_bytes ≡ 2 + 2 * vector_bytes_of t.shape.inputs) (near : most < full + record_bytes) where
      pub listed-over : 9223372036854775807 < bytes → LinesWaiting bytes place waiting netlist t class space ws work₀ work out
      listed-over h = record {
        walk = record {
          test_file = f;
          bytes_are = g.read.bytes_are;
          in_space = file-over netlist full most g.ready.tables.legal g.ready.tables.inputs_are eb near g.read (omega (arith, h));
          place_is_of = g.place_is_of;
          store = g.store;
          ready = g.ready;
          same_length_of = g.same_length_of;
          past_work = g.past_work;
        };
        inside = omega (arith, g.room);
        written = g.written;
        lines = g.text;
      }

      module _ (n : ℕ) (space' : List ℕ) (cn : n ≤ length space') (cm : n ≤ full) (l : length space' ≡ length space) {place' waiting' : ℕ} {ws' work' out' : List ℕ}
          (q : ReadListed place waiting place' waiting' netlist t class (take n space') ws ws' work work' out out') where
        abbrev piece : List ℕ
        piece = take n space'

        module _ (N : Netlist) (e : read_netlist netlist ≡ value N) where
          here : ReadOf N (class_of class) place waiting place' waiting' q.written piece ws ws' out out'
          here = q.of_circuit N e

          whole_is : length f ≡ length f / record_length N * record_length N
          whole_is = omega (arith, div-add-mod' (length f) (record_length N), g.read.whole N e)

          more-store : ws' ≡ listed_store N (class_of class) (f ++ piece)
          more-store =
              here.store
              ∙ ap (store_after_all N (class_of class) (listed_records N piece)) (g.store N e)
              ∙ store-more N (class_of class) f piece (length f / record_length N) whole_is empty_store

          more-places : place' ≡ 1 + length (listed_records N (f ++ piece))
          more-places = omega (arith, here.places, g.place_is_of N e, count-more N (class_of class) f piece (length f / record_length N) whole_is)

          more-text : g.written ++ q.written ++ take waiting' out' ≡ record_lines N (class_of class) 1 (listed_records N (f ++ piece)) empty_store
          more-text =
              let waits : List ℕ = take waiting out in
              let others : ℕ → List ℕ → List ℕ = λ k s. record_lines N (class_of class) k (listed_records N piece) s in
              append_assoc g.written q.written (take waiting' out')
              ∙ ap (λ (x : List ℕ). g.written ++ x) here.text
              ∙ sym (append_assoc g.written waits (others place ws))
              ∙ ap (λ (x : List ℕ). x ++ others place ws) (g.text N e)
              ∙ ap₂ (λ (k : ℕ) (s : List ℕ). record_lines N (class_of class) 1 (listed_records N f) empty_store ++ others k s) (g.place_is_of N e) (g.store N e)
              ∙ lines_more N (class_of class) f piece (length f / record_length N) whole_is 1 empty_store

        pub listed_next : {least : ℕ} → full ≤ least → least ≤ n → full % record_bytes ≡ 0
            → ListedSoFar netlist t class full most work₀ place' waiting' (bytes + n) space' ws' work' out'
        listed_next fl ln w = record {
          test_file = f ++ piece;
          read = file-next netlist full most g.ready.tables.legal g.ready.tables.inputs_are eb near g.read n space' cn cm l (omega (arith, fl, ln)) w;
          store = more-store;
          place_is_of = more-places;
          few = omega (arith, q.few, g.few, length-take-le n space' cn);
          ready = q.ready;
          room = q.room;
          written = g.written ++ q.written;
          text = more-text;
          same_length_of = q.same_length_of ∙ g.same_length_of;
          past_work = q.past_work ∙ g.past_work;
        }

        -- the last piece
        pub listed-last : LinesWaiting (bytes + n) place' waiting' netlist t class space' ws' work₀ work' out'
        listed-last = record {
          walk = record {
            test_file = f ++ piece;
            bytes_are = file-more bytes n f space' g.read.bytes_are cn;
            in_space = file-last netlist full most g.ready.tables.legal g.ready.tables.inputs_are eb near g.read n space' cn cm l;
            place_is_of = more-places;
            store = more-store;
            ready = q.ready;
            same_length_of = q.same_length_of ∙ g.same_length_of;
            past_work = q.past_work ∙ g.past_work;
          };
          inside = omega (arith, q.room);
          written = g.written ++ q.written;
          lines = more-text;
        }

-- The lines after those of the records
module _ {netlist : List ℕ} {t : Loaded} {class : ℕ} {space ws work work' out : List ℕ} {bytes place waiting : ℕ}
    (v : LinesWaiting bytes place waiting netlist t class space ws work work' out) where
  pub lines-sound : SoundWords (2 ^ 62) ws
  lines-sound = list-sound v.walk.ready

  pub lines-room : out_bytes ≤ length out
  lines-room = v.walk.ready.room

  pub lines-inside : waiting ≤ length out
  lines-inside = v.inside

  pub lines-put : {out' : List ℕ} {end : ℕ} → Written out out' 0 (store_lines ws) end → {b : Bool}
      → FileListed (record { bytes = bytes; place = place; end = end; whole = b }) netlist t class space ws work work' out'
  lines-put p = record {
    walk = record {
      test_file = v.walk.test_file;
      bytes_are = v.walk.bytes_are;
      in_space = v.walk.in_space;
      place_is_of = v.walk.place_is_of;
      store = v.walk.store;
      ready = record {
        circuit = v.walk.ready.circuit;
        tables = v.walk.ready.tables;
        memory = v.walk.ready.memory;
        room = omega (arith, v.walk.ready.room, written-length p);
      };
      same_length_of = v.walk.same_length_of;
      past_work = v.walk.past_work;
    };
    inside = p.inside;
    lines = λ N e. first-bytes p ∙ ap store_lines (v.walk.store N e);
  }

pub ruleset listing-cases = (list-inputs, listed-long, listed-read, listed_start, listed_next, listed-last, listed-over, part_length, rules)

pub ruleset lines-cases = (lines-sound, lines-room, lines-inside, lines-put, part_length, rules)
