-- The records of one piece, listed as often as the buffer is full: the start, one part more, the end.
use Rattle.model.proofs.Prelude.{ℕ, ◌≤◌, ◌<◌, ◌+◌, ◌-◌, ◌*◌, ◌^◌, ◌≡◌, ◌∙◌, ap, refl, sym, subst, ⊎_elim, List, [], ◌++◌, append_assoc, append-nil}
use Rattle.model.proofs.Prelude.{length, drop, take, arith}
use Rattle.model.specs.Base.{value}
use Rattle.model.specs.Netlist.{Netlist}
use Rattle.model.specs.Read.{read_netlist, class_of}
use Rattle.model.specs.Calls.{work_words_count}
use Rattle.model.proofs.AnswerLaws.{value_inj}
use Rattle.netlist.specs.declared.inner.Loaded.{Loaded}
use Rattle.listing_text.specs.Listing.{record_lines, listed_records, store_after_all}
use Rattle.listing_blocks.specs.Answers.{block_bytes, TablesOf, ListReady, PieceReady, PieceLines}
use Rattle.listing_blocks.specs.declared.inner.Listed.{Listed}
use Rattle.listing_text.proofs.CutLaws.{listed-end}
use Rattle.listing_piece.specs.PieceListing.{ReadReady, ReadListed, WrittenFull}

-- the tables of a netlist file are those of the netlist that it holds
tables-of : {netlist : List ℕ} (t : Loaded) {C N : Netlist} → TablesOf C netlist t → read_netlist netlist ≡ value N → TablesOf N netlist t
tables-of {netlist} t k e = subst (λ (M : Netlist). TablesOf M netlist t) (value_inj (sym k.legal ∙ e)) k

module _ (first waiting : ℕ) (netlist : List ℕ) (t : Loaded) (class : ℕ) (piece ws₀ work₀ out₀ : List ℕ) where
  -- what was written, what waits, and the lines of the records that are left give the whole
  pub record ReadTo (N : Netlist) (written ws out : List ℕ) (at : Listed) : Type 0 where
    pub text : written ++ (take at.bytes out ++ record_lines N (class_of class) at.place (listed_records N (drop at.used piece)) ws)
        ≡ take waiting out₀ ++ record_lines N (class_of class) first (listed_records N piece) ws₀
    pub store : store_after_all N (class_of class) (listed_records N (drop at.used piece)) ws ≡ store_after_all N (class_of class) (listed_records N piece) ws₀
    pub count : at.place + length (listed_records N (drop at.used piece)) ≡ first + length (listed_records N piece)

  pub record Reading (ws work out : List ℕ) (at : Listed) : Type 0 where
    pub ready : ListReady netlist t ws work out
    pub places : first + 2 * length piece < 2 ^ 64
    pub within : at.used ≤ length piece
    pub few : at.place ≤ first + at.used
    pub room : at.bytes + block_bytes ≤ length out
    pub same_store : length ws ≡ length ws₀
    pub same_out : length out ≡ length out₀
    pub same_length_of : length work ≡ length work₀
    pub past_work : drop work_words_count work ≡ drop work_words_count work₀
    pub written : List ℕ
    pub listed : (N : Netlist) → read_netlist netlist ≡ value N → ReadTo N written ws out at

module _ {first waiting : ℕ} {netlist : List ℕ} {t : Loaded} {class : ℕ} {piece ws₀ work₀ out₀ : List ℕ} where
  pub reading_start : ReadReady first waiting netlist t piece ws₀ work₀ out₀
      → Reading first waiting netlist t class piece ws₀ work₀ out₀ ws₀ work₀ out₀ (record { place = first; used = 0; bytes = waiting })
  reading_start h = record {
    ready = h.ready;
    places = h.places;
    within = omega arith;
    few = omega arith;
    room = h.room;
    same_store = refl;
    same_out = refl;
    same_length_of = refl;
    past_work = refl;
    written = [];
    listed = λ N e. record { text = refl; store = refl; count = refl };
  }

  module _ {ws work out : List ℕ} {at : Listed} (g : Reading first waiting netlist t class piece ws₀ work₀ out₀ ws work out at) where
    pub reading_ready : PieceReady netlist t at piece ws work out
    reading_ready = record {
      circuit = g.ready.circuit;
      tables = g.ready.tables;
      memory = g.ready.memory;
      begun = record { within = g.within; places = omega (arith, g.few, g.within, g.places); inside = omega (arith, g.room) };
    }

    -- the end of the piece
    pub reading_end : length piece ≤ at.used
        → ReadListed first waiting at.place at.bytes netlist t class piece ws₀ ws work₀ work out₀ out
    unfolding record_lines store_after_all
    reading_end h = record {
      written = g.written;
      of_circuit = λ N e. (let l = g.listed N e in
          let none : listed_records N (drop at.used piece) ≡ [] = listed-end N piece at.used h in
          record {
            text =
                ap (λ (x : List ℕ). g.written ++ x) (sym (append-nil (take at.bytes out)))
                ∙ ap (λ (rs : List (List ℕ)). g.written ++ (take at.bytes out ++ record_lines N (class_of class) at.place rs ws)) (sym none)
                ∙ l.text;
            store = ap (λ (rs : List (List ℕ)). store_after_all N (class_of class) rs ws) (sym none) ∙ l.store;
            places = omega (arith, l.count, ap (length {A = List ℕ}) none);
          });
      ready = g.ready;
      room = g.room;
      few = omega (arith, g.few, g.within);
      same_length_of = g.same_length_of;
      past_work = g.past_work;
    }

    -- one part more, and the buffer written where it is full
    module _ (h : at.used < length piece) {more : Listed} {ws' work' out' : List ℕ} (l : length out' ≡ length out)
        (q : PieceLines at more netlist t class piece ws ws' work work' out out') where
      pub more-inside : more.bytes ≤ length out'
      more-inside = q.onward.inside

      pub more_room : block_bytes ≤ length out'
      more_room = omega (arith, g.room, l)

      ready-more : ListReady netlist t ws' work' out'
      ready-more = record {
        circuit = g.ready.circuit;
        tables = g.ready.tables;
        memory = (q.of_circuit g.ready.circuit g.ready.tables).memory;
        room = omega (arith, g.ready.room, l);
      }

      same-store : length ws' ≡ length ws₀
      same-store = ready-more.memory.store_length ∙ sym g.ready.memory.store_length ∙ g.same_store

      listed_more : (N : Netlist) → read_netlist netlist ≡ value N → ReadTo first waiting netlist t class piece ws₀ work₀ out₀ N g.written ws' out' more
      listed_more N e =
          let b = g.listed N e in
          let m = q.of_circuit N (tables-of t g.ready.tables e) in
          record {
            text = ap (λ (x : List ℕ). g.written ++ x) m.lines ∙ b.text;
            store = m.store ∙ b.store;
            count = m.count ∙ b.count;
          }

      abbrev emptied : Listed
      emptied = record { place = more.place; used = more.used; bytes = 0 }

      reading_kept : more.bytes + block_bytes ≤ length out' → Reading first waiting netlist t class piece ws₀ work₀ out₀ ws' work' out' more
      reading_kept r = record {
        ready = ready-more;
        places = g.places;
        within = q.onward.within;
        few = omega (arith, g.few, q.onward.places);
        room = r;
        same_store = same-store;
        same_out = l ∙ g.same_out;
        same_length_of = q.onward.same_length_of ∙ g.same_length_of;
        past_work = q.onward.past_work ∙ g.past_work;
        written = g.written;
        listed = listed_more;
      }

      reading_written : Reading first waiting netlist t class piece ws₀ work₀ out₀ ws' work' out' emptied
      reading_written = record {
        ready = ready-more;
        places = g.places;
        within = q.onward.within;
        few = omega (arith, g.few, q.onward.places);
        room = omega (arith, more_room);
        same_store = same-store;
        same_out = l ∙ g.same_out;
        same_length_of = q.onward.same_length_of ∙ g.same_length_of;
        past_work = q.onward.past_work ∙ g.past_work;
        written = g.written ++ take more.bytes out';
        listed = λ N e. (let b = listed_more N e in
            let left : List ℕ = record_lines N (class_of class) more.place (listed_records N (drop more.used piece)) ws' in
            record { text = append_assoc g.written (take more.bytes out') left ∙ b.text; store = b.store; count = b.count });
      }

      module _ {next : Listed} (w : WrittenFull more next out') where
        pub reading_next : Reading first waiting netlist t class piece ws₀ work₀ out₀ ws' work' out' next
        reading_next =
            ⊎_elim (λ (e : next ≡ more).
            subst (λ (x : Listed). Reading first waiting netlist t class piece ws₀ work₀ out₀ ws' work' out' x) (sym e)
            (reading_kept (subst (λ (x : Listed). x.bytes + block_bytes ≤ length out') e w.room)))
            (λ (e : next ≡ emptied). subst (λ (x : Listed). Reading first waiting netlist t class piece ws₀ work₀ out₀ ws' work' out' x) (sym e) reading_written) w.is

        next-used : next.used ≡ more.used
        next-used = ⊎_elim (λ (e : next ≡ more). ap (λ (x : Listed). x.used) e) (λ (e : next ≡ emptied). ap (λ (x : Listed). x.used) e) w.is

        pub reading_less : length piece - next.used < length piece - at.used
        reading_less = omega (arith, next-used, q.onward.further h g.room)
