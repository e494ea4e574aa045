-- What is known before a block's marks are made; for one edge, the live outputs of each record, and where its marks are written.
use Rattle.std.specs.Prelude.{◌≡◌, ◌&&◌, not, List, ℕ, ◌+◌, ◌-◌, ◌≤◌, ◌<◌, leb, ltb, length, get_or, drop}
use Rattle.model.specs.Base.{bit}
use Rattle.model.specs.Calls.{work_words_count}
use Rattle.block_words.specs.Table.{SomeTable}
use Rattle.block_activity.specs.declared.inner.Batch.{Batch}
use Rattle.block_activity.specs.Layout.{up_outs_at, up_lengths_at, out_at}

-- tables of some netlist, and a block of at most 64 records
pub record BatchTables (table offsets : List ℕ) (b : Batch) : Type 0 where
  pub circuit : SomeTable table b.inputs b.nets
  pub few_outputs : b.outputs ≤ 64
  pub few_records : b.records ≤ 64
  pub out_nets : (o : ℕ) → o < b.outputs → out_at offsets o < 512

-- bit o of word t: output o is at a gate's net that is live in record t
pub record OutsAre (offsets : List ℕ) (inputs outputs : ℕ) (live outs : List ℕ) : Type 0 where
  pub bits : (t o : ℕ) → t < 64 → o < 64 → bit (get_or outs t 0) o ≡ (ltb o outputs && (leb inputs (out_at offsets o) && bit (get_or live (out_at offsets o) 0) t))

-- the marks of the first n records for an edge, those of record t `first` + t places after where those of the rising edge begin; the other places are as before
pub record EdgeWritten (vectors : List ℕ) (n first : ℕ) (outs lens before after : List ℕ) : Type 0 where
  pub same_length_of : length after ≡ length before
  pub edges : (t j : ℕ) → t < n → bit (get_or after (first + t) 0) j ≡ (not (bit (get_or vectors (first + t) 0) j) && bit (get_or vectors (64 - first + t) 0) j)
  pub outs_at : (t : ℕ) → t < n → get_or after (up_outs_at + first + t) 0 ≡ get_or outs t 0
  pub lens_at : (t : ℕ) → t < n → get_or after (up_lengths_at + first + t) 0 ≡ get_or lens t 0
  pub others : (k : ℕ) → ((t : ℕ) → t < 64 → (k ≡ first + t → ⊥) × (k ≡ up_outs_at + first + t → ⊥) × (k ≡ up_lengths_at + first + t → ⊥))
      → get_or after k 0 ≡ get_or before k 0

-- the working memory after a use that leaves what stands past it
pub record WorkKept (before after : List ℕ) : Type 0 where
  pub same_length_of : length after ≡ length before
  pub past_work : drop work_words_count after ≡ drop work_words_count before
