-- What the listing program's functions need of each other: the first line with a legal netlist's tables, and an empty store.
use Rattle.model.proofs.Prelude.{ℕ, ◌≤◌, ◌≡◌, sym, subst, List, length, take, replicate, rules}
use Rattle.model.specs.Store.{store_words_count, empty_store}
use Rattle.model.specs.Calls.{work_words_count}
use Rattle.netlist.specs.Tables.{SomeTables}
use Rattle.netlist.specs.declared.inner.Loaded.{Loaded}
use Rattle.store_coverage.specs.Stage.{MemoryReady}
use Rattle.audit_block.proofs.MemoryLaws.{emptied, empty-memory}
use Rattle.listing_head.specs.ListingHead.{HeadTables, HeadTrue}
use Rattle.listing_head.specs.declared.inner.Head.{Head}
use Rattle.std.specs.Prelude.{Option, Some}
use Rattle.listing_text.specs.StoreText.{out_bytes}
use Rattle.listing_blocks.specs.Answers.{ListReady}
use Rattle.testfile_reading.proofs.ReadPieceLaws.{part_length}

-- the first line
module _ {r : Head} {netlist : List ℕ} {class : ℕ} {out out' : List ℕ} (t : HeadTrue r netlist class out out') where
  pub head-length : r.end ≡ length (take r.end out')
  head-length = part_length r.end out' t.line.inside

  pub head-tables : (d : Loaded) → r.tables ≡ Some d → SomeTables netlist d.positions d.counts d.shape
  head-tables d p = (subst (λ (x : Option Loaded). HeadTables x netlist class) p t.tables_are).1

-- a store that was emptied
pub store-empty : (ws₀ ws : List ℕ) → length ws₀ ≡ store_words_count → ws ≡ replicate (length ws₀) 0 → ws ≡ empty_store
store-empty ws₀ ws long e = emptied ws (length ws₀) e long

-- from an empty store on
pub from_empty : (netlist : List ℕ) (t : Loaded) (ws₀ ws work out : List ℕ) → SomeTables netlist t.positions t.counts t.shape
    → length ws₀ ≡ store_words_count → ws ≡ replicate (length ws₀) 0 → work_words_count ≤ length work → out_bytes ≤ length out → ListReady netlist t ws work out
from_empty netlist t ws₀ ws work out l long e w o =
    record {
      circuit = l.circuit;
      tables = l.tables;
      memory = subst (λ (x : List ℕ). MemoryReady l.circuit x work) (sym (store-empty ws₀ ws long e)) (empty-memory l.circuit work w);
      room = o;
    }

pub ruleset List-cases = (head-length, head-tables, store-empty, from_empty, part_length, rules)
