-- What the listing program prints is the first line and the lines after it, of which a refused netlist or class has none.
use Rattle.model.proofs.Prelude.{ℕ, ◌≡◌, ◌∙◌, sym, List, ◌++◌, append_assoc, append-nil}
use Rattle.model.specs.Base.{Answer, refused, value}
use Rattle.model.specs.Netlist.{Netlist, path_total}
use Rattle.model.specs.Detect.{Class}
use Rattle.model.specs.Read.{class_of}
use Rattle.model.specs.Store.{empty_store}
use Rattle.listing_lines.specs.ListingLines.{paths_line, refused_line_of}
use Rattle.listing_text.specs.Listing.{record_lines, store_after_all, listed_records, store_lines, listing_of, listing_text}
use Rattle.listing_head.specs.ListingHead.{listed_netlist, head_line, lines_after}

cut : (a : Answer Netlist) (c : Class) (test_file : List ℕ) → listing_of a c test_file ≡ head_line a ++ lines_after a c test_file
unfolding listing_of head_line lines_after
cut (refused number) c test_file = sym (append-nil (refused_line_of number))
cut (value N) c test_file =
    append_assoc (paths_line (path_total N)) (record_lines N c 1 (listed_records N test_file) empty_store)
    (store_lines (store_after_all N c (listed_records N test_file) empty_store))

pub head-holds : (netlist : List ℕ) (class : ℕ) (test_file : List ℕ)
    → listing_text netlist class test_file ≡ head_line (listed_netlist netlist class) ++ lines_after (listed_netlist netlist class) (class_of class) test_file
unfolding listing_text
head-holds netlist class test_file = cut (listed_netlist netlist class) (class_of class) test_file

-- a refused netlist or class prints its number alone, whatever the test file
pub refused-alone : (netlist : List ℕ) (class number : ℕ) → listed_netlist netlist class ≡ refused number
    → (test_file : List ℕ) → listing_text netlist class test_file ≡ refused_line_of number
unfolding head_line lines_after
refused-alone netlist class number e test_file = head-holds netlist class test_file ∙ rw e (append-nil (refused_line_of number))
