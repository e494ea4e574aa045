-- The cases of the writing call, by what the netlist, the number and the words were found to be.
use Rattle.model.proofs.Prelude.{ℕ, ◌≤◌, ◌<◌, ◌≡◌, ◌∙◌, refl, List, length, arith, rules, le-leb, lt-leb}
use Rattle.model.specs.Base.{refused, value}
use Rattle.model.specs.Netlist.{Netlist, path_total}
use Rattle.model.specs.Path.{path_of}
use Rattle.model.specs.Read.{read_netlist}
use Rattle.model.specs.Refusals.{refusal_number_of}
use Rattle.model.specs.Calls.{number_to_path_call, number_to_path_answer, number_to_path_buffer, path_written}
use Rattle.model.specs.declared.Refusal.{Refusal}
use Rattle.model.specs.declared.Refusal.TheVariants as why
use Rattle.netlist.specs.Answers.{LegalLoad, LoadTrue}
use Rattle.netlist.specs.Tables.{CircuitTables}
use Rattle.netlist.specs.declared.inner.Shape.{Shape}
use Rattle.netlist.proofs.LoadCases.{zeros-are}
use Rattle.path_of_number.specs.Tasks.{Wanted}
use Rattle.path_of_number.specs.Answers.{PathWritten}
use Rattle.std.specs.Prelude.{Result, Ok, Err}
use Rattle.netlist.specs.declared.inner.LegalNetlist.{LegalNetlist}

-- Number to path. A refusal leaves the buffer as found
refused-write : (w : Refusal) (file : List ℕ) (k : ℕ) (ws : List ℕ) → number_to_path_call file k ws ≡ refused (refusal_number_of w) → PathWritten (Err w) file k ws ws
unfolding number_to_path_answer number_to_path_buffer
refused-write w file k ws e = record { answer = rw e refl; buffer = rw e refl }

pub write_short : (file : List ℕ) (k : ℕ) (ws : List ℕ) → length ws < 513 → PathWritten (Err why.PathBufferLength) file k ws ws
unfolding number_to_path_call
write_short file k ws h = refused-write why.PathBufferLength file k ws (rw (lt-leb 513 (length ws) h) refl)

module _ (file : List ℕ) (k : ℕ) (ws : List ℕ) (h : 513 ≤ length ws) (cs ps : List ℕ) (a : Result LegalNetlist Refusal) (la : LoadTrue a file cs ps) where
  pub write_netlist : (w : Refusal) → a ≡ Err w → PathWritten (Err w) file k ws ws
  unfolding number_to_path_call
  write_netlist w l =
      let n : read_netlist file ≡ refused (refusal_number_of w) = rw l at la in
      refused-write w file k ws (rw (le-leb 513 (length ws) h, n) refl)

  module _ (l0 : LegalNetlist) (l : a ≡ Ok l0) where
    is : LegalLoad file cs ps l0.shape l0.total
    is = rw l at la

    abbrev N : Netlist
    N = is.circuit

    pub write_zero : k < 1 → PathWritten (Err why.NoSuchNumber) file k ws ws
    unfolding number_to_path_call
    write_zero z = refused-write why.NoSuchNumber file k ws (rw (le-leb 513 (length ws) h, is.tables.legal, lt-leb 1 k z) refl)

    module _ (low : 1 ≤ k) where
      pub write_over : l0.total < k → PathWritten (Err why.NoSuchNumber) file k ws ws
      unfolding number_to_path_call
      write_over z =
          let b : path_total N < k = omega (arith, is.total_is) in
          refused-write why.NoSuchNumber file k ws (rw (le-leb 513 (length ws) h, is.tables.legal, le-leb 1 k low, lt-leb k (path_total N) b) refl)

      module _ (z : k ≤ l0.total) where
        high : k ≤ path_total N
        high = omega (arith, is.total_is)

        pub write_wanted : Wanted file ps cs l0.shape k
        write_wanted = record { circuit = N; tables = is.tables; low = low; high = high }

        pub write_done : (left : List ℕ) → ((M : Netlist) → CircuitTables M file ps cs l0.shape → left ≡ path_written (path_of M k) ws)
            → PathWritten (Ok tt) file k ws left
        unfolding number_to_path_call number_to_path_answer number_to_path_buffer
        write_done left f =
            let e : number_to_path_call file k ws ≡ value (path_of N k) =
            rw (le-leb 513 (length ws) h, is.tables.legal, le-leb 1 k low, le-leb k (path_total N) high) refl in
            record { answer = rw e refl; buffer = f N is.tables ∙ rw e refl }

pub ruleset number-to-path-cases = (zeros-are, write_short, write_netlist, write_zero, write_over, write_wanted, write_done, rules)
