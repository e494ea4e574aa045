-- The text of a number's path, by what the netlist and the number were found to be.
use Rattle.model.proofs.Prelude.{ℕ, ◌≤◌, ◌<◌, ◌+◌, ◌-◌, ◌≡◌, ◌∙◌, ap, refl, sym, List, [], ◌∷◌, ◌++◌, append_assoc, length, get_or, drop, replicate}
use Rattle.model.proofs.Prelude.{leb, T, leb→le, rules, le-leb}
use Rattle.model.specs.Base.{Answer, refused, value, ◌into◌, ◌then◌, checks, after, passes}
use Rattle.model.specs.Netlist.{Netlist, path_total}
use Rattle.model.specs.Path.{CircuitPath, valid, path_of}
use Rattle.model.specs.Read.{read_netlist, within}
use Rattle.model.specs.Refusals.{refusal_number_of}
use Rattle.model.specs.Calls.{words_of, path_words, number_to_path_call, number_to_path_answer, number_to_path_buffer, path_written}
use Rattle.model.proofs.BoolLaws.{and_left, and_right}
use Rattle.model.proofs.AnswerLaws.{not_refused, steps, then-first, then-second, checks→}
use Rattle.model.proofs.NumberLaws.{number-of_path}
use Rattle.model.proofs.ReadLaws.{legal}
use Rattle.model.specs.declared.Refusal.{Refusal}
use Rattle.netlist.specs.Answers.{LoadTrue}
use Rattle.netlist.specs.Tables.{SomeCircuit}
use Rattle.netlist.specs.declared.inner.Shape.{Shape}
use Rattle.netlist.proofs.LoadCases.{zeros-are}
use Rattle.path_to_number.proofs.NumberCallCases.{read-tables}
use Rattle.path_of_number.specs.Answers.{PathWritten}
use Rattle.listing_lines.specs.ListingLines.{refused_line_of}
use Rattle.text_buffer.specs.Written.{Written, in_room}
use Rattle.text_buffer.proofs.WrittenLaws.{no_room, room-there, written_as}
use Rattle.path_lines.specs.PathText.{path_call, shown_path, path_text}
use Rattle.path_lines.specs.Walked.{PinsAt, PathTold}
use Rattle.std.specs.Prelude.{Result, Ok, Err}
use Rattle.netlist.specs.declared.inner.LegalNetlist.{LegalNetlist}
use Rattle.model.specs.Returned.{answer_of}

-- ---- a netlist that was loaded

module _ (file counts positions : List ℕ) (a : Result LegalNetlist Refusal) (la : LoadTrue a file counts positions) where
  pub loaded_none : (w : Refusal) → a ≡ Err w → (out : List ℕ) (name : ℕ → List ℕ) (words : List ℕ) → PathTold out out file name words 0
  loaded_none w l out name words =
      let n : read_netlist file ≡ refused (refusal_number_of w) = rw l at la in
      record { told = λ N p e v o q. absurd (not_refused (sym n ∙ e)) }

  pub loaded_circuit : (l0 : LegalNetlist) → a ≡ Ok l0 → SomeCircuit file positions l0.shape
  loaded_circuit l0 l = record { counts = counts; known = read-tables file [] counts positions a la l0 l }

pub ruleset load-cases = (zeros-are, loaded_none, loaded_circuit, rules)

-- ---- the call with its netlist, and without

abbrev alone : Answer (Netlist × CircuitPath) → Answer CircuitPath
alone y = y into λ r. value r.1

abbrev paired : Netlist → CircuitPath → Answer (Netlist × CircuitPath)
paired N p = value (N, p)

both-parts : (x : Answer Netlist) (c : Netlist → Answer (Unit {0})) (f : Netlist → CircuitPath)
    → (x into λ N. c N then value (f N)) ≡ alone (x into λ N. c N then paired N (f N))
both-parts (refused n) c f = refl
both-parts (value N) c f = go (c N)
  where
    go : (u : Answer (Unit {0})) → (u then value (f N)) ≡ alone (u then paired N (f N))
    go (refused n) = refl
    go (value t) = refl

call-is : (file : List ℕ) (k : ℕ) (ws : List ℕ) → 513 ≤ length ws → number_to_path_call file k ws ≡ alone (path_call file k)
unfolding number_to_path_call path_call
call-is file k ws h =
    rw (le-leb 513 (length ws) h) (both-parts (read_netlist file) (λ N. checks ((60, within 1 (path_total N) k) ∷ [])) (λ N. path_of N k))

abbrev number_in : Answer (Unit {0}) → ℕ
number_in (refused n) = n
number_in (value u) = 0

as_refused : (y : Answer (Netlist × CircuitPath)) (n : ℕ) → refused n ≡ passes (alone y) → y ≡ refused n
as_refused (refused m) n e = ap (λ (k : ℕ). refused k) (sym (ap number_in e))
as_refused (value r) n e = absurd (not_refused e)

pub record Got (y : Answer (Netlist × CircuitPath)) : Type 0 where
  pub both : Netlist × CircuitPath
  pub is : y ≡ value both

as_value : (y : Answer (Netlist × CircuitPath)) → value tt ≡ passes (alone y) → Got y
as_value (refused m) e = absurd (not_refused (sym e))
as_value (value r) e = record { both = r; is = refl }

-- ---- the text

module _ (out : List ℕ) (file : List ℕ) (name : ℕ → List ℕ) (k : ℕ) where
  pub path-short : length out < 65536 → Written out out 0 (in_room 65536 out (path_text file name k)) 0
  path-short h = no_room 65536 out (path_text file name k) h

  module _ (room : 65536 ≤ length out) (ws left : List ℕ) (long : 513 ≤ length ws) (a : Result (Unit {0}) Refusal) (t : PathWritten a file k ws left) where
    pub path-refused : (w : Refusal) → a ≡ Err w → (o : List ℕ) (r : ℕ) → Written out o 0 (refused_line_of (refusal_number_of w)) r
        → Written out o 0 (in_room 65536 out (path_text file name k)) r
    unfolding path_text number_to_path_answer
    path-refused w e o r p =
        let n : refused (refusal_number_of w) ≡ passes (alone (path_call file k)) =
        ap answer_of (sym e) ∙ t.answer ∙ ap (λ (x : Answer CircuitPath). passes x) (call-is file k ws long) in
        let z = as_refused (path_call file k) (refusal_number_of w) n in
        room-there 65536 out (path_text file name k) room (written_as (ap (shown_path name) (sym z)) p)

    module _ (e : a ≡ Ok tt) where
      got : Got (path_call file k)
      unfolding number_to_path_answer
      got = as_value (path_call file k) (ap answer_of (sym e) ∙ t.answer ∙ ap (λ (x : Answer CircuitPath). passes x) (call-is file k ws long))

      pub record Found : Type 0 where
        pub circuit : Netlist
        pub reads : read_netlist file ≡ value circuit
        pub is : path_call file k ≡ value (circuit, path_of circuit k)
        pub is_path : T (valid circuit (path_of circuit k))

      found : Found
      unfolding path_call
      found =
          let s = steps (read_netlist file) (λ N. checks ((60, within 1 (path_total N) k) ∷ []) then paired N (path_of N k)) got.is in
          let N : Netlist = s.got in
          let passed = then-first (checks ((60, within 1 (path_total N) k) ∷ [])) (paired N (path_of N k)) s.second in
          let h = (checks→ ((60, within 1 (path_total N) k) ∷ []) passed).0 in
          let q = then-second (checks ((60, within 1 (path_total N) k) ∷ [])) (paired N (path_of N k)) s.second in
          let b = number-of_path N (legal file N s.first) k (leb→le 1 k (and_left (leb 1 k) (leb k (path_total N)) h))
          (leb→le k (path_total N) (and_right (leb 1 k) (leb k (path_total N)) h)) in
          record { circuit = N; reads = s.first; is = got.is ∙ sym q; is_path = b.is_path }

      words_are : left ≡ path_written (path_of found.circuit k) ws
      unfolding number_to_path_buffer
      words_are = t.buffer ∙ ap (λ (x : Answer CircuitPath). after x ws (λ p. path_written p ws)) (call-is file k ws long ∙ ap alone found.is)

      pub path-told : (o : List ℕ) (r : ℕ) → PathTold out o file name left r → Written out o 0 (in_room 65536 out (path_text file name k)) r
      unfolding path_text
      path-told o r g =
          let f = found in
          let p : CircuitPath = path_of f.circuit k in
          let zeros : List ℕ = replicate (path_words - length (words_of p)) 0 in
          let pins : PinsAt left 2 p.pins = record {
            rest = zeros ++ drop path_words ws;
            is = ap (drop 2) words_are ∙ append_assoc p.pins zeros (drop path_words ws);
          } in
          let w = g.told f.circuit p f.reads f.is_path (ap (λ (x : List ℕ). get_or x 0 0) words_are) pins in
          room-there 65536 out (path_text file name k) room (written_as (ap (shown_path name) (sym f.is)) w)

pub ruleset path-cases = (path-short, path-refused, path-told, rules)
