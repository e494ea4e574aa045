-- The text of a path of a.bench text, by what the converter answered.
use Rattle.model.proofs.Prelude.{ℕ, ◌≤◌, ◌<◌, ◌≡◌, ◌∙◌, ap, refl, sym, List, ◌++◌, length, drop, take, length-append, length-take-le, take_at, arith}
use Rattle.model.proofs.Prelude.{rules}
use Rattle.model.specs.Base.{Answer, refused, value, ◌into◌, after}
use Rattle.model.specs.Refusals.{refusal_number_of}
use Rattle.model.specs.declared.Refusal.{Refusal}
use Rattle.model.proofs.AnswerLaws.{not_refused, value_inj}
use Rattle.bench_text.specs.NetlistFile.{converted}
use Rattle.bench_text.specs.Calls.{convert_answer, convert_buffer, bench_of}
use Rattle.bench_text.specs.Converting.{ConvertTrue}
use Rattle.bench_text.proofs.ConvertCases.{call-is}
use Rattle.bench_net_names.specs.NetNames.{name_of}
use Rattle.bench_net_names.specs.Table.{name_in_of, NamesTold}
use Rattle.listing_lines.specs.ListingLines.{refused_line_of}
use Rattle.text_buffer.specs.Written.{Written, in_room}
use Rattle.text_buffer.proofs.WrittenLaws.{no_room, room-there, written_as}
use Rattle.path_lines.specs.PathText.{path_text, bench_shown, bench_path_text}
use Rattle.std.specs.Prelude.{Result, Ok, Err}
use Rattle.bench_circuit.specs.declared.inner.judging.LineRefusal.{LineRefusal}

abbrev sized : Answer (List ℕ) → Answer ℕ
sized y = y into λ bs. value (length bs)

abbrev number_in : Answer ℕ → ℕ
number_in (refused n) = n
number_in (value u) = 0

as_refused : (y : Answer (List ℕ)) (n : ℕ) → refused n ≡ sized y → y ≡ refused n
as_refused (refused m) n e = ap (λ (k : ℕ). refused k) (sym (ap number_in e))
as_refused (value bs) n e = absurd (not_refused e)

pub record Sized (y : Answer (List ℕ)) (n : ℕ) : Type 0 where
  pub bytes : List ℕ
  pub is : y ≡ value bytes
  pub long : length bytes ≡ n

as_value : (y : Answer (List ℕ)) (n : ℕ) → value n ≡ sized y → Sized y n
as_value (refused m) n e = absurd (not_refused (sym e))
as_value (value bs) n e = record { bytes = bs; is = refl; long = sym (value_inj e) }

-- names that are told alike give the same text
same_names : (file text names : List ℕ) (k : ℕ) → NamesTold names text → path_text file (name_in_of names) k ≡ path_text file (name_of text) k
same_names file text names k t = ap (λ (f : ℕ → List ℕ). path_text file f k) (λ i net. t.told net i)

module _ (out text : List ℕ) (k : ℕ) where
  pub bench_short : length out < 65536 → Written out out 0 (in_room 65536 out (bench_path_text text k)) 0
  bench_short h = no_room 65536 out (bench_path_text text k) h

  module _ (buf buf' : List ℕ) (big : length buf ≡ 10484) (a : Result ℕ LineRefusal) (t : ConvertTrue a text buf buf') where
    answer-is : bench_of a ≡ sized (converted text)
    unfolding convert_answer
    answer-is = t.answer ∙ ap (λ (x : Answer (List ℕ)). sized x) (call-is text buf (omega arith))

    pub bench_refused : 65536 ≤ length out → (r0 : LineRefusal) → a ≡ Err r0 → (o : List ℕ) (r : ℕ)
        → Written out o 0 (refused_line_of (refusal_number_of r0.why)) r → Written out o 0 (in_room 65536 out (bench_path_text text k)) r
    unfolding bench_path_text
    bench_refused room r0 e o r p =
        let z = as_refused (converted text) (refusal_number_of r0.why) (ap bench_of (sym e) ∙ answer-is) in
        room-there 65536 out (bench_path_text text k) room (written_as (ap (bench_shown (name_of text) k) (sym z)) p)

    module _ (n : ℕ) (e : a ≡ Ok n) where
      got : Sized (converted text) n
      got = as_value (converted text) n (ap bench_of (sym e) ∙ answer-is)

      buffer-is : buf' ≡ got.bytes ++ drop (length got.bytes) buf
      unfolding convert_buffer
      buffer-is =
          t.buffer ∙ ap (λ (x : Answer (List ℕ)). after x buf (λ bs. bs ++ drop (length bs) buf)) (call-is text buf (omega arith) ∙ got.is)

      pub bench_inside : n ≤ length buf'
      bench_inside =
          omega (arith, got.long, ap (length {A = ℕ}) buffer-is, length-append got.bytes (drop (length got.bytes) buf))

      pub bench_taken : n ≡ length (take n buf')
      bench_taken = sym (length-take-le n buf' bench_inside)

      file-is : take n buf' ≡ got.bytes
      file-is = ap (take n) buffer-is ∙ take_at got.bytes (drop (length got.bytes) buf) n got.long

      pub bench_told : 65536 ≤ length out → (names : List ℕ) → NamesTold names text → (o : List ℕ) (r : ℕ)
          → Written out o 0 (in_room 65536 out (path_text (take n buf') (name_in_of names) k)) r → Written out o 0 (in_room 65536 out (bench_path_text text k)) r
      unfolding bench_path_text
      bench_told room names s o r p =
          let whole : path_text (take n buf') (name_in_of names) k ≡ bench_path_text text k =
          ap (λ (f : List ℕ). path_text f (name_in_of names) k) file-is ∙ same_names got.bytes text names k s ∙ ap (bench_shown (name_of text) k) (sym got.is) in
          written_as (ap (in_room 65536 out) whole) p

pub ruleset bench-cases = (bench_short, bench_refused, bench_inside, bench_taken, bench_told, rules)
