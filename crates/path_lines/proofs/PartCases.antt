-- Parts of a path's lines, put one after the other.
use Rattle.model.proofs.Prelude.{ℕ, ◌≤◌, ◌+◌, ◌≡◌, ◌∙◌, ap, refl, sym, List, [], ◌∷◌, ◌++◌, length, take, sets, length-take-le, arith, rules, le-ltb}
use Rattle.model.specs.Netlist.{Kind}
use Rattle.model.specs.Read.{kind_of}
use Rattle.text_line.specs.Decimal.{decimal_text}
use Rattle.text_line.specs.Lines.{ascii}
use Rattle.text_line.proofs.DecimalLaws.{at-most-20}
use Rattle.text_buffer.specs.Written.{Written, in_room}
use Rattle.text_buffer.proofs.WrittenLaws.{written, none_written, then-written, written_as, first-bytes, written-length}
use Rattle.path_lines.specs.PathText.{in_brackets, bracketed, net_text, kind_text, gate_start, gate_end, input_line, output_line}

pub part-put : (out out' : List ℕ) (at r : ℕ) (t : List ℕ) → at + length t ≤ length out → out' ≡ sets out at t → r ≡ at + length t → Written out out' at t r
part-put out out' at r t h e f = written h (e, f)

-- ---- a name in brackets

room-is : (out text : List ℕ) → 16 ≤ length out → in_room 16 out text ≡ text
unfolding in_room
room-is out text h = rw (le-ltb (length out) 16 h, in_room) refl

module _ (buf name text : List ℕ) (bytes : ℕ) (p : Written buf name 0 (in_room 16 buf text) bytes) (sixteen : length buf ≡ 16) where
  text-is : take bytes name ≡ text
  text-is = first-bytes p ∙ room-is buf text (omega arith)

  few : bytes ≤ length name
  few = p.inside

  sixteen' : length name ≡ 16
  sixteen' = written-length p ∙ sixteen

  many : bytes ≡ length text
  many = omega (arith, p.place, ap (length {A = ℕ}) (room-is buf text (omega arith)))

  pub name-taken : bytes ≡ length (take bytes name)
  name-taken = sym (length-take-le bytes name few)

  module _ (out : List ℕ) (at : ℕ) (room : at + 19 ≤ length out) where
    pub name-none : bytes ≡ 0 → Written out out at (bracketed text) at
    name-none z = go text (omega (arith, many))
      where
        go : (t : List ℕ) → length t ≡ 0 → Written out out at (bracketed t) at
        go [] e = none_written out at (omega arith)
        go (b ∷ bs) e = absurd (omega arith)

    pub name-room : at + length (take bytes name) + 3 ≤ length out
    name-room = omega (arith, name-taken, few, sixteen')

    module _ (d : bytes ≡ 0 → ⊥) (o : List ℕ) (r : ℕ) where
      pub name-put : Written out o at (in_brackets (take bytes name)) r → Written out o at (bracketed text) r
      name-put u = go text (λ e. d (omega (arith, many))) text-is
        where
          go : (t : List ℕ) → (length t ≡ 0 → ⊥) → take bytes name ≡ t → Written out o at (bracketed t) r
          go [] f e = absurd (f refl)
          go (x ∷ xs) f e = written_as (ap (λ (z : List ℕ). in_brackets z) e) u

      pub name-few : r ≡ at + length (take bytes name) + 3 → r ≤ at + 19
      name-few e = omega (arith, name-taken, few, sixteen')

pub brackets_put : (out o1 o2 o3 : List ℕ) (at a b r : ℕ) (t : List ℕ) → Written out o1 at (ascii " (") a → Written o1 o2 a t b
    → Written o2 o3 b (ascii ")") r → Written out o3 at (in_brackets t) r
brackets_put out o1 o2 o3 at a b r t u v w = then-written (then-written u v) w

-- ---- numbers and kinds

module _ (out out' : List ℕ) (at r n : ℕ) (e : out' ≡ sets out at (decimal_text n)) (f : r ≡ at + length (decimal_text n)) where
  pub number_put : at + 20 ≤ length out → Written out out' at (decimal_text n) r
  number_put h = written (omega (arith, at-most-20 n)) (e, f)

  pub number-few : r ≤ at + 20
  number-few = omega (arith, at-most-20 n)

past : (k : ℕ) → (k ≡ 1 → ⊥) → (k ≡ 2 → ⊥) → (k ≡ 3 → ⊥) → (k ≡ 4 → ⊥) → 1 ≤ k → 5 ≤ k
past k a b c d h = omega arith

last : (k : ℕ) → (k ≡ 5 → ⊥) → (k ≡ 6 → ⊥) → (k ≡ 7 → ⊥) → 5 ≤ k → k ≤ 8 → k ≡ 8
last k a b c h l = omega arith

module _ (out out' : List ℕ) (at r kind : ℕ) where
  kind-put : (n : ℕ) (t : List ℕ) → kind ≡ n → kind_text (kind_of n) ≡ t → Written out out' at t r → Written out out' at (kind_text (kind_of kind)) r
  kind-put n t e f p = written_as (sym (ap (λ (k : ℕ). kind_text (kind_of k)) e ∙ f)) p

  pub kind_1 : kind ≡ 1 → Written out out' at (ascii "BUFFER") r → Written out out' at (kind_text (kind_of kind)) r
  unfolding kind_text
  kind_1 e p = kind-put 1 (ascii "BUFFER") e refl p

  pub kind_2 : kind ≡ 2 → Written out out' at (ascii "NOT") r → Written out out' at (kind_text (kind_of kind)) r
  unfolding kind_text
  kind_2 e p = kind-put 2 (ascii "NOT") e refl p

  pub kind_3 : kind ≡ 3 → Written out out' at (ascii "AND") r → Written out out' at (kind_text (kind_of kind)) r
  unfolding kind_text
  kind_3 e p = kind-put 3 (ascii "AND") e refl p

  pub kind-4 : kind ≡ 4 → Written out out' at (ascii "NAND") r → Written out out' at (kind_text (kind_of kind)) r
  unfolding kind_text
  kind-4 e p = kind-put 4 (ascii "NAND") e refl p

  pub kind-5 : kind ≡ 5 → Written out out' at (ascii "OR") r → Written out out' at (kind_text (kind_of kind)) r
  unfolding kind_text
  kind-5 e p = kind-put 5 (ascii "OR") e refl p

  pub kind-6 : kind ≡ 6 → Written out out' at (ascii "NOR") r → Written out out' at (kind_text (kind_of kind)) r
  unfolding kind_text
  kind-6 e p = kind-put 6 (ascii "NOR") e refl p

  pub kind-7 : kind ≡ 7 → Written out out' at (ascii "XOR") r → Written out out' at (kind_text (kind_of kind)) r
  unfolding kind_text
  kind-7 e p = kind-put 7 (ascii "XOR") e refl p

  pub kind-8 : (kind ≡ 1 → ⊥) → (kind ≡ 2 → ⊥) → (kind ≡ 3 → ⊥) → (kind ≡ 4 → ⊥) → (kind ≡ 5 → ⊥) → (kind ≡ 6 → ⊥) → (kind ≡ 7 → ⊥)
      → (1 ≤ kind) × (kind ≤ 8) → Written out out' at (ascii "XNOR") r → Written out out' at (kind_text (kind_of kind)) r
  unfolding kind_text
  kind-8 a b c d e f g h p = kind-put 8 (ascii "XNOR") (last kind e f g (past kind a b c d h.0) h.1) refl p

-- ---- a net, and the lines

module _ (name : ℕ → List ℕ) where
  pub net-put : (out o1 o2 : List ℕ) (at m r net : ℕ) → Written out o1 at (decimal_text net) m → Written o1 o2 m (bracketed (name net)) r
      → Written out o2 at (net_text name net) r
  unfolding net_text
  net-put out o1 o2 at m r net p q = then-written p q

  pub line-put : (out o1 o2 : List ℕ) (at m r net kind pin next taken : ℕ) → next ≡ taken → Written out o1 at (gate_start name net (kind_of kind)) m
      → Written o1 o2 m (gate_end name pin next) r → Written out o2 at (gate_start name net (kind_of kind) ++ gate_end name pin taken) r
  line-put out o1 o2 at m r net kind pin next taken e p q = then-written p (written_as (ap (gate_end name pin) e) q)

  pub input-put : (out o1 o2 o3 : List ℕ) (at a b r net : ℕ) → Written out o1 at (ascii "net ") a → Written o1 o2 a (net_text name net) b
      → Written o2 o3 b (ascii ": input\n") r → Written out o3 at (input_line name net) r
  unfolding input_line
  input-put out o1 o2 o3 at a b r net p q u = then-written (then-written p q) u

module _ (name : ℕ → List ℕ) {out o1 o2 o3 o4 : List ℕ} {at a b c r : ℕ} where
  pub start-put : (net : ℕ) (K : Kind) → Written out o1 at (ascii "net ") a → Written o1 o2 a (net_text name net) b
      → Written o2 o3 b (ascii ": ") c → Written o3 o4 c (kind_text K) r → Written out o4 at (gate_start name net K) r
  unfolding gate_start
  start-put net K p q u v = then-written (then-written (then-written p q) u) v

  module _ {o5 : List ℕ} {d : ℕ} where
    pub end-put : (pin next : ℕ) → Written out o1 at (ascii ", pin ") a → Written o1 o2 a (decimal_text pin) b → Written o2 o3 b (ascii " from net ") c
        → Written o3 o4 c (net_text name next) d → Written o4 o5 d (ascii "\n") r → Written out o5 at (gate_end name pin next) r
    unfolding gate_end
    end-put pin next p q u v w = then-written (then-written (then-written (then-written p q) u) v) w

    pub output-put : (place net : ℕ) → Written out o1 at (ascii "output ") a → Written o1 o2 a (decimal_text place) b → Written o2 o3 b (ascii ": net ") c
        → Written o3 o4 c (net_text name net) d → Written o4 o5 d (ascii "\n") r → Written out o5 at (output_line name place net) r
    unfolding output_line
    output-put place net p q u v w = then-written (then-written (then-written (then-written p q) u) v) w

pub ruleset part-cases = (part-put, number_put, number-few, rules)

pub ruleset bracket-cases = (brackets_put, name-taken, name-none, name-room, name-put, name-few, rules)

pub ruleset kind-cases = (kind_1, kind_2, kind_3, kind-4, kind-5, kind-6, kind-7, kind-8, rules)

pub ruleset line-cases = (net-put, line-put, input-put, rules)
