-- The cases of an answer's line, as it is put into a buffer part after part.
use Rattle.model.proofs.Prelude.{ℕ, ◌≤◌, ◌+◌, ◌*◌, ◌≡◌, ◌∙◌, ap, sym, true, Bool, false, not, List, [], ◌++◌, length, sets, arith, rules}
use Rattle.model.specs.Base.{Answer, refused}
use Rattle.model.specs.Read.{within}
use Rattle.text_line.specs.Decimal.{decimal_text}
use Rattle.text_line.specs.Lines.{ascii}
use Rattle.text_line.proofs.DecimalLaws.{at-most-20}
use Rattle.text_buffer.specs.Written.{Written, number_line}
use Rattle.text_buffer.proofs.WrittenLaws.{written, then-written, written_as}
use Rattle.tree_words.specs.Calls.{Asked}
use Rattle.tree_descent.specs.declared.inner.Visit.{Visit}
use Rattle.tree_filling.specs.TreesOfStore.{TreesReady}
use Rattle.ask_text.specs.Questions.{fault_asked, held_text, asked_line, wrong_line, answer_line}
use Rattle.ask_text.specs.Pieces.{FaultVisited}
use Rattle.ask_text.specs.declared.inner.Stated.{Stated}
use Rattle.ask_text.specs.declared.inner.Stated.TheVariants as stated
use Rattle.ask_text.proofs.AskedFaultCases.{asked-refused, asked-visited}

-- ---- the answer to a number

module _ (out o1 o2 : List ℕ) (at next r fault : ℕ) (room : at + 128 ≤ length out)
    (first : (o1 ≡ sets out at (decimal_text fault)) × (next ≡ at + length (decimal_text fault))) where
  -- the number, then the rest of its line
  asked-put : (a : Answer Asked) (rest : List ℕ) → decimal_text fault ++ rest ≡ asked_line fault a → Written o1 o2 next rest r → Written out o2 at (asked_line fault a) r
  asked-put a rest e p =
      written_as e (then-written (written {out = out} {at = at} {t = decimal_text fault} (omega (arith, at-most-20 fault)) first) p)

  module _ (paths : ℕ) (up down : List ℕ) (b : Bool) (eb : b ≡ within 1 (2 * paths) fault) where
    pub fault-refused : not b ≡ true → (n : ℕ) → n ≡ 60 → Written o1 o2 next (number_line (ascii " refused ") n []) r
        → Written out o2 at (asked_line fault (fault_asked paths up down fault)) r
    unfolding asked_line
    fault-refused k n en p =
        let a : fault_asked paths up down fault ≡ refused 60 = asked-refused paths up down fault b eb k in
        asked-put (fault_asked paths up down fault) (number_line (ascii " refused ") n [])
        (ap (λ (m : ℕ). decimal_text fault ++ number_line (ascii " refused ") m []) en ∙ ap (asked_line fault) (sym a)) p

    module _ (k : not b ≡ false) (t : TreesReady paths up down) (v : Visit) (f : FaultVisited v up down fault) where
      pub fault-answered : (held : Bool) → v.held ≡ held → Written o1 o2 next (number_line (held_text held) v.visited []) r
          → Written out o2 at (asked_line fault (fault_asked paths up down fault)) r
      unfolding asked_line
      fault-answered held e p =
          asked-put (fault_asked paths up down fault) (number_line (held_text held) v.visited [])
          (ap (asked_line fault) (sym (asked-visited paths up down fault b eb k t v f held e))) p

-- ---- the answer to a line

module _ (ask : ℕ → Answer Asked) (out out' : List ℕ) (at r place : ℕ) (line : Stated) where
  pub line-nothing : line ≡ stated.Nothing → Written out out' at (wrong_line place) r → Written out out' at (answer_line ask place line) r
  unfolding answer_line
  line-nothing e p = written_as (ap (answer_line ask place) (sym e)) p

  pub line-wrong : line ≡ stated.Wrong → Written out out' at (wrong_line place) r → Written out out' at (answer_line ask place line) r
  unfolding answer_line
  line-wrong e p = written_as (ap (answer_line ask place) (sym e)) p

  pub line-number : (n : ℕ) → line ≡ stated.Number n → Written out out' at (asked_line n (ask n)) r → Written out out' at (answer_line ask place line) r
  unfolding answer_line
  line-number n e p = written_as (ap (answer_line ask place) (sym e)) p

pub ruleset line-cases = (line-nothing, line-wrong, line-number, rules)
