-- The public beginning answers as the step beneath it: its tables are let go.
use Rattle.model.proofs.Prelude.{ℕ, List, rules}
use Rattle.audit_piece_steps.specs.declared.inner.Begun.{Begun}
use Rattle.audit_piece_steps.specs.Steps.{BeginTrue}
use Rattle.audit_pieces.specs.Calls.{BegunTrue}

pub begin-told : (netlist : List ℕ) (class : ℕ) (ws ws' work : List ℕ) (b : Begun) → BeginTrue b netlist class ws ws' work
    → BegunTrue b.answer netlist class ws ws' work
begin-told netlist class ws ws' work b t = record { answer = t.answer; store = t.store }

pub ruleset begin-call-cases = (begin-told, rules)
