-- Pairs that change nothing (document 02, ticket 8), as one statement: a record whose V1 equals V2 is refused 85 where 30 to 32 refuse nothing,
-- whatever the store holds, and no report is accepted whose list of tests holds one. Every other record is judged as before the ticket.
use Rattle.std.specs.Prelude.{◌≡◌, ◌↔◌, ◌&&◌, not, ℕ, T, eqb, length}
use mathlib.Core.List.{List, [], ◌∷◌, Memᴰ}
use Rattle.model.specs.Base.{refused, value, Rule, checks}
use Rattle.model.specs.Netlist.{Netlist}
use Rattle.model.specs.Detect.{Class}
use Rattle.model.specs.Read.{marked, vector, spare_zero_of, some_change_of, record_length, v1_part, v2_part, read_netlist, test_rules}
use Rattle.model.specs.Calls.{test_stage}
use Rattle.model.specs.Report.{file_records, audit_answer}

-- V1 equals V2
abbrev pub Unchanged : Netlist → List ℕ → Type 0
Unchanged N rec = vector N.inputs (v1_part N rec) ≡ vector N.inputs (v2_part N rec)

-- the place Test before the ticket
abbrev pub rules_before : Netlist → List ℕ → List Rule
rules_before N rec =
    (30, eqb (length rec) (record_length N))
    ∷ (31, marked 0x54 0x50 rec)
    ∷ (32, spare_zero_of N.inputs (v1_part N rec) && spare_zero_of N.inputs (v2_part N rec))
    ∷ []

pub record UnchangedPairs : Type 0 where
  -- V1 equals V2 exactly when no input is changed
  pub means : (N : Netlist) (rec : List ℕ) → Unchanged N rec ↔ T (not (some_change_of N.inputs (v1_part N rec) (v2_part N rec)))
  -- after the spare bits: what 30 to 32 refuse is refused so
  pub earlier : (N : Netlist) (c : Class) (rec ws : List ℕ) (n : ℕ) → checks (rules_before N rec) ≡ refused n → test_stage N c rec ws ≡ refused n
  -- and before the store's checks: such a pair is 85 on any words
  pub refuses : (N : Netlist) (c : Class) (rec ws : List ℕ) → checks (rules_before N rec) ≡ value tt → Unchanged N rec → test_stage N c rec ws ≡ refused 85
  -- the place Test is as it was for every other record
  pub others : (N : Netlist) (rec : List ℕ) → (Unchanged N rec → ⊥) → checks (test_rules N rec) ≡ checks (rules_before N rec)
  -- A report whose list holds one is not accepted, whatever the audit is handed besides
  pub not_accepted : (netlist : List ℕ) (N : Netlist) → read_netlist netlist ≡ value N → (class : ℕ) (test_file report ws work rec : List ℕ)
      → Memᴰ rec (file_records N test_file) → Unchanged N rec → audit_answer netlist class test_file report ws work ≡ value tt → ⊥
