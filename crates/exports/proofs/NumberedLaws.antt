-- No refusal of the end of an audit in pieces has the number 0, also where the end hands on the number that its caller kept.
use Rattle.model.proofs.Prelude.{ℕ, ◌+◌, suc, zero, ◌/◌, ◌≡◌, ◌∙◌, refl, sym, true, Bool, false, List, [], ◌∷◌, length, drop, T, eqb, ltb, arith}
use Rattle.model.proofs.Prelude.{ne_eqb, eq-eqb}
use Rattle.model.specs.Base.{Answer, refused, value, ◌into◌, ◌then◌, check, Rule, checks, all_of, field}
use Rattle.model.specs.Netlist.{path_total, gate_count, net_by_net}
use Rattle.model.specs.Read.{gate_in, gate_rules, read_gates, output_rules, read_outputs_of, inputs_in, gates_in, outputs_in, header_rules, input_counts, read_netlist, record_length}
use Rattle.model.specs.Store.{store_rules, runs_by_edge}
use Rattle.model.specs.Calls.{store_rule}
use Rattle.model.specs.Report.{report_record, report_rules}
use Rattle.model.proofs.AnswerLaws.{not_refused}
use Rattle.model.proofs.BoolLaws.{and_left, and_right}
use Rattle.audit_judging.specs.FileJudging.{whole_length_of, end_by, store_checked, so_far, end_legal_of}
use Rattle.audit_pieces.specs.Calls.{end_stage, end_call, end_answer}
use Rattle.c_answer_words.specs.Codes.{code_answer}

-- a refusal has another number than 0
abbrev pub Numbered : {A : Type 0} → Answer A → Type 0
Numbered (refused n) = n ≡ 0 → ⊥
Numbered (value a) = Unit {0}

-- such a refusal is told by its code
pub code_numbered : (x : Answer (Unit {0})) → Numbered x → (n : ℕ) → x ≡ refused n → code_answer n ≡ refused n
unfolding code_answer
code_numbered (refused m) p n e = let z : n ≡ m = cc in rw z (rw (ne_eqb m 0 p, code_answer) refl)
code_numbered (value u) p n e = absurd (not_refused (sym e))

-- step by step
then-numbered : {A B : Type 0} (x : Answer A) (y : Answer B) → Numbered x → Numbered y → Numbered (x then y)
then-numbered (refused n) y p q = p
then-numbered (value a) y p q = q

step-numbered : {A B : Type 0} (x : Answer A) (f : A → Answer B) → Numbered x → ((a : A) → Numbered (f a)) → Numbered (x into f)
step-numbered (refused n) f p q = p
step-numbered (value a) f p q = q a

positive : (n : ℕ) → T (ltb 0 n) → n ≡ 0 → ⊥
positive n t e = rw e at t

-- rules, none of them with the number 0
abbrev all_numbered : List Rule → Bool
all_numbered rs = all_of (λ r. ltb 0 r.0) rs

check-numbered : (n : ℕ) (b : Bool) → T (ltb 0 n) → Numbered (check n b)
check-numbered n true t = tt
check-numbered n false t = positive n t

checks-numbered : (rs : List Rule) → T (all_numbered rs) → Numbered (checks rs)
checks-numbered [] t = tt
checks-numbered (r ∷ rs) t =
    then-numbered (check r.0 r.1) (checks rs) (check-numbered r.0 r.1 (and_left (ltb 0 r.0) (all_numbered rs) t))
    (checks-numbered rs (and_right (ltb 0 r.0) (all_numbered rs) t))

-- the netlist
gates-numbered : (n : ℕ) (cs bs : List ℕ) → Numbered (read_gates n cs bs)
unfolding read_gates
gates-numbered zero cs bs = tt
gates-numbered (suc n) cs bs =
    let rules = gate_rules (length cs) cs bs in
    step-numbered (checks rules then _) (λ r. value (gate_in bs ∷ r.0, r.1)) (then-numbered (checks rules) _ (checks-numbered rules tt) (gates-numbered n _ _)) (λ r. tt)

outputs-numbered : (n inputs nets : ℕ) (cs : List ℕ) (least s : ℕ) (bs : List ℕ) → Numbered (read_outputs_of n inputs nets cs least s bs)
unfolding read_outputs_of
outputs-numbered zero inputs nets cs least s bs = tt
outputs-numbered (suc n) inputs nets cs least s bs =
    let rules = output_rules inputs nets cs least s bs in
    step-numbered (checks rules then _) (λ r. value (field 2 2 bs ∷ r.0, r.1))
    (then-numbered (checks rules) _ (checks-numbered rules tt) (outputs-numbered n inputs nets cs _ _ _)) (λ r. tt)

netlist-numbered : (bs : List ℕ) → Numbered (read_netlist bs)
unfolding read_netlist
netlist-numbered bs =
    let rules = header_rules bs in
    let gates = read_gates (gates_in bs) (input_counts bs) (drop 8 bs) in
    step-numbered (checks rules then gates) _ (then-numbered (checks rules) gates (checks-numbered rules tt) (gates-numbered (gates_in bs) (input_counts bs) (drop 8 bs)))
    (λ g. step-numbered (read_outputs_of (outputs_in bs) (inputs_in bs) (inputs_in bs + gates_in bs) (net_by_net gate_count 0 (input_counts bs) g.0) 0 0 g.1) _
    (outputs-numbered (outputs_in bs) (inputs_in bs) (inputs_in bs + gates_in bs) (net_by_net gate_count 0 (input_counts bs) g.0) 0 0 g.1)
    (λ o. then-numbered (checks ((20, eqb (length o.1) 0) ∷ [])) _ (checks-numbered ((20, eqb (length o.1) 0) ∷ []) tt) tt))

-- what the caller kept
kept-numbered : (b : Bool) (first : ℕ) (ws : List ℕ) → eqb first 0 ≡ b → Numbered {A = List ℕ} (elim b [ true ↦ value ws | false ↦ refused first ])
kept-numbered true first ws e = tt
kept-numbered false first ws e = λ z. let c : true ≡ false = sym (eq-eqb first 0 z) ∙ e in let k : ◌≡◌ {A = ℕ} 0 1 = cc in omega arith

so_far-numbered : (first : ℕ) (ws : List ℕ) → Numbered (so_far first ws)
unfolding so_far
so_far-numbered first ws = kept-numbered (eqb first 0) first ws refl

-- the end
legal-numbered : (each paths total first : ℕ) (report ws : List ℕ) → Numbered (end_legal_of each paths total first report ws)
unfolding end_legal_of end_by
legal-numbered each paths total first report ws =
    let whole : List Rule = (33, whole_length_of each total) ∷ [] in
    let state = so_far first ws into λ left. store_checked paths left in
    let state_is : Numbered state =
    step-numbered (so_far first ws) (λ left. store_checked paths left) (so_far-numbered first ws)
    (λ left. then-numbered (checks (store_rules paths left)) (value left) (checks-numbered (store_rules paths left) tt) tt) in
    let rules : List ℕ → List Rule = λ left. report_rules report (report_record (total / each) paths (runs_by_edge left)) in
    step-numbered (checks whole then state) (λ left. checks (rules left) then value left) (then-numbered (checks whole) state (checks-numbered whole tt) state_is)
    (λ left. then-numbered (checks (rules left)) (value left) (checks-numbered (rules left) tt) tt)

stage-numbered : (netlist : List ℕ) (total first : ℕ) (report ws : List ℕ) → Numbered (end_stage netlist total first report ws)
unfolding end_stage
stage-numbered netlist total first report ws =
    step-numbered (read_netlist netlist) (λ N. end_legal_of (record_length N) (path_total N) total first report ws) (netlist-numbered netlist)
    (λ N. legal-numbered (record_length N) (path_total N) total first report ws)

pub end-numbered : (netlist : List ℕ) (total first : ℕ) (report ws : List ℕ) → Numbered (end_answer netlist total first report ws)
unfolding end_answer end_call
end-numbered netlist total first report ws =
    let lent : List Rule = store_rule ws ∷ [] in
    let stage = end_stage netlist total first report ws in
    then-numbered (checks lent then stage) (value tt) (then-numbered (checks lent) stage (checks-numbered lent tt) (stage-numbered netlist total first report ws)) tt
