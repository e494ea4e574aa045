-- What the words say of the whole circuit that they hold: the records of its gates and of its outputs.
use Rattle.model.proofs.Prelude.{ℕ, ◌+◌, suc, ◌≡◌, ◌∙◌, ap, refl, sym, ap₂, ⊎_elim, Bool, List, [], ◌∷◌, ◌++◌, map, append_assoc, length, get_or, drop}
use Rattle.model.proofs.Prelude.{drop-drop, ltb, add-one, arith}
use Rattle.model.specs.Encode.{gate_bytes}
use Rattle.model.proofs.BoolLaws.{bool_cases}
use Rattle.bench_lines.specs.Text.{Statement, blank, input, output, gate, other, tokens_of, statement_of, place, is_in}
use Rattle.bench_lines.specs.LineReading.{Named}
use Rattle.bench_lines.specs.Keys.{key_low, key_high, key_place, key_words, AllNamed}
use Rattle.bench_circuit.specs.Circuit.{GateLine, Circuit, net_names}
use Rattle.bench_text.specs.NetlistFile.{gate_records, output_nets, output_records}
use Rattle.bench_names.specs.NameNets.{key_net}
use Rattle.bench_circuit.specs.Judging.{Held, PinsNamed}
use Rattle.bench_text.specs.FileWriting.{line_bytes, lines_bytes, FewPins, AllFewPins}
use Rattle.bench_outputs.specs.OutputWriting.{one_output, key_outputs}
use Rattle.bench_circuit.specs.declared.inner.judging.NameCounts.{NameCounts}
use Rattle.bench_lines.proofs.KeyLaws.{place_of, head_at, second_at}
use Rattle.bench_circuit.proofs.CircuitLaws.{GatesFit, gate_of_line, gates_of_lines}
use Rattle.bench_text.proofs.BytesLaws.{out-yes, out-no, few-pins}
use Rattle.bench_circuit.proofs.JudgeCases.{net-is}

names-are : {is gs os : List ℕ} {n : NameCounts} {c : Circuit} (h : Held is gs os n c) (ys : List (List ℕ))
    → AllNamed ys → map (key_net is n.inputs gs n.gates) ys ≡ map (λ y. place y (net_names c)) ys
unfolding AllNamed
names-are h [] a = refl
names-are h (y ∷ ys) a = ap₂ (λ (k : ℕ) (l : List ℕ). k ∷ l) (net-is h y a.0) (names-are h ys a.1)

line-is : {is gs os : List ℕ} {n : NameCounts} {c : Circuit} (h : Held is gs os n c) (s : Statement) (rest : List GateLine) (bytes : List ℕ)
    → PinsNamed (gate_of_line s ++ rest) → (PinsNamed rest → bytes ≡ gate_records (net_names c) rest)
    → line_bytes is n.inputs gs n.gates s ++ bytes ≡ gate_records (net_names c) (gate_of_line s ++ rest)
unfolding line_bytes gate_of_line gate_records PinsNamed
line-is h blank rest bytes a ih = ih a
line-is h other rest bytes a ih = ih a
line-is h (input x) rest bytes a ih = ih a
line-is h (output x) rest bytes a ih = ih a
line-is h (gate x k ys) rest bytes a ih = ap₂ (λ (l m : List ℕ). gate_bytes k l ++ m) (names-are h ys a.0) (ih a.1)

one_out : (net : ℕ) (x : List ℕ) (xs outs : List (List ℕ))
    → one_output (is_in x outs) net ++ output_records (output_nets (suc net) xs outs) ≡ output_records (output_nets net (x ∷ xs) outs)
unfolding one_output output_records
one_out net x xs outs =
    let go : Bool → List ℕ = λ q. one_output q net ++ output_records (output_nets (suc net) xs outs) in
    ⊎_elim
    (λ e. ap go e ∙ ap output_records (sym (out-yes net x xs outs e)))
    (λ e. ap go e ∙ ap output_records (sym (out-no net x xs outs e)))
    (bool_cases (is_in x outs))

pub outs-append : (net : ℕ) (us vs outs : List (List ℕ))
    → output_records (output_nets net (us ++ vs) outs) ≡ output_records (output_nets net us outs) ++ output_records
    (output_nets (net + length us) vs outs)
unfolding output_nets output_records
outs-append net [] vs outs =
    let z : net + 0 ≡ net = omega arith in ap (λ (m : ℕ). output_records (output_nets m vs outs)) (sym z)
outs-append net (u ∷ us) vs outs =
    let z : suc net + length us ≡ net + length (u ∷ us) = omega arith in
    let one = one_output (is_in u outs) net in
    let here = output_records (output_nets (suc net) us outs) in
    let later : ℕ → List ℕ = λ m. output_records (output_nets m vs outs) in
    sym (one_out net u (us ++ vs) outs)
    ∙ ap (λ (l : List ℕ). one ++ l) (outs-append (suc net) us vs outs ∙ ap (λ (m : ℕ). here ++ later m) z)
    ∙ sym (append_assoc one here (later (net + length (u ∷ us))))
    ∙ ap (λ (l : List ℕ). l ++ later (net + length (u ∷ us))) (one_out net u us outs)

few-one : (s : Statement) (rest : List GateLine) → GatesFit (gate_of_line s ++ rest) → FewPins s × GatesFit rest
unfolding gate_of_line FewPins GatesFit
few-one blank rest f = (tt, f)
few-one other rest f = (tt, f)
few-one (input x) rest f = (tt, f)
few-one (output x) rest f = (tt, f)
few-one (gate x k ys) rest f = (few-pins k (length ys) f.0.2, f.1)

pub few-lines : (ls : List (List ℕ)) → GatesFit (gates_of_lines ls) → AllFewPins ls
unfolding gates_of_lines AllFewPins
few-lines [] f = tt
few-lines (l ∷ ls) f = let z = few-one (statement_of (tokens_of l)) (gates_of_lines ls) f in (z.0, few-lines ls z.1)

module _ {is gs os : List ℕ} {n : NameCounts} {c : Circuit} (h : Held is gs os n c) where
  -- ---- gates

  pub lines_are : (ls : List (List ℕ)) → PinsNamed (gates_of_lines ls)
      → lines_bytes is n.inputs gs n.gates ls ≡ gate_records (net_names c) (gates_of_lines ls)
  unfolding lines_bytes gates_of_lines gate_records
  lines_are [] a = refl
  lines_are (l ∷ ls) a =
      line-is h (statement_of (tokens_of l)) (gates_of_lines ls) (lines_bytes is n.inputs gs n.gates ls) a (λ b. lines_are ls b)

  -- ---- outputs

  listed-is : (x : List ℕ) → Named x
      → ltb (key_place (key_low x) (key_high x) n.outputs 0 os) n.outputs ≡ is_in x c.outputs
  unfolding is_in
  listed-is x nx =
      let held = h.outputs.holds in
      let count = h.outputs.count in
      ap₂ (λ (u v : ℕ). ltb u v) (place_of held h.outputs.named nx count refl) count

  pub outs-are : (ws : List ℕ) (names : List (List ℕ)) (at net : ℕ) (rest : List ℕ)
      → drop at ws ≡ key_words names ++ rest → AllNamed names
      → key_outputs os n.outputs ws (length names) at net ≡ output_records (output_nets net names c.outputs)
  unfolding key_outputs key_words AllNamed output_nets output_records
  outs-are ws [] at net rest e a = refl
  outs-are ws (x ∷ xs) at net rest e a =
      let b : ltb (key_place (get_or ws at 0) (get_or ws (at + 1) 0) n.outputs 0 os) n.outputs ≡ is_in x c.outputs =
      ap₂ (λ (l m : ℕ). ltb (key_place l m n.outputs 0 os) n.outputs) (head_at ws at e) (second_at ws at e)
      ∙ listed-is x a.0 in
      let ih = outs-are ws xs (at + 2) (net + 1) rest (sym (drop-drop 2 at ws) ∙ ap (drop 2) e) a.1 in
      ap₂ (λ (q : Bool) (l : List ℕ). one_output q net ++ l) b (ih ∙ ap (λ (m : ℕ). output_records (output_nets m xs c.outputs)) (add-one net))
      ∙ one_out net x xs c.outputs
