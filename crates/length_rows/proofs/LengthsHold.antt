-- The rows of an answer: they are over paths, add up to T and to the store's totals, no number of held faults passes that of the paths, and no path has 0 gates; 84 exactly for a path of more than 63.
use Rattle.model.proofs.Prelude.{ℕ, ◌≤◌, ◌<◌, ◌+◌, ◌-◌, ◌≡◌, ◌∙◌, ap, refl, sym, subst, ⊎_elim, true, Bool, false, ◌&&◌, not, List, [], ◌∷◌, ◌++◌}
use Rattle.model.proofs.Prelude.{length, get_or, leb, T, eqb, ltb, eqb→eq, arith, eqb-false}
use Rattle.model.specs.Base.{Answer, refused, value, ◌then◌, checks, sum_of}
use Rattle.model.specs.Netlist.{Netlist, path_total}
use Rattle.model.specs.Path.{Edge, path_of}
use Rattle.model.specs.Runs.{Run, Separated, in_runs, size, how_many, separated_runs_of}
use Rattle.model.specs.Read.{read_netlist}
use Rattle.model.specs.Store.{ByEdge, by_edge, of_edge, store_words_count, store_runs, store_rules}
use Rattle.model.specs.Calls.{store_rule, totals_call}
use Rattle.model.proofs.BoolLaws.{bool_cases, T→true, true→T, not→false, eq→eqb}
use Rattle.model.proofs.AnswerLaws.{AllPass, steps, checks→, →checks, checks-both, then-first, then-second, not_refused, value_inj, pass_first, pass_second}
use Rattle.model.proofs.ReadLaws.{legal}
use Rattle.model.proofs.RunLaws.{separated→, runs-of_runs}
use Rattle.model.proofs.RunSizeLaws.{how_many-same, runs-size}
use Rattle.model.proofs.WellFormed.{WellFormed}
use Rattle.model.proofs.HoldingLaws.{at_edge, of_edge-by_edge}
use Rattle.model.proofs.NumberingHolds.{numbering_true}
use Rattle.model.proofs.WiresHold.{wires}
use Rattle.length_rows.specs.Lengths.{lengths, row, length_of, of_length, paths_up_to, held_up_to, Rows, rows_of, length_rule, lengths_call, PathCount, PathOfLength, HeldOfLength, RowsTrue}
use Rattle.length_rows.specs.Lengths.{TooLong}
use Rattle.length_rows.proofs.HowManyLaws.{how_many-none, how_many-zero, how_many-fewer}
use Rattle.length_rows.proofs.PartitionLaws.{less, classes-rest, how_many-classes}
use Rattle.length_rows.proofs.RunCountLaws.{in_no-runs, in_first-run}
use Rattle.length_rows.proofs.RowLaws.{row_at}
use Rattle.length_rows.proofs.PathCountLaws.{paths-counted, held-counted, long→, →long}

-- The numbers in runs, run by run
module _ (N : Netlist) (l : ℕ) where
  pub held_none : (n : ℕ) → held_up_to N (in_runs []) l n ≡ 0
  unfolding held_up_to
  held_none n = in_no-runs (of_length N l) n

  pub held_first : {n least : ℕ} (r : Run) (rs : List Run) → 1 ≤ least → Separated n least (r ∷ rs)
      → held_up_to N (in_runs (r ∷ rs)) l n ≡ paths_up_to N l r.high - paths_up_to N l (r.low - 1) + held_up_to N (in_runs rs) l n
  unfolding held_up_to paths_up_to
  held_first r rs x a = in_first-run (of_length N l) r rs x a

  pub held-few : (P : ℕ → Bool) (n : ℕ) → held_up_to N P l n ≤ paths_up_to N l n
  unfolding held_up_to paths_up_to
  held-few P n = how_many-fewer (of_length N l) P n

module _ (N : Netlist) (ws : List ℕ) (e : Edge) where
  -- the rows add up: to the paths of at most 63 gates
  pub paths-add : sum_of (rows_of N ws e).paths + how_many (λ k. leb lengths (length_of N k)) (path_total N) ≡ path_total N
  unfolding rows_of row paths_up_to
  paths-add = classes-rest (length_of N) lengths (path_total N)

  -- where no path is longer, to what the store's runs hold
  pub held-add : T (length_rule N).1 → Separated (path_total N) 1 (store_runs ws e) → sum_of (rows_of N ws e).held ≡ size (store_runs ws e)
  unfolding rows_of row held_up_to
  held-add h a =
      let P : ℕ → Bool = in_runs (store_runs ws e) in
      how_many-classes (length_of N) P lengths (path_total N)
      ∙ how_many-same (λ k. ltb (length_of N k) lengths && P k) P (path_total N) (λ k u v. ap (λ b. b && P k) (short k u v))
      ∙ sym (runs-size P (path_total N)) ∙ ap size (runs-of_runs (path_total N) (store_runs ws e) a)
    where
      short : (k : ℕ) → 1 ≤ k → k ≤ path_total N → ltb (length_of N k) lengths ≡ true
      short k u v = less (length_of N k) lengths ∙ ap not (how_many-zero (λ j. leb lengths (length_of N j)) (path_total N) (eqb→eq _ 0 h) k u v)

  pub held-at-most : (l : ℕ) → l < lengths → get_or (rows_of N ws e).held l 0 ≤ get_or (rows_of N ws e).paths l 0
  unfolding rows_of
  held-at-most l h =
      omega (
        arith,
        row_at (λ k. held_up_to N (in_runs (store_runs ws e)) k (path_total N)) l h,
        row_at (λ k. paths_up_to N k (path_total N)) l h,
        held-few N l (in_runs (store_runs ws e)) (path_total N),
      )

  -- the numbers in the rows are those of paths
  module _ (w : WellFormed N) (l : ℕ) (h : l < lengths) where
    pub paths-true : PathCount (PathOfLength N l) (get_or (rows_of N ws e).paths l 0)
    unfolding rows_of
    paths-true = subst (PathCount (PathOfLength N l)) (sym (row_at (λ k. paths_up_to N k (path_total N)) l h)) (paths-counted N w l)

    pub held-true : PathCount (HeldOfLength N ws e l) (get_or (rows_of N ws e).held l 0)
    unfolding rows_of
    held-true = subst (PathCount (HeldOfLength N ws e l)) (sym (row_at (λ k. held_up_to N (in_runs (store_runs ws e)) k (path_total N)) l h)) (held-counted N w ws e l)

  -- 84 holds exactly where the paths' row does not add up to T
  pub too_long : (length_rule N).1 ≡ eqb (sum_of (rows_of N ws e).paths) (path_total N)
  too_long =
      let more : ℕ = how_many (λ k. leb lengths (length_of N k)) (path_total N) in
      let sum : ℕ = sum_of (rows_of N ws e).paths in
      ⊎_elim
      (λ (q : eqb more 0 ≡ true).
      let z : more ≡ 0 = eqb→eq more 0 (true→T (eqb more 0) q) in
      q ∙ sym (T→true (eqb sum (path_total N)) (eq→eqb sum (path_total N) (omega (arith, paths-add)))))
      (λ (q : eqb more 0 ≡ false).
      q ∙ sym (not→false (eqb sum (path_total N))
      (λ t. let y : sum ≡ path_total N = eqb→eq sum (path_total N) t in eqb-false more 0 q (omega (arith, paths-add)))))
      (bool_cases (eqb more 0))

-- a path has a gate: a wire from input to output has no path
gates-on-path : (netlist : List ℕ) (N : Netlist) → read_netlist netlist ≡ value N → (k : ℕ) → 1 ≤ k → k ≤ path_total N → of_length N 0 k ≡ false
unfolding length_of
gates-on-path netlist N read k u v =
    let pins = (wires.on_legal netlist N read).path_has_pin (path_of N k) ((numbering_true netlist N read).each_number k u v).is_path in
    not→false (eqb (length (path_of N k).pins) 0) (λ t. let z = eqb→eq (length (path_of N k).pins) 0 t in omega (arith, pins, z))

none-without-gate : (netlist ws : List ℕ) (N : Netlist) → read_netlist netlist ≡ value N → (e : Edge) → get_or (rows_of N ws e).paths 0 0 ≡ 0
unfolding rows_of paths_up_to
none-without-gate netlist ws N read e =
    row_at (λ l. how_many (of_length N l) (path_total N)) 0 (omega arith)
    ∙ how_many-same (of_length N 0) (λ k. false) (path_total N) (gates-on-path netlist N read)
    ∙ how_many-none (path_total N)

-- What an answer says
pub rows_true : (netlist ws : List ℕ) (r : ByEdge Rows) → lengths_call netlist ws ≡ value r → RowsTrue netlist ws r
unfolding lengths_call totals_call
rows_true netlist ws r q =
    let lent = checks (store_rule ws ∷ []) in
    let rest : Netlist → Answer (ByEdge Rows) = λ N. checks (store_rules (path_total N) ws ++ (length_rule N ∷ [])) then value (by_edge (rows_of N ws)) in
    let s = steps (lent then read_netlist netlist) rest q in
    let N : Netlist = s.got in
    let rules = store_rules (path_total N) ws in
    let all = checks (rules ++ (length_rule N ∷ [])) in
    let read : read_netlist netlist ≡ value N = then-second lent (read_netlist netlist) s.first in
    let passed = checks→ (rules ++ (length_rule N ∷ [])) (then-first all (value (by_edge (rows_of N ws))) s.second) in
    let is : by_edge (rows_of N ws) ≡ r = value_inj (then-second all (value (by_edge (rows_of N ws))) s.second) in
    let sound : AllPass rules = pass_first rules (length_rule N ∷ []) passed in
    let short : T (length_rule N).1 = (pass_second rules (length_rule N ∷ []) passed).0 in
    let apart : (d : Edge) → Separated (path_total N) 1 (store_runs ws d) =
    λ d. separated→ (path_total N) 1 (store_runs ws d) (at_edge (λ g. separated_runs_of (path_total N) 1 (store_runs ws g)) sound.1.1.0 d) in
    let rows : (d : Edge) → of_edge r d ≡ rows_of N ws d = λ d. ap (λ (x : ByEdge Rows). of_edge x d) (sym is) ∙ of_edge-by_edge (rows_of N ws) d in
    let a : lent ≡ value tt = →checks (store_rule ws ∷ []) (checks→ (store_rule ws ∷ []) (then-first lent (read_netlist netlist) s.first)) in
    let b : checks rules ≡ value tt = →checks rules sound in
    record {
      circuit = N;
      legal = read;
      paths_true = λ d l h. rw (rows d) (paths-true N ws d (legal netlist N read) l h);
      held_true = λ d l h. rw (rows d) (held-true N ws d (legal netlist N read) l h);
      paths_add = λ d.
          ap (λ (x : Rows). sum_of x.paths) (rows d)
          ∙ omega (arith, paths-add N ws d, eqb→eq (how_many (λ k. leb lengths (length_of N k)) (path_total N)) 0 short);
      totals = by_edge (λ d. size (store_runs ws d));
      totals_gives = rw (a, read) (rw b refl);
      held_add = λ d.
          ap (λ (x : Rows). sum_of x.held) (rows d)
          ∙ held-add N ws d short (apart d)
          ∙ sym (of_edge-by_edge (λ g. size (store_runs ws g)) d);
      held_few = λ d l h. rw (rows d) (held-at-most N ws d l h);
      none_without_gate = λ d. ap (λ (x : Rows). get_or x.paths 0 0) (rows d) ∙ none-without-gate netlist ws N read d;
    }

-- 84
last-rule→ : {A : Type 0} (b : Bool) (x : A) → (checks ((84, b) ∷ []) then value x) ≡ refused 84 → b ≡ false
last-rule→ true x q = absurd (not_refused (sym q))
last-rule→ false x q = refl

→last_rule : {A : Type 0} (b : Bool) (x : A) → b ≡ false → (checks ((84, b) ∷ []) then value x) ≡ refused 84
→last_rule true x q = absurd (subst T q tt)
→last_rule false x q = refl

past-checks : (netlist ws : List ℕ) (N : Netlist) → read_netlist netlist ≡ value N → length ws ≡ store_words_count → checks (store_rules (path_total N) ws) ≡ value tt
    → lengths_call netlist ws ≡ (checks (length_rule N ∷ []) then value (by_edge (rows_of N ws)))
unfolding lengths_call
past-checks netlist ws N read l sound =
    let lent : checks (store_rule ws ∷ []) ≡ value tt = →checks (store_rule ws ∷ []) (eq→eqb (length ws) store_words_count l, tt) in
    let rules : checks (store_rules (path_total N) ws ++ (length_rule N ∷ [])) ≡ checks (length_rule N ∷ []) =
    checks-both (store_rules (path_total N) ws) (length_rule N ∷ []) ∙ ap (λ (x : Answer (Unit {0})). x then checks (length_rule N ∷ [])) sound in
    rw (lent, read) (ap (λ (x : Answer (Unit {0})). x then value (by_edge (rows_of N ws))) rules)

pub too_long-holds : TooLong
too_long-holds = record {
  exactly = λ netlist ws N read l sound.
      let w = legal netlist N read in
      let rows : ByEdge Rows = by_edge (rows_of N ws) in
      let last = past-checks netlist ws N read l sound in (
        λ q. long→ N w (last-rule→ (length_rule N).1 rows (sym last ∙ q)),
        λ h. last ∙ →last_rule (length_rule N).1 rows (→long N w h),
      );
}
