-- What the store of all pairs does not hold no legal test of the class detects: a fault is in that store exactly when some legal test detects it.
use Rattle.model.proofs.Prelude.{ℕ, ◌≤◌, ◌<◌, ◌+◌, ◌*◌, suc, zero, ◌≡◌, ◌∙◌, ap, sym, subst, ⊎_elim, ◌↔◌, true, false, List, [], ◌∷◌}
use Rattle.model.proofs.Prelude.{List·Memᴰ·not-nil, List-as-Memᴰ, List·Memᴰ·cases-cons, List·Memᴰ·head, List·Memᴰ·tail, length, T, eqb→eq, arith}
use Rattle.model.specs.Base.{value, checks, ◌then◌}
use Rattle.model.specs.Netlist.{Netlist, path_total}
use Rattle.model.specs.Path.{number_of, path_of_fault, edge_of_fault}
use Rattle.model.specs.Runs.{in_runs, size}
use Rattle.model.specs.Read.{read_netlist, class_of}
use Rattle.model.specs.Store.{ByEdge, by_edge, store_runs, store_rules, store_words_count}
use Rattle.model.specs.Calls.{store_rule, totals_call}
use Rattle.model.proofs.BoolLaws.{bool_cases, T→true, not→false, cases}
use Rattle.model.proofs.AnswerLaws.{steps, then-first, then-second, value_inj, checks→}
use Rattle.model.proofs.ReadLaws.{legal}
use Rattle.model.proofs.NumberLaws.{number-of_path}
use Rattle.store_words.specs.Sound.{SoundWords}
use Rattle.store_words.proofs.SoundLaws.{sound-words}
use Rattle.exhaust_pairs.specs.Exhaust.{exhaust_store, Shown, Exhausted}
use Rattle.exhaust_pairs.proofs.ExhaustHolds.{exhaustive}
use Rattle.exhaust_undetected.specs.Undetected.{held_number, not_held_from, undetected}
use Rattle.exhaust_undetected.specs.NeverDetected.{fault_of, Undetectable, NeverDetected, UndetectedTrue}
use Rattle.exhaust_undetected.proofs.NotHeldLaws.{skip_held, take-free}
use Rattle.exhaust_undetected.proofs.ListedCases.{not_held-many}

-- a number is in the list exactly when it is one of those looked at and is not held
module _ (ws : List ℕ) where
  record Free (f n k : ℕ) : Type 0 where
    low : f ≤ k
    high : k < f + n
    not_held : held_number ws k ≡ false

  mem→ : (n f k : ℕ) → List-as-Memᴰ k (not_held_from ws f n) → Free f n k
  unfolding not_held_from
  mem→ zero f k m = absurd (List·Memᴰ·not-nil m)
  mem→ (suc n) f k m =
      ⊎_elim
      (λ (q : held_number ws f ≡ true). wider (mem→ n (suc f) k (rw (skip_held ws f n q) at m)))
      (λ (q : held_number ws f ≡ false).
      ⊎_elim
      (λ (s : k ≡ f). record { low = omega arith; high = omega arith; not_held = ap (held_number ws) s ∙ q })
      (λ (s : List-as-Memᴰ k (not_held_from ws (suc f) n)). wider (mem→ n (suc f) k s))
      (List·Memᴰ·cases-cons (rw (take-free ws f n q) at m)))
      (bool_cases (held_number ws f))
    where
      wider : Free (suc f) n k → Free f (suc n) k
      wider x = record { low = omega (arith, x.low); high = omega (arith, x.high); not_held = x.not_held }

  →mem : (n f k : ℕ) → Free f n k → List-as-Memᴰ k (not_held_from ws f n)
  unfolding not_held_from
  →mem zero f k x = absurd (omega (arith, x.low, x.high))
  →mem (suc n) f k x =
      cases k f
      (λ (m : k ≤ f).
      let e : k ≡ f = omega (arith, x.low) in
      rw (take-free ws f n (ap (held_number ws) (sym e) ∙ x.not_held)) (List·Memᴰ·head e))
      (λ (m : f < k).
      let ih : List-as-Memᴰ k (not_held_from ws (suc f) n) = →mem n (suc f) k (record { low = m; high = omega (arith, x.high); not_held = x.not_held }) in
      ⊎_elim
      (λ (q : held_number ws f ≡ true). rw (skip_held ws f n q) ih)
      (λ (q : held_number ws f ≡ false). rw (take-free ws f n q) (List·Memᴰ·tail ih))
      (bool_cases (held_number ws f)))

-- what the totals call leaves known of a store
pub record TotalsKnown (N : Netlist) (ws : List ℕ) (totals : ByEdge ℕ) : Type 0 where
  pub sound : SoundWords (path_total N) ws
  pub sums : by_edge (λ e. size (store_runs ws e)) ≡ totals

pub totals-known : (netlist : List ℕ) (N : Netlist) → read_netlist netlist ≡ value N → (ws : List ℕ) (totals : ByEdge ℕ)
    → totals_call netlist ws ≡ value totals → TotalsKnown N ws totals
unfolding totals_call
totals-known netlist N read ws totals e =
    let lent = checks (store_rule ws ∷ []) in
    let sums = by_edge (λ d. size (store_runs ws d)) in
    let s = steps (lent then read_netlist netlist) (λ M. checks (store_rules (path_total M) ws) then value sums) e in
    let is : s.got ≡ N = value_inj (sym (then-second lent (read_netlist netlist) s.first) ∙ read) in
    let rest : (checks (store_rules (path_total N) ws) then value sums) ≡ value totals =
    subst (λ M. (checks (store_rules (path_total M) ws) then value sums) ≡ value totals) is s.second in
    let long = eqb→eq (length ws) store_words_count (checks→ (store_rule ws ∷ []) (then-first lent (read_netlist netlist) s.first)).0 in
    record {
      sound = sound-words (path_total N) ws long (sym (then-first (checks (store_rules (path_total N) ws)) (value sums) rest).is);
      sums = value_inj (then-second (checks (store_rules (path_total N) ws)) (value sums) rest);
    }

module _ (netlist : List ℕ) (N : Netlist) (read : read_netlist netlist ≡ value N) (class : ℕ) (left : List ℕ) (totals : ByEdge ℕ)
    (x : Exhausted netlist N class left totals) where
  module _ (f : ℕ) (low : 1 ≤ f) (high : f ≤ 2 * path_total N) where
    numbered : number_of N (fault_of N f).path ≡ path_of_fault f
    numbered = (number-of_path N (legal netlist N read) (path_of_fault f) (omega arith) (omega arith)).number

    shown : T (held_number left f) ↔ Shown N (class_of class) (fault_of N f)
    shown =
        let p = number-of_path N (legal netlist N read) (path_of_fault f) (omega arith) (omega arith) in
        subst (λ (k : ℕ). T (in_runs (store_runs left (edge_of_fault f)) k) ↔ Shown N (class_of class) (fault_of N f)) numbered
        (x.shows (fault_of N f) p.is_path)

  these : (f : ℕ) → List-as-Memᴰ f (undetected left (path_total N)) ↔ Undetectable N class f
  unfolding undetected
  these f = (
    λ m.
        let y = mem→ left (2 * path_total N) 1 f m in
        let high : f ≤ 2 * path_total N = omega (arith, y.high) in
        record {
          least = y.low;
          most = high;
          never = λ s. mathlib.Core.Bool.true≢false (sym (T→true (held_number left f) ((shown f y.low high).1 s)) ∙ y.not_held);
        },
    λ u.
        →mem left (2 * path_total N) 1 f
        (record {
          low = u.least;
          high = omega (arith, u.most);
          not_held = not→false (held_number left f) (λ t. u.never ((shown f u.least u.most).0 t));
        }),
  )

  never-detected : NeverDetected N class left totals
  never-detected =
      let k = totals-known netlist N read left totals x.totals_true in
      let r = ap (λ (b : ByEdge ℕ). b.on_rising) k.sums in
      let d = ap (λ (b : ByEdge ℕ). b.on_falling) k.sums in
      record { these = these; many = omega (arith, not_held-many left (path_total N) k.sound, r, d) }

pub undetected-true : UndetectedTrue
undetected-true = record {
  after_all_pairs = λ netlist class ws work N read totals e.
      never-detected netlist N read class (exhaust_store netlist class ws work) totals (exhaustive.whole netlist class ws work N read totals e);
}
