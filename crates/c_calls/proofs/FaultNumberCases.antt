-- The conversions of path numbers and fault numbers, by the cases of what they are handed.
use Rattle.model.proofs.Prelude.{ℕ, ◌≤◌, ◌<◌, ◌≡◌, ◌∙◌, refl, List, set, sets, rules, le-leb, lt-leb, ne_eqb}
use Rattle.model.specs.Base.{refused, value}
use Rattle.model.specs.Path.{rising, falling, edge_of_fault, path_of_fault}
use Rattle.model.specs.Refusals.{refusal_number_of}
use Rattle.model.specs.declared.Refusal.TheVariants as why
use Rattle.path_faults.specs.Answers.{model_edge, fault_answer, fault_call_of}
use Rattle.path_faults.specs.declared.Edge.{Edge}
use Rattle.c_answer_words.specs.Codes.{Answered, answer_after, number_word, edge_in, edge_number_of}
use Rattle.c_answer_words.proofs.CodeLaws.{answered-refused, answered-value, answered-by}
use Rattle.c_calls.specs.FaultNumbers.{fault_of_call, path_of_call, path_word, side_word}
use Rattle.std.specs.Prelude.{Result}
use Rattle.model.specs.declared.Refusal.{Refusal}
use Rattle.path_faults.specs.declared.FaultNo.{FaultNo}

-- ---- The fault of a path number and an edge

module _ (i n : ℕ) where
  of_rising : n ≡ 0 → fault_call_of rising i ≡ fault_of_call i n
  unfolding fault_of_call edge_in
  of_rising h = rw h refl

  of_falling : n ≡ 1 → fault_call_of falling i ≡ fault_of_call i n
  unfolding fault_of_call edge_in
  of_falling h = rw h refl

  of_neither : (n ≡ 0 → ⊥) → (n ≡ 1 → ⊥) → fault_of_call i n ≡ refused 60
  unfolding fault_of_call edge_in
  of_neither a b = rw (ne_eqb n 0 a, fault_of_call, edge_in) (rw (ne_eqb n 1 b, fault_of_call, edge_in) refl)

module _ (code i n : ℕ) (found left : List ℕ) (r : Result FaultNo Refusal) (a : Answered (fault_answer r) number_word code found left) where
  pub rising-found : n ≡ 0 → fault_answer r ≡ fault_call_of rising i → Answered (fault_of_call i n) number_word code found left
  rising-found h e = answered-by (e ∙ of_rising i n h) a

  pub falling-found : n ≡ 1 → fault_answer r ≡ fault_call_of falling i → Answered (fault_of_call i n) number_word code found left
  falling-found h e = answered-by (e ∙ of_falling i n h) a

pub no_edge : (code i n : ℕ) (found : List ℕ) → (n ≡ 0 → ⊥) → (n ≡ 1 → ⊥) → code ≡ refusal_number_of why.NoSuchNumber
    → Answered (fault_of_call i n) number_word code found found
no_edge code i n found a b q = answered-refused (fault_of_call i n) number_word found why.NoSuchNumber code q (of_neither i n a b)

-- ---- The path and the edge of a fault number

side_zero : (f : ℕ) → f < 1 → path_of_call f ≡ refused 60
unfolding path_of_call
side_zero f h = simp (lt-leb 1 f h)

pub side_of : (f : ℕ) → 1 ≤ f → path_of_call f ≡ value (record { path = path_of_fault f; edge = edge_of_fault f })
unfolding path_of_call
side_of f h = simp (le-leb 1 f h)

module _ (f : ℕ) (h : f < 1) where
  pub no-path : (code : ℕ) (found : List ℕ) → code ≡ refusal_number_of why.NoSuchNumber → Answered (path_of_call f) path_word code found found
  no-path code found q = answered-refused (path_of_call f) path_word found why.NoSuchNumber code q (side_zero f h)

  pub no-side : (found : List ℕ) → found ≡ answer_after (path_of_call f) side_word found
  no-side found = rw (side_zero f h) refl

module _ (f : ℕ) (h : 1 ≤ f) where
  pub path-found : (code : ℕ) (found left : List ℕ) (p : ℕ) → code ≡ 0 → p ≡ path_of_fault f → left ≡ sets found 0 (number_word p)
      → Answered (path_of_call f) path_word code found left
  path-found code found left p q e l = rw (q, l, e) (answered-value (path_of_call f) path_word found _ (side_of f h))

  pub side_found : (found : List ℕ) (n : ℕ) (d : Edge) → n ≡ edge_number_of (model_edge d) → model_edge d ≡ edge_of_fault f
      → set found 0 n ≡ answer_after (path_of_call f) side_word found
  side_found found n d q e = rw (side_of f h, q, e) refl

pub ruleset fault-of-cases = (rising-found, falling-found, no_edge, rules)

pub ruleset path-of-cases = (no-path, no-side, path-found, side_found, rules)
