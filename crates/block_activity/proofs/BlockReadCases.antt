-- The records of a block read one after the other: the first of them, one more, one that is refused, the end.
use Rattle.model.proofs.Prelude.{ℕ, ◌≤◌, ◌<◌, ◌+◌, ◌-◌, ◌*◌, ◌≡◌, ◌∙◌, ap, sym, subst, ap₂, inl, inr, false, List, length, get_or, drop, take, set, arith}
use Rattle.model.proofs.Prelude.{rules}
use native.Mathlib.Nat.{mul-add, mul-zero, mul-one}
use Rattle.model.specs.Base.{value, checks, bit}
use Rattle.model.specs.Netlist.{Netlist}
use Rattle.model.specs.Detect.{Class}
use Rattle.model.specs.Read.{test_rules, test_of, vector_bytes_of, record_length}
use Rattle.model.specs.declared.Refusal.{Refusal}
use Rattle.record_test.specs.Records.{RecordTrue, VectorsTrue}
use Rattle.record_test.specs.declared.inner.Vectors.{Vectors}
use Rattle.record_test.proofs.VectorWordLaws.{both-room, new-first, new-second, old-first, old-second}
use Rattle.block_activity.specs.Marks.{VectorsOf, record_at, test_at, BlockRead}
use Rattle.block_activity.proofs.OneMoreLaws.{one_more}
use Rattle.std.specs.Prelude.{Result, Ok, Err}
use Rattle.model.specs.Returned.{answer_of}

-- the first n records of a netlist's file, which end at byte `at`
pub record ReadFor (N : Netlist) (tests vectors : List ℕ) (at n : ℕ) : Type 0 where
  pub ends : at ≡ record_length N * n
  pub legal : (t : ℕ) → t < n → checks (test_rules N (record_at N tests t)) ≡ value tt
  pub vectors_are : (c : Class) → VectorsOf N (test_at N c tests) n vectors

pub record ReadSoFar (inputs : ℕ) (tests vectors : List ℕ) (at n : ℕ) : Type 0 where
  pub few : n ≤ 64
  pub within : at ≤ length tests
  pub room : length vectors ≡ 128
  pub read : (N : Netlist) → N.inputs ≡ inputs → ReadFor N tests vectors at n

pub read_none : (inputs : ℕ) (tests vectors : List ℕ) → length vectors ≡ 128 → ReadSoFar inputs tests vectors 0 0
read_none inputs tests vectors room = record {
  few = omega arith;
  within = omega arith;
  room = room;
  read = λ N e. record {
    ends = sym (mul-zero (record_length N));
    legal = λ t h. absurd (omega arith);
    vectors_are = λ c. record { first = λ t j h l. absurd (omega arith); second = λ t j h l. absurd (omega arith) };
  };
}

module _ {inputs : ℕ} {tests vectors : List ℕ} {at n : ℕ} (s : ReadSoFar inputs tests vectors at n)
    (bytes : ℕ) (eb : bytes ≡ 2 + 2 * vector_bytes_of inputs) where
  bytes-is : (N : Netlist) → N.inputs ≡ inputs → bytes ≡ record_length N
  bytes-is N e = eb ∙ ap (λ i. 2 + 2 * vector_bytes_of i) (sym e)

  -- where one record more ends
  next-end : (N : Netlist) → N.inputs ≡ inputs → at + bytes ≡ record_length N * (n + 1)
  next-end N e = omega (arith, (s.read N e).ends, bytes-is N e, mul-add (record_length N) n 1, mul-one (record_length N))

  whole-so_far : (N : Netlist) → N.inputs ≡ inputs → record_length N * n ≤ length tests
  whole-so_far N e = omega (arith, (s.read N e).ends, s.within)

  pub read_all : 64 ≤ n → (N : Netlist) → N.inputs ≡ inputs → BlockRead N tests vectors 64 (Ok tt)
  read_all l N e =
      let all : n ≡ 64 = omega (arith, s.few) in
      subst (λ (m : ℕ). BlockRead N tests vectors m (Ok tt)) all (record {
        few = s.few;
        whole = whole-so_far N e;
        legal = (s.read N e).legal;
        vectors_are = (s.read N e).vectors_are;
        ended = λ q. inl (omega (arith, s.few));
        refuses = λ w q. (let z : ◌≡◌ {A = ℕ} 0 1 = cc in absurd (omega arith));
      })

  pub read_short : length tests - at < bytes → (N : Netlist) → N.inputs ≡ inputs → BlockRead N tests vectors n (Ok tt)
  read_short l N e = record {
    few = s.few;
    whole = whole-so_far N e;
    legal = (s.read N e).legal;
    vectors_are = (s.read N e).vectors_are;
    ended = λ q. inr (omega (arith, s.within, next-end N e));
    refuses = λ w q. (let z : ◌≡◌ {A = ℕ} 0 1 = cc in absurd (omega arith));
  }

  module _ (h : bytes ≤ length tests - at) where
    abbrev rec : List ℕ
    rec = take (at + bytes - at) (drop at tests)

    rec-is : (N : Netlist) → N.inputs ≡ inputs → rec ≡ record_at N tests n
    rec-is N e =
        let z : at + bytes - at ≡ record_length N = omega (arith, bytes-is N e) in
        ap₂ (λ k i. take k (drop i tests)) z (s.read N e).ends

    answers : {r : (Result (Unit {0}) Refusal)} → RecordTrue r inputs rec → (N : Netlist) → N.inputs ≡ inputs → answer_of r ≡ checks (test_rules N (record_at N tests n))
    answers t N e = t.answer N e ∙ ap (λ (x : List ℕ). checks (test_rules N x)) (rec-is N e)

    pub read-refused : {r : (Result (Unit {0}) Refusal)} → RecordTrue r inputs rec → (w : Refusal) → r ≡ Err w
        → (N : Netlist) → N.inputs ≡ inputs → BlockRead N tests vectors n (Err w)
    read-refused {r} t w q N e = record {
      few = s.few;
      whole = whole-so_far N e;
      legal = (s.read N e).legal;
      vectors_are = (s.read N e).vectors_are;
      ended = λ z. (let y : ◌≡◌ {A = ℕ} 0 1 = cc in absurd (omega arith));
      refuses = λ v z. (
        omega (arith, s.within, next-end N e),
        sym (answers t N e) ∙ ap answer_of (q ∙ z),
      );
    }

    module _ (l : n < 64) {r : (Result (Unit {0}) Refusal)} (t : RecordTrue r inputs rec) (q : r ≡ Ok tt) {v : Vectors} (x : VectorsTrue v inputs rec) where
      pub read_more : ReadSoFar inputs tests (set (set vectors n v.v1) (64 + n) v.v2) (at + bytes) (n + 1)
      read_more = record {
        few = omega arith;
        within = omega (arith, s.within);
        room = both-room vectors n v.v1 v.v2 s.room l;
        read = λ N e. record {
          ends = next-end N e;
          legal = one_more (λ i. checks (test_rules N (record_at N tests i)) ≡ value tt) n (s.read N e).legal (sym (answers t N e) ∙ ap answer_of q);
          vectors_are = λ c. record {
            first = λ i j a b. one_more (λ m. bit (get_or all m 0) j ≡ get_or (test_at N c tests m).v1 j false) n
                (λ m o. ap (λ k. bit k j) (old-first vectors n v.v1 v.v2 s.room l m o) ∙ ((s.read N e).vectors_are c).first m j o b)
                (ap (λ k. bit k j) (new-first vectors n v.v1 v.v2 s.room l)
                ∙ x.first N c e j (omega (arith, e)) ∙ ap (λ (y : List ℕ). get_or (test_of N c y).v1 j false) (rec-is N e))
                i a;
            second = λ i j a b. one_more (λ m. bit (get_or all (64 + m) 0) j ≡ get_or (test_at N c tests m).v2 j false) n
                (λ m o. ap (λ k. bit k j) (old-second vectors n v.v1 v.v2 s.room l m o) ∙ ((s.read N e).vectors_are c).second m j o b)
                (ap (λ k. bit k j) (new-second vectors n v.v1 v.v2 s.room l)
                ∙ x.second N c e j (omega (arith, e)) ∙ ap (λ (y : List ℕ). get_or (test_of N c y).v2 j false) (rec-is N e))
                i a;
          };
        };
      }
        where
          all : List ℕ
          all = set (set vectors n v.v1) (64 + n) v.v2

pub ruleset read-cases = (read_none, read_all, read_short, read-refused, rules)
