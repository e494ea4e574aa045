-- The file that a call wrote lies in its buffer.
use Rattle.model.proofs.Prelude.{ℕ, ◌≤◌, ◌≡◌, ap, sym, subst, List, ◌++◌, length, drop, take, length-append, length-take-le, arith}
use Rattle.model.specs.Base.{Answer, refused, value, ◌into◌, after}
use Rattle.model.proofs.AnswerLaws.{value_inj, not_refused}
use Rattle.bench_text.specs.Calls.{convert_call, convert_answer, convert_buffer}
use Rattle.bench_text.specs.Converting.{ConvertTrue}
use Rattle.std.specs.Prelude.{Result, Ok}
use Rattle.bench_circuit.specs.declared.inner.judging.LineRefusal.{LineRefusal}

module _ (r : Result ℕ LineRefusal) (text out out' : List ℕ) (n : ℕ) (t : ConvertTrue r text out out') (e : r ≡ Ok n) where
  pub written-fits : n ≤ length out'
  unfolding convert_answer convert_buffer
  written-fits =
      let z : ConvertTrue (Ok n) text out out' =
      subst (λ (x : Result ℕ LineRefusal). ConvertTrue x text out out') e t in
      go (convert_call text out) z.answer z.buffer
    where
      go : (x : Answer (List ℕ)) → value n ≡ (x into λ bs. value (length bs))
          → out' ≡ after x out (λ bs. bs ++ drop (length bs) out) → n ≤ length out'
      go (refused m) p q = absurd (not_refused (sym p))
      go (value bs) p q =
          let k : n ≡ length bs = value_inj p in omega (arith, k, ap length q, length-append bs (drop (length bs) out))

  pub written-part : n ≡ length (take n out')
  written-part = sym (length-take-le n out' written-fits)
