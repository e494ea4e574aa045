-- The path calls: each undoes the other, and a path fits the buffer.
use Rattle.model.proofs.Prelude.{ℕ, ◌≤◌, ◌<◌, ◌+◌, ◌-◌, suc, ◌≡◌, ◌∙◌, ap, sym, subst, ◌&&◌, List, [], ◌∷◌, length, get_or, leb, T, eqb, leb→le}
use Rattle.model.proofs.Prelude.{eqb→eq, le→leb, arith}
use Rattle.model.specs.Base.{Answer, value, ◌then◌, checks}
use Rattle.model.specs.Netlist.{Netlist, path_total, nets, pin_net, output_net}
use Rattle.model.specs.Path.{CircuitPath, valid, valid_at, number_of, path_of}
use Rattle.model.specs.Read.{read_netlist, within}
use Rattle.model.specs.Calls.{words_of, path_in, is_path, path_to_number_call, number_to_path_call, path_rule, path_words}
use Rattle.model.proofs.WellFormed.{WellFormed}
use Rattle.model.proofs.AnswerLaws.{steps, checks→, →checks, then-first, then-second, value_inj}
use Rattle.model.proofs.BoolLaws.{and_left, and_right, all3, both, eq→eqb}
use Rattle.model.proofs.NumberLaws.{gate-of, pin-lower, valid-parts, output-net, numbers-bounds, path-of_number, number-of_path}
use Rattle.model.proofs.ReadLaws.{legal, Limits}

-- each step is at a lower net
partial_length : (N : Netlist) (w : WellFormed N) (ps : List ℕ) (net : ℕ) → net < nets N → T (valid_at N net ps) → length ps ≤ suc net - N.inputs
partial_length N w [] net l v = omega arith
partial_length N w (p ∷ ps) net l v =
    let g = gate-of N w net p ps v in
    let low = pin-lower N w net p g.0 l g.1 in
    omega (arith, g.0, partial_length N w ps (pin_net N net p) (omega arith) g.2)

-- a path is at most 513 words
pub path-fits : (N : Netlist) → WellFormed N → Limits N → (p : CircuitPath) → T (valid N p) → length (words_of p) ≤ path_words
path-fits N w l p v =
    let q = valid-parts N w p v in
    let o = output-net N w p.output q.0 in
    omega (arith, o, l.some_input, l.few_nets, partial_length N w p.pins (output_net N p.output) o q.1)

module _ (file : List ℕ) (N : Netlist) (e : read_netlist file ≡ value N) where
  -- The number of a path that a number gave is that number
  pub number-path-number : (k : ℕ) (buf : List ℕ) (p : CircuitPath) → number_to_path_call file k buf ≡ value p → path_to_number_call file (words_of p) ≡ value k
  unfolding number_to_path_call path_to_number_call
  number-path-number k buf p q =
      let room : Answer (Unit {0}) = checks ((3, leb path_words (length buf)) ∷ []) in
      let s = steps (room then read_netlist file) (λ M. checks ((60, within 1 (path_total M) k) ∷ []) then value (path_of M k)) q in
      let m : s.got ≡ N = value_inj (sym (then-second room (read_netlist file) s.first) ∙ e) in
      let z : (checks ((60, within 1 (path_total N) k) ∷ []) then value (path_of N k)) ≡ value p =
      subst (λ M. (checks ((60, within 1 (path_total M) k) ∷ []) then value (path_of M k)) ≡ value p) m s.second in
      let h = (checks→ ((60, within 1 (path_total N) k) ∷ []) (then-first (checks ((60, within 1 (path_total N) k) ∷ [])) (value (path_of N k)) z)).0 in
      let b = number-of_path N (legal file N e) k (leb→le 1 k (and_left (leb 1 k) (leb k (path_total N)) h)) (leb→le k (path_total N) (and_right (leb 1 k) (leb k (path_total N)) h)) in
      let i : path_of N k ≡ p = value_inj (then-second (checks ((60, within 1 (path_total N) k) ∷ [])) (value (path_of N k)) z) in
      let c : checks ((61, is_path N (words_of p)) ∷ []) ≡ value tt =
      →checks ((61, is_path N (words_of p)) ∷ []) (
        all3 (leb 2 (length (words_of p))) (eqb (length (words_of p)) (2 + length p.pins)) (valid N p)
            (le→leb 2 (length (words_of p)) (omega arith)) (eq→eqb (length (words_of p)) (2 + length p.pins) (omega arith)) (rw i at b.is_path),
        tt,
      ) in
      rw e (rw c (ap value (ap (number_of N) (sym i) ∙ b.number)))

  -- words that are exactly a path are the words of that path
  pub words-of_path : (words : List ℕ) → T (is_path N words) → words_of (path_in words) ≡ words
  words-of_path [] t = absurd t
  words-of_path (a ∷ []) t = absurd t
  words-of_path (a ∷ b ∷ rest) t =
      let l : T (eqb (length (a ∷ b ∷ rest)) (2 + b)) =
      and_right (leb 2 (length (a ∷ b ∷ rest))) (eqb (length (a ∷ b ∷ rest)) (2 + b))
      (and_left (leb 2 (length (a ∷ b ∷ rest)) && eqb (length (a ∷ b ∷ rest)) (2 + b)) (valid N (path_in (a ∷ b ∷ rest))) t) in
      let q : length rest ≡ b = omega (arith, eqb→eq (length (a ∷ b ∷ rest)) (2 + b) l) in
      ap (λ (n : ℕ). a ∷ n ∷ rest) q

  -- The path of the number of a path is that path
  pub path-number-path : (words : List ℕ) (k : ℕ) → path_to_number_call file words ≡ value k → (buf : List ℕ) → path_words ≤ length buf
      → (number_to_path_call file k buf ≡ value (path_in words)) × (words_of (path_in words) ≡ words)
  unfolding number_to_path_call path_to_number_call
  path-number-path words k q buf l =
      let p : CircuitPath = path_in words in
      let s = steps (read_netlist file) (λ M. checks ((61, is_path M words) ∷ []) then value (number_of M p)) q in
      let m : s.got ≡ N = value_inj (sym s.first ∙ e) in
      let z : (checks ((61, is_path N words) ∷ []) then value (number_of N p)) ≡ value k =
      subst (λ M. (checks ((61, is_path M words) ∷ []) then value (number_of M p)) ≡ value k) m s.second in
      let h : T (is_path N words) = (checks→ ((61, is_path N words) ∷ []) (then-first (checks ((61, is_path N words) ∷ [])) (value (number_of N p)) z)).0 in
      let i : number_of N p ≡ k = value_inj (then-second (checks ((61, is_path N words) ∷ [])) (value (number_of N p)) z) in
      let v : T (valid N p) = and_right (leb 2 (length words) && eqb (length words) (2 + get_or words 1 0)) (valid N p) h in
      let w : WellFormed N = legal file N e in
      let b = numbers-bounds N w p v in
      let r : path_of N k ≡ p = ap (path_of N) (sym i) ∙ path-of_number N w p v in
      let low : 1 ≤ k = omega (arith, i, b.0) in
      let high : k ≤ path_total N = omega (arith, i, b.1) in
      let a : checks (path_rule buf ∷ []) ≡ value tt = →checks (path_rule buf ∷ []) (le→leb path_words (length buf) l, tt) in
      let c : checks ((60, within 1 (path_total N) k) ∷ []) ≡ value tt =
      →checks ((60, within 1 (path_total N) k) ∷ []) (both (leb 1 k) (leb k (path_total N)) (le→leb 1 k low) (le→leb k (path_total N) high), tt) in
      (rw (a, e) (rw c (ap value r)), words-of_path words h)
