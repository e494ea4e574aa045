-- Zeros in the first words, and the words of a path over them.
use Rattle.model.proofs.Prelude.{ℕ, ◌≤◌, ◌<◌, ◌+◌, ◌-◌, suc, zero, ◌≡◌, ◌∙◌, ap, refl, sym, ap₂, List, [], ◌∷◌, ◌++◌, append_assoc, length, get_or}
use Rattle.model.proofs.Prelude.{drop, length-append, set, length-set, replicate, length-drop, length-replicate, sets, drop-cons, sets-eq, set_at}
use Rattle.model.proofs.Prelude.{add-one, arith, rules}
use lib.ListN.{replicate-append-replicate}
use lib.Seq.{drop-append-le}
use Rattle.model.specs.Path.{CircuitPath}
use Rattle.model.specs.Calls.{path_written, words_of}
use Rattle.path_of_number.specs.Tasks.{blank}

-- Zeros at the front
pub blank_none : (ws : List ℕ) → ws ≡ blank 0 ws
unfolding blank
blank_none ws = refl

pub blank-more : (i n : ℕ) (now ws : List ℕ) → i < n → n ≤ length ws → now ≡ blank i ws → set now i 0 ≡ blank (i + 1) ws
unfolding blank
blank-more i n now ws h l e =
    let d : drop i ws ≡ get_or ws i 0 ∷ drop (suc i) ws = drop-cons ws i 0 (omega arith) in
    ap (λ (x : List ℕ). set x i 0) (e ∙ ap (λ (x : List ℕ). replicate i 0 ++ x) d)
    ∙ set_at (replicate i 0) (get_or ws i 0) (drop (suc i) ws) 0 i (length-replicate i 0)
    ∙ sym (append_assoc (replicate i 0) (0 ∷ []) (drop (suc i) ws))
    ∙ ap₂ (λ (x : List ℕ) k. x ++ drop k ws) (replicate-append-replicate {A = ℕ} i 1 0) (sym (add-one i))

pub blank-all : (i n : ℕ) (now ws : List ℕ) → i ≤ n → n ≤ i → now ≡ blank i ws → now ≡ blank n ws
blank-all i n now ws h k e = let p : i ≡ n = omega arith in rw p at e

pub ruleset blank-cases = (blank_none, blank-more, blank-all, rules)

-- Words
drop-zeros : (k m : ℕ) → k ≤ m → drop {A = ℕ} k (replicate m 0) ≡ replicate (m - k) 0
drop-zeros zero m h = ap (λ n. replicate n 0) e
  where
    e : m ≡ m - 0
    e = omega arith
drop-zeros (suc k) zero h = absurd (omega arith)
drop-zeros (suc k) (suc m) h = drop-zeros k m (omega arith) ∙ ap (λ n. replicate n 0) e
  where
    e : m - k ≡ suc m - suc k
    e = omega arith

pub words : (n o : ℕ) (pins ws : List ℕ) → 2 + length pins ≤ n → n ≤ length ws
    → set (sets (set (blank n ws) 0 o) 2 pins) 1 (length pins) ≡ (o ∷ (length pins ∷ pins)) ++ (replicate (n - (2 + length pins)) 0 ++ drop n ws)
unfolding blank
words zero o pins ws h l = absurd (omega arith)
words (suc zero) o pins ws h l = absurd (omega arith)
words (suc (suc m)) o pins ws h l =
    let k = length pins in
    let b : k ≤ length {A = ℕ} (replicate m 0) = omega (arith, length-replicate {A = ℕ} m 0) in
    let e : 2 + k ≡ suc (suc k) = omega arith in
    let f : m - k ≡ suc (suc m) - (2 + k) = omega arith in
    let r : List ℕ = replicate m 0 ++ drop (suc (suc m)) ws in
    let fits : 2 + k ≤ length (o ∷ (0 ∷ r)) = omega (arith, length-append (replicate m 0) (drop (suc (suc m)) ws), length-replicate {A = ℕ} m 0) in
    ap (λ (x : List ℕ). set x 1 k) (sets-eq pins (o ∷ (0 ∷ r)) 2 fits ∙ ap (λ j. o ∷ (0 ∷ (pins ++ drop j (o ∷ (0 ∷ r))))) e)
    ∙ ap (λ (x : List ℕ). o ∷ (k ∷ (pins ++ x)))
    (drop-append-le k (replicate m 0) (drop (suc (suc m)) ws) b
    ∙ ap (λ (x : List ℕ). x ++ drop (suc (suc m)) ws) (drop-zeros k m (omega arith) ∙ ap (λ j. replicate j 0) f))

pub buffer-is : (p : CircuitPath) (ws : List ℕ) → words_of p ++ (replicate (513 - length (words_of p)) 0 ++ drop 513 ws) ≡ path_written p ws
buffer-is p ws = sym (append_assoc (words_of p) (replicate (513 - length (words_of p)) 0) (drop 513 ws))

pub length-blank : (n : ℕ) (ws : List ℕ) → n ≤ length ws → length (blank n ws) ≡ length ws
unfolding blank
length-blank n ws h = omega (arith, length-append (replicate n 0) (drop n ws), length-replicate {A = ℕ} n 0, length-drop n ws)

-- The length of the buffer through the call
pub end-room : (ws cleared now : List ℕ) (a : ℕ) → 513 ≤ length ws → cleared ≡ blank 513 ws → length now ≡ length (set cleared 0 a) → 1 < length now
end-room ws cleared now a h ec en = omega (arith, length-set cleared 0 a, ap (λ (x : List ℕ). length x) ec, length-blank 513 ws h)

pub same-words : (ws cleared now : List ℕ) (a c : ℕ) → 513 ≤ length ws → cleared ≡ blank 513 ws → length now ≡ length (set cleared 0 a)
    → length (set now 1 c) ≡ length ws
same-words ws cleared now a c h ec en = omega (arith, length-set now 1 c, length-set cleared 0 a, ap (λ (x : List ℕ). length x) ec, length-blank 513 ws h)

pub blank-room : (ws now : List ℕ) → 513 ≤ length ws → now ≡ blank 513 ws → 0 < length now
blank-room ws now h e = omega (arith, ap (λ (x : List ℕ). length x) e, length-blank 513 ws h)
