-- Numbers stored one after another from an answer word on: the counts of the nets behind the first four words, the rows of coverage by length.
use Rattle.model.proofs.Prelude.{ℕ, ◌≤◌, ◌<◌, ◌+◌, ◌-◌, suc, zero, ◌≡◌, ◌∙◌, refl, sym, List, [], ◌∷◌, ◌++◌, length, get_or}
use Rattle.model.proofs.Prelude.{take, drop, set, sets, sets-eq, length-set, length-sets, take_all, append-nil, arith}
use Rattle.std.proofs.lemmas.List.{drop_all}
use Rattle.std.proofs.lemmas.Slice.{put_mid-paste}
use borrow.Rule.Slice.PartMut.{put_mid}
use mir.Val.{Val}
use denote.Shadow.{shadow}
use denote.Array.{Array, each}
use denote.Builtin.{u64}
use Rattle.record_bytes.proofs.ByteLaws.{sets_append}

-- numbers copied into a part of the words are stored one after another from its start on
part-stored : (found numbers part : List ℕ) (from long : ℕ) → part ≡ numbers → length numbers ≡ long → from + long ≤ length found
    → put_mid from long found part ≡ sets found from numbers
part-stored found numbers part from long e n h =
    let all : take long numbers ≡ numbers = take_all long numbers (omega arith) in
    put_mid-paste from long found part numbers long e refl (sym n) ∙ (rw (all, ← n) refl ∙ sym (sets-eq numbers found from (omega arith)))

-- an array of rows of 64 has them, by what owning it says
pub row-long : (rows : List (List ℕ)) (us : List Val) (k : ℕ) → shadow (each (List ℕ) (Array u64 64).own_val rows us) → k < length rows
    → length (get_or rows k []) ≡ 64
row-long [] us k s h = absurd (omega arith)
row-long (x ∷ xs) [] k s h = absurd s
row-long (x ∷ xs) (u ∷ us) zero s h = s.0.1.0.1
row-long (x ∷ xs) (u ∷ us) (suc k) s h = row-long xs us k s.1 (omega arith)

-- two rows of 64, the second behind the first
pub rows-stored : (found xs ys first second : List ℕ) (place : ℕ) → length found ≡ 256 → place ≤ 128 → length xs ≡ 64 → length ys ≡ 64 → first ≡ xs → second ≡ ys
    → put_mid (place + 64) (place + 128 - (place + 64)) (put_mid place (place + 64 - place) found first) second ≡ sets found place (xs ++ ys)
rows-stored found xs ys first second place f h m n e d =
    let one : put_mid place (place + 64 - place) found first ≡ sets found place xs = part-stored found xs first place (place + 64 - place) e (omega arith) (omega arith) in
    let kept : length (sets found place xs) ≡ length found = simp length-sets in
    rw one
    (part-stored (sets found place xs) ys second (place + 64) (place + 128 - (place + 64)) d (omega arith) (omega arith)
    ∙ sets_append xs ys found place (place + 64) (omega arith))

-- the counts of the nets, behind the first four words
pub counts-stored : (found counts part : List ℕ) (inputs gates outputs total : ℕ) → length found ≡ 516 → length counts ≡ 512 → part ≡ counts
    → put_mid 4 512 (set (set (set (set found 0 inputs) 1 gates) 2 outputs) 3 total) part ≡ sets found 0 (inputs ∷ gates ∷ outputs ∷ total ∷ counts)
counts-stored found counts part inputs gates outputs total f n e =
    let first : List ℕ = set (set (set (set found 0 inputs) 1 gates) 2 outputs) 3 total in
    let long : length first ≡ length found = simp length-set in
    part-stored first counts part 4 512 e n (omega arith)

-- numbers stored over a list that is no longer than they are: none of what was found is left
pub stored-whole : (n : ℕ) (found numbers : List ℕ) → length found ≡ n → length numbers ≡ n → numbers ≡ sets found 0 numbers
stored-whole n found numbers f l =
    let none : drop (0 + length numbers) found ≡ [] = drop_all (0 + length numbers) found (omega arith) in
    sym (sets-eq numbers found 0 (omega arith) ∙ rw none (append-nil numbers))
