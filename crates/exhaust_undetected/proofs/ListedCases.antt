-- The search for the next fault that is not held, the loop that lists them, and their number, case by case as the code meets them.
use Rattle.model.proofs.Prelude.{ℕ, ◌≤◌, ◌<◌, ◌+◌, ◌-◌, ◌*◌, suc, ◌^◌, zero, ◌≡◌, ◌∙◌, ap, refl, sym, subst, ⊎_elim, true, Bool, false, List, [], ◌∷◌}
use Rattle.model.proofs.Prelude.{length, get_or, take, set, length-set, sets, length-take-le, take_all, add-one, arith, rules}
use mir.Syntax.{w64}
use mir.Val.{Fits}
use Rattle.model.specs.Path.{rising, falling, path_of_fault}
use Rattle.model.specs.Runs.{Run, in_runs, size, how_many_from, how_many}
use Rattle.model.specs.Store.{store_runs, ByEdge}
use Rattle.model.proofs.BoolLaws.{bool_cases, cases}
use Rattle.model.proofs.RunLaws.{runs-of_runs}
use Rattle.model.proofs.RunSizeLaws.{many-true, many-false, runs-size}
use Rattle.run_lists.specs.RunLists.{Sound}
use Rattle.run_lists.proofs.MemberLaws.{size-le}
use Rattle.store_words.specs.Sound.{SoundWords}
use Rattle.store_words.specs.WordAnswers.{totals_in, totals_both}
use Rattle.store_words.specs.declared.inner.StoreTotals.{StoreTotals}
use Rattle.store_words.proofs.SoundLaws.{sound_more}
use Rattle.path_faults.specs.declared.FaultNo.{FaultNo}
use Rattle.exhaust_undetected.specs.Undetected.{held_number, not_held_from, undetected, listed, ListWritten}
use Rattle.exhaust_undetected.specs.Searches.{FirstNotHeld, FirstFault, rest_from}
use Rattle.exhaust_undetected.proofs.FirstLaws.{held_by}
use Rattle.exhaust_undetected.proofs.NotHeldLaws.{skip_held, take-free, none_free, first-free, begins}
use Rattle.std.specs.Prelude.{Result, Ok, Err}
use Rattle.model.specs.declared.Refusal.{Refusal}

-- The next one
module _ (ws : List ℕ) (paths from : ℕ) (a : Result FaultNo Refusal) (x : FirstFault a ws from) (few : paths ≤ 2 ^ 62) where
  none_in : ((k : ℕ) → from ≤ k → k ≤ 2 * paths → held_number ws k ≡ true) → 0 ≡ get_or (rest_from ws paths from) 0 0
  none_in h = sym (ap (λ (l : List ℕ). get_or l 0 0) (none_free ws (2 * paths + 1 - from) from (λ k i j. h k i (omega arith))))

  pub next-none : (w : _) → a ≡ Err w → 0 ≡ get_or (rest_from ws paths from) 0 0
  next-none w e =
      let y : FirstFault (Err w) ws from = subst (λ (b : Result FaultNo Refusal). FirstFault b ws from) e x in
      none_in (λ k i j. y k i (omega arith))

  module _ (f : FaultNo) (e : a ≡ Ok f) where
    first : FirstNotHeld f.0 ws from
    first = subst (λ (b : Result FaultNo Refusal). FirstFault b ws from) e x

    pub next_past : (p : ℕ) → p ≡ path_of_fault f.0 → paths < p → 0 ≡ get_or (rest_from ws paths from) 0 0
    next_past p is l = none_in (λ k i j. first.passed k i (omega arith))

    pub next_here : (p : ℕ) → p ≡ path_of_fault f.0 → p ≤ paths → f.0 ≡ get_or (rest_from ws paths from) 0 0
    next_here p is l =
        sym (ap (λ (l : List ℕ). get_or l 0 0) (first-free ws (2 * paths + 1 - from) from f.0 first (omega (arith, first.not_before))))

pub ruleset next-cases = (next-none, next_past, next_here, rules)

take_none : (n : ℕ) → take {A = ℕ} n [] ≡ []
take_none zero = refl
take_none (suc n) = refl

-- at most 20 are listed
pub listed-few : (ws : List ℕ) (paths : ℕ) → length (listed ws paths) ≤ 20
unfolding listed
listed-few ws paths =
    let l : List ℕ = undetected ws paths in
    cases 20 (length l) (λ h. omega (arith, length-take-le 20 l h)) (λ h. omega (arith, ap length (take_all 20 l (omega arith))))

-- The loop: with what is left to list, the words and the number are the whole's
pub record Listing (ws : List ℕ) (paths : ℕ) (found now : List ℕ) (from count left : ℕ) : Type 0 where
  pub low : 1 ≤ from
  pub places : count + left ≡ 20
  pub long : length now ≡ length found
  pub written : sets now count (take left (rest_from ws paths from)) ≡ sets found 0 (listed ws paths)
  pub counted : count + length (take left (rest_from ws paths from)) ≡ length (listed ws paths)

module _ (ws : List ℕ) (paths : ℕ) (found : List ℕ) where
  pub list-begins : Listing ws paths found found 1 0 20
  unfolding listed undetected
  list-begins =
      let n : 2 * paths + 1 - 1 ≡ 2 * paths = omega arith in
      let e : take 20 (rest_from ws paths 1) ≡ listed ws paths = ap (λ (k : ℕ). take 20 (not_held_from ws 1 k)) n in
      record {
        low = omega arith;
        places = refl;
        long = refl;
        written = ap (sets found 0) e;
        counted = omega (arith, ap length e);
      }

  module _ (now : List ℕ) (from count left : ℕ) (x : Listing ws paths found now from count left) where
    -- nothing more
    pub list-ends : take left (rest_from ws paths from) ≡ [] → ListWritten count found now ws paths
    list-ends e =
        let n : length (take left (rest_from ws paths from)) ≡ 0 = ap length e in
        record { many = omega (arith, x.counted); words = ap (sets now count) (sym e) ∙ x.written }

    pub list_full : left ≤ 0 → ListWritten 20 found now ws paths
    list_full h =
        let z : left ≡ 0 = omega arith in
        let all : count ≡ 20 = omega (arith, x.places) in
        subst (λ (k : ℕ). ListWritten k found now ws paths) all (list-ends (ap (λ (k : ℕ). take k (rest_from ws paths from)) z))

    module _ (number : ℕ) (is : number ≡ get_or (rest_from ws paths from) 0 0) where
      pub list-none : number ≡ 0 → ListWritten count found now ws paths
      list-none z = by-cut (rest_from ws paths from) refl
        where
          by-cut : (l : List ℕ) → rest_from ws paths from ≡ l → ListWritten count found now ws paths
          by-cut [] e = list-ends (ap (take left) e ∙ take_none left)
          by-cut (y ∷ ys) e =
              let b = begins ws (2 * paths + 1 - from) from y ys e in
              let n : number ≡ y = is ∙ ap (λ (l : List ℕ). get_or l 0 0) e in
              absurd (omega (arith, b.not_before, x.low))

      -- one more
      module _ (some : number ≡ 0 → ⊥) where
        record Cut : Type 0 where
          most : number ≤ 2 * paths
          list : rest_from ws paths from ≡ number ∷ rest_from ws paths (number + 1)

        cut : Cut
        cut = by-cut (rest_from ws paths from) refl
          where
            by-cut : (l : List ℕ) → rest_from ws paths from ≡ l → Cut
            by-cut [] e = absurd (some (is ∙ ap (λ (l : List ℕ). get_or l 0 0) e))
            by-cut (y ∷ ys) e =
                let b = begins ws (2 * paths + 1 - from) from y ys e in
                let n : y ≡ number = sym (is ∙ ap (λ (l : List ℕ). get_or l 0 0) e) in
                let k : from + (2 * paths + 1 - from) - suc y ≡ 2 * paths + 1 - (y + 1) = omega (arith, b.not_before, b.inside) in
                let rest : ys ≡ rest_from ws paths (y + 1) =
                b.others ∙ ap (not_held_from ws (suc y)) k ∙ ap (λ (j : ℕ). not_held_from ws j (2 * paths + 1 - (y + 1))) (sym (add-one y)) in
                record {
                  most = omega (arith, b.inside, b.not_before);
                  list = e ∙ ap (λ (l : List ℕ). y ∷ l) rest ∙ ap (λ (j : ℕ). j ∷ rest_from ws paths (j + 1)) n;
                }

        pub list-fits : paths ≤ 2 ^ 62 → Fits w64 (number + 1)
        list-fits h = omega (arith, cut.most)

        pub list-next : 0 < left → Listing ws paths found (set now count number) (number + 1) (count + 1) (left - 1)
        list-next h =
            let m : left ≡ suc (left - 1) = omega arith in
            let more : List ℕ = take (left - 1) (rest_from ws paths (number + 1)) in
            let t : take left (rest_from ws paths from) ≡ number ∷ more =
            ap (λ (k : ℕ). take k (rest_from ws paths from)) m ∙ ap (take (suc (left - 1))) cut.list in
            record {
              low = omega arith;
              places = omega (arith, x.places);
              long = length-set now count number ∙ x.long;
              written = ap (λ (k : ℕ). sets (set now count number) k more) (add-one count) ∙ ap (sets now count) (sym t) ∙ x.written;
              counted = omega (arith, x.counted, ap length t);
            }

pub ruleset List-cases = (list-begins, list_full, list-none, list-fits, list-next, rules)

-- Their number, edge by edge
module _ (ws : List ℕ) where
  abbrev up : ℕ → Bool
  up = in_runs (store_runs ws rising)

  abbrev down : ℕ → Bool
  down = in_runs (store_runs ws falling)

  rising-at : (k : ℕ) (b : Bool) → up (suc k) ≡ b → held_number ws (suc (2 * k)) ≡ b
  rising-at k b q =
      let p : suc k ≡ path_of_fault (suc (2 * k)) = omega arith in
      held_by ws (suc (2 * k)) b (λ o. ap up (sym p) ∙ q) (λ o. absurd (omega arith))

  falling-at : (k : ℕ) (b : Bool) → down (suc k) ≡ b → held_number ws (suc (suc (2 * k))) ≡ b
  falling-at k b q =
      let p : suc k ≡ path_of_fault (suc (suc (2 * k))) = omega arith in
      held_by ws (suc (suc (2 * k))) b (λ o. absurd (omega arith)) (λ o. ap down (sym p) ∙ q)

  -- one fault more
  one_more : (P : ℕ → Bool) (f k n m : ℕ) → ((b : Bool) → P k ≡ b → held_number ws f ≡ b)
      → length (not_held_from ws f (suc n)) + how_many_from P k (suc m) ≡ suc (length (not_held_from ws (suc f) n) + how_many_from P (suc k) m)
  one_more P f k n m same =
      ⊎_elim
      (λ (q : P k ≡ true). rw (skip_held ws f n (same true q), many-true P k m q) (omega arith))
      (λ (q : P k ≡ false). rw (take-free ws f n (same false q), many-false P k m q) (omega arith))
      (bool_cases (P k))

  all-counted : (n k : ℕ) → length (not_held_from ws (suc (2 * k)) (2 * n)) + how_many_from up (suc k) n + how_many_from down (suc k) n ≡ 2 * n
  unfolding not_held_from how_many_from
  all-counted zero k = refl
  all-counted (suc n) k =
      let two : 2 * suc n ≡ suc (suc (2 * n)) = omega arith in
      let next : suc (suc (suc (2 * k))) ≡ suc (2 * suc k) = omega arith in
      let ih = all-counted n (suc k) in
      let a = one_more up (suc (2 * k)) (suc k) (suc (2 * n)) n (rising-at k) in
      let b = one_more down (suc (suc (2 * k))) (suc k) (2 * n) n (falling-at k) in
      let c : length (not_held_from ws (suc (suc (suc (2 * k)))) (2 * n)) ≡ length (not_held_from ws (suc (2 * suc k)) (2 * n)) =
      ap (λ (f : ℕ). length (not_held_from ws f (2 * n))) next in
      let d : length (not_held_from ws (suc (2 * k)) (2 * suc n)) ≡ length (not_held_from ws (suc (2 * k)) (suc (suc (2 * n)))) =
      ap (λ (m : ℕ). length (not_held_from ws (suc (2 * k)) m)) two in
      omega arith

module _ (ws : List ℕ) (paths : ℕ) (s : SoundWords paths ws) where
  size-many : (rs : List Run) → Sound paths rs → how_many (in_runs rs) paths ≡ size rs
  size-many rs p = sym (runs-size (in_runs rs) paths) ∙ ap size (runs-of_runs paths rs p)

  pub not_held-many : length (undetected ws paths) + size (store_runs ws rising) + size (store_runs ws falling) ≡ 2 * paths
  unfolding undetected how_many
  not_held-many =
      let u = size-many (store_runs ws rising) s.sound_rising in
      let d = size-many (store_runs ws falling) s.sound_falling in
      omega (arith, all-counted ws paths 0)

  pub count-sound : paths ≤ 2 ^ 62 → SoundWords (2 ^ 62) ws
  count-sound h = sound_more paths (2 ^ 62) ws h s

  module _ (t : StoreTotals) (is : totals_in t ≡ totals_both ws) where
    of_rising : t.rising ≡ size (store_runs ws rising)
    of_rising = ap (λ (b : ByEdge ℕ). b.on_rising) is

    of_falling : t.falling ≡ size (store_runs ws falling)
    of_falling = ap (λ (b : ByEdge ℕ). b.on_falling) is

    pub count-rising : t.rising ≤ paths
    count-rising = omega (arith, of_rising, size-le 1 paths (store_runs ws rising) s.sound_rising)

    pub count-falling : t.falling ≤ paths
    count-falling = omega (arith, of_falling, size-le 1 paths (store_runs ws falling) s.sound_falling)

    pub count-both : (paths - t.rising) + (paths - t.falling) ≡ length (undetected ws paths)
    count-both = omega (arith, not_held-many, count-rising, count-falling, of_rising, of_falling)

pub ruleset count-cases = (count-sound, count-rising, count-falling, count-both, rules)
