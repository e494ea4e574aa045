-- A tree filled with the runs of a store's edge holds exactly these runs: its leaves are the store's runs.
use Rattle.model.proofs.Prelude.{ℕ, ◌≤◌, ◌^◌, ◌≡◌, ◌∙◌, ap, refl, sym, subst, ⊎_elim, inl, inr, true, ◌||◌, List, [], ◌∷◌, ◌++◌, append_assoc}
use Rattle.model.proofs.Prelude.{append-nil, length, drop, length-append, length-drop, leb, T, leb→le, le→leb, arith, le-leb}
use Rattle.model.specs.Base.{value}
use Rattle.model.specs.Path.{Edge}
use Rattle.model.specs.Runs.{Run, separated_runs_of, in_run, in_runs}
use Rattle.model.specs.Store.{max_runs, store_runs}
use Rattle.model.proofs.BoolLaws.{and_left, and_right, both, or_cases, or_left, or_right}
use Rattle.model.proofs.RunLaws.{In, in→, →in, runs_by, separated→, in_left, in_right, in_append}
use Rattle.run_lists.proofs.MemberLaws.{sound-mono}
use Rattle.run_lists.proofs.RunCutLaws.{sound-left}
use Rattle.tree_words.specs.TreeLayout.{tree_words_count, tree_runs, sound_words_of}
use Rattle.tree_words.specs.Calls.{run_legal_of, runs_with, insert_call, emptied_tree}
use Rattle.tree_words.specs.Nodes.{Sep}
use Rattle.tree_words.proofs.SepLaws.{sep-right}
use Rattle.tree_check.proofs.HeadCases.{words-empty, runs_none}
use Rattle.tree.specs.Filling.{Filled, all_in, one_more}
use Rattle.tree.proofs.TreeCallCases.{empty-taken}

-- ---- one more run behind those held

pub next-run : (qs : List Run) (r : Run) → Sep (qs ++ (r ∷ [])) → runs_with qs r ≡ qs ++ (r ∷ [])
unfolding runs_with
next-run qs r s = sym (runs_by (λ k. in_run r k || in_runs qs k) (2 ^ 62) (qs ++ (r ∷ [])) s to from)
  where
    one : (j : ℕ) → In (r ∷ []) j → T (in_run r j)
    one j (inl x) = both (leb r.low j) (leb j r.high) (le→leb r.low j x.0) (le→leb j r.high x.1)
    one j (inr x) = absurd x

    to : (j : ℕ) → In (qs ++ (r ∷ [])) j → T (in_run r j || in_runs qs j)
    to j t =
        ⊎_elim
        (λ u. or_right (in_run r j) (in_runs qs j) (→in qs j u))
        (λ u. or_left (in_run r j) (in_runs qs j) (one j u))
        (in_append qs (r ∷ []) j t)

    from : (j : ℕ) → 1 ≤ j → j ≤ 2 ^ 62 → T (in_run r j || in_runs qs j) → In (qs ++ (r ∷ [])) j
    from j p q t =
        ⊎_elim
        (λ (u : T (in_run r j)).
        in_right qs (r ∷ []) j (inl (leb→le r.low j (and_left (leb r.low j) (leb j r.high) u), leb→le j r.high (and_right (leb r.low j) (leb j r.high) u))))
        (λ (u : T (in_runs qs j)). in_left qs (r ∷ []) j (in→ qs j u))
        (or_cases (in_run r j) (in_runs qs j) t)

legal : (r : Run) → 1 ≤ r.low → r.low ≤ r.high → r.high ≤ 2 ^ 62 → run_legal_of r ≡ true
unfolding run_legal_of
legal r p q s =
    let w1 = le-leb 1 r.low p in
    let w2 = le-leb r.low r.high q in
    let w3 = le-leb r.high (2 ^ 62) s in
    rw (w1, w2, w3) refl

passes-rules : (ws : List ℕ) (r : Run) → 32768 ≤ length ws → sound_words_of ws ≡ true → run_legal_of r ≡ true → length (runs_with (tree_runs ws) r) ≤ 1024
    → insert_call ws r ≡ value (runs_with (tree_runs ws) r)
unfolding insert_call
passes-rules ws r p s l n =
    let w1 = le-leb 32768 (length ws) p in
    let w2 = le-leb (length (runs_with (tree_runs ws) r)) 1024 n in
    rw (w1, s, l, w2) refl

-- ---- all of them

pub record Has (ws : List ℕ) (rs : List Run) : Type 0 where
  pub long : 32768 ≤ length ws
  pub sound : sound_words_of ws ≡ true
  pub runs : tree_runs ws ≡ rs

pub filled_on : {ws ws' : List ℕ} {rs : List Run} → Filled ws rs ws' → (qs : List Run) → Has ws qs → Sep (qs ++ rs) → length (qs ++ rs) ≤ 1024 → Has ws' (qs ++ rs)
filled_on all_in qs h s n = record { long = h.long; sound = h.sound; runs = h.runs ∙ sym (append-nil qs) }
filled_on {ws} {ws'} (one_more {ws1 = ws1} {r = r} {rs = rs} step rest) qs h s n =
    let row : (qs ++ (r ∷ [])) ++ rs ≡ qs ++ (r ∷ rs) = append_assoc qs (r ∷ []) rs in
    let sep = subst (λ (l : List Run). Sep l) (sym row) s in
    let here = sep-right (2 ^ 62) 1 qs (r ∷ rs) (omega arith) s in
    let with = ap (λ (l : List Run). runs_with l r) h.runs ∙ next-run qs r (sound-left 1 (2 ^ 62) (qs ++ (r ∷ [])) rs sep) in
    let few = ap length with ∙ length-append qs (r ∷ []) in
    let all = length-append qs (r ∷ rs) in
    let call = passes-rules ws r h.long h.sound (legal r here.0 here.1 here.2) (omega (arith, few, all, n)) in
    let next : Has ws1 (qs ++ (r ∷ [])) =
    record { long = omega (arith, h.long, step.same_length_of); sound = step.sound (runs_with (tree_runs ws) r) call; runs = step.held (runs_with (tree_runs ws) r) call ∙ with } in
    subst (λ (l : List Run). Has ws' l) row (filled_on rest (qs ++ (r ∷ [])) next sep (subst (λ (l : List Run). length l ≤ 1024) (sym row) n))

-- ---- from an emptied tree

pub emptied-is : (ws : List ℕ) → 32768 ≤ length ws → emptied_tree ws ≡ 0 ∷ 0 ∷ 0 ∷ drop 3 ws
unfolding emptied_tree
emptied-is ws p = rw (sym (empty-taken ws p)) refl

pub emptied-holds : (ws : List ℕ) → 32768 ≤ length ws → Has (emptied_tree ws) []
emptied-holds ws p =
    subst (λ (x : List ℕ). Has x []) (sym (emptied-is ws p))
    (record {
      long = omega (arith, p, length-drop 3 ws);
      sound = words-empty (0 ∷ 0 ∷ 0 ∷ drop 3 ws) refl refl refl;
      runs = runs_none (0 ∷ 0 ∷ 0 ∷ drop 3 ws) refl;
    })

-- The runs of a store's edge that passes the store's rules 40 and 41, put one after the other into an emptied tree, are its leaves
pub store-filled : (store : List ℕ) (e : Edge) (paths : ℕ) → paths ≤ 2 ^ 62 → T (separated_runs_of paths 1 (store_runs store e)) → length (store_runs store e) ≤ max_runs
    → (ws ws' : List ℕ) → tree_words_count ≤ length ws → Filled (emptied_tree ws) (store_runs store e) ws' → tree_runs ws' ≡ store_runs store e
store-filled store e paths q s n ws ws' p f =
    (filled_on f [] (emptied-holds ws p) (sound-mono 1 paths (2 ^ 62) (store_runs store e) q (separated→ paths 1 (store_runs store e) s)) n).runs
