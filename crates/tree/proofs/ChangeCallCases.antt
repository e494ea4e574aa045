-- Cases of `tree_insert` and `tree_delete`: a refusal leaves the words; else the runs held are those of the call.
use Rattle.model.proofs.Prelude.{ℕ, ◌≤◌, ◌<◌, ◌+◌, ◌-◌, ◌≡◌, ◌∙◌, ap, refl, sym, true, Bool, false, not, List, [], ◌∷◌, length, get_or, drop}
use Rattle.model.proofs.Prelude.{length-drop, get_or-drop, ext_get_or, leb, arith, not-true, not-false, leb-true}
use Rattle.model.specs.Base.{Answer, refused, value, ◌then◌, Rule, checks, passes}
use Rattle.model.specs.Refusals.{refusal_number_of}
use Rattle.model.specs.Runs.{Run}
use Rattle.model.specs.declared.Refusal.{Refusal}
use Rattle.model.specs.declared.Refusal.TheVariants as why
use Rattle.model.proofs.AnswerLaws.{not_refused, value_inj}
use Rattle.tree_words.specs.TreeLayout.{tree_runs, sound_words_of}
use Rattle.tree_words.specs.Calls.{run_of, run_legal_of, run_rule, length_rule, words_rule, insert_call, delete_call, runs_with, runs_without, stored}
use Rattle.tree_change.specs.Changing.{Inserts, Deletes, Rebuilt}
use Rattle.tree.specs.Answers.{ChangedTrue}
use Rattle.tree.proofs.TreeCallCases.{then-short, then-bad, then-pass}
use Rattle.tree.proofs.SearchCases.{legal-low, legal-both, legal-high}
use Rattle.std.specs.Prelude.{Ok, Err}

-- ---- what a call leaves

pub past_words : (ws ws' : List ℕ) → length ws' ≡ length ws → ((i : ℕ) → 32768 ≤ i → get_or ws' i 0 ≡ get_or ws i 0) → drop 32768 ws' ≡ drop 32768 ws
past_words ws ws' e h =
    ext_get_or 0 (drop 32768 ws') (drop 32768 ws) (length-drop 32768 ws' ∙ ap (λ (n : ℕ). n - 32768) e ∙ sym (length-drop 32768 ws))
    (λ i q. get_or-drop 32768 ws' i 0 ∙ h (32768 + i) (omega arith) ∙ sym (get_or-drop 32768 ws i 0))

module _ (call : Answer (List Run)) (ws : List ℕ) where
  change_refused : (w : Refusal) → call ≡ refused (refusal_number_of w) → ChangedTrue call (Err w) ws ws
  change_refused w e = record {
    answer = sym (ap passes e);
    holding = record {
      same_length_of = refl;
      past = refl;
      sound = λ rs f. absurd (not_refused (sym e ∙ f));
      held = λ rs f. absurd (not_refused (sym e ∙ f));
      refusal = λ n f. refl;
    };
  }

  change_taken : (rs : List Run) (ws' : List ℕ) → call ≡ value rs → Rebuilt ws ws' rs → ChangedTrue call (Ok tt) ws ws'
  change_taken rs ws' e b = record {
    answer = sym (ap passes e);
    holding = record {
      same_length_of = b.sized;
      past = past_words ws ws' b.sized b.past;
      sound = λ qs f. b.sound;
      held = λ qs f. b.runs ∙ value_inj (sym e ∙ f);
      refusal = λ n f. absurd (not_refused (sym f ∙ e));
    };
  }

-- ---- the rules before the last, and the last

module _ (ws : List ℕ) (low high last : ℕ) (test : Bool) (rs : List Run) where
  abbrev rules : List Rule
  rules = run_rule (run_of low high) ∷ (last, test) ∷ []

  abbrev whole : Answer (List Run)
  whole = checks (length_rule ws ∷ words_rule ws ∷ rules) then value rs

  whole-short : length ws < 32768 → whole ≡ refused 87
  whole-short q = sym (then-short ws rules (value rs) q)

  module _ (p : 32768 ≤ length ws) (t : Bool) (e : t ≡ sound_words_of ws) where
    whole-bad : not t ≡ true → whole ≡ refused 88
    whole-bad q = sym (then-bad ws rules (value rs) p (sym e ∙ not-true t q))

    module _ (q : not t ≡ false) (u : Bool) (eu : u ≡ run_legal_of (run_of low high)) where
      passed : whole ≡ (checks rules then value rs)
      passed = then-pass ws rules (value rs) p (sym e ∙ not-false t q)

      whole-range : not u ≡ true → whole ≡ refused 41
      whole-range n = let w = sym eu ∙ not-true u n in passed ∙ rw w refl

      whole-last : not u ≡ false → test ≡ false → whole ≡ refused last
      whole-last n f = let w = sym eu ∙ not-false u n in passed ∙ rw (w, f) refl

      whole-taken : not u ≡ false → test ≡ true → whole ≡ value rs
      whole-taken n f = let w = sym eu ∙ not-false u n in passed ∙ rw (w, f) refl

-- ---- insert

module _ (ws : List ℕ) (low high : ℕ) where
  abbrev with : List Run
  with = runs_with (tree_runs ws) (run_of low high)

  abbrev fits : Bool
  fits = leb (length with) 1024

  insert_is : insert_call ws (run_of low high) ≡ whole ws low high 51 fits with
  unfolding insert_call
  insert_is = refl

  pub insert_short : length ws < 32768 → ChangedTrue (insert_call ws (run_of low high)) (Err why.TreeLength) ws ws
  insert_short q = change_refused (insert_call ws (run_of low high)) ws why.TreeLength (insert_is ∙ whole-short ws low high 51 fits with q)

  module _ (p : 32768 ≤ length ws) (t : Bool) (e : t ≡ sound_words_of ws) where
    pub insert_bad : not t ≡ true → ChangedTrue (insert_call ws (run_of low high)) (Err why.TreeWords) ws ws
    insert_bad q = change_refused (insert_call ws (run_of low high)) ws why.TreeWords (insert_is ∙ whole-bad ws low high 51 fits with p t e q)

    module _ (q : not t ≡ false) (u : Bool) (eu : u ≡ run_legal_of (run_of low high)) where
      pub insert_range : not u ≡ true → ChangedTrue (insert_call ws (run_of low high)) (Err why.RunRange) ws ws
      insert_range n = change_refused (insert_call ws (run_of low high)) ws why.RunRange (insert_is ∙ whole-range ws low high 51 fits with p t e q u eu n)

      module _ (n : not u ≡ false) (f : Bool) (ef : f ≡ not (leb (length (runs_with (tree_runs ws) (run_of low high))) 1024)) where
        pub insert_full : f ≡ true → ChangedTrue (insert_call ws (run_of low high)) (Err why.StoreRuns) ws ws
        insert_full y =
            change_refused (insert_call ws (run_of low high)) ws why.StoreRuns
            (insert_is ∙ whole-last ws low high 51 fits with p t e q u eu n (not-true fits (sym ef ∙ y)))

        pub insert_inserts : f ≡ false → Inserts ws low high
        insert_inserts y = record {
          tree = record { long = p; sound = sym e ∙ not-false t q };
          least = legal-low low high u eu n;
          order = legal-both low high u eu n;
          most = legal-high low high u eu n;
          few = leb-true (length with) 1024 (not-false fits (sym ef ∙ y));
        }

        pub insert_taken : f ≡ false → (ws' : List ℕ) → Rebuilt ws ws' (runs_with (tree_runs ws) (run_of low high))
            → ChangedTrue (insert_call ws (run_of low high)) (Ok tt) ws ws'
        insert_taken y ws' b =
            change_taken (insert_call ws (run_of low high)) ws with ws'
            (insert_is ∙ whole-taken ws low high 51 fits with p t e q u eu n (not-false fits (sym ef ∙ y))) b

-- ---- delete

module _ (ws : List ℕ) (low high : ℕ) where
  abbrev without : List Run
  without = runs_without (tree_runs ws) (run_of low high)

  abbrev there : Bool
  there = stored (tree_runs ws) (run_of low high)

  delete_is : delete_call ws (run_of low high) ≡ whole ws low high 60 there without
  unfolding delete_call
  delete_is = refl

  pub delete_short : length ws < 32768 → ChangedTrue (delete_call ws (run_of low high)) (Err why.TreeLength) ws ws
  delete_short q = change_refused (delete_call ws (run_of low high)) ws why.TreeLength (delete_is ∙ whole-short ws low high 60 there without q)

  module _ (p : 32768 ≤ length ws) (t : Bool) (e : t ≡ sound_words_of ws) where
    pub delete_bad : not t ≡ true → ChangedTrue (delete_call ws (run_of low high)) (Err why.TreeWords) ws ws
    delete_bad q = change_refused (delete_call ws (run_of low high)) ws why.TreeWords (delete_is ∙ whole-bad ws low high 60 there without p t e q)

    module _ (q : not t ≡ false) (u : Bool) (eu : u ≡ run_legal_of (run_of low high)) where
      pub delete_range : not u ≡ true → ChangedTrue (delete_call ws (run_of low high)) (Err why.RunRange) ws ws
      delete_range n = change_refused (delete_call ws (run_of low high)) ws why.RunRange (delete_is ∙ whole-range ws low high 60 there without p t e q u eu n)

      module _ (n : not u ≡ false) (f : Bool) (ef : f ≡ stored (tree_runs ws) (run_of low high)) where
        pub delete_absent : not f ≡ true → ChangedTrue (delete_call ws (run_of low high)) (Err why.NoSuchNumber) ws ws
        delete_absent y =
            change_refused (delete_call ws (run_of low high)) ws why.NoSuchNumber
            (delete_is ∙ whole-last ws low high 60 there without p t e q u eu n (sym ef ∙ not-true f y))

        pub delete_deletes : not f ≡ false → Deletes ws low high
        delete_deletes y = record { tree = record { long = p; sound = sym e ∙ not-false t q }; held = sym ef ∙ not-false f y }

        pub delete_taken : not f ≡ false → (ws' : List ℕ) → Rebuilt ws ws' (runs_without (tree_runs ws) (run_of low high))
            → ChangedTrue (delete_call ws (run_of low high)) (Ok tt) ws ws'
        delete_taken y ws' b =
            change_taken (delete_call ws (run_of low high)) ws without ws'
            (delete_is ∙ whole-taken ws low high 60 there without p t e q u eu n (sym ef ∙ not-false f y)) b
