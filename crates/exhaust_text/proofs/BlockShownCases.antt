-- What all pairs of a netlist show: where they are not refused, the store is sound for the number of its paths, and its lines are the text; else the
-- line of the refusal is.
use Rattle.model.proofs.Prelude.{ℕ, ◌≤◌, ◌^◌, ◌≡◌, ◌∙◌, ap, refl, sym, subst, ap₂, List, [], arith, rules}
use Rattle.io.specs.Counts.{IsPrefixLen}
use Rattle.model.specs.Base.{Answer, refused, value, ◌into◌}
use Rattle.model.specs.Netlist.{Netlist, path_total}
use Rattle.model.specs.Read.{read_netlist, class_of}
use Rattle.model.specs.Refusals.{refusal_number_of}
use Rattle.model.specs.Store.{ByEdge, empty_store}
use Rattle.model.specs.Calls.{survey_call, before_test}
use Rattle.model.specs.declared.Refusal.{Refusal}
use Rattle.model.proofs.AnswerLaws.{not_refused, steps}
use Rattle.model.proofs.BeforeLaws.{reached→}
use Rattle.model.proofs.ReadLaws.{limits}
use Rattle.model.proofs.RefusalLaws.{refused-inj}
use Rattle.netlist.specs.Answers.{surveyed_of}
use Rattle.netlist.specs.declared.NetlistSurvey.{NetlistSurvey}
use Rattle.netlist.proofs.LoadLaws.{legal-survey, refused-survey}
use Rattle.store_words.specs.Sound.{SoundWords}
use Rattle.store_words.specs.WordAnswers.{totals_both}
use Rattle.exhaust_pairs.specs.Exhaust.{pairs_on, exhaust_call, exhaust_answer, exhaust_after, exhaust_store}
use Rattle.exhaust.specs.Answers.{totals_among, ExhaustTrue}
use Rattle.exhaust.proofs.ReturnedHolds.{exhaust_shows}
use Rattle.exhaust_undetected.specs.Undetected.{listed}
use Rattle.exhaust_undetected.proofs.UndetectedHolds.{totals-known}
use Rattle.text_buffer.specs.Written.{Written}
use Rattle.text_buffer.proofs.WrittenLaws.{written_as, first-bytes, counts-bytes}
use Rattle.listing_lines.specs.ListingLines.{refused_line_of}
use Rattle.exhaust_text.specs.BlockText.{block_lines, zero_work, block_call, paths_of, shown_text, shown_faults, block_text, block_faults, list_of, BlockTrue}
use Rattle.exhaust_text.specs.declared.FaultList.{FaultList}
use Rattle.std.specs.Prelude.{Result, Ok, Err}
use Rattle.store_words.specs.declared.inner.StoreTotals.{StoreTotals}

-- what is known of the call by the totals that it answers, or by the number
call-refused : (n : ℕ) (x : Answer (List ℕ)) → refused n ≡ (x into λ left. value (totals_both left)) → x ≡ refused n
call-refused n (refused k) q = ap refused (sym (refused-inj q))
call-refused n (value left) q = absurd (not_refused q)

call-taken : (t : ByEdge ℕ) (ws ws' : List ℕ) (x : Answer (List ℕ)) → value t ≡ (x into λ left. value (totals_both left)) → ws' ≡ exhaust_after x ws → x ≡ value ws'
call-taken t ws ws' (refused k) q s = absurd (not_refused (sym q))
call-taken t ws ws' (value left) q s = ap value (sym s)

-- the number of a netlist's paths, by its survey
module _ (netlist : List ℕ) (r : Result NetlistSurvey Refusal) (v : surveyed_of r ≡ survey_call netlist) where
  pub paths_refused : (w : Refusal) → r ≡ Err w → 0 ≡ paths_of (read_netlist netlist)
  paths_refused w e = sym (ap paths_of (refused-survey netlist r v w e))

  pub paths_legal : (d : NetlistSurvey) → r ≡ Ok d → d.total ≡ paths_of (read_netlist netlist)
  paths_legal d e = let s = legal-survey netlist r v d e in s.total_is ∙ sym (ap paths_of s.is_read)

pub ruleset paths-cases = (paths_refused, paths_legal, rules)

module _ (netlist : List ℕ) (class : ℕ) (ws ws' found left : List ℕ) (zs : ws ≡ empty_store) (zw : found ≡ zero_work) (a : Result StoreTotals Refusal)
    (t : ExhaustTrue a netlist class ws ws' found left) where
  block-answer : totals_among a ≡ exhaust_answer netlist class empty_store zero_work
  block-answer = t.answer ∙ ap₂ (exhaust_answer netlist class) zs zw

  block-true : (b : Result StoreTotals Refusal) (out out' : List ℕ) (n : ℕ) (fs : FaultList) → a ≡ b → Written out out' 0 (block_text netlist class) n
      → list_of fs ≡ block_faults netlist class → BlockTrue (record { answer = b; length = n; faults = fs }) netlist class out out'
  block-true b out out' n fs e p l = record { put = p; text = first-bytes p; list = l; answer = sym (ap totals_among e) ∙ block-answer }

  module _ (w : Refusal) (e : a ≡ Err w) where
    call-is-refused : block_call netlist class ≡ refused (refusal_number_of w)
    unfolding exhaust_answer
    call-is-refused = call-refused (refusal_number_of w) (block_call netlist class) (sym (ap totals_among e) ∙ block-answer)

    refused-text : refused_line_of (refusal_number_of w) ≡ block_text netlist class
    unfolding block_text
    refused-text = sym (ap (λ (x : Answer (List ℕ)). shown_text x (paths_of (read_netlist netlist))) call-is-refused)

    refused-faults : [] ≡ block_faults netlist class
    unfolding block_faults
    refused-faults = sym (ap (λ (x : Answer (List ℕ)). shown_faults x (paths_of (read_netlist netlist))) call-is-refused)

    pub refused-shown : (out out' : List ℕ) (n : ℕ) (fs : FaultList) → Written out out' 0 (refused_line_of (refusal_number_of w)) n → list_of fs ≡ []
        → BlockTrue (record { answer = Err w; length = n; faults = fs }) netlist class out out'
    refused-shown out out' n fs p none = block-true (Err w) out out' n fs e (written_as refused-text p) (none ∙ refused-faults)

  module _ (t0 : StoreTotals) (e : a ≡ Ok t0) (paths : ℕ) (v : paths ≡ paths_of (read_netlist netlist)) where
    call-is : block_call netlist class ≡ value ws'
    unfolding exhaust_answer exhaust_store
    call-is =
        call-taken _ empty_store ws' (block_call netlist class) (sym (ap totals_among e) ∙ block-answer) (t.store ∙ ap₂ (exhaust_store netlist class) zs zw)

    taken-text : block_lines ws' paths ≡ block_text netlist class
    unfolding block_text
    taken-text = sym (ap₂ shown_text call-is (sym v))

    taken-faults : listed ws' paths ≡ block_faults netlist class
    unfolding block_faults
    taken-faults = sym (ap₂ shown_faults call-is (sym v))

    pub taken-shown : (out out' : List ℕ) (n : ℕ) (fs : FaultList) → Written out out' 0 (block_lines ws' paths) n
        → list_of fs ≡ listed ws' paths → BlockTrue (record { answer = a; length = n; faults = fs }) netlist class out out'
    taken-shown out out' n fs p l = block-true a out out' n fs refl (written_as taken-text p) (l ∙ taken-faults)

    -- the netlist
    record Legal : Type 0 where
      circuit : Netlist
      is_read : read_netlist netlist ≡ value circuit
      total : paths ≡ path_total circuit

    legal : Legal
    unfolding exhaust_call
    legal =
        let s = steps (before_test netlist class empty_store zero_work) (λ N. pairs_on N (class_of class)) call-is in
        let read = (reached→ netlist class empty_store zero_work s.got s.first).is_legal in
        record { circuit = s.got; is_read = read; total = v ∙ ap paths_of read }

    pub taken-sound : SoundWords paths ws'
    taken-sound =
        let shown = (exhaust_shows.returned a netlist class ws ws' found left t).whole legal.circuit legal.is_read t0.rising t0.falling e in
        let known = totals-known netlist legal.circuit legal.is_read ws' (record { on_rising = t0.rising; on_falling = t0.falling }) shown.totals_true in
        subst (λ (n : ℕ). SoundWords n ws') (sym legal.total) known.sound

    pub taken-paths : paths ≤ 2 ^ 62
    taken-paths = omega (arith, legal.total, (limits netlist legal.circuit legal.is_read).total_fits)

-- the text lies in the buffer
pub shown-counts : (out out' text : List ℕ) (n : ℕ) → Written out out' 0 text n → IsPrefixLen n out'
shown-counts out out' text n p = counts-bytes p

pub ruleset shown-cases = (refused-shown, taken-shown, taken-sound, taken-paths, shown-counts, rules)
