-- Every row of the tables of small examples (model/specs/Examples) holds, computed from the definitions.
use Rattle.model.proofs.Prelude.{ℕ, ◌<◌, ◌≡◌, Bool, List, [], length, get_or, T}
use Rattle.model.specs.Base.{refused, all_of}
use Rattle.model.specs.Netlist.{counts, output_count, path_total}
use Rattle.model.specs.Path.{path_of, path_at, split, fault_number}
use Rattle.model.specs.Detect.{in_net_set, detects, all_open, has_edge, open_pin, evaluate, detects_number}
use Rattle.model.specs.Runs.{runs_among, runs_from, add_number, working_runs, in_runs, size, how_many, how_many_from, separated_runs_of}
use Rattle.model.specs.Read.{read_netlist, read_gates, read_outputs_of, test_of}
use Rattle.model.specs.Store.{store_runs, store_of}
use Rattle.model.specs.Calls.{test_call, test_stage, test_store, tested}
use Rattle.model.specs.Report.{report_head, report_record, writer_call, test_all, audit_call}
use Rattle.model.specs.Demand3.{after_calls}
use Rattle.model.specs.Encode.{header_bytes, net_bytes, gate_bytes, output_bytes, test_bytes}
use Rattle.model.specs.SinglePin.{read_gates_by, read_netlist_by}
use Rattle.model.specs.Examples.{Row, row, further, requested, robust_rows, unchanged_rows, counted_rows, runs_of_three, reply, fault_if, fault_list, enough_work, first_runs, net_counts, Q}
use Rattle.model.specs.Examples.{detects_none, detects_falling, detects_rising, chain, spread, a_rises, report_of_three, outputs_bytes, one_gate, beside_one_pin, b_rises, with_outputs, halves, twice}
use Rattle.model.specs.Examples.{a_falls, hazard, rise_and_fall, carry, carry_test, call_in, steady_of, equal_pair, too_many_runs, two_bytes}
use Rattle.model.proofs.ListLaws.{all_of_at}
use Rattle.model.proofs.SameAnswers.{same, same_answer}

unfoldable pub right : Row → Bool
right r = same (reply r.netlist r.question) r.answer

all_right : T (all_of right further)
unfolding further right same row Q detects_none detects_falling detects_rising report_of_three enough_work first_runs reply fault_list fault_if
    read_netlist read_gates read_outputs_of counts output_count path_total path_of path_at split detects_number detects all_open has_edge open_pin evaluate fault_number
    test_of working_runs in_net_set runs_among runs_from add_number test_call test_stage tested store_runs separated_runs_of in_runs how_many how_many_from
    audit_call test_all store_of report_record report_head size
all_right = tt

all-robust : T (all_of right robust_rows)
unfolding robust_rows twice a_falls hazard rise_and_fall carry carry_test call_in steady_of after_calls test_store right same row a_rises spread Q detects_none
    detects_falling detects_rising report_of_three enough_work first_runs output_bytes header_bytes chain gate_bytes net_bytes test_bytes reply fault_list fault_if
    read_netlist read_gates read_outputs_of counts output_count path_total path_of path_at split detects_number detects all_open has_edge open_pin evaluate fault_number
    test_of working_runs in_net_set runs_among runs_from add_number test_call test_stage tested store_runs separated_runs_of in_runs how_many how_many_from
    audit_call test_all store_of report_record report_head size
all-robust = tt

all-counted : T (all_of right counted_rows)
unfolding counted_rows runs_of_three right same row Q a_rises spread chain detects_rising report_of_three enough_work first_runs output_bytes header_bytes gate_bytes
    net_bytes test_bytes reply read_netlist read_gates read_outputs_of counts output_count path_total path_of path_at split detects_number detects all_open has_edge open_pin evaluate
    test_of working_runs in_net_set runs_among runs_from add_number test_call test_stage tested store_runs separated_runs_of in_runs how_many how_many_from writer_call store_of
    report_record report_head size
all-counted = tt

all-requested : T (all_of right requested)
unfolding requested right same row Q one_gate beside_one_pin b_rises with_outputs halves chain detects_rising outputs_bytes output_bytes header_bytes gate_bytes net_bytes test_bytes reply fault_list fault_if
    read_netlist read_netlist_by read_gates read_gates_by read_outputs_of counts output_count path_total path_of path_at split detects_number detects all_open has_edge
    open_pin evaluate fault_number test_of
all-requested = tt

all-unchanged : T (all_of right unchanged_rows)
unfolding unchanged_rows equal_pair too_many_runs two_bytes right same row Q detects_none detects_falling detects_rising report_of_three enough_work first_runs
    output_bytes header_bytes gate_bytes net_bytes test_bytes reply read_netlist read_gates read_outputs_of counts output_count path_total path_of path_at split
    detects_number detects all_open has_edge open_pin evaluate test_of working_runs in_net_set runs_among runs_from add_number test_call test_stage tested store_runs
    separated_runs_of in_runs how_many how_many_from audit_call test_all store_of report_record report_head size
all-unchanged = tt

abbrev pub no_row : Row
no_row = record { netlist = []; question = net_counts; answer = refused 10 }

-- Every row of a table of right rows holds
pub rows-hold : (table : List Row) → T (all_of right table)
    → (i : ℕ) → i < length table → reply (get_or table i no_row).netlist (get_or table i no_row).question ≡ (get_or table i no_row).answer
unfolding right
rows-hold table t i h = same_answer _ _ (all_of_at right table no_row t i h)

pub further-hold : (i : ℕ) → i < length further → reply (get_or further i no_row).netlist (get_or further i no_row).question ≡ (get_or further i no_row).answer
further-hold = rows-hold further all_right

-- The tickets' small examples hold
pub requested-hold : (i : ℕ) → i < length requested → reply (get_or requested i no_row).netlist (get_or requested i no_row).question ≡ (get_or requested i no_row).answer
requested-hold = rows-hold requested all-requested

-- The examples of robust tests hold
pub robust_hold : (i : ℕ) → i < length robust_rows → reply (get_or robust_rows i no_row).netlist (get_or robust_rows i no_row).question ≡ (get_or robust_rows i no_row).answer
robust_hold = rows-hold robust_rows all-robust

-- The examples of pairs that change nothing hold
pub unchanged_hold : (i : ℕ) → i < length unchanged_rows
    → reply (get_or unchanged_rows i no_row).netlist (get_or unchanged_rows i no_row).question ≡ (get_or unchanged_rows i no_row).answer
unchanged_hold = rows-hold unchanged_rows all-unchanged

-- The examples of the tests taken hold
pub counted-hold : (i : ℕ) → i < length counted_rows
    → reply (get_or counted_rows i no_row).netlist (get_or counted_rows i no_row).question ≡ (get_or counted_rows i no_row).answer
counted-hold = rows-hold counted_rows all-counted
