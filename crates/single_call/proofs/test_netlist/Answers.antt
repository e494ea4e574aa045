-- `single_call::test_netlist` meets its contract: the netlist, the class and the places Test and Store refuse in this order; then the stage is the call.
use Rattle.model.proofs.Prelude.{rules}
use Rattle.model.proofs.AnswerLaws.{exit}
use Rattle.netlist.proofs.LoadCases.{zeros-are}
use Rattle.single_call.proofs.CallLaws.{call-checks, call-legal, no-netlist, call-refused, call-true}
use Rattle.single_call.proofs.test_netlist.Goals as goal

pub load-requires : goal.load-requires
load-requires c = search (zeros-are, rules)

pub check_call-requires : goal.check_call-requires
check_call-requires c =
    let legal = c.in_ok-legal.was in
    let loaded = c.load in
    let args = c.args in
    call-checks args.netlist.now args.class args.test.now args.store.now args.work.now c.requires.0 c.requires.1
    loaded.new.counts loaded.new.positions loaded.result loaded.ensures legal

pub count_new-requires : goal.count_new-requires
count_new-requires c =
    let passed = c.in_ok-check_call.was in
    let checked = c.check_call in
    let legal = c.in_ok-legal.was in
    let loaded = c.load in
    let args = c.args in
    call-legal args.netlist.now args.class args.test.now args.store.now args.work.now c.requires.0 c.requires.1
    loaded.new.counts loaded.new.positions loaded.result loaded.ensures legal checked.result checked.ensures passed

pub returns-in_err-legal : goal.returns-in_err-legal
returns-in_err-legal c =
    let loaded = c.load in
    let args = c.args in
    rw (exit _ _ c.from_residual.ensures.1) (no-netlist args.netlist.now args.class args.test.now args.store.now args.work.now c.requires.0 c.requires.1
    loaded.new.counts loaded.new.positions loaded.result loaded.ensures c.in_err-legal.was)

pub returns-in_err-check_call : goal.returns-in_err-check_call
returns-in_err-check_call c =
    let checked = c.check_call in
    let legal = c.in_ok-legal.was in
    let loaded = c.load in
    let args = c.args in
    rw (exit _ _ c.from_residual-in_err-check_call.ensures.1) (call-refused args.netlist.now args.class args.test.now args.store.now args.work.now c.requires.0 c.requires.1
    loaded.new.counts loaded.new.positions loaded.result loaded.ensures legal checked.result checked.ensures c.in_err-check_call.was)

pub returns : goal.returns
returns c =
    let counted = c.count_new.ensures in
    let passed = c.in_ok-check_call.was in
    let checked = c.check_call in
    let legal = c.in_ok-legal.was in
    let loaded = c.load in
    let args = c.args in
    call-true args.netlist.now args.class args.test.now args.store.now args.work.now c.requires.0 c.requires.1
    loaded.new.counts loaded.new.positions loaded.result loaded.ensures legal checked.result checked.ensures passed counted
