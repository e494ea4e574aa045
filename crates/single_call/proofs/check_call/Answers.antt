-- `single_call::check_call` meets its contract: the class, then the places Test and Store.
use Rattle.model.proofs.Prelude.{ap, not}
use Rattle.single_call.proofs.CallLaws.{class-unknown, class-known}
use Rattle.single_call.proofs.check_call.Goals as goal

pub returns-then-not-known_class : goal.returns-then-not-known_class
returns-then-not-known_class c =
    let args = c.args in
    class-unknown args.class args.inputs args.paths args.test.now args.store.now _ c.known_class.ensures
    (ap not c.if-not-known_class.true)

pub returns : goal.returns
returns c =
    let args = c.args in
    class-known args.class args.inputs args.paths args.test.now args.store.now _ c.known_class.ensures
    (ap not c.if-not-known_class.false) c.check_places.result c.check_places.ensures
