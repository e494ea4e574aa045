-- What reading load.bin promises.
use Rattle.load_request.specs.Requests.{Request}
use Rattle.std.specs.Prelude.{Some, None, Option}
use Rattle.load_request.specs.declared.LoadAsked.{LoadAsked}

-- what load.bin asks for
abbrev pub asked_of : Option LoadAsked → Option Request
asked_of (Some a) = Some (record { seed = a.seed; vectors = a.vectors; inputs = a.inputs })
asked_of None = None
