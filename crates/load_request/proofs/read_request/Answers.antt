-- `load_request::read_request` meets its contract: another length, or the three fields.
use Rattle.load_request.proofs.RequestCases.{request-cases}
use Rattle.load_request.proofs.read_request.Goals as goal

pub returns-then-bytes-ne-REQUEST_BYTES : goal.returns-then-bytes-ne-REQUEST_BYTES
returns-then-bytes-ne-REQUEST_BYTES c = search request-cases

pub returns : goal.returns
returns c = search request-cases
