-- `load_request::u32_at` meets its contract: the fields of two bytes, low one first.
use Rattle.load_request.proofs.RequestCases.{request-cases}
use Rattle.load_request.proofs.u32_at.Goals as goal

pub returns : goal.returns
returns c = search request-cases
