-- `record_bytes::inner::begins_with` meets its contract: each return's tests are known.
use Rattle.record_bytes.proofs.Tests.{tests}
use Rattle.record_bytes.proofs.inner.begins_with.Goals as goal

pub returns-then-s-least : goal.returns-then-s-least
returns-then-s-least c = search tests

pub returns-then-s-first : goal.returns-then-s-first
returns-then-s-first c = search tests

pub returns : goal.returns
returns c = search tests
