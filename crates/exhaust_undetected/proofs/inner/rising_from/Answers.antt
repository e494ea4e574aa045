-- `exhaust_undetected::inner::rising_from` meets its contract: the path of a rising fault, the one after it of a falling fault.
use Rattle.exhaust_undetected.proofs.FirstLaws.{first-cases}
use Rattle.exhaust_undetected.proofs.inner.rising_from.Goals as goal

pub returns-in-Rising : goal.returns-in-Rising
returns-in-Rising c = search first-cases

pub returns-in-Falling : goal.returns-in-Falling
returns-in-Falling c = search first-cases
