-- `ask_text::inner::answer_lines::put_fault` meets its contract: the number, then 60 or what the tree of its edge answers.
use Rattle.model.proofs.Prelude.{arith, rules}
use Rattle.text_line.proofs.DecimalLaws.{at-most-20}
use Rattle.ask_text.proofs.AnswerLineCases.{fault-refused, fault-answered}
use Rattle.ask_text.proofs.inner.answer_lines.put_fault.Goals as goal

pub put_numbered-requires : goal.put_numbered-requires
put_numbered-requires c = omega (arith, at-most-20 c.args.fault)

pub put_numbered-requires-then-visit : goal.put_numbered-requires-then-visit
put_numbered-requires-then-visit c = omega (arith, at-most-20 c.args.fault)

pub put_numbered-requires-2 : goal.put_numbered-requires-2
put_numbered-requires-2 c = omega (arith, at-most-20 c.args.fault)

pub returns : goal.returns
returns c = search (at-most-20, fault-answered, rules)

pub returns-then-not-is_fault : goal.returns-then-not-is_fault
returns-then-not-is_fault c = search (at-most-20, fault-refused, rules)

pub returns-then-visit : goal.returns-then-visit
returns-then-visit c = search (at-most-20, fault-answered, rules)
