-- `exports::genduwal_bench_to_netlist` meets its contract: code and words are those of the answer of the call beneath.
use Rattle.c_answer_words.proofs.CodeLaws.{answered-by}
use Rattle.exports.proofs.genduwal_bench_to_netlist.Goals as goal

pub returns : goal.returns
returns c =
    record { answered = answered-by c.bench_to_netlist-converted.ensures.answer c.bench_code.ensures; netlist_after = c.bench_to_netlist-converted.ensures.buffer }
