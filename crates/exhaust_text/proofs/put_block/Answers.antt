-- `exhaust_text::put_block` meets its contract: the line of the refusal, or the lines of the store that all pairs left.
use Rattle.model.proofs.Prelude.{arith}
use Rattle.exhaust_text.proofs.BlockShownCases.{refused-shown, taken-shown, taken-sound, taken-paths}
use Rattle.exhaust_text.proofs.put_block.Goals as goal

pub put_lines-length-requires : goal.put_lines-length-requires
put_lines-length-requires c =
    let t = c.exhaust-answer.ensures in
    let s = taken-sound _ _ _ _ _ _ c.no_store-store.ensures c.no_work-work.ensures _ t _ c.in-Ok.is _ c.paths_in-paths.ensures in
    let p = taken-paths _ _ _ _ _ _ c.no_store-store.ensures c.no_work-work.ensures _ t _ c.in-Ok.is _ c.paths_in-paths.ensures in
    (s, omega (arith, p), omega arith)

pub returns-in-Err-clause-block_true : goal.returns-in-Err-clause-block_true
returns-in-Err-clause-block_true c =
    refused-shown _ _ _ _ _ _ c.no_store-store.ensures c.no_work-work.ensures _ c.exhaust-answer.ensures _ c.in-Err.is _ _ _ _
    c.put_refusal-length.ensures c.no_faults.ensures.result_value

pub returns-in-Ok-clause-block_true : goal.returns-in-Ok-clause-block_true
returns-in-Ok-clause-block_true c =
    taken-shown _ _ _ _ _ _ c.no_store-store.ensures c.no_work-work.ensures _ c.exhaust-answer.ensures _ c.in-Ok.is _ c.paths_in-paths.ensures
    _ _ _ _ c.put_lines-length.ensures c.list_faults.ensures.result_value

pub list_faults-requires : goal.list_faults-requires
list_faults-requires c =
    let t = c.exhaust-answer.ensures in
    let s = taken-sound _ _ _ _ _ _ c.no_store-store.ensures c.no_work-work.ensures _ t _ c.in-Ok.is _ c.paths_in-paths.ensures in
    let p = taken-paths _ _ _ _ _ _ c.no_store-store.ensures c.no_work-work.ensures _ t _ c.in-Ok.is _ c.paths_in-paths.ensures in
    (s, omega (arith, p))
