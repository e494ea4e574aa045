-- `audit_pieces::audit_piece` meets its contract: each return is one case of a piece.
use Rattle.model.proofs.Prelude.{arith, ap, not}
use Rattle.audit_pieces.proofs.PieceCases.{call-piece-cases, piece-done}
use Rattle.audit_pieces.proofs.audit_piece.Goals as goal

pub returns-then-store-ne-STORE_WORDS : goal.returns-then-store-ne-STORE_WORDS
returns-then-store-ne-STORE_WORDS c = search call-piece-cases

pub returns-then-work-lt-WORK_WORDS : goal.returns-then-work-lt-WORK_WORDS
returns-then-work-lt-WORK_WORDS c = search call-piece-cases

pub returns-then-not-known : goal.returns-then-not-known
returns-then-not-known c = search call-piece-cases

pub piece_on-requires : goal.piece_on-requires
piece_on-requires c = search call-piece-cases

pub returns-in-Err : goal.returns-in-Err
returns-in-Err c = search call-piece-cases

pub returns-else-not-known : goal.returns-else-not-known
returns-else-not-known c =
    piece-done _ _ _ _ _ (omega arith) (omega arith) _ c.load_by_value-legal.ensures _ c.in-Ok.is _ _ _ _ c.known_class-known.ensures (ap not c.if-not-known.false)
    c.piece_on.ensures
