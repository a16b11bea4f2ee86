-- `show_piece` meets its contract: a piece, and a reading of its lines.
use Rattle.session_trace.proofs.Piecing.{seen_is}
use Rattle.session_trace.proofs.piece.show_piece.Goals as goal

pub returns : goal.returns
returns c = (c.trace_piece-piece.ensures, seen_is c.stretch.ensures c.show-shown.ensures)
