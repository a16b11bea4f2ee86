-- `trace_piece` meets its contract: a traced run, and its trace as lines.
use Rattle.session_trace.proofs.Piecing.{moves_within, bytes_within, lines_printed}
use native.Mathlib.Omega.{arith}
use Rattle.session_trace.proofs.piece.trace_piece.Goals as goal

pub returns : goal.returns
returns c = record { call = c.run_traced-traced.ensures; printed = lines_printed c.run_traced-traced.result.traced c.run_traced-traced.new.trace c.args.text.now _ c.stretch.ensures (omega arith) (omega arith) c.put_lines-at.ensures; moves_most = moves_within c.run_traced-traced.ensures; bytes_most = bytes_within c.run_traced-traced.ensures }
