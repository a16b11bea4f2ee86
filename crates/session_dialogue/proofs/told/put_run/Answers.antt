-- `put_run` meets its contract: the records, then the answer.
use Rattle.rules_tables.specs.Judge.{judged}
use Rattle.rules_sessions.specs.RecordLines.{records_by}
use Rattle.session_dialogue.proofs.Telling.{run_printed, stretch_short, records_of}
use native.Mathlib.Omega.{arith}
use lib.ListN.{length}
use Rattle.session_dialogue.proofs.told.put_run.Goals as goal

pub put_records-from-requires : goal.put_records-from-requires
put_records-from-requires c = omega (arith, stretch_short c.stretch.result.now c.args.out.now c.bytes.result c.stretch.ensures)

pub put_answer-requires : goal.put_answer-requires
put_answer-requires c = omega (arith, stretch_short c.stretch.result.now c.args.out.now c.bytes.result c.stretch.ensures, c.put_records-from.ensures.1)

pub returns : goal.returns
returns c = records_of c.args.t.now c.stretch.result.now c.args.out.now c.args.a c.stretch.ensures c.bytes.ensures (run_printed (records_by (judged c.args.t.now) c.args.t.now c.stretch.result.now) _ _ _ c.stretch.result.now c.args.a _ _ _ (length c.args.out.now) c.put_records-from.ensures (stretch_short c.stretch.result.now c.args.out.now c.bytes.result c.stretch.ensures) c.put_answer.ensures)
