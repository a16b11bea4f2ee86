-- `call_line` meets its contract: one case for each command.
use Rattle.session_dialogue.proofs.Telling.{took_is, calm_more, call_by_lem}
use Rattle.session_dialogue.proofs.Buffers.{came_none}
use Rattle.rules_sessions.proofs.laws.Digits.{arrival_few}
use native.Mathlib.Omega.{arith}
use mathlib.Core.Path.{sym, ◌∙◌}
use mathlib.Core.List.{[]}
use mathlib.Core.Logic.{⊎_elim}
use Rattle.session_dialogue.proofs.told.call_line.Goals as goal

pub returns-in-Wrong : goal.returns-in-Wrong
returns-in-Wrong c = (λ l. ⊎_elim (λ e. took_is (call_by_lem _ _ _ c.line_command.ensures e) (c.malformed.ensures.0 _ _ _)) (λ w. took_is (call_by_lem _ _ _ c.line_command.ensures w.1) (c.malformed.ensures.0 _ _ _)) c.in-Wrong.is, calm_more {m = 25} {n = 12313} (omega arith) c.malformed.ensures.1)

pub returns-in-Advance : goal.returns-in-Advance
returns-in-Advance c = (λ l. took_is (call_by_lem _ _ _ c.line_command.ensures c.in-Advance.is) (c.tell_advance.ensures.0 _ l), calm_more {m = 25} {n = 12313} (omega arith) c.tell_advance.ensures.1)

pub returns-in-Arrival : goal.returns-in-Arrival
returns-in-Arrival c = (λ l. took_is (call_by_lem _ _ _ c.line_command.ensures c.in-Arrival.is) (c.await_values.ensures.0 [] (came_none _ _ (arrival_few _ (sym c.line_command.ensures ∙ c.in-Arrival.is)) l)), calm_more {m = 25} {n = 12313} (omega arith) c.await_values.ensures.1)

pub returns-in-Run : goal.returns-in-Run
returns-in-Run c = (λ l. took_is (call_by_lem _ _ _ c.line_command.ensures c.in-Run.is) (c.tell_run.ensures.0 _ l), c.tell_run.ensures.1)
