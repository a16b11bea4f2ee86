-- `take_line` meets its contract: one case for each phase.
use Rattle.session_dialogue.proofs.Telling.{calm_more, calm_none, took_none, by_table, by_calls, by_values, by_stopped}
use Rattle.rules_sessions.specs.Session.{Stage, halted, line_deed}
use native.Mathlib.Omega.{arith}
use Rattle.session_dialogue.proofs.line.take_line.Goals as goal

pub returns-in-Table : goal.returns-in-Table
returns-in-Table c = (by_table _ _ _ _ (λ (g : Stage). line_deed g c.args.line.now) c.in-Table.is c.early_line.ensures.0, c.early_line.ensures.1)

pub returns-in-Calls : goal.returns-in-Calls
returns-in-Calls c = (by_calls _ _ _ _ (λ (g : Stage). line_deed g c.args.line.now) c.in-Calls.is (λ l _. c.call_line.ensures.0 l), calm_more {m = 12313} {n = 12338} (omega arith) c.call_line.ensures.1)

pub returns-in-Values : goal.returns-in-Values
returns-in-Values c = (by_values _ _ _ _ (λ (g : Stage). line_deed g c.args.line.now) c.in-Values.is c.value_line.ensures.0, calm_more {m = 25} {n = 12338} (omega arith) c.value_line.ensures.1)

pub returns-in-Stopped : goal.returns-in-Stopped
returns-in-Stopped c = (by_stopped _ _ _ _ (λ (g : Stage). line_deed g c.args.line.now) c.in-Stopped.is (took_none halted _ _ _ _ _ c.in-Stopped.is), calm_none _ _)
