-- `take_none` meets its contract: one case for each phase.
use Rattle.session_dialogue.proofs.Telling.{calm_none, took_none, by_table, by_calls, by_values, by_stopped}
use Rattle.rules_sessions.specs.Session.{halted, calling, end_deed}
use Rattle.session_dialogue.proofs.line.take_none.Goals as goal

pub returns-in-Table : goal.returns-in-Table
returns-in-Table c = (λ g W. by_table _ _ _ W end_deed c.in-Table.is (λ T w. c.tell_load.ensures.0 T W w.table_is w.room) g, c.tell_load.ensures.1)

pub returns-in-Calls : goal.returns-in-Calls
returns-in-Calls c = (λ g W. by_calls _ _ _ W end_deed c.in-Calls.is (λ l w. took_none (calling _ _) _ _ _ W _ w) g, calm_none _ _)

pub returns-in-Values : goal.returns-in-Values
returns-in-Values c = (λ g W. by_values _ _ _ W end_deed c.in-Values.is (λ vs w l. c.malformed.ensures.0 _ _ W) g, c.malformed.ensures.1)

pub returns-in-Stopped : goal.returns-in-Stopped
returns-in-Stopped c = (λ g W. by_stopped _ _ _ W end_deed c.in-Stopped.is (took_none halted _ _ _ W _ c.in-Stopped.is) g, calm_none _ _)
