-- `next_act` meets its contract: what was found decides (`act_none`, `act_missing`, `act_step`, `act_end`).
use Rattle.moves_next.proofs.Turns.{act_none, act_missing, act_in, act_step, act_end}
use Rattle.moves_next.proofs.next_act.Goals as goal

pub returns-then-r-eq0 : goal.returns-then-r-eq0
returns-then-r-eq0 c = act_none _ _ _ _ c.if-r-eq0.true

pub returns-in_default : goal.returns-in_default
returns-in_default c = act_missing _ _ _ _ c.state_of.ensures c.wide.ensures.is c.action_of.ensures c.in_default.is

pub action_frame-f-requires : goal.action_frame-f-requires
action_frame-f-requires c = act_in _ _ c.args.r _ c.state_of.ensures c.wide.ensures.is c.action_of.ensures _ c.in-Some.is

pub returns-then-done-field : goal.returns-then-done-field
returns-then-done-field c = act_step _ _ _ _ c.state_of.ensures c.wide.ensures.is c.action_of.ensures _ c.in-Some.is c.action_frame-f.ensures.is c.wide-done.ensures.is c.field.ensures.0 c.field-then-done-field.ensures.0 c.if-done-field.true

pub returns : goal.returns
returns c = act_end _ _ _ _ c.state_of.ensures c.wide.ensures.is c.action_of.ensures _ c.in-Some.is c.action_frame-f.ensures.is c.wide-done.ensures.is c.field.ensures.0 c.if-done-field.false
