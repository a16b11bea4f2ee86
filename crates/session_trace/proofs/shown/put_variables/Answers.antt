-- `put_variables` meets its contract. The invariant (`Listed`): the lines of the variables passed are printed.
use Rattle.session_trace.proofs.Walking.{listed_none, listed_more, listed_all}
use Rattle.session_trace.proofs.Owning.{owned_room}
use mathlib.Core.Path.{refl}
use native.Mathlib.Omega.{arith}
use borrow.Author.Rules.{rules}
use Rattle.session_trace.proofs.shown.put_variables.Goals as goal

pub loop-v-init : goal.loop-v-init
loop-v-init c = (listed_none _ _ _ _ _ _, refl)

pub put_owned-p-requires : goal.put_owned-p-requires
put_owned-p-requires c = (search rules, λ e. let h = owned_room c.args.net.now.table.now c.args.net.now.shape c.args.el c.loop-v.v (omega arith) e in let r = c.loop-v.invariant.0.printed.room in omega arith)

pub loop-v-preserved : goal.loop-v-preserved
loop-v-preserved c = (listed_more _ _ _ _ c.loop-v.invariant.0 c.put_owned-p.ensures, omega arith)

pub returns : goal.returns
returns c = listed_all _ _ _ _ c.loop-v.invariant.0 (omega arith)
