-- `put_elements` meets its contract. The invariant (`Passed`): the elements passed are printed.
use Rattle.session_trace.proofs.Walking.{passed_none, element_room, passed_more, passed_all}
use mathlib.Core.Path.{refl}
use native.Mathlib.Omega.{arith}
use borrow.Author.Rules.{rules}
use Rattle.session_trace.proofs.shown.put_elements.Goals as goal

pub loop-el-init : goal.loop-el-init
loop-el-init c = (passed_none _ _ _ _ _, refl)

pub put_element-p-requires : goal.put_element-p-requires
put_element-p-requires c = (search rules, let h = element_room _ _ _ c.args.net.now.good c.loop-el.invariant.0 (omega arith) in omega arith)

pub loop-el-preserved : goal.loop-el-preserved
loop-el-preserved c = (passed_more _ _ _ c.loop-el.invariant.0 c.put_element-p.ensures, omega arith)

pub returns : goal.returns
returns c = passed_all _ _ _ c.args.net.now.good c.loop-el.invariant.0 (omega arith)
