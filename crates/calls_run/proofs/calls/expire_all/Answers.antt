-- `expire_all` meets its contract. The invariant: the store is what the elements passed made of it.
use Rattle.rules_walks.proofs.laws.Walk.{up_to_none, up_to_more, up_to_end}
use Rattle.calls_run.proofs.Turns.{expire_due, expire_not, expired_kept}
use lib.ListN.{length}
use mathlib.Core.Path.{refl, ap, ◌∙◌}
use native.Mathlib.Omega.{arith}
use Rattle.calls_run.proofs.calls.expire_all.Goals as goal
use Rattle.calls_run.proofs.calls.expire_all.Goals.{else-due_at, then-due_at}

pub loop-el-init : goal.loop-el-init
loop-el-init c = (up_to_none _ _, refl, c.requires.1)

pub loop-el-preserved : goal.loop-el-preserved
loop-el-preserved c =
    let l = c.loop-el in
    let h = c.due_at.ensures in
    elim c.if-due_at.branch [ then-due_at w ↦ (up_to_more _ _ _ _ _ l.invariant.0 (expire_due _ _ _ _ _ _ h w.if-due_at.true (w.store-is ∙ w.expire_delay.ensures)), omega (arith, ap length w.store-is), expired_kept _ _ _ _ _ c.requires.0 (omega arith) l.invariant.2 (w.store-is ∙ w.expire_delay.ensures)) | else-due_at w ↦ (up_to_more _ _ _ _ _ l.invariant.0 (expire_not _ _ _ _ _ _ h w.if-due_at.false w.store-is), omega (arith, ap length w.store-is), rw w.store-is l.invariant.2) ]

pub returns : goal.returns
returns c = up_to_end _ _ _ _ _ c.loop-el.invariant.0 (omega arith)
