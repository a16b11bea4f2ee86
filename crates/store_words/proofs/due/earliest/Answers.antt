-- `earliest` meets its contract. The invariant: what is found so far is what the elements passed have.
use mathlib.Core.Path.{◌≡◌, refl, ◌∙◌}
use native.Mathlib.Omega.{arith}
use Rattle.rules_store.specs.Due.{earliest}
use Rattle.store_words.proofs.laws.Due.{look_idle, look_due}
use Rattle.store_words.proofs.due.earliest.Goals as goal
use Rattle.store_words.proofs.due.earliest.Goals.{else-due_flag-ne0, then-due_flag-ne0}

pub loop-el-init : goal.loop-el-init
unfolding earliest
loop-el-init c = refl

pub loop-el-preserved : goal.loop-el-preserved
loop-el-preserved c =
    elim c.if-due_flag-ne0.branch [ then-due_flag-ne0 w ↦ (look_due _ _ c.due_flag.ensures c.loop-el.invariant w.if-due_flag-ne0.true w.due_time.ensures (w.next-is ∙ w.sooner-next.ensures)) | else-due_flag-ne0 w ↦ (w.next-is ∙ look_idle _ _ c.due_flag.ensures c.loop-el.invariant w.if-due_flag-ne0.false) ]

pub returns : goal.returns
returns c = let e : c.loop-el.el ≡ c.args.n = omega arith in rw e at c.loop-el.invariant
