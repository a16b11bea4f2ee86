-- `result_kind` meets its contract.
use native.Mathlib.Omega.{arith}
use Rattle.moves_tell.proofs.Telling.{kind_internal, kind_output}
use Rattle.moves_tell.proofs.act.result_kind.Goals as goal

pub returns-then-role-eq-INTERNAL : goal.returns-then-role-eq-INTERNAL
returns-then-role-eq-INTERNAL c = (kind_internal c.if-role-eq-INTERNAL.true, omega arith)

pub returns-else-role-eq-INTERNAL : goal.returns-else-role-eq-INTERNAL
returns-else-role-eq-INTERNAL c = (kind_output c.if-role-eq-INTERNAL.false, omega arith)
