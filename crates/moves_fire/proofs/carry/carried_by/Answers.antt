use Rattle.rules_moves.specs.Partner.{partner_variable}
use Rattle.rules_moves.specs.Carry.{carried_by}
use Rattle.table_parts.proofs.laws.Found.{found_one, found_missing}
use borrow.Author.Tests.{eq-eqb, ne_eqb}
use native.Mathlib.Omega.{arith}
use Rattle.moves_fire.proofs.carry.carried_by.Goals as goal

pub returns-then-w-eq-OF_OUTPUT : goal.returns-then-w-eq-OF_OUTPUT
unfolding carried_by
returns-then-w-eq-OF_OUTPUT c = rw (c.requires.1, eq-eqb _ _ c.if-w-eq-OF_OUTPUT.true) (rw c.association_frame.ensures.is at c.field-v.ensures.0)

pub partner_variable-requires : goal.partner_variable-requires
partner_variable-requires c = omega (arith, rw c.association_frame.ensures.is at c.field-v.ensures.0, c.args.ix.now.net.good.association_variable c.args.j c.requires.0)

pub returns-in_default : goal.returns-in_default
unfolding carried_by
returns-in_default c = rw (c.requires.1, ne_eqb _ _ c.if-w-eq-OF_OUTPUT.false, ← c.association_frame.ensures.is, ← c.field-v.ensures.0) (rw (found_missing (partner_variable c.args.ix.now.net.table.now c.args.ix.now.net.shape c.field-v.result) _ c.partner_variable.ensures c.in_default.is))

pub returns : goal.returns
unfolding carried_by
returns c = rw (c.requires.1, ne_eqb _ _ c.if-w-eq-OF_OUTPUT.false, ← c.association_frame.ensures.is, ← c.field-v.ensures.0) (rw (found_one (partner_variable c.args.ix.now.net.table.now c.args.ix.now.net.shape c.field-v.result) _ _ c.partner_variable.ensures c.in-Some.is))
