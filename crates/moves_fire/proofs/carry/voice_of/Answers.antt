-- `voice_of` meets its contract by cases: no interface, a partner, none.
use Rattle.table_parts.proofs.laws.Found.{found_one, found_missing}
use Rattle.rules_moves.specs.Carry.{voice_of}
use borrow.Author.Tests.{eq-eqb, ne_eqb}
use native.Mathlib.Omega.{arith}
use Rattle.rules_moves.specs.Partner.{partner_input}
use Rattle.moves_fire.proofs.carry.voice_of.Goals as goal

pub flag-requires : goal.flag-requires
flag-requires c = omega (arith, rw c.output_frame.ensures.is at c.field.ensures.0, c.args.net.now.good.output_element c.args.o c.requires)

pub returns-then-flag-ne-INTERFACE : goal.returns-then-flag-ne-INTERFACE
unfolding voice_of
returns-then-flag-ne-INTERFACE c = rw (← c.output_frame.ensures.is, ← c.field.ensures.0, ← c.flag.ensures.0, ne_eqb _ _ c.if-flag-ne-INTERFACE.true)

pub returns-in_default : goal.returns-in_default
unfolding voice_of
returns-in_default c =
    rw (← c.output_frame.ensures.is, ← c.field.ensures.0, ← c.flag.ensures.0, eq-eqb _ _ c.if-flag-ne-INTERFACE.false)
    (rw (found_missing (partner_input c.args.net.now.table.now c.args.net.now.shape c.args.o) _ c.partner_input.ensures c.in_default.is))

pub returns : goal.returns
unfolding voice_of
returns c =
    rw (← c.output_frame.ensures.is, ← c.field.ensures.0, ← c.flag.ensures.0, eq-eqb _ _ c.if-flag-ne-INTERFACE.false)
    (rw (found_one (partner_input c.args.net.now.table.now c.args.net.now.shape c.args.o) _ _ c.partner_input.ensures c.in-Some.is))
