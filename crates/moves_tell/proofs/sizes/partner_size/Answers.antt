-- `partner_size` meets its contract: no interface, found or not.
use native.Mathlib.Omega.{arith}
use mathlib.Core.Path.{sym, ◌∙◌}
use mathlib.Core.List.{[]}
use Rattle.moves_tell.proofs.laws.Sized.{sized_none, sized_emitted, sized_same}
use Rattle.moves_tell.proofs.laws.Taking.{element_in, plain_event, interface_event}
use Rattle.moves_tell.proofs.Telling.{partner_none, partner_one}
use Rattle.moves_tell.proofs.sizes.partner_size.Goals as goal

pub flag-requires : goal.flag-requires
flag-requires c = (element_in _ _ _ c.args.ix.now.net.good c.requires.0 c.requires.1).1

pub returns-then-flag-ne-INTERFACE : goal.returns-then-flag-ne-INTERFACE
returns-then-flag-ne-INTERFACE c = (sized_same (plain_event _ _ _ [] c.requires.1 c.flag.ensures.0 c.if-flag-ne-INTERFACE.true) sized_none, omega arith)

pub returns-in-Some : goal.returns-in-Some
returns-in-Some c = (sized_same (sym (partner_one _ _ _ _ c.partner_output.ensures c.in-Some.is) ∙ interface_event _ _ _ [] c.requires.1 c.flag.ensures.0 c.if-flag-ne-INTERFACE.false) (sized_emitted _ _ _), omega arith)

pub returns-in-None : goal.returns-in-None
returns-in-None c = (sized_same (partner_none _ _ _ _ c.partner_output.ensures c.in-None.is ∙ interface_event _ _ _ [] c.requires.1 c.flag.ensures.0 c.if-flag-ne-INTERFACE.false) sized_none, omega arith)
