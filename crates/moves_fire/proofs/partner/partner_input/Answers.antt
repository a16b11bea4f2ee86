-- `partner_input` meets its contract: the rank among the outputs is looked for among the inputs.
use Rattle.rules_moves.specs.Partner.{partner_input}
use Rattle.moves_fire.proofs.partner.partner_input.Goals as goal

pub returns : goal.returns
unfolding partner_input
returns c = rw (← c.output_frame.ensures.is, ← c.field-el.ensures.0, ← c.rank-k.ensures.0, ← c.inputs.ensures) c.nth.ensures
