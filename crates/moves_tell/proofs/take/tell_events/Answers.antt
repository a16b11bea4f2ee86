-- `tell_events` meets its contract: one after another.
use native.Mathlib.Omega.{arith}
use mathlib.Core.Path.{◌∙◌}
use Rattle.moves_tell.proofs.laws.Taking.{element_in, started_room, finished_room, selected_room, plain_told, partner_room, partner_told}
use Rattle.moves_tell.proofs.take.tell_events.Goals as goal

pub put-requires : goal.put-requires
put-requires c = (rw c.happened.ensures (record { kind_fits = omega arith; block_fits = (element_in _ _ _ c.args.ix.now.net.good c.requires.0 c.requires.1).0; id_fits = omega arith }), started_room _ _ _ c.args.ix.now.net.good c.requires.0 c.requires.1 _ _ c.requires.2 c.happened.ensures)

pub tell_finished-requires : goal.tell_finished-requires
tell_finished-requires c = ((element_in _ _ _ c.args.ix.now.net.good c.requires.0 c.requires.1).1, (element_in _ _ _ c.args.ix.now.net.good c.requires.0 c.requires.1).0, finished_room _ _ _ c.args.ix.now.net.good c.requires.0 c.requires.1 _ _ c.requires.2 c.happened.ensures c.put.ensures.told)

pub put-requires-2 : goal.put-requires-2
put-requires-2 c = (rw c.happened-2.ensures (record { kind_fits = omega arith; block_fits = (element_in _ _ _ c.args.ix.now.net.good c.requires.0 c.requires.1).0; id_fits = let h = c.args.ix.now.net.good.few_inputs in omega arith }), selected_room _ _ _ c.args.ix.now.net.good c.requires.0 c.requires.1 _ _ c.requires.2 c.happened.ensures c.put.ensures.told c.tell_finished.ensures.told c.happened-2.ensures)

pub flag-requires : goal.flag-requires
flag-requires c = (element_in _ _ _ c.args.ix.now.net.good c.requires.0 c.requires.1).1

pub tell_partner-requires : goal.tell_partner-requires
tell_partner-requires c = (c.requires.0, partner_room _ _ _ c.args.ix.now.net.good c.requires.0 c.requires.1 _ _ c.requires.2 c.happened.ensures c.put.ensures.told c.tell_finished.ensures.told c.happened-2.ensures c.put-2.ensures.told c.flag.ensures.0 c.if-flag-eq-INTERFACE.true)

pub returns-then-flag-eq-INTERFACE : goal.returns-then-flag-eq-INTERFACE
returns-then-flag-eq-INTERFACE c = record {
  told = partner_told _ _ _ c.args.ix.now.net.good c.requires.0 c.requires.1 _ _ c.requires.2 c.happened.ensures c.put.ensures.told c.tell_finished.ensures.told c.happened-2.ensures c.put-2.ensures.told c.flag.ensures.0 c.if-flag-eq-INTERFACE.true c.tell_partner.ensures.told;
  same = c.tell_partner.ensures.same ∙ c.put-2.ensures.same ∙ c.tell_finished.ensures.same ∙ c.put.ensures.same;
}

pub returns-else-flag-eq-INTERFACE : goal.returns-else-flag-eq-INTERFACE
returns-else-flag-eq-INTERFACE c = record {
  told = plain_told _ _ _ c.args.ix.now.net.good c.requires.0 c.requires.1 _ _ c.requires.2 c.happened.ensures c.put.ensures.told c.tell_finished.ensures.told c.happened-2.ensures c.put-2.ensures.told c.flag.ensures.0 c.if-flag-eq-INTERFACE.false;
  same = c.put-2.ensures.same ∙ c.tell_finished.ensures.same ∙ c.put.ensures.same;
}
