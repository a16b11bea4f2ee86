-- `receive` meets its contract: by the sort, each its own; all but an interface and a sink sample first and then do it.
use mathlib.Core.List.{[]}
use mathlib.Core.Path.{sym, ◌∙◌}
use Rattle.moves_take.proofs.Turns.{element_in, element_small, sampled_kept, record_fits, received_basic, received_interface, received_delay, received_sink, received_no_more}
use native.Mathlib.Omega.{arith}
use Rattle.moves_take.proofs.receive.Goals as goal

pub wake-requires : goal.wake-requires
wake-requires c = let l = element_small _ _ _ 0 _ [] 0 c.requires.1 c.args.ix.now.net.good c.requires.0 in let g = c.args.ix.now.net.good in (l, omega arith)

pub relay-requires : goal.relay-requires
relay-requires c = (c.requires.0, sym c.requires.1.sort_is ∙ c.in-1.is)

pub start_stop-requires : goal.start_stop-requires
start_stop-requires c =
    (c.requires.0, element_in _ _ _ 0 _ [] 0 c.requires.1 c.args.ix.now.net.good c.requires.0, c.requires.2, sampled_kept _ _ _ _ c.requires.4 c.put_input_in.ensures c.sample_all-in-2.ensures)

pub write_record-requires : goal.write_record-requires
write_record-requires c = (element_small _ _ _ 0 _ [] 0 c.requires.1 c.args.ix.now.net.good c.requires.0, c.requires.0, record_fits _ _ _ _ _ [] _ c.requires.1 _ c.in-4.is c.requires.3)

pub returns-in-0 : goal.returns-in-0
returns-in-0 c = received_basic _ _ _ _ _ _ _ c.requires.1 c.put_input_in.ensures c.in-0.is c.sample_all.ensures c.wake.ensures

pub returns-in-1 : goal.returns-in-1
returns-in-1 c = received_interface _ _ _ _ _ _ _ c.requires.1 c.put_input_in.ensures c.in-1.is c.relay.ensures

pub returns-in-2 : goal.returns-in-2
returns-in-2 c = received_delay _ _ _ _ _ _ _ c.requires.1 c.put_input_in.ensures c.in-2.is c.sample_all-in-2.ensures c.start_stop.ensures

pub returns-in-4 : goal.returns-in-4
returns-in-4 c = received_sink _ _ _ _ _ _ _ c.requires.1 c.put_input_in.ensures c.in-4.is c.write_record.ensures

pub returns-in_default : goal.returns-in_default
returns-in_default c = received_no_more _ _ _ _ _ _ _ c.requires.1 c.put_input_in.ensures c.in_default.in_default-own.rest.0.0.0.1 c.in_default.in_default-own.rest.0.0.1 c.in_default.in_default-own.rest.0.1 c.in_default.in_default-own.rest.1 c.sample_all-in_default.ensures
