-- `key_of` meets its contract: the three parts are read where `key_of` says.
use native.Mathlib.Omega.{arith}
use Rattle.moves_least.proofs.key_of.Goals as goal

pub field-requires : goal.field-requires
field-requires c = let h = c.args.net.now.good.input_element c.args.i c.requires.0 in omega (arith, rw c.input_frame-f.ensures.is at c.field-el.ensures.0)

pub returns : goal.returns
returns c = rw (c.last_update_in.ensures, c.field.ensures.0, c.flag.ensures.0, c.field-el.ensures.0, c.input_frame-f.ensures.is)
