-- `brought` meets its contract: nobody gets it, it is there already, or it is the frame.
use native.Mathlib.Omega.{arith}
use Rattle.moves_tell.proofs.laws.Brought.{brought_none, getter_in, brought_not, brought_is}
use Rattle.moves_tell.proofs.take.brought.Goals as goal

pub returns-in_err-u : goal.returns-in_err-u
returns-in_err-u c = rw c.from_residual.ensures (brought_none _ _ _ _ _ _ c.getter.ensures c.in_err-u.was, _)

pub differs-requires : goal.differs-requires
differs-requires c = (c.requires.0, getter_in _ _ _ _ c.getter.ensures c.in_ok-u.was c.requires.0, c.requires.1)

pub returns-then-not-differs : goal.returns-then-not-differs
returns-then-not-differs c = (brought_not _ _ _ _ _ _ c.getter.ensures c.in_ok-u.was c.differs.ensures c.if-not-differs.true, _)

pub variable_frame-requires : goal.variable_frame-requires
variable_frame-requires c = getter_in _ _ _ _ c.getter.ensures c.in_ok-u.was c.requires.0

pub returns : goal.returns
returns c = (brought_is _ _ _ _ _ _ c.getter.ensures c.in_ok-u.was c.differs.ensures c.if-not-differs.false c.variable_frame.ensures.is c.field.ensures.0 c.buffer_in.ensures c.brought_kind.ensures.0, record { kind_fits = omega arith; block_fits = omega arith; id_fits = omega arith })
