-- `values_size` meets its contract: inputs, then an interface's outputs.
use native.Mathlib.Omega.{arith}
use mathlib.Core.Path.{sym, ◌∙◌}
use Rattle.moves_tell.specs.Before.{take_entries}
use Rattle.moves_tell.proofs.laws.Sized.{sized_same, sized_then}
use Rattle.moves_tell.proofs.laws.Brought.{all_sampled, all_passed}
use Rattle.moves_tell.proofs.laws.Taking.{element_in, plain_values, interface_values}
use Rattle.moves_tell.proofs.sizes.values_size.Goals as goal

pub flag-requires : goal.flag-requires
flag-requires c = (element_in _ _ _ c.requires.0.is_lawful.is_good c.requires.1 c.requires.2).1

pub returns-then-flag-ne-INTERFACE : goal.returns-then-flag-ne-INTERFACE
unfolding take_entries
returns-then-flag-ne-INTERFACE c = (sized_same (all_sampled _ _ c.requires.0 _ _ c.requires.2 _ ∙ sym (plain_values _ _ _ _ c.requires.2 c.flag.ensures.0 c.if-flag-ne-INTERFACE.true _)) c.all_size-z.ensures.0, omega arith)

pub returns : goal.returns
unfolding take_entries
returns c = (sized_then (sized_same (all_sampled _ _ c.requires.0 _ _ c.requires.2 _) c.all_size-z.ensures.0) (sized_same (all_passed _ _ c.requires.0 _ _ c.requires.2 _ ∙ sym (interface_values _ _ _ _ c.requires.2 c.flag.ensures.0 c.if-flag-ne-INTERFACE.false)) c.all_size.ensures.0), omega arith)
