-- `tell_values` meets its contract: inputs, then an interface's outputs.
use mathlib.Core.Path.{sym, ◌∙◌}
use Rattle.moves_tell.specs.Before.{take_entries}
use Rattle.moves_tell.proofs.laws.Told.{room_first, room_same}
use Rattle.moves_tell.proofs.laws.Taped.{taped_same, taped_then, space_rest}
use Rattle.moves_tell.proofs.laws.Taking.{element_in, plain_values, interface_values}
use Rattle.moves_tell.proofs.laws.Brought.{all_sampled, all_passed}
use Rattle.moves_tell.proofs.take.tell_values.Goals as goal

pub tell_brought-requires : goal.tell_brought-requires
unfolding take_entries
tell_brought-requires c = (c.requires.0, c.requires.2, room_same (sym (all_sampled _ _ c.requires.0 _ _ c.requires.2 _)) (room_first _ _ _ _ c.requires.3), c.requires.4)

pub flag-requires : goal.flag-requires
flag-requires c = (element_in _ _ _ c.requires.0.is_lawful.is_good c.requires.1 c.requires.2).1

pub tell_brought-requires-then-flag-eq-INTERFACE : goal.tell_brought-requires-then-flag-eq-INTERFACE
unfolding take_entries
tell_brought-requires-then-flag-eq-INTERFACE c =
    let d = taped_same (all_sampled _ _ c.requires.0 _ _ c.requires.2 _) c.tell_brought.ensures in
    let e = interface_values _ _ _ _ c.requires.2 c.flag.ensures.0 c.if-flag-eq-INTERFACE.true ∙ sym (all_passed _ _ c.requires.0 _ _ c.requires.2 _) in
    (c.requires.0, c.requires.2, room_same e (space_rest _ _ _ c.requires.3 d), c.requires.4)

pub returns-then-flag-eq-INTERFACE : goal.returns-then-flag-eq-INTERFACE
unfolding take_entries
returns-then-flag-eq-INTERFACE c =
    let d = taped_same (all_sampled _ _ c.requires.0 _ _ c.requires.2 _) c.tell_brought.ensures in
    let e = all_passed _ _ c.requires.0 _ _ c.requires.2 _ ∙ sym (interface_values _ _ _ _ c.requires.2 c.flag.ensures.0 c.if-flag-eq-INTERFACE.true) in
    taped_then _ _ _ d (taped_same e c.tell_brought-then-flag-eq-INTERFACE.ensures)

pub returns-else-flag-eq-INTERFACE : goal.returns-else-flag-eq-INTERFACE
unfolding take_entries
returns-else-flag-eq-INTERFACE c =
    taped_same (all_sampled _ _ c.requires.0 _ _ c.requires.2 _ ∙ sym (plain_values _ _ _ _ c.requires.2 c.flag.ensures.0 c.if-flag-eq-INTERFACE.false _)) c.tell_brought.ensures
