-- `put` meets its contract.
use mathlib.Core.Path.{refl}
use Rattle.moves_tell.proofs.laws.Told.{room_one, told_one}
use Rattle.moves_tell.proofs.tape.Tape.put.Goals as goal

pub write_frame-requires : goal.write_frame-requires
write_frame-requires c = room_one _ _ _ c.requires.1

pub returns : goal.returns
returns c = record { told = told_one _ _ _ c.write_frame.ensures refl; same = refl }
