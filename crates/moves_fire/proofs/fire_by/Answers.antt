-- `fire_by` meets its contract: the connections, then the copies by the voice that it is given.
use Rattle.moves_fire.proofs.laws.Carrying.{voice_flag}
use Rattle.rules_moves.specs.Fire.{fire}
use Rattle.moves_fire.proofs.fire_by.Goals as goal

pub copy_all-requires : goal.copy_all-requires
copy_all-requires c = rw c.requires (voice_flag _ _ _)

pub returns : goal.returns
unfolding fire
returns c = rw (c.copy_all.ensures, c.connect_all.ensures, c.requires)
