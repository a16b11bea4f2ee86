-- Where all frames have their form, the table is in order (`located_none`).
use Rattle.table_frames.proofs.laws.Placed.{located_none}
use lib.ListN.{length}
use mathlib.Core.Path.{◌≡◌, refl}
use native.Mathlib.Omega.{arith}
use Prim.Native.Nat.{◌/◌}
use Rattle.table_check.proofs.referring_end.Goals as goal

pub invariant_of-frames : goal.invariant_of-frames
invariant_of-frames c = let e : c.args.n ≡ length c.args.kinds.now.table.now / 12 = (let l = c.requires.1 in omega arith) in record { located = located_none _ _ refl (rw e at c.requires.2) }
