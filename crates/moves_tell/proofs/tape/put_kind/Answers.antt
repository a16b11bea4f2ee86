-- `put_kind` meets its contract: two stores in a row are a run of two.
use native.Mathlib.Numerals.{add-one}
use Rattle.moves_tell.proofs.tape.put_kind.Goals as goal

pub returns : goal.returns
returns c = simp add-one
