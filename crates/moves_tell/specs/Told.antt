-- Frames told: what code that writes frames of the trace leaves, and the room that it needs.
use Rattle.std.specs.Prelude.{ℕ, ◌+◌, ◌≤◌, ◌<◌, ◌≡◌, List, length}
use Rattle.std.proofs.lemmas.List.Edits.{sets}
use Rattle.rules_traces.specs.declared.Entry.{Entry}
use Rattle.rules_traces.specs.Entry.{entry_frames}

-- the trace tr, having become tr', has these frames from `at` on; r is the place after them
pub record Told (es : List Entry) (at : ℕ) (tr tr' : List ℕ) (r : ℕ) : Type 0 where
  pub bytes_are : tr' ≡ sets tr at (entry_frames es)
  pub place_is : r ≡ at + length (entry_frames es)

-- they have z bytes
pub record Sized (es : List Entry) (z : ℕ) : Type 0 where
  pub size_is : z ≡ length (entry_frames es)

-- they have room
pub record Room (es : List Entry) (at : ℕ) (tr : List ℕ) : Type 0 where
  pub enough : at + length (entry_frames es) ≤ length tr

-- the numbers of an entry fit its frame
pub record Fitting (e : Entry) : Type 0 where
  pub kind_fits : e.kind < 256
  pub block_fits : e.block < 65536
  pub id_fits : e.id < 65536
