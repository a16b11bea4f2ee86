-- Laws: what the frame of a line is where it is written.
use Rattle.std.specs.Prelude.{◌≡◌, refl, List, ℕ, replicate}
use Rattle.std.proofs.lemmas.List.Edits.{sets}
use Rattle.rules_sessions.specs.Line.{bytes_to, line_frame}

-- written over a frame it is the whole of it
pub frame_whole : (L : List ℕ) → sets (replicate 12 0) 0 (line_frame L) ≡ line_frame L
unfolding bytes_to
frame_whole L = refl
