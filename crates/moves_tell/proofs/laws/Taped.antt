-- Laws of a tape: what is told on it, one list after another.
use Rattle.std.specs.Prelude.{ℕ, ◌+◌, ◌≡◌, refl, List, [], ◌++◌, Bool, false}
use Rattle.std.proofs.Common.{◌∙◌}
use Rattle.rules_traces.specs.declared.Entry.{Entry}
use Rattle.rules_traces.specs.Gather.{gather}
use Rattle.table_index.specs.Leads.{Leads}
use Rattle.moves_tell.specs.Taped.{Taped, Space}
use Rattle.moves_tell.specs.declared.tape.Tape.{Tape}
use Rattle.moves_tell.proofs.laws.Told.{told_none, told_same, told_then, told_first, told_next, room_rest}

-- nothing told
pub taped_none : (t : Tape) → Taped [] t t
taped_none t = record { told = told_none t.at t.bytes.now; same = refl }

-- lists that are equal
pub taped_same : {a b : List Entry} {t t' : Tape} → a ≡ b → Taped a t t' → Taped b t t'
taped_same e w = record { told = told_same e w.told; same = w.same }

-- one list after another, and the room that is left for the second
module _ (a b : List Entry) (t : Tape) {t' : Tape} where
  pub taped_then : {t'' : Tape} → Taped a t t' → Taped b t' t'' → Taped (a ++ b) t t''
  taped_then w v = record { told = told_then a b t.at t.bytes.now w.told v.told; same = v.same ∙ w.same }

  pub space_rest : Space (a ++ b) t → Taped a t t' → Space b t'
  space_rest l w = room_rest a b t.at t.bytes.now l w.told

-- a loop that goes where it is led, past numbers that tell nothing: at its beginning, and over a turn
module _ (f : ℕ → List Entry) {p : ℕ → Bool} (silent : (j : ℕ) → p j ≡ false → f j ≡ []) {b n : ℕ} where
  pub taped_first : Leads p 0 b n → (t : Tape) → Taped (gather f b) t t
  taped_first l t = record { told = told_first f silent l t.at t.bytes.now; same = refl }

  pub taped_next : (v : ℕ) (t : Tape) {t' t'' : Tape} → Leads p (v + 1) b n → Taped (gather f v) t t' → Taped (f v) t' t'' → Taped (gather f b) t t''
  taped_next v t l w d = record { told = told_next f silent v t.at t.bytes.now l w.told d.told; same = d.same ∙ w.same }
