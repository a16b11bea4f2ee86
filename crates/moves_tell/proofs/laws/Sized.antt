-- How many bytes frames have: none, one, one list after another, and lists put together.
use Rattle.std.specs.Prelude.{ℕ, ◌+◌, ◌≡◌, refl, List, [], ◌∷◌, ◌++◌, Bool, false}
use Rattle.std.proofs.Common.{sym, ap, subst, ◌∙◌, arith}
use Rattle.rules_walks.specs.First.{one}
use Rattle.rules_tables.specs.declared.Shape.{Shape}
use Rattle.table_index.specs.Leads.{Leads}
use Rattle.rules_moves.specs.Partner.{input_owner}
use Rattle.rules_moves.specs.Take.{fired_by}
use Rattle.rules_traces.specs.declared.Entry.{Entry}
use Rattle.rules_traces.specs.Entry.{entry, entry_frames}
use Rattle.rules_traces.specs.Gather.{gather}
use Rattle.rules_traces.proofs.laws.Gather.{gather_none, gather_next}
use Rattle.rules_traces.specs.Trace.{differing, finished_at_once, emitted_entry}
use Rattle.moves_tell.specs.Before.{take_events}
use Rattle.moves_tell.specs.Told.{Sized}
use Rattle.moves_tell.proofs.laws.Told.{frames_both, one_length, differing_same, differing_other, gather_led}

pub sized_none : Sized [] 0
unfolding entry_frames
sized_none = record { size_is = refl }

pub sized_one : (e : Entry) → Sized (e ∷ []) 12
sized_one e = record { size_is = sym (one_length e) }

pub sized_same : {a b : List Entry} {z : ℕ} → a ≡ b → Sized a z → Sized b z
sized_same {a} {b} {z} e w = subst (λ (es : List Entry). Sized es z) e w

pub sized_then : {a b : List Entry} {y z : ℕ} → Sized a y → Sized b z → Sized (a ++ b) (y + z)
sized_then {a} {b} v w = record { size_is = let p = v.size_is in let q = w.size_is in let h = frames_both a b in omega arith }

-- ---- a value that differs, or not
module _ (k el v : ℕ) {b x : ℕ} where
  pub sized_differing_not : b ≡ x → Sized (differing b (entry k el v x)) 0
  sized_differing_not h = sized_same (sym (differing_same (entry k el v x) h)) sized_none

  pub sized_differing : (b ≡ x → ⊥) → Sized (differing b (entry k el v x)) 12
  sized_differing h = sized_same (sym (differing_other (entry k el v x) h)) (sized_one _)

-- ---- an event that is emitted, and what happens when one is taken
pub sized_emitted : (T : List ℕ) (S : Shape) (o : ℕ) → Sized (emitted_entry T S (one o)) 12
unfolding emitted_entry
sized_emitted T S o = sized_one _

pub sized_events : (T : List ℕ) (S : Shape) (i : ℕ) {el y z : ℕ} → el ≡ input_owner T S i → Sized (finished_at_once T el) y → Sized (emitted_entry T S (fired_by T S i)) z
    → Sized (take_events T S i) (12 + y + 12 + z)
unfolding take_events
sized_events T S i is v w = sized_then (sized_then (sized_then (sized_one _) (sized_same (ap (finished_at_once T) is) v)) (sized_one _)) w

-- ---- a loop that goes where it is led, past numbers that tell nothing: at its beginning, and over a turn
module _ (f : ℕ → List Entry) {p : ℕ → Bool} (silent : (j : ℕ) → p j ≡ false → f j ≡ []) {b n : ℕ} where
  pub sized_first : Leads p 0 b n → Sized (gather f b) 0
  sized_first l = sized_same (sym (gather_led f silent l ∙ gather_none f)) sized_none

  pub sized_next : (v : ℕ) {y z : ℕ} → Leads p (v + 1) b n → Sized (gather f v) y → Sized (f v) z → Sized (gather f b) (y + z)
  sized_next v l so_far d = sized_same (sym (gather_led f silent l ∙ gather_next f v)) (sized_then so_far d)
