-- "Views. One gives the frames of one kind, one the steps of one action. The answer is the stretch of the lent table that holds them;
-- for a refused table or an unknown number it is empty", and then lies at the table's start.
use Rattle.std.specs.Prelude.{ℕ, ◌+◌, ◌*◌, List, Bool, true, false, ◌≡◌, take, drop, eqb, leb}
use Rattle.std.specs.Borrow.{Bor}
use Rattle.rules_walks.specs.Pick.{pick, both}
use Rattle.rules_tables.specs.Kind.{action, step}
use Rattle.rules_tables.specs.Frame.{Table, field_at}
use Rattle.rules_tables.specs.Place.{start_of, count_of, place, exists}
use Rattle.rules_tables.specs.declared.Span.{Span}
use Rattle.rules_tables.specs.Judge.{Verdict, accepted, refused, judge}

abbrev pub is_accepted : Verdict → Bool
is_accepted accepted = true
is_accepted (refused q f) = false

-- so many frames from a frame on
abbrev pub span : (first count : ℕ) → Span
span first count = record { first = first; count = count }

-- a stretch of so many frames; an empty one lies at the table's start
unfoldable pub stretch : (first count : ℕ) → Span
stretch first count = pick (eqb count 0) (span 0 0) (span first count)

-- the frames of kind k
unfoldable pub kind_span : Table → (k : ℕ) → Span
kind_span T k = pick (both (is_accepted (judge T)) (both (leb 1 k) (leb k 11))) (stretch (start_of T k) (count_of T k)) (span 0 0)

-- the steps of the action at frame p
unfoldable pub steps_at : Table → (p : ℕ) → Span
steps_at T p = pick (eqb (field_at T p 2) 0) (span 0 0) (span (start_of T step + field_at T p 1) (field_at T p 2))

-- the steps of an action
unfoldable pub step_span : Table → (id : ℕ) → Span
step_span T id = pick (both (is_accepted (judge T)) (exists T action id)) (steps_at T (place T action id)) (span 0 0)

-- r is the stretch of the lent table t that holds the frames of the span: its bytes, and where it lies
pub record IsPart (t r : Bor (List ℕ)) (s : Span) : Type 0 where
  pub bytes : r.now ≡ take (12 * s.count) (drop (12 * s.first) t.now)
  pub lies : r.ref_ptr ≡ (t.ref_ptr.0, 12 * s.first + t.ref_ptr.1)
