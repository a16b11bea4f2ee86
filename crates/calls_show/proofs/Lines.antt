-- The lines of a trace, over plain variables.
use mathlib.Core.Path.{◌≡◌, sym, ap, ◌∙◌}
use mathlib.Core.List.{List}
use mathlib.Core.Bool.{Bool, true, false, not}
use Prim.Native.Nat.{ℕ, ◌+◌, ◌*◌, ◌-◌, ◌≤◌, ◌<◌}
use native.Mathlib.Omega.{arith}
use lib.Dec.{eqb}
use lib.ListN.{length, take, drop, length-take, length-drop}
use borrow.Author.Tests.{ne_eqb, eqb-true, ltb-true, not-true, not-false}
use Rattle.rules_walks.proofs.laws.Pick.{both3}
use Rattle.rules_sessions.specs.Line.{all_digits, line_ok}
use Rattle.rules_traces.specs.Reader.{line_at, another_line, ended_at, whole_line}

module _ (text : List ℕ) (k : ℕ) where
  -- the part of the text that a line is
  pub part_is : (r : List ℕ) → r ≡ take (25 * k + 24 - 25 * k) (drop (25 * k) text) → r ≡ line_at text k
  unfolding line_at
  part_is r e = let q : 25 * k + 24 - 25 * k ≡ 24 = omega arith in e ∙ ap (λ (n : ℕ). take n (drop (25 * k) text)) q

  full : 25 * k + 24 ≤ length text → length (line_at text k) ≡ 24
  unfolding line_at
  full l = simp (length-take, length-drop) (omega arith)

  from_full : length (line_at text k) ≡ 24 → 25 * k + 24 ≤ length text
  unfolding line_at
  from_full e = let q = simp (length-take, length-drop) at e in omega arith

  -- too short, not digits, or as its end says
  pub line_short : 25 * k < length text → length text - 25 * k < 24 → false ≡ whole_line text k
  unfolding whole_line
  line_short h l = rw (ne_eqb (length (line_at text k)) 24 (λ e. let q = from_full e in omega arith))

  module _ (long : 25 * k + 24 ≤ length text) {L : List ℕ} (line : L ≡ line_at text k) {a : Bool} (digits : a ≡ all_digits L) where
    pub line_other : not a ≡ true → false ≡ whole_line text k
    unfolding whole_line
    line_other n = rw (full long, ← line, ← digits, not-true a n)

    pub line_ended : not a ≡ false → {b : Bool} → b ≡ ended_at text (25 * k + 24) → b ≡ whole_line text k
    unfolding whole_line
    line_ended n e = rw (full long, ← line, ← digits, not-false a n) e

  -- a whole line
  module _ (whole : whole_line text k ≡ true) where
    parts : (eqb (length (line_at text k)) 24 ≡ true) × (all_digits (line_at text k) ≡ true) × (ended_at text (25 * k + 24) ≡ true)
    unfolding whole_line
    parts = both3 (eqb (length (line_at text k)) 24) (all_digits (line_at text k)) (ended_at text (25 * k + 24)) whole

    pub whole_long : 25 * k + 24 ≤ length text
    whole_long = from_full (eqb-true (length (line_at text k)) 24 parts.0)

    pub whole_ok : line_ok (line_at text k) ≡ true
    unfolding line_ok
    whole_ok = rw (full whole_long, parts.1)

-- a line that is there begins within the text
pub there : (text : List ℕ) (k : ℕ) {a : Bool} → a ≡ another_line text k → not a ≡ false → 25 * k < length text
unfolding another_line
there text k {a} e n = ltb-true (25 * k) (length text) (sym e ∙ not-false a n)
