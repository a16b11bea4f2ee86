-- The guards of a transition. "Guards: 0 always; 1 to 4: d equals, differs from, is below, is at most e."
use Rattle.std.specs.Prelude.{ℕ, Bool, true, not, List, [], ◌∷◌, ℤ, get_or}
use Rattle.std.specs.Int.Signed.{lt_z, le_z}
use Rattle.rules_numbers.specs.Equal.{eq_z}
use Rattle.rules_numbers.specs.Word.{signed}
use Rattle.rules_tables.specs.Frame.{flag_at, field_at}
use Rattle.rules_tables.specs.declared.Shape.{Shape}
use Rattle.rules_store.specs.Word.{value}
use Rattle.rules_moves.specs.declared.Guard.{Guard}
use Rattle.rules_moves.specs.declared.Guard.TheVariants.{Always, Equals, Differs, Below, AtMost}

-- In the order of their numbers; d and e are variables. Always has none.
abbrev pub guards : ℕ → ℕ → List Guard
guards d e =
    Always  -- 0
    ∷ Equals d e  -- 1
    ∷ Differs d e  -- 2
    ∷ Below d e  -- 3
    ∷ AtMost d e  -- 4
    ∷ []

-- guard n; no frame of an accepted table has a number above 4
unfoldable pub guard_of : ℕ → ℕ → ℕ → Guard
guard_of n d e = get_or (guards d e) n (AtMost d e)

-- 07 "guard 0 to 4; .. d, e variables": the guard of the transition in frame f
unfoldable pub guard_at : List ℕ → ℕ → Guard
guard_at T f = guard_of (flag_at T f) (field_at T f 3) (field_at T f 4)

-- what is read of variable v: its value in the store, signed
abbrev pub signed_value : Shape → List ℕ → ℕ → ℤ
signed_value S s v = signed (value S s v)

-- whether a guard holds, by what is read of its variables; Always reads none
unfoldable pub holds : (ℕ → ℤ) → Guard → Bool
holds read Always = true
holds read (Equals d e) = eq_z (read d) (read e)
holds read (Differs d e) = not (eq_z (read d) (read e))
holds read (Below d e) = lt_z (read d) (read e)
holds read (AtMost d e) = le_z (read d) (read e)
