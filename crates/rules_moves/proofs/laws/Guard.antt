-- A guard holds exactly where what it says is so; guard 0 holds whatever the store has.
use Rattle.std.proofs.Common.{⊎_elim, sym, ◌∙◌, subst}
use Rattle.std.specs.Prelude.{◌≡◌, Bool, true, false, List, ℕ, T, ℤ}
use Rattle.std.specs.Int.Signed.{le_z_yes, lt_z_yes}
use Rattle.rules_walks.proofs.laws.Pick.{clash, not_back, not_in, test_cases}
use Rattle.rules_numbers.specs.Equal.{eq_z}
use Rattle.rules_numbers.proofs.laws.Equal.{equal_same, same_equal}
use Rattle.rules_tables.specs.Frame.{flag_at}
use Rattle.rules_tables.specs.Ids.{transition_frame}
use Rattle.rules_tables.specs.declared.Shape.{Shape}
use Rattle.rules_moves.specs.declared.Guard.{Guard}
use Rattle.rules_moves.specs.declared.Guard.TheVariants.{Always, Equals, Differs, Below, AtMost}
use Rattle.rules_moves.specs.Guard.{guard_of, guard_at, holds}
use Rattle.rules_moves.specs.Says.{Says}
use Rattle.rules_moves.specs.Chart.{guard_holds}

so : {b : Bool} → b ≡ true → T b
so e = subst T (sym e) tt

pub holds_says : (read : ℕ → ℤ) (g : Guard) → holds read g ≡ true → Says read g
unfolding holds
holds_says read Always h = tt
holds_says read (Equals d e) h = equal_same (read d) (read e) h
holds_says read (Differs d e) h = λ same. clash (sym (not_back (eq_z (read d) (read e)) h) ∙ same_equal same)
holds_says read (Below d e) h = lt_z_yes (so h)
holds_says read (AtMost d e) h = le_z_yes (so h)

pub fails_says : (read : ℕ → ℤ) (g : Guard) → holds read g ≡ false → Says read g → ⊥
unfolding holds
fails_says read Always h s = clash (sym h)
fails_says read (Equals d e) h s = clash (sym h ∙ same_equal s)
fails_says read (Differs d e) h s = ⊎_elim (λ same. s (equal_same (read d) (read e) same)) (λ other. clash (sym h ∙ not_in (eq_z (read d) (read e)) other)) (test_cases (eq_z (read d) (read e)))
fails_says read (Below d e) h s = subst T h s.lt
fails_says read (AtMost d e) h s = subst T h s.le

pub always_holds : (t : List ℕ) (S : Shape) (s : List ℕ) (j : ℕ) → flag_at t (transition_frame S j) ≡ 0 → guard_holds t S s j ≡ true
unfolding guard_holds guard_at guard_of holds
always_holds t S s j e = rw e
