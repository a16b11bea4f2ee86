-- A change that leaves the values of inputs and those of other variables leaves every value.
use Rattle.std.specs.Prelude.{◌≡◌, Bool, false, ℕ, ◌<◌, eqb}
use Rattle.std.proofs.Common.{⊎_elim, eqb-true}
use Rattle.std.proofs.lemmas.Bool.{eqb-false}
use Rattle.rules_walks.proofs.laws.Pick.{test_cases}
use Rattle.rules_tables.specs.Frame.{Table, flag_at}
use Rattle.rules_tables.specs.declared.Shape.{Shape}
use Rattle.rules_tables.specs.Ids.{variables, variable_frame}
use Rattle.rules_store.specs.Word.{Store, value}
use Rattle.rules_store.specs.Part.{Part, sampled, computed, Leaves}

pub value_left : (T : Table) (S : Shape) (f : Part → Bool) (s s' : Store) → Leaves T S f s s' → f sampled ≡ false → f computed ≡ false
    → (v : ℕ) → v < variables S → value S s' v ≡ value S s v
value_left T S f s s' w a b v l =
    let flag = flag_at T (variable_frame S v) in
    ⊎_elim (λ e. w.values a v l (eqb-true flag 0 e)) (λ e. w.results b v l (eqb-false flag 0 e)) (test_cases (eqb flag 0))
