-- How many variables belong to the elements passed, so how much room their lines take: each variable has one element.
use mathlib.Core.Path.{◌≡◌}
use mathlib.Core.Bool.{true}
use mathlib.Core.Logic.{⊎_elim}
use Prim.Native.Nat.{ℕ, zero, suc, ◌+◌, ◌≤◌, ◌<◌}
use native.Mathlib.Numerals.{add-one}
use native.Mathlib.Omega.{arith}
use borrow.Author.Tests.{eq-eqb, ne_eqb, lt-ltb, le-ltb}
use Rattle.rules_walks.specs.Count.{count_if}
use Rattle.rules_walks.proofs.laws.Count.{count_none, count_hit, count_miss, count_le, count_mono}
use Rattle.rules_walks.proofs.laws.Pick.{tri}
use Rattle.rules_tables.specs.Frame.{Table}
use Rattle.rules_tables.specs.declared.Shape.{Shape}
use Rattle.rules_tables.specs.Ids.{variables}
use Rattle.rules_moves.specs.Partner.{variable_owner}
use Rattle.session_trace.specs.Owned.{owned, owned_before, owned_count, before_count}

module _ (T : Table) (S : Shape) (el : ℕ) where
  split : (n : ℕ) → count_if (owned_before T S (el + 1)) n ≡ count_if (owned_before T S el) n + count_if (owned T S el) n
  unfolding owned owned_before
  split zero = rw (count_none (owned_before T S (el + 1)), count_none (owned_before T S el), count_none (owned T S el))
  split (suc n) =
      let h = split n in
      rw (← add-one n)
      (⊎_elim
      (λ l.
      let a = count_hit (owned_before T S (el + 1)) n (lt-ltb (variable_owner T S n) (el + 1) (omega arith)) in
      let b = count_hit (owned_before T S el) n (lt-ltb (variable_owner T S n) el l) in
      let c = count_miss (owned T S el) n (ne_eqb (variable_owner T S n) el (λ e. omega arith)) in
      omega arith)
      (⊎_elim
      (λ e.
      let a = count_hit (owned_before T S (el + 1)) n (lt-ltb (variable_owner T S n) (el + 1) (omega arith)) in
      let b = count_miss (owned_before T S el) n (le-ltb (variable_owner T S n) el (omega arith)) in
      let c = count_hit (owned T S el) n (eq-eqb (variable_owner T S n) el e) in
      omega arith)
      (λ g.
      let a = count_miss (owned_before T S (el + 1)) n (le-ltb (variable_owner T S n) (el + 1) (omega arith)) in
      let b = count_miss (owned_before T S el) n (le-ltb (variable_owner T S n) el (omega arith)) in
      let c = count_miss (owned T S el) n (ne_eqb (variable_owner T S n) el (λ e. omega arith)) in
      omega arith)) (tri (variable_owner T S n) el))

  pub before_next : before_count T S (el + 1) ≡ before_count T S el + owned_count T S el
  unfolding before_count owned_count
  before_next = split (variables S)

  pub before_most : before_count T S el ≤ variables S
  unfolding before_count
  before_most = count_le (owned_before T S el) (variables S)

  -- one more has room
  pub owned_room : (v : ℕ) → v < variables S → owned T S el v ≡ true → count_if (owned T S el) v + 1 ≤ owned_count T S el
  unfolding owned_count
  owned_room v l e = let a = count_hit (owned T S el) v e in let b = count_mono (owned T S el) (v + 1) (variables S) (omega arith) in omega arith
