-- One turn of each loop: what the code read and called, as equations over variables, makes the walk's next step.
use mathlib.Core.Path.{◌≡◌, sym, ap}
use mathlib.Core.List.{List}
use mathlib.Core.Bool.{true}
use Prim.Native.Nat.{ℕ, ◌≤◌, ◌<◌}
use native.Mathlib.Omega.{arith}
use borrow.Author.Tests.{eq-eqb}
use lib.Dec.{eqb}
use Rattle.rules_walks.proofs.laws.Choose.{choose_true}
use Rattle.rules_tables.specs.Frame.{field_at}
use Rattle.rules_tables.specs.declared.Shape.{Shape}
use Rattle.rules_tables.specs.Ids.{first_connection, first_link, connection_frame, link_frame}
use Rattle.rules_tables.specs.Owned.{any, belongs, nth}
use Rattle.rules_store.specs.Word.{value, put_buffer}
use Rattle.rules_moves.specs.Fire.{mark, connect, copy_if}
use Rattle.table_index.specs.Leads.{or_end}
use Rattle.table_index.proofs.laws.Nth.{nth_at, nth_past}
use Rattle.table_index.proofs.laws.Owned.{any_owner}
use Rattle.std.specs.Prelude.{Some, None}
use Rattle.table_parts.specs.Found.{found_of}

-- one event connection of the output
pub connect_take : (T : List ℕ) (S : Shape) (o birth time j : ℕ) (s s' : List ℕ) {f y : ℕ} → belongs T (first_connection S) any o j ≡ true → f ≡ connection_frame S j → y ≡ field_at T f 1
    → s' ≡ mark S birth time y s → s' ≡ connect T S o birth time j s
unfolding connect
connect_take T S o birth time j s s' b a r u = rw (choose_true _ _ _ (eq-eqb _ _ (any_owner T (first_connection S) o j b)), ← a, ← r) u

-- one data connection of the variable
pub copy_take : (T : List ℕ) (S : Shape) (v j : ℕ) (s s' : List ℕ) {f x y : ℕ} → belongs T (first_link S) any v j ≡ true → f ≡ link_frame S j → x ≡ value S s v → y ≡ field_at T f 1
    → s' ≡ put_buffer S y x s → s' ≡ copy_if T S (eqb v) j s
unfolding copy_if
copy_take T S v j s s' b a q r u =
    let e = any_owner T (first_link S) v j b in rw (choose_true _ _ _ (eq-eqb v (field_at T (link_frame S j) 0) (sym e)), e, ← a, ← r, ← q) u

-- a partner that was read
module _ (T : List ℕ) (first n g x k : ℕ) {o m : ℕ} (e : o ≡ or_end n (nth T first n g x k)) (z : m ≡ n) where
  pub partner_one : o < m → Some o ≡ found_of (nth T first n g x k)
  partner_one l = sym (ap found_of (nth_at T first n g x k e (omega arith)))

  pub partner_missing : m ≤ o → None ≡ found_of (nth T first n g x k)
  partner_missing l = sym (ap found_of (nth_past T first n g x k e (omega arith)))
