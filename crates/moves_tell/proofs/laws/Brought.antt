-- What an event brings, as the code finds it.
use Rattle.std.specs.Prelude.{◌≡◌, Bool, true, false, not, ℕ, ◌<◌, eqb, List, [], ◌∷◌, Option, Some, None}
use Rattle.std.proofs.Common.{refl, ◌∙◌}
use native.Mathlib.Omega.{arith}
use Rattle.rules_walks.specs.Pick.{both}
use Rattle.rules_tables.specs.Kind.{input}
use Rattle.rules_tables.specs.Frame.{field_at}
use Rattle.rules_tables.specs.declared.Shape.{Shape}
use Rattle.rules_tables.specs.Ids.{first_variable, variables, variable_frame}
use Rattle.rules_tables.specs.Owned.{belongs}
use Rattle.table_parts.specs.Found.{found_of}
use Rattle.rules_store.specs.Word.{value, buffer}
use Rattle.rules_moves.specs.Partner.{input_owner}
use Rattle.rules_moves.specs.Associated.{associated}
use Rattle.rules_traces.specs.Entry.{entry}
use Rattle.rules_traces.specs.Gather.{gather}
use Rattle.rules_traces.specs.Traceable.{Traceable}
use Rattle.moves_tell.specs.Before.{sampled_entry, passed_entries}
use Rattle.moves_tell.specs.Brought.{getter, brought_kind, brought}
use Rattle.moves_tell.proofs.laws.Taking.{pass_none, pass_one, pass_in, passed_none, passed_is, sampled_none, sampled_is}
use Rattle.moves_tell.proofs.laws.Partners.{not_sampled, not_passed, in_order}

-- who gets it is one of the table's
pub getter_in : (T : List ℕ) (S : Shape) (v : ℕ) (passed : Bool) {r : Option ℕ} → r ≡ found_of (getter passed T S v) → {u : ℕ} → r ≡ Some u → v < variables S → u < variables S
unfolding getter
getter_in T S v passed {r} e {u} d l = by passed e
  where
    by : (q : Bool) → r ≡ found_of (getter q T S v) → u < variables S
    by true h = pass_in T S 0 [] v r h d
    by false h = let z : v ≡ u = cc in rw (← z) l

module _ (T : List ℕ) (S : Shape) (i : ℕ) (s : List ℕ) (v : ℕ) where
  -- who gets it, as the search answered
  module _ (passed : Bool) {r : Option ℕ} (e : r ≡ found_of (getter passed T S v)) where
    pub brought_none : r ≡ None → [] ≡ brought passed T S i s v
    unfolding getter brought
    brought_none d = by passed e
      where
        by : (q : Bool) → r ≡ found_of (getter q T S v) → [] ≡ brought q T S i s v
        by true h = pass_none T S i s v r h d
        by false h = absurd (let z : ◌≡◌ {A = ℕ} 0 1 = cc in omega arith)

    module _ {u : ℕ} (d : r ≡ Some u) where
      module _ {b : Bool} (h : b ≡ both (associated T S i v) (not (eqb (value S s u) (buffer S s v)))) where
        pub brought_not : b ≡ false → [] ≡ brought passed T S i s v
        unfolding getter brought
        brought_not f = by passed e
          where
            by : (q : Bool) → r ≡ found_of (getter q T S v) → [] ≡ brought q T S i s v
            by true g = passed_none T S i s v u h f ∙ pass_one T S i s v r g d
            by false g = let z : u ≡ v = cc in sampled_none T S i s v (rw z at h) f

        pub brought_is : b ≡ true → {f el x k : ℕ} → f ≡ variable_frame S u → el ≡ field_at T f 0 → x ≡ buffer S s v → k ≡ brought_kind passed
            → entry k el u x ∷ [] ≡ brought passed T S i s v
        unfolding getter brought brought_kind
        brought_is t {f} {el} {x} {k} p q w c = by passed e c
          where
            by : (y : Bool) → r ≡ found_of (getter y T S v) → k ≡ brought_kind y → entry k el u x ∷ [] ≡ brought y T S i s v
            by true g c = rw c (passed_is T S i s v u h t p q w ∙ pass_one T S i s v r g d)
            by false g c = let z : u ≡ v = cc in rw (c, z) (sampled_is T S i s v (rw z at h) t (rw z at p) q w)

module _ (T : List ℕ) (S : Shape) (k : Traceable T S) (i el : ℕ) (is : el ≡ input_owner T S i) (s : List ℕ) where
  -- by another variable it brings nothing
  pub not_brought : (passed : Bool) (v : ℕ) → belongs T (first_variable S) input el v ≡ false → brought passed T S i s v ≡ []
  unfolding brought
  not_brought true v h = not_passed T S k i el is s v h
  not_brought false v h = not_sampled T S k i el is s v h

  -- all of them
  pub all_sampled : gather (brought false T S i s) (variables S) ≡ gather (sampled_entry T S i s) (variables S)
  unfolding brought
  all_sampled = refl

  pub all_passed : gather (brought true T S i s) (variables S) ≡ passed_entries T S i s
  unfolding brought passed_entries
  all_passed = in_order T S k i el is s
