-- Which variable an association has the event carry, of associations that speak for it; and what is left out does nothing.
use Rattle.std.specs.Prelude.{◌≡◌, refl, List, Bool, true, false, ℕ, zero, suc, ◌+◌, ◌≤◌, eqb}
use Rattle.std.proofs.Common.{sym, ◌∙◌, arith, ne_eqb}
use Rattle.std.proofs.lemmas.Bool.{eqb-false}
use Rattle.rules_walks.specs.Pick.{pick}
use Rattle.rules_walks.specs.First.{Sought, one, missing}
use Rattle.rules_walks.proofs.laws.Choose.{choose_false}
use Rattle.rules_walks.specs.Walk.{up_to}
use Rattle.rules_walks.proofs.laws.Walk.{up_to_same}
use Rattle.rules_tables.specs.Kind.{none, interface, of_output}
use Rattle.rules_tables.specs.Frame.{flag_at, field_at}
use Rattle.rules_tables.specs.declared.Shape.{Shape}
use Rattle.rules_tables.specs.Ids.{first_association, first_connection, first_link, association_frame, links}
use Rattle.rules_tables.specs.Good.{Good}
use Rattle.rules_tables.specs.Owned.{any, belongs}
use Rattle.rules_moves.specs.declared.Voice.{Voice}
use Rattle.rules_moves.specs.Partner.{output_owner, partner_input, partner_variable}
use Rattle.rules_moves.specs.Carry.{voice, heard_from, voice_of, speaks, or_none, carried_by}
use Rattle.rules_moves.specs.Fire.{connect, copy_if}
use Rattle.moves_fire.specs.Carried.{copies_from}

-- an association speaks for an event where it belongs to it under its flag
pub speaks_belongs : (T : List ℕ) (S : Shape) (g e j : ℕ) → g ≤ 2 → speaks T S (voice g e) j ≡ belongs T (first_association S) g e j
unfolding speaks belongs
speaks_belongs T S g e j l = rw (ne_eqb g any (λ z. omega arith))

-- ---- what is left out
pub connect_idle : (T : List ℕ) (S : Shape) (o birth time j : ℕ) → belongs T (first_connection S) any o j ≡ false → (s : List ℕ) → connect T S o birth time j s ≡ s
unfolding connect belongs
connect_idle T S o birth time j e s = choose_false _ _ _ e

pub copy_idle : (T : List ℕ) (S : Shape) (v j : ℕ) → belongs T (first_link S) any v j ≡ false → (s : List ℕ) → copy_if T S (eqb v) j s ≡ s
unfolding copy_if belongs
copy_idle T S v j e s = choose_false _ _ _ (ne_eqb v (field_at T (first_link S + j) 0) (λ z. eqb-false (field_at T (first_link S + j) 0) v e (sym z)))

still : (n : ℕ) (s : List ℕ) → up_to (λ (j : ℕ) (x : List ℕ). x) n s ≡ s
unfolding up_to
still zero s = refl
still (suc n) s = still n s

-- no data connection runs from no variable
pub copies_none : (T : List ℕ) (S : Shape) → Good T S → (s : List ℕ) → copies_from T S none s ≡ s
unfolding copy_if
copies_none T S g s =
    up_to_same _ (λ (j : ℕ) (x : List ℕ). x) (links S) s (λ j l x. choose_false _ _ _ (ne_eqb none (field_at T (first_link S + j) 0) (λ z. let h = g.link_source j l in let f = g.few_variables in omega arith)))
    ∙ still (links S) s

-- ---- what one association has the event carry
pub carried_none : (T : List ℕ) (S : Shape) (w : Voice) (j : ℕ) → speaks T S w j ≡ false → carried_by T S w j ≡ none
unfolding carried_by
carried_none T S w j e = rw e

pub carried_idle : (T : List ℕ) (S : Shape) (g e j : ℕ) → Good T S → g ≤ 2 → belongs T (first_association S) g e j ≡ false → (s : List ℕ) → copies_from T S (carried_by T S (voice g e) j) s ≡ s
carried_idle T S g e j good l b s = rw (carried_none T S (voice g e) j (speaks_belongs T S g e j l ∙ b)) (copies_none T S good s)

-- an event output of its own: the variable itself
pub carried_own : (T : List ℕ) (S : Shape) (o j : ℕ) → speaks T S (voice 1 o) j ≡ true → field_at T (association_frame S j) 1 ≡ carried_by T S (voice 1 o) j
unfolding carried_by
carried_own T S o j e = rw e

-- an interface's: its partner
pub carried_partner : (T : List ℕ) (S : Shape) (i j : ℕ) → speaks T S (voice 0 i) j ≡ true
    → or_none (partner_variable T S (field_at T (association_frame S j) 1)) ≡ carried_by T S (voice 0 i) j
unfolding carried_by
carried_partner T S i j e = rw e

-- a voice has one of the flags, or the one that no association has
pub voice_flag : (T : List ℕ) (S : Shape) (o : ℕ) → (voice_of T S o).flag ≤ 2
unfolding voice_of
voice_flag T S o = by (eqb (flag_at T (output_owner T S o)) interface) (partner_input T S o)
  where
    by : (b : Bool) (y : Sought) → (pick b (heard_from y) (voice of_output o)).flag ≤ 2
    by true (one i) = omega arith
    by true missing = omega arith
    by false y = omega arith
