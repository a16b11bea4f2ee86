-- What an interface's event passes on: the partner of an input gets what the input holds where the input is associated with the event; no other variable
-- changes. Rests on partners being apart: two inputs have no partner in common.
use Rattle.std.specs.Prelude.{◌≡◌, Bool, true, false, eqb, length}
use Rattle.std.proofs.Math.Path.{refl, ap}
use Rattle.std.proofs.Common.{sym, ◌∙◌, arith}
use mathlib.Core.List.{List}
use Prim.Native.Nat.{ℕ, ◌≤◌, ◌<◌}
use borrow.Author.Tests.{eqb-true, eqb-false, eq-eqb}
use Rattle.rules_walks.specs.Pick.{both, either}
use Rattle.rules_walks.proofs.laws.Pick.{both_right, both_intro, either_true, either_false, clash}
use Rattle.rules_walks.specs.Choose.{choose}
use Rattle.rules_walks.proofs.laws.Choose.{by_choose}
use Rattle.rules_walks.specs.All.{any_to}
use Rattle.rules_walks.specs.First.{Sought, one, missing}
use Rattle.rules_walks.proofs.laws.Walk.{up_to_keeps, up_to_carries}
use Rattle.rules_tables.specs.Kind.{input, output, of_input}
use Rattle.rules_tables.specs.Frame.{flag_at, field_at}
use Rattle.rules_tables.specs.declared.Shape.{Shape}
use Rattle.rules_tables.specs.Ids.{first_variable, variables, associations, association_frame, variable_frame}
use Rattle.rules_tables.specs.Owned.{belongs, rank}
use Rattle.rules_tables.proofs.laws.Owned.{nth_own, nth_belongs, nth_rank}
use Rattle.rules_tables.specs.Good.{Good}
use Rattle.rules_store.specs.Layout.{need}
use Rattle.rules_store.specs.Word.{value, put_value}
use Rattle.rules_store.proofs.laws.Word.{value_put_value}
use Rattle.rules_store.proofs.laws.Own.{value_put}
use Rattle.rules_store.proofs.laws.Writer.{leaves_value}
use Rattle.rules_store.specs.Part.{everything}
use Rattle.rules_moves.specs.Partner.{variable_owner, partner_variable}
use Rattle.rules_moves.proofs.laws.Partner.{partner_output_lem}
use Rattle.rules_moves.specs.Carry.{voice, speaks}
use Rattle.rules_moves.proofs.laws.Carry.{of_input_lem}
use Rattle.rules_moves.specs.Associated.{joins_variable, associated}
use Rattle.rules_moves.specs.Take.{pass_to, pass, passes}

module _ (T : List ℕ) (S : Shape) where
  -- ---- partners
  -- the partner is of the same element
  pub partner_owner : (v u : ℕ) → partner_variable T S v ≡ one u → variable_owner T S u ≡ variable_owner T S v
  unfolding partner_variable belongs
  partner_owner v u e =
      let h = nth_belongs T (first_variable S) (variables S) output (variable_owner T S v) (rank T (first_variable S) input (variable_owner T S v) v) u e in
      eqb-true (variable_owner T S u) (variable_owner T S v) (both_right (eqb (flag_at T (variable_frame S u)) output) (eqb (variable_owner T S u) (variable_owner T S v)) h)

  -- and has as many outputs before it as the input has inputs
  pub partner_level : (v u : ℕ) → partner_variable T S v ≡ one u → rank T (first_variable S) output (variable_owner T S v) u ≡ rank T (first_variable S) input (variable_owner T S v) v
  unfolding partner_variable
  partner_level v u e = nth_rank T (first_variable S) (variables S) output (variable_owner T S v) (rank T (first_variable S) input (variable_owner T S v) v) u e

  input_belongs : (v : ℕ) → flag_at T (variable_frame S v) ≡ input → belongs T (first_variable S) input (variable_owner T S v) v ≡ true
  unfolding belongs
  input_belongs v e = both_intro _ _ (eq-eqb _ _ e) (eq-eqb (variable_owner T S v) (variable_owner T S v) refl)

  one_one : {a b : ℕ} → one a ≡ one b → a ≡ b
  one_one {a} e = ap (λ (q : Sought). or_zero q) e
    where
      or_zero : Sought → ℕ
      or_zero (one x) = x
      or_zero missing = 0

  pub partner_apart : (v w u : ℕ) → v < variables S → w < variables S → flag_at T (variable_frame S v) ≡ input → flag_at T (variable_frame S w) ≡ input
      → partner_variable T S v ≡ one u → partner_variable T S w ≡ one u → v ≡ w
  partner_apart v w u lv lw iv iw p q =
      let o : variable_owner T S w ≡ variable_owner T S v = sym (partner_owner w u q) ∙ partner_owner v u p in
      let a = nth_own T (first_variable S) (variables S) input (variable_owner T S v) v lv (input_belongs v iv) in
      let b = nth_own T (first_variable S) (variables S) input (variable_owner T S v) w lw (rw o at (input_belongs w iw)) in
      let l : rank T (first_variable S) input (variable_owner T S v) v ≡ rank T (first_variable S) input (variable_owner T S v) w
      = sym (partner_level v u p) ∙ (rw o at (partner_level w u q)) in
      one_one (sym a ∙ (rw (← l) at b))

  -- ---- the value of a partner
  module _ (g : Good T S) (i v u : ℕ) (x : List ℕ) (lv : v < variables S) (iv : flag_at T (variable_frame S v) ≡ input) (partner : partner_variable T S v ≡ one u) where
    record Passed (b : Bool) (y : List ℕ) : Type 0 where
      pub long : need S ≤ length y
      pub source : value S y v ≡ value S x v
      pub is : value S y u ≡ choose b (value S x v) (value S x u)

    -- an input is no partner
    not_partner : (w : ℕ) → flag_at T (variable_frame S w) ≡ output → (v ≡ w → ⊥)
    not_partner w e z = let q : flag_at T (variable_frame S v) ≡ output = rw z e in omega arith

    apart : (j w : ℕ) → j < associations S → speaks T S (voice of_input i) j ≡ true → (field_at T (association_frame S j) 1 ≡ v → ⊥) → partner_variable T S (field_at T (association_frame S j) 1) ≡ one w → u ≡ w → ⊥
    apart j w l h n e z =
        n (partner_apart (field_at T (association_frame S j) 1) v u (g.association_variable j l) lv (g.association_input j l (of_input_lem T S i j h)) iv (rw (← z) at e) partner)

    turn : (y : List ℕ) (b : Bool) (j : ℕ) → j < associations S → Passed b y → Passed (either b (joins_variable T S i v j)) (pass T S i j y)
    unfolding joins_variable pass choose pass_to
    turn y b j l m =
        by (speaks T S (voice of_input i) j) (eqb (field_at T (association_frame S j) 1) v) (partner_variable T S (field_at T (association_frame S j) 1)) refl refl refl
      where
        a : ℕ
        a = field_at T (association_frame S j) 1

        longer : (w z : ℕ) → w < variables S → need S ≤ length (put_value S w z y)
        longer w z h = let p = m.long in let q = (leaves_value T S everything y w z h (λ e. clash (sym e)) (λ e. clash (sym e))).long in omega arith

        by : (c d : Bool) (q : Sought) → speaks T S (voice of_input i) j ≡ c → eqb a v ≡ d → partner_variable T S a ≡ q
            → Passed (either b (both c d)) (choose c (pass_to S q a y) y)
        by true true (one w) h e q =
            let z : a ≡ v = eqb-true a v e in
            let uw : w ≡ u = one_one (sym q ∙ (rw (sym z) at partner)) in
            let r = partner_output_lem T S a w q in
            record {
              long = longer w (value S y a) r.0;
              source = value_put_value S y w v (value S y a) (not_partner w r.1) ∙ m.source;
              is =
                  ap (value S (put_value S w (value S y a) y)) (sym uw) ∙ value_put S y m.long w (value S y a) r.0
                  ∙ ap (value S y) z ∙ m.source ∙ sym (ap (λ (k : Bool). choose k (value S x v) (value S x u)) (either_true b));
            }
        by true true missing h e q = let z : a ≡ v = eqb-true a v e in clash (no (sym q ∙ (rw (sym z) at partner)))
          where
            no : {k : ℕ} → missing ≡ one k → false ≡ true
            no w = ap (λ (s : Sought). found s) w
              where
                found : Sought → Bool
                found (one k) = true
                found missing = false
        by true false (one w) h e q =
            let r = partner_output_lem T S a w q in
            record {
              long = longer w (value S y a) r.0;
              source = value_put_value S y w v (value S y a) (not_partner w r.1) ∙ m.source;
              is =
                  value_put_value S y w u (value S y a) (apart j w l h (eqb-false a v e) q) ∙ m.is
                  ∙ sym (ap (λ (k : Bool). choose k (value S x v) (value S x u)) (either_false b));
            }
        by true false missing h e q =
            record { long = m.long; source = m.source; is = m.is ∙ sym (ap (λ (k : Bool). choose k (value S x v) (value S x u)) (either_false b)) }
        by false d q h e r =
            record { long = m.long; source = m.source; is = m.is ∙ sym (ap (λ (k : Bool). choose k (value S x v) (value S x u)) (either_false b)) }

    pub passed_value : need S ≤ length x → value S (passes T S i x) u ≡ choose (associated T S i v) (value S x v) (value S x u)
    unfolding any_to choose
    passed_value long =
        let w =
        up_to_carries (λ (n : ℕ) (y : List ℕ). Passed (any_to (joins_variable T S i v) n) y) (pass T S i) (associations S) x
        (λ j l y m. turn y (any_to (joins_variable T S i v) j) j l m)
        (record { long = long; source = refl; is = refl }) in
        w.is

  -- ---- a variable that is no partner of an associated input
  pub passed_none : (i u : ℕ) (x : List ℕ) → ((j : ℕ) → j < associations S → speaks T S (voice of_input i) j ≡ true → partner_variable T S (field_at T (association_frame S j) 1) ≡ one u → ⊥)
      → value S (passes T S i x) u ≡ value S x u
  unfolding pass pass_to
  passed_none i u x none =
      up_to_keeps (λ (y : List ℕ). value S y u ≡ value S x u) (pass T S i) (associations S) x
      (λ j l y m.
      by_choose (λ (z : List ℕ). value S z u ≡ value S x u) (speaks T S (voice of_input i) j) _ y
      (λ h. to j y (none j l h) (partner_variable T S (field_at T (association_frame S j) 1)) refl ∙ m) (λ _. m))
      refl
    where
      to : (j : ℕ) (y : List ℕ) → (partner_variable T S (field_at T (association_frame S j) 1) ≡ one u → ⊥) → (q : Sought) → partner_variable T S (field_at T (association_frame S j) 1) ≡ q
          → value S (pass_to S q (field_at T (association_frame S j) 1) y) u ≡ value S y u
      to j y n (one w) e = value_put_value S y w u (value S y (field_at T (association_frame S j) 1)) (λ z. n (e ∙ ap one (sym z)))
      to j y n missing e = refl
