-- What each move changes of chart states and values, from the store before it. Rests on what each change leaves (rules_moves, laws) and on the store having
-- its need.
use Rattle.std.specs.Prelude.{◌≡◌, Bool, true, false, ℕ, ◌≤◌, ◌<◌, eqb, length}
use Rattle.std.proofs.Math.Path.{refl, ap}
use Rattle.std.proofs.Common.{sym, ◌∙◌, arith, eq-eqb, ne_eqb, eqb-true}
use mathlib.Core.List.{List, [], ◌∷◌, ◌++◌, append-nil}
use Rattle.std.proofs.lemmas.Bool.{eqb-false}
use Rattle.rules_walks.proofs.laws.Pick.{clash}
use Rattle.rules_walks.proofs.laws.Choose.{choose_true, choose_false, by_choose}
use Rattle.rules_tables.specs.Kind.{input, output, internal}
use Rattle.rules_tables.specs.Frame.{flag_at, field_at}
use Rattle.rules_tables.specs.declared.Shape.{Shape}
use Rattle.rules_tables.specs.Ids.{elements, variables, variable_frame, transition_frame}
use Rattle.rules_tables.specs.Lawful.{Lawful}
use Rattle.rules_tables.specs.Actions.{action_number}
use Rattle.rules_store.specs.declared.Running.{Running}
use Rattle.rules_store.specs.Layout.{need}
use Rattle.rules_store.specs.Running.{entered}
use Rattle.rules_store.specs.Word.{chart_state, put_chart_state, value, put_value, put_running}
use Rattle.rules_store.proofs.laws.Own.{chart_put, chart_other, value_put}
use Rattle.rules_store.proofs.laws.Word.{value_put_value}
use Rattle.rules_store.specs.Part.{Part, block, count, untrues, chart, sampled as «samples_part», computed, buffered, just, also, Leaves}
use Rattle.rules_store.specs.Part.{input as «inputs_part»}
use Rattle.rules_store.proofs.laws.Part.{leaves_then}
use Rattle.rules_store.proofs.laws.Writer.{leaves_running, leaves_value as «Writer·leaves-value»}
use Rattle.rules_moves.specs.Partner.{variable_owner}
use Rattle.rules_moves.specs.Chart.{change, go_idle}
use Rattle.rules_moves.specs.Act.{count_untrue, end_move}
use Rattle.rules_moves.proofs.laws.Moving.{change_leaves, idle_leaves, count_leaves, end_leaves}
use Rattle.rules_traces.specs.declared.Entry.{Entry}
use Rattle.rules_traces.specs.Gather.{gather}
use Rattle.rules_traces.specs.Kinds.{chart_kind, internal_kind, input_kind, output_kind}
use Rattle.rules_traces.specs.Entry.{entry}
use Rattle.rules_traces.specs.Trace.{differing, chart_entry, value_entry, changes}
use Rattle.rules_traces.proofs.laws.Gather.{gather_empty, gather_one}

-- ---- a value that stays has no frame
pub same_differing : (kind el id : ℕ) {a b : ℕ} → b ≡ a → differing a (entry kind el id b) ≡ []
unfolding differing
same_differing kind el id {a} {b} e = choose_true _ [] (entry kind el id b ∷ []) (eq-eqb a b (sym e))

module _ (T : List ℕ) (S : Shape) where
  module _ (s s' : List ℕ) where
    pub same_chart : (el : ℕ) → chart_state s' el ≡ chart_state s el → chart_entry s s' el ≡ []
    unfolding chart_entry
    same_chart el e = same_differing chart_kind el 0 e

    pub same_value : (role kind v : ℕ) → value S s' v ≡ value S s v → value_entry T S role kind s s' v ≡ []
    unfolding value_entry
    same_value role kind v e =
        by_choose (λ (x : List Entry). x ≡ []) (eqb (flag_at T (variable_frame S v)) role) _ [] (λ _. same_differing kind (variable_owner T S v) v e) (λ _. refl)

    -- a variable of another role has none
    pub other_role : (role kind v : ℕ) → (flag_at T (variable_frame S v) ≡ role → ⊥) → value_entry T S role kind s s' v ≡ []
    unfolding value_entry
    other_role role kind v n = choose_false _ _ [] (ne_eqb _ role n)

    -- where it has the role
    pub own_role : (role kind v : ℕ) → flag_at T (variable_frame S v) ≡ role
        → value_entry T S role kind s s' v ≡ differing (value S s v) (entry kind (variable_owner T S v) v (value S s' v))
    unfolding value_entry
    own_role role kind v e = choose_true _ _ [] (eq-eqb _ role e)

    -- ---- stores with the same chart states, or the same values
    charts_same : ((el : ℕ) → el < elements S → chart_state s' el ≡ chart_state s el) → gather (chart_entry s s') (elements S) ≡ []
    charts_same h = gather_empty (chart_entry s s') (elements S) (λ el l. same_chart el (h el l))

    values_same : ((v : ℕ) → v < variables S → value S s' v ≡ value S s v) → (role kind : ℕ) → gather (value_entry T S role kind s s') (variables S) ≡ []
    values_same h role kind = gather_empty (value_entry T S role kind s s') (variables S) (λ v l. same_value role kind v (h v l))

    -- by parts
    leaves_value : (f : Part → Bool) → Leaves T S f s s' → f «samples_part» ≡ false → f computed ≡ false → (v : ℕ) → v < variables S → value S s' v ≡ value S s v
    leaves_value f w a b v l = by (eqb (flag_at T (variable_frame S v)) 0) refl
      where
        by : (c : Bool) → eqb (flag_at T (variable_frame S v)) 0 ≡ c → value S s' v ≡ value S s v
        by true e = w.values a v l (eqb-true _ 0 e)
        by false e = w.results b v l (eqb-false _ 0 e)

    pub no_changes : (f : Part → Bool) → Leaves T S f s s' → f chart ≡ false → f «samples_part» ≡ false → f computed ≡ false → changes T S s s' ≡ []
    unfolding changes
    no_changes f w c a b =
        rw (charts_same (w.charts c), values_same (leaves_value f w a b) internal internal_kind, values_same (leaves_value f w a b) input input_kind, values_same (leaves_value f w a b) output output_kind)

    -- one value that may change: that of variable v
    pub one_change : (v : ℕ) → v < variables S → ((el : ℕ) → el < elements S → chart_state s' el ≡ chart_state s el)
        → ((u : ℕ) → u < variables S → (u ≡ v → ⊥) → value S s' u ≡ value S s u)
        → changes T S s s' ≡ value_entry T S internal internal_kind s s' v ++ value_entry T S input input_kind s s' v ++ value_entry T S output output_kind s s' v
    unfolding changes
    one_change v l c h =
        rw (charts_same c, only internal internal_kind, only input input_kind, only output output_kind)
      where
        only : (role kind : ℕ) → gather (value_entry T S role kind s s') (variables S) ≡ value_entry T S role kind s s' v
        only role kind = gather_one (value_entry T S role kind s s') v (variables S) l (λ u m n. same_value role kind u (h u m n))

    -- one chart state that may change: that of element el
    pub one_chart : (el : ℕ) → el < elements S → ((c : ℕ) → c < elements S → (c ≡ el → ⊥) → chart_state s' c ≡ chart_state s c)
        → ((u : ℕ) → u < variables S → value S s' u ≡ value S s u) → changes T S s s' ≡ chart_entry s s' el
    unfolding changes
    one_chart el l h same =
        rw (gather_one (chart_entry s s') el (elements S) l (λ c m n. same_chart c (h c m n)), values_same same internal internal_kind, values_same same input input_kind, values_same same output output_kind)
        (simp append-nil)

  module _ (k : Lawful T S) (s : List ℕ) where
    -- ---- moves 3, 5, 6: nothing
    pub idle_changes : changes T S s (go_idle s) ≡ []
    idle_changes = no_changes s (go_idle s) (just block) (idle_leaves T S k (just block) refl s) refl refl refl

    pub back_changes : (r : Running) → changes T S s (put_running r s) ≡ []
    back_changes r = no_changes s (put_running r s) (just block) (leaves_running T S (just block) s r refl) refl refl refl

    abbrev fired : Part → Bool
    fired = also block (also «inputs_part» (also count (just buffered)))

    pub end_changes : (t q : ℕ) (r : Running) (j : ℕ) → changes T S s (end_move T S t q r j s) ≡ []
    end_changes t q r j = no_changes s (end_move T S t q r j s) fired (end_leaves T S k fired refl refl refl refl t q r j s) refl refl refl

    module _ (long : need S ≤ length s) where
      -- ---- move 2: the chart state of the running element
      pub change_changes : (el j : ℕ) (r : Running) → el < elements S
          → changes T S s (change T S el r j s) ≡ differing (chart_state s el) (entry chart_kind el 0 (field_at T (transition_frame S j) 1))
      unfolding change chart_entry
      change_changes el j r l =
          let q = field_at T (transition_frame S j) 1 in
          let x = put_chart_state el q s in
          let n = entered (action_number T S q 1) r in
          let y = put_running n x in
          let w = change_leaves T S k (also block (just chart)) refl refl el r j s l in
          let z = leaves_running T S (just block) x n refl in
          one_chart s y el l (λ c m ne. z.charts refl c m ∙ chart_other S s el c q ne) (leaves_value s y (also block (just chart)) w refl refl)
          ∙ ap (λ (a : ℕ). differing (chart_state s el) (entry chart_kind el 0 a)) (z.charts refl el l ∙ chart_put S s long el q l)

      -- ---- move 4: the value of variable v, which gets x; u untrue steps are counted, and have no frame
      module _ (v x u : ℕ) (r : Running) (l : v < variables S) where
        abbrev put : List ℕ
        put = put_running r (count_untrue u (put_value S v x s))

        abbrev uncounted : Part → Bool
        uncounted = also block (just untrues)

        rest : Leaves T S uncounted (put_value S v x s) put
        rest =
            let y = put_value S v x s in
            leaves_then T S uncounted y (count_untrue u y) put (leaves_running T S uncounted (count_untrue u y) r refl) (count_leaves T S k uncounted refl u y)

        put_value_lem : value S put v ≡ x
        put_value_lem = leaves_value (put_value S v x s) put uncounted rest refl refl v l ∙ value_put S s long v x l

        put_chart : (el : ℕ) → el < elements S → chart_state put el ≡ chart_state s el
        put_chart el h = rest.charts refl el h ∙ («Writer·leaves-value» T S (also «samples_part» (just computed)) s v x l (λ e. clash (sym e)) (λ e. clash (sym e))).charts refl el h

        -- the frame of a variable in this role
        in_role : (role kind : ℕ) → flag_at T (variable_frame S v) ≡ role → value_entry T S role kind s put v ≡ differing (value S s v) (entry kind (variable_owner T S v) v x)
        in_role role kind e = own_role s put role kind v e ∙ ap (λ (a : ℕ). differing (value S s v) (entry kind (variable_owner T S v) v a)) put_value_lem

        alone : changes T S s put ≡ value_entry T S internal internal_kind s put v ++ value_entry T S input input_kind s put v ++ value_entry T S output output_kind s put v
        alone = one_change s put v l put_chart (λ u m n. leaves_value (put_value S v x s) put uncounted rest refl refl u m ∙ value_put_value S s v u x n)

        pub internal_changes : flag_at T (variable_frame S v) ≡ internal → changes T S s put ≡ differing (value S s v) (entry internal_kind (variable_owner T S v) v x)
        internal_changes e =
            alone ∙ rw (in_role internal internal_kind e, other_role s put input input_kind v (λ z. omega arith), other_role s put output output_kind v (λ z. omega arith)) (simp append-nil)

        pub output_changes : flag_at T (variable_frame S v) ≡ output → changes T S s put ≡ differing (value S s v) (entry output_kind (variable_owner T S v) v x)
        output_changes e =
            alone ∙ rw (in_role output output_kind e, other_role s put internal internal_kind v (λ z. omega arith), other_role s put input input_kind v (λ z. omega arith))
