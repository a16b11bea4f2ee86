-- What taking an event changes: inputs that are associated with it get value from buffer, and an interface's outputs what their partners got. Rests on
-- `sampled_value` (rules_moves, laws/Taking) and on what is passed (laws/Passed).
use Rattle.std.specs.Prelude.{◌≡◌, Bool, true, false, eqb, length}
use Rattle.std.proofs.Math.Path.{refl, ap, subst}
use Rattle.std.proofs.Common.{sym, ◌∙◌, arith}
use mathlib.Core.List.{List, [], ◌++◌, append-nil}
use Prim.Native.Nat.{ℕ, ◌≤◌, ◌<◌}
use borrow.Author.Tests.{eq-eqb, ne_eqb, eqb-true, eqb-false}
use Rattle.rules_walks.proofs.laws.Pick.{both_left, both_right}
use Rattle.rules_walks.specs.Choose.{choose}
use Rattle.rules_walks.proofs.laws.Choose.{choose_true, choose_false, by_choose}
use Rattle.rules_walks.proofs.laws.All.{any_witness}
use Rattle.rules_walks.specs.First.{one}
use Rattle.rules_tables.specs.Kind.{basic, interface, delay, input, output, internal, of_input}
use Rattle.rules_tables.specs.Frame.{flag_at, field_at}
use Rattle.rules_tables.specs.declared.Shape.{Shape}
use Rattle.rules_tables.specs.Ids.{elements, inputs, variables, associations, association_frame, variable_frame}
use Rattle.rules_tables.specs.Lawful.{Lawful}
use Rattle.rules_store.specs.Layout.{need}
use Rattle.rules_store.specs.Word.{chart_state, value, buffer, birth_of}
use Rattle.rules_store.specs.Part.{Part, block, count, due, sampled as «samples_part», computed, buffered, just, also, everything, Leaves}
use Rattle.rules_store.specs.Part.{input as «inputs_part»}
use Rattle.rules_store.proofs.laws.Part.{leaves_all}
use Rattle.rules_moves.specs.Partner.{input_owner, variable_owner, partner_variable}
use Rattle.rules_moves.proofs.laws.Partner.{partner_output_lem}
use Rattle.rules_moves.specs.Carry.{voice, speaks}
use Rattle.rules_moves.proofs.laws.Carry.{of_input_lem}
use Rattle.rules_moves.specs.Associated.{joins_variable, associated}
use Rattle.rules_moves.specs.Take.{sampled, passes, start_stop, wake, settle, settled, fired_by, taken}
use Rattle.rules_moves.proofs.laws.Taking.{sampled_value, sampled_leaves, passes_leaves, start_stop_leaves, wake_leaves, settled_leaves, fire_found_leaves}
use Rattle.rules_traces.specs.Gather.{gather}
use Rattle.rules_traces.specs.Kinds.{input_kind, output_kind, internal_kind}
use Rattle.rules_traces.specs.Entry.{entry}
use Rattle.rules_traces.specs.Trace.{differing, chart_entry, value_entry, changes}
use Rattle.rules_traces.proofs.laws.Gather.{gather_empty}
use Rattle.rules_traces.proofs.laws.Changes.{same_chart, same_value, own_role, other_role}
use Rattle.rules_traces.proofs.laws.Passed.{passed_value, passed_none}

module _ (T : List ℕ) (S : Shape) (k : Lawful T S) (i t : ℕ) (s : List ℕ) (known : i < inputs S) where
  abbrev el : ℕ
  el = input_owner T S i

  abbrev sort : ℕ
  sort = flag_at T el

  abbrev after : List ℕ
  after = taken T S i t s

  -- ---- what is fired changes no value and no chart state
  abbrev fired : Part → Bool
  fired = also «inputs_part» (also count (just buffered))

  fires : Leaves T S fired (settled T S i t s) after
  unfolding taken
  fires = fire_found_leaves T S k fired refl refl refl (fired_by T S i) (birth_of S s i) t (settled T S i t s)

  abbrev uncharted : Part → Bool
  uncharted = also block (also due (also «inputs_part» (also «samples_part» (just computed))))

  settles : Leaves T S uncharted s (settled T S i t s)
  settles = settled_leaves T S k uncharted refl refl refl refl refl i t s known

  pub taken_chart : (c : ℕ) → c < elements S → chart_state after c ≡ chart_state s c
  taken_chart c l = fires.charts refl c l ∙ settles.charts refl c l

  fires_value : (v : ℕ) → v < variables S → value S after v ≡ value S (settled T S i t s) v
  fires_value v l = by (eqb (flag_at T (variable_frame S v)) 0) refl
    where
      by : (c : Bool) → eqb (flag_at T (variable_frame S v)) 0 ≡ c → value S after v ≡ value S (settled T S i t s) v
      by true e = fires.values refl v l (eqb-true _ 0 e)
      by false e = fires.results refl v l (eqb-false _ 0 e)

  -- ---- what the element then does leaves the inputs; unless it is an interface, also the outputs
  module _ (f : Part → Bool) (b : f block ≡ true) (d : f due ≡ true) (birth : ℕ) (x : List ℕ) where
    abbrev done : List ℕ
    done = settle sort T S el i birth t x

    settle_leaves : (eqb sort interface ≡ true → f computed ≡ true) → Leaves T S f x done
    unfolding settle
    settle_leaves c =
        by_choose (Leaves T S f x) (eqb sort basic) (wake el i birth x) _ (λ _. wake_leaves T S k f b el i birth x)
        (λ _.
        by_choose (Leaves T S f x) (eqb sort interface) (passes T S i x) _ (λ e. passes_leaves T S k f (c e) i x)
        (λ _.
        by_choose (Leaves T S f x) (eqb sort delay) (start_stop T S el i t x) x
        (λ _. start_stop_leaves T S k f d el i t x (k.is_good.input_element i known)) (λ _. leaves_all T S f x)))

  -- an interface passes values on, and nothing else
  passes_on : sort ≡ interface → (birth : ℕ) (x : List ℕ) → settle sort T S el i birth t x ≡ passes T S i x
  unfolding settle choose
  passes_on e birth x = rw (eq-eqb sort interface e, ne_eqb sort basic (λ z. omega arith)) refl

  -- ---- inputs
  -- a variable that is associated with the event is an input
  associated_input : (v : ℕ) → associated T S i v ≡ true → flag_at T (variable_frame S v) ≡ input
  unfolding joins_variable
  associated_input v h =
      let w = any_witness (joins_variable T S i v) (associations S) h in
      let j = w.which in
      let a = both_left (speaks T S (voice of_input i) j) (eqb (field_at T (association_frame S j) 1) v) w.passes in
      let b = eqb-true (field_at T (association_frame S j) 1) v (both_right (speaks T S (voice of_input i) j) (eqb (field_at T (association_frame S j) 1) v) w.passes) in
      subst (λ (u : ℕ). flag_at T (variable_frame S u) ≡ input) b (k.is_good.association_input j w.below (of_input_lem T S i j a))

  module _ (long : need S ≤ length s) where
    pub taken_input : (v : ℕ) → v < variables S → flag_at T (variable_frame S v) ≡ input → value S after v ≡ choose (associated T S i v) (buffer S s v) (value S s v)
    unfolding settled
    taken_input v l e =
        fires_value v l ∙ (settle_leaves (also block (also due (just computed))) refl refl (birth_of S s i) (sampled T S i s) (λ _. refl)).values refl v l e
        ∙ sampled_value T S k i v s long known

    -- the frame of variable v among the inputs
    pub input_entry : (v : ℕ) → v < variables S
        → value_entry T S input input_kind s after v ≡ choose (associated T S i v) (differing (value S s v) (entry input_kind (variable_owner T S v) v (buffer S s v))) []
    unfolding choose
    input_entry v l = by (eqb (flag_at T (variable_frame S v)) input) (associated T S i v) refl refl
      where
        w : ℕ
        w = variable_owner T S v

        by : (c b : Bool) → eqb (flag_at T (variable_frame S v)) input ≡ c → associated T S i v ≡ b
            → value_entry T S input input_kind s after v ≡ choose b (differing (value S s v) (entry input_kind w v (buffer S s v))) []
        by true true e h =
            own_role T S s after input input_kind v (eqb-true _ 0 e)
            ∙ ap (λ (x : ℕ). differing (value S s v) (entry input_kind w v x)) (taken_input v l (eqb-true _ 0 e) ∙ choose_true _ _ _ h)
        by true false e h = same_value T S s after input input_kind v (taken_input v l (eqb-true _ 0 e) ∙ choose_false _ _ _ h)
        by false true e h = absurd (eqb-false _ 0 e (associated_input v h))
        by false false e h = other_role T S s after input input_kind v (eqb-false _ 0 e)

  -- sampling leaves what is no input
  sampled_results : (v : ℕ) → v < variables S → (flag_at T (variable_frame S v) ≡ input → ⊥) → value S (sampled T S i s) v ≡ value S s v
  sampled_results v l n = (sampled_leaves T S k (also «inputs_part» (just «samples_part»)) refl refl i s known).results refl v l n

  -- ---- outputs and internal values, of an element that is no interface
  pub taken_other : (sort ≡ interface → ⊥) → (v : ℕ) → v < variables S → (flag_at T (variable_frame S v) ≡ input → ⊥) → value S after v ≡ value S s v
  unfolding settled
  taken_other n v l e =
      fires_value v l
      ∙ (settle_leaves (also block (just due)) refl refl (birth_of S s i) (sampled T S i s) (λ h. absurd (n (eqb-true sort interface h)))).results refl v l e
      ∙ sampled_results v l e

  -- ---- of an interface
  pub taken_passed : sort ≡ interface → (v : ℕ) → v < variables S → (flag_at T (variable_frame S v) ≡ input → ⊥) → value S after v ≡ value S (passes T S i (sampled T S i s)) v
  unfolding settled
  taken_passed e v l n = fires_value v l ∙ ap (λ (x : List ℕ). value S x v) (passes_on e (birth_of S s i) (sampled T S i s))

  -- no event changes an internal value
  pub taken_internal : (v : ℕ) → v < variables S → flag_at T (variable_frame S v) ≡ internal → value S after v ≡ value S s v
  taken_internal v l e = by (eqb sort interface) refl
    where
      none : flag_at T (variable_frame S v) ≡ input → ⊥
      none z = let q = sym z ∙ e in omega arith

      by : (c : Bool) → eqb sort interface ≡ c → value S after v ≡ value S s v
      by true h =
          taken_passed (eqb-true sort interface h) v l none
          ∙ passed_none T S i v (sampled T S i s) (λ j _ _ q. let z = (partner_output_lem T S (field_at T (association_frame S j) 1) v q).1 in let y = sym z ∙ e in omega arith)
          ∙ sampled_results v l none
      by false h = taken_other (eqb-false sort interface h) v l none

  -- ---- the outputs of an interface
  module _ (long : need S ≤ length s) (is : sort ≡ interface) (u : ℕ) (lu : u < variables S) where
    -- one whose partner is input v
    pub passed_entry_lem : (v : ℕ) → v < variables S → flag_at T (variable_frame S v) ≡ input → partner_variable T S v ≡ one u
        → value_entry T S output output_kind s after u ≡ choose (associated T S i v) (differing (value S s u) (entry output_kind (variable_owner T S u) u (buffer S s v))) []
    unfolding choose
    passed_entry_lem v lv iv p = by (associated T S i v) refl
      where
        out : flag_at T (variable_frame S u) ≡ output
        out = (partner_output_lem T S v u p).1

        no_input : flag_at T (variable_frame S u) ≡ input → ⊥
        no_input z = let q = sym z ∙ out in omega arith

        x : List ℕ
        x = sampled T S i s

        is_now : value S after u ≡ choose (associated T S i v) (value S x v) (value S x u)
        is_now =
            taken_passed is u lu no_input
            ∙ passed_value T S k.is_good i v u x lv iv p (let q = (sampled_leaves T S k everything refl refl i s known).long in omega arith)

        by : (b : Bool) → associated T S i v ≡ b
            → value_entry T S output output_kind s after u ≡ choose b (differing (value S s u) (entry output_kind (variable_owner T S u) u (buffer S s v))) []
        by true h =
            own_role T S s after output output_kind u out
            ∙ ap (λ (a : ℕ). differing (value S s u) (entry output_kind (variable_owner T S u) u a))
            (is_now ∙ choose_true _ _ _ h ∙ sampled_value T S k i v s long known ∙ choose_true _ _ _ h)
        by false h = same_value T S s after output output_kind u (is_now ∙ choose_false _ _ _ h ∙ sampled_results u lu no_input)

    -- one that is no partner of an associated input
    pub unpassed_entry : ((j : ℕ) → j < associations S → speaks T S (voice of_input i) j ≡ true → partner_variable T S (field_at T (association_frame S j) 1) ≡ one u → ⊥)
        → value_entry T S output output_kind s after u ≡ []
    unpassed_entry none = by (eqb (flag_at T (variable_frame S u)) output) refl
      where
        by : (c : Bool) → eqb (flag_at T (variable_frame S u)) output ≡ c → value_entry T S output output_kind s after u ≡ []
        by true e =
            let no : flag_at T (variable_frame S u) ≡ input → ⊥ = λ z. let q = sym z ∙ eqb-true _ 1 e in omega arith in
            same_value T S s after output output_kind u (taken_passed is u lu no ∙ passed_none T S i u (sampled T S i s) none ∙ sampled_results u lu no)
        by false e = other_role T S s after output output_kind u (eqb-false _ 1 e)

  -- ---- all that it changes
  charts_none : gather (chart_entry s after) (elements S) ≡ []
  charts_none = gather_empty (chart_entry s after) (elements S) (λ c l. same_chart T S s after c (taken_chart c l))

  internals_none : gather (value_entry T S internal internal_kind s after) (variables S) ≡ []
  internals_none = gather_empty (value_entry T S internal internal_kind s after) (variables S) (λ v l. none v l (eqb (flag_at T (variable_frame S v)) internal) refl)
    where
      none : (v : ℕ) → v < variables S → (c : Bool) → eqb (flag_at T (variable_frame S v)) internal ≡ c → value_entry T S internal internal_kind s after v ≡ []
      none v l true e = same_value T S s after internal internal_kind v (taken_internal v l (eqb-true _ 2 e))
      none v l false e = other_role T S s after internal internal_kind v (eqb-false _ 2 e)

  outputs_none : (sort ≡ interface → ⊥) → gather (value_entry T S output output_kind s after) (variables S) ≡ []
  outputs_none n = gather_empty (value_entry T S output output_kind s after) (variables S) (λ v l. none v l (eqb (flag_at T (variable_frame S v)) output) refl)
    where
      none : (v : ℕ) → v < variables S → (c : Bool) → eqb (flag_at T (variable_frame S v)) output ≡ c → value_entry T S output output_kind s after v ≡ []
      none v l true e = same_value T S s after output output_kind v (taken_other n v l (λ z. let q = sym z ∙ eqb-true _ 1 e in omega arith))
      none v l false e = other_role T S s after output output_kind v (eqb-false _ 1 e)

  -- of an interface inputs and outputs, of any other inputs alone
  pub interface_changes : changes T S s after ≡ gather (value_entry T S input input_kind s after) (variables S) ++ gather (value_entry T S output output_kind s after) (variables S)
  unfolding changes
  interface_changes = rw (charts_none, internals_none) refl

  pub input_changes : (sort ≡ interface → ⊥) → changes T S s after ≡ gather (value_entry T S input input_kind s after) (variables S)
  input_changes n = interface_changes ∙ rw (outputs_none n) (append-nil (gather (value_entry T S input input_kind s after) (variables S)))
