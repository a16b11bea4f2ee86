-- The frames of a move, shown on a store that shows what the machine held before it, show what it holds after it. It rests on the laws of the writers alone: a
-- frame that stands puts the word that the store after the move has, and where none stands both stores have the same.
use Rattle.std.specs.Prelude.{◌≡◌, Bool, true, false, ◌⊎◌, eqb, length}
use Rattle.std.proofs.Math.Path.{refl, ap}
use Rattle.std.proofs.Common.{sym, ◌∙◌, inl, inr, ⊎_elim, eq-or-lt_of_le, le_of_suc-le-suc, not-suc-le-zero, arith}
use mathlib.Core.List.{List, [], ◌∷◌, ◌++◌}
use Prim.Native.Nat.{ℕ, zero, suc, ◌≤◌, ◌<◌}
use borrow.Author.Tests.{eqb-true, eqb-false, eq-eqb, ne_eqb, lt-ltb, le-ltb}
use Rattle.rules_walks.specs.Choose.{choose}
use Rattle.rules_walks.proofs.laws.Choose.{by_choose}
use Rattle.rules_walks.proofs.laws.Pick.{test_cases, clash}
use Rattle.rules_walks.specs.First.{Sought, one, missing}
use Rattle.rules_tables.specs.Kind.{basic, input, output, internal}
use Rattle.rules_tables.specs.Frame.{Table, flag_at}
use Rattle.rules_tables.specs.declared.Shape.{Shape}
use Rattle.rules_tables.specs.Ids.{elements, variables, variable_frame}
use Rattle.rules_store.specs.declared.Running.{Running}
use Rattle.rules_store.specs.Layout.{need}
use Rattle.rules_store.specs.Word.{Store, chart_state, put_chart_state, value, put_value, running_of}
use Rattle.rules_store.specs.Part.{chart, sampled, computed, just, also}
use Rattle.rules_store.proofs.laws.Own.{chart_put, chart_other, value_put}
use Rattle.rules_store.proofs.laws.Word.{value_put_value}
use Rattle.rules_store.proofs.laws.Writer.{leaves_chart, leaves_value}
use Rattle.rules_moves.specs.Partner.{input_owner, variable_owner}
use Rattle.rules_moves.specs.Chart.{element_of}
use Rattle.rules_moves.specs.Take.{fired_by}
use Rattle.rules_moves.specs.Act.{event_of}
use Rattle.rules_moves.specs.declared.Next.{Next}
use Rattle.rules_moves.specs.declared.Next.TheVariants.{Take, Change, Idle, Step, End, Back, Nothing}
use Rattle.rules_traces.specs.declared.Entry.{Entry}
use Rattle.rules_traces.specs.Gather.{gather}
use Rattle.rules_traces.specs.Kinds.{chart_kind, internal_kind, input_kind, output_kind, action_kind, step_kind}
use Rattle.rules_traces.specs.Entry.{entry}
use Rattle.rules_traces.specs.Trace.{differing, chart_entry, value_entry, changes, number_changes, finished_entry, finished_at_once, emitted_entry, events, first_entries, entries_between}
use Rattle.rules_traces.specs.Reader.{show_entry}
use Rattle.laws_traces.specs.Shows.{show_all, Alike}
use Rattle.laws_traces.proofs.laws.Left.{value_left}

-- ---- lists one after the other
pub show_append : (S : Shape) (a b : List Entry) (x : Store) → show_all S (a ++ b) x ≡ show_all S b (show_all S a x)
unfolding show_all
show_append S [] b x = refl
show_append S (e ∷ a) b x = show_append S a b (show_entry S e x)

-- ---- the roles of variables: each has a kind of its own
abbrev Role : ℕ → Type 0
Role flag = (flag ≡ internal) ⊎ ((flag ≡ input) ⊎ (flag ≡ output))

role_of : (flag : ℕ) → flag ≤ 2 → Role flag
role_of zero h = inr (inl refl)
role_of (suc zero) h = inr (inr refl)
role_of (suc (suc n)) h = inl (omega arith)

module _ (T : Table) (S : Shape) (s s' : Store) where
  -- each word of x that is shown is that of s or that of s'
  record Near (x : Store) : Type 0 where
    pub long : need S ≤ length x
    pub charts : (el : ℕ) → el < elements S → (chart_state x el ≡ chart_state s' el) ⊎ (chart_state x el ≡ chart_state s el)
    pub values : (v : ℕ) → v < variables S → (value S x v ≡ value S s' v) ⊎ (value S x v ≡ value S s v)

  -- from x to y, each is that of s' or stays
  record Toward (x y : Store) : Type 0 where
    pub long : length y ≡ length x
    pub charts : (el : ℕ) → el < elements S → (chart_state y el ≡ chart_state s' el) ⊎ (chart_state y el ≡ chart_state x el)
    pub values : (v : ℕ) → v < variables S → (value S y v ≡ value S s' v) ⊎ (value S y v ≡ value S x v)

  stay : (x : Store) → Toward x x
  stay x = record { long = refl; charts = λ el l. inr refl; values = λ v l. inr refl }

  onto : {a b c d : ℕ} → (c ≡ d) ⊎ (c ≡ b) → (b ≡ d) ⊎ (b ≡ a) → (c ≡ d) ⊎ (c ≡ a)
  onto (inl p) q = inl p
  onto (inr p) (inl q) = inl (p ∙ q)
  onto (inr p) (inr q) = inr (p ∙ q)

  along : {x y z : Store} → Toward y z → Toward x y → Toward x z
  along b a = record { long = b.long ∙ a.long; charts = λ el l. onto (b.charts el l) (a.charts el l); values = λ v l. onto (b.values v l) (a.values v l) }

  near : {x y : Store} → Toward x y → Near x → Near y
  near w a =
      record {
        long = let p = w.long in let q = a.long in omega arith;
        charts = λ el l. onto (w.charts el l) (a.charts el l);
        values = λ v l. onto (w.values v l) (a.values v l);
      }

  -- ---- what was reached is not left again
  got_chart : (el : ℕ) → el < elements S → (x y : Store) → Toward x y → chart_state x el ≡ chart_state s' el → chart_state y el ≡ chart_state s' el
  got_chart el l x y w e = ⊎_elim (λ p. p) (λ p. p ∙ e) (w.charts el l)

  got_value : (v : ℕ) → v < variables S → (x y : Store) → Toward x y → value S x v ≡ value S s' v → value S y v ≡ value S s' v
  got_value v l x y w e = ⊎_elim (λ p. p) (λ p. p ∙ e) (w.values v l)

  -- ---- one word
  put_chart : (el : ℕ) (x : Store) → el < elements S → need S ≤ length x → Toward x (put_chart_state el (chart_state s' el) x)
  put_chart el x l long =
      let w = leaves_chart T S (just chart) x el (chart_state s' el) l refl in
      record {
        long = w.long;
        charts =
            λ k h.
            ⊎_elim (λ e. let q = eqb-true k el e in inl (rw q (chart_put S x long el (chart_state s' el) l)))
            (λ e. inr (chart_other S x el k (chart_state s' el) (eqb-false k el e))) (test_cases (eqb k el));
        values = λ v h. inr (value_left T S (just chart) x (put_chart_state el (chart_state s' el) x) w refl refl v h);
      }

  put_value_lem : (v : ℕ) (x : Store) → v < variables S → need S ≤ length x → Toward x (put_value S v (value S s' v) x)
  put_value_lem v x l long =
      let w = leaves_value T S (also sampled (just computed)) x v (value S s' v) l (λ h. clash (sym h)) (λ h. clash (sym h)) in
      record {
        long = w.long;
        charts = λ el h. inr (w.charts refl el h);
        values =
            λ u h.
            ⊎_elim (λ e. let q = eqb-true u v e in inl (rw q (value_put S x long v (value S s' v) l)))
            (λ e. inr (value_put_value S x v u (value S s' v) (eqb-false u v e))) (test_cases (eqb u v));
      }

  -- ---- a frame where the value differs: it stands, and is shown; or there is none, and nothing was to be shown
  chart_shown : (el : ℕ) (x : Store) → el < elements S → Near x
      → Toward x (show_all S (chart_entry s s' el) x) × (chart_state (show_all S (chart_entry s s' el) x) el ≡ chart_state s' el)
  unfolding chart_entry differing choose show_all show_entry
  chart_shown el x l n = by (eqb (chart_state s el) (chart_state s' el)) refl
    where
      es : List Entry
      es = entry chart_kind el 0 (chart_state s' el) ∷ []

      by : (b : Bool) → eqb (chart_state s el) (chart_state s' el) ≡ b → Toward x (show_all S (choose b [] es) x) × (chart_state (show_all S (choose b [] es) x) el ≡ chart_state s' el)
      by true e = (stay x, ⊎_elim (λ p. p) (λ p. p ∙ eqb-true (chart_state s el) (chart_state s' el) e) (n.charts el l))
      by false e = (put_chart el x l n.long, chart_put S x n.long el (chart_state s' el) l)

  value_shown : (kind v : ℕ) (x : Store) → 0 < kind → kind < 4 → v < variables S → Near x
      → Toward x (show_all S (differing (value S s v) (entry kind (variable_owner T S v) v (value S s' v))) x)
      × (value S (show_all S (differing (value S s v) (entry kind (variable_owner T S v) v (value S s' v))) x) v ≡ value S s' v)
  unfolding differing choose show_all show_entry
  value_shown kind v x a b l n = by (eqb (value S s v) (value S s' v)) refl
    where
      es : List Entry
      es = entry kind (variable_owner T S v) v (value S s' v) ∷ []

      by : (c : Bool) → eqb (value S s v) (value S s' v) ≡ c → Toward x (show_all S (choose c [] es) x) × (value S (show_all S (choose c [] es) x) v ≡ value S s' v)
      by true e = (stay x, ⊎_elim (λ p. p) (λ p. p ∙ eqb-true (value S s v) (value S s' v) e) (n.values v l))
      by false e = rw (ne_eqb kind 0 (λ z. omega arith), lt-ltb kind 4 b) (put_value_lem v x l n.long, value_put S x n.long v (value S s' v) l)

  -- ---- frames gathered by id
  module _ (f : ℕ → List Entry) (n : ℕ) (each : (j : ℕ) → j < n → (x : Store) → Near x → Toward x (show_all S (f j) x)) where
    gathered_near : (m : ℕ) → m ≤ n → (x : Store) → Near x → Toward x (show_all S (gather f m) x)
    unfolding gather show_all
    gathered_near zero l x a = stay x
    gathered_near (suc m) l x a =
        let w = gathered_near m (omega arith) x a in
        rw (show_append S (gather f m) (f m) x) (along (each m (omega arith) (show_all S (gather f m) x) (near w a)) w)

    -- what the frames of j reach is reached by all of them
    gathered_reach : (G : Store → Type 0) → ((x y : Store) → Toward x y → G x → G y) → (j : ℕ) → ((x : Store) → Near x → G (show_all S (f j) x))
        → (m : ℕ) → j < m → m ≤ n → (x : Store) → Near x → G (show_all S (gather f m) x)
    unfolding gather
    gathered_reach G keep j at zero l b x a = absurd (not-suc-le-zero l)
    gathered_reach G keep j at (suc m) l b x a =
        let y = show_all S (gather f m) x in
        let w = gathered_near m (omega arith) x a in
        rw (show_append S (gather f m) (f m) x)
        (⊎_elim (λ e. rw e at (at y (near w a)))
        (λ lt. keep y _ (each m (omega arith) y (near w a)) (gathered_reach G keep j at m lt (omega arith) x a)) (eq-or-lt_of_le (le_of_suc-le-suc l)))

  -- ---- kind 0
  abbrev charts : List Entry
  charts = gather (chart_entry s s') (elements S)

  charts_near : (x : Store) → Near x → Toward x (show_all S charts x)
  charts_near x n = gathered_near (chart_entry s s') (elements S) (λ el l y a. (chart_shown el y l a).0) (elements S) (omega arith) x n

  charts_reach : (el : ℕ) → el < elements S → (x : Store) → Near x → chart_state (show_all S charts x) el ≡ chart_state s' el
  charts_reach el l x n =
      gathered_reach (chart_entry s s') (elements S) (λ k h y a. (chart_shown k y h a).0) (λ y. chart_state y el ≡ chart_state s' el) (got_chart el l) el
      (λ y a. (chart_shown el y l a).1) (elements S) l (omega arith) x n

  -- ---- kinds 1 to 3
  module _ (role kind : ℕ) (a : 0 < kind) (b : kind < 4) where
    role_one : (v : ℕ) → v < variables S → (x : Store) → Near x → Toward x (show_all S (value_entry T S role kind s s' v) x)
    unfolding value_entry show_all
    role_one v l x n =
        by_choose (λ (es : List Entry). Toward x (show_all S es x)) (eqb (flag_at T (variable_frame S v)) role) _ [] (λ _. (value_shown kind v x a b l n).0) (λ _. stay x)

    role_got : (v : ℕ) → v < variables S → flag_at T (variable_frame S v) ≡ role → (x : Store) → Near x → value S (show_all S (value_entry T S role kind s s' v) x) v ≡ value S s' v
    unfolding value_entry choose
    role_got v l e x n = rw (eq-eqb (flag_at T (variable_frame S v)) role e) (value_shown kind v x a b l n).1

    abbrev of_role : List Entry
    of_role = gather (value_entry T S role kind s s') (variables S)

    role_near : (x : Store) → Near x → Toward x (show_all S of_role x)
    role_near x n = gathered_near (value_entry T S role kind s s') (variables S) role_one (variables S) (omega arith) x n

    role_reach : (v : ℕ) → v < variables S → flag_at T (variable_frame S v) ≡ role → (x : Store) → Near x → value S (show_all S of_role x) v ≡ value S s' v
    role_reach v l e x n =
        gathered_reach (value_entry T S role kind s s') (variables S) role_one (λ y. value S y v ≡ value S s' v) (got_value v l) v (role_got v l e) (variables S) l (omega arith) x n

  abbrev internals : List Entry
  internals = gather (value_entry T S internal internal_kind s s') (variables S)

  abbrev ins : List Entry
  ins = gather (value_entry T S input input_kind s s') (variables S)

  abbrev outs : List Entry
  outs = gather (value_entry T S output output_kind s s') (variables S)

  -- ---- all of them, on a store that shows what s holds
  module _ (flags : (v : ℕ) → v < variables S → flag_at T (variable_frame S v) ≤ 2) (x : Store) (long : need S ≤ length x) (alike : Alike S x s) where
    abbrev x₁ : Store
    x₁ = show_all S charts x

    abbrev x₂ : Store
    x₂ = show_all S internals x₁

    abbrev x₃ : Store
    x₃ = show_all S ins x₂

    abbrev x₄ : Store
    x₄ = show_all S outs x₃

    near₀ : Near x
    near₀ = record { long = long; charts = λ el l. inr (alike.charts el l); values = λ v l. inr (alike.values v l) }

    to₁ : Toward x x₁
    to₁ = charts_near x near₀

    near₁ : Near x₁
    near₁ = near to₁ near₀

    to₂ : Toward x₁ x₂
    to₂ = role_near internal internal_kind (omega arith) (omega arith) x₁ near₁

    near₂ : Near x₂
    near₂ = near to₂ near₁

    to₃ : Toward x₂ x₃
    to₃ = role_near input input_kind (omega arith) (omega arith) x₂ near₂

    near₃ : Near x₃
    near₃ = near to₃ near₂

    to₄ : Toward x₃ x₄
    to₄ = role_near output output_kind (omega arith) (omega arith) x₃ near₃

    is_last : show_all S (changes T S s s') x ≡ x₄
    unfolding changes
    is_last =
        show_append S (charts ++ internals ++ ins) outs x
        ∙ ap (show_all S outs) (show_append S (charts ++ internals) ins x ∙ ap (show_all S ins) (show_append S charts internals x))

    by_role : (v : ℕ) → v < variables S → Role (flag_at T (variable_frame S v)) → value S x₄ v ≡ value S s' v
    by_role v l (inl e) = got_value v l x₃ x₄ to₄ (got_value v l x₂ x₃ to₃ (role_reach internal internal_kind (omega arith) (omega arith) v l e x₁ near₁))
    by_role v l (inr (inl e)) = got_value v l x₃ x₄ to₄ (role_reach input input_kind (omega arith) (omega arith) v l e x₂ near₂)
    by_role v l (inr (inr e)) = role_reach output output_kind (omega arith) (omega arith) v l e x₃ near₃

    pub changes_long : length (show_all S (changes T S s s') x) ≡ length x
    changes_long = ap length is_last ∙ to₄.long ∙ to₃.long ∙ to₂.long ∙ to₁.long

    pub changes_alike : Alike S (show_all S (changes T S s s') x) s'
    changes_alike =
        rw is_last
        (record {
          charts = λ el l. got_chart el l x₃ x₄ to₄ (got_chart el l x₂ x₃ to₃ (got_chart el l x₁ x₂ to₂ (charts_reach el l x near₀)));
          values = λ v l. by_role v l (role_of (flag_at T (variable_frame S v)) (flags v l));
        })

-- ---- frames of other kinds change nothing
module _ (S : Shape) where
  abbrev Quiet : List Entry → Type 0
  Quiet es = (x : Store) → show_all S es x ≡ x

  quiet_append : (a b : List Entry) → Quiet a → Quiet b → Quiet (a ++ b)
  quiet_append a b p q x = show_append S a b x ∙ q (show_all S a x) ∙ p x

  quiet_none : Quiet []
  unfolding show_all
  quiet_none x = refl

  quiet_one : (kind block id n : ℕ) → 4 ≤ kind → Quiet (entry kind block id n ∷ [])
  unfolding show_all show_entry choose
  quiet_one kind block id n h x = rw (ne_eqb kind 0 (λ z. omega arith), le-ltb kind 4 h)

  quiet_differing : (before kind block id n : ℕ) → 4 ≤ kind → Quiet (differing before (entry kind block id n))
  unfolding differing
  quiet_differing before kind block id n h = by_choose Quiet (eqb before n) [] (entry kind block id n ∷ []) (λ _. quiet_none) (λ _. quiet_one kind block id n h)

  numbers_quiet : (el : ℕ) (r r' : Running) → Quiet (number_changes el r r')
  unfolding number_changes
  numbers_quiet el r r' =
      quiet_append _ _ (quiet_differing r.action action_kind el 0 r'.action (omega arith)) (quiet_differing r.step step_kind el 0 r'.step (omega arith))

  module _ (T : Table) where
    emitted_quiet : (q : Sought) → Quiet (emitted_entry T S q)
    unfolding emitted_entry
    emitted_quiet (one o) = quiet_one 7 _ _ _ (omega arith)
    emitted_quiet missing = quiet_none

    finished_quiet : (el : ℕ) → Quiet (finished_at_once T el)
    unfolding finished_at_once
    finished_quiet el = by_choose Quiet (eqb (flag_at T el) basic) [] (finished_entry el) (λ _. quiet_none) (λ _. quiet_one 5 el 0 1 (omega arith))

    events_quiet : (n : Next) (s : Store) → Quiet (events T S n s)
    unfolding events
    events_quiet (Take i) s =
        quiet_append _ _
        (quiet_append _ _ (quiet_append _ _ (quiet_one 4 (input_owner T S i) 0 1 (omega arith)) (finished_quiet (input_owner T S i))) (quiet_one 6 (input_owner T S i) i 1 (omega arith)))
        (emitted_quiet (fired_by T S i))
    events_quiet (Change j) s = quiet_one 8 (element_of s) j 1 (omega arith)
    events_quiet Idle s = quiet_one 5 (element_of s) 0 1 (omega arith)
    events_quiet (Step j) s = quiet_none
    events_quiet (End j) s = emitted_quiet (event_of T S j)
    events_quiet Back s = quiet_none
    events_quiet Nothing s = quiet_none

-- ---- so for all frames of the move
module _ (T : Table) (S : Shape) (flags : (v : ℕ) → v < variables S → flag_at T (variable_frame S v) ≤ 2) (n : Next) (s s' x : Store) (long : need S ≤ length x) (alike : Alike S x s) where
  only_changes : show_all S (entries_between T S n s s') x ≡ show_all S (changes T S s s') x
  unfolding entries_between first_entries
  only_changes =
      let e = changes T S s s' ++ events T S n s in
      let y = show_all S (changes T S s s') x in
      show_append S e (number_changes (element_of s) (running_of s) (running_of s')) x
      ∙ numbers_quiet S (element_of s) (running_of s) (running_of s') (show_all S e x)
      ∙ show_append S (changes T S s s') (events T S n s) x ∙ events_quiet S T n s y

  pub between_long : length (show_all S (entries_between T S n s s') x) ≡ length x
  between_long = ap length only_changes ∙ changes_long T S s s' flags x long alike

  pub between_alike : Alike S (show_all S (entries_between T S n s s') x) s'
  between_alike = rw only_changes (changes_alike T S s s' flags x long alike)
