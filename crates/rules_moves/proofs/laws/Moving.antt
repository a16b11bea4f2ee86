-- What the moves of a running block leave.
use Rattle.std.specs.Prelude.{◌≡◌, refl, List, Bool, true, ℕ, ◌+◌, ◌-◌, ◌≤◌, ◌<◌, length}
use Rattle.std.proofs.Common.{sym, ap, ◌∙◌, arith}
use Rattle.rules_walks.proofs.laws.Pick.{clash, by_test}
use Rattle.rules_numbers.specs.Word.{word}
use Rattle.rules_tables.specs.Frame.{field_at}
use Rattle.rules_tables.specs.declared.Shape.{Shape}
use Rattle.rules_store.specs.declared.Running.{Running}
use Rattle.rules_tables.specs.Ids.{elements, steps, transition_frame, step_frame}
use Rattle.rules_store.specs.Layout.{need}
use Rattle.rules_store.specs.Running.{rest, entered}
use Rattle.rules_store.specs.Word.{counted, put_owner, running_of, put_running, untrue, put_chart_state}
use Rattle.rules_store.specs.Part.{Part, block, count, untrues, chart as «charts», input, computed, buffered, just, Leaves}
use Rattle.rules_store.proofs.laws.Part.{leaves_then}
use Rattle.rules_tables.specs.Lawful.{Lawful}
use Rattle.rules_store.proofs.laws.Writer.{leaves_owner, leaves_running, leaves_untrue, leaves_chart, leaves_value}
use Rattle.rules_store.proofs.laws.Own.{untrue_put}
use Rattle.rules_tables.specs.Actions.{action_number}
use Rattle.rules_moves.specs.declared.Next.{Next}
use Rattle.rules_moves.specs.declared.Next.TheVariants.{Take, Change, Idle, Step, End, Back, Nothing}
use Rattle.rules_moves.specs.Next.{untrue_by}
use Rattle.rules_moves.specs.Chart.{change, go_idle}
use Rattle.rules_moves.specs.Act.{step_outcome, result_put, untrue_step, count_untrue, one_step, event_of, end_move}
use Rattle.rules_moves.specs.Take.{fire_found}
use Rattle.rules_moves.proofs.laws.Taking.{fire_found_leaves}

module _ (T : List ℕ) (S : Shape) (k : Lawful T S) (f : Part → Bool) where
  pub change_leaves : f block ≡ true → f «charts» ≡ true → (el : ℕ) (r : Running) (j : ℕ) (s : List ℕ) → el < elements S → Leaves T S f s (change T S el r j s)
  unfolding change
  change_leaves b c el r j s l =
      let q = field_at T (transition_frame S j) 1 in
      let y = put_chart_state el q s in
      let n = entered (action_number T S q 1) r in
      leaves_then T S f s y (put_running n y) (leaves_running T S f y n b) (leaves_chart T S f s el q l c)

  pub idle_leaves : f block ≡ true → (s : List ℕ) → Leaves T S f s (go_idle s)
  unfolding go_idle
  idle_leaves b s =
      let y = put_owner 0 0 s in
      leaves_then T S f s y (put_running rest y) (leaves_running T S f y rest b) (leaves_owner T S f s 0 0 b)

  -- a step's result is no input
  result_leaves : f computed ≡ true → (i age : ℕ) (s : List ℕ) → i < steps S → Leaves T S f s (result_put T S (step_frame S i) age s)
  unfolding result_put
  result_leaves c i age s l =
      let g = step_frame S i in
      leaves_value T S f s (field_at T g 0) (word (step_outcome T S g age s).result) (k.is_good.step_result i l) (λ _. k.result_other i l) (λ h. clash (sym h ∙ c))

  pub count_leaves : f untrues ≡ true → (u : ℕ) (s : List ℕ) → Leaves T S f s (count_untrue u s)
  unfolding count_untrue
  count_leaves y u s = leaves_untrue T S f s (counted u (untrue s)) y

  pub one_step_leaves : f computed ≡ true → f untrues ≡ true → (i age : ℕ) (s : List ℕ) → i < steps S → Leaves T S f s (one_step T S (step_frame S i) age s)
  unfolding one_step
  one_step_leaves c y i age s l =
      let x = result_put T S (step_frame S i) age s in
      let u = untrue_step T S (step_frame S i) age s in
      leaves_then T S f s x (count_untrue u x) (count_leaves y u x) (result_leaves c i age s l)

  pub end_leaves : f block ≡ true → f input ≡ true → f count ≡ true → f buffered ≡ true → (t q : ℕ) (r : Running) (j : ℕ) (s : List ℕ) → Leaves T S f s (end_move T S t q r j s)
  unfolding end_move
  end_leaves b i c d t q r j s =
      let x = fire_found T S (event_of T S j) r.birth t s in
      let n = entered (action_number T S q (r.action + 1)) r in
      leaves_then T S f s x (put_running n x) (leaves_running T S f x n b) (fire_found_leaves T S k f i c d (event_of T S j) r.birth t s)

-- ---- the count of untrue steps after one
pub one_step_counts : (T : List ℕ) (S : Shape) → Lawful T S → (i age : ℕ) (s : List ℕ) → i < steps S → need S ≤ length s
    → untrue (one_step T S (step_frame S i) age s) ≡ counted (untrue_step T S (step_frame S i) age s) (untrue s)
unfolding one_step count_untrue
one_step_counts T S k i age s l long =
    let x = result_put T S (step_frame S i) age s in
    let w = result_leaves T S k (just computed) refl i age s l in
    let q = w.long in
    untrue_put S x (omega arith) (counted (untrue_step T S (step_frame S i) age s) (untrue x)) ∙ ap (counted (untrue_step T S (step_frame S i) age s)) (w.untrue_same refl)

-- a step is one untrue step or none
pub untrue_step_few : (T : List ℕ) (S : Shape) (f age : ℕ) (s : List ℕ) → untrue_step T S f age s ≤ 1
unfolding untrue_step
untrue_step_few T S f age s =
    by_test (λ (u : ℕ). u ≤ 1) (step_outcome T S f age s).is_true 0 1 (λ _. omega arith) (λ _. omega arith)

pub untrue_few : (T : List ℕ) (S : Shape) (time : ℕ) (n : Next) (s : List ℕ) → untrue_by T S time n s ≤ 1
unfolding untrue_by
untrue_few T S time (Take i) s = omega arith
untrue_few T S time (Change j) s = omega arith
untrue_few T S time Idle s = omega arith
untrue_few T S time (Step j) s = untrue_step_few T S (step_frame S j) (time - (running_of s).birth) s
untrue_few T S time (End j) s = omega arith
untrue_few T S time Back s = omega arith
untrue_few T S time Nothing s = omega arith
