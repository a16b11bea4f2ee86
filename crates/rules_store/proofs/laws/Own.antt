-- What each writer does to its own part: the word it wrote, and the like words of others.
use Rattle.std.specs.Prelude.{◌≡◌, List, ℕ, ◌+◌, ◌≤◌, ◌<◌, length}
use Rattle.std.proofs.Common.{◌∙◌, arith}
use Rattle.std.proofs.Math.ListN.{set, length-set}
use Rattle.std.proofs.Math.Seq.{get_or-set_same, get_or-set_other}
use Rattle.rules_tables.specs.declared.Shape.{Shape}
use Rattle.rules_store.specs.declared.NextDue.{NextDue}
use Rattle.rules_store.specs.declared.Running.{Running}
use Rattle.rules_tables.specs.Ids.{elements, inputs, variables}
use Rattle.rules_store.specs.Layout.{need, element_at, input_at, variable_at}
use Rattle.rules_store.specs.Word.{now_of, put_now, running_element, current_event, put_owner, running_of, put_running, overwritten, put_overwritten, next_due, put_next, untrue, put_untrue, chart_state, put_chart_state, due_flag, due_time, set_due, waiting, birth_of, last_update, put_input, value, put_value, buffer, put_buffer}
use Rattle.rules_store.specs.Part.{SameDue, SameInput, Outside}
use Rattle.rules_store.proofs.laws.Part.{same_due, same_input, outside_none, outside_set, due_touches, next_touches, input_touches}
use Rattle.rules_store.specs.Own.{Input, Due}

module _ (S : Shape) (s : List ℕ) (long : need S ≤ length s) where
  pub now_put : (t : ℕ) → now_of (put_now t s) ≡ t
  unfolding now_of put_now need
  now_put t = get_or-set_same s 0 t 0 (omega arith)

  pub element_put : (el ev : ℕ) → running_element (put_owner el ev s) ≡ el
  unfolding running_element put_owner need
  element_put el ev = get_or-set_other (set s 1 el) 2 1 ev 0 (λ e. omega arith) ∙ get_or-set_same s 1 el 0 (omega arith)

  pub event_put : (el ev : ℕ) → current_event (put_owner el ev s) ≡ ev
  unfolding current_event put_owner need
  event_put el ev = get_or-set_same (set s 1 el) 2 ev 0 (omega (arith, length-set s 1 el))

  pub overwritten_put : (n : ℕ) → overwritten (put_overwritten n s) ≡ n
  unfolding overwritten put_overwritten need
  overwritten_put n = get_or-set_same s 8 n 0 (omega arith)

  pub untrue_put : (n : ℕ) → untrue (put_untrue n s) ≡ n
  unfolding untrue put_untrue need
  untrue_put n = get_or-set_same s 11 n 0 (omega arith)

  pub next_put : (a : NextDue) → next_due (put_next a s) ≡ a
  unfolding next_due put_next need
  next_put a =
      let x = set s 9 a.due in
      rw (
        get_or-set_other x 10 9 a.time 0 (λ e. omega arith) ∙ get_or-set_same s 9 a.due 0 (omega arith),
        get_or-set_same x 10 a.time 0 (omega (arith, length-set s 9 a.due)),
      )

  pub running_put : (r : Running) → running_of (put_running r s) ≡ r
  unfolding running_of put_running need
  running_put r =
      let a = set s 3 r.birth in
      let b = set a 4 r.mode in
      let c = set b 5 r.live in
      let d = set c 6 r.action in
      let e = set d 7 r.step in
      let la = length-set s 3 r.birth in
      let lb = length-set a 4 r.mode in
      let lc = length-set b 5 r.live in
      let ld = length-set c 6 r.action in
      rw (
        get_or-set_other d 7 3 r.step 0 (λ q. omega arith) ∙ get_or-set_other c 6 3 r.action 0 (λ q. omega arith) ∙ get_or-set_other b 5 3 r.live 0 (λ q. omega arith)
            ∙ get_or-set_other a 4 3 r.mode 0 (λ q. omega arith) ∙ get_or-set_same s 3 r.birth 0 (omega arith),
        get_or-set_other d 7 4 r.step 0 (λ q. omega arith) ∙ get_or-set_other c 6 4 r.action 0 (λ q. omega arith) ∙ get_or-set_other b 5 4 r.live 0 (λ q. omega arith)
            ∙ get_or-set_same a 4 r.mode 0 (omega arith),
        get_or-set_other d 7 5 r.step 0 (λ q. omega arith) ∙ get_or-set_other c 6 5 r.action 0 (λ q. omega arith) ∙ get_or-set_same b 5 r.live 0 (omega arith),
        get_or-set_other d 7 6 r.step 0 (λ q. omega arith) ∙ get_or-set_same c 6 r.action 0 (omega arith),
        get_or-set_same d 7 r.step 0 (omega arith),
      )

  -- ---- per element
  pub chart_put : (el q : ℕ) → el < elements S → chart_state (put_chart_state el q s) el ≡ q
  unfolding chart_state put_chart_state need element_at
  chart_put el q l = get_or-set_same s (element_at el) q 0 (omega arith)

  pub due_set : (el flag t : ℕ) → el < elements S → Due el flag t (set_due el flag t s)
  unfolding due_flag due_time set_due need element_at
  due_set el flag t l =
      let a = set s (element_at el + 1) flag in
      record {
        flagged = get_or-set_other a (element_at el + 2) (element_at el + 1) t 0 (λ e. omega arith) ∙ get_or-set_same s (element_at el + 1) flag 0 (omega arith);
        timed = get_or-set_same a (element_at el + 2) t 0 (omega (arith, length-set s (element_at el + 1) flag));
      }

  -- ---- per event input
  pub input_put : (i flag birth last : ℕ) → i < inputs S → Input S i flag birth last (put_input S i flag birth last s)
  unfolding waiting birth_of last_update put_input need input_at
  input_put i flag birth last l =
      let a = set s (input_at S i) flag in
      let b = set a (input_at S i + 1) birth in
      let la = length-set s (input_at S i) flag in
      let lb = length-set a (input_at S i + 1) birth in
      record {
        waits =
            get_or-set_other b (input_at S i + 2) (input_at S i) last 0 (λ e. omega arith) ∙ get_or-set_other a (input_at S i + 1) (input_at S i) birth 0 (λ e. omega arith)
            ∙ get_or-set_same s (input_at S i) flag 0 (omega arith);
        born = get_or-set_other b (input_at S i + 2) (input_at S i + 1) last 0 (λ e. omega arith) ∙ get_or-set_same a (input_at S i + 1) birth 0 (omega arith);
        updated = get_or-set_same b (input_at S i + 2) last 0 (omega arith);
      }

  -- ---- per variable
  pub value_put : (v x : ℕ) → v < variables S → value S (put_value S v x s) v ≡ x
  unfolding value put_value need variable_at
  value_put v x l = get_or-set_same s (variable_at S v) x 0 (omega arith)

  pub buffer_put : (v x : ℕ) → v < variables S → buffer S (put_buffer S v x s) v ≡ x
  unfolding buffer put_buffer need variable_at
  buffer_put v x l = get_or-set_same s (variable_at S v + 1) x 0 (omega arith)

-- ---- the like words of others stay
module _ (S : Shape) (s : List ℕ) where
  owner_words : (r : Running) → Outside 3 8 s (put_running r s)
  unfolding put_running
  owner_words r =
      let a = set s 3 r.birth in
      let b = set a 4 r.mode in
      let c = set b 5 r.live in
      let d = set c 6 r.action in
      outside_set 3 8 s d 7 r.step (omega arith) (omega arith)
      (outside_set 3 8 s c 6 r.action (omega arith) (omega arith)
      (outside_set 3 8 s b 5 r.live (omega arith) (omega arith)
      (outside_set 3 8 s a 4 r.mode (omega arith) (omega arith)
      (outside_set 3 8 s s 3 r.birth (omega arith) (omega arith) (outside_none 3 8 s)))))

  pub chart_other : (el k q : ℕ) → (k ≡ el → ⊥) → chart_state (put_chart_state el q s) k ≡ chart_state s k
  unfolding chart_state put_chart_state element_at
  chart_other el k q n = get_or-set_other s (element_at el) (element_at k) q 0 (λ e. n (omega arith))

  pub set_other : (el k flag t : ℕ) → (k ≡ el → ⊥) → SameDue s (set_due el flag t s) k
  unfolding element_at
  set_other el k flag t n = same_due s (set_due el flag t s) k (λ p a b. (due_touches s el flag t).apart p (λ u v. n (omega arith)))

  -- the next due time that is put leaves the due words of all elements
  pub next_leaves_due : (a : NextDue) (k : ℕ) → SameDue s (put_next a s) k
  unfolding element_at
  next_leaves_due a k = same_due s (put_next a s) k (λ p c d. (next_touches s a).apart p (λ u v. omega arith))

  pub input_other : (i k flag birth last : ℕ) → (k ≡ i → ⊥) → SameInput S s (put_input S i flag birth last s) k
  unfolding input_at
  input_other i k flag birth last n = same_input S s (put_input S i flag birth last s) k (λ p a b. (input_touches s S i flag birth last).apart p (λ u v. n (omega arith)))

  -- a running block that is put leaves its element and event
  pub element_running : (r : Running) → running_element (put_running r s) ≡ running_element s
  unfolding running_element
  element_running r = (owner_words r).apart 1 (λ a b. omega arith)

  pub event_running : (r : Running) → current_event (put_running r s) ≡ current_event s
  unfolding current_event
  event_running r = (owner_words r).apart 2 (λ a b. omega arith)
