-- A zeroed store is blank.
use Rattle.std.specs.Prelude.{refl, List, ℕ, ◌+◌, ◌≤◌, length, set}
use Rattle.std.proofs.Common.{◌∙◌, ⊎_elim, eq-or-lt_of_le, le_of_suc-le-suc, not-suc-le-zero, arith, length-set, get_or-set_same, get_or-set_other}
use Rattle.rules_walks.proofs.laws.Walk.{up_to_carries}
use Rattle.rules_tables.specs.declared.Shape.{Shape}
use Rattle.rules_store.specs.Layout.{need, element_at, input_at, variable_at}
use Rattle.rules_store.proofs.laws.Spare.{spare_below}
use Rattle.rules_store.specs.Word.{spare_at, now_of, running_element, current_event, running_of, next_due, untrue, spare_word, chart_state, due_flag, due_time, waiting, birth_of, last_update, buffer}
use Rattle.rules_store.specs.Load.{zeroes}
use Rattle.rules_store.specs.Blank.{Zeroed, Blank}

pub zeroes_at : (n : ℕ) (s : List ℕ) → n ≤ length s → Zeroed s n (zeroes n s)
zeroes_at n s h =
    up_to_carries (Zeroed s) (λ (k : ℕ) (x : List ℕ). set x k 0) n s
    (λ j l x w.
    record {
      long = length-set x j 0 ∙ w.long;
      at =
          λ p q.
          ⊎_elim (λ e. rw e (get_or-set_same x j 0 0 (let z = w.long in omega arith)))
          (λ b. get_or-set_other x j p 0 0 (λ e. omega arith) ∙ w.at p b) (eq-or-lt_of_le (le_of_suc-le-suc q));
    }) (record { long = refl; at = λ p q. absurd (not-suc-le-zero q) })

pub blank : (S : Shape) (s x : List ℕ) → need S ≤ length s → Zeroed s (need S) x → Blank S x
unfolding need now_of untrue next_due spare_word running_element current_event running_of chart_state due_flag due_time waiting birth_of last_update buffer element_at input_at variable_at
blank S s x h w =
    record {
      long = let z = w.long in omega arith;
      now = w.at 0 (omega arith);
      untrue_none = w.at 11 (omega arith);
      next = rw (w.at 9 (omega arith), w.at 10 (omega arith));
      spare = λ j l. w.at (spare_at j) (omega (arith, spare_below j l));
      element = w.at 1 (omega arith);
      event = w.at 2 (omega arith);
      running = rw (w.at 3 (omega arith), w.at 4 (omega arith), w.at 5 (omega arith), w.at 6 (omega arith), w.at 7 (omega arith));
      charts = λ el l. w.at (element_at el) (omega arith);
      dues = λ el l. (w.at (element_at el + 1) (omega arith), w.at (element_at el + 2) (omega arith));
      events = λ i l. (w.at (input_at S i) (omega arith), w.at (input_at S i + 1) (omega arith), w.at (input_at S i + 2) (omega arith));
      buffers = λ v l. w.at (variable_at S v + 1) (omega arith);
    }
