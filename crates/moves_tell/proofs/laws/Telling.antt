-- What each answer to "which move comes next" tells, from the store before the move.
use Rattle.std.specs.Prelude.{ℕ, ◌-◌, ◌<◌, ◌≡◌, refl, Bool, true, false, eqb}
use Rattle.std.proofs.Math.Path.{sym}
use Rattle.std.proofs.Common.{ap, subst, ◌∙◌, arith, eqb-true}
use mathlib.Core.List.{List, [], ◌++◌, append-nil}
use Rattle.rules_tables.specs.declared.Shape.{Shape}
use Rattle.rules_tables.specs.Good.{Good}
use Rattle.rules_tables.specs.Ids.{elements, step_frame}
use Rattle.rules_store.specs.declared.Running.{Running}
use Rattle.rules_store.specs.Running.{idle, charts}
use Rattle.rules_store.specs.Word.{running_of}
use Rattle.std.proofs.lemmas.Bool.{eqb-false}
use Rattle.rules_walks.specs.First.{one}
use Rattle.rules_tables.specs.Actions.{action_of}
use Rattle.rules_tables.proofs.laws.Actions.{action_below}
use Rattle.rules_moves.specs.Chart.{element_of, state_of}
use Rattle.rules_moves.specs.Act.{event_of}
use Rattle.rules_moves.specs.Ready.{Ready}
use Rattle.rules_moves.specs.Means.{Means}
use Rattle.rules_moves.proofs.laws.Next.{answer_means, answer_ready}
use Rattle.rules_moves.specs.declared.Next.{Next}
use Rattle.rules_moves.specs.declared.Next.TheVariants.{Take, Change, Idle, Step, End, Back, Nothing}
use Rattle.rules_moves.specs.Next.{move_by}
use Rattle.rules_traces.specs.declared.Entry.{Entry}
use Rattle.rules_traces.specs.Trace.{enabled_entry, finished_entry, emitted_entry, events, first_entries}
use Rattle.moves_tell.specs.Before.{take_entries, take_events, change_entries, step_entries, changes_before}
use Rattle.moves_tell.specs.Telling.{Telling}
use Rattle.moves_tell.proofs.laws.Before.{first_is}

module _ (T : List ℕ) (S : Shape) (time : ℕ) (r : Running) (n : Next) (s : List ℕ) (w : Telling T S time r n s) where
  pub is_good : Good T S
  is_good = w.traceable.is_lawful.is_good

  pub is_ready : Ready S n
  is_ready = answer_ready T S r s is_good n w.next_is

  means : Means T S r s n
  means = answer_means T S r s n w.next_is

  -- a block that runs is one of the table's
  running_in : (r.mode ≡ idle → ⊥) → element_of s < elements S
  running_in h =
      let o = (w.formed.block.busy (λ e. h (ap (λ (x : Running). x.mode) w.running_is ∙ e))).owner in
      let a = o.element in
      let b = o.within in
      omega arith

  charting_in : r.mode ≡ charts → element_of s < elements S
  charting_in e = running_in (λ z. let q = sym z ∙ e in omega arith)

  pub change_in : (j : ℕ) → n ≡ Change j → element_of s < elements S
  change_in j e = charting_in (subst (Means T S r s) e means).0

  pub idle_in : n ≡ Idle → element_of s < 65536
  idle_in e = let h = charting_in (subst (Means T S r s) e means).0 in let m = is_good.few_elements in omega arith

  -- the block of the numbers
  pub block_in : element_of s < 65536
  block_in = by (eqb r.mode idle) refl
    where
      by : (c : Bool) → eqb r.mode idle ≡ c → element_of s < 65536
      by true e =
          let q = (w.formed.block.idle (ap (λ (x : Running). x.mode) (sym w.running_is) ∙ eqb-true r.mode idle e)).element in
          omega arith
      by false e = let h = running_in (eqb-false r.mode idle e) in let m = is_good.few_elements in omega arith

  -- ---- what the step and the action in hand are known to be
  pub step_few : (j : ℕ) → n ≡ Step j → r.step < 4294967295
  step_few j e =
      let m = subst (Means T S r s) e means in
      let l = m.left in
      let q = w.traceable.few_steps m.action (action_below T S (state_of s) r.action m.action m.found) in
      omega arith

  pub end_found : (j : ℕ) → n ≡ End j → action_of T S (state_of s) r.action ≡ one j
  end_found j e = (subst (Means T S r s) e means).found

  first : first_entries T S n s (move_by T S time n s) ≡ changes_before T S time n s ++ events T S n s
  first = first_is T S w.traceable time s w.formed.parts.long n is_ready change_in

  abbrev all : List Entry
  all = first_entries T S n s (move_by T S time n s)

  by : {m : Next} → n ≡ m → all ≡ changes_before T S time m s ++ events T S m s
  by e = first ∙ ap (λ (x : Next). changes_before T S time x s ++ events T S x s) e

  -- ---- case by case
  pub take_all : (i : ℕ) → n ≡ Take i → take_entries T S i s ++ take_events T S i ≡ all
  unfolding changes_before events take_events
  take_all i e = sym (by e)

  pub change_all : (j : ℕ) → n ≡ Change j → change_entries T S j s ++ enabled_entry (element_of s) j ≡ all
  unfolding changes_before events
  change_all j e = sym (by e)

  pub idle_all : n ≡ Idle → finished_entry (element_of s) ≡ all
  unfolding changes_before events
  idle_all e = sym (by e)

  pub step_all : (j : ℕ) {age : ℕ} → age ≡ time - r.birth → n ≡ Step j → step_entries T S (step_frame S j) age s ≡ all
  unfolding changes_before events
  step_all j a e = rw (a, w.running_is) (sym (by e ∙ append-nil (step_entries T S (step_frame S j) (time - (running_of s).birth) s)))

  pub end_all : (j : ℕ) → n ≡ End j → emitted_entry T S (event_of T S j) ≡ all
  unfolding changes_before events
  end_all j e = sym (by e)

  pub back_all : n ≡ Back → [] ≡ all
  unfolding changes_before events
  back_all e = sym (by e)

  pub nothing_all : n ≡ Nothing → [] ≡ all
  unfolding changes_before events
  nothing_all e = sym (by e)
