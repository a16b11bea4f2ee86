-- The frames as code finds them, from the store before the move, are those that the definitions compare for.
use Rattle.std.specs.Prelude.{◌≡◌, ℕ, ◌-◌, ◌≤◌, ◌<◌, eqb, length}
use Rattle.std.proofs.Math.Path.{refl, ap}
use Rattle.std.proofs.Common.{sym, ◌∙◌}
use mathlib.Core.List.{List, [], ◌++◌, append-nil}
use Rattle.std.proofs.Math.Bool.{Bool, true, false}
use native.Mathlib.Omega.{arith}
use borrow.Author.Tests.{eq-eqb, eqb-true, eqb-false}
use Rattle.rules_walks.proofs.laws.Pick.{both_left, both_right, both_intro, clash}
use Rattle.rules_walks.specs.Choose.{choose}
use Rattle.rules_walks.specs.First.{Sought, one, missing}
use Rattle.rules_tables.specs.Kind.{interface, input, output, internal}
use Rattle.rules_tables.specs.Frame.{flag_at, field_at}
use Rattle.rules_tables.specs.declared.Shape.{Shape}
use Rattle.rules_tables.specs.Ids.{first_variable, elements, inputs, variables, steps, association_frame, variable_frame, step_frame}
use Rattle.rules_tables.specs.Owned.{belongs, rank, is_nth, nth}
use Rattle.rules_tables.proofs.laws.Owned.{nth_own, nth_belongs, nth_rank}
use Rattle.rules_walks.proofs.laws.First.{first_in}
use Rattle.rules_store.specs.declared.Running.{Running}
use Rattle.rules_store.specs.Layout.{need}
use Rattle.rules_store.specs.Running.{charting, stepped}
use Rattle.rules_store.specs.Word.{running_of, put_running, value, put_value}
use Rattle.rules_moves.specs.Partner.{input_owner, variable_owner, partner_variable}
use Rattle.rules_moves.proofs.laws.Carry.{of_input_lem}
use Rattle.rules_moves.specs.Chart.{element_of, state_of}
use Rattle.rules_moves.specs.Act.{result_put, untrue_step, count_untrue, one_step, step_move}
use Rattle.rules_moves.specs.Take.{taken}
use Rattle.rules_moves.specs.Ready.{Ready}
use Rattle.rules_moves.proofs.laws.Next.{ready_input, ready_step}
use Rattle.rules_moves.specs.declared.Next.{Next}
use Rattle.rules_moves.specs.declared.Next.TheVariants.{Take, Change, Idle, Step, End, Back, Nothing}
use Rattle.rules_moves.specs.Next.{move_by}
use Rattle.rules_traces.specs.declared.Entry.{Entry}
use Rattle.rules_traces.specs.Kinds.{internal_kind, input_kind, output_kind}
use Rattle.rules_traces.specs.Entry.{entry}
use Rattle.rules_traces.specs.Gather.{gather}
use Rattle.rules_traces.proofs.laws.Gather.{gather_same}
use Rattle.rules_traces.specs.Trace.{differing, value_entry, changes, events, first_entries}
use Rattle.rules_traces.specs.Traceable.{Traceable}
use Rattle.rules_traces.proofs.laws.Changes.{no_changes, idle_changes, back_changes, end_changes, change_changes, internal_changes, output_changes, other_role}
use Rattle.rules_traces.proofs.laws.Passed.{partner_owner, partner_level}
use Rattle.rules_traces.proofs.laws.Taken.{input_entry, passed_entry_lem, unpassed_entry, interface_changes, input_changes}
use Rattle.rules_store.proofs.laws.Part.{leaves_all}
use Rattle.rules_store.specs.Part.{nothing}
use Rattle.moves_tell.specs.Before.{sampled_entry, source_of, passed_from, passed_by, passed_entry, passed_entries, take_entries, change_entries, result_kind, result_of, result_entry, step_entries, changes_before}

module _ (T : List ℕ) (S : Shape) (k : Traceable T S) (time : ℕ) (s : List ℕ) (long : need S ≤ length s) where
  -- ---- taking event input i
  module _ (i : ℕ) (known : i < inputs S) where
    abbrev after : List ℕ
    after = taken T S i time s

    sampled_is : (v : ℕ) → v < variables S → value_entry T S input input_kind s after v ≡ sampled_entry T S i s v
    unfolding sampled_entry
    sampled_is v l = input_entry T S k.is_lawful i time s known long v l

    -- what a source is: an input of the same element, with as many inputs before it as the output has outputs
    module _ (u v : ℕ) (e : source_of T S u ≡ one v) where
      found : nth T (first_variable S) (variables S) input (variable_owner T S u) (rank T (first_variable S) output (variable_owner T S u) u) ≡ one v
      unfolding source_of
      found = e

      own : (flag_at T (variable_frame S v) ≡ input) × (variable_owner T S v ≡ variable_owner T S u)
      unfolding belongs
      own =
          let h = nth_belongs T (first_variable S) (variables S) input (variable_owner T S u) (rank T (first_variable S) output (variable_owner T S u) u) v found in
          (eqb-true _ input (both_left (eqb (flag_at T (variable_frame S v)) input) (eqb (variable_owner T S v) (variable_owner T S u)) h), eqb-true _ _ (both_right (eqb (flag_at T (variable_frame S v)) input) (eqb (variable_owner T S v) (variable_owner T S u)) h))

      source_below : v < variables S
      source_below = let l = first_in (is_nth T (first_variable S) input (variable_owner T S u) (rank T (first_variable S) output (variable_owner T S u) u)) 0 (variables S) v found in omega arith

      pub source_partner : u < variables S → flag_at T (variable_frame S u) ≡ output → partner_variable T S v ≡ one u
      unfolding partner_variable belongs
      source_partner l f =
          let r = nth_rank T (first_variable S) (variables S) input (variable_owner T S u) (rank T (first_variable S) output (variable_owner T S u) u) v found in
          rw (own.1, r)
          (nth_own T (first_variable S) (variables S) output (variable_owner T S u) u l
          (both_intro (eqb (flag_at T (variable_frame S u)) output) (eqb (variable_owner T S u) (variable_owner T S u)) (eq-eqb _ output f) (eq-eqb (variable_owner T S u) (variable_owner T S u) refl)))

    -- the input whose partner an output is is its source
    partner_source : (u v : ℕ) → v < variables S → flag_at T (variable_frame S v) ≡ input → partner_variable T S v ≡ one u → source_of T S u ≡ one v
    unfolding source_of belongs
    partner_source u v l f e =
        rw (partner_owner T S v u e, partner_level T S v u e)
        (nth_own T (first_variable S) (variables S) input (variable_owner T S v) v l
        (both_intro (eqb (flag_at T (variable_frame S v)) input) (eqb (variable_owner T S v) (variable_owner T S v)) (eq-eqb _ input f) (eq-eqb (variable_owner T S v) (variable_owner T S v) refl)))

    passed_is : flag_at T (input_owner T S i) ≡ interface → (u : ℕ) → u < variables S → value_entry T S output output_kind s after u ≡ passed_entry T S i s u
    unfolding passed_entry passed_by passed_from choose
    passed_is is u l = by (eqb (flag_at T (variable_frame S u)) output) (source_of T S u) refl refl
      where
        no : {x : ℕ} → missing ≡ one x → ⊥
        no e = clash (ap (λ (q : Sought). is_one q) e)
          where
            is_one : Sought → Bool
            is_one (one x) = true
            is_one missing = false

        by : (c : Bool) (q : Sought) → eqb (flag_at T (variable_frame S u)) output ≡ c → source_of T S u ≡ q
            → value_entry T S output output_kind s after u ≡ choose c (passed_by T S i s u q) []
        by true (one v) e q =
            passed_entry_lem T S k.is_lawful i time s known long is u l v (source_below u v q) (own u v q).0 (source_partner u v q l (eqb-true _ output e))
        by true missing e q =
            unpassed_entry T S k.is_lawful i time s known long is u l
            (λ j m h p. no (sym q ∙ partner_source u (field_at T (association_frame S j) 1) (k.is_lawful.is_good.association_variable j m) (k.is_lawful.is_good.association_input j m (of_input_lem T S i j h)) p))
        by false q e _ = other_role T S s after output output_kind u (eqb-false _ output e)

    pub take_is : changes T S s after ≡ take_entries T S i s
    unfolding take_entries passed_entries choose
    take_is = by (eqb (flag_at T (input_owner T S i)) interface) refl
      where
        ins : gather (value_entry T S input input_kind s after) (variables S) ≡ gather (sampled_entry T S i s) (variables S)
        ins = gather_same _ _ (variables S) sampled_is

        by : (c : Bool) → eqb (flag_at T (input_owner T S i)) interface ≡ c
            → changes T S s after ≡ gather (sampled_entry T S i s) (variables S) ++ choose c (gather (passed_entry T S i s) (variables S)) []
        by true e =
            interface_changes T S k.is_lawful i time s known
            ∙ rw (ins, gather_same (value_entry T S output output_kind s after) (passed_entry T S i s) (variables S) (passed_is (eqb-true _ interface e)))
        by false e = input_changes T S k.is_lawful i time s known (eqb-false _ interface e) ∙ ins ∙ sym (append-nil (gather (sampled_entry T S i s) (variables S)))

  -- ---- making step j: its result is an internal or an output variable
  module _ (j age : ℕ) (r : Running) (l : j < steps S) where
    abbrev result : ℕ
    result = field_at T (step_frame S j) 0

    abbrev value_now : ℕ
    value_now = result_of T S (step_frame S j) age s

    abbrev put : List ℕ
    put = put_running r (count_untrue (untrue_step T S (step_frame S j) age s) (put_value S result value_now s))

    step_is : changes T S s put ≡ step_entries T S (step_frame S j) age s
    unfolding step_entries result_entry result_kind choose
    step_is = by (eqb (flag_at T (variable_frame S result)) internal) refl
      where
        one_of : (g : ℕ) → g ≤ 2 → (g ≡ 0 → ⊥) → (g ≡ 2 → ⊥) → g ≡ 1
        one_of g a b c = omega arith

        in_range : result < variables S
        in_range = k.is_lawful.is_good.step_result j l

        by : (c : Bool) → eqb (flag_at T (variable_frame S result)) internal ≡ c
            → changes T S s put ≡ differing (value S s result) (entry (choose c internal_kind output_kind) (variable_owner T S result) result value_now)
        by true e = internal_changes T S k.is_lawful s long result value_now _ r in_range (eqb-true _ internal e)
        by false e =
            let few = k.roles result in_range in
            let no = k.is_lawful.result_other j l in
            let other = eqb-false (flag_at T (variable_frame S result)) internal e in
            output_changes T S k.is_lawful s long result value_now _ r in_range (one_of (flag_at T (variable_frame S result)) few no other)

  -- ---- every move
  module _ (next : Next) (ready : Ready S next) (running : (j : ℕ) → next ≡ Change j → element_of s < elements S) where
    changes_is : changes T S s (move_by T S time next s) ≡ changes_before T S time next s
    unfolding move_by changes_before change_entries step_move one_step result_put result_of
    changes_is = by next refl
      where
        by : (n : Next) → next ≡ n → changes T S s (move_by T S time n s) ≡ changes_before T S time n s
        by (Take i) e = take_is i (ready_input S next ready i e)
        by (Change j) e = change_changes T S k.is_lawful s long (element_of s) j (running_of s) (running j e)
        by Idle e = idle_changes T S k.is_lawful s
        by (Step j) e = step_is j (time - (running_of s).birth) (stepped (running_of s)) (ready_step S next ready j e)
        by (End j) e = end_changes T S k.is_lawful s time (state_of s) (running_of s) j
        by Back e = back_changes T S k.is_lawful s (charting (running_of s))
        by Nothing e = no_changes T S s s nothing (leaves_all T S nothing s) refl refl refl

    pub first_is : first_entries T S next s (move_by T S time next s) ≡ changes_before T S time next s ++ events T S next s
    unfolding first_entries
    first_is = ap (λ (x : List Entry). x ++ events T S next s) changes_is
