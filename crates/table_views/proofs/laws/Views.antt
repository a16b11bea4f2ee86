-- Laws of the views: the spans of kinds and of actions' steps, and that they lie in the table.
use Rattle.std.specs.Prelude.{◌≡◌, List, eqb, ℕ, ◌+◌, ◌-◌, ◌*◌, ◌≤◌, ◌<◌, take, drop, Ok, Err}
use Rattle.std.proofs.Common.{sym, ap, ◌∙◌, arith}
use Rattle.std.specs.Borrow.{Bor}
use borrow.Author.Tests.{le-leb, lt-leb, lt-ltb, le-ltb, eq-eqb, ne_eqb}
use Rattle.rules_walks.proofs.laws.Pick.{both_false, by_test}
use Rattle.rules_tables.specs.Kind.{action, step}
use Rattle.rules_tables.specs.Frame.{frames_of, field_at}
use Rattle.rules_tables.specs.Place.{start_of, count_of, place}
use Rattle.rules_tables.proofs.laws.Places.{below_next, below_le}
use Rattle.rules_tables.specs.declared.Shape.{Shape}
use Rattle.rules_tables.specs.declared.Refusal.{Refusal}
use Rattle.rules_tables.specs.declared.Span.{Span}
use Rattle.rules_tables.specs.Judge.{accepted, judge, judged, shape_of}
use Rattle.rules_tables.proofs.laws.Judge.{was_sound, was_refused}
use Rattle.rules_tables.specs.View.{span, stretch, kind_span, steps_at, step_span, IsPart}
use Rattle.table_views.specs.Within.{Within}
use Rattle.rules_tables.specs.Accepted.{Accepted}
use Rattle.rules_tables.proofs.laws.Accepted.{accepted_means}

module _ (T : List ℕ) where
  -- ---- no frames
  nothing : (s : Span) → span 0 0 ≡ s → Within T s (span 0 0)
  nothing s e = record { same = e; inside = omega arith }

  pub kind_refused : (k : ℕ) (r : Refusal) → judged T ≡ Err r → Within T (kind_span T k) (span 0 0)
  unfolding kind_span
  kind_refused k r e = nothing (kind_span T k) (rw (was_refused T r e))

  pub kind_low : (k : ℕ) → k < 1 → Within T (kind_span T k) (span 0 0)
  unfolding kind_span
  kind_low k l = nothing (kind_span T k) (rw (lt-leb 1 k l, both_false))

  pub kind_high : (k : ℕ) → 11 < k → Within T (kind_span T k) (span 0 0)
  unfolding kind_span
  kind_high k l = nothing (kind_span T k) (rw (lt-leb k 11 l) (simp both_false))

  pub step_refused : (id : ℕ) (r : Refusal) → judged T ≡ Err r → Within T (step_span T id) (span 0 0)
  unfolding step_span
  step_refused id r e = nothing (step_span T id) (rw (was_refused T r e))

  -- ---- of an accepted table, of this shape
  module _ (s : Shape) (e : judged T ≡ Ok s) where
    verdict : judge T ≡ accepted
    verdict = (was_sound T s e).0

    known : Accepted T
    known = accepted_means T verdict

    shape : s ≡ shape_of T
    shape = (was_sound T s e).1

    pub few_frames : frames_of T ≤ 4096
    few_frames = known.most

    pub kind_in : (k a n : ℕ) (r : Span) → 1 ≤ k → k ≤ 11 → a ≡ start_of T k → n ≡ count_of T k → r ≡ stretch a n → Within T (kind_span T k) r
    unfolding kind_span stretch
    kind_in k a n r l h p q u =
        record {
          same = rw (u, p, q, verdict, le-leb 1 k l, le-leb k 11 h);
          inside =
              rw u
              (by_test (λ (x : Span). x.first + x.count ≤ frames_of T) (eqb n 0) (span 0 0) (span a n) (λ _. omega arith)
              (λ _. let w = below_next T k (frames_of T) in let v = below_le T (k + 1) (frames_of T) in omega arith));
        }

    -- where the actions begin, and where the steps do
    abbrev first_action : ℕ
    first_action = s.transitions_end

    abbrev first_step : ℕ
    first_step = s.actions_end

    -- the actions stand between the transitions and the steps
    actions : (first_action ≡ start_of T action) × (first_step ≡ start_of T action + count_of T action)
    actions = (ap (λ (x : Shape). x.transitions_end) shape, ap (λ (x : Shape). x.actions_end) shape ∙ known.next action)

    pub few_actions : first_action ≤ first_step
    few_actions = omega (arith, actions.0, actions.1)

    module _ (id : ℕ) where
      pub step_none : first_step - first_action ≤ id → Within T (step_span T id) (span 0 0)
      unfolding step_span
      step_none l =
          let h : count_of T action ≤ id = omega (arith, actions.0, actions.1) in
          nothing (step_span T id) (rw (le-ltb id (count_of T action) h, both_false))

      module _ (l : id < first_step - first_action) where
        exists : id < count_of T action
        exists = omega (arith, actions.0, actions.1)

        at : place T action id ≡ first_action + id
        at = known.at action id exists ∙ ap (λ (x : ℕ). x + id) (sym actions.0)

        pub action_in : first_action + id < frames_of T
        action_in = rw actions.0 (known.found action id exists).in_table

        in_span : steps_at T (first_action + id) ≡ step_span T id
        unfolding step_span
        in_span = rw (verdict, lt-ltb id (count_of T action) exists, at)

        pub step_empty : (n : ℕ) → n ≡ field_at T (first_action + id) 2 → n ≡ 0 → Within T (step_span T id) (span 0 0)
        unfolding steps_at
        step_empty n p z = nothing (step_span T id) (rw (← in_span) (rw (eq-eqb (field_at T (first_action + id) 2) 0 (sym p ∙ z))))

        -- the first step and the number of steps
        module _ (b n : ℕ) (p : b ≡ field_at T (first_action + id) 1) (q : n ≡ field_at T (first_action + id) 2) (ne : n ≡ 0 → ⊥) where
          pub steps_in : first_step + b + n ≤ frames_of T
          steps_in =
              let f = first_action + id in
              let k = rw (← actions.0) at (known.found action id exists).kind in
              let w = (known.action_of f action_in k).steps (λ z. ne (q ∙ z)) in
              let u = known.next action in
              let v = known.next step in
              let g = below_le T 10 (frames_of T) in
              omega (arith, actions.1, w, u, v, g)

          pub step_some : Within T (step_span T id) (span (first_step + b) n)
          unfolding steps_at
          step_some =
              record {
                same = rw (← in_span) (rw (ne_eqb (field_at T (first_action + id) 2) 0 (λ z. ne (q ∙ z)), p, q, shape));
                inside = steps_in;
              }

-- a part of the table that starts where the span does and ends where it does
pub part_of : (t r : Bor (List ℕ)) (s : Span) → r.now ≡ take (12 * s.first + 12 * s.count - 12 * s.first) (drop (12 * s.first) t.now)
    → r.ref_ptr ≡ (t.ref_ptr.0, 12 * s.first + t.ref_ptr.1) → IsPart t r s
part_of t r s b l =
    let n : 12 * s.first + 12 * s.count - 12 * s.first ≡ 12 * s.count = omega arith in
    record { bytes = rw (← n) b; lies = l }
