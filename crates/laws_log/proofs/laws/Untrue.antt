-- The count of untrue steps: a step that is one raises it, and nothing else changes it. So it is the sum of what the runs tell, up to its end.
use Rattle.std.specs.Prelude.{◌≡◌, Bool}
use Rattle.std.proofs.Math.Path.{refl}
use Rattle.std.proofs.Common.{◌∙◌}
use mathlib.Core.List.{List}
use Prim.Native.Nat.{ℕ, zero, suc, ◌+◌, ◌-◌, ◌≤◌, ◌<◌, min}
use native.Mathlib.Omega.{arith}
use Rattle.rules_walks.proofs.laws.Choose.{by_choose}
use Rattle.rules_walks.proofs.laws.Walk.{up_to_keeps}
use Rattle.rules_walks.specs.First.{Sought}
use Rattle.rules_walks.specs.Walk.{up_to}
use Rattle.rules_tables.specs.declared.Shape.{Shape}
use Rattle.rules_tables.specs.Ids.{elements, inputs, first_output, outputs, associations, step_frame}
use Rattle.rules_tables.specs.Lawful.{Lawful}
use Rattle.rules_tables.specs.Owned.{any, nth}
use Rattle.rules_store.specs.declared.Running.{Running}
use Rattle.rules_store.specs.Formed.{Formed}
use Rattle.rules_store.specs.Running.{stepped, charting}
use Rattle.rules_store.specs.Word.{count_end, counted, now_of, running_of, put_running, untrue, put_now, birth_of}
use Rattle.rules_store.proofs.laws.Word.{counted_grows, counted_adds}
use Rattle.rules_store.specs.Part.{Part, untrues, all_but}
use Rattle.rules_store.proofs.laws.Writer.{leaves_now, leaves_running, leaves_due}
use Rattle.rules_moves.specs.declared.Next.{Next}
use Rattle.rules_moves.specs.declared.Next.TheVariants.{Take, Change, Idle, Step, End, Back, Nothing}
use Rattle.rules_moves.specs.Act.{untrue_step, one_step, step_move}
use Rattle.rules_moves.specs.Chart.{element_of, state_of}
use Rattle.rules_moves.specs.Means.{Means, Stepping}
use Rattle.rules_moves.specs.Next.{next_of, move_by, move, untrue_by, untrue_move}
use Rattle.rules_moves.specs.Take.{fire_found, settled, fired_by, taken}
use Rattle.rules_moves.proofs.laws.Firing.{fire_leaves}
use Rattle.rules_moves.proofs.laws.Moving.{change_leaves, idle_leaves, one_step_counts, end_leaves, untrue_few}
use Rattle.rules_moves.proofs.laws.Next.{next_means, step_below}
use Rattle.rules_moves.proofs.laws.Taking.{settled_leaves, fire_found_leaves}
use Rattle.rules_calls.specs.Calls.{expired, expire, advanced, give, arrived}
use Rattle.rules_store.specs.Due.{due_at}
use Rattle.rules_calls.specs.Run.{after, untrue_in}
use Rattle.rules_calls.proofs.laws.Calls.{gives_leaves}
use Rattle.laws_log.proofs.laws.Moves.{runs_within, formed_after}

-- every part but this count
abbrev others : Part → Bool
others = all_but untrues

module _ (T : List ℕ) (S : Shape) (k : Lawful T S) where
  fire_found_same : (s : List ℕ) (q : Sought) (birth t : ℕ) → untrue (fire_found T S q birth t s) ≡ untrue s
  fire_found_same s q birth t = (fire_found_leaves T S k others refl refl refl q birth t s).untrue_same refl

  put_same : (s : List ℕ) (r : Running) → untrue (put_running r s) ≡ untrue s
  put_same s r = (leaves_running T S others s r refl).untrue_same refl

  -- ---- one move
  module _ (s : List ℕ) (f : Formed T S s) (t : ℕ) where
    taken_same : (i : ℕ) → i < inputs S → untrue (taken T S i t s) ≡ untrue s
    unfolding taken
    taken_same i l =
        fire_found_same (settled T S i t s) (fired_by T S i) (birth_of S s i) t ∙ (settled_leaves T S k others refl refl refl refl refl i t s l).untrue_same refl

    step_counts : (j : ℕ) → Stepping T S (running_of s) s j → untrue (step_move T S t (running_of s) j s) ≡ counted (untrue_step T S (step_frame S j) (t - (running_of s).birth) s) (untrue s)
    unfolding step_move
    step_counts j st =
        let r = running_of s in
        put_same (one_step T S (step_frame S j) (t - r.birth) s) (stepped r) ∙ one_step_counts T S k j (t - r.birth) s (step_below T S r s k.is_good j st) f.parts.long

    by_next : (n : Next) → Means T S (running_of s) s n → untrue (move_by T S t n s) ≡ counted (untrue_by T S t n s) (untrue s)
    unfolding move_by untrue_by counted
    by_next (Take i) m = taken_same i m.1.inside
    by_next (Change j) m = (change_leaves T S k others refl refl (element_of s) (running_of s) j s (runs_within T S s f (λ z. omega (arith, m.0)))).untrue_same refl
    by_next Idle m = (idle_leaves T S k others refl s).untrue_same refl
    by_next (Step j) m = step_counts j m
    by_next (End j) m = (end_leaves T S k others refl refl refl refl t (state_of s) (running_of s) j s).untrue_same refl
    by_next Back m = put_same s (charting (running_of s))
    by_next Nothing m = refl

    pub move_counts : untrue (move T S t s) ≡ counted (untrue_move T S t s) (untrue s)
    unfolding move untrue_move next_of
    move_counts = by_next (next_of T S s) (next_means T S (running_of s) s)

  move_few : (t : ℕ) (s : List ℕ) → untrue_move T S t s ≤ 1
  unfolding untrue_move
  move_few t s = untrue_few T S t (next_of T S s) s

  -- ---- any number of them
  module _ (s : List ℕ) (f : Formed T S s) where
    pub after_grows : (n : ℕ) → untrue s ≤ untrue (after T S (now_of s) n s)
    unfolding after
    after_grows zero = omega arith
    after_grows (suc n) =
        let x = after T S (now_of s) n s in
        let e = move_counts x (formed_after T S k n s f) (now_of s) in
        omega (arith, after_grows n, counted_grows (untrue_move T S (now_of s) x) (untrue x))

    pub after_counts : untrue s ≤ count_end → (n : ℕ) → untrue (after T S (now_of s) n s) ≡ min (untrue s + untrue_in T S (now_of s) n s) count_end
    unfolding after untrue_in
    after_counts l zero = omega arith
    after_counts l (suc n) =
        let x = after T S (now_of s) n s in
        let e = after_counts l n in
        let u = untrue_move T S (now_of s) x in
        let few = move_few (now_of s) x in
        move_counts x (formed_after T S k n s f) (now_of s) ∙ counted_adds u (untrue x) few (omega arith) ∙ omega arith

  -- ---- advance and arrival leave it
  expired_same : (t el : ℕ) (s : List ℕ) → el < elements S → untrue (expired T S t el s) ≡ untrue s
  unfolding expired
  expired_same t el s l =
      let q = nth T (first_output S) (outputs S) any el 0 in
      (leaves_due T S others (fire_found T S q t t s) el 0 0 l refl).untrue_same refl ∙ fire_found_same s q t t

  pub advanced_untrue : (t : ℕ) (s : List ℕ) → untrue (advanced T S t s) ≡ untrue s
  unfolding advanced expire
  advanced_untrue t s =
      up_to_keeps (λ (x : List ℕ). untrue x ≡ untrue s) (expire T S t) (elements S) (put_now t s)
      (λ el l x w. by_choose (λ (y : List ℕ). untrue y ≡ untrue s) (due_at x t el) (expired T S t el x) x (λ _. expired_same t el x l ∙ w) (λ _. w))
      ((leaves_now T S others s t refl).untrue_same refl)

  pub arrived_untrue : (o birth : ℕ) (values s : List ℕ) → untrue (arrived T S o birth values s) ≡ untrue s
  unfolding arrived
  arrived_untrue o birth values s =
      (fire_leaves T S k others refl refl refl o birth (now_of s) (up_to (give T S o values) (associations S) s)).untrue_same refl
      ∙ (gives_leaves T S k others refl o values s).untrue_same refl
