-- A run on its way: after n moves, with `at` bytes written and u untrue steps.
use mathlib.Core.Path.{◌≡◌, refl, sym, ap, ◌∙◌}
use mathlib.Core.List.{List, ◌++◌}
use mathlib.Core.Bool.{Bool, true, false}
use mathlib.Core.Logic.{⊎_elim}
use Prim.Native.Nat.{ℕ, ◌+◌, ◌-◌, ◌≤◌, ◌<◌}
use native.Mathlib.Omega.{arith}
use native.Mathlib.Numerals.{add-one}
use lib.Dec.{leb, ltb}
use lib.ListN.{length, length-append}
use lib.Seq.{sets, length-sets}
use borrow.Author.Tests.{ltb-true, leb-true, leb-false, lt-ltb, le-leb, lt-leb}
use Rattle.rules_walks.specs.Pick.{pick, both}
use Rattle.rules_walks.proofs.laws.Pick.{clash, both_intro, test_cases}
use Rattle.rules_walks.specs.All.{all_to}
use Rattle.rules_walks.proofs.laws.All.{all_none, all_more, all_at}
use Rattle.rules_walks.proofs.laws.Held.{held_is}
use Rattle.rules_numbers.proofs.laws.Sets.{and_then_lem}
use Rattle.rules_tables.specs.declared.Shape.{Shape}
use Rattle.rules_store.specs.declared.Running.{Running}
use Rattle.rules_store.specs.Word.{running_of}
use Rattle.rules_moves.specs.declared.Next.{Next}
use Rattle.rules_moves.specs.Next.{next_by, next_of, moves, move, untrue_move, written, written_by, size_by}
use Rattle.moves_next.specs.Made.{Made}
use Rattle.rules_calls.specs.Run.{after, bytes, untrue_in, another, room_for, continues, made, stop_after}
use Rattle.rules_calls.proofs.laws.Run.{untrue_fit}
use Rattle.calls_run.specs.RunMade.{asked, RunMade}

pub record Going (T : List ℕ) (S : Shape) (time budget : ℕ) (s₀ out₀ s out : List ℕ) (n at u : ℕ) : Type 0 where
  pub within : n ≤ budget
  pub store : s ≡ after T S time n s₀
  pub output : out ≡ sets out₀ 0 (bytes T S time n s₀)
  pub place : at ≡ length (bytes T S time n s₀)
  pub fits : at ≤ length out₀
  pub long : length out ≡ length out₀
  pub went : all_to (continues T S time (length out₀) s₀) n ≡ true
  pub untrue_is : u ≡ untrue_in T S time n s₀

-- room in what is left is room after what is written
pub left_room : (at z room : ℕ) → at ≤ room → leb z (room - at) ≡ leb (at + z) room
left_room at z room l =
    ⊎_elim (λ (e : leb z (room - at) ≡ true). let h = leb-true z (room - at) e in e ∙ sym (le-leb (at + z) room (omega arith)))
    (λ (e : leb z (room - at) ≡ false). let h = leb-false z (room - at) e in e ∙ sym (lt-leb (at + z) room (omega arith))) (test_cases (leb z (room - at)))

-- what the three questions answered
goes : (a b c : Bool) → ◌≡◌ {A = ℕ} (pick a (pick b (pick c 0 2) 3) 1) 0 → (a ≡ true) × (b ≡ true) × (c ≡ true)
goes true true true e = (refl, refl, refl)
goes true true false e = absurd (omega arith)
goes true false c e = absurd (omega arith)
goes false b c e = absurd (omega arith)

stops : (a b c : Bool) → (◌≡◌ {A = ℕ} (pick a (pick b (pick c 0 2) 3) 1) 0 → ⊥) → (◌≡◌ {A = ℕ} (pick a (pick b (pick c 0 2) 3) 1) (pick a (pick b 2 3) 1)) × (c ≡ true → both a b ≡ false)
stops true true true h = absurd (h refl)
stops true true false h = (refl, λ e. clash e)
stops true false c h = (refl, λ e. refl)
stops false b c h = (refl, λ e. refl)

-- the running block was read from the store
pub comes_next : (T : List ℕ) (S : Shape) (s : List ℕ) {r : Running} {next : Next} → r ≡ running_of s → next ≡ next_by T S r s → next ≡ next_of T S s
unfolding next_of
comes_next T S s read e = rw (← read) e

module _ (T : List ℕ) (S : Shape) (time budget : ℕ) (s₀ out₀ : List ℕ) where
  pub going_start : Going T S time budget s₀ out₀ s₀ out₀ 0 0 0
  unfolding after bytes untrue_in
  going_start = record { within = omega arith; store = refl; output = refl; place = refl; fits = omega arith; long = refl; went = all_none (continues T S time (length out₀) s₀); untrue_is = refl }

  module _ (s out : List ℕ) (n at u : ℕ) (w : Going T S time budget s₀ out₀ s out n at u) {next : Next} (comes : next ≡ next_of T S s) where
    -- the bytes that it writes
    abbrev z : ℕ
    z = size_by T S time next s

    -- what the questions ask, in the run's own terms
    is_another : moves next ≡ another T S time s₀ n
    unfolding another
    is_another = rw (← w.store, ← comes)

    is_room : leb (at + z) (length out) ≡ room_for T S time (length out₀) s₀ n
    unfolding room_for
    is_room = rw (← w.store, ← comes, ← w.place, w.long)

    -- the run goes on
    module _ (go : ◌≡◌ {A = ℕ} 0 (asked next z at (length out) n budget)) where
      passed : (moves next ≡ true) × (leb (at + z) (length out) ≡ true) × (ltb n budget ≡ true)
      unfolding asked
      passed = goes (moves next) (leb (at + z) (length out)) (ltb n budget) (sym go)

      pub room_left : at + z ≤ length out
      room_left = leb-true _ _ passed.1

      pub budget_left : n < budget
      budget_left = ltb-true _ _ passed.2

      went_on : continues T S time (length out₀) s₀ n ≡ true
      unfolding continues
      went_on = both_intro _ _ (sym is_another ∙ passed.0) (sym is_room ∙ passed.1)

      wrote : (n : ℕ) → bytes T S time (n + 1) s₀ ≡ bytes T S time n s₀ ++ written T S time (after T S time n s₀)
      unfolding bytes
      wrote n = rw (add-one n) refl

      moved : (n : ℕ) → after T S time (n + 1) s₀ ≡ move T S time (after T S time n s₀)
      unfolding after
      moved n = rw (add-one n) refl

      counts : (n : ℕ) → untrue_in T S time (n + 1) s₀ ≡ untrue_in T S time n s₀ + untrue_move T S time (after T S time n s₀)
      unfolding untrue_in
      counts n = rw (add-one n) refl

      -- so the count of untrue steps does not pass that of the moves, which stays below the budget
      pub untrue_left : u < budget
      untrue_left = let few = untrue_fit T S time s₀ n in let g = budget_left in let c = w.untrue_is in omega arith

      pub going_more : (s' out' : List ℕ) {p x : ℕ} → Made T S time next s s' out out' at p u x → Going T S time budget s₀ out₀ s' out' (n + 1) p x
      unfolding move untrue_move written size_by
      going_more s' out' m =
          let p = m.store in
          let q = m.output in
          let a = m.place in
          let e : written_by T S time next s ≡ written_by T S time (next_of T S (after T S time n s₀)) (after T S time n s₀) = rw (← w.store, ← comes) in
          let b : bytes T S time (n + 1) s₀ ≡ bytes T S time n s₀ ++ written_by T S time next s = wrote n ∙ ap (λ (x : List ℕ). bytes T S time n s₀ ++ x) (sym e) in
          let r = room_left in
          let g = budget_left in
          record {
            within = omega arith;
            store = rw (moved n, ← w.store, ← comes) p;
            output = rw b (and_then_lem out₀ 0 at (bytes T S time n s₀) (written_by T S time next s) (omega (arith, w.place)) w.output q);
            place = rw (a, b) (omega (arith, length-append (bytes T S time n s₀) (written_by T S time next s), w.place));
            fits = omega (arith, w.long);
            long = ap length q ∙ length-sets out at (written_by T S time next s) ∙ w.long;
            went = all_more (continues T S time (length out₀) s₀) n w.went went_on;
            untrue_is = rw (counts n, ← w.store, ← comes, ← w.untrue_is) m.untrue_told;
          }

    -- the run stops
    pub going_done : {stop : ℕ} → stop ≡ asked next z at (length out) n budget → (stop ≡ 0 → ⊥) → {p : ℕ} → RunMade T S time budget s₀ out₀ (record { moves = n; bytes = at; stop = stop; traced = p; untrue = u }) s out
    unfolding asked continues made stop_after
    going_done {stop} e ne =
        let c = stops (moves next) (leb (at + z) (length out)) (ltb n budget) (λ h. ne (e ∙ h)) in
        record {
          moves_made =
              held_is (continues T S time (length out₀) s₀) budget n
              (record {
                within = w.within;
                before = λ i l. all_at (continues T S time (length out₀) s₀) n i l w.went;
                stopped = λ l. rw (← is_another, ← is_room) (c.1 (lt-ltb n budget l));
              });
          store_after = w.store;
          out_after = w.output;
          bytes_written = w.place;
          stopped = e ∙ c.0 ∙ rw (is_another, is_room);
          untrue_made = w.untrue_is;
        }
