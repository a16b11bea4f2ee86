-- A traced run on its way: after n moves, with p bytes of trace written. What it does beside its trace is what a run does (`Going`).
use mathlib.Core.Path.{◌≡◌, refl, sym, ap, subst, ◌∙◌}
use mathlib.Core.List.{List, ◌++◌}
use mathlib.Core.Bool.{Bool, true, false, not}
use Prim.Native.Nat.{ℕ, ◌+◌, ◌-◌, ◌≤◌}
use native.Mathlib.Omega.{arith}
use native.Mathlib.Numerals.{add-one}
use lib.Dec.{leb, ltb}
use lib.ListN.{length, length-append}
use lib.Seq.{sets, length-sets}
use borrow.Author.Tests.{leb-true, lt-ltb, not-false}
use Rattle.rules_walks.specs.Pick.{pick, both}
use Rattle.rules_walks.proofs.laws.Pick.{clash, both_intro, not_back}
use Rattle.rules_walks.specs.All.{all_to}
use Rattle.rules_walks.proofs.laws.All.{all_none, all_more, all_at}
use Rattle.rules_walks.proofs.laws.Held.{held_is}
use Rattle.rules_numbers.proofs.laws.Sets.{and_then_lem}
use Rattle.rules_tables.specs.declared.Shape.{Shape}
use Rattle.rules_store.specs.declared.Running.{Running}
use Rattle.rules_moves.specs.declared.Next.{Next}
use Rattle.rules_moves.specs.Next.{next_of, moves, move_by, size_by}
use Rattle.rules_calls.specs.Run.{another, room_for, continues}
use Rattle.rules_traces.specs.declared.Entry.{Entry}
use Rattle.rules_traces.specs.Entry.{entry_frames}
use Rattle.rules_traces.specs.Trace.{first_entries, entries_by, entries_of}
use Rattle.rules_traces.specs.Run.{trace, trace_room_for, traced_continues, traced_made, traced_stop}
use Rattle.moves_tell.specs.Before.{numbers_by}
use Rattle.moves_tell.specs.Telling.{Telling}
use Rattle.moves_tell.specs.Told.{Told, Room}
use Rattle.moves_tell.specs.Taped.{Taped, Space}
use Rattle.moves_tell.specs.declared.tape.Tape.{Tape}
use Rattle.calls_run.specs.TapedIf.{TapedIf}
use Rattle.moves_tell.proofs.laws.Told.{told_length}
use Rattle.moves_tell.proofs.laws.Sizing.{last_room, all_told}
use Rattle.calls_run.specs.RunMade.{asked, asked_traced, asked_by, ToldIf, TracedMade, RanAs}
use Rattle.calls_run.proofs.Going.{Going, left_room, going_done}

pub record Tracing (T : List ℕ) (S : Shape) (time : ℕ) (s₀ tr₀ tr : List ℕ) (n p : ℕ) : Type 0 where
  pub written : tr ≡ sets tr₀ 0 (trace T S time n s₀)
  pub place : p ≡ length (trace T S time n s₀)
  pub fits : p ≤ length tr₀
  pub long : length tr ≡ length tr₀
  pub went : all_to (trace_room_for T S time (length tr₀) s₀) n ≡ true

-- what the four questions answered
goes : (a b d c : Bool) → ◌≡◌ {A = ℕ} (pick a (pick b (pick d (pick c 0 2) 4) 3) 1) 0 → (a ≡ true) × (b ≡ true) × (d ≡ true) × (c ≡ true)
goes true true true true e = (refl, refl, refl, refl)
goes true true true false e = absurd (omega arith)
goes true true false c e = absurd (omega arith)
goes true false d c e = absurd (omega arith)
goes false b d c e = absurd (omega arith)

stops : (a b d c : Bool) → (◌≡◌ {A = ℕ} (pick a (pick b (pick d (pick c 0 2) 4) 3) 1) 0 → ⊥)
    → (◌≡◌ {A = ℕ} (pick a (pick b (pick d (pick c 0 2) 4) 3) 1) (pick a (pick b (pick d 2 4) 3) 1)) × (c ≡ true → both (both a b) d ≡ false)
stops true true true true h = absurd (h refl)
stops true true true false h = (refl, λ e. clash e)
stops true true false c h = (refl, λ e. refl)
stops true false d c h = (refl, λ e. refl)
stops false b d c h = (refl, λ e. refl)

-- ---- the questions, as the code asks them
module _ (tracing : Bool) (next : Next) (z at room y p space n budget : ℕ) (la : at ≤ room) (lp : p ≤ space) {a : Bool} (ea : a ≡ not (moves next)) where
  abbrev answer : Bool → ℕ
  answer t = asked_by t next z at room y p space n budget

  pub no_move : a ≡ true → ◌≡◌ {A = ℕ} 1 (answer tracing)
  unfolding asked asked_traced asked_by
  no_move h = by tracing
    where
      by : (t : Bool) → ◌≡◌ {A = ℕ} 1 (answer t)
      by true = rw (not_back (moves next) (sym ea ∙ h))
      by false = rw (not_back (moves next) (sym ea ∙ h))

  module _ (ha : a ≡ false) {b : Bool} (eb : b ≡ leb z (room - at)) where
    has_room : leb (at + z) room ≡ b
    has_room = sym (left_room at z room la) ∙ sym eb

    pub no_room : b ≡ false → ◌≡◌ {A = ℕ} 3 (answer tracing)
    unfolding asked asked_traced asked_by
    no_room h = by tracing
      where
        by : (t : Bool) → ◌≡◌ {A = ℕ} 3 (answer t)
        by true = rw (not-false (moves next) (sym ea ∙ ha), has_room ∙ h)
        by false = rw (not-false (moves next) (sym ea ∙ ha), has_room ∙ h)

    module _ (hb : b ≡ true) where
      -- without a trace
      pub plain_spent : tracing ≡ false → {x : ℕ} → x ≡ pick (ltb n budget) 0 2 → x ≡ answer tracing
      unfolding asked asked_by
      plain_spent t e = rw (t, not-false (moves next) (sym ea ∙ ha), has_room ∙ hb) e

      -- with one
      module _ (ht : tracing ≡ true) {d : Bool} (ed : d ≡ leb y (space - p)) where
        has_space : leb (p + y) space ≡ d
        has_space = sym (left_room p y space lp) ∙ sym ed

        pub no_space : d ≡ false → ◌≡◌ {A = ℕ} 4 (answer tracing)
        unfolding asked_traced asked_by
        no_space h = rw (ht, not-false (moves next) (sym ea ∙ ha), has_room ∙ hb, has_space ∙ h)

        pub traced_spent : d ≡ true → {x : ℕ} → x ≡ pick (ltb n budget) 0 2 → x ≡ answer tracing
        unfolding asked_traced asked_by
        traced_spent h e = rw (ht, not-false (moves next) (sym ea ∙ ha), has_room ∙ hb, has_space ∙ h) e

-- a run with a trace that goes on would go on without
pub goes_untraced : (tracing : Bool) (next : Next) (z at room y p space n budget : ℕ) → ◌≡◌ {A = ℕ} 0 (asked_by tracing next z at room y p space n budget) → ◌≡◌ {A = ℕ} 0 (asked next z at room n budget)
unfolding asked asked_traced asked_by
goes_untraced true next z at room y p space n budget e =
    let w = goes (moves next) (leb (at + z) room) (leb (p + y) space) (ltb n budget) (sym e) in
    rw (w.0, w.1, w.3)
goes_untraced false next z at room y p space n budget e = e

-- ---- the numbers of a move, told from the store after it
module _ (T : List ℕ) (S : Shape) (n : Next) (m : List ℕ) {s' : List ℕ} (store : s' ≡ m) where
  pub room_of : {p : ℕ} {tr : List ℕ} → Room (numbers_by T S n m) p tr → Room (numbers_by T S n s') p tr
  room_of {p} {tr} = subst (λ (x : List ℕ). Room (numbers_by T S n x) p tr) (sym store)

  pub numbers_of : {tracing : Bool} {p z : ℕ} {tr tr' : List ℕ} → ToldIf tracing (numbers_by T S n s') p tr tr' z → ToldIf tracing (numbers_by T S n m) p tr tr' z
  numbers_of {tracing} {p} {z} {tr} {tr'} = subst (λ (x : List ℕ). ToldIf tracing (numbers_by T S n x) p tr tr' z) store

-- ---- frames told where the run has a trace
module _ (tracing : Bool) (es : List Entry) (at : ℕ) (tr : List ℕ) where
  pub not_told : at ≤ length tr → tracing ≡ false → ToldIf tracing es at tr tr at
  not_told l e = record { told = λ t. clash (sym e ∙ t); long = refl; fits = l }

  pub all_told_if : {tr' : List ℕ} {r : ℕ} → Room es at tr → Told es at tr tr' r → ToldIf tracing es at tr tr' r
  all_told_if w d =
      let l = told_length d in
      let h = w.enough in
      let q = d.place_is in
      record { told = λ _. d; long = l; fits = omega arith }

-- after a branch: what the tape then is
module _ {tracing : Bool} (es : List Entry) (t : Tape) where
  pub taped_here : Space es t → {t' t'' : Tape} → Taped es t t' → t'' ≡ t' → TapedIf tracing es t t''
  taped_here w d a = rw a (record { told_if = all_told_if tracing es t.at t.bytes.now w d.told; same = d.same })

  pub not_taped_here : t.at ≤ length t.bytes.now → tracing ≡ false → {t' : Tape} → t' ≡ t → TapedIf tracing es t t'
  not_taped_here l e a = rw a (record { told_if = not_told tracing es t.at t.bytes.now l e; same = refl })

-- both parts of a move's frames: those told from the store before it, and its numbers
module _ (T : List ℕ) (S : Shape) (time : ℕ) (r : Running) (n : Next) (s : List ℕ) (w : Telling T S time r n s) (tracing : Bool) (at : ℕ) (tr : List ℕ) {tr' : List ℕ} {q : ℕ}
    (first : ToldIf tracing (first_entries T S n s (move_by T S time n s)) at tr tr' q) where
  pub numbers_room : (tracing ≡ true → Room (entries_by T S time n s) at tr) → tracing ≡ true → Room (numbers_by T S n (move_by T S time n s)) q tr'
  numbers_room h t = last_room T S time r n s w at tr refl (h t) (first.told t)

  pub told_both : {tr'' : List ℕ} {z : ℕ} → ToldIf tracing (numbers_by T S n (move_by T S time n s)) q tr' tr'' z → ToldIf tracing (entries_by T S time n s) at tr tr'' z
  told_both d = record { told = λ t. all_told T S time r n s w at tr refl (first.told t) (d.told t); long = d.long ∙ first.long; fits = d.fits }

pub tracing_start : (T : List ℕ) (S : Shape) (time : ℕ) (s₀ tr₀ : List ℕ) → Tracing T S time s₀ tr₀ tr₀ 0 0
unfolding trace
tracing_start T S time s₀ tr₀ =
    record { written = refl; place = refl; fits = omega arith; long = refl; went = all_none (trace_room_for T S time (length tr₀) s₀) }

module _ (T : List ℕ) (S : Shape) (time budget : ℕ) (s₀ out₀ tr₀ : List ℕ) where
  module _ (s out tr : List ℕ) (n at u p : ℕ) (w : Going T S time budget s₀ out₀ s out n at u) (v : Tracing T S time s₀ tr₀ tr n p) {next : Next} (comes : next ≡ next_of T S s) where
    -- the bytes that it writes to the output, and to the trace
    abbrev z : ℕ
    z = size_by T S time next s

    abbrev y : ℕ
    y = length (entry_frames (entries_by T S time next s))

    -- what the questions ask, in the run's own terms
    is_another : moves next ≡ another T S time s₀ n
    unfolding another
    is_another = rw (← w.store, ← comes)

    is_room : leb (at + z) (length out) ≡ room_for T S time (length out₀) s₀ n
    unfolding room_for
    is_room = rw (← w.store, ← comes, ← w.place, w.long)

    is_space : leb (p + y) (length tr) ≡ trace_room_for T S time (length tr₀) s₀ n
    unfolding trace_room_for entries_of
    is_space = rw (← w.store, ← comes, ← v.place, v.long)

    -- the run goes on
    module _ (go : ◌≡◌ {A = ℕ} 0 (asked_traced next z at (length out) y p (length tr) n budget)) where
      passed : (moves next ≡ true) × (leb (at + z) (length out) ≡ true) × (leb (p + y) (length tr) ≡ true) × (ltb n budget ≡ true)
      unfolding asked_traced
      passed = goes (moves next) (leb (at + z) (length out)) (leb (p + y) (length tr)) (ltb n budget) (sym go)

      -- so would a run without a trace
      pub also_untraced : ◌≡◌ {A = ℕ} 0 (asked next z at (length out) n budget)
      unfolding asked
      also_untraced = rw (passed.0, passed.1, passed.3)

      pub space_left : Room (entries_by T S time next s) p tr
      space_left = record { enough = leb-true _ _ passed.2 }

      traced_more : trace T S time (n + 1) s₀ ≡ trace T S time n s₀ ++ entry_frames (entries_by T S time next s)
      unfolding trace entries_of
      traced_more = rw (add-one n, ← w.store, ← comes) refl

      pub tracing_more : {tr' : List ℕ} {p' : ℕ} → Told (entries_by T S time next s) p tr tr' p' → Tracing T S time s₀ tr₀ tr' (n + 1) p'
      tracing_more {tr'} {p'} d =
          let a = d.place_is in
          let b = length-append (trace T S time n s₀) (entry_frames (entries_by T S time next s)) in
          let c = v.place in
          let l = leb-true (p + y) (length tr) passed.2 in
          let g = v.long in
          record {
            written = rw traced_more (and_then_lem tr₀ 0 p (trace T S time n s₀) (entry_frames (entries_by T S time next s)) (omega arith) v.written d.bytes_are);
            place = rw traced_more (omega arith);
            fits = omega arith;
            long = ap length d.bytes_are ∙ length-sets tr p (entry_frames (entries_by T S time next s)) ∙ v.long;
            went = all_more (trace_room_for T S time (length tr₀) s₀) n v.went (sym is_space ∙ passed.2);
          }

    -- the run stops
    pub traced_done : {stop : ℕ} → stop ≡ asked_traced next z at (length out) y p (length tr) n budget → (stop ≡ 0 → ⊥)
        → TracedMade T S time budget s₀ out₀ tr₀ (record { moves = n; bytes = at; stop = stop; traced = p; untrue = u }) s out tr
    unfolding asked_traced continues traced_continues traced_made traced_stop
    traced_done {stop} e ne =
        let c = stops (moves next) (leb (at + z) (length out)) (leb (p + y) (length tr)) (ltb n budget) (λ h. ne (e ∙ h)) in
        record {
          moves_made =
              held_is (traced_continues T S time (length out₀) (length tr₀) s₀) budget n
              (record {
                within = w.within;
                before =
                    λ i l.
                    both_intro (continues T S time (length out₀) s₀ i) (trace_room_for T S time (length tr₀) s₀ i) (all_at (continues T S time (length out₀) s₀) n i l w.went)
                    (all_at (trace_room_for T S time (length tr₀) s₀) n i l v.went);
                stopped = λ l. rw (← is_another, ← is_room, ← is_space) (c.1 (lt-ltb n budget l));
              });
          store_after = w.store;
          out_after = w.output;
          bytes_written = w.place;
          trace_after = v.written;
          trace_written = v.place;
          stopped = e ∙ c.0 ∙ rw (is_another, is_room, is_space);
          untrue_made = w.untrue_is;
        }

-- ---- the loop, with a trace or without
pub record Tracked (tracing : Bool) (T : List ℕ) (S : Shape) (time : ℕ) (s₀ tr₀ tr : List ℕ) (n p : ℕ) : Type 0 where
  pub going : tracing ≡ true → Tracing T S time s₀ tr₀ tr n p
  pub long : length tr ≡ length tr₀
  pub fits : p ≤ length tr

pub tracked_start : (tracing : Bool) (T : List ℕ) (S : Shape) (time : ℕ) (s₀ tr₀ : List ℕ) → Tracked tracing T S time s₀ tr₀ tr₀ 0 0
tracked_start tracing T S time s₀ tr₀ = record { going = λ _. tracing_start T S time s₀ tr₀; long = refl; fits = omega arith }

module _ (tracing : Bool) (T : List ℕ) (S : Shape) (time budget : ℕ) (s₀ out₀ tr₀ : List ℕ) where
  module _ (s out tr : List ℕ) (n at u p : ℕ) (w : Going T S time budget s₀ out₀ s out n at u) (v : Tracked tracing T S time s₀ tr₀ tr n p) {next : Next} (comes : next ≡ next_of T S s) where
    abbrev asks : Bool → ℕ
    asks t = asked_by t next (size_by T S time next s) at (length out) (length (entry_frames (entries_by T S time next s))) p (length tr) n budget

    module _ (go : ◌≡◌ {A = ℕ} 0 (asks tracing)) where
      pub run_goes_on : ◌≡◌ {A = ℕ} 0 (asked next (size_by T S time next s) at (length out) n budget)
      run_goes_on = goes_untraced tracing next (size_by T S time next s) at (length out) (length (entry_frames (entries_by T S time next s))) p (length tr) n budget go

      traced_go_on : tracing ≡ true → ◌≡◌ {A = ℕ} 0 (asked_traced next (size_by T S time next s) at (length out) (length (entry_frames (entries_by T S time next s))) p (length tr) n budget)
      unfolding asked_by
      traced_go_on t = go ∙ ap asks t

      pub space_if : tracing ≡ true → Room (entries_by T S time next s) p tr
      space_if t = space_left T S time budget s₀ out₀ tr₀ s out tr n at u p w (v.going t) comes (traced_go_on t)

      pub tracked_more : {tr' : List ℕ} {p' : ℕ} → ToldIf tracing (entries_by T S time next s) p tr tr' p' → Tracked tracing T S time s₀ tr₀ tr' (n + 1) p'
      tracked_more d =
          record {
            going = λ t. tracing_more T S time budget s₀ out₀ tr₀ s out tr n at u p w (v.going t) comes (traced_go_on t) (d.told t);
            long = d.long ∙ v.long;
            fits = d.fits;
          }

    pub run_done : {stop : ℕ} → stop ≡ asks tracing → (stop ≡ 0 → ⊥) → RanAs tracing T S time budget s₀ out₀ tr₀ (record { moves = n; bytes = at; stop = stop; traced = p; untrue = u }) s out tr
    unfolding asked_by
    run_done e ne =
        record {
          untraced = λ t. going_done T S time budget s₀ out₀ s out n at u w comes (e ∙ ap asks t) ne;
          traced = λ t. traced_done T S time budget s₀ out₀ tr₀ s out tr n at u p w (v.going t) comes (e ∙ ap asks t) ne;
        }
