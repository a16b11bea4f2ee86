-- A delay is due as the log says: from the first START until STOP or its output, whatever else happens.
use Rattle.std.proofs.Math.Path.{◌≡◌, refl, sym, ap}
use Rattle.std.proofs.Common.{◌∙◌}
use mathlib.Core.List.{List}
use Rattle.std.specs.Prelude.{Bool, ltb, length}
use Rattle.std.proofs.Math.Bool.{true, false}
use Prim.Native.Nat.{ℕ, zero, suc, ◌+◌, ◌-◌, ◌≤◌, ◌<◌}
use native.Mathlib.Omega.{arith}
use Rattle.std.proofs.Math.Dec.{eqb}
use borrow.Author.Tests.{eqb-true, eqb-false, eq-eqb, ne_eqb}
use Rattle.rules_walks.proofs.laws.Pick.{both_right}
use Rattle.rules_walks.specs.Choose.{choose}
use Rattle.rules_walks.proofs.laws.Choose.{by_choose}
use Rattle.rules_walks.specs.First.{Sought, one, missing}
use Rattle.rules_walks.specs.Walk.{up_to}
use Rattle.rules_tables.specs.Kind.{none, basic, interface, delay, source}
use Rattle.rules_tables.specs.declared.Shape.{Shape}
use Rattle.rules_tables.proofs.laws.Actions.{action_below}
use Rattle.rules_tables.specs.Frame.{flag_at, field_at}
use Rattle.rules_tables.specs.Ids.{elements, inputs, actions, first_output, outputs, associations, action_frame, step_frame}
use Rattle.rules_tables.specs.Lawful.{Lawful}
use Rattle.rules_tables.specs.Owned.{any, belongs, nth}
use Rattle.rules_tables.proofs.laws.Owned.{nth_belongs}
use Rattle.rules_store.specs.declared.Running.{Running}
use Rattle.rules_store.specs.Formed.{Formed}
use Rattle.rules_store.specs.Layout.{need}
use Rattle.rules_store.specs.Running.{stepped, charting}
use Rattle.rules_store.specs.Word.{now_of, running_of, put_running, put_now, due_flag, birth_of}
use Rattle.rules_store.specs.Due.{put_due, due_at}
use Rattle.rules_store.specs.Part.{Part, due, all_but, everything, SameDue}
use Rattle.rules_store.specs.Own.{Due}
use Rattle.rules_store.proofs.laws.PutDue.{due_put, due_other}
use Rattle.rules_store.proofs.laws.Writer.{leaves_now, leaves_running, leaves_due}
use Rattle.rules_moves.specs.declared.Next.{Next}
use Rattle.rules_moves.specs.declared.Next.TheVariants.{Take, Change, Idle, Step, End, Back, Nothing}
use Rattle.rules_moves.specs.Act.{one_step, step_move, event_of}
use Rattle.rules_moves.specs.Chart.{element_of, state_of}
use Rattle.rules_moves.specs.Fire.{fire}
use Rattle.rules_moves.specs.Means.{Means, Stepping}
use Rattle.rules_moves.specs.Next.{next_of, move_by, move}
use Rattle.rules_moves.specs.Partner.{input_owner, output_owner, partner_output}
use Rattle.rules_moves.specs.Take.{fire_found, passes, dt_of, is_start, started, start_stop, wake, sampled, settle, settled, fired_by, taken}
use Rattle.rules_moves.proofs.laws.Delays.{first_start, second_start, stop_clears}
use Rattle.rules_moves.proofs.laws.Firing.{fire_leaves}
use Rattle.rules_moves.proofs.laws.Moving.{change_leaves, idle_leaves, one_step_leaves, end_leaves}
use Rattle.rules_moves.proofs.laws.Next.{next_means, step_below}
use Rattle.rules_moves.proofs.laws.Partner.{same_element}
use Rattle.rules_moves.proofs.laws.Taking.{fires_nothing, sampled_leaves, passes_leaves, wake_leaves, fire_found_leaves}
use Rattle.rules_calls.specs.Calls.{expired, expire, advanced, give, arrived, of_source}
use Rattle.rules_calls.specs.Run.{after}
use Rattle.rules_calls.proofs.laws.Calls.{gives_leaves}
use Rattle.rules_log.specs.Log.{How, begins, goes_on, takes, Log, more, fire_log, move_log, run_log, expire_log, advance_log, arrival_log}
use Rattle.rules_log.specs.Timer.{Timer, until, rests, start_timer, timer, Clocked}
use Rattle.laws_log.proofs.laws.Moves.{runs_within, formed_after, now_after}

-- every part but the due words
abbrev others : Part → Bool
others = all_but due

module _ (T : List ℕ) (S : Shape) (k : Lawful T S) (el : ℕ) (le : el < elements S) (is-delay : flag_at T el ≡ delay) where
  -- where the due words stay, what they say stays
  clocked_same : (x : Timer) (s s' : List ℕ) → SameDue s s' el → Clocked el x s → Clocked el x s'
  clocked_same (until t) s s' w c = record { flagged = w.flag ∙ c.flagged; timed = w.at ∙ c.timed }
  clocked_same rests s s' w c = record { flagged = w.flag ∙ c.flagged; timed = w.at ∙ c.timed }

  same_then : (s x y : List ℕ) → SameDue s x el → SameDue x y el → SameDue s y el
  same_then s x y a b = record { flag = b.flag ∙ a.flag; at = b.at ∙ a.at }

  fire_found_same : (s : List ℕ) (q : Sought) (birth t : ℕ) → SameDue s (fire_found T S q birth t s) el
  fire_found_same s q birth t = (fire_found_leaves T S k others refl refl refl q birth t s).dues refl el le

  put_same : (s : List ℕ) (r : Running) → SameDue s (put_running r s) el
  put_same s r = (leaves_running T S others s r refl).dues refl el le

  -- another element's output says nothing of it
  fire_log_same : (q : Sought) (how : How) (s : List ℕ) (l : Log) → ((o : ℕ) → q ≡ one o → output_owner T S o ≡ el → ⊥) → timer T S el (fire_log q how s l) ≡ timer T S el l
  unfolding fire_log timer choose
  fire_log_same (one o) how s l h = rw (ne_eqb (output_owner T S o) el (h o refl)) refl
  fire_log_same missing how s l h = refl

  -- ---- an event is taken: of another element
  settled_same : (i t : ℕ) (s : List ℕ) → i < inputs S → (input_owner T S i ≡ el → ⊥) → SameDue s (settled T S i t s) el
  unfolding settled settle start_stop started
  settled_same i t s li n =
      by_choose here (eqb (flag_at T el') basic) _ _
      (λ _. same_then s y (wake el' i (birth_of S s i) y) before ((wake_leaves T S k others refl el' i (birth_of S s i) y).dues refl el le))
      (λ _.
      by_choose here (eqb (flag_at T el') interface) _ _ (λ _. same_then s y (passes T S i y) before ((passes_leaves T S k others refl i y).dues refl el le))
      (λ _.
      by_choose here (eqb (flag_at T el') delay) _ y
      (λ _.
      by_choose here (is_start T S el' i) _ _
      (λ _. by_choose here (eqb (due_flag y el') 0) _ y (λ _. apart 1 (t + dt_of T S el' y)) (λ _. before)) (λ _. apart 0 0))
      (λ _. before)))
    where
      el' : ℕ
      el' = input_owner T S i

      y : List ℕ
      y = sampled T S i s

      here : List ℕ → Type 0
      here x = SameDue s x el

      before : here y
      before = (sampled_leaves T S k others refl refl i s li).dues refl el le

      apart : (flag at : ℕ) → here (put_due S el' flag at y)
      apart flag at = same_then s y (put_due S el' flag at y) before (due_other S y el' el flag at (λ e. n (sym e)))

  taken_same : (i t : ℕ) (s : List ℕ) → i < inputs S → (input_owner T S i ≡ el → ⊥) → SameDue s (taken T S i t s) el
  unfolding taken
  taken_same i t s li n =
      let x = settled T S i t s in
      same_then s x (fire_found T S (fired_by T S i) (birth_of S s i) t x) (settled_same i t s li n) (fire_found_same x (fired_by T S i) (birth_of S s i) t)

  -- a partner is of the same element, and that is an interface
  partner_other : (i o : ℕ) → i < inputs S → fired_by T S i ≡ one o → (input_owner T S i ≡ el → ⊥) → output_owner T S o ≡ el → ⊥
  unfolding fired_by choose
  partner_other i o li = by (eqb (flag_at T (input_owner T S i)) interface)
    where
      by : (b : Bool) → choose b (partner_output T S i) missing ≡ one o → (input_owner T S i ≡ el → ⊥) → output_owner T S o ≡ el → ⊥
      by true e n q = n (sym (same_element T S i o li e) ∙ q)
      by false e n q = let z : ◌≡◌ {A = ℕ} 0 1 = cc in omega arith

  -- its own START or STOP: it fires nothing
  fires_none : (i : ℕ) → input_owner T S i ≡ el → fired_by T S i ≡ missing
  fires_none i e = fires_nothing T S i (λ q. let z = sym (ap (flag_at T) e ∙ is-delay) ∙ q in omega arith)

  -- the store after it, by what it was before
  own_clocked : (i t : ℕ) (s : List ℕ) → i < inputs S → input_owner T S i ≡ el → Formed T S s → (x : Timer) → Clocked el x s
      → Clocked el (choose (is_start T S el i) (start_timer (t + dt_of T S el (sampled T S i s)) x) rests) (taken T S i t s)
  unfolding choose start_timer
  own_clocked i t s li e f = by (is_start T S el i) refl
    where
      y : List ℕ
      y = sampled T S i s

      d : flag_at T (input_owner T S i) ≡ delay
      d = ap (flag_at T) e ∙ is-delay

      at_el : (b : Bool) → is_start T S el i ≡ b → is_start T S (input_owner T S i) i ≡ b
      at_el b q = ap (λ (x : ℕ). is_start T S x i) e ∙ q

      long : need S ≤ length y
      long = let a = f.parts.long in let b = (sampled_leaves T S k others refl refl i s li).long in omega arith

      put : (flag at : ℕ) (s' : List ℕ) → s' ≡ put_due S (input_owner T S i) flag at y → Due el flag at s'
      put flag at s' q = rw (q, e) (due_put S y long el flag at le)

      by : (b : Bool) → is_start T S el i ≡ b → (x : Timer) → Clocked el x s → Clocked el (choose b (start_timer (t + dt_of T S el y) x) rests) (taken T S i t s)
      by true b rests c =
          put 1 (t + dt_of T S el y) _ (first_start T S k i t s li d (at_el true b) (ap (due_flag s) e ∙ c.flagged) ∙ ap (λ (x : ℕ). put_due S (input_owner T S i) 1 (t + dt_of T S x y) y) e)
      by true b (until u) c =
          rw (second_start T S k i t s li d (at_el true b) (λ z. let q = sym (ap (due_flag s) e ∙ c.flagged) ∙ z in omega arith))
          (clocked_same (until u) s y ((sampled_leaves T S k others refl refl i s li).dues refl el le) c)
      by false b x c = put 0 0 _ (stop_clears T S k i t s li d (at_el false b))

  take_clocked : (i t : ℕ) (s : List ℕ) (l : Log) → i < inputs S → now_of s ≡ t → Formed T S s → Clocked el (timer T S el l) s
      → Clocked el (timer T S el (move_log T S t (Take i) s l)) (taken T S i t s)
  unfolding move_log fire_log timer choose
  take_clocked i t s l li n f c = by (eqb (input_owner T S i) el) refl
    where
      by : (b : Bool) → eqb (input_owner T S i) el ≡ b → Clocked el (timer T S el (fire_log (fired_by T S i) goes_on (settled T S i t s) (more l (takes i s)))) (taken T S i t s)
      by true b =
          let e = eqb-true _ _ b in
          rw (fires_none i e, b, n) (own_clocked i t s li e f (timer T S el l) c)
      by false b =
          let d = eqb-false _ _ b in
          rw (fire_log_same (fired_by T S i) goes_on (settled T S i t s) (more l (takes i s)) (λ o q. partner_other i o li q d), b)
          (clocked_same (timer T S el l) s (taken T S i t s) (taken_same i t s li d) c)

  -- ---- the other moves
  module _ (s : List ℕ) (f : Formed T S s) (t : ℕ) where
    step_same : (j : ℕ) → Stepping T S (running_of s) s j → SameDue s (step_move T S t (running_of s) j s) el
    unfolding step_move
    step_same j st =
        let r = running_of s in
        let x = one_step T S (step_frame S j) (t - r.birth) s in
        same_then s x (put_running (stepped r) x) ((one_step_leaves T S k others refl refl j (t - r.birth) s (step_below T S r s k.is_good j st)).dues refl el le) (put_same x (stepped r))

    -- what an action fires is a basic element's
    action_other : (j o : ℕ) → j < actions S → event_of T S j ≡ one o → output_owner T S o ≡ el → ⊥
    unfolding event_of choose
    action_other j o lj = by (eqb (field_at T (action_frame S j) 3) none) refl
      where
        by : (b : Bool) → eqb (field_at T (action_frame S j) 3) none ≡ b → choose b missing (one (field_at T (action_frame S j) 3)) ≡ one o → output_owner T S o ≡ el → ⊥
        by true h e q = let z : ◌≡◌ {A = ℕ} 0 1 = cc in omega arith
        by false h e q =
            let same : field_at T (action_frame S j) 3 ≡ o = cc in
            let a = sym (k.action_basic j lj (eqb-false _ _ h)) ∙ ap (λ (x : ℕ). flag_at T (output_owner T S x)) same ∙ ap (flag_at T) q ∙ is-delay in
            omega arith

    by_next : now_of s ≡ t → (l : Log) → Clocked el (timer T S el l) s → (n : Next) → Means T S (running_of s) s n → Clocked el (timer T S el (move_log T S t n s l)) (move_by T S t n s)
    unfolding move_by move_log
    by_next e l c (Take i) m = take_clocked i t s l m.1.inside e f c
    by_next e l c (Change j) m =
        clocked_same (timer T S el l) s _ ((change_leaves T S k others refl refl (element_of s) (running_of s) j s (runs_within T S s f (λ z. omega (arith, m.0)))).dues refl el le) c
    by_next e l c Idle m = clocked_same (timer T S el l) s _ ((idle_leaves T S k others refl s).dues refl el le) c
    by_next e l c (Step j) m = clocked_same (timer T S el l) s _ (step_same j m) c
    by_next e l c (End j) m =
        rw (fire_log_same (event_of T S j) goes_on s l (λ o q. action_other j o (action_below T S (state_of s) (running_of s).action j m.found) q))
        (clocked_same (timer T S el l) s _ ((end_leaves T S k others refl refl refl refl t (state_of s) (running_of s) j s).dues refl el le) c)
    by_next e l c Back m = clocked_same (timer T S el l) s _ (put_same s (charting (running_of s))) c
    by_next e l c Nothing m = c

    pub move_clocked : now_of s ≡ t → (l : Log) → Clocked el (timer T S el l) s → Clocked el (timer T S el (move_log T S t (next_of T S s) s l)) (move T S t s)
    unfolding move next_of
    move_clocked e l c = by_next e l c (next_of T S s) (next_means T S (running_of s) s)

  -- ---- any number of them
  pub run_clocked : (s : List ℕ) → Formed T S s → (l : Log) → Clocked el (timer T S el l) s → (n : ℕ)
      → Clocked el (timer T S el (run_log T S (now_of s) n s l)) (after T S (now_of s) n s)
  unfolding run_log after
  run_clocked s f l c zero = c
  run_clocked s f l c (suc n) =
      let x = after T S (now_of s) n s in
      move_clocked x (formed_after T S k n s f) (now_of s) (now_after T S k n s f) (run_log T S (now_of s) n s l) (run_clocked s f l c n)

  -- ---- advance
  -- the output of delay e is of e
  output_own : (e o : ℕ) → nth T (first_output S) (outputs S) any e 0 ≡ one o → output_owner T S o ≡ e
  unfolding belongs
  output_own e o q = eqb-true _ _ (nth_belongs T (first_output S) (outputs S) any e 0 o q)

  -- it is there, and its firing ends the time that delay el runs
  fire_log_rests : (q : Sought) (t : ℕ) (s : List ℕ) (l : Log) → nth T (first_output S) (outputs S) any el 0 ≡ q → timer T S el (fire_log q (begins t) s l) ≡ rests
  unfolding fire_log timer choose
  fire_log_rests (one o) t s l q = rw (eq-eqb (output_owner T S o) el (output_own el o q)) refl
  fire_log_rests missing t s l q = absurd (k.delay_output el le is-delay q)

  cleared : (e : ℕ) (x : List ℕ) → e ≡ el → need S ≤ length x → Due el 0 0 (put_due S e 0 0 x)
  cleared e x own long = rw own (due_put S x long el 0 0 le)

  record Walked (l : Log) (s : List ℕ) : Type 0 where
    pub long : need S ≤ length s
    pub clocked : Clocked el (timer T S el l) s

  module _ (t : ℕ) where
    expired_walked : (e : ℕ) (l : Log) (s : List ℕ) → e < elements S → Walked l s → Walked (fire_log (nth T (first_output S) (outputs S) any e 0) (begins t) s l) (expired T S t e s)
    unfolding expired
    expired_walked e l s b w = record { long = stays; clocked = by (eqb e el) refl }
      where
        q : Sought
        q = nth T (first_output S) (outputs S) any e 0

        x : List ℕ
        x = fire_found T S q t t s

        long : need S ≤ length x
        long = let a = (fire_found_leaves T S k others refl refl refl q t t s).long in let c = w.long in omega arith

        stays : need S ≤ length (put_due S e 0 0 x)
        stays = let a = (leaves_due T S everything x e 0 0 b refl).long in omega (arith, long)

        by : (c : Bool) → eqb e el ≡ c → Clocked el (timer T S el (fire_log q (begins t) s l)) (put_due S e 0 0 x)
        by true h =
            let own = eqb-true e el h in
            rw (fire_log_rests q t s l (ap (λ (y : ℕ). nth T (first_output S) (outputs S) any y 0) (sym own))) (cleared e x own long)
        by false h =
            let apart = eqb-false e el h in
            rw (fire_log_same q (begins t) s l (λ o z y. apart (sym (output_own e o z) ∙ y)))
            (clocked_same (timer T S el l) s (put_due S e 0 0 x) (same_then s x (put_due S e 0 0 x) (fire_found_same s q t t) (due_other S x e el 0 0 (λ y. apart (sym y)))) w.clocked)

    expire_walked : (e : ℕ) (l : Log) (s : List ℕ) → e < elements S → Walked l s → Walked (expire_log T S t e s l) (expire T S t e s)
    unfolding expire_log expire choose
    expire_walked e l s b w = by (due_at s t e)
      where
        by : (c : Bool) → Walked (choose c (fire_log (nth T (first_output S) (outputs S) any e 0) (begins t) s l) l) (choose c (expired T S t e s) s)
        by true = expired_walked e l s b w
        by false = w

    walk_walked : (s₀ : List ℕ) (l : Log) → Walked l s₀ → (n : ℕ) → n ≤ elements S
        → Walked (up_to (λ (e : ℕ). expire_log T S t e (up_to (expire T S t) e s₀)) n l) (up_to (expire T S t) n s₀)
    unfolding up_to
    walk_walked s₀ l w zero b = w
    walk_walked s₀ l w (suc n) b =
        expire_walked n (up_to (λ (e : ℕ). expire_log T S t e (up_to (expire T S t) e s₀)) n l) (up_to (expire T S t) n s₀) (omega arith) (walk_walked s₀ l w n (omega arith))

    pub advance_clocked : (s : List ℕ) → need S ≤ length s → (l : Log) → Clocked el (timer T S el l) s → Clocked el (timer T S el (advance_log T S t s l)) (advanced T S t s)
    unfolding advance_log advanced
    advance_clocked s long l c =
        let a = leaves_now T S others s t refl in
        let n = a.long in
        (walk_walked (put_now t s) l (record { long = omega arith; clocked = clocked_same (timer T S el l) s (put_now t s) (a.dues refl el le) c }) (elements S) (omega arith)).clocked

  -- ---- arrival: of a source's event
  source_other : (o : ℕ) → of_source T S o ≡ true → output_owner T S o ≡ el → ⊥
  unfolding of_source
  source_other o e q =
      let s = eqb-true _ _ (both_right (ltb o (outputs S)) (eqb (flag_at T (output_owner T S o)) source) e) in
      let z = sym s ∙ ap (flag_at T) q ∙ is-delay in
      omega arith

  pub arrival_clocked : (o birth : ℕ) (values s : List ℕ) (l : Log) → of_source T S o ≡ true → Clocked el (timer T S el l) s
      → Clocked el (timer T S el (arrival_log T S o birth values s l)) (arrived T S o birth values s)
  unfolding arrival_log arrived timer choose
  arrival_clocked o birth values s l e c =
      let x = up_to (give T S o values) (associations S) s in
      rw (ne_eqb (output_owner T S o) el (source_other o e))
      (clocked_same (timer T S el l) s (fire T S o birth (now_of s) x)
      (same_then s x (fire T S o birth (now_of s) x) ((gives_leaves T S k others refl o values s).dues refl el le) ((fire_leaves T S k others refl refl refl o birth (now_of s) x).dues refl el le)) c)
