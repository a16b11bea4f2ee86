-- Move 1 keeps the laws, whatever the element.
use Rattle.std.specs.Prelude.{◌≡◌, List, Bool, ℕ, ◌+◌, ◌≤◌, ◌<◌, ltb}
use Rattle.std.proofs.Math.Path.{refl, sym, ap}
use Rattle.std.proofs.Common.{◌∙◌, ⊎_elim, arith, eqb-true, ltb-true, ltb-false, le-ltb}
use Rattle.std.proofs.Math.Bool.{true, false}
use Rattle.std.proofs.Math.Dec.{eqb}
use Rattle.rules_walks.proofs.laws.Pick.{test_cases}
use Rattle.rules_walks.specs.Choose.{choose}
use Rattle.rules_walks.proofs.laws.Choose.{by_choose}
use Rattle.rules_walks.specs.First.{Sought, one, missing}
use Rattle.rules_numbers.specs.Word.{signed, ticks_of}
use Rattle.rules_numbers.proofs.laws.Word.{signed_low}
use Rattle.rules_tables.specs.Kind.{basic, interface, delay}
use Rattle.rules_tables.specs.Frame.{flag_at}
use Rattle.rules_tables.specs.declared.Shape.{Shape}
use Rattle.rules_store.specs.declared.Running.{Running}
use Rattle.rules_tables.specs.Ids.{elements, first_variable, inputs, variables}
use Rattle.rules_store.specs.Running.{awake}
use Rattle.rules_store.specs.Word.{now_of, put_owner, running_of, due_flag, waiting, birth_of, value}
use Rattle.rules_store.specs.Due.{put_due}
use Rattle.rules_store.specs.Part.{due, input, sampled as «samples_part», just, also, everything, Leaves}
use Rattle.rules_store.proofs.laws.Writer.{leaves_owner}
use Rattle.rules_store.proofs.laws.Own.{running_put}
use Rattle.rules_tables.specs.Owned.{any, nth}
use Rattle.rules_moves.specs.Partner.{input_owner}
use Rattle.rules_moves.specs.Take.{sampled, passes, ticks_in, dt_of, is_start, started, start_stop, wake, settle, settled, fired_by, taken}
use Rattle.rules_moves.specs.declared.Next.TheVariants.{Take}
use Rattle.rules_tables.specs.Lawful.{Lawful}
use Rattle.rules_moves.proofs.laws.Taking.{passes_leaves, start_stop_leaves, wake_leaves, sampled_leaves}
use Rattle.rules_store.specs.Formed.{Formed}
use Rattle.laws_kept.proofs.laws.Blocks.{wake_formed, due_set, due_cleared}
use Rattle.rules_log.specs.Log.{goes_on, takes, Log, more, move_log}
use Rattle.rules_log.specs.Origin.{born, Begun, current, origin}
use Rattle.rules_moves.specs.Order.{Least}
use Rattle.rules_moves.proofs.laws.Leastness.{least_before}
use Rattle.laws_log.specs.Holds.{quiet}
use Rattle.laws_log.specs.Goes.{Goes}
use Rattle.laws_log.proofs.laws.Goes.{goes_now, take_goes, quiet_goes, calm_goes, fire_found_goes}

-- no delay lasts longer than the largest value
ticks_small : (w : ℕ) → ticks_of (signed w) ≤ 2147483647
ticks_small w =
    ⊎_elim (λ e. let l = ltb-true w 2147483648 e in rw (signed_low {w = w} l) (omega arith))
    (λ e. rw (le-ltb w 2147483648 (ltb-false w 2147483648 e)) (omega arith)) (test_cases (ltb w 2147483648))

dt_small : (T : List ℕ) (S : Shape) (el : ℕ) (s : List ℕ) → dt_of T S el s ≤ 2147483647
unfolding dt_of ticks_in
dt_small T S el s = by (nth T (first_variable S) (variables S) any el 0)
  where
    by : (q : Sought) → ticks_in S s q ≤ 2147483647
    by (one v) = ticks_small (value S s v)
    by missing = omega arith

module _ (T : List ℕ) (S : Shape) (B : Begun) (k : Lawful T S) (s₀ : List ℕ) (l : Log) (s : List ℕ) (g : Goes T S B s₀ l s) (t : ℕ) (n : now_of s ≡ t)
    (idle : (running_of s).mode ≡ 0) (i : ℕ) (w : Least T S s (inputs S) i) where
  abbrev el : ℕ
  el = input_owner T S i

  abbrev y : List ℕ
  y = sampled T S i s

  abbrev l' : Log
  l' = more l (takes i s)

  abbrev birth : ℕ
  birth = birth_of S s i

  f : Formed T S s
  f = g.holds.formed

  -- it waits, born not after now
  pub flag : waiting S s i ≡ 1
  flag = one_of (waiting S s i) (f.parts.events i w.inside).flagged w.waits
    where
      one_of : (x : ℕ) → x ≤ 1 → (x ≡ 0 → ⊥) → x ≡ 1
      one_of x a b = ⊎_elim (λ e. absurd (b (let q = ltb-true x 1 e in omega arith))) (λ e. let q = ltb-false x 1 e in omega arith) (test_cases (ltb x 1))

  born_before : birth ≤ t
  born_before = let r = (f.parts.events i w.inside).waits flag in let a = r.0 in let b = r.1 in omega arith

  within : el < elements S
  within = k.is_good.input_element i w.inside

  go : Goes T S B s₀ l' y
  go = take_goes T S B k s₀ l s g i w.inside flag idle (λ c lc x. least_before T S s (inputs S) i w c lc (λ z. let q = sym z ∙ x in omega arith))

  left : Leaves T S (also «samples_part» (just input)) s y
  left = sampled_leaves T S k (also «samples_part» (just input)) refl refl i s w.inside

  now_y : now_of y ≡ t
  now_y = left.now refl ∙ n

  -- the block rests as it did
  idle_y : (running_of y).mode ≡ 0
  idle_y = ap (λ (x : Running). x.mode) (left.running refl).running ∙ idle

  -- the chain of the event is that of the event taken last
  chain : born birth ≡ origin T S B l' current
  unfolding origin
  chain = g.holds.births.waiting_born i w.inside flag

  -- ---- basic
  wakes : flag_at T el ≡ basic → Goes T S B s₀ l' (wake el i birth y)
  unfolding wake
  wakes e =
      let z = put_owner (el + 1) (i + 1) y in
      let u = (leaves_owner T S everything y (el + 1) (i + 1) refl).long in
      let long = go.holds.formed.parts.long in
      let r = running_put S z (omega arith) (awake birth) in
      quiet_goes T S B k s₀ l' y go (wake el i birth y) (wake_leaves T S k quiet refl el i birth y)
      (wake_formed T S el i birth y within e w.inside refl (rw now_y born_before) go.holds.formed)
      (λ _. ap (λ (x : Running). born x.birth) r ∙ chain)

  -- ---- interface
  passes_on : Goes T S B s₀ l' (passes T S i y)
  passes_on = calm_goes T S B k s₀ l' y go (passes T S i y) (λ p c _. passes_leaves T S k p c i y)

  -- ---- delay
  delays : flag_at T el ≡ delay → Goes T S B s₀ l' (start_stop T S el i t y)
  unfolding start_stop started
  delays e =
      let d = start_stop_leaves T S k (just due) refl el i t y within in
      quiet_goes T S B k s₀ l' y go (start_stop T S el i t y) (start_stop_leaves T S k quiet refl el i t y within) formed
      (λ m. absurd (m (ap (λ (x : Running). x.mode) (d.running refl).running ∙ idle_y)))
    where
      formed : Formed T S (start_stop T S el i t y)
      formed =
          let g' = go.holds.formed in
          by_choose (Formed T S) (is_start T S el i) (started T S el t y) (put_due S el 0 0 y)
          (λ _.
          by_choose (Formed T S) (eqb (due_flag y el) 0) (put_due S el 1 (t + dt_of T S el y) y) y
          (λ _.
          due_set T S el (t + dt_of T S el y) y within e (rw now_y (omega arith))
          (let a = dt_small T S el y in let b = g'.parts.in_time in let c = now_y in omega arith) g')
          (λ _. g'))
          (λ _. due_cleared T S el y within g')

  -- ---- by the element's sort, before anything is fired
  settles : Goes T S B s₀ l' (settled T S i t s)
  unfolding settled settle choose
  settles = by (eqb (flag_at T el) basic) (eqb (flag_at T el) interface) (eqb (flag_at T el) delay) refl refl
    where
      by : (a b c : Bool) → eqb (flag_at T el) basic ≡ a → eqb (flag_at T el) delay ≡ c → Goes T S B s₀ l' (choose a (wake el i birth y) (choose b (passes T S i y) (choose c (start_stop T S el i t y) y)))
      by true b c p r = wakes (eqb-true (flag_at T el) basic p)
      by false true c p r = passes_on
      by false false true p r = delays (eqb-true (flag_at T el) delay r)
      by false false false p r = go

  -- ---- and then, whatever it fires has the birth of its chain
  pub taken_goes : Goes T S B s₀ (move_log T S t (Take i) s l) (taken T S i t s)
  unfolding move_log taken
  taken_goes =
      let z = settled T S i t s in
      let now-z = goes_now T S B k s₀ l' z settles ∙ sym (goes_now T S B k s₀ l s g) ∙ n in
      fire_found_goes T S B k s₀ l' z settles (fired_by T S i) goes_on birth t now-z born_before chain
