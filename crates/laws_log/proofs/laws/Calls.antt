-- Advance and arrival keep the laws, where nothing refuses them.
use Rattle.std.specs.Prelude.{◌≡◌, List, Bool, ltb}
use Rattle.std.proofs.Math.Path.{refl, sym, ap}
use Rattle.std.proofs.Common.{◌∙◌, arith}
use Rattle.std.proofs.Math.Bool.{true, false}
use Rattle.std.proofs.Math.Logic.{⊎_elim}
use Prim.Native.Nat.{ℕ, zero, suc, ◌≤◌, ◌<◌}
use borrow.Author.Tests.{ne_eqb, ltb-false}
use Rattle.rules_walks.specs.Pick.{either}
use Rattle.rules_walks.proofs.laws.Pick.{test_cases, clash}
use Rattle.rules_walks.proofs.laws.All.{any_at}
use Rattle.rules_walks.specs.Choose.{choose}
use Rattle.rules_walks.specs.Walk.{up_to}
use Rattle.rules_tables.specs.declared.Shape.{Shape}
use Rattle.rules_store.specs.declared.Running.{Running}
use Rattle.rules_tables.specs.Ids.{elements, first_output, outputs, associations}
use Rattle.rules_store.specs.Word.{largest_time, now_of, put_now, due_flag, due_time}
use Rattle.rules_store.specs.Due.{put_due, due_at}
use Rattle.rules_store.specs.Part.{due, just}
use Rattle.rules_store.proofs.laws.Writer.{leaves_due}
use Rattle.rules_store.proofs.laws.Own.{now_put}
use Rattle.rules_tables.specs.Owned.{any, nth}
use Rattle.rules_moves.specs.Take.{fire_found}
use Rattle.rules_calls.specs.Calls.{expired, expire, advanced, wrong_time, due_before, beyond_due, give, arrived}
use Rattle.rules_tables.specs.Lawful.{Lawful}
use Rattle.rules_calls.proofs.laws.Calls.{gives_leaves}
use Rattle.laws_kept.proofs.laws.Blocks.{due_cleared, now_formed}
use Rattle.rules_log.specs.Log.{begins, Log, fire_log, expire_log, advance_log, arrival_log}
use Rattle.rules_log.specs.Origin.{born, Begun}
use Rattle.laws_log.specs.Holds.{Holds, quiet}
use Rattle.laws_log.proofs.laws.Holds.{now_holds}
use Rattle.laws_log.specs.Goes.{Goes}
use Rattle.laws_log.proofs.laws.Goes.{goes_start, goes_now, fire_goes, fire_found_goes, quiet_goes, calm_goes}

module _ (T : List ℕ) (S : Shape) (B : Begun) (k : Lawful T S) where
  -- ---- advance
  -- a time that is not refused is no earlier than now, within the times, and no delay is due before it
  time_later : (s : List ℕ) (t : ℕ) → wrong_time s t ≡ false → (now_of s ≤ t) × (t ≤ largest_time)
  unfolding wrong_time
  time_later s t e =
      ⊎_elim (λ z. clash (sym e ∙ ap (λ (x : Bool). either x (ltb largest_time t)) z))
      (λ z.
      let q = sym (ap (λ (x : Bool). either x (ltb largest_time t)) z) ∙ e in
      (ltb-false t (now_of s) z, ltb-false largest_time t q)) (test_cases (ltb t (now_of s)))

  none_before : (s : List ℕ) (t : ℕ) → beyond_due S s t ≡ false → (el : ℕ) → el < elements S → due_flag s el ≡ 1 → t ≤ due_time s el
  unfolding beyond_due due_before
  none_before s t e el l f =
      let h = any_at (due_before s t) (elements S) el l e in
      let z = ne_eqb (due_flag s el) 0 (λ q. omega arith) in
      let h' = rw z at h in
      ltb-false (due_time s el) t h'

  module _ (s₀ : List ℕ) (t : ℕ) (n₀ : now_of s₀ ≡ t) where
    expired_goes : (l : Log) (s : List ℕ) (el : ℕ) → el < elements S → Goes T S B s₀ l s → Goes T S B s₀ (fire_log (nth T (first_output S) (outputs S) any el 0) (begins t) s l) (expired T S t el s)
    unfolding expired
    expired_goes l s el le g =
        let q = nth T (first_output S) (outputs S) any el 0 in
        let l' = fire_log q (begins t) s l in
        let x = fire_found T S q t t s in
        let h = fire_found_goes T S B k s₀ l s g q (begins t) t t (goes_now T S B k s₀ l s g ∙ n₀) (omega arith) refl in
        let r = ((leaves_due T S (just due) x el 0 0 le refl).running refl).running in
        quiet_goes T S B k s₀ l' x h (put_due S el 0 0 x) (leaves_due T S quiet x el 0 0 le refl) (due_cleared T S el x le h.holds.formed)
        (λ m. ap (λ (y : Running). born y.birth) r ∙ h.holds.births.running_born (λ z. m (ap (λ (y : Running). y.mode) r ∙ z)))

    expire_goes : (l : Log) (s : List ℕ) (el : ℕ) → el < elements S → Goes T S B s₀ l s → Goes T S B s₀ (expire_log T S t el s l) (expire T S t el s)
    unfolding expire_log expire choose
    expire_goes l s el le g = by (due_at s t el)
      where
        by : (c : Bool) → Goes T S B s₀ (choose c (fire_log (nth T (first_output S) (outputs S) any el 0) (begins t) s l) l) (choose c (expired T S t el s) s)
        by true = expired_goes l s el le g
        by false = g

    walk_goes : (l : Log) (n : ℕ) → n ≤ elements S → Holds T S B l s₀
        → Goes T S B s₀ (up_to (λ (el : ℕ). expire_log T S t el (up_to (expire T S t) el s₀)) n l) (up_to (expire T S t) n s₀)
    unfolding up_to
    walk_goes l zero b h = goes_start T S B k s₀ l h
    walk_goes l (suc n) b h =
        expire_goes (up_to (λ (el : ℕ). expire_log T S t el (up_to (expire T S t) el s₀)) n l) (up_to (expire T S t) n s₀) n (omega arith) (walk_goes l n (omega arith) h)

  module _ (l : Log) (s : List ℕ) (h : Holds T S B l s) where
    -- from the store with its new now on
    pub advance_goes : (t : ℕ) → wrong_time s t ≡ false → beyond_due S s t ≡ false → Goes T S B (put_now t s) (advance_log T S t s l) (advanced T S t s)
    unfolding advance_log advanced
    advance_goes t a b =
        let w = time_later s t a in
        let f = now_formed T S t s w.0 w.1 (none_before s t b) h.formed in
        walk_goes (put_now t s) t (now_put S s h.formed.parts.long t) l (elements S) (omega arith) (now_holds T S B k l s h t w.0 f)

    -- ---- arrival
    pub arrival_goes : (o birth : ℕ) (values : List ℕ) → birth ≤ now_of s → Goes T S B s (arrival_log T S o birth values s l) (arrived T S o birth values s)
    unfolding arrival_log arrived
    arrival_goes o birth values b =
        let x = up_to (give T S o values) (associations S) s in
        let g = calm_goes T S B k s l s (goes_start T S B k s l h) x (λ f c _. gives_leaves T S k f c o values s) in
        fire_goes T S B k s l x g o (begins birth) birth (now_of s) (goes_now T S B k s l x g) b refl

    pub advance_later : (t : ℕ) → wrong_time s t ≡ false → now_of s ≤ t
    advance_later t a = (time_later s t a).0
