-- "Load zeroes the need, then sets initial chart states, and start values in value and, for inputs, buffer.": a loaded store is well formed, and holds the
-- start values.
use Rattle.std.specs.Prelude.{◌≡◌, List, Bool, length}
use Rattle.std.proofs.Math.Path.{refl}
use Rattle.std.proofs.Common.{sym, ap, ◌∙◌, eq-or-lt_of_le, le_of_suc-le-suc, not-suc-le-zero, arith}
use Rattle.std.proofs.Math.Bool.{true, false}
use Rattle.std.proofs.Math.Logic.{⊎_elim}
use Prim.Native.Nat.{ℕ, suc, ◌≤◌, ◌<◌}
use Rattle.std.proofs.Math.Dec.{eqb}
use borrow.Author.Tests.{eqb-true, eqb-false}
use Rattle.rules_walks.proofs.laws.Pick.{clash}
use Rattle.rules_walks.specs.Choose.{choose}
use Rattle.rules_walks.proofs.laws.Choose.{choose_true, choose_false, by_choose}
use Rattle.rules_walks.specs.Walk.{up_to}
use Rattle.rules_walks.proofs.laws.Walk.{up_to_keeps, up_to_carries}
use Rattle.rules_tables.specs.Frame.{flag_at, field_at}
use Rattle.rules_tables.specs.declared.Shape.{Shape}
use Rattle.rules_tables.specs.Ids.{elements, inputs, variables, variable_frame}
use Rattle.rules_store.specs.Layout.{need}
use Rattle.rules_store.specs.Running.{rest}
use Rattle.rules_store.specs.Word.{running_of, next_due, untrue, chart_state, put_chart_state, waiting, value, put_value, buffer, put_buffer}
use Rattle.rules_store.proofs.laws.Word.{buffer_put_buffer, buffer_put_value, value_put_buffer, value_put_value}
use Rattle.rules_store.specs.Part.{Part, chart, sampled, computed, buffered, just, also, everything, Leaves}
use Rattle.rules_store.proofs.laws.Part.{leaves_all, leaves_then}
use Rattle.rules_store.proofs.laws.Writer.{leaves_chart, leaves_value, leaves_buffer}
use Rattle.rules_store.specs.Own.{Due}
use Rattle.rules_store.specs.Due.{earliest, put_due}
use Rattle.rules_store.proofs.laws.Due.{earliest_none}
use Rattle.rules_store.proofs.laws.PutDue.{put_same}
use Rattle.rules_store.proofs.laws.Own.{chart_put, chart_other, value_put, buffer_put}
use Rattle.rules_store.specs.Blank.{Blank}
use Rattle.rules_store.proofs.laws.Blank.{zeroes_at, blank}
use Rattle.rules_store.specs.Load.{zeroes, initial, start_value, start, loaded}
use Rattle.rules_tables.specs.Lawful.{Lawful}
use Rattle.rules_store.specs.Formed.{Formed}
use Rattle.laws_kept.proofs.laws.Keeping.{rest_block}

module _ (T : List ℕ) (S : Shape) where
  -- ---- "then sets initial chart states"
  initial_leaves : (f : Part → Bool) → f chart ≡ true → (el : ℕ) (x : List ℕ) → el < elements S → Leaves T S f x (initial T el x)
  unfolding initial
  initial_leaves f e el x l =
      by_choose (Leaves T S f x) (eqb (flag_at T el) 0) (put_chart_state el (field_at T el 1) x) x (λ _. leaves_chart T S f x el (field_at T el 1) l e) (λ _. leaves_all T S f x)

  -- of the elements below n, a basic one has its initial state; all others have 0
  record Charted (n : ℕ) (x : List ℕ) : Type 0 where
    pub long : need S ≤ length x
    pub basic : (el : ℕ) → el < n → flag_at T el ≡ 0 → chart_state x el ≡ field_at T el 1
    pub other : (el : ℕ) → el < elements S → (flag_at T el ≡ 0 → ⊥) → chart_state x el ≡ 0

  charted : (n : ℕ) (x : List ℕ) → n < elements S → Charted n x → Charted (suc n) (initial T n x)
  unfolding initial
  charted n x l w = by (eqb (flag_at T n) 0) refl
    where
      by : (b : Bool) → eqb (flag_at T n) 0 ≡ b → Charted (suc n) (choose b (put_chart_state n (field_at T n 1) x) x)
      by true e =
          rw (choose_true true (put_chart_state n (field_at T n 1) x) x refl)
          (record {
            long = let z = (leaves_chart T S everything x n (field_at T n 1) l refl).long in let y = w.long in omega arith;
            basic =
                λ el b z.
                ⊎_elim (λ q. rw q (chart_put S x w.long n (field_at T n 1) l))
                (λ q. chart_other S x n el (field_at T n 1) (λ y. omega arith) ∙ w.basic el q z) (eq-or-lt_of_le (le_of_suc-le-suc b));
            other = λ el b z. chart_other S x n el (field_at T n 1) (λ y. z (ap (flag_at T) y ∙ eqb-true (flag_at T n) 0 e)) ∙ w.other el b z;
          })
      by false e =
          rw (choose_false false (put_chart_state n (field_at T n 1) x) x refl)
          (record {
            long = w.long;
            basic =
                λ el b z.
                ⊎_elim (λ q. absurd (eqb-false (flag_at T n) 0 e (ap (flag_at T) (sym q) ∙ z)))
                (λ q. w.basic el q z) (eq-or-lt_of_le (le_of_suc-le-suc b));
            other = w.other;
          })

  -- ---- "and start values in value and, for inputs, buffer"
  start_leaves : (f : Part → Bool) → f sampled ≡ true → f computed ≡ true → f buffered ≡ true → (v : ℕ) (x : List ℕ) → v < variables S → Leaves T S f x (start T S v x)
  unfolding start
  start_leaves f a c b v x l =
      let y = put_value S v (start_value T S v) x in
      let w = leaves_value T S f x v (start_value T S v) l (λ h. clash (sym h ∙ a)) (λ h. clash (sym h ∙ c)) in
      by_choose (Leaves T S f x) (eqb (flag_at T (variable_frame S v)) 0) (put_buffer S v (start_value T S v) y) y
      (λ _. leaves_then T S f x y (put_buffer S v (start_value T S v) y) (leaves_buffer T S f y v (start_value T S v) l b) w) (λ _. w)

  record Started (n : ℕ) (x : List ℕ) : Type 0 where
    pub long : need S ≤ length x
    pub values : (v : ℕ) → v < n → value S x v ≡ start_value T S v
    pub buffers : (v : ℕ) → v < n → flag_at T (variable_frame S v) ≡ 0 → buffer S x v ≡ start_value T S v
    pub others : (v : ℕ) → v < variables S → (flag_at T (variable_frame S v) ≡ 0 → ⊥) → buffer S x v ≡ 0

  started : (n : ℕ) (x : List ℕ) → n < variables S → Started n x → Started (suc n) (start T S n x)
  unfolding start
  started n x l w = by (eqb (flag_at T (variable_frame S n)) 0) refl
    where
      a : ℕ
      a = start_value T S n

      y : List ℕ
      y = put_value S n a x

      long' : need S ≤ length y
      long' = let z = (leaves_value T S everything x n a l (λ h. clash (sym h)) (λ h. clash (sym h))).long in let q = w.long in omega arith

      values' : (v : ℕ) → v < suc n → value S y v ≡ start_value T S v
      values' v b =
          ⊎_elim (λ q. rw q (value_put S x w.long n a l)) (λ q. value_put_value S x n v a (λ z. omega arith) ∙ w.values v q) (eq-or-lt_of_le (le_of_suc-le-suc b))

      by : (c : Bool) → eqb (flag_at T (variable_frame S n)) 0 ≡ c → Started (suc n) (choose c (put_buffer S n a y) y)
      by true e =
          rw (choose_true true (put_buffer S n a y) y refl)
          (record {
            long = let z = (leaves_buffer T S everything y n a l refl).long in let q = long' in omega arith;
            values = λ v b. value_put_buffer S y n v a ∙ values' v b;
            buffers =
                λ v b z.
                ⊎_elim (λ q. rw q (buffer_put S y long' n a l))
                (λ q. buffer_put_buffer S y n v a (λ m. omega arith) ∙ buffer_put_value S x n v a ∙ w.buffers v q z) (eq-or-lt_of_le (le_of_suc-le-suc b));
            others =
                λ v b z.
                buffer_put_buffer S y n v a (λ m. z (ap (λ (i : ℕ). flag_at T (variable_frame S i)) m ∙ eqb-true (flag_at T (variable_frame S n)) 0 e)) ∙ buffer_put_value S x n v a
                ∙ w.others v b z;
          })
      by false e =
          rw (choose_false false (put_buffer S n a y) y refl)
          (record {
            long = long';
            values = values';
            buffers =
                λ v b z.
                ⊎_elim (λ q. absurd (eqb-false (flag_at T (variable_frame S n)) 0 e (ap (λ (i : ℕ). flag_at T (variable_frame S i)) (sym q) ∙ z)))
                (λ q. buffer_put_value S x n v a ∙ w.buffers v q z) (eq-or-lt_of_le (le_of_suc-le-suc b));
            others = λ v b z. buffer_put_value S x n v a ∙ w.others v b z;
          })

  -- ---- load
  module _ (s : List ℕ) (long : need S ≤ length s) where
    cleared : List ℕ
    cleared = zeroes (need S) s

    clear : Blank S cleared
    unfolding cleared
    clear = blank S s (zeroes (need S) s) long (zeroes_at (need S) s long)

    set_up : List ℕ
    set_up = up_to (initial T) (elements S) cleared

    set_leaves : Leaves T S (just chart) cleared set_up
    unfolding set_up
    set_leaves =
        up_to_keeps (Leaves T S (just chart) cleared) (initial T) (elements S) cleared
        (λ el l x w. leaves_then T S (just chart) cleared x (initial T el x) (initial_leaves (just chart) refl el x l) w) (leaves_all T S (just chart) cleared)

    set_charted : Charted (elements S) set_up
    unfolding set_up
    set_charted =
        up_to_carries Charted (initial T) (elements S) cleared (λ el l x w. charted el x l w)
        (record { long = clear.long; basic = λ el l. absurd (not-suc-le-zero l); other = λ el l _. clear.charts el l })

    load_leaves : Leaves T S (also sampled (also computed (just buffered))) set_up (loaded T S s)
    unfolding loaded set_up cleared
    load_leaves =
        let f = also sampled (also computed (just buffered)) in
        let x = up_to (initial T) (elements S) (zeroes (need S) s) in
        up_to_keeps (Leaves T S f x) (start T S) (variables S) x
        (λ v l y w. leaves_then T S f x y (start T S v y) (start_leaves f refl refl refl v y l) w) (leaves_all T S f x)

    load_started : Started (variables S) (loaded T S s)
    unfolding loaded set_up cleared
    load_started =
        let x = up_to (initial T) (elements S) (zeroes (need S) s) in
        up_to_carries Started (start T S) (variables S) x (λ v l y w. started v y l w)
        (record {
          long = set_charted.long;
          values = λ v l. absurd (not-suc-le-zero l);
          buffers = λ v l. absurd (not-suc-le-zero l);
          others = λ v l _. set_leaves.buffers refl v l ∙ clear.buffers v l;
        })

    pub loaded_due : (el : ℕ) → el < elements S → Due el 0 0 (loaded T S s)
    loaded_due el l =
        let a = load_leaves.dues refl el l in
        let b = set_leaves.dues refl el l in
        let c = clear.dues el l in
        record { flagged = a.flag ∙ b.flag ∙ c.0; timed = a.at ∙ b.at ∙ c.1 }

    -- nothing is due
    pub loaded_next : next_due (loaded T S s) ≡ earliest (loaded T S s) (elements S)
    loaded_next =
        load_leaves.next_same refl ∙ set_leaves.next_same refl ∙ clear.next
        ∙ sym (earliest_none (loaded T S s) (elements S) (λ el l. (loaded_due el l).flagged))

    -- and the writer of due words would leave it so: each element has what it is given where it is not due
    pub loaded_put : (el : ℕ) → el < elements S → put_due S el 0 0 (loaded T S s) ≡ loaded T S s
    loaded_put el l = put_same S (loaded T S s) (record { long = load_started.long; next = loaded_next }) el 0 0 (loaded_due el l)

    pub loaded_formed : Lawful T S → Formed T S (loaded T S s)
    loaded_formed k =
        let w = load_leaves in
        let u = set_leaves in
        let z = clear in
        let bl = w.running refl in
        let cl = u.running refl in
        record {
          parts =
              record {
                long = load_started.long;
                in_time = rw (w.now refl ∙ u.now refl ∙ z.now) (omega arith);
                spare = λ j l. w.spare j l ∙ u.spare j l ∙ z.spare j l;
                next = loaded_next;
                charts =
                    λ el l.
                    record {
                      basic = λ e. rw (w.charts refl el l ∙ set_charted.basic el l e) (k.initial_own el l e);
                      other = λ e. w.charts refl el l ∙ set_charted.other el l e;
                    };
                dues =
                    λ el l.
                    let d = loaded_due el l in
                    let fl = d.flagged in
                    record { flagged = rw fl (omega arith); rests = λ _. d.timed; due = λ q. absurd (let y = sym fl ∙ q in omega arith) };
                events =
                    λ i l.
                    let a = w.waits refl i l in
                    let b = u.waits refl i l in
                    let c = z.events i l in
                    let fl = a.waits ∙ b.waits ∙ c.0 in
                    record { flagged = rw fl (omega arith); rests = λ _. (a.born ∙ b.born ∙ c.1, a.last ∙ b.last ∙ c.2); waits = λ q. absurd (let y = sym fl ∙ q in omega arith) };
                buffers = load_started.others;
              };
          block = rest_block T S (loaded T S s) (bl.element ∙ cl.element ∙ z.element) (bl.event ∙ cl.event ∙ z.event) (bl.running ∙ cl.running ∙ z.running);
        }

    -- ---- what the words hold then
    pub loaded_value : (v : ℕ) → v < variables S → value S (loaded T S s) v ≡ start_value T S v
    loaded_value = load_started.values

    pub loaded_buffer : (v : ℕ) → v < variables S → flag_at T (variable_frame S v) ≡ 0 → buffer S (loaded T S s) v ≡ start_value T S v
    loaded_buffer = load_started.buffers

    pub loaded_rests : (i : ℕ) → i < inputs S → waiting S (loaded T S s) i ≡ 0
    loaded_rests i l = (load_leaves.waits refl i l).waits ∙ (set_leaves.waits refl i l).waits ∙ (clear.events i l).0

    pub loaded_untrue : untrue (loaded T S s) ≡ 0
    loaded_untrue = load_leaves.untrue_same refl ∙ set_leaves.untrue_same refl ∙ clear.untrue_none

    pub loaded_idle : running_of (loaded T S s) ≡ rest
    loaded_idle = (load_leaves.running refl).running ∙ (set_leaves.running refl).running ∙ clear.running
