-- What taking an event does to the values of variables, and what it leaves.
use Rattle.std.specs.Prelude.{◌≡◌, Bool, true, false, eqb, length}
use Rattle.std.proofs.Math.Path.{refl, sym}
use Rattle.std.proofs.Common.{ap, ◌∙◌, arith, eqb-true, ne_eqb}
use mathlib.Core.List.{List}
use Prim.Native.Nat.{ℕ, ◌+◌, ◌≤◌, ◌<◌}
use Rattle.std.proofs.lemmas.Bool.{eqb-false}
use Rattle.rules_walks.specs.Pick.{both, either}
use Rattle.rules_walks.proofs.laws.Pick.{either_false, either_true, clash}
use Rattle.rules_walks.specs.Choose.{choose}
use Rattle.rules_walks.proofs.laws.Choose.{choose_false, by_choose}
use Rattle.rules_walks.specs.All.{any_to}
use Rattle.rules_walks.specs.First.{Sought, one, missing}
use Rattle.rules_walks.proofs.laws.Walk.{up_to_keeps, up_to_carries}
use Rattle.rules_tables.specs.Kind.{basic, interface, delay, of_input}
use Rattle.rules_tables.specs.Frame.{flag_at, field_at}
use Rattle.rules_tables.specs.declared.Shape.{Shape}
use Rattle.rules_tables.specs.Ids.{elements, inputs, variables, associations, association_frame, variable_frame}
use Rattle.rules_store.specs.Layout.{need}
use Rattle.rules_store.specs.Running.{awake}
use Rattle.rules_store.specs.Word.{put_owner, put_running, birth_of, put_input, value, put_value, buffer}
use Rattle.rules_store.proofs.laws.Word.{buffer_put_input, buffer_put_value, value_put_input, value_put_value}
use Rattle.rules_store.specs.Part.{Part, block, count, due, input, sampled as «samples_part», computed, buffered, just, everything, Leaves, SameInput}
use Rattle.rules_store.proofs.laws.Part.{leaves_all, leaves_then}
use Rattle.rules_tables.specs.Lawful.{Lawful}
use Rattle.rules_store.proofs.laws.Writer.{leaves_owner, leaves_running, leaves_due, leaves_input, leaves_value}
use Rattle.rules_store.specs.Own.{Input}
use Rattle.rules_store.proofs.laws.Own.{input_put, input_other, value_put}
use Rattle.rules_moves.specs.Partner.{input_owner, partner_variable}
use Rattle.rules_moves.proofs.laws.Partner.{partner_output_lem}
use Rattle.rules_moves.specs.Carry.{voice, speaks}
use Rattle.rules_moves.proofs.laws.Carry.{of_input_lem}
use Rattle.rules_moves.specs.Connected.{connected}
use Rattle.rules_moves.specs.Reached.{Reached}
use Rattle.rules_moves.proofs.laws.Firing.{fire_leaves, fire_marked}
use Rattle.rules_moves.specs.Take.{sample, samples, sampled, pass_to, pass, passes, fire_found, is_start, started, start_stop, wake, settle, settled, fired_by, taken}
use Rattle.rules_moves.specs.Associated.{joins_variable, associated}

-- only an interface's event fires another
pub fires_nothing : (T : List ℕ) (S : Shape) (i : ℕ) → (flag_at T (input_owner T S i) ≡ interface → ⊥) → fired_by T S i ≡ missing
unfolding fired_by
fires_nothing T S i n = choose_false _ _ _ (ne_eqb _ _ n)

module _ (T : List ℕ) (S : Shape) (k : Lawful T S) where
  -- ---- what it leaves
  module _ (f : Part → Bool) where
    sample_leaves : f «samples_part» ≡ true → (i j : ℕ) (s : List ℕ) → j < associations S → Leaves T S f s (sample T S i j s)
    unfolding sample
    sample_leaves e i j s l =
        let v = field_at T (association_frame S j) 1 in
        by_choose (Leaves T S f s) (speaks T S (voice of_input i) j) (put_value S v (buffer S s v) s) s
        (λ t.
        leaves_value T S f s v (buffer S s v) (k.is_good.association_variable j l) (λ h. clash (sym h ∙ e))
        (λ _ n. n (k.is_good.association_input j l (of_input_lem T S i j t)))) (λ _. leaves_all T S f s)

    pub samples_leaves : f «samples_part» ≡ true → (i : ℕ) (s : List ℕ) → Leaves T S f s (samples T S i s)
    samples_leaves e i s =
        up_to_keeps (Leaves T S f s) (sample T S i) (associations S) s
        (λ j h x w. leaves_then T S f s x (sample T S i j x) (sample_leaves e i j x h) w) (leaves_all T S f s)

    pub sampled_leaves : f «samples_part» ≡ true → f input ≡ true → (i : ℕ) (s : List ℕ) → i < inputs S → Leaves T S f s (sampled T S i s)
    unfolding sampled
    sampled_leaves e wr i s l =
        let y = put_input S i 0 0 0 s in
        leaves_then T S f s y (samples T S i y) (samples_leaves e i y) (leaves_input T S f s i 0 0 0 l wr)

    -- values that go to partners are no inputs
    pass_to_leaves : f computed ≡ true → (q : Sought) (v : ℕ) (s : List ℕ) → ((u : ℕ) → q ≡ one u → (u < variables S) × (flag_at T (variable_frame S u) ≡ 1)) → Leaves T S f s (pass_to S q v s)
    unfolding pass_to
    pass_to_leaves c (one u) v s h =
        let w = h u refl in
        leaves_value T S f s u (value S s v) w.0 (λ _ z. let q = sym z ∙ w.1 in omega arith) (λ h. clash (sym h ∙ c))
    pass_to_leaves c missing v s h = leaves_all T S f s

    pass_leaves : f computed ≡ true → (i j : ℕ) (s : List ℕ) → Leaves T S f s (pass T S i j s)
    unfolding pass
    pass_leaves c i j s =
        let v = field_at T (association_frame S j) 1 in
        by_choose (Leaves T S f s) (speaks T S (voice of_input i) j) (pass_to S (partner_variable T S v) v s) s
        (λ _. pass_to_leaves c (partner_variable T S v) v s (partner_output_lem T S v)) (λ _. leaves_all T S f s)

    pub passes_leaves : f computed ≡ true → (i : ℕ) (s : List ℕ) → Leaves T S f s (passes T S i s)
    passes_leaves c i s =
        up_to_keeps (Leaves T S f s) (pass T S i) (associations S) s
        (λ j h x w. leaves_then T S f s x (pass T S i j x) (pass_leaves c i j x) w) (leaves_all T S f s)

    started_leaves : f due ≡ true → (el t : ℕ) (s : List ℕ) → el < elements S → Leaves T S f s (started T S el t s)
    unfolding started
    started_leaves e el t s l =
        by_choose (Leaves T S f s) _ _ s (λ _. leaves_due T S f s el 1 _ l e) (λ _. leaves_all T S f s)

    pub start_stop_leaves : f due ≡ true → (el i t : ℕ) (s : List ℕ) → el < elements S → Leaves T S f s (start_stop T S el i t s)
    unfolding start_stop
    start_stop_leaves e el i t s l =
        by_choose (Leaves T S f s) (is_start T S el i) _ _ (λ _. started_leaves e el t s l) (λ _. leaves_due T S f s el _ _ l e)

    pub wake_leaves : f block ≡ true → (el i birth : ℕ) (s : List ℕ) → Leaves T S f s (wake el i birth s)
    unfolding wake
    wake_leaves e el i birth s =
        let y = put_owner (el + 1) (i + 1) s in
        leaves_then T S f s y (put_running (awake birth) y) (leaves_running T S f y (awake birth) e) (leaves_owner T S f s (el + 1) (i + 1) e)

    -- whatever the element
    settle_leaves : f block ≡ true → f due ≡ true → f computed ≡ true → (sort el i birth t : ℕ) (s : List ℕ) → el < elements S → Leaves T S f s (settle sort T S el i birth t s)
    unfolding settle
    settle_leaves b d c sort el i birth t s l =
        by_choose (Leaves T S f s) (eqb sort basic) (wake el i birth s) _ (λ _. wake_leaves b el i birth s)
        (λ _.
        by_choose (Leaves T S f s) (eqb sort interface) (passes T S i s) _ (λ _. passes_leaves c i s)
        (λ _. by_choose (Leaves T S f s) (eqb sort delay) (start_stop T S el i t s) s (λ _. start_stop_leaves d el i t s l) (λ _. leaves_all T S f s)))

    pub settled_leaves : f «samples_part» ≡ true → f input ≡ true → f block ≡ true → f due ≡ true → f computed ≡ true → (i t : ℕ) (s : List ℕ) → i < inputs S → Leaves T S f s (settled T S i t s)
    unfolding settled
    settled_leaves e wr b d c i t s l =
        leaves_then T S f s (sampled T S i s) _
        (settle_leaves b d c (flag_at T (input_owner T S i)) (input_owner T S i) i (birth_of S s i) t (sampled T S i s) (k.is_good.input_element i l)) (sampled_leaves e wr i s l)

  -- ---- the value of a variable: what its buffer holds where it is associated with the event, else as before
  module _ (i v : ℕ) (s : List ℕ) where
    record Sampled (b : Bool) (x : List ℕ) : Type 0 where
      pub long : need S ≤ length x
      pub buffers : (u : ℕ) → buffer S x u ≡ buffer S s u
      pub is : value S x v ≡ choose b (buffer S s v) (value S s v)

    turn : (x : List ℕ) (b : Bool) (j : ℕ) → j < associations S → Sampled b x → Sampled (either b (joins_variable T S i v j)) (sample T S i j x)
    unfolding joins_variable sample choose
    turn x b j l m =
        by (speaks T S (voice of_input i) j) (eqb (field_at T (association_frame S j) 1) v) refl
      where
        u : ℕ
        u = field_at T (association_frame S j) 1

        y : List ℕ
        y = put_value S u (buffer S x u) x

        long' : need S ≤ length y
        long' = let a = m.long in let q = (leaves_value T S everything x u (buffer S x u) (k.is_good.association_variable j l) (λ h. clash (sym h)) (λ h. clash (sym h))).long in omega arith

        by : (c d : Bool) → eqb u v ≡ d → Sampled (either b (both c d)) (choose c y x)
        by true true e =
            let q = eqb-true u v e in
            record {
              long = long';
              buffers = λ w. buffer_put_value S x u w (buffer S x u) ∙ m.buffers w;
              is =
                  ap (λ (a : ℕ). value S y a) (sym q) ∙ value_put S x m.long u (buffer S x u) (k.is_good.association_variable j l) ∙ m.buffers u
                  ∙ ap (buffer S s) q ∙ sym (ap (λ (a : Bool). choose a (buffer S s v) (value S s v)) (either_true b));
            }
        by true false e =
            record {
              long = long';
              buffers = λ w. buffer_put_value S x u w (buffer S x u) ∙ m.buffers w;
              is =
                  value_put_value S x u v (buffer S x u) (λ q. eqb-false u v e (sym q)) ∙ m.is
                  ∙ sym (ap (λ (a : Bool). choose a (buffer S s v) (value S s v)) (either_false b));
            }
        by false d e =
            record {
              long = m.long;
              buffers = m.buffers;
              is = m.is ∙ sym (ap (λ (a : Bool). choose a (buffer S s v) (value S s v)) (either_false b));
            }

    samples_value : need S ≤ length s → value S (samples T S i s) v ≡ choose (associated T S i v) (buffer S s v) (value S s v)
    unfolding any_to choose
    samples_value long =
        let w =
        up_to_carries (λ (n : ℕ) (x : List ℕ). Sampled (any_to (joins_variable T S i v) n) x) (sample T S i) (associations S) s
        (λ j l x m. turn x (any_to (joins_variable T S i v) j) j l m)
        (record { long = long; buffers = λ u. refl; is = refl }) in
        w.is

  -- it stops waiting, and the other event inputs stay
  pub sampled_input : (i : ℕ) (s : List ℕ) → need S ≤ length s → i < inputs S → Input S i 0 0 0 (sampled T S i s)
  unfolding sampled
  sampled_input i s long l =
      let y = put_input S i 0 0 0 s in
      let u = (samples_leaves (just «samples_part») refl i y).waits refl i l in
      let w = input_put S s long i 0 0 0 l in
      record { waits = u.waits ∙ w.waits; born = u.born ∙ w.born; updated = u.last ∙ w.updated }

  pub sampled_other : (i c : ℕ) (s : List ℕ) → c < inputs S → (c ≡ i → ⊥) → SameInput S s (sampled T S i s) c
  unfolding sampled
  sampled_other i c s l n =
      let y = put_input S i 0 0 0 s in
      let u = (samples_leaves (just «samples_part») refl i y).waits refl c l in
      let w = input_other S s i c 0 0 0 n in
      record { waits = u.waits ∙ w.waits; born = u.born ∙ w.born; last = u.last ∙ w.last }

  pub sampled_value : (i v : ℕ) (s : List ℕ) → need S ≤ length s → i < inputs S
      → value S (sampled T S i s) v ≡ choose (associated T S i v) (buffer S s v) (value S s v)
  unfolding sampled
  sampled_value i v s long l =
      let y = put_input S i 0 0 0 s in
      let q = (leaves_input T S everything s i 0 0 0 l refl).long in
      samples_value i v y (omega arith)
      ∙ (λ t. choose (associated T S i v) (buffer_put_input S s i 0 0 0 v l t) (value_put_input S s i 0 0 0 v l t))

  pub fire_found_leaves : (f : Part → Bool) → f input ≡ true → f count ≡ true → f buffered ≡ true → (q : Sought) (birth t : ℕ) (s : List ℕ) → Leaves T S f s (fire_found T S q birth t s)
  unfolding fire_found
  fire_found_leaves f wr ct bf (one o) birth t s = fire_leaves T S k f wr ct bf o birth t s
  fire_found_leaves f wr ct bf missing birth t s = leaves_all T S f s

  -- ---- what is fired has the birth of the event taken: what that reaches waits with it, and its last update is now
  pub taken_marked : (i o t c : ℕ) (s : List ℕ) → need S ≤ length s → i < inputs S → c < inputs S → fired_by T S i ≡ one o
      → Reached S (birth_of S s i) t c (settled T S i t s) (connected T S o c) (taken T S i t s)
  unfolding taken fire_found
  taken_marked i o t c s long li lc e =
      let q = (settled_leaves everything refl refl refl refl refl i t s li).long in
      rw e (fire_marked T S k o (birth_of S s i) t c (settled T S i t s) (omega arith) lc)
