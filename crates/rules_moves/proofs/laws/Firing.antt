-- What firing an event does to the event inputs and the buffers, and what it leaves.
use Rattle.std.specs.Prelude.{◌≡◌, Bool, ℕ, suc, ◌≤◌, ◌<◌, length}
use Rattle.std.proofs.Math.Path.{refl, sym}
use Rattle.std.proofs.Common.{◌∙◌, ⊎_elim, eq-or-lt_of_le, le_of_suc-le-suc, not-suc-le-zero}
use mathlib.Core.List.{List}
use Rattle.std.proofs.Math.Bool.{true, false}
use native.Mathlib.Omega.{arith}
use Rattle.std.proofs.Math.Dec.{eqb}
use borrow.Author.Tests.{eqb-true, eqb-false}
use Rattle.rules_walks.specs.Pick.{both, either}
use Rattle.rules_walks.proofs.laws.Pick.{either_false, either_true, clash}
use Rattle.rules_walks.specs.Choose.{choose}
use Rattle.rules_walks.proofs.laws.Choose.{by_choose}
use Rattle.rules_walks.specs.All.{any_to}
use Rattle.rules_walks.specs.Walk.{up_to}
use Rattle.rules_walks.proofs.laws.Walk.{up_to_keeps, up_to_carries}
use Rattle.rules_tables.specs.Frame.{field_at}
use Rattle.rules_tables.specs.declared.Shape.{Shape}
use Rattle.rules_store.specs.Layout.{need}
use Rattle.rules_tables.specs.Ids.{inputs, connections, links, connection_frame}
use Rattle.rules_store.specs.Word.{counted, overwritten, put_overwritten, waiting, put_input, value, buffer, put_buffer}
use Rattle.rules_store.proofs.laws.Word.{counted_grows, buffer_put_buffer, value_put_buffer}
use Rattle.rules_store.specs.Part.{Part, count, input, buffered, just, also, everything, Leaves}
use Rattle.rules_store.proofs.laws.Part.{leaves_all, leaves_then}
use Rattle.rules_tables.specs.Lawful.{Lawful, source, destination}
use Rattle.rules_store.proofs.laws.Writer.{leaves_overwritten, leaves_input, leaves_buffer}
use Rattle.rules_store.proofs.laws.Own.{input_put, input_other, overwritten_put, buffer_put}
use Rattle.rules_moves.specs.Carry.{voice_of, carries}
use Rattle.rules_moves.specs.Reached.{Reached}
use Rattle.rules_moves.specs.Fire.{mark, connect, connects, copy_if, copies, fire}
use Rattle.rules_moves.proofs.laws.Untouched.{copies_value, fire_value}
use Rattle.rules_moves.specs.Connected.{runs, connected}

module _ (T : List ℕ) (S : Shape) (k : Lawful T S) where
  -- ---- what it leaves
  module _ (f : Part → Bool) (wr : f input ≡ true) (ct : f count ≡ true) where
    pub mark_leaves : (birth t i : ℕ) (s : List ℕ) → i < inputs S → Leaves T S f s (mark S birth t i s)
    unfolding mark
    mark_leaves birth t i s l =
        let n = counted (waiting S s i) (overwritten s) in
        leaves_then T S f s (put_overwritten n s) (put_input S i 1 birth t (put_overwritten n s))
        (leaves_input T S f (put_overwritten n s) i 1 birth t l wr) (leaves_overwritten T S f s n ct)

    pub connect_leaves : (o birth t j : ℕ) (s : List ℕ) → j < connections S → Leaves T S f s (connect T S o birth t j s)
    unfolding connect
    connect_leaves o birth t j s l =
        by_choose (Leaves T S f s) (eqb (field_at T (connection_frame S j) 0) o) (mark S birth t (field_at T (connection_frame S j) 1) s) s
        (λ _. mark_leaves birth t (field_at T (connection_frame S j) 1) s (k.is_good.connection_input j l)) (λ _. leaves_all T S f s)

    pub connects_leaves : (o birth t : ℕ) (s : List ℕ) → Leaves T S f s (connects T S o birth t s)
    connects_leaves o birth t s =
        up_to_keeps (Leaves T S f s) (connect T S o birth t) (connections S) s
        (λ j l x w. leaves_then T S f s x (connect T S o birth t j x) (connect_leaves o birth t j x l) w) (leaves_all T S f s)

  module _ (f : Part → Bool) (bf : f buffered ≡ true) where
    pub copy_leaves : (p : ℕ → Bool) (j : ℕ) (s : List ℕ) → j < links S → Leaves T S f s (copy_if T S p j s)
    unfolding copy_if
    copy_leaves p j s l =
        by_choose (Leaves T S f s) (p (source T S j)) (put_buffer S (destination T S j) (value S s (source T S j)) s) s
        (λ _. leaves_buffer T S f s (destination T S j) (value S s (source T S j)) (k.is_good.link_destination j l) bf) (λ _. leaves_all T S f s)

    pub copies_leaves : (p : ℕ → Bool) (s : List ℕ) → Leaves T S f s (up_to (copy_if T S p) (links S) s)
    copies_leaves p s =
        up_to_keeps (Leaves T S f s) (copy_if T S p) (links S) s
        (λ j l x w. leaves_then T S f s x (copy_if T S p j x) (copy_leaves p j x l) w) (leaves_all T S f s)

  pub fire_leaves : (f : Part → Bool) → f input ≡ true → f count ≡ true → f buffered ≡ true → (o birth t : ℕ) (s : List ℕ) → Leaves T S f s (fire T S o birth t s)
  unfolding fire
  fire_leaves f wr ct bf o birth t s =
      let x = connects T S o birth t s in
      leaves_then T S f s x (copies T S (voice_of T S o) x) (copies_leaves f bf (carries T S (voice_of T S o)) x) (connects_leaves f wr ct o birth t s)

  -- ---- the overwritten count never falls
  mark_count : (birth t i : ℕ) (s : List ℕ) → need S ≤ length s → i < inputs S → overwritten s ≤ overwritten (mark S birth t i s)
  unfolding mark
  mark_count birth t i s long l =
      let n = counted (waiting S s i) (overwritten s) in
      let q = (leaves_input T S (just input) (put_overwritten n s) i 1 birth t l refl).counted refl in
      let z = overwritten_put S s long n in
      let g = counted_grows (waiting S s i) (overwritten s) in
      omega arith

  record Grown (s x : List ℕ) : Type 0 where
    pub more : overwritten s ≤ overwritten x
    pub long : need S ≤ length x

  pub fire_count : (o birth t : ℕ) (s : List ℕ) → need S ≤ length s → overwritten s ≤ overwritten (fire T S o birth t s)
  unfolding fire connect
  fire_count o birth t s long =
      let x = connects T S o birth t s in
      let q = (copies_leaves (just buffered) refl (carries T S (voice_of T S o)) x).counted refl in
      let w =
      up_to_keeps (Grown s) (connect T S o birth t) (connections S) s
      (λ j l y g.
      by_choose (Grown s) (eqb (field_at T (connection_frame S j) 0) o) (mark S birth t (field_at T (connection_frame S j) 1) y) y
      (λ _.
      let b = k.is_good.connection_input j l in
      let m = mark_count birth t (field_at T (connection_frame S j) 1) y g.long b in
      let z = (mark_leaves everything refl refl birth t (field_at T (connection_frame S j) 1) y b).long in
      record { more = let a = g.more in omega arith; long = let a = g.long in omega arith }) (λ _. g)) (record { more = omega arith; long = long }) in
      let m = w.more in
      omega arith

  -- ---- event inputs: waiting with this birth and last update where the event output is connected, else as before
  module _ (o birth t i : ℕ) (s : List ℕ) where
    marked : (x : List ℕ) (b : Bool) → need S ≤ length x → i < inputs S → Reached S birth t i s (either b true) (mark S birth t i x)
    unfolding mark
    marked x b long l =
        let n = counted (waiting S x i) (overwritten x) in
        let z = (leaves_overwritten T S everything x n refl).long in
        record {
          long = let q = (mark_leaves everything refl refl birth t i x l).long in omega arith;
          hit = λ _. input_put S (put_overwritten n x) (omega arith) i 1 birth t l;
          miss = λ e. clash (sym e ∙ either_true b);
        }

    other : (x : List ℕ) (b : Bool) (c : ℕ) → (i ≡ c → ⊥) → c < inputs S → i < inputs S → Reached S birth t i s b x → Reached S birth t i s (either b false) (mark S birth t c x)
    unfolding mark
    other x b c n l li m =
        let num = counted (waiting S x c) (overwritten x) in
        let y = put_overwritten num x in
        let u = (leaves_overwritten T S (just count) x num refl).waits refl i li in
        let v = input_other S y c i 1 birth t n in
        record {
          long = let a = m.long in let q = (mark_leaves everything refl refl birth t c x l).long in omega arith;
          hit =
              λ e.
              let h = m.hit (sym (either_false b) ∙ e) in
              record { waits = v.waits ∙ u.waits ∙ h.waits; born = v.born ∙ u.born ∙ h.born; updated = v.last ∙ u.last ∙ h.updated };
          miss =
              λ e.
              let h = m.miss (sym (either_false b) ∙ e) in
              record { waits = v.waits ∙ u.waits ∙ h.waits; born = v.born ∙ u.born ∙ h.born; last = v.last ∙ u.last ∙ h.last };
        }

    skipped : (x : List ℕ) (b : Bool) → Reached S birth t i s b x → Reached S birth t i s (either b false) x
    skipped x b m = rw (either_false b) m

    turn : (x : List ℕ) (b : Bool) (j : ℕ) → j < connections S → i < inputs S → Reached S birth t i s b x → Reached S birth t i s (either b (runs T S o i j)) (connect T S o birth t j x)
    unfolding runs connect choose
    turn x b j l li m =
        by (eqb (field_at T (connection_frame S j) 0) o) (eqb (field_at T (connection_frame S j) 1) i) refl
      where
        by : (c d : Bool) → eqb (field_at T (connection_frame S j) 1) i ≡ d
            → Reached S birth t i s (either b (both c d)) (choose c (mark S birth t (field_at T (connection_frame S j) 1) x) x)
        by true true e = rw (eqb-true (field_at T (connection_frame S j) 1) i e) (marked x b m.long li)
        by true false e =
            other x b (field_at T (connection_frame S j) 1) (λ q. eqb-false (field_at T (connection_frame S j) 1) i e (sym q)) (k.is_good.connection_input j l) li m
        by false d e = skipped x b m

    pub connects_marked : need S ≤ length s → i < inputs S → Reached S birth t i s (connected T S o i) (connects T S o birth t s)
    unfolding any_to
    connects_marked long li =
        up_to_carries (λ (n : ℕ) (x : List ℕ). Reached S birth t i s (any_to (runs T S o i) n) x) (connect T S o birth t) (connections S) s
        (λ j l x m. turn x (any_to (runs T S o i) j) j l li m)
        (record { long = long; hit = λ e. clash e; miss = λ _. record { waits = refl; born = refl; last = refl } })

    pub fire_marked : need S ≤ length s → i < inputs S → Reached S birth t i s (connected T S o i) (fire T S o birth t s)
    unfolding fire
    fire_marked long li =
        let x = connects T S o birth t s in
        let m = connects_marked long li in
        let w = copies_leaves (just buffered) refl (carries T S (voice_of T S o)) x in
        let v = w.waits refl i li in
        record {
          long = let a = m.long in let q = w.long in omega arith;
          hit = λ e. let h = m.hit e in record { waits = v.waits ∙ h.waits; born = v.born ∙ h.born; updated = v.last ∙ h.updated };
          miss = λ e. let h = m.miss e in record { waits = v.waits ∙ h.waits; born = v.born ∙ h.born; last = v.last ∙ h.last };
        }

  -- ---- the buffer of a connected variable: what the source holds where the event carries it, else as before
  module _ (p : ℕ → Bool) (j : ℕ) (s : List ℕ) where
    record Copied (n : ℕ) (x : List ℕ) : Type 0 where
      pub long : need S ≤ length x
      pub values : (v : ℕ) → value S x v ≡ value S s v
      pub before : n ≤ j → buffer S x (destination T S j) ≡ buffer S s (destination T S j)
      pub past : j < n → buffer S x (destination T S j) ≡ choose (p (source T S j)) (value S s (source T S j)) (buffer S s (destination T S j))

    here : (x : List ℕ) → need S ≤ length x → ((v : ℕ) → value S x v ≡ value S s v) → buffer S x (destination T S j) ≡ buffer S s (destination T S j) → j < links S
        → buffer S (copy_if T S p j x) (destination T S j) ≡ choose (p (source T S j)) (value S s (source T S j)) (buffer S s (destination T S j))
    unfolding copy_if choose
    here x long vs q l = by (p (source T S j))
      where
        by : (b : Bool)
            → buffer S (choose b (put_buffer S (destination T S j) (value S x (source T S j)) x) x) (destination T S j) ≡ choose b (value S s (source T S j)) (buffer S s (destination T S j))
        by true = buffer_put S x long (destination T S j) (value S x (source T S j)) (k.is_good.link_destination j l) ∙ vs (source T S j)
        by false = q

    there : (x : List ℕ) (c : ℕ) → (destination T S j ≡ destination T S c → ⊥) → buffer S (copy_if T S p c x) (destination T S j) ≡ buffer S x (destination T S j)
    unfolding copy_if
    there x c n =
        by_choose (λ (y : List ℕ). buffer S y (destination T S j) ≡ buffer S x (destination T S j)) (p (source T S c))
        (put_buffer S (destination T S c) (value S x (source T S c)) x) x
        (λ _. buffer_put_buffer S x (destination T S c) (destination T S j) (value S x (source T S c)) n) (λ _. refl)

    kept_values : (x : List ℕ) (c v : ℕ) → value S (copy_if T S p c x) v ≡ value S x v
    unfolding copy_if
    kept_values x c v =
        by_choose (λ (y : List ℕ). value S y v ≡ value S x v) (p (source T S c)) (put_buffer S (destination T S c) (value S x (source T S c)) x) x
        (λ _. value_put_buffer S x (destination T S c) v (value S x (source T S c))) (λ _. refl)

    step : j < links S → (c : ℕ) → c < links S → (x : List ℕ) → Copied c x → Copied (suc c) (copy_if T S p c x)
    step lj c l x w =
        record {
          long = let a = w.long in let q = (copy_leaves everything refl p c x l).long in omega arith;
          values = λ v. kept_values x c v ∙ w.values v;
          before = λ h. there x c (λ e. let q = k.destinations j c lj l e in omega arith) ∙ w.before (omega arith);
          past =
              λ h.
              ⊎_elim (λ (e : j ≡ c). rw (← e) (here x w.long w.values (w.before (omega arith)) lj))
              (λ z. there x c (λ e. let q = k.destinations j c lj l e in omega arith) ∙ w.past z) (eq-or-lt_of_le (le_of_suc-le-suc h));
        }

    pub copies_buffer : need S ≤ length s → j < links S
        → buffer S (up_to (copy_if T S p) (links S) s) (destination T S j) ≡ choose (p (source T S j)) (value S s (source T S j)) (buffer S s (destination T S j))
    copies_buffer long l =
        let w =
        up_to_carries Copied (copy_if T S p) (links S) s (λ c h x m. step l c h x m)
        (record { long = long; values = λ v. refl; before = λ h. refl; past = λ h. absurd (not-suc-le-zero h) }) in
        w.past l

  pub fire_buffer : (o birth t j : ℕ) (s : List ℕ) → need S ≤ length s → j < links S
      → buffer S (fire T S o birth t s) (destination T S j)
      ≡ choose (carries T S (voice_of T S o) (source T S j)) (value S s (source T S j)) (buffer S s (destination T S j))
  unfolding fire
  fire_buffer o birth t j s long l =
      let x = connects T S o birth t s in
      let w = connects_leaves (also input (just count)) refl refl o birth t s in
      let q = w.long in
      let b = w.buffers refl (destination T S j) (k.is_good.link_destination j l) in
      let sources = sym (copies_value T S (voice_of T S o) (source T S j) x) ∙ fire_value T S o birth t (source T S j) s k.is_good in
      copies_buffer (carries T S (voice_of T S o)) j x (omega arith) l
      ∙ (λ i. choose (carries T S (voice_of T S o) (source T S j)) (sources i) (b i))
