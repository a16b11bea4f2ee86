-- What this product is for: firing changes no buffer but those of data connections whose source the event carries, and no value. So a value that
-- another event brought stays as it was.
use Rattle.std.specs.Prelude.{◌≡◌, true, ℕ, ◌<◌}
use Rattle.std.proofs.Math.Path.{refl}
use Rattle.std.proofs.Common.{sym, ◌∙◌}
use mathlib.Core.List.{List}
use Rattle.rules_walks.proofs.laws.Choose.{by_choose}
use Rattle.rules_walks.proofs.laws.Walk.{up_to_keeps}
use Rattle.rules_tables.specs.Frame.{field_at}
use Rattle.rules_tables.specs.declared.Shape.{Shape}
use Rattle.rules_tables.specs.Ids.{inputs, connections, links, connection_frame, link_frame}
use Rattle.rules_store.specs.Word.{value, buffer, put_buffer}
use Rattle.rules_tables.specs.Good.{Good}
use Rattle.rules_store.proofs.laws.Word.{buffer_put_buffer, buffer_put_overwritten, buffer_put_input, value_put_buffer, value_put_overwritten, value_put_input}
use Rattle.rules_moves.specs.declared.Voice.{Voice}
use Rattle.rules_moves.specs.Carry.{voice_of, carries}
use Rattle.rules_moves.specs.Fire.{mark, connect, connects, copy_if, copies, fire}
use Rattle.rules_moves.specs.Untouched.{Unfed}

module _ (T : List ℕ) (S : Shape) where
  -- what each copy leaves the copies leave
  copies_keep : (w : Voice) (s : List ℕ) (read : List ℕ → ℕ) → ((j : ℕ) → j < links S → carries T S w (field_at T (link_frame S j) 0) ≡ true → (x : List ℕ) (y : ℕ) → read (put_buffer S (field_at T (link_frame S j) 1) y x) ≡ read x) → read (copies T S w s) ≡ read s
  unfolding copy_if
  copies_keep w s read h =
      up_to_keeps (λ (x : List ℕ). read x ≡ read s) _ (links S) s
      (λ j l x q. by_choose (λ (y : List ℕ). read y ≡ read s) (carries T S w (field_at T (link_frame S j) 0)) _ x (λ c. h j l c x _ ∙ q) (λ _. q)) refl

  -- what each mark leaves the event connections leave
  connects_keep : (o birth time : ℕ) (s : List ℕ) → Good T S → (read : List ℕ → ℕ) → ((i : ℕ) → i < inputs S → (x : List ℕ) → read (mark S birth time i x) ≡ read x) → read (connects T S o birth time s) ≡ read s
  unfolding connect
  connects_keep o birth time s g read h =
      up_to_keeps (λ (x : List ℕ). read x ≡ read s) _ (connections S) s
      (λ j l x q. by_choose (λ (y : List ℕ). read y ≡ read s) _ _ x (λ _. h (field_at T (connection_frame S j) 1) (g.connection_input j l) x ∙ q) (λ _. q)) refl

  mark_buffer : (birth time d i : ℕ) → i < inputs S → (s : List ℕ) → buffer S (mark S birth time i s) d ≡ buffer S s d
  unfolding mark
  mark_buffer birth time d i l s = buffer_put_input S _ i 1 birth time d l ∙ buffer_put_overwritten S s _ d

  mark_value : (birth time v i : ℕ) → i < inputs S → (s : List ℕ) → value S (mark S birth time i s) v ≡ value S s v
  unfolding mark
  mark_value birth time v i l s = value_put_input S _ i 1 birth time v l ∙ value_put_overwritten S s _ v

  -- ---- "no other buffer changes"
  pub copies_untouched : (w : Voice) (d : ℕ) (s : List ℕ) → Unfed T S w d → buffer S (copies T S w s) d ≡ buffer S s d
  copies_untouched w d s h =
      copies_keep w s (λ (x : List ℕ). buffer S x d) (λ j l c x y. buffer_put_buffer S x (field_at T (link_frame S j) 1) d y (λ e. h j l (sym e) c))

  pub fire_untouched : (o birth time d : ℕ) (s : List ℕ) → Good T S → Unfed T S (voice_of T S o) d → buffer S (fire T S o birth time s) d ≡ buffer S s d
  unfolding fire
  fire_untouched o birth time d s g h =
      copies_untouched (voice_of T S o) d (connects T S o birth time s) h ∙ connects_keep o birth time s g (λ (x : List ℕ). buffer S x d) (mark_buffer birth time d)

  -- ---- nor a value
  pub copies_value : (w : Voice) (v : ℕ) (s : List ℕ) → value S (copies T S w s) v ≡ value S s v
  copies_value w v s = copies_keep w s (λ (x : List ℕ). value S x v) (λ j l c x y. value_put_buffer S x (field_at T (link_frame S j) 1) v y)

  pub fire_value : (o birth time v : ℕ) (s : List ℕ) → Good T S → value S (fire T S o birth time s) v ≡ value S s v
  unfolding fire
  fire_value o birth time v s g =
      copies_value (voice_of T S o) v (connects T S o birth time s) ∙ connects_keep o birth time s g (λ (x : List ℕ). value S x v) (mark_value birth time v)
