-- What an event carries is copied the same whether the data connections are gone through in table order or the carried variables one after the other, since no
-- two data connections run to one variable.
use Rattle.std.specs.Prelude.{◌≡◌, List, Bool}
use Rattle.std.proofs.Math.Path.{refl, ap}
use Rattle.std.proofs.Common.{sym, ◌∙◌, arith, set-set}
use Rattle.std.proofs.Math.Bool.{true, false}
use Prim.Native.Nat.{ℕ, zero, suc}
use Rattle.std.proofs.Math.Dec.{eqb}
use Rattle.std.proofs.lemmas.List.{set_comm}
use Rattle.rules_walks.specs.Pick.{either}
use Rattle.rules_walks.specs.All.{any_to}
use Rattle.rules_walks.specs.Choose.{choose}
use Rattle.rules_walks.specs.Walk.{up_to}
use Rattle.rules_walks.proofs.laws.Walk.{up_to_same, up_to_both}
use Rattle.rules_tables.specs.declared.Shape.{Shape}
use Rattle.rules_tables.specs.Ids.{links, associations}
use Rattle.rules_tables.specs.Lawful.{source, destination, Lawful}
use Rattle.rules_store.specs.Layout.{variable_at}
use Rattle.rules_store.specs.Word.{value, put_buffer}
use Rattle.rules_store.proofs.laws.Word.{value_put_buffer}
use Rattle.rules_moves.specs.declared.Voice.{Voice}
use Rattle.rules_moves.specs.Carry.{carried_by, carries}
use Rattle.rules_moves.specs.Fire.{copy_if, copies}
use Rattle.moves_fire.specs.Carried.{copied, copies_from}

-- buffers: one that is written twice, and two in either order
put_buffer_twice : (S : Shape) (d x : ℕ) (s : List ℕ) → put_buffer S d x (put_buffer S d x s) ≡ put_buffer S d x s
unfolding put_buffer
put_buffer_twice S d x s = set-set s _ x x

put_buffer_swap : (S : Shape) (d e x y : ℕ) (s : List ℕ) → (d ≡ e → ⊥) → put_buffer S d x (put_buffer S e y s) ≡ put_buffer S e y (put_buffer S d x s)
unfolding put_buffer variable_at
put_buffer_swap S d e x y s h = set_comm s _ _ y x (λ z. h (omega arith))

module _ (T : List ℕ) (S : Shape) (p q : ℕ → Bool) where
  -- one data connection, by either test
  copy_either : (j : ℕ) (s : List ℕ) → copy_if T S (λ v. either (p v) (q v)) j s ≡ copy_if T S q j (copy_if T S p j s)
  unfolding copy_if choose
  copy_either j s = by (p (source T S j)) (q (source T S j))
    where
      by : (a b : Bool) → choose (either a b) (copied T S j s) s ≡ choose b (copied T S j (choose a (copied T S j s) s)) (choose a (copied T S j s) s)
      by true true =
          rw (value_put_buffer S s (destination T S j) (source T S j) (value S s (source T S j))) (sym (put_buffer_twice S (destination T S j) (value S s (source T S j)) s))
      by true false = refl
      by false true = refl
      by false false = refl

  -- two data connections, in either order
  copy_swap : (j k : ℕ) (s : List ℕ) → (destination T S j ≡ destination T S k → ⊥) → copy_if T S p j (copy_if T S q k s) ≡ copy_if T S q k (copy_if T S p j s)
  unfolding copy_if choose
  copy_swap j k s h = by (p (source T S j)) (q (source T S k))
    where
      swapped : copied T S j (copied T S k s) ≡ copied T S k (copied T S j s)
      swapped =
          rw (value_put_buffer S s (destination T S k) (source T S j) (value S s (source T S k)), value_put_buffer S s (destination T S j) (source T S k) (value S s (source T S j)))
          (put_buffer_swap S (destination T S j) (destination T S k) (value S s (source T S j)) (value S s (source T S k)) s h)

      by : (a b : Bool) → choose a (copied T S j (choose b (copied T S k s) s)) (choose b (copied T S k s) s) ≡ choose b (copied T S k (choose a (copied T S j s) s)) (choose a (copied T S j s) s)
      by true true = swapped
      by true false = refl
      by false true = refl
      by false false = refl

  -- all of them: by the one test, then by the other
  walk_either : Lawful T S → (s : List ℕ) → up_to (copy_if T S (λ v. either (p v) (q v))) (links S) s ≡ up_to (copy_if T S q) (links S) (up_to (copy_if T S p) (links S) s)
  walk_either w s =
      up_to_same _ (λ (j : ℕ) (x : List ℕ). copy_if T S q j (copy_if T S p j x)) (links S) s (λ j l x. copy_either j x)
      ∙ up_to_both (copy_if T S p) (copy_if T S q) (links S) s (λ j k l m x. copy_swap j k x (λ e. let z = w.destinations j k l (omega arith) e in omega arith))

module _ (T : List ℕ) (S : Shape) (w : Lawful T S) (c : ℕ → ℕ) where
  -- by no test at all
  none_copied : (n : ℕ) (s : List ℕ) → up_to (copy_if T S (λ v. false)) n s ≡ s
  unfolding up_to copy_if choose
  none_copied zero s = refl
  none_copied (suc n) s = none_copied n s

  one_by_one : (a : ℕ) (s : List ℕ) → up_to (copy_if T S (λ v. any_to (λ j. eqb (c j) v) a)) (links S) s ≡ up_to (λ (j : ℕ) (x : List ℕ). copies_from T S (c j) x) a s
  unfolding any_to up_to
  one_by_one zero s = none_copied (links S) s
  one_by_one (suc a) s =
      walk_either T S (λ v. any_to (λ j. eqb (c j) v) a) (eqb (c a)) w s ∙ ap (copies_from T S (c a)) (one_by_one a s)

-- what an event carries, association by association
pub copies_one_by_one : (T : List ℕ) (S : Shape) → Lawful T S → (w : Voice) (s : List ℕ) → copies T S w s ≡ up_to (λ (j : ℕ) (x : List ℕ). copies_from T S (carried_by T S w j) x) (associations S) s
unfolding carries
copies_one_by_one T S l w s = one_by_one T S l (carried_by T S w) (associations S) s
