-- A record is as long as its size says, and how long it can be.
use Rattle.std.specs.Prelude.{◌≡◌, Bool, eqb}
use Rattle.std.proofs.Math.Path.{refl}
use mathlib.Core.List.{List, [], ◌++◌}
use Rattle.std.proofs.Math.Bool.{true, false}
use Prim.Native.Nat.{ℕ, zero, suc, ◌+◌, ◌*◌, ◌≤◌}
use Rattle.std.proofs.Common.{arith, length-append, eq-eqb, ne_eqb}
use Rattle.std.proofs.Math.ListN.{length}
use Rattle.rules_walks.specs.Pick.{pick}
use Rattle.rules_walks.specs.Choose.{choose}
use Rattle.rules_walks.proofs.laws.Choose.{choose_true, choose_false, by_choose}
use Rattle.rules_walks.specs.Count.{count_if}
use Rattle.rules_walks.specs.Walk.{up_to}
use Rattle.rules_numbers.specs.Bytes.{word_bytes}
use Rattle.rules_numbers.proofs.laws.Bytes.{length_half, length_word}
use Rattle.rules_tables.specs.Kind.{sink, of_input}
use Rattle.rules_tables.specs.Frame.{flag_at, field_at}
use Rattle.rules_tables.specs.declared.Shape.{Shape}
use Rattle.rules_tables.specs.Ids.{association_frame}
use Rattle.rules_store.specs.Word.{value}
use Rattle.rules_tables.specs.Good.{Good}
use Rattle.rules_moves.specs.Partner.{input_owner}
use Rattle.rules_moves.specs.Carry.{voice, speaks}
use Rattle.rules_moves.specs.Record.{head, value_of, values, record_of, record_size, put_out}

pub head_length : (el i birth last time : ℕ) → length (head el i birth last time) ≡ 16
unfolding head
head_length el i birth last time = simp (length-append, length_half, length_word)

module _ (T : List ℕ) (S : Shape) (s : List ℕ) (i : ℕ) where
  -- the values of the first j associations take four bytes for each that speaks
  pub values_length : (j : ℕ) → length (up_to (value_of T S s i) j []) ≡ 4 * count_if (speaks T S (voice of_input i)) j
  unfolding up_to count_if value_of
  values_length zero = refl
  values_length (suc j) = by (speaks T S (voice of_input i) j) (values_length j)
    where
      by : (b : Bool) → length (up_to (value_of T S s i) j []) ≡ 4 * count_if (speaks T S (voice of_input i)) j
          → length (choose b (up_to (value_of T S s i) j [] ++ word_bytes (value S s (field_at T (association_frame S j) 1))) (up_to (value_of T S s i) j []))
          ≡ 4 * pick b (count_if (speaks T S (voice of_input i)) j + 1) (count_if (speaks T S (voice of_input i)) j)
      by true h = rw (choose_true true _ _ refl) (simp (length-append, length_word) (omega arith))
      by false h = rw (choose_false false _ _ refl) h

pub record_length : (T : List ℕ) (S : Shape) (i birth time : ℕ) (s : List ℕ) → length (record_of T S i birth time s) ≡ record_size T S i
unfolding record_of record_size values
record_length T S i birth time s = simp (length-append, head_length, values_length) refl

-- what an event input writes by its element's sort
module _ (T : List ℕ) (S : Shape) (i : ℕ) where
  pub sink_writes : flag_at T (input_owner T S i) ≡ sink → (birth time : ℕ) (s : List ℕ) → put_out T S i birth time s ≡ record_of T S i birth time s
  unfolding put_out
  sink_writes e birth time s = choose_true _ _ _ (eq-eqb _ _ e)

  pub others_write_none : (flag_at T (input_owner T S i) ≡ sink → ⊥) → (birth time : ℕ) (s : List ℕ) → put_out T S i birth time s ≡ []
  unfolding put_out
  others_write_none e birth time s = choose_false _ _ _ (ne_eqb _ _ e)

-- a record has its head and eight values at most
pub record_most : (T : List ℕ) (S : Shape) (i : ℕ) → Good T S → record_size T S i ≤ 48
unfolding record_size speaks
record_most T S i g = let h = g.eight of_input i in omega arith

-- and so has what is written
pub put_out_most : (T : List ℕ) (S : Shape) (i birth time : ℕ) (s : List ℕ) → Good T S → length (put_out T S i birth time s) ≤ 48
unfolding put_out
put_out_most T S i birth time s g =
    by_choose (λ (x : List ℕ). length x ≤ 48) (eqb (flag_at T (input_owner T S i)) sink) (record_of T S i birth time s) []
    (λ _. rw (record_length T S i birth time s) (record_most T S i g)) (λ _. omega arith)
