-- Laws: a digit counts less than 16, so a line's bytes are bytes, and an arrival has at most 255 values.
use Rattle.std.specs.Prelude.{◌≡◌, List, Bool, true, false, ◌⊎◌, ℕ, ◌+◌, ◌*◌, ◌-◌, ◌%◌, ◌≤◌, ◌<◌, eqb, leb, get_or}
use Rattle.std.proofs.Math.Path.{refl, ap}
use Rattle.std.proofs.Math.Logic.{⊎_elim}
use native.Mathlib.Omega.{arith}
use Rattle.std.proofs.Math.ListN.{length, get_or-eq_default}
use Rattle.std.proofs.Common.{leb-true, leb-false}
use Rattle.std.proofs.lemmas.Bool.{lt-leb}
use Rattle.rules_walks.specs.Pick.{pick, both}
use Rattle.rules_walks.proofs.laws.Pick.{both_right, both_false, either_else, by_test, tri}
use Rattle.rules_walks.proofs.laws.All.{all_at}
use Rattle.rules_tables.specs.Frame.{kind_at, flag_at, field_at}
use Rattle.rules_sessions.specs.declared.Command.{Command}
use Rattle.rules_sessions.specs.declared.Command.TheVariants.{Wrong, Advance, Arrival, Value, Run}
use Rattle.rules_sessions.specs.Line.{is_digit, digit_value, all_digits, line_ok, byte_of, bytes_to, line_frame}
use Rattle.rules_sessions.specs.Command.{long_at, last_clear, plain, advance_of, arrival_of, value_of, run_of, command_by, command_of, line_command}

pub digit_small : (c : ℕ) → is_digit c ≡ true → digit_value c < 16
unfolding is_digit digit_value
digit_small c e = by_test (λ (v : ℕ). v < 16) (leb c 57) (c - 48) (c - 55) (λ h. let l = leb-true c 57 h in omega arith) (λ h. high (leb-false c 57 h))
  where
    high : 57 < c → c - 55 < 16
    high h =
        let f : both (leb 48 c) (leb c 57) ≡ false = rw (lt-leb c 57 h, both_false (leb 48 c)) refl in
        let g = both_right (leb 65 c) (leb c 70) (either_else (both (leb 48 c) (leb c 57)) (both (leb 65 c) (leb c 70)) e f) in
        let l = leb-true c 70 g in
        omega arith

-- ---- a line of the form
module _ (L : List ℕ) where
  -- each of its characters is a digit, and so is each zero past its end
  pub all_digits_at : line_ok L ≡ true → (i : ℕ) → is_digit (get_or L i 48) ≡ true
  unfolding line_ok all_digits is_digit
  all_digits_at e i =
      let p = both_right (leb 2 (length L)) _ e in
      let q = both_right (leb (length L) 24) _ p in
      let r = both_right (eqb (length L % 2) 0) _ q in
      ⊎_elim (λ l. all_at (λ j. is_digit (get_or L j 48)) (length L) i l r)
      (λ g. ap is_digit (get_or-eq_default L 48 {n = i} (past g))) (tri i (length L))
    where
      past : (i ≡ length L) ⊎ (length L < i) → length L ≤ i
      past g = ⊎_elim (λ q. omega arith) (λ l. omega arith) g

  pub byte_small : line_ok L ≡ true → (k : ℕ) → byte_of L k < 256
  unfolding byte_of
  byte_small e k =
      let h = digit_small (get_or L (2 * k) 48) (all_digits_at e (2 * k)) in
      let l = digit_small (get_or L (2 * k + 1) 48) (all_digits_at e (2 * k + 1)) in
      omega arith

  pub frame_length : length (line_frame L) ≡ 12
  unfolding bytes_to
  frame_length = refl

  flag_byte : flag_at (line_frame L) 0 ≡ byte_of L 1
  unfolding flag_at bytes_to
  flag_byte = refl

-- ---- how many values an arrival waits for
abbrev values_of : Command → ℕ
values_of Wrong = 0
values_of (Advance t) = 0
values_of (Arrival n o b) = n
values_of (Value v) = 0
values_of (Run b) = 0

abbrev Few : Command → Type 0
Few c = values_of c < 256

few_pick : (t : Bool) (c d : Command) → Few c → Few d → Few (pick t c d)
few_pick true c d p q = p
few_pick false c d p q = q

module _ (F : List ℕ) where
  advance_few : Few (advance_of F)
  unfolding advance_of
  advance_few = few_pick (plain F) (Advance (long_at F 0)) Wrong (omega arith) (omega arith)

  own_few : flag_at F 0 < 256 → Few (arrival_of F)
  unfolding arrival_of
  own_few l = few_pick (last_clear F) (Arrival (flag_at F 0) (field_at F 0 0) (long_at F 1)) Wrong l (omega arith)

  value_few : Few (value_of F)
  unfolding value_of
  value_few =
      few_pick (both (eqb (flag_at F 0) 0) (both (eqb (field_at F 0 0) 0) (last_clear F))) (Value (long_at F 1)) Wrong (omega arith) (omega arith)

  run_few : Few (run_of F)
  unfolding run_of
  run_few = few_pick (plain F) (Run (long_at F 0)) Wrong (omega arith) (omega arith)

  frame_few : (k : ℕ) → flag_at F 0 < 256 → Few (command_by k F)
  frame_few k l =
      few_pick (eqb k 128) (advance_of F) _ advance_few
      (few_pick (eqb k 129) (arrival_of F) _ (own_few l)
      (few_pick (eqb k 130) (value_of F) _ value_few (few_pick (eqb k 131) (run_of F) Wrong run_few (omega arith))))

line_few : (L : List ℕ) → Few (line_command L)
unfolding line_command command_of
line_few L =
    by_test Few (line_ok L) (command_of (line_frame L)) Wrong (λ e. frame_few (line_frame L) (kind_at (line_frame L) 0) (rw (flag_byte L) (byte_small L e 1)))
    (λ _. omega arith)

pub arrival_few : (L : List ℕ) {n o b : ℕ} → line_command L ≡ Arrival n o b → n ≤ 255
arrival_few L {n} e = let q : values_of (line_command L) ≡ n = ap values_of e in let l = line_few L in omega arith
