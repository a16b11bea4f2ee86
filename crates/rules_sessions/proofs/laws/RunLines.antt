-- A run's bytes taken apart are its records: each move that writes one prints one line, in the order of the moves.
use Rattle.std.specs.Prelude.{◌≡◌, ◌⊎◌, eqb, length, take, drop}
use Rattle.std.proofs.Math.Path.{refl, sym, ap}
use Rattle.std.proofs.Common.{◌∙◌, subst, add_assoc, length-append, le-leb}
use mathlib.Core.List.{List, [], ◌∷◌, ◌++◌, append_assoc, append-nil}
use Rattle.std.proofs.Math.Logic.{inl, inr}
use Prim.Native.Nat.{ℕ, zero, suc, ◌+◌, ◌*◌, ◌≤◌}
use native.Mathlib.Omega.{arith}
use Rattle.std.proofs.Math.ListN.{get_or, get_or-append}
use Rattle.std.proofs.Math.Seq.{get_or-append-add, drop-append_seam, take-append_seam}
use Rattle.std.proofs.lemmas.Bool.{lt-leb}
use Rattle.rules_walks.proofs.laws.Choose.{choose_true, choose_false, by_choose}
use Rattle.rules_numbers.specs.Bytes.{half_at, half_bytes, word_bytes}
use Rattle.rules_tables.specs.Kind.{sink}
use Rattle.rules_tables.specs.Frame.{flag_at}
use Rattle.rules_tables.specs.declared.Shape.{Shape}
use Rattle.rules_store.specs.Word.{birth_of}
use Rattle.rules_moves.specs.Partner.{input_owner}
use Rattle.rules_moves.specs.Record.{head, record_of, record_size, put_out}
use Rattle.rules_moves.proofs.laws.Record.{record_length}
use Rattle.rules_moves.specs.declared.Next.{Next}
use Rattle.rules_moves.specs.declared.Next.TheVariants.{Take, Change, Idle, Step, End, Back, Nothing}
use Rattle.rules_moves.specs.Next.{next_of, written_by, written}
use Rattle.rules_calls.specs.Run.{after, bytes}
use Rattle.rules_sessions.specs.Text.{line_of, line_if}
use Rattle.rules_sessions.specs.RecordLines.{record_lines}
use Rattle.rules_sessions.specs.RunLines.{IsRecord, Records, none, more, line_by, run_lines}

-- one record more at the end
records_snoc : {size : ℕ → ℕ} {R B L : List ℕ} → Records size B L → IsRecord size R → Records size (B ++ R) (L ++ line_of R)
records_snoc {size} {R} none r = subst (λ (x : List ℕ). Records size x (line_of R)) (append-nil R) (subst (λ (y : List ℕ). Records size (R ++ []) y) (append-nil (line_of R)) (more r none))
records_snoc {size} {R} (more {R = Q} {B = B} {L = L} q w) r =
    subst (λ (x : List ℕ). Records size x ((line_of Q ++ L) ++ line_of R)) (sym (append_assoc Q B R))
    (subst (λ (y : List ℕ). Records size (Q ++ (B ++ R)) y) (sym (append_assoc (line_of Q) L (line_of R))) (more q (records_snoc w r)))

-- ---- bytes that are records are taken apart into just these lines
module _ (size : ℕ → ℕ) (least : (i : ℕ) → 16 ≤ size i) where
  -- the number at place 2 of a record that lies after P
  half_after : (P R B : List ℕ) → 16 ≤ length R → half_at (P ++ (R ++ B)) (length P + 2) ≡ half_at R 2
  unfolding half_at
  half_after P R B h =
      let a : get_or (P ++ (R ++ B)) (length P + 2) 0 ≡ get_or R 2 0 = get_or-append-add P (R ++ B) 2 0 ∙ get_or-append R B 0 2 (omega arith) in
      let b : get_or (P ++ (R ++ B)) (length P + 3) 0 ≡ get_or R 3 0 = get_or-append-add P (R ++ B) 3 0 ∙ get_or-append R B 0 3 (omega arith) in
      let c : get_or (P ++ (R ++ B)) (length P + 2 + 1) 0 ≡ get_or R 3 0 = rw (add_assoc (length P) 2 1) b in
      λ t. a t * 256 + c t

  one_line : (X : List ℕ) (p z k : ℕ) → size (half_at X (p + 2)) ≡ z → p + z ≤ length X → record_lines size X p (suc k) ≡ line_of (take z (drop p X)) ++ record_lines size X (p + z) k
  unfolding record_lines
  one_line X p z k e h = rw e (choose_true _ _ _ (le-leb (p + z) (length X) h))

  no_line : (X : List ℕ) (p k : ℕ) → length X ≤ p → record_lines size X p k ≡ []
  unfolding record_lines
  no_line X p zero h = refl
  no_line X p (suc k) h = let l = least (half_at X (p + 2)) in choose_false _ _ _ (lt-leb (p + size (half_at X (p + 2))) (length X) (omega arith))

  split_from : (P : List ℕ) {B L : List ℕ} (k : ℕ) → Records size B L → length B ≤ k → record_lines size (P ++ B) (length P) k ≡ L
  split_from P k none l = no_line (P ++ []) (length P) k (omega (arith, length-append {A = ℕ} P []))
  split_from P zero (more {R = R} {B = B} r w) l = absurd (let h = r.some in let a = length-append R B in omega arith)
  split_from P (suc k) (more {R = R} {B = B} {L = L} r w) l =
      let h = r.some in
      let a = length-append R B in
      let b = length-append P (R ++ B) in
      let first = one_line (P ++ (R ++ B)) (length P) (length R) k (ap size (half_after P R B r.some) ∙ r.long) (omega arith) in
      let this : take (length R) (drop (length P) (P ++ (R ++ B))) ≡ R = ap (take (length R)) (drop-append_seam P (R ++ B)) ∙ take-append_seam R B in
      let moved : record_lines size ((P ++ R) ++ B) (length (P ++ R)) k ≡ record_lines size (P ++ (R ++ B)) (length P + length R) k = λ t. record_lines size (append_assoc P R B t) (length-append P R t) k in
      let rest : record_lines size (P ++ (R ++ B)) (length P + length R) k ≡ L = sym moved ∙ split_from (P ++ R) k w (omega arith) in
      first ∙ (λ t. line_of (this t) ++ rest t)

  pub split_records : {B L : List ℕ} → Records size B L → record_lines size B 0 (length B) ≡ L
  split_records {B} w = split_from [] (length B) w (omega arith)

-- ---- a record says how long it is
module _ (T : List ℕ) (S : Shape) where
  named : (i birth time : ℕ) (s : List ℕ) → half_at (record_of T S i birth time s) 2 ≡ i
  unfolding half_at record_of head half_bytes word_bytes
  named i birth time s = omega arith

  is_record : (i birth time : ℕ) (s : List ℕ) → IsRecord (record_size T S) (record_of T S i birth time s)
  unfolding record_size
  is_record i birth time s =
      let e = record_length T S i birth time s in
      record { long = ap (record_size T S) (named i birth time s) ∙ sym e; some = omega arith }

  pub least_size : (i : ℕ) → 16 ≤ record_size T S i
  unfolding record_size
  least_size i = omega arith

  -- what a move writes is nothing, or a record
  writes_record : (time : ℕ) (next : Next) (s : List ℕ) → (written_by T S time next s ≡ []) ⊎ IsRecord (record_size T S) (written_by T S time next s)
  unfolding written_by put_out
  writes_record time (Take i) s =
      by_choose (λ (W : List ℕ). (W ≡ []) ⊎ IsRecord (record_size T S) W) (eqb (flag_at T (input_owner T S i)) sink) (record_of T S i (birth_of S s i) time s) []
      (λ _. inr (is_record i (birth_of S s i) time s)) (λ _. inl refl)
  writes_record time (Change j) s = inl refl
  writes_record time Idle s = inl refl
  writes_record time (Step j) s = inl refl
  writes_record time (End j) s = inl refl
  writes_record time Back s = inl refl
  writes_record time Nothing s = inl refl

  some_line : (W : List ℕ) → 16 ≤ length W → line_if W ≡ line_of W
  unfolding line_if
  some_line [] h = absurd (omega arith)
  some_line (b ∷ bs) h = refl

  move_record : (time : ℕ) (next : Next) (s B L : List ℕ) → Records (record_size T S) B L → Records (record_size T S) (B ++ written_by T S time next s) (L ++ line_by T S time next s)
  unfolding line_by line_if
  move_record time next s B L w = by (written_by T S time next s) (writes_record time next s)
    where
      by : (W : List ℕ) → (W ≡ []) ⊎ IsRecord (record_size T S) W → Records (record_size T S) (B ++ W) (L ++ line_if W)
      by W (inl e) = rw (e, append-nil B, append-nil L) w
      by W (inr r) = rw (some_line W r.some) (records_snoc w r)

  run_records : (time n : ℕ) (s : List ℕ) → Records (record_size T S) (bytes T S time n s) (run_lines T S time n s)
  unfolding bytes run_lines written
  run_records time zero s = none
  run_records time (suc n) s = move_record time (next_of T S (after T S time n s)) (after T S time n s) (bytes T S time n s) (run_lines T S time n s) (run_records time n s)

  -- what the program prints before the answer of a run of n moves
  pub split_run : (time n : ℕ) (s : List ℕ) → record_lines (record_size T S) (bytes T S time n s) 0 (length (bytes T S time n s)) ≡ run_lines T S time n s
  split_run time n s = split_records (record_size T S) least_size (run_records time n s)
