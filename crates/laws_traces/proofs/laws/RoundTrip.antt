-- The lines of frames, read, give these frames again, whatever follows them. A digit is read as it was written; the rest is where each stands.
use Rattle.std.specs.Prelude.{◌≡◌, Bool, ℕ, zero, suc, ◌+◌, ◌*◌, ◌-◌, ◌/◌, ◌%◌, ◌≤◌, ◌<◌, eqb, leb, length, get_or, take, drop}
use Rattle.std.proofs.Math.Path.{refl, ap}
use Rattle.std.proofs.Common.{◌∙◌, not-suc-le-zero, arith, take-suc, take_all, get_or-append-add}
use mathlib.Core.List.{List, [], ◌∷◌, ◌++◌, append_assoc}
use Rattle.std.proofs.Math.Bool.{true, false}
use Rattle.std.proofs.Math.Dec.{ltb}
use Rattle.std.proofs.Math.ListN.{length-append}
use Rattle.std.proofs.Math.Seq.{take_at, drop-append-add}
use Rattle.std.proofs.lemmas.List.{get_or_at}
use borrow.Author.Tests.{ltb-true, ltb-false, lt-ltb, le-ltb, le-leb, lt-leb, eq-eqb}
use Rattle.rules_walks.specs.Pick.{pick, both}
use Rattle.rules_walks.proofs.laws.Pick.{either_true}
use Rattle.rules_walks.proofs.laws.All.{all_intro}
use Rattle.rules_numbers.specs.Bytes.{half_at, half_bytes, word_bytes}
use Rattle.rules_tables.specs.Frame.{Table, kind_at, flag_at, field_at}
use Rattle.rules_tables.specs.declared.Shape.{Shape}
use Rattle.rules_sessions.specs.Line.{is_digit, digit_value, all_digits, byte_of, bytes_to, line_frame}
use Rattle.rules_sessions.specs.Text.{glyph, pair, digits, line_of}
use Rattle.rules_sessions.proofs.laws.Text.{digits_length}
use Rattle.rules_sessions.specs.Command.{long_at}
use Rattle.rules_traces.specs.declared.Entry.{Entry}
use Rattle.rules_traces.specs.Entry.{entry, entry_frame, entry_lines}
use Rattle.rules_traces.proofs.laws.Entry.{frame_length, entry_line_length, lines_length}
use Rattle.rules_traces.specs.Reader.{line_at, another_line, ended_at, whole_line, entry_in, right_frame, known_entry, frame_at, entry_at, readable}
use Rattle.laws_traces.specs.Each.{no_entry}
use Rattle.laws_traces.specs.Fits.{Fits}

-- ---- a digit
low_digit : (c : ℕ) → 48 ≤ c → c ≤ 57 → is_digit c ≡ true
unfolding is_digit
low_digit c a b = rw (le-leb 48 c a, le-leb c 57 b)

high_digit : (c : ℕ) → 65 ≤ c → c ≤ 70 → is_digit c ≡ true
unfolding is_digit
high_digit c a b = rw (le-leb 65 c a, le-leb c 70 b, either_true (both (leb 48 c) (leb c 57)))

low_value : (c : ℕ) → c ≤ 57 → digit_value c ≡ c - 48
unfolding digit_value
low_value c a = rw (le-leb c 57 a)

high_value : (c : ℕ) → 57 < c → digit_value c ≡ c - 55
unfolding digit_value
high_value c a = rw (lt-leb c 57 a)

module _ (d : ℕ) (small : d < 16) where
  glyph_digit : is_digit (glyph d) ≡ true
  unfolding glyph
  glyph_digit = by (ltb d 10) refl
    where
      by : (b : Bool) → ltb d 10 ≡ b → is_digit (pick b (48 + d) (55 + d)) ≡ true
      by true e = let l = ltb-true d 10 e in low_digit (48 + d) (omega arith) (omega arith)
      by false e = let l = ltb-false d 10 e in high_digit (55 + d) (omega arith) (omega arith)

  glyph_back : digit_value (glyph d) ≡ d
  unfolding glyph
  glyph_back = by (ltb d 10) refl
    where
      by : (b : Bool) → ltb d 10 ≡ b → digit_value (pick b (48 + d) (55 + d)) ≡ d
      by true e = let l = ltb-true d 10 e in low_value (48 + d) (omega arith) ∙ (omega arith)
      by false e = let l = ltb-false d 10 e in high_value (55 + d) (omega arith) ∙ (omega arith)

-- ---- bytes
record AllBytes (B : List ℕ) : Type 0 where
  pub at : (k : ℕ) → get_or B k 0 < 256

bytes_none : AllBytes []
bytes_none = record { at = λ k. omega arith }

bytes_more : (b : ℕ) (B : List ℕ) → b < 256 → AllBytes B → AllBytes (b ∷ B)
bytes_more b B l h = record { at = by }
  where
    by : (k : ℕ) → get_or (b ∷ B) k 0 < 256
    by zero = l
    by (suc k) = h.at k

bytes_rest : (b : ℕ) (B : List ℕ) → AllBytes (b ∷ B) → AllBytes B
bytes_rest b B h = record { at = λ k. h.at (suc k) }

digit_at : (B : List ℕ) → AllBytes B → (i : ℕ) → is_digit (get_or (digits B) i 48) ≡ true
unfolding digits pair is_digit
digit_at [] h i = refl
digit_at (b ∷ B) h zero = glyph_digit (b / 16) (let l = h.at 0 in omega arith)
digit_at (b ∷ B) h (suc zero) = glyph_digit (b % 16) (omega arith)
digit_at (b ∷ B) h (suc (suc i)) = digit_at B (bytes_rest b B h) i

byte_at : (B : List ℕ) → AllBytes B → (k : ℕ) → k < length B → byte_of (digits B) k ≡ get_or B k 0
unfolding digits pair byte_of
byte_at [] h k l = absurd (not-suc-le-zero l)
byte_at (b ∷ B) h zero l = rw (glyph_back (b / 16) (let q = h.at 0 in omega arith), glyph_back (b % 16) (omega arith)) (omega arith)
byte_at (b ∷ B) h (suc k) l =
    let L = glyph (b / 16) ∷ glyph (b % 16) ∷ digits B in
    let p : 2 * suc k ≡ suc (suc (2 * k)) = omega arith in
    let q : 2 * suc k + 1 ≡ suc (suc (2 * k + 1)) = omega arith in
    (λ t. digit_value (get_or L (p t) 48) * 16 + digit_value (get_or L (q t) 48)) ∙ byte_at B (bytes_rest b B h) k (omega arith)

bytes_back : (B : List ℕ) → AllBytes B → (n : ℕ) → n ≤ length B → bytes_to (digits B) n ≡ take n B
unfolding bytes_to
bytes_back B h zero l = refl
bytes_back B h (suc n) l = rw (take-suc B n 0 (omega arith), bytes_back B h n (omega arith), byte_at B h n (omega arith))

-- ---- a frame
module _ (e : Entry) (fits : Fits e) where
  frame_bytes : AllBytes (entry_frame e)
  unfolding entry_frame half_bytes word_bytes
  frame_bytes =
      let k = fits.kind in
      let b = fits.block in
      let i = fits.id in
      let v = fits.value in
      bytes_more _ _ (omega arith)
      (bytes_more _ _ k
      (bytes_more _ _ (omega arith)
      (bytes_more _ _ (omega arith)
      (bytes_more _ _ (omega arith)
      (bytes_more _ _ (omega arith)
      (bytes_more _ _ (omega arith)
      (bytes_more _ _ (omega arith)
      (bytes_more _ _ (omega arith) (bytes_more _ _ (omega arith) (bytes_more _ _ (omega arith) (bytes_more _ _ (omega arith) bytes_none)))))))))))

  pub frame_back : line_frame (digits (entry_frame e)) ≡ entry_frame e
  frame_back = let l = frame_length e in bytes_back (entry_frame e) frame_bytes 12 (omega arith) ∙ take_all 12 (entry_frame e) (omega arith)

  pub frame_digits : all_digits (digits (entry_frame e)) ≡ true
  unfolding all_digits
  frame_digits = all_intro (λ i. is_digit (get_or (digits (entry_frame e)) i 48)) (length (digits (entry_frame e))) (λ i _. digit_at (entry_frame e) frame_bytes i)

pub entry_back : (e : Entry) → entry_in (entry_frame e) ≡ e
unfolding entry_in entry_frame half_bytes word_bytes flag_at field_at half_at long_at
entry_back e =
    let p : e.block / 256 * 256 + e.block % 256 ≡ e.block = omega arith in
    let q : e.id / 256 * 256 + e.id % 256 ≡ e.id = omega arith in
    let v = e.value in
    let w : (v / 65536 / 256 * 256 + v / 65536 % 256) * 65536 + (v % 65536 / 256 * 256 + v % 65536 % 256) ≡ v = omega arith in
    λ t. entry e.kind (p t) (q t) (w t)

pub frame_right : (e : Entry) → right_frame (entry_frame e) ≡ true
unfolding right_frame entry_frame half_bytes word_bytes kind_at field_at half_at
frame_right e = refl

-- ---- lines
-- the first
module _ (e : Entry) (rest : List ℕ) where
  abbrev D : List ℕ
  D = digits (entry_frame e)

  -- digits, an end, the rest
  parts : line_of (entry_frame e) ++ rest ≡ D ++ 10 ∷ rest
  unfolding line_of
  parts = append_assoc D (10 ∷ []) rest

  many : length D ≡ 24
  many = digits_length (entry_frame e) ∙ (let l = frame_length e in omega arith)

  first_line : line_at (line_of (entry_frame e) ++ rest) 0 ≡ D
  unfolding line_at
  first_line = ap (take 24) parts ∙ take_at D (10 ∷ rest) 24 many

  first_end : get_or (line_of (entry_frame e) ++ rest) 24 0 ≡ 10
  first_end = ap (λ (l : List ℕ). get_or l 24 0) parts ∙ get_or_at D 10 rest 0 24 many

-- and the others
other_line : (A B : List ℕ) (k : ℕ) → length A ≡ 25 → line_at (A ++ B) (suc k) ≡ line_at B k
unfolding line_at
other_line A B k l = let p : 25 * suc k ≡ length A + 25 * k = omega arith in ap (λ (n : ℕ). take 24 (drop n (A ++ B))) p ∙ ap (take 24) (drop-append-add A B (25 * k))

other_end : (A B : List ℕ) (k : ℕ) → length A ≡ 25 → get_or (A ++ B) (25 * suc k + 24) 0 ≡ get_or B (25 * k + 24) 0
other_end A B k l = let p : 25 * suc k + 24 ≡ length A + (25 * k + 24) = omega arith in ap (λ (n : ℕ). get_or (A ++ B) n 0) p ∙ get_or-append-add A B (25 * k + 24) 0

module _ (rest : List ℕ) where
  split : (e : Entry) (es : List Entry) → entry_lines (e ∷ es) ++ rest ≡ line_of (entry_frame e) ++ (entry_lines es ++ rest)
  unfolding entry_lines
  split e es = append_assoc (line_of (entry_frame e)) (entry_lines es) rest

  line_is : (es : List Entry) (k : ℕ) → k < length es → line_at (entry_lines es ++ rest) k ≡ digits (entry_frame (get_or es k no_entry))
  line_is [] k l = absurd (not-suc-le-zero l)
  line_is (e ∷ es) zero l = ap (λ (t : List ℕ). line_at t 0) (split e es) ∙ first_line e (entry_lines es ++ rest)
  line_is (e ∷ es) (suc k) l =
      ap (λ (t : List ℕ). line_at t (suc k)) (split e es) ∙ other_line (line_of (entry_frame e)) (entry_lines es ++ rest) k (entry_line_length e) ∙ line_is es k (omega arith)

  pub end_is : (es : List Entry) (k : ℕ) → k < length es → get_or (entry_lines es ++ rest) (25 * k + 24) 0 ≡ 10
  end_is [] k l = absurd (not-suc-le-zero l)
  end_is (e ∷ es) zero l = ap (λ (t : List ℕ). get_or t 24 0) (split e es) ∙ first_end e (entry_lines es ++ rest)
  end_is (e ∷ es) (suc k) l =
      ap (λ (t : List ℕ). get_or t (25 * suc k + 24) 0) (split e es) ∙ other_end (line_of (entry_frame e)) (entry_lines es ++ rest) k (entry_line_length e) ∙ end_is es k (omega arith)

  -- ---- reading them
  module _ (es : List Entry) (k : ℕ) (l : k < length es) where
    abbrev text : List ℕ
    text = entry_lines es ++ rest

    abbrev e : Entry
    e = get_or es k no_entry

    pub line_there : another_line text k ≡ true
    unfolding another_line
    line_there = let a = length-append (entry_lines es) rest in let b = lines_length es in lt-ltb (25 * k) (length text) (omega arith)

    module _ (fits : Fits e) where
      pub line_whole : whole_line text k ≡ true
      unfolding whole_line ended_at
      line_whole =
          rw (line_is es k l, eq-eqb (length (digits (entry_frame e))) 24 (many e []), frame_digits e fits, end_is es k l, either_true (eqb (length text) (25 * k + 24)))

      pub frame_is : frame_at text k ≡ entry_frame e
      frame_is = ap line_frame (line_is es k l) ∙ frame_back e fits

      pub entry_is : entry_at text k ≡ e
      unfolding entry_at
      entry_is = ap entry_in frame_is ∙ entry_back e

      pub line_readable : (T : Table) (S : Shape) → known_entry T S e ≡ true → readable T S text k ≡ true
      unfolding readable
      line_readable T S known = rw (line_there, line_whole, frame_is, frame_right e, entry_is) known

-- past the last line of these, and with nothing behind it, there is none
pub no_line : (es : List Entry) (k : ℕ) → length es ≤ k → another_line (entry_lines es) k ≡ false
unfolding another_line
no_line es k l = let b = lines_length es in le-ltb (25 * k) (length (entry_lines es)) (omega arith)
