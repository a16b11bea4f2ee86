-- "ended by 0A, the last perhaps not": without the last 0A the lines of frames read the same.
use Rattle.std.specs.Prelude.{◌≡◌, false, ℕ, ◌+◌, ◌*◌, ◌≤◌, ◌<◌, eqb, ltb, get_or}
use Rattle.std.proofs.Math.Path.{sym, ap}
use Rattle.std.proofs.Common.{◌∙◌, arith, length-append}
use mathlib.Core.List.{List, [], ◌∷◌, ◌++◌, append-nil}
use Rattle.std.proofs.Math.Bool.{true}
use Rattle.std.proofs.Math.Logic.{⊎_elim}
use Rattle.std.proofs.Math.ListN.{length, take, drop, length-drop, get_or-append}
use Rattle.std.proofs.Math.Seq.{take-append-le}
use Rattle.std.proofs.lemmas.List.{drop-append-le}
use borrow.Author.Tests.{lt-ltb, le-ltb, eq-eqb}
use Rattle.rules_walks.specs.Pick.{both, either}
use Rattle.rules_walks.proofs.laws.Pick.{both_left, both_right, both_false, either_true, tri}
use Rattle.rules_walks.proofs.laws.Walk.{up_to_same}
use Rattle.rules_walks.proofs.laws.Held.{held_is}
use Rattle.rules_tables.specs.Frame.{Table}
use Rattle.rules_tables.specs.declared.Shape.{Shape}
use Rattle.rules_store.specs.Word.{Store}
use Rattle.rules_sessions.specs.Line.{all_digits, line_frame}
use Rattle.rules_traces.specs.declared.Entry.{Entry}
use Rattle.rules_traces.specs.Entry.{entry_lines}
use Rattle.rules_traces.proofs.laws.Entry.{lines_length}
use Rattle.rules_traces.specs.Reader.{line_at, another_line, ended_at, whole_line, entry_in, right_frame, known_entry, entry_at, readable, shown_of, ended_by, show_entry, shown_after}
use Rattle.laws_traces.specs.Each.{Each}
use Rattle.laws_traces.specs.Fits.{Right}
use Rattle.laws_traces.proofs.laws.RoundTrip.{end_is}
use Rattle.laws_traces.proofs.laws.Reading.{alone_at}

module _ (es : List Entry) (text : List ℕ) (cut : text ++ (10 ∷ []) ≡ entry_lines es) where
  long : length text + 1 ≡ 25 * length es
  long = let a = length-append text (10 ∷ []) in let b = lines_length es in let c = ap length cut in omega arith

  -- ---- a line is the same, and ended by 0A or by the text's end
  module _ (k : ℕ) (l : k < length es) where
    line_same : line_at text k ≡ line_at (entry_lines es) k
    unfolding line_at
    line_same =
        let d = drop (25 * k) text in
        let q = long in
        let n = length-drop (25 * k) text in
        sym
        (ap (λ (t : List ℕ). take 24 (drop (25 * k) t)) (sym cut) ∙ ap (take 24) (drop-append-le (25 * k) text (10 ∷ []) (omega arith))
        ∙ take-append-le 24 d (10 ∷ []) (omega arith))

    ended_same : ended_at text (25 * k + 24) ≡ true
    unfolding ended_at
    ended_same = ⊎_elim (λ h. inside h) (λ w. at_end (⊎_elim (λ e. e) (λ g. absurd (let q = long in omega arith)) w)) (tri (25 * k + 24) (length text))
      where
        at_end : 25 * k + 24 ≡ length text → either (eqb (length text) (25 * k + 24)) (eqb (get_or text (25 * k + 24) 0) 10) ≡ true
        at_end e = rw (eq-eqb (length text) (25 * k + 24) (sym e))

        inside : 25 * k + 24 < length text → either (eqb (length text) (25 * k + 24)) (eqb (get_or text (25 * k + 24) 0) 10) ≡ true
        inside h =
            let p = sym (get_or-append text (10 ∷ []) 0 (25 * k + 24) h) ∙ ap (λ (t : List ℕ). get_or t (25 * k + 24) 0) (cut ∙ sym (append-nil (entry_lines es))) ∙ end_is [] es k l in
            rw (eq-eqb (get_or text (25 * k + 24) 0) 10 p) (either_true (eqb (length text) (25 * k + 24)))

    entry_same : entry_at text k ≡ entry_at (entry_lines es) k
    unfolding entry_at
    entry_same = ap (λ (L : List ℕ). entry_in (line_frame L)) line_same

    there : another_line text k ≡ true
    unfolding another_line
    there = let q = long in lt-ltb (25 * k) (length text) (omega arith)

    readable_same : (T : Table) (S : Shape) → readable T S (entry_lines es) k ≡ true → readable T S text k ≡ true
    unfolding readable whole_line
    readable_same T S h =
        let L = line_at (entry_lines es) k in
        let more = both (right_frame (line_frame L)) (known_entry T S (entry_at (entry_lines es) k)) in
        let digits = both (all_digits L) (ended_at (entry_lines es) (25 * k + 24)) in
        let whole = both (eqb (length L) 24) digits in
        let r = both_right (another_line (entry_lines es) k) (both whole more) h in
        let m = both_right whole more r in
        let a = both_left whole more r in
        let a₁ = both_left (eqb (length L) 24) digits a in
        let a₂ = both_left (all_digits L) (ended_at (entry_lines es) (25 * k + 24)) (both_right (eqb (length L) 24) digits a) in
        rw (there, line_same, entry_same, a₁, a₂, ended_same) m

  no_more : another_line text (length es) ≡ false
  unfolding another_line
  no_more = let q = long in le-ltb (25 * length es) (length text) (omega arith)

  stops : (T : Table) (S : Shape) → readable T S text (length es) ≡ false
  unfolding readable
  stops T S = rw no_more

  -- ---- so it is read as far, and shows the same
  pub without_end : (T : Table) (S : Shape) → Each (Right T S) es → (frames : ℕ) → length es ≤ frames → (x : Store)
      → (shown_of T S text frames ≡ length es) × (ended_by text frames (length es) ≡ 0) × (shown_after S text (length es) x ≡ shown_after S (entry_lines es) (length es) x)
  unfolding shown_of ended_by shown_after
  without_end T S right frames enough x = (
    sym
        (held_is (readable T S text) frames (length es)
        (record { within = enough; before = λ k l. readable_same k l T S (alone_at T S es right frames enough k l); stopped = λ _. stops T S })),
    rw (no_more, both_false (ltb (length es) frames)),
    up_to_same (λ (k : ℕ) (y : Store). show_entry S (entry_at text k) y) (λ (k : ℕ) (y : Store). show_entry S (entry_at (entry_lines es) k) y) (length es) x
        (λ k l y. ap (λ (e : Entry). show_entry S e y) (entry_same k l)),
  )
