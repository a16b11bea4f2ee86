-- Reading the lines of frames that the reader takes: it reads all of them, and shows them one after another. And whatever text is read, only chart states and
-- values are shown.
use Rattle.std.specs.Prelude.{◌≡◌, refl, List, [], ◌∷◌, ◌++◌, true, false, eqb, ltb, length, get_or}
use Rattle.std.proofs.Math.Path.{sym, ap}
use Rattle.std.proofs.Common.{◌∙◌, append-nil, arith}
use Prim.Native.Nat.{ℕ, zero, suc, ◌≤◌, ◌<◌}
use borrow.Author.Tests.{ltb-true, le-ltb, eqb-false}
use Rattle.rules_walks.specs.Pick.{both}
use Rattle.rules_walks.proofs.laws.Pick.{both_left, both_right, both_false, clash}
use Rattle.rules_walks.proofs.laws.Choose.{by_choose}
use Rattle.rules_walks.specs.All.{all_to}
use Rattle.rules_walks.proofs.laws.All.{all_at, all_intro}
use Rattle.rules_walks.specs.Walk.{up_to}
use Rattle.rules_walks.proofs.laws.Walk.{up_to_same, up_to_keeps}
use Rattle.rules_walks.proofs.laws.Held.{held_all, held_end, held_is}
use Rattle.rules_tables.specs.Kind.{input, output, internal}
use Rattle.rules_tables.specs.Frame.{Table, flag_at}
use Rattle.rules_tables.specs.declared.Shape.{Shape}
use Rattle.rules_tables.specs.Ids.{elements, variables, variable_frame}
use Rattle.rules_store.specs.Word.{Store, put_chart_state, put_value}
use Rattle.rules_store.specs.Part.{Leaves}
use Rattle.rules_store.proofs.laws.Part.{leaves_all, leaves_then}
use Rattle.rules_store.proofs.laws.Writer.{leaves_chart, leaves_value}
use Rattle.rules_moves.specs.Partner.{variable_owner}
use Rattle.rules_traces.specs.declared.Entry.{Entry}
use Rattle.rules_traces.specs.Kinds.{chart_kind, started_kind}
use Rattle.rules_traces.specs.Entry.{entry, entry_lines}
use Rattle.rules_traces.specs.Reader.{another_line, whole_line, right_frame, of_variable, right_kind, known_entry, frame_at, entry_at, readable, shown_of, ended_by, show_entry, shown_after}
use Rattle.laws_traces.specs.Each.{Each, no_entry}
use Rattle.laws_traces.specs.Fits.{Right}
use Rattle.laws_traces.specs.Shows.{show_all, shown_parts}
use Rattle.laws_traces.proofs.laws.Each.{each_at}
use Rattle.laws_traces.proofs.laws.RoundTrip.{entry_is, line_readable, no_line}

-- ---- a walk from its first step on
walk_first : (f : ℕ → Store → Store) (n : ℕ) (x : Store) → up_to f (suc n) x ≡ up_to (λ (k : ℕ). f (suc k)) n (f 0 x)
unfolding up_to
walk_first f zero x = refl
walk_first f (suc n) x = ap (f (suc n)) (walk_first f n x)

show_walk : (S : Shape) (es : List Entry) (x : Store) → up_to (λ (k : ℕ) (y : Store). show_entry S (get_or es k no_entry) y) (length es) x ≡ show_all S es x
unfolding up_to show_all
show_walk S [] x = refl
show_walk S (e ∷ es) x = walk_first (λ (k : ℕ) (y : Store). show_entry S (get_or (e ∷ es) k no_entry) y) (length es) x ∙ show_walk S es (show_entry S e x)

module _ (T : Table) (S : Shape) where
  -- ---- these lines, whatever follows them
  module _ (es : List Entry) (rest : List ℕ) (right : Each (Right T S) es) where
    readable_at : (k : ℕ) → k < length es → readable T S (entry_lines es ++ rest) k ≡ true
    readable_at k l = let w = each_at (Right T S) right k l in line_readable rest es k l w.fits T S w.known

    pub reads : (n : ℕ) → n ≤ length es → shown_of T S (entry_lines es ++ rest) n ≡ n
    unfolding shown_of
    reads n l =
        let p = readable T S (entry_lines es ++ rest) in
        sym (held_end p n (all_intro p n (λ i q. readable_at i (omega arith))))

    pub shows : (x : Store) → shown_after S (entry_lines es ++ rest) (length es) x ≡ show_all S es x
    unfolding shown_after
    shows x =
        up_to_same (λ (k : ℕ) (y : Store). show_entry S (entry_at (entry_lines es ++ rest) k) y) (λ (k : ℕ) (y : Store). show_entry S (get_or es k no_entry) y) (length es) x
        (λ k l y. ap (λ (e : Entry). show_entry S e y) (entry_is rest es k l (each_at (Right T S) right k l).fits))
        ∙ show_walk S es x

  -- ---- these lines and no more: there is no line behind them
  module _ (es : List Entry) (right : Each (Right T S) es) (frames : ℕ) (enough : length es ≤ frames) where
    stops : readable T S (entry_lines es) (length es) ≡ false
    unfolding readable
    stops = rw (no_line es (length es) (omega arith))

    pub alone_at : (k : ℕ) → k < length es → readable T S (entry_lines es) k ≡ true
    alone_at k l = rw (append-nil (entry_lines es)) at (readable_at es [] right k l)

    pub reads_all : shown_of T S (entry_lines es) frames ≡ length es
    unfolding shown_of
    reads_all = sym (held_is (readable T S (entry_lines es)) frames (length es) (record { within = enough; before = alone_at; stopped = λ _. stops }))

    pub all_ended : ended_by (entry_lines es) frames (length es) ≡ 0
    unfolding ended_by
    all_ended = rw (no_line es (length es) (omega arith), both_false (ltb (length es) frames))

-- so many lines end no reading of so many
pub not_ended : (text : List ℕ) (n : ℕ) → ended_by text n n ≡ 0
unfolding ended_by
not_ended text n = rw (le-ltb n n (omega arith))

-- ---- what any text shows
module _ (T : Table) (S : Shape) where
  of_variable_lem : (role : ℕ) (e : Entry) → of_variable T S role e ≡ true → e.id < variables S
  unfolding of_variable
  of_variable_lem role e h = ltb-true e.id (variables S) (both_left (ltb e.id (variables S)) (both (eqb (variable_owner T S e.id) e.block) (eqb (flag_at T (variable_frame S e.id)) role)) h)

  -- a frame of kind 1 to 3 that the reader takes names a variable
  names_variable : (kind block id n : ℕ) → right_kind T S (entry kind block id n) ≡ true → (kind ≡ 0 → ⊥) → kind < 4 → id < variables S
  unfolding right_kind
  names_variable zero block id n h k l = absurd (k refl)
  names_variable (suc zero) block id n h k l = of_variable_lem internal (entry 1 block id n) h
  names_variable (suc (suc zero)) block id n h k l = of_variable_lem input (entry 2 block id n) h
  names_variable (suc (suc (suc zero))) block id n h k l = of_variable_lem output (entry 3 block id n) h
  names_variable (suc (suc (suc (suc kind)))) block id n h k l = absurd (omega arith)

  entry_leaves : (e : Entry) (x : Store) → known_entry T S e ≡ true → Leaves T S shown_parts x (show_entry S e x)
  unfolding show_entry known_entry
  entry_leaves e x h =
      let b = ltb-true e.block (elements S) (both_left (ltb e.block (elements S)) (right_kind T S e) h) in
      let r = both_right (ltb e.block (elements S)) (right_kind T S e) h in
      by_choose (Leaves T S shown_parts x) (eqb e.kind chart_kind) (put_chart_state e.block e.value x) _ (λ _. leaves_chart T S shown_parts x e.block e.value b refl)
      (λ n.
      by_choose (Leaves T S shown_parts x) (ltb e.kind started_kind) (put_value S e.id e.value x) x
      (λ l.
      let v = names_variable e.kind e.block e.id e.value r (eqb-false e.kind 0 n) (ltb-true e.kind 4 l) in
      leaves_value T S shown_parts x e.id e.value v (λ z. clash (sym z)) (λ z. clash (sym z)))
      (λ _. leaves_all T S shown_parts x))

  pub shown_leaves : (text : List ℕ) (n : ℕ) (s : Store) → all_to (readable T S text) n ≡ true → Leaves T S shown_parts s (shown_after S text n s)
  unfolding shown_after readable
  shown_leaves text n s h =
      up_to_keeps (Leaves T S shown_parts s) (λ (k : ℕ) (x : Store). show_entry S (entry_at text k) x) n s
      (λ k l x w.
      let a = all_at (readable T S text) n k l h in
      let b = both_right (another_line text k) (both (whole_line text k) (both (right_frame (frame_at text k)) (known_entry T S (entry_at text k)))) a in
      let c = both_right (whole_line text k) (both (right_frame (frame_at text k)) (known_entry T S (entry_at text k))) b in
      let d = both_right (right_frame (frame_at text k)) (known_entry T S (entry_at text k)) c in
      leaves_then T S shown_parts s x (show_entry S (entry_at text k) x) (entry_leaves (entry_at text k) x d) w)
      (leaves_all T S shown_parts s)

  -- so for the frames that it reads
  pub reader_leaves : (text : List ℕ) (frames : ℕ) (s : Store) → Leaves T S shown_parts s (shown_after S text (shown_of T S text frames) s)
  unfolding shown_of
  reader_leaves text frames s = shown_leaves text (shown_of T S text frames) s (held_all (readable T S text) frames (shown_of T S text frames) refl)
