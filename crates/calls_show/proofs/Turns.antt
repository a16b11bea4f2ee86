-- What each way through the reader leaves, over plain variables.
use mathlib.Core.Path.{◌≡◌, refl, sym, ap, ◌∙◌}
use mathlib.Core.List.{List}
use mathlib.Core.Bool.{Bool, true, false, not}
use Prim.Native.Nat.{ℕ, ◌+◌, ◌*◌, ◌≤◌, ◌<◌}
use native.Mathlib.Omega.{arith}
use lib.ListN.{length}
use borrow.Author.Tests.{eq-eqb, ne_eqb, lt-ltb, le-ltb, not-true, not-false}
use Rattle.rules_walks.specs.Pick.{pick, both}
use Rattle.rules_walks.proofs.laws.Pick.{both3}
use Rattle.rules_walks.proofs.laws.Choose.{choose_true, choose_false}
use Rattle.rules_walks.proofs.laws.Walk.{up_to_more}
use Rattle.rules_walks.specs.All.{all_to}
use Rattle.rules_walks.proofs.laws.Held.{held_stop, held_end}
use Rattle.rules_numbers.specs.Bytes.{word_at}
use Rattle.rules_tables.specs.Frame.{Table, field_at}
use Rattle.rules_tables.specs.declared.Shape.{Shape}
use Rattle.rules_store.specs.Word.{Store, put_chart_state, put_value}
use Rattle.rules_sessions.specs.Command.{long_at}
use Rattle.rules_traces.specs.declared.Entry.{Entry}
use Rattle.rules_traces.specs.Reader.{another_line, whole_line, frame_at, entry_in, right_frame, known_entry, entry_at, readable, shown_of, show_entry, shown_after}
use Rattle.std.specs.Prelude.{Option, Some, None}
use Rattle.calls_show.specs.Said.{Says}
use Rattle.calls_show.proofs.Lines.{whole_long}

-- the value of a frame lies at byte 6
pub value_at : (F : List ℕ) → word_at F 6 ≡ long_at F 2
unfolding word_at long_at field_at
value_at F = refl

-- ---- what a line says, in the order of the tests
module _ (T : Table) (S : Shape) (text : List ℕ) (k : ℕ) where
  nothing : readable T S text k ≡ false → Says T S text k None
  nothing e = record { is = rw e; narrow = tt }

  module _ {a : Bool} (there : a ≡ another_line text k) where
    pub said_none : not a ≡ true → Says T S text k None
    unfolding readable
    said_none n = nothing (rw (← there, not-true a n))

    module _ (is-there : not a ≡ false) {b : Bool} (whole : b ≡ whole_line text k) where
      pub said_broken : not b ≡ true → Says T S text k None
      unfolding readable
      said_broken n = nothing (rw (← there, not-false a is-there, ← whole, not-true b n))

      module _ (is_whole : not b ≡ false) {F : List ℕ} (frame : F ≡ frame_at text k) {d : Bool} (right : d ≡ right_frame F) where
        pub said_wrong : not d ≡ true → Says T S text k None
        unfolding readable
        said_wrong n = nothing (rw (← there, not-false a is-there, ← whole, not-false b is_whole, ← frame, ← right, not-true d n))

        module _ (is_right : not d ≡ false) {e : Entry} (entry : (e ≡ entry_in F) × (e.block < 65536) × (e.id < 65536)) {g : Bool} (known : g ≡ known_entry T S e) where
          tells : entry_at text k ≡ e
          unfolding entry_at
          tells = sym (entry.0 ∙ ap entry_in frame)

          reads : readable T S text k ≡ g
          unfolding readable
          reads = rw (tells, ← there, not-false a is-there, ← whole, not-false b is_whole, ← frame, ← right, not-false d is_right) (sym known)

          pub said_unknown : g ≡ false → Says T S text k None
          said_unknown n = nothing (reads ∙ n)

          pub said_known : g ≡ true → Says T S text k (Some e)
          said_known n = record { is = rw (reads ∙ n, tells); narrow = (entry.1, entry.2) }

-- ---- what was said
readable_whole : (T : Table) (S : Shape) (text : List ℕ) (k : ℕ) → readable T S text k ≡ true → whole_line text k ≡ true
unfolding readable
readable_whole T S text k e =
    (both3 (another_line text k) (whole_line text k) (both (right_frame (frame_at text k)) (known_entry T S (entry_at text k))) e).1

module _ (T : Table) (S : Shape) (text : List ℕ) (k : ℕ) where
  told : (b : Bool) (x e : Entry) → Some e ≡ pick b (Some x) None → (b ≡ true) × (e ≡ x)
  told true x e q = (refl, cc)
  told false x e q = absurd (let z : ◌≡◌ {A = ℕ} 0 1 = cc in omega arith)

  untold : (b : Bool) (x : Entry) → None ≡ pick b (Some x) None → b ≡ false
  untold true x q = absurd (let z : ◌≡◌ {A = ℕ} 0 1 = cc in omega arith)
  untold false x q = refl

  module _ {r : Option Entry} (said : Says T S text k r) where
    pub says_nothing : r ≡ None → readable T S text k ≡ false
    says_nothing e = untold (readable T S text k) (entry_at text k) (sym e ∙ said.is)

    module _ {e : Entry} (known : r ≡ Some e) where
      pub says_readable : readable T S text k ≡ true
      says_readable = (told (readable T S text k) (entry_at text k) e (sym known ∙ said.is)).0

      says_entry : e ≡ entry_at text k
      says_entry = (told (readable T S text k) (entry_at text k) e (sym known ∙ said.is)).1

      pub says_narrow : (e.block < 65536) × (e.id < 65536)
      says_narrow = rw known at said.narrow

      -- the next line lies at most one past the text's end
      pub says_on : 25 * (k + 1) ≤ length text + 1
      says_on = let l = whole_long text k whole in omega arith
        where
          whole : whole_line text k ≡ true
          whole = readable_whole T S text k says_readable

      pub shown_more : (s₀ s s' : Store) → s ≡ shown_after S text k s₀ → s' ≡ show_entry S e s → s' ≡ shown_after S text (k + 1) s₀
      unfolding shown_after
      shown_more s₀ s s' p q = up_to_more _ k s₀ s s' p (q ∙ ap (λ (x : Entry). show_entry S x s) says_entry)

-- ---- an entry shown
module _ (S : Shape) (e : Entry) (s : Store) where
  pub show_chart : {s' : Store} → e.kind ≡ 0 → s' ≡ put_chart_state e.block e.value s → s' ≡ show_entry S e s
  unfolding show_entry
  show_chart k u = u ∙ sym (choose_true _ _ _ (eq-eqb e.kind 0 k))

  pub show_value : {s' : Store} → (e.kind ≡ 0 → ⊥) → e.kind < 4 → s' ≡ put_value S e.id e.value s → s' ≡ show_entry S e s
  unfolding show_entry
  show_value n l u = u ∙ sym (choose_false _ _ _ (ne_eqb e.kind 0 n) ∙ choose_true _ _ _ (lt-ltb e.kind 4 l))

  pub show_none : (e.kind ≡ 0 → ⊥) → 4 ≤ e.kind → s ≡ show_entry S e s
  unfolding show_entry
  show_none n l = sym (choose_false _ _ _ (ne_eqb e.kind 0 n) ∙ choose_false _ _ _ (le-ltb e.kind 4 l))

-- ---- how many were read: all that were asked for, or as far as a line could be
module _ (T : Table) (S : Shape) (text : List ℕ) (frames n : ℕ) (read : all_to (readable T S text) n ≡ true) where
  pub all_shown : n ≤ frames → frames ≤ n → n ≡ shown_of T S text frames
  unfolding shown_of
  all_shown l h = let e : n ≡ frames = omega arith in e ∙ held_end (readable T S text) frames (rw e at read)

  pub some_shown : n < frames → readable T S text n ≡ false → n ≡ shown_of T S text frames
  unfolding shown_of
  some_shown l e = held_stop (readable T S text) frames n l read e
