-- "A reader takes the starting store and the trace and shows the store's chart states and values after any frame. What it shows after the last frame of a move
-- equals what the machine held then."
use Rattle.std.specs.Prelude.{◌≡◌, length}
use Rattle.std.proofs.Math.Path.{refl, sym, ap}
use Rattle.std.proofs.Common.{◌∙◌, eq-or-lt_of_le, le_of_suc-le-suc}
use mathlib.Core.List.{List, [], ◌++◌, append-nil, append_assoc}
use Rattle.std.proofs.Math.Logic.{⊎_elim}
use Prim.Native.Nat.{ℕ, zero, suc, ◌≤◌}
use native.Mathlib.Omega.{arith}
use Rattle.rules_tables.specs.Frame.{Table}
use Rattle.rules_tables.specs.declared.Shape.{Shape}
use Rattle.rules_store.specs.Layout.{need}
use Rattle.rules_store.specs.Word.{Store, now_of}
use Rattle.rules_store.specs.Formed.{Formed}
use Rattle.rules_moves.specs.Next.{next_of, move_by, move}
use Rattle.rules_calls.specs.Run.{after}
use Rattle.rules_log.specs.Log.{empty, run_log}
use Rattle.rules_log.specs.Origin.{as_found}
use Rattle.laws_log.specs.Goes.{Goes}
use Rattle.laws_log.proofs.laws.Goes.{goes_now}
use Rattle.laws_log.proofs.laws.Holds.{found_holds}
use Rattle.laws_log.proofs.laws.Moves.{run_goes}
use Rattle.rules_traces.specs.declared.Entry.{Entry}
use Rattle.rules_traces.specs.Entry.{entry_lines}
use Rattle.rules_traces.proofs.laws.Entry.{lines_append}
use Rattle.rules_traces.specs.Trace.{entries_by, entries_of}
use Rattle.rules_traces.specs.Run.{entries_after}
use Rattle.rules_traces.specs.Reader.{shown_of, ended_by}
use Rattle.laws_traces.specs.Each.{Each, none}
use Rattle.laws_traces.specs.Fits.{Right}
use Rattle.rules_traces.specs.Traceable.{Traceable}
use Rattle.laws_traces.specs.Wide.{Wide}
use Rattle.laws_traces.specs.Shows.{show_all, Alike, Reads}
use Rattle.laws_traces.proofs.laws.Each.{each_append}
use Rattle.laws_traces.proofs.laws.Applied.{show_append, between_long, between_alike}
use Rattle.laws_traces.proofs.laws.Readable.{entries_right}
use Rattle.laws_traces.proofs.laws.Wide.{move_wide}
use Rattle.laws_traces.proofs.laws.Reading.{reads, shows, reads_all, all_ended, not_ended}

module _ (T : Table) (S : Shape) (k : Traceable T S) (s : Store) (f : Formed T S s) (w : Wide S s) where
  -- the store after n moves, and the frames of these moves
  abbrev moved : ℕ → Store
  moved n = after T S (now_of s) n s

  abbrev entries : ℕ → List Entry
  entries n = entries_after T S (now_of s) n s

  -- ---- each store of the run is well formed, has the same now, and variables of 32 bits
  goes : (n : ℕ) → Goes T S (as_found S s) s (run_log T S (now_of s) n s empty) (moved n)
  goes n = run_goes T S (as_found S s) k.is_lawful s empty n (found_holds T S s f)

  pub moved_formed : (n : ℕ) → Formed T S (moved n)
  moved_formed n = (goes n).holds.formed

  moved_now : (n : ℕ) → now_of (moved n) ≡ now_of s
  moved_now n = goes_now T S (as_found S s) k.is_lawful s (run_log T S (now_of s) n s empty) (moved n) (goes n)

  pub moved_wide : (n : ℕ) → Wide S (moved n)
  unfolding after
  moved_wide zero = w
  moved_wide (suc n) = move_wide T S k.is_lawful (moved n) (moved_formed n) (now_of s) (moved_now n) (moved_wide n)

  -- ---- so the reader takes each frame
  pub moved_right : (n : ℕ) → Each (Right T S) (entries n)
  unfolding entries_after after move
  moved_right zero = none
  moved_right (suc n) = each_append (Right T S) (moved_right n) (entries_right T S k (moved n) (moved_formed n) (now_of s) (moved_formed (suc n)) (moved_wide (suc n)))

  -- ---- and these frames, shown one after another, show what the machine holds
  record Showing (n : ℕ) : Type 0 where
    pub long : need S ≤ length (show_all S (entries n) s)
    pub alike : Alike S (show_all S (entries n) s) (moved n)

  one_more : (n : ℕ) → Showing n → Showing (suc n)
  unfolding entries_after after move entries_of entries_by
  one_more n h =
      let a = entries n in
      let x = moved n in
      let next = next_of T S x in
      let x' = move_by T S (now_of s) next x in
      let b = entries_of T S (now_of s) x in
      let e = show_append S a b s in
      let p = between_long T S k.roles next x x' (show_all S a s) h.long h.alike in
      record { long = rw e (let q = h.long in omega arith); alike = rw e (between_alike T S k.roles next x x' (show_all S a s) h.long h.alike) }

  all_shown : (n : ℕ) → Showing n
  unfolding entries_after after show_all
  all_shown zero = record { long = f.parts.long; alike = record { charts = λ el l. refl; values = λ v l. refl } }
  all_shown (suc n) = one_more n (all_shown n)

  -- ---- the frames of m moves begin those of n
  record Begins (m n : ℕ) : Type 0 where
    pub rest : List Entry
    pub is : entries n ≡ entries m ++ rest

  begins : (m n : ℕ) → m ≤ n → Begins m n
  unfolding entries_after
  begins m zero l = let e : m ≡ 0 = omega arith in rw e (record { rest = []; is = refl })
  begins m (suc n) l =
      ⊎_elim (λ e. rw e (record { rest = []; is = sym (append-nil (entries (suc n))) }))
      (λ lt.
      let b = begins m n (le_of_suc-le-suc lt) in
      let es = entries_of T S (now_of s) (moved n) in
      record { rest = b.rest ++ es; is = ap (λ (a : List Entry). a ++ es) b.is ∙ append_assoc (entries m) b.rest es }) (eq-or-lt_of_le l)

  -- ---- what is shown after the last frame of each move
  module _ (n : ℕ) where
    abbrev text : List ℕ
    text = entry_lines (entries n)

    pub after_each : (m : ℕ) → m ≤ n → Reads T S text (length (entries m)) s (moved m)
    after_each m l =
        let b = begins m n l in
        let a = entries m in
        let e = ap entry_lines b.is ∙ lines_append a b.rest in
        rw e
        (record {
          read = reads T S a (entry_lines b.rest) (moved_right m) (length a) (omega arith);
          not_ended = not_ended (entry_lines a ++ entry_lines b.rest) (length a);
          alike = rw (shows T S a (entry_lines b.rest) (moved_right m) s) (all_shown m).alike;
        })

    -- the whole trace, however many frames are asked for: no line ends the reading
    pub after_all : (frames : ℕ) → length (entries n) ≤ frames → (shown_of T S text frames ≡ length (entries n)) × (ended_by text frames (length (entries n)) ≡ 0)
    after_all frames l = (reads_all T S (entries n) (moved_right n) frames l, all_ended T S (entries n) (moved_right n) frames l)
