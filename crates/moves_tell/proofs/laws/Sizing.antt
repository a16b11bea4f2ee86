-- All frames of a move: those of kinds 0 to 8, then its numbers. They have room in the most that a move has.
use Rattle.std.specs.Prelude.{ℕ, ◌+◌, ◌≤◌, ◌≡◌, true, leb, length}
use Rattle.std.proofs.Common.{sym, ◌∙◌, arith, le-leb}
use Rattle.std.proofs.Math.Path.{ap}
use mathlib.Core.List.{List, ◌++◌}
use Rattle.rules_tables.specs.declared.Shape.{Shape}
use Rattle.rules_store.specs.declared.Running.{Running}
use Rattle.rules_store.specs.Word.{running_of}
use Rattle.rules_moves.specs.Chart.{element_of}
use Rattle.rules_moves.specs.declared.Next.{Next}
use Rattle.rules_moves.specs.Next.{move_by}
use Rattle.rules_traces.specs.declared.Entry.{Entry}
use Rattle.rules_traces.specs.Entry.{entry_frames}
use Rattle.rules_traces.specs.Trace.{number_changes, first_entries, entries_between, entries_by}
use Rattle.moves_tell.specs.Before.{numbers_by}
use Rattle.moves_tell.specs.Told.{Told, Sized, Room}
use Rattle.moves_tell.specs.Telling.{Telling}
use Rattle.moves_tell.proofs.laws.Told.{frames_both, frames_length, room_first, room_rest, room_same, told_then, told_same}
use Rattle.moves_tell.proofs.laws.Most.{most, numbers_by_lem}

module _ (T : List ℕ) (S : Shape) (time : ℕ) (r : Running) (n : Next) (s : List ℕ) (w : Telling T S time r n s) where
  abbrev first : List Entry
  first = first_entries T S n s (move_by T S time n s)

  abbrev last : List ℕ → List Entry
  last s' = numbers_by T S n s'

  -- the frames of a move in two parts
  whole : entries_by T S time n s ≡ first ++ last (move_by T S time n s)
  unfolding entries_by entries_between
  whole = ap (λ (x : Running). first ++ number_changes (element_of s) x (running_of (move_by T S time n s))) (sym w.running_is) ∙ ap (λ (x : List Entry). first ++ x) (numbers_by_lem T S time r n s w)

  -- ---- room for all is room for both; s' is the store after the move
  module _ (at : ℕ) (tr : List ℕ) where
    pub first_room : Room (entries_by T S time n s) at tr → Room first at tr
    first_room h = room_first first (last (move_by T S time n s)) at tr (room_same whole h)

    pub last_room : {s' : List ℕ} {p : ℕ} {tr' : List ℕ} → s' ≡ move_by T S time n s → Room (entries_by T S time n s) at tr → Told first at tr tr' p → Room (last s') p tr'
    last_room e h d = room_same (ap last (sym e)) (room_rest first (last (move_by T S time n s)) at tr (room_same whole h) d)

    pub all_told : {s' : List ℕ} {p z : ℕ} {tr' tr'' : List ℕ} → s' ≡ move_by T S time n s → Told first at tr tr' p → Told (last s') p tr' tr'' z → Told (entries_by T S time n s) at tr tr'' z
    all_told e d c = told_same (sym whole) (told_then first (last (move_by T S time n s)) at tr d (told_same (ap last e) c))

  -- ---- the most
  pub few_bytes : length (entry_frames (entries_by T S time n s)) ≤ 240
  few_bytes = let h = most T S time r n s w in let q = frames_length (entries_by T S time n s) in omega arith

  pub fits_most : (room : ℕ) → 240 ≤ room → true ≡ leb (length (entry_frames (entries_by T S time n s))) room
  fits_most room l = sym (le-leb _ room (let h = few_bytes in omega arith))

  -- the bytes of the first, and those of the last
  pub size_all : {y z : ℕ} → Sized first y → z ≡ length (entry_frames (last (move_by T S time n s))) → y + z ≡ length (entry_frames (entries_by T S time n s))
  size_all d c =
      let a = d.size_is in
      let b = ap (λ (x : List Entry). length (entry_frames x)) whole ∙ frames_both first (last (move_by T S time n s)) in
      omega arith
