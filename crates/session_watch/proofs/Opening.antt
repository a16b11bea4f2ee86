-- The session that a line is judged in stands for the stage that it is judged in.
use mathlib.Core.Path.{◌≡◌, sym, ap, ◌∙◌, subst}
use mathlib.Core.List.{List}
use mathlib.Core.Bool.{true, false}
use Prim.Native.Nat.{ℕ, ◌≤◌}
use lib.ListN.{length}
use Rattle.rules_walks.proofs.laws.Choose.{choose_true, choose_false}
use Rattle.rules_walks.proofs.laws.Pick.{clash}
use Rattle.rules_sessions.specs.Line.{opens}
use Rattle.rules_sessions.specs.Session.{Stage, tabled, calling, awaiting, halted, load_deed}
use Rattle.session_dialogue.specs.declared.session.Session.{Session}
use Rattle.session_dialogue.specs.Standing.{Tabled, Stands, Took}
use Rattle.session_watch.specs.Asked.{is_table, opened_stage}

module _ (L : List ℕ) (s : Session) (t st W : List ℕ) where
  -- the table is still to come, and the line ends it
  pub opened_load : {r : Session} {st' text text' : List ℕ} → is_table s.phase ≡ true → opens L ≡ true
      → ((T W : List ℕ) → Tabled T s.end t → 255 ≤ length W → Took (load_deed T st) s r t st' W text text')
      → (g : Stage) → Stands g s t st W → Stands (opened_stage g L) r t st' W
  opened_load {r} {st'} p o k (tabled T s₀) w =
      subst (λ (g : Stage). Stands g r t st' W) (ap (λ (x : List ℕ). (load_deed T x).stage) w.store_is ∙ sym (choose_true (opens L) (load_deed T s₀).stage (tabled T s₀) o))
      (k T W w.table_is w.room).stands
  opened_load p o k (calling T s₀) w = clash (sym (ap is_table w.phase_is) ∙ p)
  opened_load p o k (awaiting T s₀ n event birth vs) w = clash (sym (ap is_table w.phase_is) ∙ p)
  opened_load p o k halted w = clash (sym (ap is_table w) ∙ p)

  -- it does not end it
  pub opened_not : opens L ≡ false → (g : Stage) → Stands g s t st W → Stands (opened_stage g L) s t st W
  opened_not o (tabled T s₀) w = subst (λ (g : Stage). Stands g s t st W) (sym (choose_false (opens L) (load_deed T s₀).stage (tabled T s₀) o)) w
  opened_not o (calling T s₀) w = w
  opened_not o (awaiting T s₀ n event birth vs) w = w
  opened_not o halted w = w

  -- it has come
  pub opened_past : is_table s.phase ≡ false → (g : Stage) → Stands g s t st W → Stands (opened_stage g L) s t st W
  opened_past p (tabled T s₀) w = clash (sym p ∙ ap is_table w.phase_is)
  opened_past p (calling T s₀) w = w
  opened_past p (awaiting T s₀ n event birth vs) w = w
  opened_past p halted w = w
