-- What each way through the traced run's call leaves, over plain variables.
use mathlib.Core.Path.{◌≡◌, refl}
use mathlib.Core.List.{List}
use Rattle.std.specs.Prelude.{Ok, Err}
use Rattle.std.proofs.Math.Logic.{⊎_elim}
use Prim.Native.Nat.{ℕ}
use borrow.Author.Tests.{ne_eqb}
use Rattle.rules_tables.specs.declared.Shape.{Shape}
use Rattle.rules_tables.specs.declared.Refusal.{Refusal}
use Rattle.rules_tables.specs.Judge.{judge, shape_of}
use Rattle.rules_tables.proofs.laws.Accepted.{accepted_means}
use Rattle.rules_traces.proofs.laws.Traceable.{traceable}
use Rattle.rules_tables.specs.Lawful.{Lawful}
use Rattle.table_index.specs.Index.{Owners}
use Rattle.table_index.proofs.laws.Owners.{owners}
use Rattle.rules_store.specs.Word.{now_of}
use Rattle.rules_store.specs.Formed.{Formed}
use Rattle.rules_calls.specs.declared.Outcome.TheVariants.{Ran as «RanTo»}
use Rattle.rules_calls.specs.Refusals.{store_refusal}
use Rattle.rules_calls.specs.Run.{after, bytes, untrue_in}
use Rattle.laws_calls.proofs.laws.Refusals.{store_formed}
use Rattle.rules_traces.specs.Run.{trace}
use Rattle.rules_traces.specs.Public.{TracedCall}
use Rattle.rules_traces.specs.Traceable.{Traceable}
use Rattle.calls_run.specs.declared.running.Ran.{Ran}
use Rattle.calls_run.specs.RunMade.{TracedMade}
use Rattle.calls.specs.Opening.{Refuses, Stands}

module _ (T s : List ℕ) (budget : ℕ) (out tr : List ℕ) where
  abbrev asks : ℕ
  asks = store_refusal T (shape_of T) s

  pub traced_stops : {r : Refusal} → Refuses (judge T) asks r → TracedCall T s budget out tr (record { answer = Err r; traced = 0 }) s out tr
  unfolding after bytes untrue_in trace
  traced_stops h =
      ⊎_elim
      (λ v.
      record {
        answer = rw v refl;
        tells = rw v (record { number_is = refl; frame_is = refl; moves_are = refl; bytes_are = refl; stop_is = refl; untrue_are = refl });
        traced = refl;
        store = refl;
        output = refl;
        trace_is = refl;
      })
      (λ w.
      rw w.1.is
      (record {
        answer = rw (w.0, ne_eqb asks 0 w.1.some) refl;
        tells = rw (w.0, ne_eqb asks 0 w.1.some) (record { number_is = refl; frame_is = refl; moves_are = refl; bytes_are = refl; stop_is = refl; untrue_are = refl });
        traced = refl;
        store = refl;
        output = refl;
        trace_is = refl;
      })) h

  pub traced_done : {T' : List ℕ} {S : Shape} → Stands T T' S → asks ≡ 0 → {time : ℕ} (x : Ran) {s' out' tr' : List ℕ} → time ≡ now_of s → TracedMade T' S time budget s out tr x s' out' tr'
      → TracedCall T s budget out tr (record { answer = Ok («RanTo» x.moves x.bytes x.stop x.untrue); traced = x.traced }) s' out' tr'
  traced_done k z x {s'} {out'} {tr'} t d =
      let w : TracedMade T (shape_of T) (now_of s) budget s out tr x s' out' tr' = rw (k.table, k.shape, t) at d in
      record {
        answer = rw (k.sound, z, ← w.moves_made, ← w.bytes_written, ← w.stopped, ← w.untrue_made) refl;
        tells = rw (k.sound, z, ← w.moves_made, ← w.bytes_written, ← w.stopped, ← w.untrue_made) (record { number_is = refl; frame_is = refl; moves_are = refl; bytes_are = refl; stop_is = refl; untrue_are = refl });
        traced = w.trace_written;
        store = w.store_after;
        output = w.out_after;
        trace_is = w.trace_after;
      }

-- ---- no refusal: the table is traceable
module _ (T : List ℕ) {T' : List ℕ} {S : Shape} (k : Stands T T' S) where
  pub ready_traceable : Traceable T' S
  ready_traceable = rw (k.table, k.shape) (traceable T (accepted_means T k.sound))

  -- and has an index
  pub ready_lawful : Lawful T' S
  ready_lawful = ready_traceable.is_lawful

  pub ready_owners : Owners T' S
  ready_owners = rw (k.table, k.shape) (owners T (accepted_means T k.sound))

  -- and the store is well formed for it
  pub ready_formed : (s : List ℕ) → store_refusal T (shape_of T) s ≡ 0 → Formed T' S s
  ready_formed s z = rw (k.table, k.shape) (store_formed T (shape_of T) s z)
