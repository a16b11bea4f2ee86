-- What a run puts out are the records of the events that sinks took, each with the birth of its chain.
use Rattle.std.specs.Prelude.{◌≡◌}
use Rattle.std.proofs.Math.Path.{refl, sym, ap}
use Rattle.std.proofs.Common.{◌∙◌}
use mathlib.Core.List.{List, ◌++◌, append-nil, append_assoc}
use Prim.Native.Nat.{ℕ, zero, suc}
use Rattle.rules_walks.specs.First.{Sought, one, missing}
use Rattle.rules_tables.specs.declared.Shape.{Shape}
use Rattle.rules_store.specs.Word.{now_of, running_of, birth_of}
use Rattle.rules_moves.specs.Take.{settled, fired_by}
use Rattle.rules_moves.specs.Record.{put_out}
use Rattle.rules_moves.specs.declared.Next.{Next}
use Rattle.rules_moves.specs.declared.Next.TheVariants.{Take, Change, Idle, Step, End, Back, Nothing}
use Rattle.rules_moves.specs.Act.{event_of}
use Rattle.rules_moves.specs.Next.{next_of, written_by, written}
use Rattle.rules_moves.specs.Means.{Means}
use Rattle.rules_moves.proofs.laws.Next.{next_means}
use Rattle.rules_calls.specs.Run.{after, bytes}
use Rattle.rules_tables.specs.Lawful.{Lawful}
use Rattle.rules_log.specs.Log.{How, goes_on, takes, Log, more, fire_log, move_log, run_log}
use Rattle.rules_log.specs.Origin.{born, birth_in, Begun, waits, origin, records_of}
use Rattle.laws_log.specs.Holds.{Holds}
use Rattle.laws_log.specs.Goes.{Goes}
use Rattle.laws_log.proofs.laws.Goes.{goes_now}
use Rattle.laws_log.proofs.laws.Taken.{flag}
use Rattle.laws_log.proofs.laws.Moves.{run_goes}

module _ (T : List ℕ) (S : Shape) (B : Begun) where
  -- firing puts nothing out
  fire_records : (q : Sought) (how : How) (s : List ℕ) (l : Log) → records_of T S B (fire_log q how s l) ≡ records_of T S B l
  unfolding records_of fire_log
  fire_records (one o) how s l = refl
  fire_records missing how s l = refl

  -- taking puts out the record, if the element is a sink
  take_records : (i t : ℕ) (s : List ℕ) (l : Log) → now_of s ≡ t → born (birth_of S s i) ≡ origin T S B l (waits i)
      → records_of T S B (more l (takes i s)) ≡ records_of T S B l ++ put_out T S i (birth_of S s i) t s
  unfolding records_of
  take_records i t s l n e = let e' = ap birth_in (sym e) in λ x. records_of T S B l ++ put_out T S i (e' x) (n x) s

  module _ (k : Lawful T S) (s₀ : List ℕ) (l : Log) (s : List ℕ) (g : Goes T S B s₀ l s) (t : ℕ) (n : now_of s ≡ t) where
    -- one move, by what comes next
    by_next : (m : Next) → Means T S (running_of s) s m → records_of T S B (move_log T S t m s l) ≡ records_of T S B l ++ written_by T S t m s
    unfolding written_by move_log
    by_next (Take i) w =
        fire_records (fired_by T S i) goes_on (settled T S i t s) (more l (takes i s))
        ∙ take_records i t s l n (g.holds.births.waiting_born i w.1.inside (flag T S B k s₀ l s g t n w.0 i w.1))
    by_next (Change j) w = sym (append-nil (records_of T S B l))
    by_next Idle w = sym (append-nil (records_of T S B l))
    by_next (Step j) w = sym (append-nil (records_of T S B l))
    by_next (End j) w = fire_records (event_of T S j) goes_on s l ∙ sym (append-nil (records_of T S B l))
    by_next Back w = sym (append-nil (records_of T S B l))
    by_next Nothing w = sym (append-nil (records_of T S B l))

    move_records : records_of T S B (move_log T S t (next_of T S s) s l) ≡ records_of T S B l ++ written T S t s
    unfolding written next_of
    move_records = by_next (next_of T S s) (next_means T S (running_of s) s)

  -- and any number of them
  pub run_records : (k : Lawful T S) (s : List ℕ) (l : Log) (n : ℕ) → Holds T S B l s → records_of T S B (run_log T S (now_of s) n s l) ≡ records_of T S B l ++ bytes T S (now_of s) n s
  unfolding run_log bytes
  run_records k s l zero h = sym (append-nil (records_of T S B l))
  run_records k s l (suc n) h =
      let l' = run_log T S (now_of s) n s l in
      let x = after T S (now_of s) n s in
      let g = run_goes T S B k s l n h in
      move_records k s l' x g (now_of s) (goes_now T S B k s l' x g) ∙ ap (λ (y : List ℕ). y ++ written T S (now_of s) x) (run_records k s l n h)
      ∙ append_assoc (records_of T S B l) (bytes T S (now_of s) n s) (written T S (now_of s) x)
