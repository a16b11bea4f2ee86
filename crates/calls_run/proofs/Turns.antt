-- What each way through advance and arrival leaves, over plain variables.
use mathlib.Core.Path.{◌≡◌, refl, sym, ◌∙◌}
use mathlib.Core.List.{List}
use mathlib.Core.Bool.{Bool, true, false}
use mathlib.Core.Logic.{inl, inr, ⊎_elim}
use Prim.Native.Nat.{ℕ, ◌<◌}
use native.Mathlib.Omega.{arith}
use lib.Dec.{eqb, ltb}
use lib.ListN.{get_or}
use borrow.Author.Tests.{eqb-true, ltb-true}
use Rattle.rules_walks.specs.Pick.{either}
use Rattle.rules_walks.proofs.laws.Pick.{both_right, either_cases}
use Rattle.rules_walks.proofs.laws.Choose.{choose_true, choose_false}
use Rattle.rules_walks.specs.Count.{count_if}
use Rattle.rules_walks.proofs.laws.Count.{count_same}
use Rattle.rules_walks.specs.First.{Sought, one, missing}
use Rattle.rules_walks.proofs.laws.First.{first_in}
use Rattle.rules_tables.specs.Kind.{source, of_output}
use Rattle.rules_tables.specs.Frame.{flag_at, field_at}
use Rattle.rules_tables.specs.declared.Shape.{Shape}
use Rattle.rules_tables.specs.Ids.{first_output, first_association, elements, outputs, associations, association_frame}
use Rattle.rules_tables.specs.Lawful.{Lawful}
use Rattle.rules_store.specs.Word.{next_due, put_now, put_value}
use Rattle.rules_store.specs.Part.{time, count, input, buffered, just, also}
use Rattle.rules_store.proofs.laws.Writer.{leaves_now}
use Rattle.rules_store.proofs.laws.PutDue.{put_keeps, leaves_keeps}
use Rattle.rules_store.specs.Due.{due_at, put_due}
use Rattle.rules_store.specs.Earliest.{NextKept}
use Rattle.std.specs.Prelude.{Option, Some, None}
use Rattle.rules_tables.specs.Owned.{any, belongs, rank, is_nth, nth}
use Rattle.table_parts.specs.Found.{found_of}
use Rattle.table_parts.proofs.laws.Found.{found_one, found_missing}
use Rattle.rules_moves.specs.Partner.{output_owner}
use Rattle.rules_moves.proofs.laws.Partner.{own_voice}
use Rattle.rules_moves.specs.Carry.{voice, voice_of, speaks}
use Rattle.moves_fire.proofs.laws.Carrying.{speaks_belongs}
use Rattle.table_index.specs.Leads.{Leads}
use Rattle.table_index.proofs.laws.Leads.{leads_same}
use Rattle.rules_moves.specs.Fire.{fire}
use Rattle.rules_moves.specs.Take.{fire_found}
use Rattle.rules_moves.proofs.laws.Firing.{fire_leaves}
use Rattle.rules_calls.specs.Calls.{expired, expire, advanced, give, of_source}
use Rattle.rules_calls.proofs.laws.Due.{advanced_idle}

module _ (T : List ℕ) (S : Shape) (t el : ℕ) (s s' : List ℕ) where
  pub expire_due : {b : Bool} → b ≡ due_at s t el → b ≡ true → s' ≡ expired T S t el s → s' ≡ expire T S t el s
  unfolding expire
  expire_due p q u = rw (choose_true _ _ _ (sym p ∙ q)) u

  pub expire_not : {b : Bool} → b ≡ due_at s t el → b ≡ false → s' ≡ s → s' ≡ expire T S t el s
  unfolding expire
  expire_not p q u = rw (choose_false _ _ _ (sym p ∙ q)) u

  module _ {n : ℕ} (many : n ≡ outputs S) {f : Option ℕ} (found : f ≡ found_of (nth T (first_output S) n any el 0)) where
    pub output_missing : f ≡ None → s' ≡ put_due S el 0 0 s → s' ≡ expired T S t el s
    unfolding expired fire_found
    output_missing m u = let e : nth T (first_output S) (outputs S) any el 0 ≡ missing = rw many at (found_missing (nth T (first_output S) n any el 0) _ found m) in rw e u

    pub output_fired : (o : ℕ) {s₁ : List ℕ} → f ≡ Some o → s₁ ≡ fire T S o t t s → s' ≡ put_due S el 0 0 s₁ → s' ≡ expired T S t el s
    unfolding expired fire_found
    output_fired o m p u =
        let e : nth T (first_output S) (outputs S) any el 0 ≡ one o = rw many at (found_one (nth T (first_output S) n any el 0) _ o found m) in rw (e, ← p) u

pub output_known : (T : List ℕ) (S : Shape) (el n o : ℕ) {f : Option ℕ} → n ≡ outputs S → f ≡ found_of (nth T (first_output S) n any el 0) → f ≡ Some o → o < outputs S
output_known T S el n o e p m = let h = first_in (is_nth T (first_output S) any el 0) 0 n o (found_one (nth T (first_output S) n any el 0) _ o p m) in omega arith

-- ---- the next due time: firing leaves it, and so does now
pub fired_kept : (T : List ℕ) (S : Shape) (o t : ℕ) (s : List ℕ) {s₁ : List ℕ} → Lawful T S → NextKept S s → s₁ ≡ fire T S o t t s → NextKept S s₁
fired_kept T S o t s k n p =
    let f = also count (also input (just buffered)) in
    rw p (leaves_keeps T S f s (fire T S o t t s) (fire_leaves T S k f refl refl refl o t t s) refl n)

pub timed_kept : (T : List ℕ) (S : Shape) (t : ℕ) (s : List ℕ) {s₁ : List ℕ} → NextKept S s → s₁ ≡ put_now t s → NextKept S s₁
timed_kept T S t s n p = rw p (leaves_keeps T S (just time) s (put_now t s) (leaves_now T S (just time) s t refl) refl n)

found_kept : (T : List ℕ) (S : Shape) → Lawful T S → (s : List ℕ) → NextKept S s → (q : Sought) (t : ℕ) → NextKept S (fire_found T S q t t s)
unfolding fire_found
found_kept T S k s n (one o) t = fired_kept T S o t s k n refl
found_kept T S k s n missing t = n

pub expired_kept : (T : List ℕ) (S : Shape) (t el : ℕ) (s : List ℕ) {s₁ : List ℕ} → Lawful T S → el < elements S → NextKept S s → s₁ ≡ expired T S t el s → NextKept S s₁
unfolding expired
expired_kept T S t el s k l n p = rw p (put_keeps S _ (found_kept T S k s n (nth T (first_output S) (outputs S) any el 0) t).long el 0 0 l)

-- an advance that reaches nothing that is due
pub nothing_due : (T : List ℕ) (S : Shape) (t : ℕ) (s : List ℕ) {b : Bool} {s' : List ℕ} → NextKept S s → b ≡ either (eqb (next_due s).due 0) (ltb t (next_due s).time) → b ≡ true → s' ≡ put_now t s
    → s' ≡ advanced T S t s
nothing_due T S t s k e q u =
    rw (advanced_idle S s k T t (⊎_elim (λ z. inl (eqb-true _ _ z)) (λ z. inr (ltb-true _ _ z)) (either_cases (eqb (next_due s).due 0) (ltb t (next_due s).time) (sym e ∙ q)))) u

-- an association that speaks, and the others, which do nothing
pub give_one : (T : List ℕ) (S : Shape) (o : ℕ) (vs : List ℕ) (j : ℕ) (s s' : List ℕ) {v k : ℕ} → speaks T S (voice of_output o) j ≡ true → v ≡ field_at T (association_frame S j) 1
    → k ≡ count_if (speaks T S (voice of_output o)) j → s' ≡ put_value S v (get_or vs k 0) s → s' ≡ give T S o vs j s
unfolding give
give_one T S o vs j s s' q r a u = rw (choose_true _ _ _ q, ← r, ← a) u

pub give_idle : (T : List ℕ) (S : Shape) (o : ℕ) (vs : List ℕ) (j : ℕ) → speaks T S (voice of_output o) j ≡ false → (s : List ℕ) → give T S o vs j s ≡ s
unfolding give
give_idle T S o vs j e s = choose_false _ _ _ e

-- where the index leads, among the associations that speak for the event
pub voices : (T : List ℕ) (S : Shape) (o : ℕ) {a b : ℕ} → Leads (belongs T (first_association S) of_output o) a b (associations S) → Leads (speaks T S (voice of_output o)) a b (associations S)
voices T S o l = leads_same (λ i _. sym (speaks_belongs T S of_output o i (omega arith))) l

-- an association of the event speaks for it
pub voice_at : (T : List ℕ) (S : Shape) (o j : ℕ) → belongs T (first_association S) of_output o j ≡ true → speaks T S (voice of_output o) j ≡ true
voice_at T S o j e = speaks_belongs T S of_output o j (omega arith) ∙ e

-- how many speak, as their rank among the associations
pub many_speak : (T : List ℕ) (S : Shape) (o n : ℕ) {r m : ℕ} → r ≡ rank T (first_association S) of_output o m → m ≡ n → r ≡ count_if (speaks T S (voice of_output o)) n
many_speak T S o n e q = e ∙ rw q (count_same _ _ n (λ i _. sym (speaks_belongs T S of_output o i (omega arith))))

-- an event output of a source is no interface's
pub source_voice : (T : List ℕ) (S : Shape) (o : ℕ) → of_source T S o ≡ true → voice of_output o ≡ voice_of T S o
unfolding of_source
source_voice T S o e =
    let k = eqb-true (flag_at T (output_owner T S o)) source (both_right (ltb o (outputs S)) (eqb (flag_at T (output_owner T S o)) source) e) in
    sym (own_voice T S o (λ z. omega arith))
