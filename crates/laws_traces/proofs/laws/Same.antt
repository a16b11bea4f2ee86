-- "run without a trace stays", and is the same machine: a trace changes neither store nor output nor what is told of the moves. A traced run makes no more moves
-- than one without, and as many where its trace has room.
use Rattle.std.proofs.Math.Path.{◌≡◌, refl, sym}
use Rattle.std.proofs.Common.{ap, ◌∙◌, ⊎_elim, eq-or-lt_of_le, le_of_suc-le-suc, le_trans, mul-le-mul_left}
use Rattle.std.specs.Prelude.{List, Bool, eqb, length, drop, Ok, Err}
use Rattle.std.proofs.Math.Bool.{true, false}
use Prim.Native.Nat.{ℕ, zero, suc, ◌+◌, ◌*◌, ◌≤◌}
use native.Mathlib.Omega.{arith}
use Rattle.std.proofs.Math.ListN.{length-append}
use Rattle.std.proofs.lemmas.List.Edits.{sets}
use borrow.Author.Tests.{eqb-true, le-leb}
use Rattle.rules_walks.specs.Pick.{pick}
use Rattle.rules_walks.proofs.laws.Pick.{both_left}
use Rattle.rules_walks.specs.Held.{held_to}
use Rattle.rules_walks.proofs.laws.Held.{held, held_is, held_both}
use Rattle.rules_numbers.proofs.laws.Sets.{drop_sets}
use Rattle.rules_tables.specs.Frame.{Table}
use Rattle.rules_tables.specs.declared.Shape.{Shape}
use Rattle.rules_tables.specs.Judge.{Verdict, accepted, refused, judge, shape_of, refusal}
use Rattle.rules_store.specs.Word.{Store, now_of}
use Rattle.rules_calls.specs.Run.{after, bytes, untrue_in, another, room_for, continues, made, stop_after}
use Rattle.rules_calls.specs.Answer.{moves_of, answer_by, Answer}
use Rattle.rules_calls.specs.Refusals.{store_refusal}
use Rattle.rules_calls.specs.Public.{run_moves, run_answer, count_by, RunCall}
use Rattle.rules_calls.proofs.laws.Run.{moves_fit}
use Rattle.rules_calls.specs.declared.Outcome.TheVariants.{Ran}
use Rattle.rules_traces.specs.declared.Traced.{Traced}
use Rattle.rules_traces.specs.Entry.{entry_frames}
use Rattle.rules_traces.specs.Trace.{entries_of}
use Rattle.rules_traces.specs.Run.{trace, trace_room_for, traced_continues, traced_made, traced_stop}
use Rattle.rules_traces.specs.Public.{traced_moves, traced_ran, TracedCall}
use Rattle.laws_traces.specs.Same.{AsRun}
use Rattle.laws_traces.proofs.laws.Calls.{fits}

module _ (T : Table) (S : Shape) (time : ℕ) (s : Store) where
  abbrev frames : ℕ → List ℕ
  frames i = entry_frames (entries_of T S time (after T S time i s))

  -- ---- the trace of more moves is no shorter
  trace_suc : (i : ℕ) → length (trace T S time (suc i) s) ≡ length (trace T S time i s) + length (frames i)
  unfolding trace
  trace_suc i = length-append (trace T S time i s) (frames i)

  pub trace_grows : (i j : ℕ) → i ≤ j → length (trace T S time i s) ≤ length (trace T S time j s)
  trace_grows i zero l = let e : i ≡ 0 = omega arith in rw e (omega arith)
  trace_grows i (suc j) l =
      ⊎_elim (λ e. rw e (omega arith)) (λ lt. let h = trace_grows i j (le_of_suc-le-suc lt) in let q = trace_suc j in omega arith) (eq-or-lt_of_le l)

  -- a bound for each move bounds them all
  pub trace_most : (most : ℕ) → ((i : ℕ) → length (frames i) ≤ most) → (n : ℕ) → length (trace T S time n s) ≤ most * n
  unfolding trace
  trace_most most h zero = omega arith
  trace_most most h (suc n) = let a = trace_most most h n in let b = h n in let q = trace_suc n in omega arith

  module _ (room space : ℕ) where
    -- ---- fewer moves
    made_twice : (budget : ℕ) → held_to (trace_room_for T S time space s) (made T S time budget room s) ≡ traced_made T S time budget room space s
    unfolding made traced_made traced_continues
    made_twice budget = held_both (continues T S time room s) (trace_room_for T S time space s) budget

    pub made_no_more : (budget : ℕ) → traced_made T S time budget room space s ≤ made T S time budget room s
    made_no_more budget = let e = made_twice budget in let h = (held (trace_room_for T S time space s) (made T S time budget room s)).within in omega arith

    -- ---- with the moves made for a budget, the run without a trace makes these
    pub made_again : (budget : ℕ) → made T S time (traced_made T S time budget room space s) room s ≡ traced_made T S time budget room space s
    unfolding made traced_made traced_continues
    made_again budget =
        let m = held_to (traced_continues T S time room space s) budget in
        sym
        (held_is (continues T S time room s) m m
        (record {
          within = omega arith;
          before = λ i l. both_left (continues T S time room s i) (trace_room_for T S time space s i) ((held (traced_continues T S time room space s) budget).before i l);
          stopped = λ l. absurd (omega arith);
        }))

    -- ---- room for the trace of the moves made and of the next one
    has_room : (n i : ℕ) → length (trace T S time (n + 1) s) ≤ space → i ≤ n → trace_room_for T S time space s i ≡ true
    unfolding trace_room_for
    has_room n i h l = le-leb _ space (let a = trace_grows (suc i) (n + 1) (omega arith) in let q = trace_suc i in omega arith)

    made_same : (budget : ℕ) → length (trace T S time (made T S time budget room s + 1) s) ≤ space → traced_made T S time budget room space s ≡ made T S time budget room s
    made_same budget h =
        let n = made T S time budget room s in
        sym (made_twice budget)
        ∙ sym
        (held_is (trace_room_for T S time space s) n n
        (record { within = omega arith; before = λ i l. has_room n i h (omega arith); stopped = λ l. absurd (omega arith) }))

    stop_same : (n : ℕ) → trace_room_for T S time space s n ≡ true → traced_stop T S time room space s n ≡ stop_after T S time room s n
    unfolding traced_stop stop_after
    stop_same n e = rw e

    -- 4 is 2 without a trace
    stop_without : (n : ℕ) → stop_after T S time room s n ≡ pick (eqb (traced_stop T S time room space s n) 4) 2 (traced_stop T S time room space s n)
    unfolding traced_stop stop_after
    stop_without n = by (another T S time s n) (room_for T S time room s n) (trace_room_for T S time space s n)
      where
        by : (a b c : Bool) → ◌≡◌ {A = ℕ} (pick a (pick b 2 3) 1) (pick (eqb (pick a (pick b (pick c 2 4) 3) 1) 4) 2 (pick a (pick b (pick c 2 4) 3) 1))
        by true true true = refl
        by true true false = refl
        by true false c = refl
        by false b c = refl

-- ---- by the refusals
count_again : (v : Verdict) (q n : ℕ) → count_by v q (count_by v q n) ≡ count_by v q n
count_again (refused p f) q n = refl
count_again accepted q n = by (eqb q 0)
  where
    by : (b : Bool) → pick b (pick b n 0) 0 ≡ pick b n 0
    by true = refl
    by false = refl

-- a count that is again one: 0 where the call is refused
count_fixed : (v : Verdict) (q n : ℕ) (f : ℕ → ℕ) → f 0 ≡ 0 → f n ≡ n → f (count_by v q n) ≡ count_by v q n
count_fixed (refused p g) q n f z e = z
count_fixed accepted q n f z e = by (eqb q 0)
  where
    by : (b : Bool) → f (pick b n 0) ≡ pick b n 0
    by true = e
    by false = z

count_stop : (v : Verdict) (q n k : ℕ) → n ≡ pick (eqb k 4) 2 k → count_by v q n ≡ pick (eqb (count_by v q k) 4) 2 (count_by v q k)
count_stop (refused p f) q n k e = refl
count_stop accepted q n k e = by (eqb q 0)
  where
    by : (b : Bool) → pick b n 0 ≡ pick (eqb (pick b k 0) 4) 2 (pick b k 0)
    by true = e
    by false = refl

answer_same : (v : Verdict) (q : ℕ) (x y : Answer) → (v ≡ accepted → q ≡ 0 → x ≡ y) → answer_by v q x ≡ answer_by v q y
answer_same (refused p f) q x y h = refl
answer_same accepted q x y h = by (eqb q 0) refl
  where
    by : (b : Bool) → eqb q 0 ≡ b → pick b x (Err (refusal q 0)) ≡ pick b y (Err (refusal q 0))
    by true e = h refl (eqb-true q 0 e)
    by false e = refl

module _ (T : Table) (s : Store) where
  abbrev S : Shape
  S = shape_of T

  abbrev now : ℕ
  now = now_of s

  abbrev v : Verdict
  v = judge T

  abbrev q : ℕ
  q = store_refusal T S s

  -- a traced run makes at most as many moves as the run with the same budget
  pub traced_no_more : (budget room space : ℕ) → traced_moves T s budget room space ≤ run_moves T s budget room
  traced_no_more budget room space = made_no_more T S now s room space budget

  module _ (budget : ℕ) (out tr : List ℕ) (r : Traced) (s' : Store) (out' tr' : List ℕ) (c : TracedCall T s budget out tr r s' out' tr') where
    abbrev moves : ℕ
    moves = moves_of r.answer

    -- ---- the run without a trace that has for its budget the moves that this one made: the same store, output and counts, or the same refusal
    none_made : run_moves T s 0 (length out) ≡ 0
    none_made = let l = moves_fit T s 0 (length out) in omega arith

    moves_again : run_moves T s moves (length out) ≡ moves
    moves_again =
        rw c.tells.moves_are
        (count_fixed v q (traced_moves T s budget (length out) (length tr)) (λ (b : ℕ). run_moves T s b (length out)) none_made (made_again T S now s (length out) (length tr) budget))

    same_moves : (a : Answer) (s'' : Store) (out'' : List ℕ) → RunCall T s moves out a s'' out'' → moves_of a ≡ moves
    same_moves a s'' out'' d =
        let n = traced_moves T s budget (length out) (length tr) in
        d.tells.moves_are ∙ ap (count_by v q) (moves_again ∙ c.tells.moves_are) ∙ count_again v q n ∙ sym c.tells.moves_are

    pub traced_as_run : (a : Answer) (s'' : Store) (out'' : List ℕ) → RunCall T s moves out a s'' out'' → AsRun a r.answer s'' s' out'' out'
    traced_as_run a s'' out'' d =
        let e = same_moves a s'' out'' d in
        record {
          number = d.tells.number_is ∙ sym c.tells.number_is;
          frame = d.tells.frame_is ∙ sym c.tells.frame_is;
          moves = e;
          bytes = d.tells.bytes_are ∙ ap (λ (k : ℕ). length (bytes T S now k s)) e ∙ sym c.tells.bytes_are;
          stop =
              d.tells.stop_is ∙ ap (λ (k : ℕ). count_by v q (stop_after T S now (length out) s k)) e
              ∙ count_stop v q _ (traced_stop T S now (length out) (length tr) s moves) (stop_without T S now s (length out) (length tr) moves)
              ∙ ap (λ (k : ℕ). pick (eqb k 4) 2 k) (sym c.tells.stop_is);
          store = d.store ∙ ap (λ (k : ℕ). after T S now k s) e ∙ sym c.store;
          output = d.output ∙ ap (λ (k : ℕ). sets out 0 (bytes T S now k s)) e ∙ sym c.output;
        }

    -- ---- the run with the same budget
    module _ (a : Answer) (s'' : Store) (out'' : List ℕ) (d : RunCall T s budget out a s'' out'') where
      same_answer : (judge T ≡ accepted → store_refusal T (shape_of T) s ≡ 0 → length (trace T (shape_of T) (now_of s) (run_moves T s budget (length out) + 1) s) ≤ length tr) → r.answer ≡ a
      same_answer h =
          let n = run_moves T s budget (length out) in
          c.answer
          ∙ answer_same v q (traced_ran T s (length out) (length tr) (traced_moves T s budget (length out) (length tr))) (run_answer T s budget (length out) n)
          (λ x y.
          let l = h x y in
          rw (made_same T S now s (length out) (length tr) budget l)
          (ap (λ (k : ℕ). Ok (Ran n (length (bytes T S now n s)) k (untrue_in T S now n s))) (stop_same T S now s (length out) (length tr) n (has_room T S now s (length out) (length tr) n n l (omega arith)))))
          ∙ sym d.answer

      same_all : r.answer ≡ a → (r.answer ≡ a) × (s' ≡ s'') × (out' ≡ out'')
      same_all e = (
        e,
        c.store ∙ ap (λ (x : Answer). after T S now (moves_of x) s) e ∙ sym d.store,
        c.output ∙ ap (λ (x : Answer). sets out 0 (bytes T S now (moves_of x) s)) e ∙ sym d.output,
      )

      -- they agree where the trace has room for the moves that the run makes and for the next one
      pub traced_enough : length (trace T (shape_of T) (now_of s) (run_moves T s budget (length out) + 1) s) ≤ length tr → (r.answer ≡ a) × (s' ≡ s'') × (out' ≡ out'')
      traced_enough h = same_all (same_answer (λ _ _. h))

      -- and so where no move has more than so many bytes, and it has room for the budget and one more (calls_run, laws/Plenty: 240)
      pub traced_bounded :
          (most : ℕ)
          → (judge T ≡ accepted → store_refusal T (shape_of T) s ≡ 0
          → (i : ℕ) → length (entry_frames (entries_of T (shape_of T) (now_of s) (after T (shape_of T) (now_of s) i s))) ≤ most)
          → most * (budget + 1) ≤ length tr → (r.answer ≡ a) × (s' ≡ s'') × (out' ≡ out'')
      traced_bounded most few l =
          same_all
          (same_answer
          (λ x y.
          let n = run_moves T s budget (length out) in
          le_trans (trace_most T S now s most (few x y) (n + 1)) (le_trans (mul-le-mul_left most (let b = moves_fit T s budget (length out) in omega arith)) l)))

    -- ---- what is told fits, and the bytes past it stay
    pub trace_fits_moves : (r.traced ≤ length tr) × (drop r.traced tr' ≡ drop r.traced tr)
    trace_fits_moves =
        let told = trace T S now moves s in
        let l = fits T s budget out tr r s' out' tr' c in
        let w = c.traced in
        let e : r.traced ≡ 0 + length told = omega arith in
        (omega arith, (λ t. drop (e t) (c.trace_is t)) ∙ drop_sets tr 0 told (omega arith) ∙ ap (λ (k : ℕ). drop k tr) (sym e))
