-- Laws of the parts: what two changes in a row leave, and what a change of some words leaves.
use Rattle.std.specs.Prelude.{◌≡◌, refl, List, [], ◌∷◌, Bool, false, ℕ, zero, suc, ◌+◌, ◌≤◌, ◌<◌, get_or}
use Rattle.std.proofs.Common.{ap, ◌∙◌, arith, length-set, get_or-set_other}
use Rattle.std.proofs.Math.ListN.{set}
use Rattle.rules_tables.specs.declared.Shape.{Shape}
use Rattle.rules_store.specs.declared.NextDue.{NextDue}
use Rattle.rules_store.specs.Layout.{element_at, input_at, variable_at}
use Rattle.rules_store.specs.Word.{running_element, current_event, running_of, next_due, put_next, due_flag, due_time, set_due, waiting, birth_of, last_update, put_input, put_value}
use Rattle.rules_store.specs.Part.{Part, time, block, count, untrues, chart, due, input, sampled, computed, buffered, SameBlock, SameDue, SameInput, Leaves, Outside}

module _ (T : List ℕ) (S : Shape) (touched : Part → Bool) where
  pub leaves_all : (s : List ℕ) → Leaves T S touched s s
  leaves_all s =
      record {
        long = refl;
        past = λ p h. refl;
        spare = λ j l. refl;
        now = λ h. refl;
        running = λ h. record { element = refl; event = refl; running = refl };
        counted = λ h. refl;
        untrue_same = λ h. refl;
        charts = λ h el l. refl;
        dues = λ h el l. record { flag = refl; at = refl };
        next_same = λ h. refl;
        waits = λ h i l. record { waits = refl; born = refl; last = refl };
        values = λ h v l e. refl;
        results = λ h v l e. refl;
        buffers = λ h v l. refl;
      }

  -- one change after another
  pub leaves_then : (s x y : List ℕ) → Leaves T S touched x y → Leaves T S touched s x → Leaves T S touched s y
  leaves_then s x y b a =
      record {
        long = b.long ∙ a.long;
        past = λ p h. b.past p h ∙ a.past p h;
        spare = λ j l. b.spare j l ∙ a.spare j l;
        now = λ h. b.now h ∙ a.now h;
        running =
            λ h.
            let u = b.running h in
            let w = a.running h in
            record { element = u.element ∙ w.element; event = u.event ∙ w.event; running = u.running ∙ w.running };
        counted = λ h. b.counted h ∙ a.counted h;
        untrue_same = λ h. b.untrue_same h ∙ a.untrue_same h;
        charts = λ h el l. b.charts h el l ∙ a.charts h el l;
        dues = λ h el l. let u = b.dues h el l in let w = a.dues h el l in record { flag = u.flag ∙ w.flag; at = u.at ∙ w.at };
        next_same = λ h. b.next_same h ∙ a.next_same h;
        waits =
            λ h i l.
            let u = b.waits h i l in
            let w = a.waits h i l in
            record { waits = u.waits ∙ w.waits; born = u.born ∙ w.born; last = u.last ∙ w.last };
        values = λ h v l e. b.values h v l e ∙ a.values h v l e;
        results = λ h v l e. b.results h v l e ∙ a.results h v l e;
        buffers = λ h v l. b.buffers h v l ∙ a.buffers h v l;
      }

-- a larger set says less
pub leaves_less : (T : List ℕ) (S : Shape) (f g : Part → Bool) (s s' : List ℕ) → ((p : Part) → g p ≡ false → f p ≡ false) → Leaves T S f s s' → Leaves T S g s s'
leaves_less T S f g s s' h w =
    record {
      long = w.long;
      past = w.past;
      spare = w.spare;
      now = λ e. w.now (h time e);
      running = λ e. w.running (h block e);
      counted = λ e. w.counted (h count e);
      untrue_same = λ e. w.untrue_same (h untrues e);
      charts = λ e. w.charts (h chart e);
      dues = λ e. w.dues (h due e);
      next_same = λ e. w.next_same (h due e);
      waits = λ e. w.waits (h input e);
      values = λ e. w.values (h sampled e);
      results = λ e. w.results (h computed e);
      buffers = λ e. w.buffers (h buffered e);
    }

pub outside_none : (lo hi : ℕ) (s : List ℕ) → Outside lo hi s s
outside_none lo hi s = record { long = refl; apart = λ p h. refl }

pub outside_set : (lo hi : ℕ) (s x : List ℕ) (p a : ℕ) → lo ≤ p → p < hi → Outside lo hi s x → Outside lo hi s (set x p a)
outside_set lo hi s x p a l h w =
    record {
      long = length-set x p a ∙ w.long;
      apart = λ q n. get_or-set_other x p q a 0 (λ e. n (omega arith) (omega arith)) ∙ w.apart q n;
    }

-- what each writer of several words, and of a value, touches
module _ (s : List ℕ) where
  pub due_touches : (el flag t : ℕ) → Outside (element_at el + 1) (element_at el + 3) s (set_due el flag t s)
  unfolding set_due
  due_touches el flag t =
      let lo = element_at el + 1 in
      let hi = element_at el + 3 in
      outside_set lo hi s (set s (element_at el + 1) flag) (element_at el + 2) t (omega arith) (omega arith)
      (outside_set lo hi s s (element_at el + 1) flag (omega arith) (omega arith) (outside_none lo hi s))

  pub next_touches : (a : NextDue) → Outside 9 11 s (put_next a s)
  unfolding put_next
  next_touches a = outside_set 9 11 s (set s 9 a.due) 10 a.time (omega arith) (omega arith) (outside_set 9 11 s s 9 a.due (omega arith) (omega arith) (outside_none 9 11 s))

  pub input_touches : (S : Shape) (i flag birth last : ℕ) → Outside (input_at S i) (input_at S i + 3) s (put_input S i flag birth last s)
  unfolding put_input
  input_touches S i flag birth last =
      let lo = input_at S i in
      let hi = input_at S i + 3 in
      let a = set s (input_at S i) flag in
      let b = set a (input_at S i + 1) birth in
      outside_set lo hi s b (input_at S i + 2) last (omega arith) (omega arith)
      (outside_set lo hi s a (input_at S i + 1) birth (omega arith) (omega arith)
      (outside_set lo hi s s (input_at S i) flag (omega arith) (omega arith) (outside_none lo hi s)))

  pub value_touches : (S : Shape) (v x : ℕ) → Outside (variable_at S v) (variable_at S v + 1) s (put_value S v x s)
  unfolding put_value
  value_touches S v x = let at = variable_at S v in outside_set at (at + 1) s s at x (omega arith) (omega arith) (outside_none at (at + 1) s)

-- a word that stays need not be written
pub set_back : (s : List ℕ) (k : ℕ) → set s k (get_or s k 0) ≡ s
set_back [] k = refl
set_back (x ∷ s) zero = refl
set_back (x ∷ s) (suc k) = ap (λ (l : List ℕ). x ∷ l) (set_back s k)

-- ---- parts from places
pub same_block : (s s' : List ℕ) → ((p : ℕ) → 1 ≤ p → p < 8 → get_or s' p 0 ≡ get_or s p 0) → SameBlock s s'
unfolding running_element current_event running_of
same_block s s' h =
    record {
      element = h 1 (omega arith) (omega arith);
      event = h 2 (omega arith) (omega arith);
      running =
          rw (h 3 (omega arith) (omega arith), h 4 (omega arith) (omega arith), h 5 (omega arith) (omega arith), h 6 (omega arith) (omega arith), h 7 (omega arith) (omega arith));
    }

pub same_due : (s s' : List ℕ) (el : ℕ) → ((p : ℕ) → element_at el < p → p < element_at el + 3 → get_or s' p 0 ≡ get_or s p 0) → SameDue s s' el
unfolding due_flag due_time
same_due s s' el h = record { flag = h (element_at el + 1) (omega arith) (omega arith); at = h (element_at el + 2) (omega arith) (omega arith) }

pub same_next : (s s' : List ℕ) → get_or s' 9 0 ≡ get_or s 9 0 → get_or s' 10 0 ≡ get_or s 10 0 → next_due s' ≡ next_due s
unfolding next_due
same_next s s' a b = rw (a, b)

pub same_input : (S : Shape) (s s' : List ℕ) (i : ℕ) → ((p : ℕ) → input_at S i ≤ p → p < input_at S i + 3 → get_or s' p 0 ≡ get_or s p 0) → SameInput S s s' i
unfolding waiting birth_of last_update
same_input S s s' i h =
    record {
      waits = h (input_at S i) (omega arith) (omega arith);
      born = h (input_at S i + 1) (omega arith) (omega arith);
      last = h (input_at S i + 2) (omega arith) (omega arith);
    }
