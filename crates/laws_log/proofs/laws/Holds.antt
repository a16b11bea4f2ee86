-- Each kind of change that the machine makes keeps the laws of demand 3: a firing, a taking, a quiet change, a new time.
use Rattle.std.specs.Prelude.{◌≡◌, List, Bool, ℕ, ◌≤◌, ◌<◌, eqb, length}
use Rattle.std.proofs.Math.Path.{refl, sym, ap}
use Rattle.std.proofs.Common.{◌∙◌, arith, eqb-true}
use Rattle.std.proofs.Math.Logic.{⊎_elim}
use Rattle.std.proofs.lemmas.Bool.{eqb-false}
use Rattle.rules_walks.proofs.laws.Pick.{test_cases}
use Rattle.rules_walks.specs.Choose.{choose}
use Rattle.rules_walks.proofs.laws.Choose.{choose_true, choose_false}
use Rattle.rules_tables.specs.declared.Shape.{Shape}
use Rattle.rules_store.specs.declared.Running.{Running}
use Rattle.rules_store.specs.Layout.{need}
use Rattle.rules_tables.specs.Ids.{inputs}
use Rattle.rules_store.specs.Word.{now_of, put_now, running_of, waiting, last_update, value, buffer}
use Rattle.rules_store.specs.Part.{Part, time, count, input, sampled as «samples_part», buffered, just, also, SameInput, Leaves}
use Rattle.rules_store.proofs.laws.Writer.{leaves_now}
use Rattle.rules_store.proofs.laws.Own.{now_put}
use Rattle.rules_moves.specs.Carry.{voice_of, carries}
use Rattle.rules_moves.specs.Fire.{fire}
use Rattle.rules_moves.specs.Take.{sampled}
use Rattle.rules_moves.specs.Connected.{connected}
use Rattle.rules_moves.specs.Associated.{associated}
use Rattle.rules_tables.specs.Lawful.{source, destination, Lawful}
use Rattle.rules_moves.specs.Reached.{Reached}
use Rattle.rules_moves.proofs.laws.Firing.{fire_leaves, fire_marked, fire_buffer}
use Rattle.rules_moves.proofs.laws.Taking.{sampled_leaves, sampled_input, sampled_other, sampled_value}
use Rattle.rules_store.specs.Formed.{Formed}
use Rattle.laws_kept.proofs.laws.Keeping.{fire_formed, sampled_formed}
use Rattle.rules_log.specs.Log.{How, begins, goes_on, takes, fires, Log, empty, more}
use Rattle.rules_log.specs.Origin.{born, Begun, as_found, waits, current, origin, last_sampled, last_copied}
use Rattle.laws_log.specs.Holds.{OrderLaw, BirthLaw, Holds, quiet, chain_by}

origin_fires : (T : List ℕ) (S : Shape) (B : Begun) (l : Log) (o : ℕ) (how : How) (s : List ℕ) (c : ℕ)
    → origin T S B (more l (fires o how s)) (waits c) ≡ choose (connected T S o c) (chain_by T S B l how) (origin T S B l (waits c))
unfolding origin
origin_fires T S B l o (begins t) s c = refl
origin_fires T S B l o goes_on s c = refl

origin_stays : (T : List ℕ) (S : Shape) (B : Begun) (l : Log) (o : ℕ) (how : How) (s : List ℕ) → origin T S B (more l (fires o how s)) current ≡ origin T S B l current
unfolding origin
origin_stays T S B l o (begins t) s = refl
origin_stays T S B l o goes_on s = refl

-- ---- in a well-formed store, whatever happened before
pub found_holds : (T : List ℕ) (S : Shape) (s : List ℕ) → Formed T S s → Holds T S (as_found S s) empty s
unfolding origin last_sampled last_copied
found_holds T S s f =
    record {
      formed = f;
      order = record { ordered = tt; late = omega arith; later = λ i l w. omega arith };
      births = record { waiting_born = λ i l w. refl; running_born = λ n. refl };
      input_law = λ v l e. refl;
      buffer_law = λ j l. refl;
    }

module _ (T : List ℕ) (S : Shape) (B : Begun) (k : Lawful T S) (l : Log) (s : List ℕ) (h : Holds T S B l s) where
  long : need S ≤ length s
  long = h.formed.parts.long

  -- ---- an event output is fired
  module _ (o : ℕ) (how : How) (birth t : ℕ) (now-is : now_of s ≡ t) (b : birth ≤ t) (e : born birth ≡ chain_by T S B l how) where
    firing : Part → Bool
    firing = also input (also count (just buffered))

    left : Leaves T S firing s (fire T S o birth t s)
    unfolding firing
    left = fire_leaves T S k firing refl refl refl o birth t s

    marked : (i : ℕ) → i < inputs S → Reached S birth t i s (connected T S o i) (fire T S o birth t s)
    marked i li = fire_marked T S k o birth t i s long li

    fire_order : OrderLaw S B (more l (fires o how s)) (fire T S o birth t s)
    unfolding firing
    fire_order =
        record {
          ordered = h.order.ordered;
          late = rw (left.now refl) h.order.late;
          later =
              λ i li w.
              ⊎_elim (λ c. let u = (marked i li).hit c in let q = h.order.late in rw u.updated (omega arith))
              (λ c. let u = (marked i li).miss c in rw u.last (h.order.later i li (sym u.waits ∙ w))) (test_cases (connected T S o i));
        }

    fire_births : BirthLaw T S B (more l (fires o how s)) (fire T S o birth t s)
    unfolding firing
    fire_births =
        record {
          waiting_born =
              λ i li w.
              ⊎_elim
              (λ c.
              let u = (marked i li).hit c in
              ap born u.born ∙ e ∙ sym (origin_fires T S B l o how s i ∙ choose_true (connected T S o i) (chain_by T S B l how) (origin T S B l (waits i)) c))
              (λ c.
              let u = (marked i li).miss c in
              ap born u.born ∙ h.births.waiting_born i li (sym u.waits ∙ w)
              ∙ sym (origin_fires T S B l o how s i ∙ choose_false (connected T S o i) (chain_by T S B l how) (origin T S B l (waits i)) c)) (test_cases (connected T S o i));
          running_born =
              λ n.
              let u = (left.running refl).running in
              ap (λ (x : Running). born x.birth) u ∙ h.births.running_born (λ z. n (ap (λ (x : Running). x.mode) u ∙ z)) ∙ sym (origin_stays T S B l o how s);
        }

    pub fire_holds : Holds T S B (more l (fires o how s)) (fire T S o birth t s)
    unfolding firing last_sampled last_copied
    fire_holds =
        record {
          formed = fire_formed T S k o birth t s now-is b h.formed;
          order = fire_order;
          births = fire_births;
          input_law = λ v lv fl. left.values refl v lv fl ∙ h.input_law v lv fl;
          buffer_law =
              λ j lj.
              fire_buffer T S k o birth t j s long lj ∙ ap (choose (carries T S (voice_of T S o) (source T S j)) (value S s (source T S j))) (h.buffer_law j lj);
        }

  -- ---- an event input is taken: it waits, and none that waits is earlier
  module _ (i : ℕ) (li : i < inputs S) (w : waiting S s i ≡ 1) (idle : (running_of s).mode ≡ 0)
      (first : (c : ℕ) → c < inputs S → waiting S s c ≡ 1 → last_update S s i ≤ last_update S s c) where
    taking : Part → Bool
    taking = also «samples_part» (just input)

    kept : Leaves T S taking s (sampled T S i s)
    unfolding taking
    kept = sampled_leaves T S k taking refl refl i s li

    -- an event input that waits afterwards waited before, and is another one
    others : (c : ℕ) → c < inputs S → waiting S (sampled T S i s) c ≡ 1 → SameInput S s (sampled T S i s) c
    others c lc x =
        ⊎_elim (λ e. absurd (let u = sampled_input T S k i s long li in let z = sym u.waits ∙ ap (waiting S (sampled T S i s)) (sym (eqb-true c i e)) ∙ x in omega arith))
        (λ e. sampled_other T S k i c s lc (eqb-false c i e)) (test_cases (eqb c i))

    take_order : OrderLaw S B (more l (takes i s)) (sampled T S i s)
    unfolding taking
    take_order =
        record {
          ordered = (h.order.ordered, h.order.later i li w);
          late = rw (kept.now refl) ((h.formed.parts.events i li).waits w).1;
          later = λ c lc x. let u = others c lc x in rw u.last (first c lc (sym u.waits ∙ x));
        }

    pub take_holds : Holds T S B (more l (takes i s)) (sampled T S i s)
    unfolding taking origin last_sampled last_copied
    take_holds =
        record {
          formed = sampled_formed T S k i s li h.formed;
          order = take_order;
          births =
              record {
                waiting_born = λ c lc x. let u = others c lc x in ap born u.born ∙ h.births.waiting_born c lc (sym u.waits ∙ x);
                running_born = λ n. absurd (n (ap (λ (x : Running). x.mode) (kept.running refl).running ∙ idle));
              };
          input_law =
              λ v lv fl. sampled_value T S k i v s long li ∙ ap (choose (associated T S i v) (buffer S s v)) (h.input_law v lv fl);
          buffer_law = λ j lj. kept.buffers refl (destination T S j) (k.is_good.link_destination j lj) ∙ h.buffer_law j lj;
        }

  -- ---- a quiet change
  pub quiet_holds : (s' : List ℕ) → Leaves T S quiet s s' → Formed T S s' → (((running_of s').mode ≡ 0 → ⊥) → born (running_of s').birth ≡ origin T S B l current) → Holds T S B l s'
  quiet_holds s' u g b =
      record {
        formed = g;
        order =
            record {
              ordered = h.order.ordered;
              late = rw (u.now refl) h.order.late;
              later = λ i li w. let v = u.waits refl i li in rw v.last (h.order.later i li (sym v.waits ∙ w));
            };
        births =
            record {
              waiting_born = λ i li w. let v = u.waits refl i li in ap born v.born ∙ h.births.waiting_born i li (sym v.waits ∙ w);
              running_born = b;
            };
        input_law = λ v lv fl. u.values refl v lv fl ∙ h.input_law v lv fl;
        buffer_law = λ j lj. u.buffers refl (destination T S j) (k.is_good.link_destination j lj) ∙ h.buffer_law j lj;
      }

  -- ---- a new time
  pub now_holds : (t : ℕ) → now_of s ≤ t → Formed T S (put_now t s) → Holds T S B l (put_now t s)
  now_holds t b g =
      let u = leaves_now T S (just time) s t refl in
      let n = now_put S s long t in
      let r = (u.running refl).running in
      record {
        formed = g;
        order =
            record {
              ordered = h.order.ordered;
              late = rw n (let q = h.order.late in omega arith);
              later = λ i li w. let v = u.waits refl i li in rw v.last (h.order.later i li (sym v.waits ∙ w));
            };
        births =
            record {
              waiting_born = λ i li w. let v = u.waits refl i li in ap born v.born ∙ h.births.waiting_born i li (sym v.waits ∙ w);
              running_born = λ m. ap (λ (x : Running). born x.birth) r ∙ h.births.running_born (λ z. m (ap (λ (x : Running). x.mode) r ∙ z));
            };
        input_law = λ v lv fl. u.values refl v lv fl ∙ h.input_law v lv fl;
        buffer_law = λ j lj. u.buffers refl (destination T S j) (k.is_good.link_destination j lj) ∙ h.buffer_law j lj;
      }
