-- What the calls of the queue leave.
use Rattle.std.proofs.Common.{◌≡◌, ◌≢◌, ℕ, zero, suc, ◌+◌, ◌<◌, ◌^◌, false, List, ◌∷◌, length, Option, Some, None, replicate, Vec, Global}
use Rattle.std.proofs.Common.{refl, sym, ap, ◌∙◌, arith, inl, inr}
use Rattle.std.specs.Prelude.{option_map}
use Rattle.std.specs.Vec.{with_items}
use Rattle.std.proofs.Math.ListN.{set}
use Rattle.std.proofs.Math.Dec.{eqb}
use Rattle.std.proofs.lemmas.Bool.{cases_eq, eq-eqb}
use Rattle.std.proofs.lemmas.Grind.{get_or-set_at}
use Rattle.std.proofs.lemmas.List.{get_or-set_other, length-replicate, length-set, set-get_or, with_items_is}
use Rattle.std.proofs.lemmas.List.Folds.{list_any_at}
use Rattle.std.proofs.lemmas.Map.Steps.{le-length_from_below}
use Rattle.check_queue.specs.declared.entry.Entry.{Entry}
use Rattle.check_queue.specs.Entries.{entry_at}
use Rattle.check_queue.specs.Order.{is_before, least}
use Rattle.check_queue.specs.Times.{pairs_of}
use Rattle.check_queue.specs.Positions.{absent, position_at, position_from, position_of, times_in, AreLinked}
use Rattle.check_queue.specs.Heap.{IsHeap, IsHeapAround, IsOrdered}
use Rattle.check_queue.proofs.EntryLaws.{by, no_later}
use Rattle.check_queue.proofs.PositionLaws.{below, links_over, links_without, present, some_position, time_at_entry, without}
use Rattle.check_queue.proofs.PositionLaws.{time_is, time_nowhere, time_there, times_length}
use Rattle.check_queue.proofs.HeapLaws.{Rises, Sinks, root_first}
use Rattle.check_queue.proofs.LeastLaws.{least_found}
use Rattle.check_queue.proofs.TimesLaws.{least_by_times, none_by_times, time_at}

-- ---- a number with a position, and one without

found : (es : List Entry) (ps : List ℕ) (n k p : ℕ) → AreLinked es ps n n → position_of ps k ≡ Some p → (position_at ps k ≡ p) × (p < n)
found es ps n k p a e = elim (cases_eq (position_at ps k) absent) [
  | inl f ↦ let none : position_of ps k ≡ None = ap (λ q. position_from q) f in cc
  | inr u ↦
      let some = present (position_at ps k) u in let is : position_at ps k ≡ p = cc in
      let inside = (a.entry k u).within in (is, omega arith)
]

no_position : (es : List Entry) (ps : List ℕ) (k : ℕ) → time_at (times_in es ps) k ≡ None → position_at ps k ≡ absent
no_position es ps k e = elim (cases_eq (position_at ps k) absent) [
  | inl f ↦ f
  | inr u ↦ let some = time_is es ps k ∙ time_there es _ u in cc
]

-- where a number isn't in the heap, there is room for it
has_room : (es : List Entry) (ps : List ℕ) (n k : ℕ) → AreLinked es ps n n → k < length ps → position_at ps k ≡ absent → n < length ps
has_room es ps n k a under none =
    let long = length-set ps k n in let capacity = a.capacity in let bounded = a.bounded in
    let most = le-length_from_below (set ps k n) (n + 1) (λ q l. elim (cases_eq q n) [
      | inl e ↦ list_any_at (eqb q) (set ps k n) k absent (omega arith) (eq-eqb q _ (e ∙ sym (get_or-set_at ps k k n absent refl under)))
      | inr u ↦
          let is = a.position q (omega (arith, l, u)) u in
          let not_at_hole : (entry_at es q).number ≢ k = λ e. some_position es ps n n q a (omega (arith, l, u)) (sym is ∙ ap (λ j. position_at ps j) e ∙ none) in
          let under' = below ps _ q is (omega (arith, l, u, capacity, bounded)) in
          list_any_at (eqb q) (set ps k n) (entry_at es q).number absent (omega arith) (eq-eqb q _ (sym (get_or-set_other ps k _ n absent not_at_hole ∙ is)))
    ]) in
    omega arith

-- ---- a heap whose times are ts

pub record Holds (es : List Entry) (ps : List ℕ) (n : ℕ) (ts : List (Option ℕ)) : Type 0 where
  pub ordered : IsOrdered es ps n
  pub times : times_in es ps ≡ ts

-- what the code holds once the entries and positions are put back
pub settles : (v : Vec Entry Global) (w : Vec ℕ Global) {es es' : List Entry} {ps ps' : List ℕ} {m n hole : ℕ} {ts ts' : List (Option ℕ)}
    → es ≡ v.items → ps ≡ w.items → Sinks es ps m hole ts → length ts' ≡ length ts → IsOrdered es' ps' n → times_in es' ps' ≡ ts'
    → Holds (with_items v es').items (with_items w ps').items n ts'
settles v w {es} {es'} {ps} {ps'} e e' s long ordered times =
    let size = s.around.linked.sizes in let size' = ordered.linked.sizes in let fits = v.ok.0 in let fits' = w.ok.0 in
    let was = sym (times_length es ps) ∙ ap length s.times in let is = sym (times_length es' ps') ∙ ap length times in
    let read = ap length e in let read' = ap length e' in
    rw (with_items_is v es' (omega arith), with_items_is w ps' (omega arith)) (record { ordered = ordered; times = times })

-- the entries but that at the hole are a heap
around : (es : List Entry) (n m hole : ℕ) → ((j : ℕ) → j < m → j ≢ hole → j < n) → IsHeap es n → IsHeapAround es m hole
around es n m hole within h = record {
  order = λ i j u v b c l. h.order i j b c (within j l v);
  across = λ i j b c d f l.
      let inside = within j l (omega arith) in
      no_later _ _ _ (h.order i hole b c (omega arith)) (h.order hole j d f inside);
}

-- ---- a number more

-- number k without a time may rise from the end, with time t
pub rises_new : (es : List Entry) (ps : List ℕ) (n k t : ℕ) → IsOrdered es ps n → k < length (times_in es ps) → time_at (times_in es ps) k ≡ None
    → Rises es ps (n + 1) n (record { time = t; number = k }) (times_in es ps)
rises_new es ps n k t o under e =
    let a = o.linked in let sizes = a.sizes in let long = times_length es ps in let none = no_position es ps k e in
    let capacity = has_room es ps n k a (omega arith) none in
    record {
      kept = record {
        around = record {
          inside = omega arith;
          around = around es n (n + 1) n (λ j l u. omega arith) o.heap;
          linked = links_over es ps n n (n + 1) n a (omega arith) (λ i l u. (omega arith, u)) (λ i l u. (omega arith, u));
        };
        times = refl;
      };
      below = record { below = λ j b c l. absurd (omega arith) };
      outside = record { below = omega arith; is = none };
    }

-- ---- a number less

-- number k leaves position p, which is the hole then
pub leaves : (es : List Entry) (ps : List ℕ) (n k p : ℕ) → IsOrdered es ps n → position_of ps k ≡ Some p
    → Sinks es (set ps k absent) n p (set (times_in es ps) k None)
leaves es ps n k p o e =
    let f = found es ps n k p o.linked e in
    record {
      around = record {
        inside = f.1;
        around = around es n n p (λ j l u. l) o.heap;
        linked = links_without es ps n n n p p k o.linked f.1 f.0 (omega arith) (λ i l u. (omega arith, u)) (λ i l u v. (l, v));
      };
      times = without es ps k;
    }

-- a number without a time keeps none
pub none_leaves : (es : List Entry) (ps : List ℕ) (k : ℕ) → position_of ps k ≡ None → times_in es ps ≡ set (times_in es ps) k None
none_leaves es ps k e =
    let none = time_is es ps k ∙ ap (λ o. option_map (λ i. (entry_at es i).time) o) e in
    sym (ap (λ o. set (times_in es ps) k o) (sym none) ∙ set-get_or (times_in es ps) k None)

-- ---- a new queue

none_stored : (n k : ℕ) → position_at (replicate n absent) k ≡ absent
none_stored zero k = refl
none_stored (suc n) zero = refl
none_stored (suc n) (suc k) = none_stored n k

no_times : (es : List Entry) (n : ℕ) → times_in es (replicate n absent) ≡ replicate n None
no_times es zero = refl
no_times es (suc n) = ap (λ ts. None ∷ ts) (no_times es n)

pub starts : (es : List Entry) (ps : List ℕ) (n : ℕ) → length es ≡ n → ps ≡ replicate n absent → n < 2 ^ 32 → Holds es ps 0 (replicate n None)
starts es ps n size e bounded =
    let sizes = length-replicate n absent in
    rw e (record {
      ordered = record {
        heap = record { order = λ i j b c l. absurd (omega arith) };
        linked = record {
          capacity = omega arith;
          bounded = omega arith;
          sizes = omega arith;
          position = λ i l u. absurd (omega arith);
          entry = λ k v. absurd (v (none_stored n k));
        };
      };
      times = no_times es n;
    })

-- ---- the first

-- the entry at the root is the first
pub record IsFirst (es : List Entry) (ps : List ℕ) : Type 0 where
  pub time : time_at (times_in es ps) (entry_at es 0).number ≡ Some (entry_at es 0).time
  pub least : Some ((entry_at es 0).time, (entry_at es 0).number) ≡ least (pairs_of (times_in es ps))

none_earlier : (es : List Entry) (ps : List ℕ) (n k t : ℕ) → IsOrdered es ps n → time_at (times_in es ps) k ≡ Some t
    → is_before (t, k) ((entry_at es 0).time, (entry_at es 0).number) ≡ false
none_earlier es ps n k t o e = elim (cases_eq (position_at ps k) absent) [
  | inl f ↦ let none = time_is es ps k ∙ time_nowhere es _ f in cc
  | inr u ↦
      let p = position_at ps k in
      let present = time_is es ps k ∙ time_there es p u in
      let time : t ≡ (entry_at es p).time = cc in
      let number : k ≡ (entry_at es p).number = sym (o.linked.entry k u).number in
      (by _ _ _ _ (λ i. record { time = time i; number = number i }) refl (root_first es n o.heap p p (omega arith) (o.linked.entry k u).within)).is
]

pub first_is : (es : List Entry) (ps : List ℕ) (n : ℕ) → IsOrdered es ps n → 0 < n → IsFirst es ps
first_is es ps n o l =
    let e : Entry = entry_at es 0 in
    let time = time_at_entry es ps n n 0 o.linked l (omega arith) in
    record {
      time = time;
      least = least_found (Some (e.time, e.number)) _ (least_by_times (e.time, e.number) (times_in es ps) time (λ k t f. none_earlier es ps n k t o f));
    }

pub no_time : (es : List Entry) (ps : List ℕ) (n k : ℕ) → IsOrdered es ps n → n ≡ 0 → time_at (times_in es ps) k ≡ None
no_time es ps n k o e = elim (cases_eq (position_at ps k) absent) [
  | inl f ↦ time_is es ps k ∙ time_nowhere es _ f
  | inr u ↦ let l = (o.linked.entry k u).within in absurd (omega arith)
]

pub no_first : (es : List Entry) (ps : List ℕ) (n : ℕ) → IsOrdered es ps n → n ≡ 0 → None ≡ least (pairs_of (times_in es ps))
no_first es ps n o e = least_found None _ (none_by_times 0 (times_in es ps) (λ k. no_time es ps n k o e))
