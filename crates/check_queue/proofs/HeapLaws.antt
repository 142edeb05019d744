-- The order of the heap, from one move of the hole to the next.
use Rattle.std.proofs.Common.{◌≡◌, ℕ, zero, suc, ◌+◌, ◌-◌, ◌*◌, ◌/◌, ◌<◌, ◌≤◌, true, false, List, Option, length, refl, sym, ap, ◌∙◌, ◌≢◌, arith, inl, inr}
use Rattle.std.proofs.Math.ListN.{set}
use Rattle.std.proofs.lemmas.Bool.{cases_eq}
use Rattle.std.proofs.lemmas.Grind.{get_or-set_at}
use Rattle.std.proofs.lemmas.List.{get_or-set_other, length-set}
use Rattle.check_queue.specs.declared.entry.Entry.{Entry}
use Rattle.check_queue.specs.Entries.{IsNotBefore, is_entry_before, entry_at}
use Rattle.check_queue.specs.Positions.{absent, position_at, times_in, IsAbsent}
use Rattle.check_queue.specs.Heap.{IsHeap, IsHeapAround, FitsBelow, HasHole, IsOrdered, IsFirstChild}
use Rattle.check_queue.proofs.EntryLaws.{by, no_later, not_itself, one_way}
use Rattle.check_queue.proofs.PositionLaws.{links_close, links_move, nowhere, some_position, times_move}

-- ---- the root

itself : (es : List Entry) (i j : ℕ) → i ≡ j → IsNotBefore (entry_at es i) (entry_at es j)
itself es i j e = by _ _ _ _ (ap (λ k. entry_at es k) e) refl (not_itself (entry_at es j))

-- no entry comes before the root
pub root_first : (es : List Entry) (n : ℕ) → IsHeap es n → (fuel k : ℕ) → k ≤ fuel → k < n → IsNotBefore (entry_at es k) (entry_at es 0)
root_first es n h zero k a b = itself es k 0 (omega arith)
root_first es n h (suc fuel) k a b = elim (cases_eq k 0) [
  | inl e ↦ itself es k 0 e
  | inr u ↦ no_later _ _ _ (root_first es n h fuel ((k - 1) / 2) (omega arith) (omega arith)) (h.order ((k - 1) / 2) k (omega arith) (omega arith) b)
]

-- ---- a move of the hole

-- an entry and its parent after x is written to the hole: x may be the parent, the child, or neither
pair : (es : List Entry) (hole i j : ℕ) (x : Entry) → hole < length es → i ≢ j → (i ≡ hole → IsNotBefore (entry_at es j) x)
    → (j ≡ hole → IsNotBefore x (entry_at es i)) → (i ≢ hole → j ≢ hole → IsNotBefore (entry_at es j) (entry_at es i))
    → IsNotBefore (entry_at (set es hole x) j) (entry_at (set es hole x) i)
pair es hole i j x inside u parent child neither = elim (cases_eq i hole) [
  | inl e ↦ by _ _ _ _ (get_or-set_other es hole j x nowhere (omega arith)) (get_or-set_at es hole i x nowhere e inside) (parent e)
  | inr v ↦ elim (cases_eq j hole) [
    | inl e ↦ by _ _ _ _ (get_or-set_at es hole j x nowhere e inside) (get_or-set_other es hole i x nowhere v) (child e)
    | inr w ↦ by _ _ _ _ (get_or-set_other es hole j x nowhere w) (get_or-set_other es hole i x nowhere v) (neither v w)
  ]
]

-- what the loop down keeps
pub record Sinks (es : List Entry) (ps : List ℕ) (n hole : ℕ) (ts : List (Option ℕ)) : Type 0 where
  pub around : HasHole es ps n hole
  pub times : times_in es ps ≡ ts

hole_moves : (es : List Entry) (ps : List ℕ) (n hole q : ℕ) (ts : List (Option ℕ)) → Sinks es ps n hole ts → q < n → q ≢ hole
    → IsHeapAround (set es hole (entry_at es q)) n q → Sinks (set es hole (entry_at es q)) (set ps (entry_at es q).number hole) n q ts
hole_moves es ps n hole q ts s l u around =
    let h = s.around in
    record {
      around = record { inside = l; around = around; linked = links_move es ps n hole q h.linked h.inside l u };
      times = times_move es ps n hole q h.linked h.inside l u ∙ s.times;
    }

-- ---- up

around_up : (es : List Entry) (n hole p : ℕ) → 2 * p + 1 ≤ hole → hole ≤ 2 * p + 2 → hole < n → n ≤ length es → IsHeapAround es n hole
    → IsHeapAround (set es hole (entry_at es p)) n p
around_up es n hole p from to inside capacity a = record {
  order = λ i j u v b c l.
      pair es hole i j _ (omega arith) (omega arith) (λ e. a.across p j from to (omega arith) (omega arith) l) (λ e. absurd (omega arith))
      (λ w z. a.order i j w z b c l);
  across = λ i j b c d f l.
      let over = a.order i p (omega arith) (omega arith) b c (omega arith) in
      pair es hole i j _ (omega arith) (omega arith) (λ e. absurd (omega arith)) (λ e. over)
      (λ w z. no_later _ _ _ over (a.order p j (omega arith) z d f l));
}

below_up : (es : List Entry) (n hole p : ℕ) (x : Entry) → 2 * p + 1 ≤ hole → hole < n → n ≤ length es → is_entry_before x (entry_at es p) ≡ true
    → IsHeapAround es n hole → FitsBelow (set es hole (entry_at es p)) n p x
below_up es n hole p x from inside capacity before a = record {
  below = λ j b c l. elim (cases_eq j hole) [
    | inl e ↦ by _ _ _ _ (get_or-set_at es hole j _ nowhere e (omega arith)) refl (one_way _ _ before)
    | inr w ↦ by _ _ _ _ (get_or-set_other es hole j _ nowhere w) refl (no_later _ _ _ (one_way _ _ before) (a.order p j (omega arith) w b c l))
  ];
}

-- what the loop up keeps
pub record Rises (es : List Entry) (ps : List ℕ) (n hole : ℕ) (x : Entry) (ts : List (Option ℕ)) : Type 0 where
  pub kept : Sinks es ps n hole ts
  pub below : FitsBelow es n hole x
  pub outside : IsAbsent ps x.number

pub rises : (es : List Entry) (ps : List ℕ) (n hole p : ℕ) (x : Entry) (ts : List (Option ℕ)) → 2 * p + 1 ≤ hole → hole ≤ 2 * p + 2
    → is_entry_before x (entry_at es p) ≡ true → Rises es ps n hole x ts → Rises (set es hole (entry_at es p)) (set ps (entry_at es p).number hole) n p x ts
rises es ps n hole p x ts from to before r =
    let h = r.kept.around in let inside = h.inside in let capacity = h.linked.capacity in
    let is = h.linked.position p (omega arith) (omega arith) in let sizes = length-set ps (entry_at es p).number hole in
    let under = r.outside.below in
    record {
      kept = hole_moves es ps n hole p ts r.kept (omega arith) (omega arith) (around_up es n hole p from to inside capacity h.around);
      below = below_up es n hole p x from inside capacity before h.around;
      outside = record {
        below = omega arith;
        is = get_or-set_other ps _ x.number hole absent
            (λ e. some_position es ps n hole p h.linked (omega arith) (sym is ∙ sym (ap (λ k. position_at ps k) e) ∙ r.outside.is)) ∙ r.outside.is;
      };
    }

-- x fits between what is above the hole and what is below
pub rests : (es : List Entry) (ps : List ℕ) (n hole : ℕ) (x : Entry) → HasHole es ps n hole → FitsBelow es n hole x → IsAbsent ps x.number
    → ((i : ℕ) → 2 * i + 1 ≤ hole → hole ≤ 2 * i + 2 → IsNotBefore x (entry_at es i)) → IsOrdered (set es hole x) (set ps x.number hole) n
rests es ps n hole x h under out over =
    let inside = h.inside in let capacity = h.linked.capacity in
    record {
      heap = record {
        order = λ i j b c l.
            pair es hole i j x (omega arith) (omega arith) (λ e. under.below j (omega arith) (omega arith) l) (λ e. over i (omega arith) (omega arith))
            (λ u v. h.around.order i j u v b c l);
      };
      linked = links_close es ps n hole x h.linked inside out;
    }

pub below_parent : (es : List Entry) (hole p : ℕ) (x : Entry) → 2 * p + 1 ≤ hole → hole ≤ 2 * p + 2 → is_entry_before x (entry_at es p) ≡ false
    → (i : ℕ) → 2 * i + 1 ≤ hole → hole ≤ 2 * i + 2 → IsNotBefore x (entry_at es i)
below_parent es hole p x from to before i b c = by _ _ _ _ refl (ap (λ k. entry_at es k) (omega arith)) (record { is = before })

-- ---- down

around_down : (es : List Entry) (n hole c : ℕ) → IsFirstChild es n hole c → n ≤ length es → IsHeapAround es n hole
    → IsHeapAround (set es hole (entry_at es c)) n c
around_down es n hole c child capacity a =
    let from = child.from in let to = child.to in let inside = child.within in
    record {
      order = λ i j u v b d l.
          pair es hole i j _ (omega arith) (omega arith) (λ e. child.first j (omega arith) (omega arith) l)
          (λ e. a.across i c (omega arith) (omega arith) from to inside) (λ w z. a.order i j w z b d l);
      across = λ i j b d f g l.
          pair es hole i j _ (omega arith) (omega arith) (λ e. a.order c j (omega arith) (omega arith) f g l) (λ e. absurd (omega arith))
          (λ w z. absurd (omega arith));
    }

pub sinks : (es : List Entry) (ps : List ℕ) (n hole c : ℕ) (ts : List (Option ℕ)) → IsFirstChild es n hole c → Sinks es ps n hole ts
    → Sinks (set es hole (entry_at es c)) (set ps (entry_at es c).number hole) n c ts
sinks es ps n hole c ts child s =
    let from = child.from in let linked = s.around.linked in
    hole_moves es ps n hole c ts s child.within (omega arith) (around_down es n hole c child linked.capacity s.around.around)
