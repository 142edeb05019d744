-- A walk among objects that wait comes back, and the objects that it passes are a cycle.
use Rattle.std.proofs.Common.{◌≡◌, ℕ, zero, suc, ◌+◌, ◌-◌, ◌<◌, ◌≤◌, ◌==◌, Bool, true, false, cond, List, [], ◌∷◌, ◌++◌, get_or, length, refl, sym, ap, ◌∙◌}
use Rattle.std.proofs.Common.{subst}
use Rattle.std.proofs.Common.{arith, inl, inr, ◌⊎◌}
use Rattle.std.proofs.lemmas.Bool.{cases_eq, cases_lt, eqb-true, eqb-false}
use Rattle.std.proofs.lemmas.List.{get_or_append_left, get_or-append_right, length_push}
use Rattle.std.proofs.lemmas.Option.{slice_get-get_or, slice_get_past}
use Rattle.setup_order.specs.Growth.{open_link_count}
use Rattle.setup_order.specs.Results.{successor, IsCycle}
use Rattle.setup_order.specs.Search.{step, steps, is_waiting, ReturnsToItself, AreSuccessors, IsClosedWalk, IsStuck}
use Rattle.setup_order.proofs.GrowthLemmas.{open_within}
use Rattle.setup_order.proofs.TestLemmas.{is_below}

-- ---- steps

steps_more : (next : List ℕ) (object k m : ℕ) → steps next object (m + k) ≡ steps next (steps next object k) m
steps_more next object k zero = ap (steps next object) (omega arith)
steps_more next object k (suc m) =
    let more : suc m + k ≡ suc (m + k) = omega arith in
    ap (steps next object) more ∙ ap (step next) (steps_more next object k m)

-- an object that waits is one of the objects
waits_within : (links : List (List ℕ)) (left : List ℕ) (object : ℕ) → IsStuck links left → is_waiting left object ≡ true → object < length links
waits_within links left object stuck w = rw (← stuck.size) (open_within left object (is_below 0 (open_link_count left object) w))

step_waits : (links : List (List ℕ)) (left next : List ℕ) (object : ℕ) → IsStuck links left → AreSuccessors links left next → is_waiting left object ≡ true
    → is_waiting left (step next object) ≡ true
step_waits links left next object stuck is w = is.waiting object (waits_within links left object stuck w) (stuck.linked object w)

steps_wait : (links : List (List ℕ)) (left next : List ℕ) (object : ℕ) → IsStuck links left → AreSuccessors links left next → is_waiting left object ≡ true → (k : ℕ)
    → is_waiting left (steps next object k) ≡ true
steps_wait links left next object stuck is w zero = w
steps_wait links left next object stuck is w (suc k) = step_waits links left next (steps next object k) stuck is (steps_wait links left next object stuck is w k)

-- ---- more indexes than numbers

record Twice (g : ℕ → ℕ) (n : ℕ) : Type 0 where
  first : ℕ
  second : ℕ
  later : first < second
  within : second ≤ n
  equal : g first ≡ g second

look_for : (g : ℕ → ℕ) (v k : ℕ) → ((i : ℕ) × (i < k) × (g i ≡ v)) ⊎ ((i : ℕ) → i < k → g i ≡ v → ⊥)
look_for g v zero = inr (λ i h e. absurd (omega (arith, h)))
look_for g v (suc k) = elim (look_for g v k) [
  | inl found ↦ inl (found.0, omega (arith, found.1), found.2)
  | inr none ↦ elim (cases_eq (g k) v) [
    | inl here ↦ inl (k, omega arith, here)
    | inr other ↦ inr (λ i h e. elim (cases_lt i k) [
      | inl before ↦ none i before e
      | inr last ↦ let same : k ≡ i = omega (arith, h, last) in other (ap g same ∙ e)
    ])
  ]
]

-- the number v in place of the greatest, n
abbrev moved : (ℕ → ℕ) → ℕ → ℕ → ℕ → ℕ
moved g n v i = cond (g i == n) v (g i)

moved_below : (x n v : ℕ) (b : Bool) → (x == n) ≡ b → x < suc n → v < suc n → (x ≡ v → ⊥) → cond b v x < n
moved_below x n v true e hx hv other = let same : x ≡ n = eqb-true x n e in omega (arith, hx, hv, same, other)
moved_below x n v false e hx hv other = let apart = eqb-false x n e in omega (arith, hx, hv, apart)

moved_same : (x y n v : ℕ) (a b : Bool) → (x == n) ≡ a → (y == n) ≡ b → (x ≡ v → ⊥) → (y ≡ v → ⊥) → cond a v x ≡ cond b v y → x ≡ y
moved_same x y n v true true ea eb nx ny e = eqb-true x n ea ∙ sym (eqb-true y n eb)
moved_same x y n v true false ea eb nx ny e = absurd (ny (sym e))
moved_same x y n v false true ea eb nx ny e = absurd (nx e)
moved_same x y n v false false ea eb nx ny e = e

-- of more indexes than numbers below n, two have the same number
twice : (n : ℕ) (g : ℕ → ℕ) → ((i : ℕ) → i ≤ n → g i < n) → Twice g n
twice zero g below = absurd (let h = below 0 (omega arith) in omega (arith, h))
twice (suc n) g below = elim (look_for g (g (suc n)) (suc n)) [
  | inl found ↦ record { first = found.0; second = suc n; later = found.1; within = omega arith; equal = found.2 }
  | inr none ↦
      let v = g (suc n) in
      let t = twice n (moved g n v) (λ i h. moved_below (g i) n v (g i == n) refl (below i (omega (arith, h))) (below (suc n) (omega arith)) (none i (omega (arith, h)))) in
      record {
        first = t.first;
        second = t.second;
        later = t.later;
        within = omega (arith, t.within);
        equal = moved_same (g t.first) (g t.second) n v (g t.first == n) (g t.second == n) refl refl (none t.first (omega (arith, t.later, t.within)))
            (none t.second (omega (arith, t.within))) t.equal;
      }
]

-- ---- a walk comes back

-- after as many steps as there are objects a walk is on a cycle
pub walk_returns : (links : List (List ℕ)) (left next : List ℕ) (object : ℕ) → IsStuck links left → AreSuccessors links left next → is_waiting left object ≡ true
    → ReturnsToItself next (steps next object (length next))
walk_returns links left next object stuck is w =
    let n = length next in
    let at = steps next object in
    let t = twice n at (λ i h. rw is.size (waits_within links left (at i) stuck (steps_wait links left next object stuck is w i))) in
    let p = t.second - t.first in
    let m = n - t.first in
    let around : p + n ≡ m + t.second = omega (arith, t.later, t.within) in
    let back : m + t.first ≡ n = omega (arith, t.later, t.within) in
    record {
      count = p;
      nonempty = omega (arith, t.later);
      bounded = omega (arith, t.within);
      back = sym (steps_more next object n p) ∙ (ap at around ∙ (steps_more next object t.second m ∙ (ap (λ o. steps next o m) (sym t.equal)
          ∙ (sym (steps_more next object t.first m) ∙ ap at back))));
    }

-- ---- what a walk passes

follower_is : (next : List ℕ) (object : ℕ) (cycle : List ℕ) → IsClosedWalk next object cycle → (index : ℕ) → index < length cycle
    → successor cycle index ≡ steps next object (suc index)
follower_is next object cycle closed_walk index h = elim (cases_lt (index + 1) (length cycle)) [
  | inl within ↦
      let more : index + 1 ≡ suc index = omega arith in
      rw (slice_get-get_or cycle (index + 1) 0 within) (closed_walk.each (index + 1) within ∙ ap (steps next object) more)
  | inr past ↦
      let end : length cycle ≡ suc index = omega (arith, h, past) in
      rw (slice_get_past cycle (index + 1) past) (closed_walk.each 0 closed_walk.nonempty ∙ (sym closed_walk.back ∙ ap (steps next object) end))
]

-- a walk that is at one object twice, at the indexes i and j, is back before its end
early_back : (next : List ℕ) (object : ℕ) (cycle : List ℕ) → IsClosedWalk next object cycle → (i j : ℕ) → i < j → j < length cycle
    → steps next object i ≡ steps next object j → ⊥
early_back next object cycle closed_walk i j h l e =
    let m = length cycle - j in
    let whole : m + j ≡ length cycle = omega (arith, l) in
    closed_walk.first (m + i) (omega (arith, l)) (omega (arith, h, l)) (steps_more next object i m ∙ (ap (λ o. steps next o m) e
    ∙ (sym (steps_more next object j m) ∙ (ap (steps next object) whole ∙ closed_walk.back))))

each_differs : (next : List ℕ) (object : ℕ) (cycle : List ℕ) → IsClosedWalk next object cycle → (i j : ℕ) → i < length cycle → j < length cycle
    → get_or cycle i 0 ≡ get_or cycle j 0 → i ≡ j
each_differs next object cycle closed_walk i j hi hj e =
    let same : steps next object i ≡ steps next object j = sym (closed_walk.each i hi) ∙ (e ∙ closed_walk.each j hj) in
    elim (cases_eq i j) [
      | inl is ↦ is
      | inr other ↦ elim (cases_lt i j) [
        | inl before ↦ absurd (early_back next object cycle closed_walk i j before hj same)
        | inr after ↦ absurd (early_back next object cycle closed_walk j i (omega (arith, other, after)) hi (sym same))
      ]
    ]

-- what a walk passes until it is back is a cycle
pub round_is_cycle : (links : List (List ℕ)) (left next : List ℕ) (object : ℕ) (cycle : List ℕ) → IsStuck links left → AreSuccessors links left next
    → is_waiting left object ≡ true → IsClosedWalk next object cycle → IsCycle links cycle
round_is_cycle links left next object cycle stuck is w closed_walk =
    let wait = steps_wait links left next object stuck is w in
    record {
      nonempty = closed_walk.nonempty;
      within = λ index h. rw (closed_walk.each index h) (waits_within links left (steps next object index) stuck (wait index));
      linked = λ index h. rw (closed_walk.each index h, follower_is next object cycle closed_walk index h)
          (is.linked (steps next object index) (waits_within links left (steps next object index) stuck (wait index)) (stuck.linked (steps next object index) (wait index)));
      distinct = each_differs next object cycle closed_walk;
    }

pub walked_waits : (links : List (List ℕ)) (left next : List ℕ) (object k : ℕ) → IsStuck links left → AreSuccessors links left next → is_waiting left object ≡ true
    → is_waiting left (steps next object k) ≡ true
walked_waits links left next object k stuck is w = steps_wait links left next object stuck is w k

-- so many steps of a walk that isn't back
pub record IsOnWay (next : List ℕ) (object count at : ℕ) (cycle : List ℕ) : Type 0 where
  pub size : length cycle ≡ count
  pub each : (index : ℕ) → index < count → get_or cycle index 0 ≡ steps next object index
  pub at_is : at ≡ steps next object count
  pub not_back : (k : ℕ) → 0 < k → k ≤ count → steps next object k ≡ object → ⊥

pub way_begins : (next : List ℕ) (object : ℕ) → IsOnWay next object 0 object []
way_begins next object = record {
  size = refl;
  each = λ index h. absurd (omega (arith, h));
  at_is = refl;
  not_back = λ k nonempty none e. absurd (omega (arith, nonempty, none));
}

pushed_each : (next : List ℕ) (object count at : ℕ) (cycle : List ℕ) → IsOnWay next object count at cycle → (index : ℕ) → index < count + 1
    → get_or (cycle ++ at ∷ []) index 0 ≡ steps next object index
pushed_each next object count at cycle way index h = elim (cases_lt index count) [
  | inl before ↦ get_or_append_left cycle (at ∷ []) 0 index (omega (arith, before, way.size)) ∙ way.each index before
  | inr last ↦
      let same : index ≡ count = omega (arith, h, last) in
      let none : index - count ≡ 0 = omega (arith, same) in
      get_or-append_right cycle (at ∷ []) count index 0 way.size last ∙ (ap (λ i. get_or (at ∷ []) i 0) none ∙ (way.at_is ∙ ap (steps next object) (sym same)))
]

next_is : (next : List ℕ) (object count at to : ℕ) (cycle : List ℕ) → IsOnWay next object count at cycle → to ≡ step next at → to ≡ steps next object (suc count)
next_is next object count at to cycle way is = is ∙ ap (step next) way.at_is

pub way_continues : (next : List ℕ) (object count at to : ℕ) (cycle longer : List ℕ) → IsOnWay next object count at cycle → longer ≡ cycle ++ at ∷ []
    → to ≡ step next at → (to ≡ object → ⊥) → IsOnWay next object (count + 1) to longer
way_continues next object count at to cycle longer way is step_is other =
    let more : suc count ≡ count + 1 = omega arith in
    let there = next_is next object count at to cycle way step_is in
    subst (IsOnWay next object (count + 1) to) (sym is) (record {
      size = length_push cycle at ∙ ap (λ n. n + 1) way.size;
      each = pushed_each next object count at cycle way;
      at_is = there ∙ ap (steps next object) more;
      not_back = λ k nonempty bounded e. elim (cases_lt k (count + 1)) [
        | inl before ↦ way.not_back k nonempty (omega (arith, before)) e
        | inr last ↦ let same : suc count ≡ k = omega (arith, bounded, last) in other (there ∙ (ap (steps next object) same ∙ e))
      ];
    })

pub way_comes_back : (next : List ℕ) (object count at to : ℕ) (cycle longer : List ℕ) → IsOnWay next object count at cycle → longer ≡ cycle ++ at ∷ []
    → to ≡ step next at → to ≡ object → IsClosedWalk next object longer
way_comes_back next object count at to cycle longer way is step_is back =
    let size : length (cycle ++ at ∷ []) ≡ count + 1 = length_push cycle at ∙ ap (λ n. n + 1) way.size in
    let more : count + 1 ≡ suc count = omega arith in
    subst (IsClosedWalk next object) (sym is) (record {
      nonempty = omega (arith, size);
      each = λ index h. pushed_each next object count at cycle way index (omega (arith, h, size));
      back = ap (steps next object) (size ∙ more) ∙ (sym (next_is next object count at to cycle way step_is) ∙ back);
      first = λ k nonempty bounded e. way.not_back k nonempty (omega (arith, bounded, size)) e;
    })

-- a walk that goes back is back before its end
pub way_ends : (next : List ℕ) (object count at : ℕ) (cycle : List ℕ) → IsOnWay next object count at cycle → ReturnsToItself next object → length next ≤ count → ⊥
way_ends next object count at cycle way b end = way.not_back b.count b.nonempty (omega (arith, b.bounded, end)) b.back
