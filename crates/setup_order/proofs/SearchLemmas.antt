-- What is next of each object, and where the search begins.
use Rattle.std.proofs.Common.{◌≡◌, ℕ, ◌+◌, ◌-◌, ◌<◌, ◌||◌, Bool, true, false, List, [], ◌∷◌, ◌++◌, get_or, length, take, Option, Some, None, refl, sym, ap, ◌∙◌}
use Rattle.std.proofs.Common.{subst}
use Rattle.std.proofs.Common.{arith, inl, inr, MatchOption}
use Rattle.std.specs.Prelude.{unwrap_or}
use Rattle.std.specs.List.{list_any}
use Rattle.std.proofs.lemmas.Bool.{cases_lt}
use Rattle.std.proofs.lemmas.List.{get_or_append_left, get_or-append_right, length_push, take_more}
use Rattle.std.proofs.lemmas.List.Folds.{list_any-append}
use Rattle.setup_order.specs.Cycles.{links_of}
use Rattle.setup_order.specs.Orders.{is_among}
use Rattle.setup_order.specs.Search.{step, is_waiting, AreSuccessorsBelow}
use Rattle.setup_order.proofs.GrowthLemmas.{at_place}

-- ---- the last that waits

-- an object more that waits
pub found_one : (left objects : List ℕ) (i object d : ℕ) → i < length objects → object ≡ get_or objects i d → is_waiting left object ≡ true
    → (is_among objects object ≡ true) × (is_waiting left object ≡ true)
found_one left objects i object d h is w = (subst (λ o. is_among objects o ≡ true) (sym is) (at_place objects i d h), w)

or_neither : (a b : Bool) → a ≡ false → b ≡ false → (a || b) ≡ false
or_neither a b x y = rw (x, y) refl

-- an object more that doesn't wait
pub found_none : (left objects : List ℕ) (i object d : ℕ) (found : Option ℕ) → i < length objects → object ≡ get_or objects i d → is_waiting left object ≡ false
    → MatchOption found (list_any (is_waiting left) (take i objects) ≡ false) (λ o. (is_among objects o ≡ true) × (is_waiting left o ≡ true))
    → MatchOption found (list_any (is_waiting left) (take (i + 1) objects) ≡ false) (λ o. (is_among objects o ≡ true) × (is_waiting left o ≡ true))
found_none left objects i object d (Some o) h is w before = before
found_none left objects i object d None h is w before =
    rw (take_more objects i d h, list_any-append (is_waiting left) (take i objects) (get_or objects i d ∷ []), ← is)
    (or_neither (list_any (is_waiting left) (take i objects)) _ before (or_neither (is_waiting left object) false w refl))

-- ---- what is next

pub nothing_next : (links : List (List ℕ)) (left : List ℕ) → AreSuccessorsBelow 0 links left []
nothing_next links left = record {
  size = refl;
  linked = λ object h. absurd (omega (arith, h));
  waiting = λ object h. absurd (omega (arith, h));
}

-- an object that is linked to one that waits leads to such a one
abbrev Leads : List (List ℕ) → List ℕ → ℕ → ℕ → Type 0
Leads links left object next = (is_among (links_of links object) next ≡ true) × (is_waiting left next ≡ true)

found_leads : (links : List (List ℕ)) (left : List ℕ) (object value : ℕ) (found : Option ℕ) → value ≡ unwrap_or found object
    → MatchOption found (list_any (is_waiting left) (links_of links object) ≡ false) (λ o. (is_among (links_of links object) o ≡ true) × (is_waiting left o ≡ true))
    → list_any (is_waiting left) (links_of links object) ≡ true → Leads links left object value
found_leads links left object value (Some o) is found nonempty = subst (Leads links left object) (sym is) found
found_leads links left object value None is none nonempty = absurd (let e = none in cc)

at_pushed : (next : List ℕ) (count value object : ℕ) → length next ≡ count → object ≡ count → step (next ++ value ∷ []) object ≡ value
at_pushed next count value object size same =
    let none : object - count ≡ 0 = omega (arith, same) in
    get_or-append_right next (value ∷ []) count object object size (omega (arith, same)) ∙ ap (λ i. get_or (value ∷ []) i object) none

pub next_pushed : (links : List (List ℕ)) (left next longer : List ℕ) (count value : ℕ) (found : Option ℕ) → value ≡ unwrap_or found count
    → longer ≡ next ++ value ∷ []
    → MatchOption found (list_any (is_waiting left) (links_of links count) ≡ false) (λ o. (is_among (links_of links count) o ≡ true) × (is_waiting left o ≡ true))
    → AreSuccessorsBelow count links left next → AreSuccessorsBelow (count + 1) links left longer
next_pushed links left next longer count value found is pushed has_path before =
    let each : (object : ℕ) → object < count + 1 → list_any (is_waiting left) (links_of links object) ≡ true → Leads links left object (step (next ++ value ∷ []) object)
    = λ object h nonempty. elim (cases_lt object count) [
      | inl early ↦
          let at : step (next ++ value ∷ []) object ≡ step next object = get_or_append_left next (value ∷ []) object object (omega (arith, early, before.size)) in
          subst (Leads links left object) (sym at) (before.linked object early nonempty, before.waiting object early nonempty)
      | inr last ↦
          let same : object ≡ count = omega (arith, h, last) in
          let at = at_pushed next count value object before.size same in
          let lead : Leads links left count value = found_leads links left count value found is has_path (subst (λ o. list_any (is_waiting left) (links_of links o) ≡ true) same nonempty) in
          subst (λ o. Leads links left o (step (next ++ value ∷ []) object)) (sym same) (subst (Leads links left count) (sym at) lead)
    ] in
    subst (AreSuccessorsBelow (count + 1) links left) (sym pushed) (record {
      size = length_push next value ∙ ap (λ n. n + 1) before.size;
      linked = λ object h nonempty. (each object h nonempty).0;
      waiting = λ object h nonempty. (each object h nonempty).1;
    })
