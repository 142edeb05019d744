-- The order of what is kept says nothing: in any order a scheduler continues from it in the same state.
use Rattle.std.proofs.Common.{◌≡◌, ℕ, ◌+◌, ◌||◌, Bool, true, false, cond, List, [], ◌∷◌, map, Some, None, bytes_eq, refl, sym, ap, ◌∙◌}
use Rattle.std.specs.Prelude.{find, slice_get}
use Rattle.std.specs.List.{Contains, enumerate_from, list_any}
use Rattle.std.specs.List.Sorted.{IsPermutation}
use Rattle.std.proofs.lemmas.List.Sorted.{Contains-permutation, IsPermutation-sym, list_any-IsPermutation}
use Rattle.std.proofs.lemmas.Option.{get_or_from_slice_get, slice_get-get_or, slice_get_within}
use Rattle.check_objects.specs.Configuration.{Configuration, NamedObject, objects_of}
use Rattle.check_sched.specs.Saved.{first_time, state_after_resume, results_after_resume, scheduling_after_resume, standing_after_resume, within_limit}
use Rattle.check_saved_state.specs.Saved.{IsSaved, Saved, SavedObject, saved_by_name}
use Rattle.check_sched.specs.State.{is_host}
use Rattle.check_sched.proofs.ResumedLaws.{found_at}
use Rattle.check_sched.proofs.SavedLaws.{text_is}

-- ---- what is found

none_by : (test : SavedObject → Bool) (x : SavedObject) (xs : List SavedObject) (b : Bool) → (list_any test xs ≡ false → find test xs ≡ None)
    → (b || list_any test xs) ≡ false → cond b (Some x) (find test xs) ≡ None
none_by test x xs true later h = cc
none_by test x xs false later h = later h

none_found : (test : SavedObject → Bool) (xs : List SavedObject) → list_any test xs ≡ false → find test xs ≡ None
none_found test [] h = refl
none_found test (x ∷ xs) h = none_by test x xs (test x) (none_found test xs) h

some_by : (test : SavedObject → Bool) (x : SavedObject) (xs : List SavedObject) (b : Bool)
    → (list_any test xs ≡ true → (y : SavedObject) × (find test xs ≡ Some y)) → (b || list_any test xs) ≡ true
    → (y : SavedObject) × (cond b (Some x) (find test xs) ≡ Some y)
some_by test x xs true later h = (x, refl)
some_by test x xs false later h = later h

some_found : (test : SavedObject → Bool) (xs : List SavedObject) → list_any test xs ≡ true → (y : SavedObject) × (find test xs ≡ Some y)
some_found test [] h = cc
some_found test (x ∷ xs) h = some_by test x xs (test x) (some_found test xs) h

-- an element stands at some place
at_place : (xs : List SavedObject) (x : SavedObject) → Contains xs x → (place : ℕ) × (slice_get xs place ≡ Some x)
at_place xs x h = (h.0, slice_get-get_or xs h.0 x h.1 ∙ ap Some h.2)

is_there : (xs : List SavedObject) (place : ℕ) (x : SavedObject) → slice_get xs place ≡ Some x → Contains xs x
is_there xs place x e = (place, slice_get_within xs place x e, get_or_from_slice_get xs place x x e)

-- ---- by name

same_by : (saved : Saved) (others : List SavedObject) (name : List ℕ) (any : Bool) → IsSaved saved → IsPermutation saved.objects others
    → list_any (λ o. bytes_eq name o.name) saved.objects ≡ any
    → find (λ o. bytes_eq name o.name) saved.objects ≡ find (λ o. bytes_eq name o.name) others
same_by saved others name false is moved e =
    let in_range : list_any (λ (o : SavedObject). bytes_eq name o.name) others ≡ false =
    sym (list_any-IsPermutation (λ (o : SavedObject). bytes_eq name o.name) saved.objects others moved) ∙ e in
    none_found (λ o. bytes_eq name o.name) saved.objects e ∙ sym (none_found (λ o. bytes_eq name o.name) others in_range)
same_by saved others name true is moved e =
    let in_range : list_any (λ (o : SavedObject). bytes_eq name o.name) others ≡ true =
    sym (list_any-IsPermutation (λ (o : SavedObject). bytes_eq name o.name) saved.objects others moved) ∙ e in
    let one = some_found (λ o. bytes_eq name o.name) saved.objects e in
    let other = some_found (λ o. bytes_eq name o.name) others in_range in
    let here = found_at (λ o. bytes_eq name o.name) saved.objects one.0 one.1 in
    let moved_to = found_at (λ o. bytes_eq name o.name) others other.0 other.1 in
    let back = at_place saved.objects other.0 (Contains-permutation others saved.objects other.0 (IsPermutation-sym saved.objects others moved)
    (is_there others moved_to.0 other.0 moved_to.1)) in
    let names : one.0.name ≡ other.0.name = sym (text_is name one.0.name here.2) ∙ text_is name other.0.name moved_to.2 in
    let saved_indexes = is.apart here.0 back.0 one.0 other.0 here.1 back.1 names in
    one.1 ∙ (sym here.1 ∙ ap (slice_get saved.objects) saved_indexes ∙ back.1) ∙ sym other.1

found_same : (saved : Saved) (others : List SavedObject) (name : List ℕ) → IsSaved saved → IsPermutation saved.objects others
    → saved_by_name saved name ≡ saved_by_name (record saved { objects = others }) name
found_same saved others name is moved = same_by saved others name (list_any (λ o. bytes_eq name o.name) saved.objects) is moved refl

-- ---- the state

each_same : {X : Type 0} (one other : ℕ × NamedObject → X) (k : ℕ) (os : List NamedObject) → ((p : ℕ × NamedObject) → one p ≡ other p)
    → map one (enumerate_from k os) ≡ map other (enumerate_from k os)
each_same one other k [] h = refl
each_same one other k (o ∷ os) h = λ i. h (k, o) i ∷ each_same one other (k + 1) os h i

pub resumed_in_any_order : (c : Configuration) (saved : Saved) (others : List SavedObject) (start : ℕ) → IsSaved saved → IsPermutation saved.objects others
    → state_after_resume c (record saved { objects = others }) start ≡ state_after_resume c saved start
resumed_in_any_order c saved others start is moved =
    let same : (name : List ℕ) → saved_by_name (record saved { objects = others }) name ≡ saved_by_name saved name = λ name. sym (found_same saved others name is moved) in
    λ i. record {
      setup = c;
      start = start;
      objects = within_limit c start (each_same (λ p. scheduling_after_resume c (first_time c start p.0) p.1.object (saved_by_name (record saved { objects = others }) p.1.name))
          (λ p. scheduling_after_resume c (first_time c start p.0) p.1.object (saved_by_name saved p.1.name)) 0 (objects_of c)
          (λ p. ap (scheduling_after_resume c (first_time c start p.0) p.1.object) (same p.1.name)) i);
      standings = each_same (λ p. standing_after_resume (is_host c p.0) p.1.object (saved_by_name (record saved { objects = others }) p.1.name))
          (λ p. standing_after_resume (is_host c p.0) p.1.object (saved_by_name saved p.1.name)) 0 (objects_of c)
          (λ p. ap (standing_after_resume (is_host c p.0) p.1.object) (same p.1.name)) i;
      results = each_same (λ p. results_after_resume (saved_by_name (record saved { objects = others }) p.1.name))
          (λ p. results_after_resume (saved_by_name saved p.1.name)) 0 (objects_of c) (λ p. ap results_after_resume (same p.1.name)) i;
      runs = saved.runs;
    }
