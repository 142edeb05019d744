-- How many objects of a saved state are kept, and how many are dropped.
use Rattle.std.proofs.Common.{◌≡◌, ℕ, suc, ◌+◌, ◌&&◌, ◌||◌, Bool, true, false, not, List, [], ◌∷◌, bytes_eq, cond, length, map, Option, Some}
use Rattle.std.proofs.Common.{refl, sym, ap, ◌∙◌, arith}
use Rattle.std.specs.Prelude.{count_by, filter, find, is_none, is_some, slice_get}
use Rattle.std.specs.List.{AllByRecursion, IsDistinct, list_any, position}
use Rattle.std.specs.Set.{is_member}
use Rattle.std.proofs.Math.Bool.{and_comm}
use Rattle.std.proofs.lemmas.Cmp.{nat_list_eq_equiv}
use Rattle.std.proofs.lemmas.List.Sums.{length-filter}
use Rattle.std.proofs.lemmas.Map.Made.{is_member-filter, length-IsIntersection}
use Rattle.std.proofs.lemmas.Map.Steps.{list_any_congr}
use Rattle.setup_model.proofs.ListLemmas.{list_any-map, sum_by-map}
use Rattle.check_objects.proofs.NameLemmas.{found, nowhere}
use Rattle.check_objects.specs.Configuration.{Configuration, IsSetup, NamedObject, number_by_name, objects_of}
use Rattle.check_saved_state.specs.Saved.{IsSaved, Saved, SavedObject, saved_by_name}
use Rattle.check_sched.proofs.SavedLaws.{alone, text_is}
use Rattle.setup_summary.specs.Changes.{dropped_count, kept_count}
use Rattle.setup_summary.proofs.FigureLaws.{yes_and_no}

-- ---- lists without a text twice

apart_by : (x y : List ℕ) (rest : List (List ℕ)) (b : Bool) → bytes_eq x y ≡ false → AllByRecursion (λ z. bytes_eq x z ≡ false) rest
    → AllByRecursion (λ z. bytes_eq x z ≡ false) (cond b (y ∷ rest) rest)
apart_by x y rest true f h = (f, h)
apart_by x y rest false f h = h

apart_filter : (test : List ℕ → Bool) (x : List ℕ) (ys : List (List ℕ)) → AllByRecursion (λ z. bytes_eq x z ≡ false) ys
    → AllByRecursion (λ z. bytes_eq x z ≡ false) (filter test ys)
apart_filter test x [] h = h
apart_filter test x (y ∷ ys) h = apart_by x y (filter test ys) (test y) h.0 (apart_filter test x ys h.1)

distinct_by : (x : List ℕ) (rest : List (List ℕ)) (b : Bool) → AllByRecursion (λ z. bytes_eq x z ≡ false) rest → IsDistinct bytes_eq rest
    → IsDistinct bytes_eq (cond b (x ∷ rest) rest)
unfolding IsDistinct
distinct_by x rest true f h = (f, h)
distinct_by x rest false f h = h

distinct_filter : (test : List ℕ → Bool) (xs : List (List ℕ)) → IsDistinct bytes_eq xs → IsDistinct bytes_eq (filter test xs)
unfolding IsDistinct
distinct_filter test [] h = h
distinct_filter test (x ∷ xs) h = distinct_by x (filter test xs) (test x) (apart_filter test x xs h.0) (distinct_filter test xs h.1)

-- two lists share as many texts, counted in either of them
shared : (xs ys : List (List ℕ)) → IsDistinct bytes_eq xs → IsDistinct bytes_eq ys
    → count_by (is_member bytes_eq ys) xs ≡ count_by (is_member bytes_eq xs) ys
shared xs ys one other =
    let zs = filter (is_member bytes_eq ys) xs in
    let each : (q : List ℕ) → is_member bytes_eq zs q ≡ (is_member bytes_eq ys q && is_member bytes_eq xs q) = λ q.
    is_member-filter nat_list_eq_equiv (is_member bytes_eq ys) q (λ x e. list_any_congr nat_list_eq_equiv q x ys e) xs
    ∙ and_comm (is_member bytes_eq xs q) (is_member bytes_eq ys q) in
    sym (length-filter (is_member bytes_eq ys) xs)
    ∙ length-IsIntersection nat_list_eq_equiv ys xs zs other (distinct_filter (is_member bytes_eq ys) xs one) each

-- ---- names

no_by : (b : Bool) → (b ≡ true → ⊥) → b ≡ false
no_by true h = absurd (h refl)
no_by false h = refl

none_same : {A : Type 0} (name : A → List ℕ) (x : A) (xs : List A) → ((n : ℕ) (y : A) → slice_get xs n ≡ Some y → name x ≡ name y → ⊥)
    → AllByRecursion (λ z. bytes_eq (name x) z ≡ false) (map name xs)
none_same name x [] h = tt
none_same name x (y ∷ ys) h =
    (no_by (bytes_eq (name x) (name y)) (λ e. h 0 y refl (text_is (name x) (name y) e)), none_same name x ys (λ n. h (suc n)))

distinct_names : {A : Type 0} (name : A → List ℕ) (xs : List A)
    → ((m n : ℕ) (x y : A) → slice_get xs m ≡ Some x → slice_get xs n ≡ Some y → name x ≡ name y → m ≡ n) → IsDistinct bytes_eq (map name xs)
unfolding IsDistinct
distinct_names name [] h = tt
distinct_names name (x ∷ xs) h = (
  none_same name x xs (λ n y e f. let clash : 0 ≡ suc n = h 0 (suc n) x y refl e f in omega arith),
  distinct_names name xs (λ m n y z e f g. let same : suc m ≡ suc n = h (suc m) (suc n) y z e f g in omega arith),
)

found_step : {A : Type 0} (b any : Bool) (x : A) (rest : Option A) → is_some rest ≡ any → is_some (cond b (Some x) rest) ≡ (b || any)
found_step true any x rest h = refl
found_step false any x rest h = h

found_any : {A : Type 0} (p : A → Bool) (xs : List A) → is_some (find p xs) ≡ list_any p xs
found_any p [] = refl
found_any p (x ∷ xs) = found_step (p x) (list_any p xs) x (find p xs) (found_any p xs)

placed_by : {A : Type 0} (p : A → Bool) (xs : List A) (any : Bool) → list_any p xs ≡ any → is_none (position p xs) ≡ not any
placed_by p xs true e = ap is_none (found p xs e).place
placed_by p xs false e = ap is_none (nowhere p xs e)

-- ---- kept and dropped

pub kept_or_dropped : (c : Configuration) (saved : Saved) → IsSetup c → IsSaved saved → kept_count c saved + dropped_count c saved ≡ length saved.objects
kept_or_dropped c saved valid is =
    let named : List (List ℕ) = map (λ (n : NamedObject). n.name) (objects_of c) in
    let stored : List (List ℕ) = map (λ (o : SavedObject). o.name) saved.objects in
    let keeps : (n : NamedObject) → is_some (saved_by_name saved n.name) ≡ is_member bytes_eq stored n.name = λ n.
    found_any (λ (o : SavedObject). bytes_eq n.name o.name) saved.objects ∙ sym (list_any-map (bytes_eq n.name) (λ (o : SavedObject). o.name) saved.objects) in
    let drops : (o : SavedObject) → is_none (number_by_name c o.name) ≡ not (is_member bytes_eq named o.name) = λ o.
    placed_by (λ (n : NamedObject). bytes_eq o.name n.name) (objects_of c) _ refl
    ∙ ap not (sym (list_any-map (bytes_eq o.name) (λ (n : NamedObject). n.name) (objects_of c))) in
    let kept : kept_count c saved ≡ count_by (is_member bytes_eq stored) named =
    (λ i. count_by (λ (n : NamedObject). keeps n i) (objects_of c))
    ∙ sym (sum_by-map (λ t. cond (is_member bytes_eq stored t) 1 0) (λ (n : NamedObject). n.name) (objects_of c)) in
    let both = shared named stored (distinct_names (λ (n : NamedObject). n.name) (objects_of c) (λ m n x y e f same. alone c m n x y valid e f same))
    (distinct_names (λ (o : SavedObject). o.name) saved.objects is.apart) in
    let back = sum_by-map (λ t. cond (is_member bytes_eq named t) 1 0) (λ (o : SavedObject). o.name) saved.objects in
    ap (λ k. k + dropped_count c saved) (kept ∙ both ∙ back)
    ∙ yes_and_no (λ (o : SavedObject). is_member bytes_eq named o.name) (λ (o : SavedObject). is_none (number_by_name c o.name)) saved.objects drops
