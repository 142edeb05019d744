-- Laws of the places of objects in what was saved.
use Rattle.std.proofs.Common.{◌≡◌, ◌≢◌, ℕ, ◌+◌, ◌-◌, ◌<◌, ◌≤◌, ◌==◌, Bool, true, false, List, [], ◌∷◌, length, drop, get_or, set, replicate, bytes_eq}
use Rattle.std.proofs.Common.{Option, Some, None, refl, sym, ap, ◌∙◌, subst, arith}
use Rattle.std.specs.Prelude.{find, option_and_then, slice_get}
use Rattle.std.specs.List.{list_any}
use Rattle.std.proofs.lemmas.Bool.{eqb-false, eqb-true}
use Rattle.std.proofs.lemmas.List.{drop_more, get_or-replicate, get_or-set_other, get_or-set_same, length-replicate, length-set}
use Rattle.check_objects.specs.Configuration.{Configuration, IsSetup, NamedObject, name_of, number_by_name, object_count, objects_of}
use Rattle.check_objects.proofs.NameLemmas.{found, name_leads_back, names_of_setup, nowhere, same_text}
use Rattle.check_saved_state.specs.Saved.{SavedObject}
use Rattle.check_sched.specs.SavedIndexes.{AreSavedIndexes}
use Rattle.check_sched.proofs.EachObjectLaws.{name_is}
use Rattle.check_sched.proofs.ReportLaws.{read_at}
use Rattle.check_sched.proofs.SavedLaws.{text_is}

-- ---- names and numbers

-- an object's full name has its number
pub number_is : (c : Configuration) (n : ℕ) (name : List ℕ) → IsSetup c → n < object_count c → bytes_eq (name_of c n) name ≡ true → number_by_name c name ≡ Some n
number_is c n name valid l e = ap (number_by_name c) (sym (text_is (name_of c n) name e)) ∙ name_leads_back c (names_of_setup c valid) n l

named_by : (c : Configuration) (n : ℕ) (name : List ℕ) (some : Bool) → list_any (λ (o : NamedObject). bytes_eq name o.name) (objects_of c) ≡ some → number_by_name c name ≡ Some n
    → (n < object_count c) × (bytes_eq (name_of c n) name ≡ true)
named_by c n name true e f =
    let at = found (λ (o : NamedObject). bytes_eq name o.name) (objects_of c) e in
    let both : Some at.index ≡ Some n = sym at.place ∙ f in
    let here : at.index ≡ n = cc in
    let below = at.below in
    let full : name_of c n ≡ name = ap (name_of c) (sym here) ∙ name_is c at.index at.item at.at ∙ sym (text_is name at.item.name at.passes) in
    (omega (arith, here, below), ap (λ text. bytes_eq text name) full ∙ same_text name)
named_by c n name false e f = let none = nowhere (λ (o : NamedObject). bytes_eq name o.name) (objects_of c) e in let clash : None ≡ Some n = sym none ∙ f in absurd (cc)

-- the object whose number a full name has is there, and has that name
pub number_names : (c : Configuration) (n : ℕ) (name : List ℕ) → number_by_name c name ≡ Some n → (n < object_count c) × (bytes_eq (name_of c n) name ≡ true)
number_names c n name f = named_by c n name _ refl f

-- ---- one object more

false_by : (b : Bool) → (b ≡ true → ⊥) → b ≡ false
false_by true h = absurd (h refl)
false_by false h = refl

pub find_first : (p : SavedObject → Bool) (x : SavedObject) (xs : List SavedObject) → p x ≡ true → find p (x ∷ xs) ≡ Some x
find_first p x xs e = rw e refl

find_later : (p : SavedObject → Bool) (x : SavedObject) (xs : List SavedObject) → p x ≡ false → find p (x ∷ xs) ≡ find p xs
find_later p x xs e = rw e refl

-- the list from a place on
pub from_place : (k : ℕ) (objects : List SavedObject) (x : SavedObject) → k < length objects → x ≡ get_or objects k x → drop k objects ≡ x ∷ drop (k + 1) objects
from_place k objects x l e = drop_more objects k x l ∙ ap (λ y. y ∷ drop (k + 1) objects) (sym e)

-- an object of another name changes nothing
pub apart : (name : List ℕ) (k : ℕ) (objects : List SavedObject) (x : SavedObject) → k < length objects → x ≡ get_or objects k x
    → (bytes_eq name x.name ≡ true → ⊥)
    → find (λ o. bytes_eq name o.name) (drop (k + 1) objects) ≡ find (λ o. bytes_eq name o.name) (drop k objects)
apart name k objects x l e other =
    let p : SavedObject → Bool = λ o. bytes_eq name o.name in
    sym (ap (find p) (from_place k objects x l e) ∙ find_later p x (drop (k + 1) objects) (false_by (p x) other))

pub places_none : (c : Configuration) (objects : List SavedObject) → AreSavedIndexes c objects [] (replicate (object_count c) None)
places_none c objects = record {
  one_each = length-replicate (object_count c) None;
  found = λ n l. ap (option_and_then (slice_get objects)) (get_or-replicate (object_count c) n None None l);
}

-- what holds of the places from one on is what holds after the one before it
pub one_before : (c : Configuration) (objects : List SavedObject) (place : ℕ) (saved_indexes : List (Option ℕ)) → 0 < place → place ≤ length objects
    → AreSavedIndexes c objects (drop place objects) saved_indexes
    → record { in_range : place - 1 < length objects; was : AreSavedIndexes c objects (drop (place - 1 + 1) objects) saved_indexes }
one_before c objects place saved_indexes some within are =
    let next : place ≡ place - 1 + 1 = omega (arith, some) in
    record { in_range = omega (arith, some, within); was = subst (λ k. AreSavedIndexes c objects (drop k objects) saved_indexes) next are }

-- one more that the setup doesn't have
pub places_past : (c : Configuration) (k : ℕ) (objects : List SavedObject) (x : SavedObject) (saved_indexes : List (Option ℕ)) → IsSetup c → k < length objects
    → x ≡ get_or objects k x → number_by_name c x.name ≡ None → AreSavedIndexes c objects (drop (k + 1) objects) saved_indexes → AreSavedIndexes c objects (drop k objects) saved_indexes
places_past c k objects x saved_indexes valid l e none was = record {
  one_each = was.one_each;
  found = λ n m. was.found n m ∙ apart (name_of c n) k objects x l e
      (λ same. let clash : None ≡ Some n = sym none ∙ number_is c n x.name valid m same in cc);
}

found_by : (c : Configuration) (k number n : ℕ) (objects : List SavedObject) (x : SavedObject) (saved_indexes : List (Option ℕ)) (same : Bool) → (number == n) ≡ same
    → IsSetup c → k < length objects → x ≡ get_or objects k x → number_by_name c x.name ≡ Some number → AreSavedIndexes c objects (drop (k + 1) objects) saved_indexes
    → n < object_count c
    → option_and_then (slice_get objects) (get_or (set saved_indexes number (Some k)) n None) ≡ find (λ o. bytes_eq (name_of c n) o.name) (drop k objects)
found_by c k number n objects x saved_indexes true s valid l e f was m =
    let here : number ≡ n = eqb-true number n s in
    let long = was.one_each in
    let p : SavedObject → Bool = λ o. bytes_eq (name_of c n) o.name in
    let named = number_names c number x.name f in
    ap (λ j. option_and_then (slice_get objects) (get_or (set saved_indexes number (Some k)) j None)) (sym here)
    ∙ ap (option_and_then (slice_get objects)) (get_or-set_same saved_indexes number (Some k) None (omega (arith, here, m, long)))
    ∙ read_at objects k x l e
    ∙ sym (ap (find p) (from_place k objects x l e) ∙ find_first p x (drop (k + 1) objects) (ap (λ j. bytes_eq (name_of c j) x.name) (sym here) ∙ named.1))
found_by c k number n objects x saved_indexes false s valid l e f was m =
    let other : number ≢ n = eqb-false number n s in
    ap (option_and_then (slice_get objects)) (get_or-set_other saved_indexes number n (Some k) None (λ back. other (sym back)))
    ∙ was.found n m ∙ apart (name_of c n) k objects x l e
    (λ same. let both : Some number ≡ Some n = sym f ∙ number_is c n x.name valid m same in let clash : number ≡ n = cc in other clash)

-- one more that the setup has
pub places_more : (c : Configuration) (k number : ℕ) (objects : List SavedObject) (x : SavedObject) (saved_indexes : List (Option ℕ)) → IsSetup c → k < length objects
    → x ≡ get_or objects k x → number_by_name c x.name ≡ Some number → AreSavedIndexes c objects (drop (k + 1) objects) saved_indexes
    → AreSavedIndexes c objects (drop k objects) (set saved_indexes number (Some k))
places_more c k number objects x saved_indexes valid l e f was = record {
  one_each = length-set saved_indexes number (Some k) ∙ was.one_each;
  found = λ n m. found_by c k number n objects x saved_indexes (number == n) refl valid l e f was m;
}
