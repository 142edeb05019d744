-- The objects of a setup as they are found among the saved ones, the last of these first.
use Rattle.std.proofs.Common.{◌≡◌, ◌≢◌, ℕ, ◌+◌, ◌<◌, ◌≤◌, ◌==◌, Bool, true, false, List, length, drop, get_or, set, bytes_eq}
use Rattle.std.proofs.Common.{Option, Some, None, option_map, refl, sym, ap, ◌∙◌, arith}
use Rattle.std.specs.Prelude.{find, slice_get}
use Rattle.std.proofs.lemmas.Bool.{eqb-false, eqb-true}
use Rattle.std.proofs.lemmas.List.{get_or-set_other, get_or-set_same, get_or_default, length-set, same_lists}
use Rattle.std.proofs.lemmas.Option.{slice_get-get_or, slice_get_within}
use Rattle.setup_model.specs.declared.parsed_setup.Object.{Object}
use Rattle.check_objects.specs.Configuration.{Configuration, IsSetup, NamedObject, name_of, number_by_name, object_count, objects_of}
use Rattle.check_objects.proofs.NameLemmas.{item_at}
use Rattle.check_saved_state.specs.Saved.{Saved, SavedObject, saved_by_name}
use Rattle.check_sched.proofs.EachObjectLaws.{name_is, object_is, slice_each}
use Rattle.check_sched.proofs.SavedIndexLaws.{apart, find_first, from_place, number_is, number_names}
use Rattle.check_sched.proofs.ReportLaws.{check_in_range, object_read_in_range}
use Rattle.check_sched.proofs.ResumedLaws.{length-made}
use Rattle.setup_summary.specs.declared.diffs.ObjectDiff.{ObjectDiff}
use Rattle.setup_summary.specs.Changes.{object_diff, object_diffs}

-- every object of the setup by number, as it is found among some of the saved ones
pub record AreFound (setup : Configuration) (some : List SavedObject) (kept : List (Option ObjectDiff)) : Type 0 where
  pub one_each : length kept ≡ object_count setup
  pub found : (number : ℕ) (o : NamedObject) → slice_get (objects_of setup) number ≡ Some o
      → get_or kept number None ≡ option_map (object_diff setup o.object) (find (λ x. bytes_eq o.name x.name) some)

-- ---- names and numbers

-- an object's full name has its number
named_is : (c : Configuration) (n : ℕ) (o : NamedObject) (name : List ℕ) → IsSetup c → slice_get (objects_of c) n ≡ Some o → bytes_eq o.name name ≡ true
    → number_by_name c name ≡ Some n
named_is c n o name valid at e =
    number_is c n name valid (slice_get_within (objects_of c) n o at) (ap (λ full. bytes_eq full name) (name_is c n o at) ∙ e)

-- ---- one saved object more

-- one more that the setup hasn't
pub found_past : (c : Configuration) (k : ℕ) (objects : List SavedObject) (x : SavedObject) (kept : List (Option ObjectDiff)) → IsSetup c → k < length objects
    → x ≡ get_or objects k x → number_by_name c x.name ≡ None → AreFound c (drop (k + 1) objects) kept → AreFound c (drop k objects) kept
found_past c k objects x kept valid l e none was = record {
  one_each = was.one_each;
  found = λ n o at. was.found n o at ∙ ap (option_map (object_diff c o.object)) (apart o.name k objects x l e
      (λ same. let clash : None ≡ Some n = sym none ∙ named_is c n o x.name valid at same in cc));
}

found_by : (c : Configuration) (k number n : ℕ) (o : NamedObject) (object : Object) (objects : List SavedObject) (x : SavedObject) (kept : List (Option ObjectDiff)) (same : Bool)
    → (number == n) ≡ same → IsSetup c → k < length objects → x ≡ get_or objects k x → number_by_name c x.name ≡ Some number
    → option_map (λ z. z.object) (slice_get (objects_of c) number) ≡ Some object → AreFound c (drop (k + 1) objects) kept → slice_get (objects_of c) n ≡ Some o
    → get_or (set kept number (Some (object_diff c object x))) n None ≡ option_map (object_diff c o.object) (find (λ y. bytes_eq o.name y.name) (drop k objects))
found_by c k number n o object objects x kept true s valid l e f read was at =
    let here : number ≡ n = eqb-true number n s in
    let long = was.one_each in
    let m = slice_get_within (objects_of c) n o at in
    let p : SavedObject → Bool = λ y. bytes_eq o.name y.name in
    let is : object ≡ o.object = object_is (slice_get (objects_of c) number) o object (ap (slice_get (objects_of c)) here ∙ at) read in
    let named : bytes_eq o.name x.name ≡ true =
    ap (λ name. bytes_eq name x.name) (sym (ap (name_of c) here ∙ name_is c n o at)) ∙ (number_names c number x.name f).1 in
    ap (λ j. get_or (set kept number (Some (object_diff c object x))) j None) (sym here)
    ∙ get_or-set_same kept number (Some (object_diff c object x)) None (omega (arith, here, m, long))
    ∙ ap (λ z. Some (object_diff c z x)) is
    ∙ sym (ap (option_map (object_diff c o.object)) (ap (find p) (from_place k objects x l e) ∙ find_first p x (drop (k + 1) objects) named))
found_by c k number n o object objects x kept false s valid l e f read was at =
    let other : number ≢ n = eqb-false number n s in
    get_or-set_other kept number n (Some (object_diff c object x)) None (λ back. other (sym back))
    ∙ was.found n o at
    ∙ ap (option_map (object_diff c o.object)) (apart o.name k objects x l e
    (λ same. let both : Some number ≡ Some n = sym f ∙ named_is c n o x.name valid at same in let clash : number ≡ n = cc in other clash))

-- one more that the setup has
pub found_more : (c : Configuration) (k number : ℕ) (object : Object) (objects : List SavedObject) (x : SavedObject) (kept : List (Option ObjectDiff)) → IsSetup c
    → k < length objects → x ≡ get_or objects k x → number_by_name c x.name ≡ Some number → option_map (λ z. z.object) (slice_get (objects_of c) number) ≡ Some object
    → AreFound c (drop (k + 1) objects) kept → AreFound c (drop k objects) (set kept number (Some (object_diff c object x)))
found_more c k number object objects x kept valid l e f read was = record {
  one_each = length-set kept number (Some (object_diff c object x)) ∙ was.one_each;
  found = λ n o at. found_by c k number n o object objects x kept (number == n) refl valid l e f read was at;
}

-- ---- all of them

at_number : (c : Configuration) (saved : Saved) (kept : List (Option ObjectDiff)) (n : ℕ) (d : Option ObjectDiff) → AreFound c saved.objects kept → n < length kept
    → get_or kept n d ≡ get_or (object_diffs c saved) n d
at_number c saved kept n d h l =
    let made : ℕ × NamedObject → Option ObjectDiff = λ p. option_map (object_diff c p.1.object) (saved_by_name saved p.1.name) in
    let bounded = h.one_each in
    let long = length-made c made in
    let item = item_at (objects_of c) n (omega (arith, l, bounded)) in
    let there = slice_each made n (objects_of c) item.item item.at in
    let read = slice_get-get_or (object_diffs c saved) n d (omega (arith, l, bounded, long)) in
    let both : Some (made (n, item.item)) ≡ Some (get_or (object_diffs c saved) n d) = sym there ∙ read in
    let is : made (n, item.item) ≡ get_or (object_diffs c saved) n d = cc in
    get_or_default kept n d None l ∙ h.found n item.item item.at ∙ is

pub found_all : (c : Configuration) (saved : Saved) (kept : List (Option ObjectDiff)) → AreFound c saved.objects kept → kept ≡ object_diffs c saved
found_all c saved kept h =
    same_lists kept (object_diffs c saved) (h.one_each ∙ sym (length-made c (λ p. option_map (object_diff c p.1.object) (saved_by_name saved p.1.name))))
    (λ n d l. at_number c saved kept n d h l)

-- ---- the interval of an object that was read

pub read_interval : (c : Configuration) (n : ℕ) (o : Object) → IsSetup c → option_map (λ x. x.object) (slice_get (objects_of c) n) ≡ Some o → o.check_interval ≤ 525600
read_interval c n o valid e = check_in_range o (object_read_in_range c n o valid e)
