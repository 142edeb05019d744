-- Where no test refuses anything, each passes; where no item of a list is refused, all pass.
use Rattle.std.proofs.Common.{◌≡◌, ℕ, suc, ◌+◌, ◌&&◌, not, Bool, true, false, cond, List, [], ◌∷◌, drop, length, map, Option, Some, None, refl, sym, ap, ◌∙◌}
use Rattle.std.proofs.Common.{Result, Ok, Err, arith}
use Rattle.std.specs.Prelude.{nat_lt}
use Rattle.std.specs.List.{list_all, position, prefix_len}
use Rattle.std.proofs.lemmas.Bool.Decides.{nat_tests}
use Rattle.setup_model.specs.declared.fault.End.{End}
use Rattle.setup_model.specs.declared.fault.End.TheVariants as end
use Rattle.setup_model.specs.declared.place.Part.{Part}
use Rattle.setup_model.specs.ParsedSetup.{ParsedDependency}
use Rattle.setup_model.specs.Ends.{has_known_ends, is_known, dependency_test, dependency_ends_test, end_test, dependency_list_test, end_fault}
use Rattle.setup_model.specs.Fault as fault
use Rattle.setup_model.specs.Agreement.{◌>>=◌, each_from, with_error, error_at}
use Rattle.setup_model.specs.Place.{item_place}
use Rattle.setup_model.proofs.ListLemmas.{missed}

-- what went before another test refused nothing where both together refused nothing
pub first_ok : {B E : Type 0} (a : Result (Unit {0}) E) (f : Unit {0} → Result B E) (y : B) → (a >>= f) ≡ Ok y → a ≡ Ok tt
first_ok (Ok u) f y e = refl
first_ok (Err x) f y e = cc

-- nor did the other
pub rest_ok : {B E : Type 0} (a : Result (Unit {0}) E) (f : Unit {0} → Result B E) (y : B) → (a >>= f) ≡ Ok y → f tt ≡ Ok y
rest_ok (Ok u) f y e = e
rest_ok (Err x) f y e = cc

-- nothing was refused where there is no place of a fault
pub nowhere : {E : Type 0} (fault : ℕ → E) (o : Option ℕ) → error_at fault o ≡ Ok tt → o ≡ None
nowhere fault None e = refl
nowhere fault (Some i) e = cc

-- nothing is refused, however the refusal is seen
pub still_ok : {E F : Type 0} (see : E → F) (r : Result (Unit {0}) E) → with_error see r ≡ Ok tt → r ≡ Ok tt
still_ok see (Ok u) e = refl
still_ok see (Err x) e = cc

prefix_all_by : {A : Type 0} (p : A → Bool) (x : A) (xs : List A) (b : Bool) → p x ≡ b → (nat_lt (prefix_len p xs) (length xs) ≡ false → list_all p xs ≡ true)
    → nat_lt (cond b (1 + prefix_len p xs) 0) (suc (length xs)) ≡ false → (b && list_all p xs) ≡ true
prefix_all_by p x xs true t more e = more (let h : nat_lt (1 + prefix_len p xs) (suc (length xs)) ≡ false = e in grind (arith, nat_tests, h))
prefix_all_by p x xs false t more e = absurd (let h : nat_lt 0 (suc (length xs)) ≡ false = e in grind (arith, nat_tests, h))

prefix_all : {A : Type 0} (p : A → Bool) (xs : List A) → nat_lt (prefix_len p xs) (length xs) ≡ false → list_all p xs ≡ true
prefix_all p [] e = refl
prefix_all p (x ∷ xs) e = prefix_all_by p x xs (p x) refl (prefix_all p xs) e

pub twice_not : (b : Bool) → not (not b) ≡ b
twice_not true = refl
twice_not false = refl

-- where no element fails a test, all pass it
pub all_by_position : {A : Type 0} (p : A → Bool) (xs : List A) → position (λ x. not (p x)) xs ≡ None → list_all p xs ≡ true
all_by_position p xs e =
    let agree : (λ x. not (not (p x))) ≡ p = λ i x. twice_not (p x) i in
    ap (λ q. list_all q xs) (sym agree) ∙ prefix_all (λ x. not (not (p x))) xs (missed _ _ e)

-- ---- the items of a list, one after another

module _ {A B E : Type 0} (test : ℕ → B → Result (Unit {0}) E) (view : A → B) where
  -- an item is refused
  pub each_here : (xs : List A) (i : ℕ) (x : A) (e : E) → drop i xs ≡ x ∷ drop (i + 1) xs → test i (view x) ≡ Err e
      → each_from test i (map view (drop i xs)) ≡ Err e
  each_here xs i x e rest refused = ap (λ l. each_from test i (map view l)) rest ∙ ap (λ r. r >>= λ _. each_from test (i + 1) (map view (drop (i + 1) xs))) refused

  -- an item passes
  pub each_later : (xs : List A) (i : ℕ) (x : A) → drop i xs ≡ x ∷ drop (i + 1) xs → test i (view x) ≡ Ok tt
      → each_from test i (map view (drop i xs)) ≡ each_from test (i + 1) (map view (drop (i + 1) xs))
  each_later xs i x rest passed = ap (λ l. each_from test i (map view l)) rest ∙ ap (λ r. r >>= λ _. each_from test (i + 1) (map view (drop (i + 1) xs))) passed

-- where each item passes, what a test shows of an item is true of all
pub all_of_each : {A E : Type 0} (test : ℕ → A → Result (Unit {0}) E) (p : A → Bool) → ((i : ℕ) (x : A) → test i x ≡ Ok tt → p x ≡ true)
    → (i : ℕ) (xs : List A) → each_from test i xs ≡ Ok tt → list_all p xs ≡ true
all_of_each test p shows i [] e = refl
all_of_each test p shows i (x ∷ xs) e =
    let here = shows i x (first_ok (test i x) (λ _. each_from test (i + 1) xs) tt e) in
    let more = all_of_each test p shows (i + 1) xs (rest_ok (test i x) (λ _. each_from test (i + 1) xs) tt e) in
    rw (here, more) refl

-- ---- the ends of dependencies

-- the dependents and masters of these dependencies have one of these names
abbrev pub have_known_ends : List (List ℕ) → List ParsedDependency → Bool
have_known_ends names ds = list_all (has_known_ends names) ds

end_known_by : (b : Bool) (names others : List (List ℕ)) (e : End) (name : List ℕ) → is_known names name ≡ b → end_test names others e name ≡ Ok tt
    → is_known names name ≡ true
end_known_by true names others e name known passed = known
end_known_by false names others e name known passed =
    let refused : end_test names others e name ≡ Err (end_fault others e name) = ap (λ b. cond b (Ok tt) (Err (end_fault others e name))) known in cc

end_known : (names others : List (List ℕ)) (e : End) (name : List ℕ) → end_test names others e name ≡ Ok tt → is_known names name ≡ true
end_known names others e name passed = end_known_by (is_known names name) names others e name refl passed

-- where no dependency is refused, the ends of each are known
pub ends_known : (p : Part) (names others : List (List ℕ)) (ds : List ParsedDependency) → dependency_list_test p names others ds ≡ Ok tt → have_known_ends names ds ≡ true
ends_known p names others ds e =
    all_of_each (dependency_test p names others) (has_known_ends names) (λ i d passed.
    let both = still_ok (fault.unknown_end (item_place p i)) (dependency_ends_test names others d) passed in
    let dependent = end_known names others end.Dependent d.dependent (first_ok (end_test names others end.Dependent d.dependent) _ tt both) in
    let master = end_known names others end.Master d.master (rest_ok (end_test names others end.Dependent d.dependent) _ tt both) in
    rw (dependent, master) refl) 0 ds e
