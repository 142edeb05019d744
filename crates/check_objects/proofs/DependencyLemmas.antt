-- The dependencies of each object by number.
use Rattle.std.proofs.Common.{◌≡◌, append_assoc, append-nil, ℕ, zero, suc, ◌+◌, ◌<◌, ◌==◌, Bool, true, false, cond, List, [], ◌∷◌, ◌++◌, map, take, length}
use Rattle.std.proofs.Common.{get_or}
use Rattle.std.proofs.Common.{Some, None, refl, sym, ap, ◌∙◌, replicate, inl, inr, arith}
use Rattle.std.specs.Prelude.{nat_lt, unwrap_or}
use Rattle.std.specs.List.{list_all, filter, range_with_len}
use Rattle.std.proofs.Math.ListN.{set}
use Rattle.std.proofs.lemmas.Bool.{eq-eqb, ne_eqb, cases_eq}
use Rattle.std.proofs.lemmas.Bool.Decides.{nat_tests}
use Rattle.std.proofs.lemmas.List.{take_more, ext_get_or, get_or-set_same, get_or-set_other, length-set, map-append}
use Rattle.std.proofs.lemmas.List.Elements.{filter-append}
use Rattle.std.proofs.lemmas.List.FromFn.{length-map-range_with_len, get_or-map-range_with_len}
use Rattle.setup_model.specs.declared.dependency.Dependency.{Dependency}
use Rattle.setup_order.specs.Cycles.{are_within}
use Rattle.check_objects.specs.Configuration.{NamedObject, masters_in, number_among}
use Rattle.setup_model.specs.ParsedSetup.{ParsedDependency}
use Rattle.check_objects.specs.Numbering.{numbered_dependency, dependencies_among, dependency_lists}
use Rattle.setup_order.proofs.TestLemmas.{and_first, and_second, and_both}

-- ---- one dependency after another

lists_none_from : (a count : ℕ) → replicate count [] ≡ map (dependencies_among []) (range_with_len a count)
lists_none_from a zero = refl
lists_none_from a (suc count) = ap (λ l. [] ∷ l) (lists_none_from (a + 1) count)

pub lists_none : (count : ℕ) → replicate count [] ≡ dependency_lists count []
lists_none count = lists_none_from 0 count

pub length-dependency_lists : (count : ℕ) (ds : List (ℕ × Dependency)) → length (dependency_lists count ds) ≡ count
length-dependency_lists count ds = length-map-range_with_len (dependencies_among ds) 0 count

pub list_of_object : (count object : ℕ) (ds : List (ℕ × Dependency)) → object < count
    → get_or (dependency_lists count ds) object [] ≡ dependencies_among ds object
list_of_object count object ds h = get_or-map-range_with_len (dependencies_among ds) 0 count object object [] h (omega arith)

picked : (d : ℕ × Dependency) (b : Bool) → map (λ x. x.1) (cond b (d ∷ []) []) ≡ cond b (d.1 ∷ []) []
picked d true = refl
picked d false = refl

among_more : (done : List (ℕ × Dependency)) (d : ℕ × Dependency) (object : ℕ) (b : Bool) → (d.0 == object) ≡ b
    → dependencies_among (done ++ d ∷ []) object ≡ dependencies_among done object ++ cond b (d.1 ∷ []) []
among_more done d object b e =
    ap (map (λ x. x.1)) (filter-append (λ x. x.0 == object) done (d ∷ []))
    ∙ map-append (λ x. x.1) (filter (λ x. x.0 == object) done) (filter (λ x. x.0 == object) (d ∷ []))
    ∙ ap (λ l. dependencies_among done object ++ l) (ap (λ c. map (λ x. x.1) (cond c (d ∷ []) [])) e ∙ picked d b)

-- the lists with one dependency more
pub lists_next : (count : ℕ) (done : List (ℕ × Dependency)) (d : ℕ × Dependency) → d.0 < count
    → set (dependency_lists count done) d.0 (get_or (dependency_lists count done) d.0 [] ++ d.1 ∷ []) ≡ dependency_lists count (done ++ d ∷ [])
lists_next count done d h =
    let old = dependency_lists count done in
    let pushed = get_or old d.0 [] ++ d.1 ∷ [] in
    let size = length-set old d.0 pushed ∙ length-dependency_lists count done in
    ext_get_or [] (set old d.0 pushed) (dependency_lists count (done ++ d ∷ [])) (size ∙ sym (length-dependency_lists count (done ++ d ∷ [])))
    (λ o l. let below : o < count = omega (arith, l, size) in elim (cases_eq o d.0) [
      | inl e ↦ ap (λ k. get_or (set old d.0 pushed) k []) e ∙ get_or-set_same old d.0 pushed [] (omega (arith, h, length-dependency_lists count done))
          ∙ ap (λ l. l ++ d.1 ∷ []) (list_of_object count d.0 done h) ∙ sym (among_more done d d.0 true (eq-eqb d.0 d.0 refl))
          ∙ sym (list_of_object count d.0 (done ++ d ∷ []) h) ∙ ap (λ k. get_or (dependency_lists count (done ++ d ∷ [])) k []) (sym e)
      | inr n ↦ get_or-set_other old d.0 o pushed [] n ∙ list_of_object count o done below ∙ sym (append-nil (dependencies_among done o))
          ∙ sym (among_more done d o false (ne_eqb d.0 o (λ e. n (sym e)))) ∙ sym (list_of_object count o (done ++ d ∷ []) below)
    ])

holds_at : {A : Type 0} (p : A → Bool) (xs : List A) (i : ℕ) (d : A) → i < length xs → list_all p xs ≡ true → p (get_or xs i d) ≡ true
holds_at p [] i d h all = absurd (omega arith)
holds_at p (x ∷ xs) zero d h all = and_first _ _ all
holds_at p (x ∷ xs) (suc i) d h all = holds_at p xs i d (omega arith) (and_second _ _ all)

pub dependent_below : (count : ℕ) (ds : List (ℕ × Dependency)) (i : ℕ) (d : ℕ × Dependency) → i < length ds
    → list_all (λ x. nat_lt x.0 count) ds ≡ true → (get_or ds i d).0 < count
dependent_below count ds i d h all = let e = holds_at (λ x. nat_lt x.0 count) ds i d h all in grind (arith, nat_tests, e)

-- ---- numbers below the count of objects

found_below : (b : Bool) (i n : ℕ) → nat_lt i n ≡ b → 0 < n → nat_lt (unwrap_or (cond b (Some i) None) 0) n ≡ true
found_below true i n e h = e
found_below false i n e h = grind (arith, nat_tests, h)

pub number_below : (objects : List NamedObject) (name : List ℕ) → 0 < length objects → nat_lt (unwrap_or (number_among objects name) 0) (length objects) ≡ true
number_below objects name h = found_below _ _ (length objects) refl h

pub dependents_below : (objects : List NamedObject) (ds : List ParsedDependency) → (0 < length ds → 0 < length objects)
    → list_all (λ d. nat_lt d.0 (length objects)) (map (numbered_dependency objects) ds) ≡ true
dependents_below objects [] some = refl
dependents_below objects (d ∷ ds) some =
    and_both _ _ (number_below objects d.dependent (some (omega arith))) (dependents_below objects ds (λ h. some (omega arith)))

pub masters_below : (objects : List NamedObject) (ds : List ParsedDependency) → 0 < length objects
    → list_all (λ d. nat_lt d.1.master (length objects)) (map (numbered_dependency objects) ds) ≡ true
masters_below objects [] h = refl
masters_below objects (d ∷ ds) h = and_both _ _ (number_below objects d.master h) (masters_below objects ds h)

among_within_by : (n : ℕ) (b : Bool) (d : ℕ × Dependency) (rest : List (ℕ × Dependency)) → nat_lt d.1.master n ≡ true
    → list_all (λ l. nat_lt l n) (masters_in (map (λ x. x.1) rest)) ≡ true
    → list_all (λ l. nat_lt l n) (masters_in (map (λ x. x.1) (cond b (d ∷ rest) rest))) ≡ true
among_within_by n true d rest h k = and_both _ _ h k
among_within_by n false d rest h k = k

among_within : (n : ℕ) (ds : List (ℕ × Dependency)) (object : ℕ) → list_all (λ d. nat_lt d.1.master n) ds ≡ true
    → list_all (λ l. nat_lt l n) (masters_in (dependencies_among ds object)) ≡ true
among_within n [] object h = refl
among_within n (d ∷ ds) object h =
    among_within_by n (d.0 == object) d (filter (λ x. x.0 == object) ds) (and_first _ _ h) (among_within n ds object (and_second _ _ h))

lists_within : (n : ℕ) (ds : List (ℕ × Dependency)) (a count : ℕ) → list_all (λ d. nat_lt d.1.master n) ds ≡ true
    → are_within n (map masters_in (map (dependencies_among ds) (range_with_len a count))) ≡ true
lists_within n ds a zero h = refl
lists_within n ds a (suc count) h = and_both _ _ (among_within n ds a h) (lists_within n ds (a + 1) count h)

-- the masters in the lists are objects
pub masters_within_lists : (n : ℕ) (ds : List (ℕ × Dependency)) → (0 < n → list_all (λ d. nat_lt d.1.master n) ds ≡ true)
    → are_within n (map masters_in (dependency_lists n ds)) ≡ true
masters_within_lists zero ds h = refl
masters_within_lists (suc n) ds h = lists_within (suc n) ds 0 (suc n) (h (omega arith))

-- the lists of the first dependencies, one more of which was put into its list
pub lists_step : (count : ℕ) (ds : List (ℕ × Dependency)) (i : ℕ) (d : ℕ × Dependency) (old new : List (List Dependency)) → i < length ds
    → list_all (λ x. nat_lt x.0 count) ds ≡ true → old ≡ dependency_lists count (take i ds)
    → new ≡ set old (get_or ds i d).0 (get_or old (get_or ds i d).0 [] ++ (get_or ds i d).1 ∷ []) → new ≡ dependency_lists count (take (i + 1) ds)
lists_step count ds i d old new h all are is =
    let x = get_or ds i d in
    is ∙ ap (λ ls. set ls x.0 (get_or ls x.0 [] ++ x.1 ∷ [])) are ∙ lists_next count (take i ds) x (dependent_below count ds i d h all)
    ∙ ap (dependency_lists count) (sym (take_more ds i d h))

-- ---- lists that grow with those that are read

pub pushed_next : {A B C : Type 0} (g : B → C) (f : A → B) (first old new : List C) (xs : List A) (i : ℕ) (d : A) (c : C)
    → old ≡ first ++ map g (map f (take i xs)) → i < length xs → new ≡ old ++ c ∷ [] → c ≡ g (f (get_or xs i d))
    → new ≡ first ++ map g (map f (take (i + 1) xs))
pushed_next g f first old new xs i d c so_far h is same =
    is ∙ ap (λ l. l ++ c ∷ []) so_far ∙ append_assoc first (map g (map f (take i xs))) (c ∷ [])
    ∙ ap (λ l. first ++ l)
    (ap (λ x. map g (map f (take i xs)) ++ x ∷ []) same ∙ sym (map-append g (map f (take i xs)) (f (get_or xs i d) ∷ []))
    ∙ ap (map g) (sym (map-append f (take i xs) (get_or xs i d ∷ []))) ∙ ap (λ l. map g (map f l)) (sym (take_more xs i d h)))
