-- Laws of what is made of each object of a setup, one object after another.
use Rattle.std.proofs.Common.{◌≡◌, ℕ, zero, suc, ◌+◌, ◌<◌, Bool, false, List, [], ◌∷◌, ◌++◌, length, map, take, get_or, Option, Some, None, option_map}
use Rattle.std.proofs.Common.{unwrap_or, refl, sym, ap, ◌∙◌, arith}
use Rattle.std.specs.Prelude.{slice_get}
use Rattle.std.specs.List.{enumerate_from}
use Rattle.std.proofs.lemmas.List.{take_more}
use Rattle.setup_model.specs.declared.parsed_setup.Object.{Object}
use Rattle.check_objects.proofs.NameLemmas.{item_at}
use Rattle.check_objects.specs.Configuration.{Configuration, NamedObject, name_of, object_count, objects_of}
use Rattle.check_states.specs.declared.standing.Standing.{Standing}
use Rattle.check_states.specs.declared.state.State as rules
use Rattle.check_saved_state.specs.Saved.{Saved, SavedObject, saved_by_name}
use Rattle.check_saved_state.specs.Scheduling.{Scheduling}
use Rattle.check_spread.specs.Spread.{milliseconds}
use Rattle.check_sched.specs.Saved.{each_object, results_after_resume, saved_object, scheduling_after_resume, standing_after_resume, time_among}
use Rattle.check_sched.specs.Scheduling.{opening_object}
use Rattle.check_sched.specs.State.{State, is_host, results_at, standing_at}
use Rattle.check_sched.proofs.OpeningLaws.{one_more}
use Rattle.check_sched.proofs.ReportLaws.{read_at}
use Rattle.check_sched.proofs.ResumedLaws.{length-made}

-- what is made of the object with this number
get_each : {X : Type 0} (made : ℕ × NamedObject → X) (k n : ℕ) (os : List NamedObject) (o : NamedObject) (d : X) → slice_get os n ≡ Some o
    → get_or (map made (enumerate_from k os)) n d ≡ made (k + n, o)
get_each made k n [] o d e = cc
get_each made k zero (p ∷ os) o d e =
    let same : p ≡ o = cc in
    let here : k ≡ k + 0 = omega arith in
    λ i. made (here i, same i)
get_each made k (suc n) (p ∷ os) o d e =
    let in_range : k + 1 + n ≡ k + suc n = omega arith in get_each made (k + 1) n os o d e ∙ ap (λ j. made (j, o)) in_range

pub slice_each : {X : Type 0} (made : ℕ × NamedObject → X) (n : ℕ) (os : List NamedObject) (o : NamedObject) → slice_get os n ≡ Some o
    → slice_get (map made (enumerate_from 0 os)) n ≡ Some (made (n, o))
slice_each made n os o e =
    let z : 0 + n ≡ n = omega arith in from_k made 0 n os o e ∙ ap (λ j. Some (made (j, o))) z
  where
    from_k : {X : Type 0} (f : ℕ × NamedObject → X) (k m : ℕ) (xs : List NamedObject) (x : NamedObject) → slice_get xs m ≡ Some x
        → slice_get (map f (enumerate_from k xs)) m ≡ Some (f (k + m, x))
    from_k f k m [] x g = cc
    from_k f k zero (y ∷ xs) x g =
        let same : y ≡ x = cc in
        let here : k ≡ k + 0 = omega arith in
        λ i. Some (f (here i, same i))
    from_k f k (suc m) (y ∷ xs) x g =
        let in_range : k + 1 + m ≡ k + suc m = omega arith in from_k f (k + 1) m xs x g ∙ ap (λ j. Some (f (j, x))) in_range

-- one object more
pub one_each : {X : Type 0} (c : Configuration) (made : ℕ × NamedObject → X) (n : ℕ) (was more : List X) (x : X) → n < object_count c
    → more ≡ was ++ x ∷ [] → was ≡ take n (each_object c made) → ((o : NamedObject) → slice_get (objects_of c) n ≡ Some o → x ≡ made (n, o))
    → more ≡ take (n + 1) (each_object c made)
one_each c made n was more x l e f h =
    let found = item_at (objects_of c) n l in
    let less : n < length (each_object c made) = let m = length-made c made in omega (arith, l, m) in
    let z : 0 + n ≡ n = omega arith in
    let is : x ≡ get_or (each_object c made) n x =
    h found.item found.at ∙ ap (λ j. made (j, found.item)) (sym z) ∙ sym (get_each made 0 n (objects_of c) found.item x found.at) in
    one_more n (each_object c made) was more x e f (ap (λ y. take n (each_object c made) ++ y ∷ []) is ∙ sym (take_more (each_object c made) n x less))

-- ---- an object of a setup, as the code reads it

pub object_is : (found : Option NamedObject) (o : NamedObject) (object : Object) → found ≡ Some o → option_map (λ x. x.object) found ≡ Some object → object ≡ o.object
object_is None o object e f = cc
object_is (Some x) o object e f =
    let same : x ≡ o = cc in
    let read : x.object ≡ object = cc in
    sym read ∙ ap (λ (y : NamedObject). y.object) same

pub name_is : (c : Configuration) (n : ℕ) (o : NamedObject) → slice_get (objects_of c) n ≡ Some o → name_of c n ≡ o.name
name_is c n o e = ap (λ found. unwrap_or (option_map (λ (x : NamedObject). x.name) found) []) e

-- ---- what is saved of an object

pub saved_made : (s : State) (n : ℕ) (o : NamedObject) (object : Object) (name : List ℕ) (standing : Standing) (results : List rules.State) (x y : Scheduling)
    (interval attempts : ℕ)
    → slice_get (objects_of s.setup) n ≡ Some o → option_map (λ z. z.object) (slice_get (objects_of s.setup) n) ≡ Some object
    → name ≡ name_of s.setup n → standing_at s.standings n ≡ standing → results ≡ results_at s.results n
    → slice_get s.objects n ≡ Some x → y ≡ x → interval ≡ milliseconds s.setup object.check_interval → attempts ≡ object.max_check_attempts
    → let made : SavedObject = record {
      name = name;
      standing = standing;
      results = results;
      scheduling = y;
      interval = interval;
      max_attempts = attempts;
      setup_enabled = object.enabled;
    } in made ≡ saved_object s (n, o)
saved_made s n o object name standing results x y interval attempts e f named stands kept at is every limit =
    let same = object_is (slice_get (objects_of s.setup) n) o object e f in
    let full = named ∙ name_is s.setup n o e in
    let scheduled = is ∙ sym (ap (λ found. unwrap_or found (opening_object None false)) at) in
    let times = every ∙ ap (λ (z : Object). milliseconds s.setup z.check_interval) same in
    let most = limit ∙ ap (λ (z : Object). z.max_check_attempts) same in
    λ i. record {
      name = full i;
      standing = sym stands i;
      results = kept i;
      scheduling = scheduled i;
      interval = times i;
      max_attempts = most i;
      setup_enabled = ap (λ (z : Object). z.enabled) same i;
    }

-- ---- what becomes of an object

time_read : (times : List (Option ℕ)) (n : ℕ) (first : Option ℕ) → n < length times → first ≡ get_or times n None → first ≡ time_among times n
time_read times n first l e =
    let at : slice_get times n ≡ Some (get_or times n None) = read_at times n (get_or times n None) l (some_read times n None) in
    e ∙ sym (ap (λ found. unwrap_or found None) at)
  where
    some_read : (xs : List (Option ℕ)) (k : ℕ) (d : Option ℕ) → get_or xs k d ≡ get_or xs k (get_or xs k d)
    some_read [] k d = refl
    some_read (y ∷ ys) zero d = refl
    some_read (y ∷ ys) (suc k) d = some_read ys k d

pub scheduling_seen : (c : Configuration) (saved : Saved) (times : List (Option ℕ)) (n : ℕ) (o : NamedObject) (object : Object) (first : Option ℕ)
    (found : Option SavedObject) (x : Scheduling) → slice_get (objects_of c) n ≡ Some o → option_map (λ z. z.object) (slice_get (objects_of c) n) ≡ Some object
    → n < length times → first ≡ get_or times n None → found ≡ saved_by_name saved (name_of c n) → x ≡ scheduling_after_resume c first object found
    → x ≡ scheduling_after_resume c (time_among times n) o.object (saved_by_name saved o.name)
scheduling_seen c saved times n o object first found x e f l g h m =
    let same = object_is (slice_get (objects_of c) n) o object e f in
    let was = h ∙ ap (saved_by_name saved) (name_is c n o e) in
    let time = time_read times n first l g in
    m ∙ (λ i. scheduling_after_resume c (time i) (same i) (was i))

pub standing_seen : (c : Configuration) (saved : Saved) (n : ℕ) (o : NamedObject) (object : Object) (host : Bool)
    (found : Option SavedObject) (x : Standing) → slice_get (objects_of c) n ≡ Some o → option_map (λ z. z.object) (slice_get (objects_of c) n) ≡ Some object
    → host ≡ is_host c n → found ≡ saved_by_name saved (name_of c n) → x ≡ standing_after_resume host object found
    → x ≡ standing_after_resume (is_host c n) o.object (saved_by_name saved o.name)
standing_seen c saved n o object host found x e f g h m =
    let same = object_is (slice_get (objects_of c) n) o object e f in
    let was = h ∙ ap (saved_by_name saved) (name_is c n o e) in
    m ∙ (λ i. standing_after_resume (g i) (same i) (was i))

pub results_seen : (c : Configuration) (saved : Saved) (n : ℕ) (o : NamedObject) (found : Option SavedObject) (x : List rules.State)
    → slice_get (objects_of c) n ≡ Some o → found ≡ saved_by_name saved (name_of c n) → x ≡ results_after_resume found → x ≡ results_after_resume (saved_by_name saved o.name)
results_seen c saved n o found x e h m = m ∙ ap results_after_resume (h ∙ ap (saved_by_name saved) (name_is c n o e))
