-- Laws of the opening.
use Rattle.std.proofs.Common.{◌≡◌, ℕ, zero, suc, ◌+◌, ◌<◌, ◌≤◌, ◌^◌, Bool, true, List, [], ◌∷◌, ◌++◌, length, map, take, get_or, min, replicate, Option, Some}
use Rattle.std.proofs.Common.{None}
use Rattle.std.proofs.Common.{option_map, refl, sym, ap, subst, ◌∙◌, arith, IfSome}
use Rattle.std.specs.Prelude.{slice_get, zip, All}
use Rattle.std.specs.List.{list_all, enumerate_from}
use Rattle.std.proofs.lemmas.Bool.Decides.{nat_tests}
use Rattle.std.proofs.lemmas.List.{length-append, length-map, length-replicate, take_more}
use Rattle.std.proofs.lemmas.List.FromFn.{length-enumerate_from}
use Rattle.std.proofs.lemmas.Slice.Zip.{length-zip}
use Rattle.std.proofs.lemmas.Bool.{and_from}
use Rattle.setup_model.specs.declared.parsed_setup.Object.{Object}
use Rattle.check_objects.specs.Configuration.{Configuration, NamedObject, objects_of, object_count, host_count, IsSetup}
use Rattle.check_states.specs.declared.standing.Standing.{Standing}
use Rattle.check_states.specs.declared.state.State as rules
use Rattle.check_states.specs.Standing.{pending_standing}
use Rattle.check_states.proofs.VerdictLaws.{pending_is_lawful, pending_sort}
use Rattle.check_sched.specs.Scheduling.{opening_object}
use Rattle.check_saved_state.specs.Scheduling.{Scheduling, is_in_time, is_time}
use Rattle.check_spread.specs.Spread.{initial_times}
use Rattle.check_sched.specs.State.{AreResultsOf, IsState, IsStandingOf, IsWithinLimit, is_host, objects_at, opening}
use Rattle.check_sched.specs.State.{opening_standings, run_number_of}
use Rattle.check_sched.proofs.LimitLaws.{services_none}
use Rattle.check_sched.proofs.RunningLaws.{none_forced, none_out, timed_unforced}
use Rattle.check_sched.proofs.ReportLaws.{nonzero_attempts}

-- ---- within the limits

pub first_in_time : (first : Option ℕ) → IfSome first (λ time. time < 2 ^ 61) → is_time first ≡ true
first_in_time None h = refl
first_in_time (Some time) h = grind (arith, nat_tests, h)

times_in_time : (times : List (Option ℕ)) (os : List NamedObject) → All (λ first. IfSome first (λ time. time < 2 ^ 61)) times
    → list_all is_in_time (map (λ p. opening_object p.0 p.1.object.enabled) (zip times os)) ≡ true
times_in_time [] os h = refl
times_in_time (first ∷ times) [] h = refl
times_in_time (first ∷ times) (o ∷ os) h =
    and_from _ _ (and_from (is_time first) true (first_in_time first (h 0 None (omega arith))) refl)
    (times_in_time times os (λ k d l. h (suc k) d (omega arith)))

-- the standing at a place of the opening is pending
pub pending_at : (setup : Configuration) (k : ℕ) (os : List NamedObject) (n : ℕ) (t : Standing)
    → slice_get (map (λ p. pending_standing (is_host setup p.0)) (enumerate_from k os)) n ≡ Some t → pending_standing (is_host setup (k + n)) ≡ t
pending_at setup k [] n t e = cc
pending_at setup k (o ∷ os) zero t e =
    let same : pending_standing (is_host setup k) ≡ t = cc in
    let here : k ≡ k + 0 = omega arith in
    subst (λ j. pending_standing (is_host setup j) ≡ t) here same
pending_at setup k (o ∷ os) (suc n) t e =
    let here : k + 1 + n ≡ k + suc n = omega arith in
    subst (λ j. pending_standing (is_host setup j) ≡ t) here (pending_at setup (k + 1) os n t e)

standings_opening : (setup : Configuration) (k : ℕ) (os : List NamedObject) → IsSetup setup → (n : ℕ) (t : Standing)
    → slice_get (map (λ p. pending_standing (is_host setup p.0)) (enumerate_from k os)) n ≡ Some t → IsStandingOf setup (k + n) t
standings_opening setup k os h n t e =
    subst (λ x. IsStandingOf setup (k + n) x) (pending_at setup k os n t e)
    (record {
      lawful = pending_is_lawful (is_host setup (k + n)) _ (nonzero_attempts setup (k + n) h);
      sort = pending_sort
          (is_host setup (k + n));
      last_hard_sort = pending_sort (is_host setup (k + n));
      until_checked = λ never. refl;
    })

-- each object can have the standing that it opens with
pub first_standings : (setup : Configuration) → IsSetup setup → (n : ℕ) (t : Standing)
    → slice_get (opening_standings setup) n ≡ Some t → IsStandingOf setup n t
first_standings setup h n t e =
    let z : 0 + n ≡ n = omega arith in
    subst (λ j. IsStandingOf setup j t) z (standings_opening setup 0 (objects_of setup) h n t e)

pub length-objects_at : (setup : Configuration) (times : List (Option ℕ)) → length times ≡ object_count setup
    → length (objects_at setup times) ≡ object_count setup
length-objects_at setup times e =
    let zipped = length-zip times (objects_of setup) in
    let less : min (length times) (object_count setup) ≡ object_count setup = omega arith in
    length-map (zip times (objects_of setup)) _ ∙ zipped ∙ less

pub length-opening_standings : (setup : Configuration) → length (opening_standings setup) ≡ object_count setup
length-opening_standings setup = length-map (enumerate_from 0 (objects_of setup)) _ ∙ length-enumerate_from 0 (objects_of setup)

-- no service is being checked at the opening
pub opening_limit : (setup : Configuration) (start : ℕ) → IsWithinLimit (opening setup start)
opening_limit setup start some =
    let none = services_none (host_count setup) (λ (p : Option ℕ × NamedObject). opening_object p.0 p.1.object.enabled)
    (zip (initial_times setup start) (objects_of setup)) (λ p. refl) in
    omega (arith, none)

-- no object is being checked at the opening
opening_none : (setup : Configuration) (start n r : ℕ) → run_number_of n (opening setup start) ≡ Some r → ⊥
opening_none setup start n r e =
    none_out (λ (p : Option ℕ × NamedObject). opening_object p.0 p.1.object.enabled) (zip (initial_times setup start) (objects_of setup)) n r (λ p. refl) e

-- and no result of any is kept
pub none_kept : (count n : ℕ) (rs : List rules.State) → slice_get (replicate count []) n ≡ Some rs → [] ≡ rs
none_kept zero n rs e = cc
none_kept (suc count) zero rs e = cc
none_kept (suc count) (suc n) rs e = none_kept count n rs e

-- a scheduler can be in the state that it opens with
pub opening_is_state : (setup : Configuration) (start : ℕ) → IsSetup setup → start ≤ 2 ^ 60 → length (initial_times setup start) ≡ object_count setup
    → All (λ first. IfSome first (λ time. time < 2 ^ 61)) (initial_times setup start) → IsState (opening setup start)
opening_is_state setup start valid moment count within = record {
  valid_setup = valid;
  start = moment;
  one_each = length-objects_at setup (initial_times setup start) count;
  one_standing_each = length-opening_standings setup;
  results_each = length-replicate (object_count setup) [];
  runs = omega arith;
  times = times_in_time (initial_times setup start) (objects_of setup) within;
  limit = opening_limit setup start;
  standings = first_standings setup valid;
  numbered = λ n r e. absurd (opening_none setup start n r e);
  once = λ m n r e f. absurd (opening_none setup start m r e);
  forced = none_forced _ (zip (initial_times setup start) (objects_of setup)) (λ p. timed_unforced p.0);
  results = λ n rs e. subst (AreResultsOf setup n) (none_kept (object_count setup) n rs e) (record { bounded = omega arith; sort = refl });
}

-- ---- the roster that the code opens with

-- the objects are the hosts and the services
pub count_is : (setup : Configuration) → object_count setup ≡ host_count setup + length setup.services
count_is setup = simp (length-append, length-map) refl

-- the objects are few enough
pub opened_few : (setup : Configuration) (times : List (Option ℕ)) (objects : List Scheduling) → IsSetup setup → length times ≡ object_count setup
    → objects ≡ objects_at setup times → length objects ≤ 4096
opened_few setup times objects valid count e =
    let long = ap length e ∙ length-objects_at setup times count ∙ count_is setup in
    let bounded = valid.bounded in omega (arith, long, bounded)

-- the hosts are among them
pub opened_hosts : (setup : Configuration) (times : List (Option ℕ)) (objects : List Scheduling) → length times ≡ object_count setup
    → objects ≡ objects_at setup times → host_count setup ≤ length objects
opened_hosts setup times objects count e =
    let long = ap length e ∙ length-objects_at setup times count ∙ count_is setup in omega (arith, long)

-- ---- the opening, object by object

-- the first of a list, and one more
pub one_more : {X : Type 0} (n : ℕ) (all was more : List X) (x : X) → more ≡ was ++ x ∷ [] → was ≡ take n all
    → take n all ++ x ∷ [] ≡ take (n + 1) all → more ≡ take (n + 1) all
one_more n all was more x e f g = e ∙ ap (λ xs. xs ++ x ∷ []) f ∙ g

object_at : (n : ℕ) (times : List (Option ℕ)) (os : List NamedObject) (o : Object) (first : Option ℕ) (d : Scheduling) → n < length times
    → option_map (λ x. x.object) (slice_get os n) ≡ Some o → first ≡ get_or times n None
    → get_or (map (λ p. opening_object p.0 p.1.object.enabled) (zip times os)) n d ≡ opening_object first o.enabled
object_at n [] os o first d l e f = absurd (omega arith)
object_at n (time ∷ times) [] o first d l e f = cc
object_at zero (time ∷ times) (x ∷ os) o first d l e f =
    let same : x.object ≡ o = cc in
    (λ i. opening_object (sym f i) (same i).enabled)
object_at (suc n) (time ∷ times) (x ∷ os) o first d l e f = object_at n times os o first d (omega arith) e f

-- one object more of a scheduler that is being opened
pub object_seen : (setup : Configuration) (times : List (Option ℕ)) (n : ℕ) (o : Object) (first : Option ℕ) (made : Scheduling)
    → length times ≡ object_count setup → n < length times → option_map (λ x. x.object) (slice_get (objects_of setup) n) ≡ Some o
    → first ≡ get_or times n None → made ≡ opening_object first o.enabled
    → take n (objects_at setup times) ++ made ∷ [] ≡ take (n + 1) (objects_at setup times)
object_seen setup times n o first made c l e f m =
    let less : n < length (objects_at setup times) = let k = length-objects_at setup times c in omega (arith, l, k) in
    let is : made ≡ get_or (objects_at setup times) n made = m ∙ sym (object_at n times (objects_of setup) o first made l e f) in
    ap (λ x. take n (objects_at setup times) ++ x ∷ []) is ∙ sym (take_more (objects_at setup times) n made less)

standing_at_opening : (setup : Configuration) (k n : ℕ) (os : List NamedObject) (d : Standing) → n < length os
    → get_or (map (λ p. pending_standing (is_host setup p.0)) (enumerate_from k os)) n d ≡ pending_standing (is_host setup (k + n))
standing_at_opening setup k n [] d h = absurd (omega arith)
standing_at_opening setup k zero (o ∷ os) d h = ap (λ j. pending_standing (is_host setup j)) (let here : k ≡ k + 0 = omega arith in here)
standing_at_opening setup k (suc n) (o ∷ os) d h =
    standing_at_opening setup (k + 1) n os d (omega arith)
    ∙ ap (λ j. pending_standing (is_host setup j)) (let here : k + 1 + n ≡ k + suc n = omega arith in here)

-- one standing more of a scheduler that is being opened
pub standing_seen : (setup : Configuration) (n : ℕ) (made : Standing) (host : Bool) → n < object_count setup → made ≡ pending_standing host
    → host ≡ is_host setup n → take n (opening_standings setup) ++ made ∷ [] ≡ take (n + 1) (opening_standings setup)
standing_seen setup n made host h m e =
    let less : n < length (opening_standings setup) = let l = length-opening_standings setup in omega (arith, h, l) in
    let is : made ≡ get_or (opening_standings setup) n made = m ∙ ap pending_standing e ∙ sym
    (standing_at_opening setup 0 n (objects_of setup) made h ∙ ap (λ j. pending_standing (is_host setup j)) (let z : 0 + n ≡ n = omega arith in z)) in
    ap (λ x. take n (opening_standings setup) ++ x ∷ []) is ∙ sym (take_more (opening_standings setup) n made less)
