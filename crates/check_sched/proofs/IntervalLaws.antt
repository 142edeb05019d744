-- Laws of the intervals of objects in milliseconds: the times that follow from those that were computed are the ones that follow from the setup.
use Rattle.std.proofs.Common.{◌≡◌, ℕ, ◌+◌, ◌*◌, ◌<◌, ◌≤◌, Bool, true, false, cond, List, [], ◌∷◌, ◌++◌, length, take, get_or, Option, Some}
use Rattle.std.proofs.Common.{refl, sym, ap, subst, ◌∙◌, arith}
use Rattle.std.specs.Prelude.{option_and_then, option_map, slice_get}
use Rattle.std.specs.Option.{option_or}
use Rattle.std.proofs.Math.Nat.{mul-le-mul}
use Rattle.std.proofs.lemmas.List.{length-map, take_more}
use Rattle.std.proofs.lemmas.Option.{get_or_from_slice_get, slice_get-map}
use Rattle.setup_model.specs.declared.parsed_setup.Object.{Object}
use Rattle.check_objects.proofs.NameLemmas.{item_at}
use Rattle.check_objects.specs.Configuration.{Configuration, IsSetup, NamedObject, is_object_in_range, object_count, objects_of}
use Rattle.check_states.specs.declared.standing.Standing.{Standing}
use Rattle.check_states.specs.Standing.{is_soft_problem}
use Rattle.check_sched.specs.declared.intervals.Intervals.{Intervals}
use Rattle.check_sched.specs.Intervals.{AreBounded, interval_for_standing, intervals_for, intervals_of, time_after}
use Rattle.check_sched.specs.Report.{next_after, put_off_until}
use Rattle.check_sched.specs.Sched.{IsWellFormed, state_of}
use Rattle.check_sched.specs.State.{State, standing_at}
use Rattle.check_sched.specs.declared.sched.Sched.TheInside.{Inside}
use Rattle.check_spread.specs.Spread.{milliseconds}
use Rattle.check_sched.proofs.EachObjectLaws.{object_is}
use Rattle.check_sched.proofs.ReportLaws.{check_in_range, object_in_range, read_at, retry_in_range}

-- ---- one object

-- the check intervals of a setup are few milliseconds
pub few_milliseconds : (setup : Configuration) (interval : ℕ) → IsSetup setup → interval ≤ 525600 → milliseconds setup interval ≤ 45411840000000
few_milliseconds setup interval valid bounded =
    let units : interval * setup.options.interval_length ≤ 525600 * 86400 = mul-le-mul bounded valid.interval_length in omega (arith, units)

pub intervals_few : (setup : Configuration) (o : Object) → IsSetup setup → is_object_in_range o ≡ true → AreBounded (intervals_for setup o)
intervals_few setup o valid range = record {
  check = few_milliseconds setup o.check_interval valid (check_in_range o range);
  retry = few_milliseconds setup o.retry_interval valid (retry_in_range o range);
}

few_by : (intervals : Intervals) (soft : Bool) → AreBounded intervals → cond soft intervals.retry intervals.check ≤ 45411840000000
few_by intervals true bounded = bounded.retry
few_by intervals false bounded = bounded.check

-- the interval to the next check is one of the two
pub interval_few : (intervals : Intervals) (standing : Standing) → AreBounded intervals → interval_for_standing intervals standing ≤ 45411840000000
interval_few intervals standing bounded = few_by intervals (is_soft_problem standing) bounded

-- ---- the object at a place

-- there is a place for each object
pub intervals_each : (setup : Configuration) (table : List Intervals) → table ≡ intervals_of setup → length table ≡ object_count setup
intervals_each setup table made = ap length made ∙ length-map (objects_of setup) (λ (o : NamedObject). intervals_for setup o.object)

-- one object more
pub intervals_seen : (setup : Configuration) (n : ℕ) (o : Object) (made : Intervals) → n < object_count setup
    → option_map (λ x. x.object) (slice_get (objects_of setup) n) ≡ Some o → made ≡ intervals_for setup o
    → take n (intervals_of setup) ++ made ∷ [] ≡ take (n + 1) (intervals_of setup)
intervals_seen setup n o made in_range read is =
    let found = item_at (objects_of setup) n in_range in
    let same = object_is (slice_get (objects_of setup) n) found.item o found.at read in
    let less : n < length (intervals_of setup) = let each = intervals_each setup (intervals_of setup) refl in omega (arith, in_range, each) in
    let here : slice_get (intervals_of setup) n ≡ Some made =
    slice_get-map (λ (x : NamedObject). intervals_for setup x.object) (objects_of setup) n
    ∙ ap (option_map (λ (x : NamedObject). intervals_for setup x.object)) found.at ∙ ap (λ x. Some (intervals_for setup x)) (sym same) ∙ ap Some (sym is) in
    ap (λ x. take n (intervals_of setup) ++ x ∷ []) (sym (get_or_from_slice_get (intervals_of setup) n made made here))
    ∙ sym (take_more (intervals_of setup) n made less)

-- what is read of the table is of the object
pub record AreRead (setup : Configuration) (n : ℕ) (intervals : Intervals) : Type 0 where
  pub bounded : AreBounded intervals
  pub next : (standing : Standing) (start : ℕ) (already : Option ℕ)
      → option_or already (time_after start (interval_for_standing intervals standing)) ≡ next_after setup n standing start already
  pub until : (now : ℕ) → time_after now intervals.check ≡ put_off_until setup n now

read_for : (setup : Configuration) (n : ℕ) (o : NamedObject) → IsSetup setup → slice_get (objects_of setup) n ≡ Some o
    → AreRead setup n (intervals_for setup o.object)
read_for setup n o valid e = record {
  bounded = intervals_few setup o.object valid (object_in_range setup n o valid e);
  next =
      λ standing start already.
      ap (λ found. option_or already (option_and_then (λ (x : NamedObject). time_after start (interval_for_standing (intervals_for setup x.object) standing)) found)) (sym e);
  until = λ now. ap (option_and_then (λ (x : NamedObject). time_after now (intervals_for setup x.object).check)) (sym e);
}

intervals_read : (setup : Configuration) (n : ℕ) (table : List Intervals) (x : Intervals) → IsSetup setup → table ≡ intervals_of setup
    → n < object_count setup → x ≡ get_or table n x → AreRead setup n x
intervals_read setup n table x valid made in_range read =
    let long : n < length table = let each = intervals_each setup table made in omega (arith, in_range, each) in
    let found = item_at (objects_of setup) n in_range in
    let both : Some x ≡ Some (intervals_for setup found.item.object) =
    sym (read_at table n x long read) ∙ ap (λ xs. slice_get xs n) made ∙ slice_get-map (λ (o : NamedObject). intervals_for setup o.object) (objects_of setup) n
    ∙ ap (option_map (λ (o : NamedObject). intervals_for setup o.object)) found.at in
    let is : x ≡ intervals_for setup found.item.object = cc in
    subst (AreRead setup n) (sym is) (read_for setup n found.item valid found.at)

-- ---- the object at a place of the fields

-- an object of the state is one of the fields' setup
pub count_there : (inside : Inside) (n : ℕ) (old : State) → state_of inside ≡ old → n < object_count old.setup → n < object_count inside.setup
count_there inside n old e l = let count = ap (λ (s : State). object_count s.setup) e in omega (arith, l, count)

-- its intervals are among those that were computed
pub intervals_there : (inside : Inside) (n : ℕ) (old : State) → IsWellFormed inside → state_of inside ≡ old → n < object_count old.setup
    → n < length inside.intervals.items
intervals_there inside n old kept e l =
    let known = count_there inside n old e l in let each = intervals_each inside.setup inside.intervals.items kept.intervals in omega (arith, known, each)

-- those that are read are the object's
pub read_there : (inside : Inside) (n : ℕ) (old : State) (x : Intervals) → IsWellFormed inside → state_of inside ≡ old → n < object_count old.setup
    → x ≡ get_or inside.intervals.items n x → AreRead inside.setup n x
read_there inside n old x kept e l is =
    intervals_read inside.setup n inside.intervals.items x kept.state.valid_setup kept.intervals (count_there inside n old e l) is

-- and the next time that they give is the one that the setup gives
pub next_there : (inside : Inside) (n start : ℕ) (already next : Option ℕ) (old : State) (x : Intervals) (standing : Standing) → IsWellFormed inside
    → state_of inside ≡ old → n < object_count old.setup → x ≡ get_or inside.intervals.items n x → standing ≡ standing_at old.standings n
    → next ≡ option_or already (time_after start (interval_for_standing x standing))
    → next ≡ next_after inside.setup n (standing_at inside.standings.items n) start already
next_there inside n start already next old x standing kept e l is stands made =
    made
    ∙ (read_there inside n old x kept e l is).next standing start already
    ∙ ap (λ t. next_after inside.setup n t start already) (stands ∙ ap (λ (t : State). standing_at t.standings n) (sym e))
