use Rattle.std.proofs.Common.{◌≡◌, ◌<◌, ℕ, Option, List, refl, true, false, not, ap, get_or, set, length, ◌∙◌, arith}
use Rattle.std.specs.Prelude.{nat_lt}
use mir.Val.{bool_byte}
use Rattle.std.proofs.lemmas.Bool.Decides.{nat_tests}
use Rattle.std.proofs.lemmas.List.{length-set}
use Rattle.check_sched.specs.Change.{object_after_change}
use Rattle.check_sched.specs.Roster.{RosterState, roster_of, running_among}
use Rattle.check_sched.specs.declared.roster.Roster.TheInside.{Inside}
use Rattle.check_sched.specs.Scheduling.{candidate_time}
use Rattle.check_saved_state.specs.Scheduling.{Scheduling}
use Rattle.check_sched.proofs.RosterLaws.{length-waiting_from, running_apart, running_left, running_set, waiting_apart, waiting_set}
use Rattle.check_sched.specs.Step.{update_at}
use Rattle.check_sched.proofs.UpdateLaws.{set_is_update}
use Rattle.check_sched.proofs.roster.Roster.change.Goals as goal

-- the object is there
in_range : (r : Inside) (now : RosterState) (n : ℕ) → roster_of r ≡ now → n < length now.objects → n < length r.objects.items
in_range r now n e l = let long = ap (λ (s : RosterState). length s.objects) e in omega (arith, long, l)

-- a roster with this many hosts and these objects
abbrev roster : ℕ → List Scheduling → RosterState
roster hosts objects = record { hosts = hosts; objects = objects }

-- the roster that a change leaves
left : (r : Inside) (now : RosterState) (n : ℕ) (f : Scheduling → Scheduling) (old new : Scheduling) → roster_of r ≡ now → n < length now.objects
    → new ≡ f old → old ≡ get_or r.objects.items n old → roster r.hosts (set r.objects.items n new) ≡ roster now.hosts (update_at n f now.objects)
left r now n f old new e l g is = rw (← e, set_is_update n f r.objects.items old new (in_range r now n e l) (g ∙ ap f is)) refl

pub enqueue-requires : goal.enqueue-requires
enqueue-requires c =
    let long = ap length c.self.invariant.waiting_hosts ∙ length-waiting_from 0 _ c.self.inside.objects.items in
    let inside = in_range c.self.inside c.args.self.now c.args.number c.self.view_is c.requires in omega (arith, long, inside)

pub enqueue-requires-else-index-self : goal.enqueue-requires-else-index-self
enqueue-requires-else-index-self c =
    let long = ap length c.self.invariant.waiting_services ∙ length-waiting_from 0 _ c.self.inside.objects.items in
    let inside = in_range c.self.inside c.args.self.now c.args.number c.self.view_is c.requires in omega (arith, long, inside)

pub overflow_sub-self : goal.overflow_sub-self
overflow_sub-self c =
    let inside = in_range c.self.inside c.args.self.now c.args.number c.self.view_is c.requires in
    let old = c.from-else-index-self.ensures ∙ ap bool_byte c.is_running-was_running.ensures in
    let new = c.from.ensures ∙ ap bool_byte c.is_running-is_running.ensures in
    let left = running_left c.self.inside.hosts c.args.number c.self.inside.objects.items c.index_mut-object.result.now c.change.new.self inside
    c.if-index-self.false c.index_mut-object.ensures.value in
    omega (arith, old, new, left, c.self.invariant.running_services)

pub invariant_of-self : goal.invariant_of-self
invariant_of-self c =
    let n = c.args.number in
    let inside = in_range c.self.inside c.args.self.now n c.self.view_is c.requires in
    let o = c.change.new.self in
    let os = c.self.inside.objects.items in
    let hosts = c.self.inside.hosts in
    let kept = c.self.invariant in
    let host : nat_lt n hosts ≡ true = let l = c.if-index-self.true in grind (arith, nat_tests, l) in
    record {
      waiting_hosts =
          c.enqueue.ensures ∙ ap (set c.self.inside.waiting_hosts n) c.candidate_time-time.ensures
          ∙ ap (λ (times : List (Option ℕ)). set times n (candidate_time o)) kept.waiting_hosts ∙ waiting_set n (λ k. nat_lt k hosts) os o inside host;
      waiting_services = kept.waiting_services ∙ waiting_apart n (λ k. not (nat_lt k hosts)) os o inside (ap not host);
      running_services = kept.running_services ∙ ap running_among (running_apart hosts n os o c.if-index-self.true);
      bounded = let long = length-set os n o in omega (arith, long, kept.bounded);
    }

pub invariant_of-self-else-index-self : goal.invariant_of-self-else-index-self
invariant_of-self-else-index-self c =
    let n = c.args.number in
    let o = c.change.new.self in
    let os = c.self.inside.objects.items in
    let hosts = c.self.inside.hosts in
    let kept = c.self.invariant in
    let service : nat_lt n hosts ≡ false = let l = c.if-index-self.false in grind (arith, nat_tests, l) in
    let inside = in_range c.self.inside c.args.self.now c.args.number c.self.view_is c.requires in
    let old = c.from-else-index-self.ensures ∙ ap bool_byte c.is_running-was_running.ensures in
    let new = c.from.ensures ∙ ap bool_byte c.is_running-is_running.ensures in
    let count = running_set hosts n os c.index_mut-object.result.now o inside c.if-index-self.false c.index_mut-object.ensures.value in
    record {
      waiting_hosts = kept.waiting_hosts ∙ waiting_apart n (λ k. nat_lt k hosts) os o inside service;
      waiting_services =
          c.enqueue-else-index-self.ensures ∙ ap (set c.self.inside.waiting_services n) c.candidate_time-time.ensures
          ∙ ap (λ (times : List (Option ℕ)). set times n (candidate_time o)) kept.waiting_services
          ∙ waiting_set n (λ k. not (nat_lt k hosts)) os o inside (ap not service);
      running_services = omega (arith, old, new, count, kept.running_services);
      bounded = let long = length-set os n o in omega (arith, long, kept.bounded);
    }

pub returns-then-index-self : goal.returns-then-index-self
returns-then-index-self c =
    left c.self.inside c.args.self.now c.args.number (object_after_change c.args.change) c.index_mut-object.result.now c.change.new.self c.self.view_is c.requires
    c.change.ensures c.index_mut-object.ensures.value

pub returns-else-index-self : goal.returns-else-index-self
returns-else-index-self c =
    left c.self.inside c.args.self.now c.args.number (object_after_change c.args.change) c.index_mut-object.result.now c.change.new.self c.self.view_is c.requires
    c.change.ensures c.index_mut-object.ensures.value
