use Rattle.std.proofs.Common.{◌≡◌, ◌<◌, ◌∙◌, ap, subst, sym, arith, length, set, Bool, List, Some, refl, true}
use Rattle.std.specs.Prelude.{is_some, option_and_then, slice_get}
use Rattle.check_objects.specs.Configuration.{object_count}
use Rattle.check_states.specs.declared.standing.Standing.{Standing}
use Rattle.check_states.specs.declared.state.State as rules
use Rattle.check_states.specs.Flapping.{is_flapping, results_after}
use Rattle.check_states.specs.State.{is_another_state}
use Rattle.check_sched.specs.Scheduling.{object_after_run}
use Rattle.check_saved_state.specs.Scheduling.{Scheduling}
use Rattle.check_sched.specs.declared.call.Reply.{Reply}
use Rattle.check_sched.specs.declared.call.Reply.TheVariants as reply
use Rattle.check_sched.specs.State.{IsStandingOf, State, next_of, results_at}
use Rattle.check_sched.specs.Sched.{state_of}
use Rattle.check_sched.specs.Steady.{IsSteady}
use Rattle.check_sched.specs.Report.{flaps_with, new_standing, next_after, state_found}
use Rattle.check_sched.specs.Step.{state_found_in, new_standing_in, report_result, state_after_report, standing_reply, update_at}
use Rattle.check_sched.proofs.FlappingLaws.{results_here}
use Rattle.check_sched.proofs.IntervalLaws.{count_there, intervals_there, read_there}
use Rattle.check_sched.proofs.ReportLaws.{is_time_holds, judged_is_standing, next_already, reported_is_state, standing_of_state, standing_read, report_answers}
use Rattle.check_sched.proofs.SteadyLaws.{marks_after, steady_after}
use Rattle.check_sched.proofs.UpdateLaws.{length-update_at, set_is_update}
use Rattle.check_sched.proofs.sched.Sched.report_changed.Goals as goal

pub add-flapping-requires : goal.add-flapping-requires
add-flapping-requires c =
    let in_range = count_there c.self.inside c.args.object _ c.self.view_is c.requires.in_range in
    let each = c.self.invariant.state.results_each in
    omega (arith, in_range, each)

pub new_standing-standing-requires-clause-before : goal.new_standing-standing-requires-clause-before
new_standing-standing-requires-clause-before c =
    rw c.deref-2.ensures.value (standing_of_state (state_of c.self.inside) c.args.object c.self.invariant.state
    (count_there c.self.inside c.args.object _ c.self.view_is c.requires.in_range))

pub index-intervals-requires : goal.index-intervals-requires
index-intervals-requires c = let in_range = intervals_there c.self.inside c.args.object _ c.self.invariant c.self.view_is c.requires.in_range in omega (arith, in_range)

pub next_check_time-next-requires-clause-bounded : goal.next_check_time-next-requires-clause-bounded
next_check_time-next-requires-clause-bounded c =
    (read_there c.self.inside c.args.object _ c.index-intervals.result.now c.self.invariant c.self.view_is c.requires.in_range c.index-intervals.ensures).bounded

-- the object, its standing, its results and its mark
in_range : (c : goal.After-change) → c.args.object < object_count c.self.inside.setup
in_range c = count_there c.self.inside c.args.object _ c.self.view_is c.requires.in_range

standing_there : (c : goal.After-change) → c.args.object < length c.self.inside.standings.items
standing_there c = let known = in_range c in let each = c.self.invariant.state.one_standing_each in omega (arith, known, each)

results_there : (c : goal.After-change) → c.args.object < length c.self.inside.results
results_there c = let known = in_range c in let each = c.self.invariant.state.results_each in omega (arith, known, each)

mark_there : (c : goal.After-change) → c.args.object < length c.self.inside.steady.items
mark_there c = let known = in_range c in let each = c.self.invariant.steady_each in omega (arith, known, each)

-- the state that the code means
meant : (c : goal.After-change) → c.state_found-found.result ≡ state_found_in (state_of c.self.inside) c.args.object c.args.code
meant c =
    c.state_found-found.ensures.value
    ∙ ap (λ standings. state_found c.self.inside.setup standings c.args.object c.args.code) c.deref.ensures.value

-- whether the object flaps
flapping : (c : goal.After-change) → c.add-flapping.result
    ≡ flaps_with c.self.inside.setup c.self.inside.standings.items c.self.inside.results c.args.object c.state_found-found.result
flapping c =
    let was = standing_read c.self.inside.standings.items c.args.object c.index-was.result.now (standing_there c) c.index-was.ensures in
    c.add-flapping.ensures.flaps
    ∙ (λ i. is_flapping (results_after (results_at c.self.inside.results c.args.object) c.state_found-found.result) (sym was i).flapping
    (c.flap_thresholds-thresholds.ensures i).0 (c.flap_thresholds-thresholds.ensures i).1)

-- the standing that the verdict makes
made : (c : goal.After-change) → c.new_standing-standing.result ≡ new_standing_in (state_of c.self.inside) c.args.object c.state_found-found.result
made c =
    c.new_standing-standing.ensures
    ∙ (λ i. new_standing c.self.inside.setup (c.deref-2.ensures.value i) c.args.object c.state_found-found.result (flapping c i))

-- the next time is the one that the setup gives
next_given : (c : goal.After-change)
    → c.next_check_time-next.result ≡ next_after c.self.inside.setup c.args.object c.new_standing-standing.result c.args.start c.args.already
next_given c =
    let read = read_there c.self.inside c.args.object _ c.index-intervals.result.now c.self.invariant c.self.view_is c.requires.in_range
    c.index-intervals.ensures in
    c.next_check_time-next.ensures.value ∙ read.next c.new_standing-standing.result c.args.start c.args.already

-- what is answered, by what the code makes
answer : (c : goal.After-change) → report_result c.args.object c.args.start c.args.code c.args.already (state_of c.self.inside)
    ≡ (
      state_after_report c.args.object c.state_found-found.result c.new_standing-standing.result c.next_check_time-next.result
          (state_of c.self.inside),
      standing_reply c.args.object c.new_standing-standing.result c.next_check_time-next.result (state_of c.self.inside),
    )
answer c =
    report_answers c.args.object c.args.start c.args.code c.args.already (state_of c.self.inside)
    c.state_found-found.result c.new_standing-standing.result c.next_check_time-next.result (meant c) (made c) (next_given c)

-- the standings that the write leaves
standings_left : (c : goal.After-change)
    → c.put_standing.new.standings.items ≡ update_at c.args.object
    (λ (before : Standing). c.new_standing-standing.result) c.self.inside.standings.items
standings_left c =
    c.put_standing.ensures
    ∙ set_is_update _ (λ (before : Standing). c.new_standing-standing.result) _ c.new_standing-standing.result _ (standing_there c) refl

state_left : (c : goal.After-change) (objects : List Scheduling) (standings : List Standing) (results : List (List rules.State))
    → objects ≡ update_at c.args.object (object_after_run c.next_check_time-next.result) c.self.inside.roster.objects
    → standings ≡ update_at c.args.object (λ (before : Standing). c.new_standing-standing.result) c.self.inside.standings.items
    → results ≡ update_at c.args.object (λ kept. results_after kept c.state_found-found.result) c.self.inside.results
    → let s : State =
    record {
      setup = c.self.inside.setup;
      start = c.self.inside.start;
      objects = objects;
      standings = standings;
      results = results;
      runs = c.self.inside.runs;
    } in s
    ≡ state_after_report c.args.object c.state_found-found.result c.new_standing-standing.result c.next_check_time-next.result (state_of c.self.inside)
state_left c objects standings results e f g i = record {
  setup = c.self.inside.setup;
  start = c.self.inside.start;
  objects = e i;
  standings = f i;
  results = g i;
  runs = c.self.inside.runs;
}

-- a next time that was set while the check ran stays
already_set : (c : goal.After-change) (o : Scheduling) → slice_get c.self.inside.roster.objects c.args.object ≡ Some o → is_some o.next ≡ true
    → is_some c.next_check_time-next.result ≡ true
already_set c o e f =
    let next = ap (λ (s : State). next_of c.args.object s) c.self.view_is ∙ c.requires.already in
    let here : o.next ≡ c.args.already = ap (option_and_then (λ (x : Scheduling). x.next)) (sym e) ∙ next in
    rw (next_given c) (next_already c.self.inside.setup c.args.object c.new_standing-standing.result c.args.start c.args.already
    (ap is_some (sym here) ∙ f))

-- the mark that the object gets
marked : (c : goal.After-change) → c.is_steady_after.result ≡ true
    → IsSteady c.self.inside.setup c.args.object c.new_standing-standing.result (results_after (results_at c.self.inside.results c.args.object) c.state_found-found.result)
marked c set =
    let before = standing_read c.self.inside.standings.items c.args.object c.index-before.result.now (standing_there c) c.index-before.ensures in
    let kept = ap (λ results. results_at results c.args.object) c.add-flapping.ensures.kept
    ∙ results_here c.self.inside.results c.args.object c.state_found-found.result (results_there c) in
    steady_after (state_of c.self.inside) c.args.object c.args.code c.state_found-found.result c.index-before.result.now c.new_standing-standing.result
    (in_range c) (meant c) before (made c) (c.is_steady_after.ensures.ok set) (c.is_steady_after.ensures.same set)
    (subst (λ (results : List rules.State). results_after results c.state_found-found.result ≡ results) kept (c.is_steady_after.ensures.kept set))

marks_left : (c : goal.After-change) → set c.self.inside.steady.items c.args.object c.is_steady_after.result
    ≡ update_at c.args.object (λ (before : Bool). c.is_steady_after.result) c.self.inside.steady.items
marks_left c = set_is_update c.args.object (λ (before : Bool). c.is_steady_after.result) c.self.inside.steady.items true c.is_steady_after.result (mark_there c) refl

pub invariant_of-self : goal.invariant_of-self
invariant_of-self c =
    let s = state_of c.self.inside in
    let within : IsStandingOf c.self.inside.setup c.args.object c.new_standing-standing.result = rw (made c)
    (judged_is_standing c.self.inside.setup c.self.inside.standings.items c.args.object c.state_found-found.result _ c.self.invariant.state.valid_setup
    c.state_found-found.ensures.sort (standing_of_state s c.args.object c.self.invariant.state (in_range c))) in
    record {
      state =
          rw (c.change.ensures, c.add-flapping.ensures.kept, state_left c _ _ _ refl (standings_left c) refl)
          (reported_is_state c.args.object c.state_found-found.result c.new_standing-standing.result c.next_check_time-next.result s c.self.invariant.state
          (is_time_holds c.next_check_time-next.result c.next_check_time-next.ensures.within) (already_set c) c.state_found-found.ensures.sort within);
      marks = c.self.invariant.marks;
      hosts = rw c.change.ensures c.self.invariant.hosts;
      intervals = c.self.invariant.intervals;
      steady_each = rw (marks_left c) (length-update_at c.args.object _ c.self.inside.steady.items ∙ c.self.invariant.steady_each);
      steady =
          rw (c.add-flapping.ensures.kept, standings_left c, marks_left c)
          (marks_after c.self.inside.setup c.args.object c.is_steady_after.result c.self.inside.steady.items c.self.inside.standings.items
          c.self.inside.results c.new_standing-standing.result c.state_found-found.result c.self.invariant.steady (standing_there c) (results_there c)
          (marked c));
    }

pub is_steady_after-requires : goal.is_steady_after-requires
is_steady_after-requires c =
    let known = count_there c.self.inside c.args.object _ c.self.view_is c.requires.in_range in
    let each = c.self.invariant.state.results_each in
    let kept = ap length c.add-flapping.ensures.kept ∙ length-update_at c.args.object _ c.self.inside.results in
    omega (arith, known, each, kept)

pub returns-clause-state : goal.returns-clause-state
returns-clause-state c =
    rw (← c.self.view_is, c.change.ensures, c.add-flapping.ensures.kept)
    (state_left c _ _ _ refl (standings_left c) refl ∙ ap (λ (a : State × Reply). a.0) (sym (answer c)))

pub returns-clause-reply : goal.returns-clause-reply
returns-clause-reply c =
    let before = standing_read c.self.inside.standings.items c.args.object c.index-before.result.now (standing_there c) c.index-before.ensures in
    let standing = c.new_standing-standing.result in
    let changed = c.is_changed-changed.ensures ∙ ap (λ (t : Standing). is_another_state standing.state t.state) (sym before) in
    rw (← c.self.view_is)
    (ap (λ changed. reply.Standing standing changed c.next_check_time-next.result) changed ∙ ap (λ (a : State × Reply). a.1) (sym (answer c)))
