-- Laws of the runs that are handed out, and of those that are still out, when a scheduler continues from what was saved.
use Rattle.std.proofs.Common.{◌≡◌, ◌≢◌, ℕ, zero, suc, ◌-◌, ◌<◌, ◌≤◌, ◌==◌, ◌||◌, Bool, true, false, cond, List, [], ◌∷◌, ◌++◌, min}
use Rattle.std.proofs.Common.{Option, Some, None, option_map, unwrap_or, refl, sym, ap, ◌∙◌, arith}
use Rattle.std.specs.Prelude.{option_and_then}
use Rattle.std.specs.List.{list_any}
use Rattle.std.proofs.lemmas.Bool.{eqb-true}
use Rattle.std.proofs.lemmas.Bool.Decides.{nat_tests}
use Rattle.std.proofs.lemmas.List.Sums.{sum_by-append, sum_by-cons}
use Rattle.ticket_steps.specs.declared.books.Entry.{Entry}
use Rattle.ticket_steps.specs.History.{replay, IsLegal}
use Rattle.setup_model.specs.declared.parsed_setup.Object.{Object}
use Rattle.check_objects.proofs.NameLemmas.{item_at}
use Rattle.check_objects.specs.Configuration.{Configuration, NamedObject, host_count, name_of, object_count, objects_of}
use Rattle.check_states.specs.declared.standing.Standing.{Standing}
use Rattle.check_states.specs.Standing.{is_soft_problem, pending_standing}
use Rattle.check_saved_state.specs.Saved.{Saved, SavedObject, saved_by_name}
use Rattle.check_saved_state.specs.Scheduling.{Scheduling}
use Rattle.check_sched.specs.declared.call.Call.{Call}
use Rattle.check_sched.specs.declared.call.Reply.{Reply}
use Rattle.check_sched.specs.Runs.{begins, begins_by, ends, takes_by}
use Rattle.check_sched.specs.Saved.{keeps_limit, objects_kept, state_after_resume, saved_run_number_of, scheduling_after_resume, standing_kept}
use Rattle.check_sched.specs.Saved.{standing_after_resume}
use Rattle.check_sched.specs.Saved.{standings_after_resume, continues_running, time_among, within_limit}
use Rattle.check_sched.specs.State.{State, is_host, max_attempts_of, standing_at}
use Rattle.check_sched.specs.Step.{step}
use Rattle.check_sched.proofs.EachObjectLaws.{name_is, slice_each}
use Rattle.check_sched.proofs.RunningLaws.{run_in}
use Rattle.check_sched.proofs.ResumedLaws.{freed}
use Rattle.check_sched.proofs.RunLaws.{runs_count, taken_after, taken_number}
use Rattle.check_sched.proofs.ReplyCases.{each_reply}
use Rattle.check_sched.proofs.SavedLaws.{attempts_at}
use Rattle.check_spread.specs.Spread.{initial_times}

-- ---- run numbers

-- a run that is handed out over whatever setup has a greater number than those that were handed out before
pub runs_greater : (c : Configuration) (saved : Saved) (start : ℕ) (front back : List (Entry Call Reply)) (e : Entry Call Reply) (object run : ℕ)
    → IsLegal step (state_after_resume c saved start) (front ++ e ∷ back) → begins object run e ≡ true → saved.runs < run
runs_greater c saved start front back e object run legal is =
    let next = taken_number (state_after_resume c saved start) front back e object run legal is in omega (arith, next)

abbrev counted_once : Bool → ℕ
counted_once b = cond b 1 0

takes_it : (object run : ℕ) (r : Reply) → begins_by object run r ≡ true → takes_by r ≡ true
takes_it object run =
    each_reply (λ r. begins_by object run r ≡ true → takes_by r ≡ true)
    (λ o n e. refl) (λ o until e. cc) (λ next e. cc) (λ e. cc) (λ standing changed next e. cc) (λ next e. cc) (λ e. cc) (λ why e. cc)

-- none that was handed out has a number above the count
pub runs_counted : (s : State) (front back : List (Entry Call Reply)) (e : Entry Call Reply) (object run : ℕ)
    → IsLegal step s (front ++ e ∷ back) → begins object run e ≡ true → run ≤ (replay step s (front ++ e ∷ back)).runs
runs_counted s front back e object run legal is =
    let next = taken_number s front back e object run legal is in
    let count = runs_count s (front ++ e ∷ back) legal in
    let parts = sum_by-append (λ (x : Entry Call Reply). cond (takes_by x.reply) 1 0) front (e ∷ back) in
    let more = sum_by-cons (λ (x : Entry Call Reply). cond (takes_by x.reply) 1 0) e back in
    let one = ap counted_once (takes_it object run e.reply is) in
    omega (arith, next, count, parts, more, one)

-- ---- what is still out

run_made : (c : Configuration) (first : Option ℕ) (o : Object) (found : Option SavedObject)
    → option_map (λ r. r.number) (scheduling_after_resume c first o found).run ≡ option_map (λ r. r.number) (option_and_then (λ x. x.scheduling.run) found)
run_made c first o None = refl
run_made c first o (Some x) = refl

run_each : (c : Configuration) (saved : Saved) (times : List (Option ℕ)) (n : ℕ) → n < object_count c
    → run_in n (objects_kept c saved times) ≡ saved_run_number_of c saved n
run_each c saved times n l =
    let found = item_at (objects_of c) n l in
    let made : ℕ × NamedObject → Scheduling = λ p. scheduling_after_resume c (time_among times p.0) p.1.object (saved_by_name saved p.1.name) in
    ap (λ x. option_map (λ r. r.number) (option_and_then (λ (y : Scheduling). y.run) x)) (slice_each made n (objects_of c) found.item found.at)
    ∙ run_made c (time_among times n) found.item.object (saved_by_name saved found.item.name)
    ∙ ap (λ name. option_map (λ r. r.number) (option_and_then (λ (x : SavedObject). x.scheduling.run) (saved_by_name saved name))) (sym (name_is c n found.item found.at))

host_kept : (hosts now n : ℕ) (objects : List Scheduling) → n < hosts → run_in n (freed hosts now objects) ≡ run_in n objects
host_kept zero now n objects l = absurd (omega arith)
host_kept (suc hosts) now n [] l = refl
host_kept (suc hosts) now zero (o ∷ objects) l = refl
host_kept (suc hosts) now (suc n) (o ∷ objects) l = host_kept hosts now n objects (omega arith)

out_by : (c : Configuration) (now n : ℕ) (objects : List Scheduling) (host keeps : Bool) → is_host c n ≡ host → keeps_limit c objects ≡ keeps
    → (host || keeps) ≡ true → run_in n (within_limit c now objects) ≡ run_in n objects
out_by c now n objects host true e f h = rw f refl
out_by c now n objects true false e f h = let below : n < host_count c = grind (arith, nat_tests, e) in rw f (host_kept (host_count c) now n objects below)
out_by c now n objects false false e f h = cc

-- an object whose check was out isn't taken until that run has ended
pub out_until : (c : Configuration) (saved : Saved) (start : ℕ) (front back : List (Entry Call Reply)) (e : Entry Call Reply) (object run other : ℕ)
    → object < object_count c → saved_run_number_of c saved object ≡ Some other → continues_running c saved start object ≡ true
    → IsLegal step (state_after_resume c saved start) (front ++ e ∷ back) → begins object run e ≡ true → list_any (ends object other) front ≡ true
out_until c saved start front back e object run other l out stays legal is =
    let objects = objects_kept c saved (initial_times c start) in
    let still = out_by c start object objects (is_host c object) (keeps_limit c objects) refl refl stays ∙ run_each c saved (initial_times c start) object l ∙ out in
    taken_after (state_after_resume c saved start) front back e object run other legal is still

-- ---- soft problems

soft_by : (max : ℕ) (was : Standing) (one : Bool) → (max == 1) ≡ one → max ≢ 1 → is_soft_problem was ≡ true → is_soft_problem (standing_kept max was) ≡ true
soft_by max was true e other soft = absurd (other (eqb-true max 1 e))
soft_by max was false e other soft =
    let kept : standing_kept max was ≡ record was { attempt = min was.attempt (max - 1) } = rw (soft, e) refl in
    ap is_soft_problem kept ∙ soft

pub soft_stays : (c : Configuration) (saved : Saved) (start object : ℕ) (o : SavedObject) → object < object_count c
    → saved_by_name saved (name_of c object) ≡ Some o → is_soft_problem o.standing ≡ true → max_attempts_of c object ≢ 1
    → is_soft_problem (standing_at (state_after_resume c saved start).standings object) ≡ true
soft_stays c saved start object o l e soft other =
    let found = item_at (objects_of c) object l in
    let host = is_host c object in
    let kept : saved_by_name saved found.item.name ≡ Some o = ap (saved_by_name saved) (sym (name_is c object found.item found.at)) ∙ e in
    let attempts = attempts_at c object found.item found.at in
    let at = slice_each (λ p. standing_after_resume (is_host c p.0) p.1.object (saved_by_name saved p.1.name)) object (objects_of c) found.item found.at in
    let stands : standing_at (standings_after_resume c saved) object ≡ standing_kept found.item.object.max_check_attempts o.standing =
    ap (λ x. unwrap_or x (pending_standing true)) at ∙ ap (standing_after_resume host found.item.object) kept in
    ap is_soft_problem stands
    ∙ soft_by found.item.object.max_check_attempts o.standing (found.item.object.max_check_attempts == 1) refl (λ one. other (attempts ∙ one)) soft
