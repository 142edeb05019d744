-- Laws of refusals: what is true of every refusal, and of the answer where nothing is refused, is true
-- of the step.
use Rattle.std.proofs.Common.{◌≡◌, ℕ, ◌<◌, ◌≤◌, ◌^◌, Bool, true, false, ◌==◌, cond, Option, Some, None, Result, Ok, Err, refl, ap, arith}
use Rattle.std.specs.Prelude.{nat_lt, ok_or, slice_get}
use Rattle.std.proofs.lemmas.Bool.Decides.{nat_tests}
use Rattle.check_sched.specs.Scheduling.{run_under}
use Rattle.check_saved_state.specs.Scheduling.{OpenRun, Scheduling}
use Rattle.check_sched.specs.declared.call.Refusal.{Refusal}
use Rattle.check_sched.specs.declared.call.Refusal.TheVariants as refusal
use Rattle.check_sched.specs.declared.call.Reply.{Reply}
use Rattle.check_sched.specs.declared.call.Reply.TheVariants as reply
use Rattle.check_sched.specs.State.{State}
use Rattle.check_sched.specs.Step.{◌>>=◌, existing_object, run_test, step_of_answer, moment_test}

-- ---- refusals

-- What is true of every refusal, and of the answer where nothing is refused, is true of the step: one test after another.
pub by_test : {A : Type 0} (P : State × Reply → Type 0) (s : State) (test : Result A Refusal) (more : A → Result (State × Reply) Refusal)
    → ((why : Refusal) → P (s, reply.Refused why)) → ((x : A) → test ≡ Ok x → P (step_of_answer s (more x))) → P (step_of_answer s (test >>= more))
by_test P s (Ok x) more refused passed = passed x refl
by_test P s (Err why) more refused passed = refused why

known_by : (found : Option Scheduling) (o : Scheduling) → ok_or found refusal.UnknownObject ≡ Ok o → found ≡ Some o
known_by None o e = cc
known_by (Some x) o e = let same : x ≡ o = cc in ap Some same

-- an object that is known is there
pub known_is : (n : ℕ) (s : State) (o : Scheduling) → existing_object n s ≡ Ok o → slice_get s.objects n ≡ Some o
known_is n s o e = known_by (slice_get s.objects n) o e

-- ---- what a passed test shows

range_by : (moment : ℕ) (u : Unit {0}) (late : Bool) → nat_lt (2 ^ 60) moment ≡ late
    → cond late (Err refusal.TimeRange) (Ok tt) ≡ Ok u → moment ≤ 2 ^ 60
range_by moment u true l e = cc
range_by moment u false l e = grind (arith, nat_tests, l)

-- the moment is at most 2^60
pub range_is : (moment : ℕ) (u : Unit {0}) → moment_test moment ≡ Ok u → moment ≤ 2 ^ 60
range_is moment u e = range_by moment u (nat_lt (2 ^ 60) moment) refl e

left_by : (s : State) (u : Unit {0}) (left : Bool) → nat_lt s.runs (2 ^ 60) ≡ left → cond left (Ok tt) (Err refusal.RunsSpent) ≡ Ok u → s.runs < 2 ^ 60
left_by s u true l e = grind (arith, nat_tests, l)
left_by s u false l e = cc

-- fewer than 2^60 runs were handed out
pub left_is : (s : State) (u : Unit {0}) → run_test s ≡ Ok u → s.runs < 2 ^ 60
left_is s u e = left_by s u (nat_lt s.runs (2 ^ 60)) refl e

under_by : (number : ℕ) (x r : OpenRun) (same : Bool) → cond same (Ok x) (Err refusal.WrongRun) ≡ Ok r → x ≡ r
under_by number x r true e = cc
under_by number x r false e = cc

-- the object is being checked
pub under_is : (number : ℕ) (running : Option OpenRun) (r : OpenRun) → run_under number running ≡ Ok r → running ≡ Some r
under_is number None r e = cc
under_is number (Some x) r e = ap Some (under_by number x r (x.number == number) e)
