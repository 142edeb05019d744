-- Nothing is lost on the way to C: each value can be read back from its struct.
use Rattle.std.proofs.Common.{◌≡◌, ℕ, ◌==◌, Bool, true, false, Some, None, refl, sym, ap, subst, ◌∙◌, arith}
use mathlib.Core.Logic.{◌≢◌}
use Rattle.std.specs.Prelude.{Option, unwrap_or}
use Rattle.ticket_steps.specs.declared.books.Entry.{Entry}
use Rattle.setup_model.specs.declared.error.LoadError.{LoadError}
use Rattle.setup_model.specs.declared.error.LoadError.TheVariants as load
use Rattle.setup_model.specs.declared.place.Place.{Place}
use Rattle.setup_model.specs.declared.place.Part.{Part}
use Rattle.setup_model.specs.declared.place.Part.TheVariants as part
use Rattle.setup_model.specs.LoadError.{error_number, numbered_error, place_of}
use Rattle.setup_model.specs.Place.{part_number}
use Rattle.check_states.specs.declared.standing.Kind.{Kind}
use Rattle.check_states.specs.declared.standing.Kind.TheVariants as kind
use Rattle.check_states.specs.declared.standing.Standing.{Standing}
use Rattle.check_states.specs.declared.state.Code.{Code}
use Rattle.check_states.specs.declared.state.Code.TheVariants as code
use Rattle.check_states.specs.declared.state.State.{State}
use Rattle.check_sched.specs.declared.call.Call.{Call}
use Rattle.check_sched.specs.declared.call.Call.TheVariants as call
use Rattle.check_sched.specs.declared.call.Reply.{Reply}
use Rattle.check_sched.specs.declared.call.Reply.TheVariants as reply
use Rattle.check_sched.specs.declared.call.Refusal.TheVariants as refused
use Rattle.nagsched_handles.specs.declared.structs.CReply.{CReply}
use Rattle.nagsched_handles.specs.declared.structs.CEntry.{CEntry}
use Rattle.nagsched_handles.specs.declared.structs.CRefusal.{CRefusal}
use Rattle.nagsched_handles.specs.Structs.{call_from_c, code_or_unknown, kind_or_hard, optional_number, part_or_host_dependencies, place_from_c}
use Rattle.nagsched_handles.specs.Structs.{reply_from_c, standing_from_c, state_or_unreachable}
use Rattle.nagsched_handles.specs.Structs.{IsNoRefusal, IsNoReply}
use Rattle.check_states.specs.Numbers.{code_number, kind_number, state_number}
use Rattle.check_states.proofs.Cases.{each_state}
use Rattle.nagsched_handles.specs.Structs.{flag, presence, number_or_0}
use Rattle.nagsched_handles.specs.Structs.{c_call, c_entry, c_refusal, c_reply, c_standing, refusal_at, refusal_of_place}

-- what can be read back distinguishes values
pub output : {X Y : Type 0} (back : Y → X) (plain : X → Y) → ((x : X) → back (plain x) ≡ x) → (a b : X) → plain a ≡ plain b → a ≡ b
output back plain is a b same = sym (is a) ∙ (ap back same ∙ is b)

-- ---- the parts

flag_is : (b : Bool) → (flag b == 1) ≡ b
flag_is true = refl
flag_is false = refl

code_is : (c : Code) → code_or_unknown (code_number c) ≡ c
code_is code.Ok = refl
code_is code.Warning = refl
code_is code.Critical = refl
code_is code.Unknown = refl

state_is : (s : State) → state_or_unreachable (state_number s) ≡ s
state_is = each_state (λ s. state_or_unreachable (state_number s) ≡ s) refl refl refl refl refl refl refl

kind_is : (k : Kind) → kind_or_hard (kind_number k) ≡ k
kind_is kind.Soft = refl
kind_is kind.Hard = refl

pub number_is : (o : Option ℕ) → optional_number (presence o) (number_or_0 o) ≡ o
number_is (Some number) = refl
number_is None = refl

each_part : (P : Part → Type 0) → P part.Document → P part.Options → P part.Hosts → P part.Services → P part.ServiceDependencies → P part.HostDependencies
    → (p : Part) → P p
each_part P document options hosts services between among part.Document = document
each_part P document options hosts services between among part.Options = options
each_part P document options hosts services between among part.Hosts = hosts
each_part P document options hosts services between among part.Services = services
each_part P document options hosts services between among part.ServiceDependencies = between
each_part P document options hosts services between among part.HostDependencies = among

part_is : (p : Part) → part_or_host_dependencies (part_number p) ≡ p
part_is = each_part (λ p. part_or_host_dependencies (part_number p) ≡ p) refl refl refl refl refl refl

-- ---- the structs

standing_is : (s : Standing) → standing_from_c (c_standing s) ≡ s
standing_is s = λ i. record {
  checked = flag_is s.checked i;
  state = state_is s.state i;
  kind = kind_is s.kind i;
  attempt = s.attempt;
  last_hard = state_is s.last_hard i;
  flapping = flag_is s.flapping i;
}

call_is : (c : Call) → call_from_c (c_call c) ≡ c
call_is (call.Take now) = refl
call_is (call.Report object run k) = ap (call.Report object run) (code_is k)
call_is (call.Abandon object run now) = refl
call_is (call.Reschedule object time forced) = ap (call.Reschedule object time) (flag_is forced)
call_is (call.Enable object on) = ap (call.Enable object) (flag_is on)
call_is (call.Status object) = refl

reply_is : (r : Reply) → reply_from_c (c_reply r) ≡ r
reply_is (reply.Taken object run) = refl
reply_is (reply.PutOff object until) = ap (reply.PutOff object) (number_is until)
reply_is (reply.Idle next) = ap reply.Idle (number_is next)
reply_is reply.AtLimit = refl
reply_is (reply.Standing standing changed next) = λ i. reply.Standing (standing_is standing i) (flag_is changed i) (number_is next i)
reply_is (reply.Freed next) = refl
reply_is reply.Done = refl
reply_is (reply.Refused refused.UnknownObject) = refl
reply_is (reply.Refused refused.TimeRange) = refl
reply_is (reply.Refused refused.NotRunning) = refl
reply_is (reply.Refused refused.WrongRun) = refl
reply_is (reply.Refused refused.RunsSpent) = refl

abbrev entry_from_c : CEntry → Entry Call Reply
entry_from_c p = record { pass = p.pass; call = call_from_c p.call; reply = reply_from_c p.reply }

entry_is : (e : Entry Call Reply) → entry_from_c (c_entry e) ≡ e
entry_is e = λ i. record { pass = e.pass; call = call_is e.call i; reply = reply_is e.reply i }

place_is : (kind : ℕ) (p : Place) → place_from_c (refusal_at kind p) ≡ p
place_is kind p = λ i. record { part = part_is p.part i; index = number_is p.index i }

-- the fields of a struct name the place that it was made of, if there is one, and its kind
place_of_struct : (kind : ℕ) (o : Option Place) → place_from_c (refusal_of_place kind o) ≡ unwrap_or o (record { part = part.HostDependencies; index = None })
place_of_struct kind (Some p) = place_is kind p
place_of_struct kind None = refl

kind_of_struct : (kind : ℕ) (o : Option Place) → (refusal_of_place kind o).kind ≡ kind
kind_of_struct kind (Some p) = refl
kind_of_struct kind None = refl

-- read back: the refusal that the fields of a struct name; if they name none, it is out of memory
abbrev pub refusal_from_c : CRefusal → LoadError
refusal_from_c p = unwrap_or (numbered_error p.kind (place_from_c p)) load.Memory

-- its number and its place are all that there is of it; out of memory has no number here
error_numbered : (e : LoadError) (p : Place) → unwrap_or (numbered_error (error_number e) (unwrap_or (place_of e) p)) load.Memory ≡ e
error_numbered load.TooLong p = refl
error_numbered load.NotJson p = refl
error_numbered (load.Shape q) p = refl
error_numbered load.TooMany p = refl
error_numbered (load.BadName q) p = refl
error_numbered (load.Duplicate q) p = refl
error_numbered (load.UnknownHost q) p = refl
error_numbered (load.UnknownMaster q) p = refl
error_numbered (load.Range q) p = refl
error_numbered load.DependencyCycle p = refl
error_numbered load.ParentCycle p = refl
error_numbered load.Memory p = refl

pub refusal_is : (e : LoadError) → refusal_from_c (c_refusal e) ≡ e
refusal_is e =
    (λ i. unwrap_or (numbered_error (kind_of_struct (error_number e) (place_of e) i) (place_of_struct (error_number e) (place_of e) i)) load.Memory)
    ∙ error_numbered e (record { part = part.HostDependencies; index = None })

pub standings_distinct : (a b : Standing) → c_standing a ≡ c_standing b → a ≡ b
standings_distinct = output standing_from_c c_standing standing_is

pub calls_distinct : (a b : Call) → c_call a ≡ c_call b → a ≡ b
calls_distinct = output call_from_c c_call call_is

pub replies_distinct : (a b : Reply) → c_reply a ≡ c_reply b → a ≡ b
replies_distinct = output reply_from_c c_reply reply_is

pub entries_distinct : (a b : Entry Call Reply) → c_entry a ≡ c_entry b → a ≡ b
entries_distinct = output entry_from_c c_entry entry_is

pub refusals_distinct : (a b : LoadError) → c_refusal a ≡ c_refusal b → a ≡ b
refusals_distinct = output refusal_from_c c_refusal refusal_is

-- ---- structs that nothing has

-- where what is read back has another struct, nothing has this one
pub none_has : {X Y : Type 0} (back : Y → X) (plain : X → Y) → ((x : X) → back (plain x) ≡ x) → (y : Y) → plain (back y) ≢ y → (x : X) → plain x ≢ y
none_has back plain is y other x has = other (subst (λ z. plain (back z) ≡ z) has (ap plain (is x)))

pub no_reply : (plain : CReply) → c_reply (reply_from_c plain) ≢ plain → IsNoReply plain
no_reply plain other r bounded = none_has reply_from_c c_reply reply_is plain other r

pub no_refusal : (plain : CRefusal) → c_refusal (refusal_from_c plain) ≢ plain → IsNoRefusal plain
no_refusal plain other e output = none_has refusal_from_c c_refusal refusal_is plain other e
