-- A report whose call has returned: it stands in what its pass has seen, and what is glanced of its object continues from it.
use Rattle.std.proofs.Common.{◌≡◌, ◌≢◌, ℕ, zero, suc, ◌<◌, List, [], ◌∷◌, ◌++◌, length, Bool, true, Option, Some, refl, sym, ap, ◌∙◌, subst}
use Rattle.std.proofs.Common.{arith}
use Rattle.std.specs.Prelude.{unwrap_or}
use Rattle.std.proofs.lemmas.List.{append_assoc}
use mathlib.Core.List.{IsPrefix}
use Rattle.ticket_steps.specs.declared.books.Entry.{Entry}
use Rattle.ticket_steps.specs.History.{entry, replay, IsLegal}
use Rattle.ticket_lock.specs.Callers.{Caller}
use Rattle.ticket_lock.specs.Tokens.{start_of}
use Rattle.check_states.specs.declared.state.Code.{Code}
use Rattle.check_states.specs.declared.standing.Standing.{Standing}
use Rattle.check_states.specs.Standing.{pending_standing}
use Rattle.check_sched.specs.declared.call.Call.{Call}
use Rattle.check_sched.specs.declared.call.Call.TheVariants as call
use Rattle.check_sched.specs.declared.call.Reply.{Reply}
use Rattle.check_sched.specs.declared.call.Reply.TheVariants as reply
use Rattle.check_sched.specs.Board.{slot_of_reply}
use Rattle.check_sched.proofs.UpdateLaws.{length-update_at, update_at_apart}
use Rattle.check_sched.specs.State.{State, standing_at}
use Rattle.check_sched.specs.Step.{state_found_in, new_standing_in, step, update_at}
use Rattle.check_sched.proofs.OperatorLaws.{abandon_cases, enable_cases, reschedule_cases, status_cases}
use Rattle.check_sched.proofs.ReportLaws.{report_cases}
use Rattle.check_sched.proofs.TakeLaws.{take_cases}
use Rattle.check_book.specs.BookState.{BookState, book_step}
use Rattle.check_desk.specs.declared.desk.Desk.{Desk}
use Rattle.check_desk.specs.Desks.{IsHistoryOf, objects_of, desk_opening, standing_after}
use Rattle.check_desk.specs.Reports.{HasNoReport, HasSeen, IsStandingAfter}

-- ---- what was seen

-- what comes later begins with what was seen
pub seen_later : (e : Entry Call Reply) (c later : Caller Call Reply) → IsPrefix c.seen later.seen → HasSeen e c → HasSeen e later
seen_later e c later more h = record {
  before = h.before;
  since = h.since ++ more.0;
  seen = sym more.1 ∙ ap (λ l. l ++ more.0) h.seen ∙ append_assoc h.before (e ∷ h.since) more.0;
}

pub glanced_after : (desk : Desk) (e : Entry Call Reply) (c later : Caller Call Reply) (object : ℕ) (standing : Option Standing) → HasSeen e c
    → IsPrefix c.seen later.seen → IsHistoryOf desk later.seen → standing ≡ Some (standing_after desk later.seen object) → IsStandingAfter desk e object standing
glanced_after desk e c later object standing h more legal shown =
    let now = seen_later e c later more h in record {
      before = now.before;
      since = now.since;
      legal = subst (IsHistoryOf desk) now.seen legal;
      shown = shown ∙ ap (λ l. Some (standing_after desk l object)) now.seen;
    }

-- ---- which calls change a standing

-- what a call leaves has the standings of the state before
abbrev Kept : State → State × Reply → Type 0
Kept s a = a.0.standings ≡ s.standings

kept_take : (now : ℕ) (s : State) → Kept s (step s (call.Take now))
kept_take now s = take_cases (Kept s) now s (λ why. refl) (λ c m e. refl) (λ c m r e. refl) (λ e. refl)

kept_abandon : (n run now : ℕ) (s : State) → Kept s (step s (call.Abandon n run now))
kept_abandon n run now s = abandon_cases (Kept s) n run now s (λ why. refl) (λ o e m. refl)

kept_reschedule : (n time : ℕ) (forced : Bool) (s : State) → Kept s (step s (call.Reschedule n time forced))
kept_reschedule n time forced s = reschedule_cases (Kept s) n time forced s (λ why. refl) (λ m. refl)

kept_enable : (n : ℕ) (on : Bool) (s : State) → Kept s (step s (call.Enable n on))
kept_enable n on s = enable_cases (Kept s) n on s (λ why. refl) refl

kept_status : (n : ℕ) (s : State) → Kept s (step s (call.Status n))
kept_status n s = status_cases (Kept s) n s (λ why. refl) (λ o e. refl)

-- no call changes how many standings there are
as_many : (s : State) (c : Call) → length (step s c).0.standings ≡ length s.standings
as_many s (call.Report n run code) =
    report_cases (λ a. length a.0.standings ≡ length s.standings) n run code s (λ why. refl) (λ o r f g. length-update_at n _ s.standings)
as_many s (call.Take now) = ap length (kept_take now s)
as_many s (call.Abandon n run now) = ap length (kept_abandon n run now s)
as_many s (call.Reschedule n time forced) = ap length (kept_reschedule n time forced s)
as_many s (call.Enable n on) = ap length (kept_enable n on s)
as_many s (call.Status n) = ap length (kept_status n s)

-- no call but a report of the object changes its standing
as_before : (s : State) (c : Call) (object : ℕ) → (slot_of_reply c (step s c).1 ≢ Some object) → standing_at (step s c).0.standings object ≡ standing_at s.standings object
as_before s (call.Report n run code) object =
    report_cases (λ a. (slot_of_reply (call.Report n run code) a.1 ≢ Some object) → standing_at a.0.standings object ≡ standing_at s.standings object) n run code s
    (λ why other. refl)
    (λ o r f g other. ap (λ found. unwrap_or found (pending_standing true)) (update_at_apart n object _ s.standings (λ e. other (ap Some e))))
as_before s (call.Take now) object = λ other. ap (λ l. standing_at l object) (kept_take now s)
as_before s (call.Abandon n run now) object = λ other. ap (λ l. standing_at l object) (kept_abandon n run now s)
as_before s (call.Reschedule n time forced) object = λ other. ap (λ l. standing_at l object) (kept_reschedule n time forced s)
as_before s (call.Enable n on) object = λ other. ap (λ l. standing_at l object) (kept_enable n on s)
as_before s (call.Status n) object = λ other. ap (λ l. standing_at l object) (kept_status n s)

put_there : (n : ℕ) (standing : Standing) (standings : List Standing) → n < length standings
    → standing_at (update_at n (λ before. standing) standings) n ≡ standing
put_there n standing [] below = absurd (omega arith)
put_there zero standing (x ∷ xs) below = refl
put_there (suc n) standing (x ∷ xs) below = put_there n standing xs (omega arith)

-- a report leaves the standing that it is answered by
standing_of_reply : (s : State) (n run : ℕ) (code : Code) (standing : Standing) (changed : Bool) (next : Option ℕ) → n < length s.standings
    → reply.Standing standing changed next ≡ (step s (call.Report n run code)).1 → standing_at (step s (call.Report n run code)).0.standings n ≡ standing
standing_of_reply s n run code standing changed next below =
    report_cases (λ a. reply.Standing standing changed next ≡ a.1 → standing_at a.0.standings n ≡ standing) n run code s
    (λ why e. absurd (cc))
    (λ o r f g e.
    let made = new_standing_in s n (state_found_in s n code) in
    let same : made ≡ standing = cc in
    put_there n made s.standings below ∙ same)

-- ---- histories

lasting : (s : BookState) (since : List (Entry Call Reply)) (object : ℕ) → IsLegal book_step s since → HasNoReport object since
    → standing_at (replay book_step s since).sched.standings object ≡ standing_at s.sched.standings object
lasting s [] object legal quiet = refl
lasting s (e ∷ es) object legal quiet =
    lasting (book_step s e.call).0 es object legal.1 quiet.1
    ∙ as_before s.sched e.call object (λ at. quiet.0 (ap (slot_of_reply e.call) legal.0 ∙ at))

standing_after_last : (s : BookState) (before since : List (Entry Call Reply)) (own object run : ℕ) (code : Code) (standing : Standing) (changed : Bool)
    (next : Option ℕ)
    → object < length s.sched.standings
    → IsLegal book_step s (before ++ entry own (call.Report object run code) (reply.Standing standing changed next) ∷ since) → HasNoReport object since
    → standing_at (replay book_step s (before ++ entry own (call.Report object run code) (reply.Standing standing changed next) ∷ since)).sched.standings object
    ≡ standing
standing_after_last s [] since own object run code standing changed next below legal quiet =
    lasting (book_step s (call.Report object run code)).0 since object legal.1 quiet
    ∙ standing_of_reply s.sched object run code standing changed next below legal.0
standing_after_last s (x ∷ before) since own object run code standing changed next below legal quiet =
    let many = as_many s.sched x.call in
    standing_after_last (book_step s x.call).0 before since own object run code standing changed next (omega (arith, below, many)) legal.1 quiet

-- where nobody reported the object since, its standing is the one that the report was answered by
pub last_standing : (desk : Desk) (before since : List (Entry Call Reply)) (own object run : ℕ) (code : Code) (standing : Standing) (changed : Bool) (next : Option ℕ)
    → object < objects_of desk
    → IsHistoryOf desk (before ++ entry own (call.Report object run code) (reply.Standing standing changed next) ∷ since) → HasNoReport object since
    → standing_after desk (before ++ entry own (call.Report object run code) (reply.Standing standing changed next) ∷ since) object ≡ standing
last_standing desk before since own object run code standing changed next there legal quiet =
    let each = ((start_of desk.lock).book).opened.one_standing_each in
    standing_after_last (desk_opening desk) before since own object run code standing changed next (omega (arith, there, each)) legal quiet
