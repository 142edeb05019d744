-- The recorded calls of a schedule: the order of their entries, how many others end before one, and the seat that holds next.
use Rattle.std.proofs.Common.{◌≡◌, ◌≢◌, ℕ, suc, ◌+◌, ◌<◌, ◌≤◌, List, [], ◌∷◌, ◌++◌, length, set, sym, refl, ap, ◌∙◌, subst, arith, append_assoc, inl, inr}
use Rattle.std.proofs.Common.{⊎_elim}
use Rattle.std.proofs.Common.{true, ◌==◌, eq-eqb, length-append}
use mathlib.Core.Logic.{dite}
use native.Mathlib.Decide.{ℕ_discrete, dec_le}
use mathlib.Core.Option.{some}
use lib.ListN.{get_elem?}
use Rattle.ticket_steps.specs.declared.books.Entry.{Entry}
use Rattle.ticket_steps.specs.declared.books.Kept.{Ghosts}
use Rattle.ticket_steps.specs.declared.events.Event.TheVariants.{Look}
use Rattle.ticket_steps.specs.declared.seats.CoreSeat.{CoreSeat}
use Rattle.ticket_steps.specs.declared.seats.Phase.{Phase}
use Rattle.ticket_steps.specs.declared.seats.Phase.TheVariants.{Idle, Waiting, Holding, Posted, Gone}
use Rattle.ticket_steps.specs.Books.{calls_handled}
use Rattle.ticket_steps.specs.CoreStates.{CoreState, opening_core}
use Rattle.ticket_steps.specs.Happenings.{Happening, split, drew, waited, held, posted, post_refused, left_posted, recorded, refused, glanced, gathered}
use Rattle.ticket_steps.specs.Happenings.{calls_made, calls_ended, calls_ended_by, recordings, IsOfEvent, Moves, Leads, with_seats}
use Rattle.ticket_steps.specs.History.{entry}
use Rattle.ticket_steps.specs.Lawful.{IsLawful}
use Rattle.ticket_steps.specs.Schedules.{Schedule, IsSchedule}
use Rattle.ticket_steps.specs.Seats.{IsSeatAt, Holds, is_present, holder_count_of, tickets_of, waiting_seat, holding_seat, gathered_seat, gone_seat}
use Rattle.ticket_steps.specs.Seats.{seat_after_split, other_seat}
use Rattle.ticket_steps.specs.Seats.{posted_seat, seat_after_leave}
use Rattle.ticket_steps.specs.RecordedCalls.{RecordedCall, IsRecordedIn, until_recording, drawn_at, entry_at, GoesOn}
use Rattle.ticket_steps.proofs.LawfulSteps.{lawful_opened}
use Rattle.ticket_steps.proofs.Lists.{at_same, at_within, at_front, at_middle, set_here, set_else, later_cut, same_cut}
use Rattle.ticket_steps.proofs.ScheduleLemmas.{recordings-append, count-cons, leads_count, leads_lawful, schedule_lawful, schedule_order}
use Rattle.ticket_steps.proofs.SeatLemmas.{same_ticket, named_once, none_posted, not_left, has_ticket, queue_lt, served_seat, waits_or_holds}
use Rattle.ticket_steps.proofs.SumLemmas.{one_if}

-- a seat with a ticket is there
pub ticket_there : (t : ℕ) (p : Phase) → tickets_of p ≡ t ∷ [] → is_present p ≡ true
ticket_there t Idle h = refl
ticket_there t (Waiting x) h = refl
ticket_there t (Holding x) h = refl
ticket_there t (Posted x) h = refl
ticket_there t Gone h = let n : 0 ≡ 1 = ap (λ (ts : List ℕ). length ts) h in absurd (omega (arith, n))

-- the seat with this own number has this ticket
abbrev pub HasTicket : List CoreSeat → ℕ → ℕ → Type 0
HasTicket seats own t = (i : ℕ) × (p : CoreSeat) × (get_elem? seats i ≡ some p) × (p.own ≡ own) × (tickets_of p.phase ≡ t ∷ [])

-- it keeps the ticket where one seat changes, and doesn't give up this ticket
kept : (seats : List CoreSeat) (own t j : ℕ) (q w : CoreSeat) → get_elem? seats j ≡ some q
    → (q.own ≡ own → tickets_of q.phase ≡ t ∷ [] → (w.own ≡ own) × (tickets_of w.phase ≡ t ∷ [])) → HasTicket seats own t → HasTicket (set seats j w) own t
kept seats own t j q w at same h = dite (ℕ_discrete h.0 j)
    (λ e.
    let here : get_elem? seats h.0 ≡ some q = subst (λ (n : ℕ). get_elem? seats n ≡ some q) (sym e) at in
    let is : h.1 ≡ q = at_same seats h.0 h.1 q h.2 here in
    let new = same (ap (λ (s : CoreSeat). s.own) (sym is) ∙ h.3) (ap (λ (s : CoreSeat). tickets_of s.phase) (sym is) ∙ h.4) in
    (j, w, set_here seats j w (at_within seats j q at), new.0, new.1))
    (λ ne. (h.0, h.1, set_else seats j h.0 w ne ∙ h.2, h.3, h.4))

-- an idle seat gives up no ticket
no_ticket : (t own : ℕ) (q w : CoreSeat) → q.phase ≡ Idle → q.own ≡ own → tickets_of q.phase ≡ t ∷ [] → (w.own ≡ own) × (tickets_of w.phase ≡ t ∷ [])
no_ticket t own q w idle _ h =
    let n : 0 ≡ 1 = ap (λ (p : Phase). length (tickets_of p)) (sym idle) ∙ ap (λ (ts : List ℕ). length ts) h in absurd (omega (arith, n))

module _ {C R : Type 0} where
  pub ended_by-cons : (n : ℕ) (h : Happening C R) (hs : List (Happening C R)) → calls_ended_by n (h ∷ hs) ≡ calls_ended_by n (h ∷ []) + calls_ended_by n hs
  ended_by-cons n (split own count) hs = omega arith
  ended_by-cons n (drew own ticket) hs = omega arith
  ended_by-cons n (waited own) hs = omega arith
  ended_by-cons n (held own) hs = omega arith
  ended_by-cons n (posted own call reply) hs = omega arith
  ended_by-cons n (post_refused own) hs = omega arith
  ended_by-cons n (left_posted own) hs = omega arith
  ended_by-cons n (recorded own call reply) hs = omega arith
  ended_by-cons n (refused own) hs = omega arith
  ended_by-cons n (glanced own place word) hs = omega arith
  ended_by-cons n (gathered own other) hs = omega arith

  calls_made-append : (hs later : List (Happening C R)) → calls_made (hs ++ later) ≡ calls_made hs + calls_made later
  calls_made-append [] later = omega arith
  calls_made-append (h ∷ hs) later = omega (arith, (count-cons h (hs ++ later)).0, (count-cons h hs).0, calls_made-append hs later)

  abbrev first_pass : List (Entry C R) → ℕ
  first_pass [] = 0
  first_pass (e ∷ es) = e.pass

-- the seat of a leave is another one, if no call of this number ends
apart : (own n : ℕ) → one_if (own == n) + 0 ≡ 0 → own ≢ n
apart own n h e = omega (arith, h, ap one_if (eq-eqb own n e))

module _ {K C R : Type 0} (k : Ghosts K C R) (draws : ℕ) where
  abbrev Core : Type 0
  Core = CoreState k.State C R

  -- a seat keeps its ticket until it leaves
  pub moves_keep : (own t : ℕ) (b c : Core) (h : Happening C R) → Moves k draws b h c → calls_ended_by own (h ∷ []) ≡ 0 → HasTicket b.seats own t
      → HasTicket c.seats own t
  moves_keep own t b c (split n count) m none has =
      let w = seat_after_split draws count m.1 in
      let here = kept b.seats own t m.0 m.1 w m.2.0 (no_ticket t own m.1 w m.2.2) has in
      subst (λ (z : Core). HasTicket z.seats own t) (sym m.6)
      (here.0, here.1, at_front (set b.seats m.0 w) (other_seat draws count m.1 ∷ []) here.1 here.0 here.2, here.3, here.4)
  moves_keep own t b c (drew n ticket) m none has =
      let w = waiting_seat b.next m.1 in
      subst (λ (z : Core). HasTicket z.seats own t) (sym m.5) (kept b.seats own t m.0 m.1 w m.2.0 (no_ticket t own m.1 w m.2.2) has)
  moves_keep own t b c (waited n) m none has = subst (λ (z : Core). HasTicket z.seats own t) (sym m.5) has
  moves_keep own t b c (held n) m none has =
      subst (λ (z : Core). HasTicket z.seats own t) (sym m.3) (kept b.seats own t m.0 m.1 (holding_seat b.served m.1) m.2.0
      (λ is ticket. (is, sym (ap tickets_of m.2.2) ∙ ticket)) has)
  moves_keep own t b c (posted n call reply) m none has =
      subst (λ (z : Core). HasTicket z.seats own t) (sym m.5) (kept b.seats own t m.0 m.1 (posted_seat m.2 m.1) m.3.0
      (λ is ticket. (is, sym (ap tickets_of m.3.2) ∙ ticket)) has)
  moves_keep own t b c (post_refused n) m none has =
      subst (λ (z : Core). HasTicket z.seats own t) (sym m.4) (kept b.seats own t m.0 m.1 (posted_seat m.2 m.1) m.3.0
      (λ is ticket. (is, sym (ap tickets_of m.3.2) ∙ ticket)) has)
  moves_keep own t b c (left_posted n) m none has =
      let other = apart n own none in
      subst (λ (z : Core). HasTicket z.seats own t) (sym m.4) (kept b.seats own t m.0 m.1 (seat_after_leave m.1) m.3.0
      (λ is ticket. absurd (other (sym m.3.1 ∙ is))) has)
  moves_keep own t b c (recorded n call reply) m none has =
      let other = apart n own none in
      subst (λ (z : Core). HasTicket z.seats own t) (sym m.5) (kept b.seats own t m.0 m.1 (seat_after_leave m.1) m.3.0
      (λ is ticket. absurd (other (sym m.3.1 ∙ is))) has)
  moves_keep own t b c (refused n) m none has =
      let other = apart n own none in
      subst (λ (z : Core). HasTicket z.seats own t) (sym m.4) (kept b.seats own t m.0 m.1 (seat_after_leave m.1) m.3.0
      (λ is ticket. absurd (other (sym m.3.1 ∙ is))) has)
  moves_keep own t b c (glanced n place word) m none has = subst (λ (z : Core). HasTicket z.seats own t) (sym m.5) has
  moves_keep own t b c (gathered n other) m none has =
      let w = gathered_seat m.1 m.3 in
      let ne : m.2 ≢ m.0 = λ e. m.6 (sym m.4.1
      ∙ (ap (λ (s : CoreSeat). s.own) (at_same b.seats m.0 m.1 m.3 m.4.0 (subst (λ (n : ℕ). get_elem? b.seats n ≡ some m.3) e m.5.0)) ∙ m.5.1)) in
      subst (λ (z : Core). HasTicket z.seats own t) (sym m.7)
      (kept (set b.seats m.0 w) own t m.2 m.3 gone_seat (set_else b.seats m.0 m.2 w ne ∙ m.5.0) (no_ticket t own m.3 gone_seat m.5.2)
      (kept b.seats own t m.0 m.1 w m.4.0 (no_ticket t own m.1 w m.4.2) has))

  leads_keep : (own t : ℕ) (b c : Core) (hs : List (Happening C R)) → Leads k draws b hs c → calls_ended_by own hs ≡ 0 → HasTicket b.seats own t
      → HasTicket c.seats own t
  leads_keep own t b c [] l none has = subst (λ (z : Core). HasTicket z.seats own t) (sym l) has
  leads_keep own t b c (h ∷ hs) l none has =
      let parts = ended_by-cons own h hs in
      leads_keep own t l.0 c hs l.2 (omega (arith, none, parts)) (moves_keep own t b l.0 h l.1 (omega (arith, none, parts)) has)

  -- a draw gives the next ticket
  pub drawn : (own t : ℕ) (b c : Core) → Moves k draws b (drew own t) c
      → (i : ℕ) × (p : CoreSeat) × IsSeatAt c.seats i own (Waiting t) p
  drawn own t b c m =
      let w = waiting_seat b.next m.1 in
      subst (λ (z : Core). (i : ℕ) × (p : CoreSeat) × IsSeatAt z.seats i own (Waiting t) p) (sym m.5)
      (m.0, w, (set_here b.seats m.0 w (at_within b.seats m.0 m.1 m.2.0), m.2.1, ap Waiting (sym m.4)))

  abbrev next_in : Core → ℕ
  next_in c = c.next

  moves_next : (b c : Core) (h : Happening C R) → Moves k draws b h c → b.next ≤ c.next
  moves_next b c (split own count) m = omega (arith, ap next_in m.6)
  moves_next b c (drew own ticket) m = omega (arith, ap next_in m.5)
  moves_next b c (waited own) m = omega (arith, ap next_in m.5)
  moves_next b c (held own) m = omega (arith, ap next_in m.3)
  moves_next b c (posted own call reply) m = omega (arith, ap next_in m.5)
  moves_next b c (post_refused own) m = omega (arith, ap next_in m.4)
  moves_next b c (left_posted own) m = omega (arith, ap next_in m.4)
  moves_next b c (recorded own call reply) m = omega (arith, ap next_in m.5)
  moves_next b c (refused own) m = omega (arith, ap next_in m.4)
  moves_next b c (glanced own place word) m = omega (arith, ap next_in m.5)
  moves_next b c (gathered own other) m = omega (arith, ap next_in m.7)

  leads_next : (b c : Core) (hs : List (Happening C R)) → Leads k draws b hs c → b.next ≤ c.next
  leads_next b c [] l = omega (arith, ap next_in l)
  leads_next b c (h ∷ hs) l = omega (arith, moves_next b l.0 h l.1, leads_next l.0 c hs l.2)

  -- the core state between two parts of the happenings
  pub leads_split : (b c : Core) (hs later : List (Happening C R)) → Leads k draws b (hs ++ later) c
      → (d : Core) × Leads k draws b hs d × Leads k draws d later c
  leads_split b c [] later l = (b, refl, l)
  leads_split b c (h ∷ hs) later l = let r = leads_split l.0 c hs later l.2 in (r.0, (l.0, l.1, r.1), r.2)

  -- only a seat that holds records a call
  pub recorder : (own : ℕ) (b c : Core) (h : Happening C R) (call : C) (reply : R) → Moves k draws b h c → recordings (h ∷ []) ≡ entry own call reply ∷ []
      → (j x : ℕ) × (q : CoreSeat) × IsSeatAt b.seats j own (Holding x) q
  recorder own b c (split n count) call reply m is = absurd (omega (arith, ap (λ (es : List (Entry C R)). length es) is))
  recorder own b c (drew n ticket) call reply m is = absurd (omega (arith, ap (λ (es : List (Entry C R)). length es) is))
  recorder own b c (waited n) call reply m is = absurd (omega (arith, ap (λ (es : List (Entry C R)). length es) is))
  recorder own b c (held n) call reply m is = absurd (omega (arith, ap (λ (es : List (Entry C R)). length es) is))
  recorder own b c (posted n call' reply') call reply m is = (m.0, m.2, m.1, (m.3.0, m.3.1 ∙ ap first_pass is, m.3.2))
  recorder own b c (post_refused n) call reply m is = absurd (omega (arith, ap (λ (es : List (Entry C R)). length es) is))
  recorder own b c (left_posted n) call reply m is = absurd (omega (arith, ap (λ (es : List (Entry C R)). length es) is))
  recorder own b c (recorded n call' reply') call reply m is = (m.0, m.2, m.1, (m.3.0, m.3.1 ∙ ap first_pass is, m.3.2))
  recorder own b c (refused n) call reply m is = absurd (omega (arith, ap (λ (es : List (Entry C R)). length es) is))
  recorder own b c (glanced n place word) call reply m is = absurd (omega (arith, ap (λ (es : List (Entry C R)). length es) is))
  recorder own b c (gathered n other) call reply m is = absurd (omega (arith, ap (λ (es : List (Entry C R)). length es) is))

  -- the one seat with this number
  module _ (numbers : ℕ) (b : Core) (l : IsLawful numbers draws b) (own t : ℕ) (has : HasTicket b.seats own t) where
    same_seat : (j : ℕ) (q : CoreSeat) → get_elem? b.seats j ≡ some q → is_present q.phase ≡ true → q.own ≡ own → q ≡ has.1
    same_seat j q at there is =
        let one = named_once numbers draws b l has.0 j has.1 q has.2 at (ticket_there t has.1.phase has.4) there (has.3 ∙ sym is) in
        at_same b.seats j q has.1 at (subst (λ (n : ℕ). get_elem? b.seats n ≡ some has.1) (sym one) has.2)

    -- before it has posted, the calls made are as many as its ticket
    holds_at : (j x : ℕ) (q : CoreSeat) (n : ℕ) → IsSeatAt b.seats j n (Holding x) q → n ≡ own → calls_handled b.book ≡ t
    holds_at j x q n st is =
        let mine = same_seat j q st.0 (ap is_present st.2) (st.1 ∙ is) in
        let ticket : x ≡ t = same_ticket x t (sym (ap tickets_of st.2) ∙ (ap (λ (s : CoreSeat). tickets_of s.phase) mine ∙ has.4)) in
        let served : x ≡ b.served = (l.each j q st.0).holder x (ap holder_count_of st.2, ap tickets_of st.2) in
        omega (arith, ticket, served, l.counted, none_posted numbers draws b l j x q st.0 st.2)

    -- so its call is recorded after as many calls as its ticket
    recorded_at : (c : Core) (h : Happening C R) (call : C) (reply : R) → Moves k draws b h c → recordings (h ∷ []) ≡ entry own call reply ∷ []
        → calls_handled b.book ≡ t
    recorded_at c h call reply m is = let r = recorder own b c h call reply m is in holds_at r.0 r.1 r.2 own r.3 refl

  -- the seat that is served can look, and it holds then
  module _ (numbers : ℕ) (b : Core) (l : IsLawful numbers draws b) (i own : ℕ) (p : CoreSeat) (st : IsSeatAt b.seats i own (Waiting b.served) p) where
    pub can_look : (d : Core) × Moves k draws b (held own) d
    can_look = (with_seats b (set b.seats i (holding_seat b.served p)), (i, p, st, refl))

    abbrev has_it : HasTicket b.seats own b.served
    has_it = (i, p, st.0, st.1, ap tickets_of st.2)

    no_wait : (j x : ℕ) (q : CoreSeat) (n : ℕ) → IsSeatAt b.seats j n (Waiting x) q → n ≡ own → x ≡ b.served
    no_wait j x q n at is =
        let mine = same_seat numbers b l own b.served has_it j q at.0 (ap is_present at.2) (at.1 ∙ is) in
        same_ticket x b.served (sym (ap tickets_of at.2) ∙ (ap (λ (s : CoreSeat). tickets_of s.phase) mine ∙ ap tickets_of st.2))

    pub look_holds : (h : Happening C R) (d : Core) → IsOfEvent (Look own) h → Moves k draws b h d → h ≡ held own
    look_holds (split n count) d is m = absurd (cc)
    look_holds (drew n ticket) d is m = absurd (cc)
    look_holds (waited n) d is m = let same : n ≡ own = cc in absurd (m.4 (no_wait m.0 m.2 m.1 n m.3 same))
    look_holds (held n) d is m = let same : n ≡ own = cc in ap held same
    look_holds (posted n call reply) d is m = absurd (cc)
    look_holds (post_refused n) d is m = let no = is.1 in absurd (cc)
    look_holds (left_posted n) d is m = absurd (cc)
    look_holds (recorded n call reply) d is m = absurd (cc)
    look_holds (refused n) d is m = let no = is.1 in absurd (cc)
    look_holds (glanced n place word) d is m = absurd (cc)
    look_holds (gathered n other) d is m = absurd (cc)

  -- while a seat waits, some seat holds, or some seat holds at its next look
  pub waits_goes_on : (numbers : ℕ) (b : Core) → IsLawful numbers draws b → (i t : ℕ) (p : CoreSeat) → get_elem? b.seats i ≡ some p → p.phase ≡ Waiting t
      → GoesOn k draws b
  waits_goes_on numbers b l i t p at waits =
      let first = served_seat numbers draws b l i t p at waits in (
        first.0,
        first.1,
        first.2,
        ⊎_elim
            (λ (w : first.1.phase ≡ Waiting b.served).
            let st : IsSeatAt b.seats first.0 first.1.own (Waiting b.served) first.1 = (first.2, refl, w) in
            inr record {
              waits = w;
              can_look = can_look numbers b l first.0 first.1.own first.1 st;
              holds = look_holds numbers b l first.0 first.1.own first.1 st;
            }) (λ (h : Holds b.served first.1.phase). inl h) (waits_or_holds b.served first.1.phase first.3),
      )

module _ {K C R : Type 0} (k : Ghosts K C R) (s : Schedule k.State C R) (is : IsSchedule k s) where
  abbrev start : CoreState k.State C R
  start = opening_core s.numbers s.draws s.opening

  start_lawful : IsLawful s.numbers s.draws start
  start_lawful = lawful_opened s.numbers s.draws s.opening is.nonempty_numbers

  leads_over : (hs : List (Happening C R)) → s.happenings ≡ hs → Leads k s.draws start hs s.end
  leads_over hs parts = subst (λ (l : List (Happening C R)). Leads k s.draws start l s.end) parts is.leads

  -- while a seat has its ticket, fewer calls end than there are numbers
  pub schedule_bypass : (own t : ℕ) (before after : List (Happening C R)) → s.happenings ≡ before ++ drew own t ∷ after → (i : ℕ) (p : CoreSeat)
      → get_elem? s.end.seats i ≡ some p → tickets_of p.phase ≡ t ∷ [] → calls_ended after < s.numbers
  schedule_bypass own t before after parts i p at has =
      let cut = leads_split k s.draws start s.end before (drew own t ∷ after) (leads_over _ parts) in
      let b = cut.0 in
      let m = cut.2.1 in
      let l = leads_lawful k s.draws s.numbers start b before start_lawful cut.1 in
      let first = queue_lt s.numbers s.draws b l m.0 m.1 m.2.0 m.2.2 in
      let now = (leads_count k s.draws b cut.2.0 (drew own t ∷ []) (cut.2.0, m, refl)).1 in
      let since = (leads_count k s.draws cut.2.0 s.end after cut.2.2).1 in
      let end = schedule_lawful k s is in
      let last = not_left s.numbers s.draws s.end end i t p at (has_ticket s.numbers s.draws s.end end i t p at has) in
      omega (arith, first, now, since, last, m.4)

  pub schedule_goes_on : (i t : ℕ) (p : CoreSeat) → get_elem? s.end.seats i ≡ some p → p.phase ≡ Waiting t → GoesOn k s.draws s.end
  schedule_goes_on i t p at waits = waits_goes_on k s.draws s.numbers s.end (schedule_lawful k s is) i t p at waits

  module _ (made : RecordedCall C R) (is_recorded : IsRecordedIn s.happenings made) where
    abbrev draw : Happening C R
    draw = drew made.own made.ticket

    abbrev rest : List (Happening C R)
    rest = made.recording ∷ made.after

    from_draw : s.happenings ≡ made.before ++ draw ∷ (made.between ++ rest)
    from_draw = is_recorded.parts ∙ append_assoc made.before (draw ∷ made.between) rest

    -- as many tickets were drawn before it as its ticket says, and as many calls were made before its call
    record Times : Type 0 where
      drawing : CoreState k.State C R
      led : Leads k s.draws start made.before drawing
      ticket : made.ticket ≡ drawing.next
      calls : calls_made (until_recording made) ≡ made.ticket

    times : Times
    times =
        let cut = leads_split k s.draws start s.end (until_recording made) rest (leads_over _ is_recorded.parts) in
        let part = leads_split k s.draws start cut.0 made.before (draw ∷ made.between) cut.1 in
        let seat = drawn k s.draws made.own made.ticket part.0 part.2.0 part.2.1 in
        let has = leads_keep k s.draws made.own made.ticket part.2.0 cut.0 made.between part.2.2 is_recorded.not_left
        (seat.0, seat.1, seat.2.0, seat.2.1, ap tickets_of seat.2.2) in
        let l = leads_lawful k s.draws s.numbers start cut.0 (until_recording made) start_lawful cut.1 in
        let before_it = (leads_count k s.draws start cut.0 (until_recording made) cut.1).0 in
        record {
          drawing = part.0;
          led = part.1;
          ticket = part.2.1.4;
          calls = omega (
            arith,
            before_it,
            recorded_at k s.draws s.numbers cut.0 l made.own made.ticket has cut.2.0 made.recording made.call made.reply cut.2.1 is_recorded.recorded,
          );
        }

    -- its entry is the one at its place
    pub entry_of_call : get_elem? s.end.book.entries (entry_at made) ≡ some (entry made.own made.call made.reply)
    entry_of_call =
        let all : s.end.book.entries ≡ recordings (until_recording made) ++ entry made.own made.call made.reply ∷ recordings made.after =
        schedule_order k s is ∙ (ap recordings is_recorded.parts ∙ (recordings-append (until_recording made) rest
        ∙ ap (λ (l : List (Entry C R)). recordings (until_recording made) ++ l)
        (recordings-append (made.recording ∷ []) made.after ∙ ap (λ (l : List (Entry C R)). l ++ recordings made.after) is_recorded.recorded))) in
        subst (λ (l : List (Entry C R)). get_elem? l (entry_at made) ≡ some (entry made.own made.call made.reply)) (sym all)
        (at_middle (recordings (until_recording made)) (recordings made.after) (entry made.own made.call made.reply))

  -- the entries stand in the order of the draws
  pub first_come : (one other : RecordedCall C R) → IsRecordedIn s.happenings one → IsRecordedIn s.happenings other → drawn_at one < drawn_at other
      → entry_at one < entry_at other
  first_come one other is_one is_other before =
      let a = times one is_one in
      let b = times other is_other in
      let cut = later_cut one.before _ other.before _ (draw one is_one) (draw other is_other) (sym (from_draw one is_one) ∙ from_draw other is_other) before in
      let led = leads_split k s.draws start b.drawing one.before (draw one is_one ∷ cut.0)
      (subst (λ (hs : List (Happening C R)). Leads k s.draws start hs b.drawing) cut.1 b.led) in
      let later : one.ticket < other.ticket = omega (
        arith,
        b.ticket,
        led.2.1.4,
        ap (λ (c : CoreState k.State C R). c.next) led.2.1.5,
        leads_next k s.draws led.2.0 b.drawing cut.0 led.2.2,
      ) in
      let both = sym is_one.parts ∙ is_other.parts in
      dite (dec_le (suc (length (until_recording one))) (length (until_recording other)))
      (λ lt.
      let c = later_cut (until_recording one) one.after (until_recording other) other.after one.recording other.recording both (omega (arith, lt)) in
      let longer : entry_at other ≡ entry_at one + length (recordings (one.recording ∷ c.0)) =
      ap (λ (hs : List (Happening C R)). length (recordings hs)) c.1 ∙ (ap (λ (es : List (Entry C R)). length es) (recordings-append (until_recording one) (one.recording ∷ c.0))
      ∙ length-append (recordings (until_recording one)) (recordings (one.recording ∷ c.0))) in
      let counts : length (recordings (one.recording ∷ c.0)) ≡ 1 + length (recordings c.0) =
      ap (λ (es : List (Entry C R)). length es) (recordings-append (one.recording ∷ []) c.0)
      ∙ (length-append (recordings (one.recording ∷ [])) (recordings c.0)
      ∙ ap (λ (es : List (Entry C R)). length es + length (recordings c.0)) is_one.recorded) in
      omega (arith, longer, counts))
      (λ ge.
      let c = same_cut (until_recording one) one.after (until_recording other) other.after one.recording other.recording both (omega (arith, ge)) in
      absurd (omega (arith, later, a.calls, b.calls, ap calls_made c.1, calls_made-append (until_recording other) c.0)))
