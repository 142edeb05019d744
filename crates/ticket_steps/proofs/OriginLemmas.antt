-- Each entry of a schedule is that of a recorded call: its seat drew before, and hadn't left since.
use Rattle.std.proofs.Common.{◌≡◌, ◌≢◌, ◌⊎◌, ℕ, zero, suc, ◌+◌, ◌<◌, List, [], ◌∷◌, ◌++◌, length, set, sym, refl, ap, ◌∙◌, subst, arith, append_assoc, inl, inr}
use Rattle.std.proofs.Common.{⊎_elim}
use Rattle.std.proofs.Common.{true, ◌==◌, ne_eqb, length-append}
use Rattle.std.proofs.lemmas.List.{append-nil}
use mathlib.Core.Option.{some, some-ne-none}
use lib.ListN.{get_elem?}
use Rattle.ticket_steps.specs.declared.books.Entry.{Entry}
use Rattle.ticket_steps.specs.declared.books.Kept.{Ghosts}
use Rattle.ticket_steps.specs.declared.seats.CoreSeat.{CoreSeat}
use Rattle.ticket_steps.specs.declared.seats.Phase.{Phase}
use Rattle.ticket_steps.specs.declared.seats.Phase.TheVariants.{Holding, Posted}
use Rattle.ticket_steps.specs.CoreStates.{CoreState, opening_core}
use Rattle.ticket_steps.specs.Happenings.{Happening, split, drew, waited, held, posted, post_refused, left_posted, recorded, refused, glanced, gathered}
use Rattle.ticket_steps.specs.Happenings.{calls_ended_by, recordings, Moves, Leads}
use Rattle.ticket_steps.specs.History.{entry}
use Rattle.ticket_steps.specs.Lawful.{IsLawful}
use Rattle.ticket_steps.specs.Schedules.{Schedule, IsSchedule}
use Rattle.ticket_steps.specs.Seats.{IsSeatAt, is_present, tickets_of, fresh_seat, waiting_seat, holding_seat, posted_seat, seat_after_leave, seat_after_split}
use Rattle.ticket_steps.specs.Seats.{other_seat, gathered_seat, gone_seat}
use Rattle.ticket_steps.specs.Sums.{numbers_from}
use Rattle.ticket_steps.specs.RecordedCalls.{RecordedCall, IsRecordedIn, entry_at}
use Rattle.ticket_steps.proofs.LawfulSteps.{lawful_opened, moves_lawful}
use Rattle.ticket_steps.proofs.Lists.{at_set, at_snoc}
use Rattle.ticket_steps.proofs.ScheduleLemmas.{recordings-append, schedule_order}
use Rattle.ticket_steps.proofs.SeatLemmas.{named_once, same_ticket}
use Rattle.ticket_steps.proofs.SumLemmas.{one_if}
use Rattle.ticket_steps.proofs.RecordedCallLemmas.{HasTicket, ended_by-cons, leads_split, recorder, ticket_there}

-- the seat with this own number has this ticket, at another place
abbrev HasElsewhere : ℕ → List CoreSeat → ℕ → ℕ → Type 0
HasElsewhere j seats own t = (i : ℕ) × (p : CoreSeat) × (get_elem? seats i ≡ some p) × (p.own ≡ own) × (tickets_of p.phase ≡ t ∷ []) × (i ≢ j)

-- a seat that has a ticket after one seat changed is this one, or it had it before
had : (seats : List CoreSeat) (own t j : ℕ) (w : CoreSeat) → HasTicket (set seats j w) own t
    → ((w.own ≡ own) × (tickets_of w.phase ≡ t ∷ [])) ⊎ HasElsewhere j seats own t
had seats own t j w h = ⊎_elim
    (λ (e : (h.0 ≡ j) × (w ≡ h.1)). inl (ap (λ (s : CoreSeat). s.own) e.1 ∙ h.3, ap (λ (s : CoreSeat). tickets_of s.phase) e.1 ∙ h.4))
    (λ (e : (h.0 ≢ j) × (get_elem? seats h.0 ≡ some h.1)). inr (h.0, h.1, e.1, h.3, h.4, e.0)) (at_set seats j h.0 w h.1 h.2)

-- without a ticket it had it before
had_before : (seats : List CoreSeat) (own t j : ℕ) (w : CoreSeat) → tickets_of w.phase ≡ [] → HasTicket (set seats j w) own t → HasElsewhere j seats own t
had_before seats own t j w none h = ⊎_elim
    (λ (e : (w.own ≡ own) × (tickets_of w.phase ≡ t ∷ [])).
    let n : 0 ≡ 1 = ap (λ (ts : List ℕ). length ts) (sym none ∙ e.1) in absurd (omega (arith, n)))
    (λ (e : HasElsewhere j seats own t). e) (had seats own t j w h)

-- with the ticket that it had, too
had_still : (seats : List CoreSeat) (own t x j : ℕ) (q w : CoreSeat) → get_elem? seats j ≡ some q → w.own ≡ q.own → tickets_of w.phase ≡ tickets_of q.phase
    → HasTicket (set seats j w) own t → HasTicket seats own t
had_still seats own t x j q w at same tickets h = ⊎_elim
    (λ (e : (w.own ≡ own) × (tickets_of w.phase ≡ t ∷ [])). (j, q, at, sym same ∙ e.0, sym tickets ∙ e.1))
    (λ (e : HasElsewhere j seats own t). (e.0, e.1, e.2, e.3, e.4)) (had seats own t j w h)

module _ {K C R : Type 0} (k : Ghosts K C R) (numbers draws : ℕ) where
  abbrev Core : Type 0
  Core = CoreState k.State C R

  -- a ticket was drawn just now, or the seat had it and didn't leave
  abbrev Came : Core → Happening C R → ℕ → ℕ → Type 0
  Came b h own t = (h ≡ drew own t) ⊎ (HasTicket b.seats own t × (calls_ended_by own (h ∷ []) ≡ 0))

  other_left : (b : Core) → IsLawful numbers draws b → (own t j n : ℕ) (q : CoreSeat) (phase : Phase) → IsSeatAt b.seats j n phase q
      → is_present phase ≡ true → HasElsewhere j b.seats own t → one_if (n == own) + 0 ≡ 0
  other_left b l own t j n q phase st there h = omega (
    arith,
    ap one_if (ne_eqb n own (λ same.
        h.5 (named_once numbers draws b l j h.0 q h.1 st.0 h.2 (ap is_present st.2 ∙ there) (ticket_there t h.1.phase h.4) (st.1 ∙ (same ∙ sym h.3))))),
  )

  came : (own t : ℕ) (b c : Core) (h : Happening C R) → IsLawful numbers draws b → Moves k draws b h c → HasTicket c.seats own t → Came b h own t
  came own t b c (split n count) l m has =
      let w = seat_after_split draws count m.1 in
      let more = other_seat draws count m.1 in
      let now = subst (λ (z : Core). HasTicket z.seats own t) m.6 has in
      ⊎_elim (λ (e : get_elem? (set b.seats m.0 w) now.0 ≡ some now.1).
      let before = had_before b.seats own t m.0 w refl (now.0, now.1, e, now.3, now.4) in inr ((before.0, before.1, before.2, before.3, before.4), refl))
      (λ (e : more ≡ now.1).
      let n : 0 ≡ 1 = ap (λ (s : CoreSeat). length (tickets_of s.phase)) e ∙ ap (λ (ts : List ℕ). length ts) now.4 in absurd (omega (arith, n)))
      (at_snoc (set b.seats m.0 w) more now.1 now.0 now.2)
  came own t b c (drew n ticket) l m has =
      let w = waiting_seat b.next m.1 in
      ⊎_elim (λ (e : (w.own ≡ own) × (tickets_of w.phase ≡ t ∷ [])).
      let number : n ≡ own = sym m.2.1 ∙ e.0 in
      let is : ticket ≡ t = m.4 ∙ same_ticket b.next t e.1 in inl (λ i. drew (number i) (is i)))
      (λ (e : HasElsewhere m.0 b.seats own t). inr ((e.0, e.1, e.2, e.3, e.4), refl))
      (had b.seats own t m.0 w (subst (λ (z : Core). HasTicket z.seats own t) m.5 has))
  came own t b c (waited n) l m has = inr (subst (λ (z : Core). HasTicket z.seats own t) m.5 has, refl)
  came own t b c (held n) l m has =
      inr (
        had_still b.seats own t 0 m.0 m.1 (holding_seat b.served m.1) m.2.0 refl (sym (ap tickets_of m.2.2))
            (subst (λ (z : Core). HasTicket z.seats own t) m.3 has),
        refl,
      )
  came own t b c (posted n call reply) l m has =
      inr (
        had_still b.seats own t 0 m.0 m.1 (posted_seat m.2 m.1) m.3.0 refl (sym (ap tickets_of m.3.2))
            (subst (λ (z : Core). HasTicket z.seats own t) m.5 has),
        refl,
      )
  came own t b c (post_refused n) l m has =
      inr (
        had_still b.seats own t 0 m.0 m.1 (posted_seat m.2 m.1) m.3.0 refl (sym (ap tickets_of m.3.2))
            (subst (λ (z : Core). HasTicket z.seats own t) m.4 has),
        refl,
      )
  came own t b c (left_posted n) l m has =
      let e = had_before b.seats own t m.0 (seat_after_leave m.1) refl (subst (λ (z : Core). HasTicket z.seats own t) m.4 has) in
      inr ((e.0, e.1, e.2, e.3, e.4), other_left b l own t m.0 n m.1 (Posted m.2) m.3 refl e)
  came own t b c (recorded n call reply) l m has =
      let e = had_before b.seats own t m.0 (seat_after_leave m.1) refl (subst (λ (z : Core). HasTicket z.seats own t) m.5 has) in
      inr ((e.0, e.1, e.2, e.3, e.4), other_left b l own t m.0 n m.1 (Holding m.2) m.3 refl e)
  came own t b c (refused n) l m has =
      let e = had_before b.seats own t m.0 (seat_after_leave m.1) refl (subst (λ (z : Core). HasTicket z.seats own t) m.4 has) in
      inr ((e.0, e.1, e.2, e.3, e.4), other_left b l own t m.0 n m.1 (Holding m.2) m.3 refl e)
  came own t b c (glanced n place word) l m has = inr (subst (λ (z : Core). HasTicket z.seats own t) m.5 has, refl)
  came own t b c (gathered n other) l m has =
      let w = gathered_seat m.1 m.3 in
      let e = had_before (set b.seats m.0 w) own t m.2 gone_seat refl (subst (λ (z : Core). HasTicket z.seats own t) m.7 has) in
      let d = had_before b.seats own t m.0 w refl (e.0, e.1, e.2, e.3, e.4) in inr ((d.0, d.1, d.2, d.3, d.4), refl)

  -- the seat with this number drew this ticket, and hasn't left since
  abbrev Drew : List (Happening C R) → ℕ → ℕ → Type 0
  Drew hs own t = (before between : List (Happening C R)) × (hs ≡ before ++ drew own t ∷ between) × (calls_ended_by own between ≡ 0)

  ended_by-append : (n : ℕ) (hs later : List (Happening C R)) → calls_ended_by n (hs ++ later) ≡ calls_ended_by n hs + calls_ended_by n later
  ended_by-append n [] later = omega arith
  ended_by-append n (h ∷ hs) later = omega (arith, ended_by-cons n h (hs ++ later), ended_by-cons n h hs, ended_by-append n hs later)

  drew_more : (own t : ℕ) (done : List (Happening C R)) (h : Happening C R) → calls_ended_by own (h ∷ []) ≡ 0 → Drew done own t → Drew (done ++ h ∷ []) own t
  drew_more own t done h none d = (
    d.0,
    d.1 ++ h ∷ [],
    ap (λ (hs : List (Happening C R)). hs ++ h ∷ []) d.2 ∙ append_assoc d.0 (drew own t ∷ d.1) (h ∷ []),
    omega (arith, ended_by-append own d.1 (h ∷ []), d.3, none),
  )

  -- each seat that has a ticket drew it
  leads_drew : (done hs : List (Happening C R)) (b c : Core) → IsLawful numbers draws b → Leads k draws b hs c
      → ((own t : ℕ) → HasTicket b.seats own t → Drew done own t) → (own t : ℕ) → HasTicket c.seats own t → Drew (done ++ hs) own t
  leads_drew done [] b c l led from own t has =
      subst (λ (hs : List (Happening C R)). Drew hs own t) (sym (append-nil done)) (from own t (subst (λ (z : Core). HasTicket z.seats own t) led has))
  leads_drew done (h ∷ hs) b c l led from own t has =
      subst (λ (hs : List (Happening C R)). Drew hs own t) (append_assoc done (h ∷ []) hs)
      (leads_drew (done ++ h ∷ []) hs led.0 c (moves_lawful numbers draws k b led.0 h l led.1) led.2
      (λ n x now. ⊎_elim
      (λ (is : h ≡ drew n x). (done, [], ap (λ (y : Happening C R). done ++ y ∷ []) is, refl))
      (λ (was : HasTicket b.seats n x × (calls_ended_by n (h ∷ []) ≡ 0)). drew_more n x done h was.1 (from n x was.0))
      (came n x b led.0 h l led.1 now)) own t has)

  none_at_first : (opening : k.State) (own t : ℕ) → HasTicket (opening_core {C = C} {R = R} numbers draws opening).seats own t → Drew [] own t
  none_at_first opening own t has = ⊎_elim
      (λ (e : get_elem? [] has.0 ≡ some has.1). absurd (some-ne-none has.1 (sym e)))
      (λ (e : fresh_seat draws 0 (numbers_from 0 numbers) 0 ≡ has.1).
      let n : 0 ≡ 1 = ap (λ (s : CoreSeat). length (tickets_of s.phase)) e ∙ ap (λ (ts : List ℕ). length ts) has.4 in absurd (omega (arith, n)))
      (at_snoc [] (fresh_seat draws 0 (numbers_from 0 numbers) 0) has.1 has.0 has.2)

module _ {C R : Type 0} where
  -- a happening records nothing, or one call
  abbrev Records : Happening C R → Type 0
  Records h = (recordings (h ∷ []) ≡ []) ⊎ ((own : ℕ) × (call : C) × (reply : R) × (recordings (h ∷ []) ≡ entry own call reply ∷ []))

  records : (h : Happening C R) → Records h
  records (split own count) = inl refl
  records (drew own ticket) = inl refl
  records (waited own) = inl refl
  records (held own) = inl refl
  records (posted own call reply) = inr (own, call, reply, refl)
  records (post_refused own) = inl refl
  records (left_posted own) = inl refl
  records (recorded own call reply) = inr (own, call, reply, refl)
  records (refused own) = inl refl
  records (glanced own place word) = inl refl
  records (gathered own other) = inl refl

  -- where the recording with this place is among the happenings
  record Place (hs : List (Happening C R)) (place : ℕ) : Type 0 where
    before : List (Happening C R)
    recording : Happening C R
    after : List (Happening C R)
    own : ℕ
    call : C
    reply : R
    parts : hs ≡ before ++ recording ∷ after
    records_it : recordings (recording ∷ []) ≡ entry own call reply ∷ []
    place_is : length (recordings before) ≡ place

  later_place : (h : Happening C R) (hs : List (Happening C R)) (place next : ℕ) → length (recordings (h ∷ [])) + place ≡ next → Place hs place → Place (h ∷ hs) next
  later_place h hs place next is p = record {
    before = h ∷ p.before;
    recording = p.recording;
    after = p.after;
    own = p.own;
    call = p.call;
    reply = p.reply;
    parts = ap (λ (l : List (Happening C R)). h ∷ l) p.parts;
    records_it = p.records_it;
    place_is = ap (λ (es : List (Entry C R)). length es) (recordings-append (h ∷ []) p.before)
        ∙ (length-append (recordings (h ∷ [])) (recordings p.before) ∙ (ap (λ (n : ℕ). length (recordings (h ∷ [])) + n) p.place_is ∙ is));
  }

  place_here : (h : Happening C R) (hs : List (Happening C R)) (place : ℕ) → length (recordings (h ∷ [])) ≡ 1 → (own : ℕ) (call : C) (reply : R)
      → recordings (h ∷ []) ≡ entry own call reply ∷ [] → ((n : ℕ) → n + 1 ≡ place → Place hs n) → Place (h ∷ hs) place
  place_here h hs zero count own call reply is later =
      record { before = []; recording = h; after = hs; own = own; call = call; reply = reply; parts = refl; records_it = is; place_is = refl }
  place_here h hs (suc n) count own call reply is later = later_place h hs n (suc n) (omega (arith, count)) (later n (omega arith))

  place_of : (hs : List (Happening C R)) (place : ℕ) → place < length (recordings hs) → Place hs place
  place_of [] place lt = absurd (omega (arith, lt))
  place_of (h ∷ hs) place lt =
      let all : length (recordings (h ∷ hs)) ≡ length (recordings (h ∷ [])) + length (recordings hs) =
      ap (λ (es : List (Entry C R)). length es) (recordings-append (h ∷ []) hs) ∙ length-append (recordings (h ∷ [])) (recordings hs) in
      ⊎_elim (λ (none : recordings (h ∷ []) ≡ []).
      let no : length (recordings (h ∷ [])) ≡ 0 = ap (λ (es : List (Entry C R)). length es) none in
      later_place h hs place place (omega (arith, no)) (place_of hs place (omega (arith, lt, all, no))))
      (λ (one : (own : ℕ) × (call : C) × (reply : R) × (recordings (h ∷ []) ≡ entry own call reply ∷ [])).
      let count : length (recordings (h ∷ [])) ≡ 1 = ap (λ (es : List (Entry C R)). length es) one.3 in
      place_here h hs place count one.0 one.1 one.2 one.3 (λ n next. place_of hs n (omega (arith, lt, all, count, next))))
      (records h)

module _ {K C R : Type 0} (k : Ghosts K C R) (s : Schedule k.State C R) (is : IsSchedule k s) where
  -- each entry is that of a recorded call
  pub call_of_entry : (place : ℕ) → place < length s.end.book.entries → (made : RecordedCall C R) × IsRecordedIn s.happenings made × (entry_at made ≡ place)
  call_of_entry place lt =
      let start = opening_core s.numbers s.draws s.opening in
      let p = place_of s.happenings place (omega (arith, lt, ap (λ (es : List (Entry C R)). length es) (schedule_order k s is))) in
      let cut = leads_split k s.draws start s.end p.before (p.recording ∷ p.after)
      (subst (λ (l : List (Happening C R)). Leads k s.draws start l s.end) p.parts is.leads) in
      let seat = recorder k s.draws p.own cut.0 cut.2.0 p.recording p.call p.reply cut.2.1 p.records_it in
      let d = leads_drew k s.numbers s.draws [] p.before start cut.0 (lawful_opened s.numbers s.draws s.opening is.nonempty_numbers) cut.1
      (none_at_first k s.numbers s.draws s.opening) p.own seat.1 (seat.0, seat.2, seat.3.0, seat.3.1, ap tickets_of seat.3.2) in (
        record { own = p.own; ticket = seat.1; call = p.call; reply = p.reply; before = d.0; between = d.1; recording = p.recording; after = p.after },
        record {
          parts = p.parts ∙ ap (λ (hs : List (Happening C R)). hs ++ p.recording ∷ p.after) d.2;
          recorded = p.records_it;
          not_left = d.3;
        },
        ap (λ (hs : List (Happening C R)). length (recordings hs)) (sym d.2) ∙ p.place_is,
      )
