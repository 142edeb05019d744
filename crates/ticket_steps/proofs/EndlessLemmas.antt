-- In an endless schedule where each waiting seat looks again and each holder leaves, each ticket that was drawn comes to be held.
use Rattle.std.proofs.Common.{◌≡◌, ◌⊎◌, ℕ, zero, suc, ◌+◌, ◌-◌, ◌<◌, ◌≤◌, List, [], ◌∷◌, sym, refl, ap, ◌∙◌, subst, arith, inl, inr, ⊎_elim, Option}
use Rattle.std.proofs.Common.{true, ◌==◌, ne_eqb}
use mathlib.Core.Option.{some}
use lib.ListN.{get_elem?}
use Rattle.ticket_steps.specs.declared.books.Kept.{Ghosts}
use Rattle.ticket_steps.specs.declared.events.Event.TheVariants.{Look, Leave}
use Rattle.ticket_steps.specs.declared.seats.CoreSeat.{CoreSeat}
use Rattle.ticket_steps.specs.declared.seats.Phase.{Phase}
use Rattle.ticket_steps.specs.declared.seats.Phase.TheVariants.{Waiting, Holding, Posted}
use Rattle.ticket_steps.specs.CoreStates.{CoreState}
use Rattle.ticket_steps.specs.Endless.{Endless, IsEndless, IsFair, HoldsLater}
use Rattle.ticket_steps.specs.Happenings.{Happening, split, drew, waited, held, posted, post_refused, left_posted, recorded, refused, glanced, gathered}
use Rattle.ticket_steps.specs.Happenings.{calls_ended, calls_ended_by, IsOfEvent, Moves}
use Rattle.ticket_steps.specs.Lawful.{IsLawful}
use Rattle.ticket_steps.specs.Seats.{IsSeatAt, Holds, is_present, tickets_of, holding_seat}
use Rattle.ticket_steps.proofs.LawfulSteps.{lawful_opened, moves_lawful}
use Rattle.ticket_steps.proofs.Lists.{at_same, at_within, set_here}
use Rattle.ticket_steps.proofs.ScheduleLemmas.{leads_count}
use Rattle.ticket_steps.proofs.SeatLemmas.{named_once, served_seat, waits_in_line, waits_or_holds}
use Rattle.ticket_steps.proofs.SumLemmas.{one_if}
use Rattle.ticket_steps.proofs.RecordedCallLemmas.{moves_keep, drawn, look_holds}

-- the seat with this number waits with this ticket, or holds with it
abbrev Waits : List CoreSeat → ℕ → ℕ → Type 0
Waits seats own t = (i : ℕ) × (p : CoreSeat) × IsSeatAt seats i own (Waiting t) p

abbrev HoldsTicket : List CoreSeat → ℕ → ℕ → Type 0
HoldsTicket seats own t = (i : ℕ) × (p : CoreSeat) × (get_elem? seats i ≡ some p) × (p.own ≡ own) × Holds t p.phase

module _ {K C R : Type 0} (k : Ghosts K C R) (numbers draws : ℕ) (b c : CoreState k.State C R) (l : IsLawful numbers draws b) where
  -- a leave ends a call
  leave_ends : (own : ℕ) (call : Option C) (h : Happening C R) → IsOfEvent (Leave own call) h → calls_ended (h ∷ []) ≡ 1
  leave_ends own call (split n count) is = absurd (cc)
  leave_ends own call (drew n ticket) is = absurd (cc)
  leave_ends own call (waited n) is = absurd (cc)
  leave_ends own call (held n) is = absurd (cc)
  leave_ends own call (posted n call' reply) is = absurd (cc)
  leave_ends own call (post_refused n) is = let no = is.1 in absurd (cc)
  leave_ends own call (left_posted n) is = refl
  leave_ends own call (recorded n call' reply) is = refl
  leave_ends own call (refused n) is = refl
  leave_ends own call (glanced n place word) is = absurd (cc)
  leave_ends own call (gathered n other) is = absurd (cc)

  module _ (own t : ℕ) (waits : Waits b.seats own t) where
    -- no other seat has the number of a seat that waits, so no holder does
    other_leaves : (j x n : ℕ) (q : CoreSeat) (phase : Phase) → IsSeatAt b.seats j n phase q → is_present phase ≡ true → (phase ≡ Waiting t → ⊥)
        → one_if (n == own) + 0 ≡ 0
    other_leaves j x n q phase st there apart = omega (
      arith,
      ap one_if (ne_eqb n own (λ same.
          let one = named_once numbers draws b l waits.0 j waits.1 q waits.2.0 st.0 (ap is_present waits.2.2) (ap is_present st.2 ∙ there)
          (waits.2.1 ∙ sym (st.1 ∙ same)) in
          let is = at_same b.seats j q waits.1 st.0 (subst (λ (n : ℕ). get_elem? b.seats n ≡ some waits.1) (sym one) waits.2.0) in
          apart (sym st.2 ∙ (ap (λ (s : CoreSeat). s.phase) is ∙ waits.2.2)))),
    )

    still : (h : Happening C R) → Moves k draws b h c → calls_ended_by own (h ∷ []) ≡ 0
    still (split n count) m = refl
    still (drew n ticket) m = refl
    still (waited n) m = refl
    still (held n) m = refl
    still (posted n call reply) m = refl
    still (post_refused n) m = refl
    still (left_posted n) m = other_leaves m.0 m.2 n m.1 (Posted m.2) m.3 refl (λ e. absurd (cc))
    still (recorded n call reply) m = other_leaves m.0 m.2 n m.1 (Holding m.2) m.3 refl (λ e. absurd (cc))
    still (refused n) m = other_leaves m.0 m.2 n m.1 (Holding m.2) m.3 refl (λ e. absurd (cc))
    still (glanced n place word) m = refl
    still (gathered n other) m = refl

    -- a seat that waits continues waiting, or holds
    waits_on : (h : Happening C R) → Moves k draws b h c → Waits c.seats own t ⊎ HoldsTicket c.seats own t
    waits_on h m =
        let has = moves_keep k draws own t b c h m (still h m) (waits.0, waits.1, waits.2.0, waits.2.1, ap tickets_of waits.2.2) in
        ⊎_elim (λ (w : has.1.phase ≡ Waiting t). inl (has.0, has.1, (has.2, has.3, w)))
        (λ (w : Holds t has.1.phase). inr (has.0, has.1, has.2, has.3, w)) (waits_or_holds t has.1.phase has.4)

  -- a seat that looks while its ticket is served holds
  looks_and_holds : (own : ℕ) (h : Happening C R) → Waits b.seats own b.served → IsOfEvent (Look own) h → Moves k draws b h c → HoldsTicket c.seats own b.served
  looks_and_holds own h waits is m =
      let same = look_holds k draws numbers b l waits.0 own waits.1 waits.2 h c is m in
      let look = subst (λ (x : Happening C R). Moves k draws b x c) same m in
      let w = holding_seat b.served look.1 in
      subst (λ (z : CoreState k.State C R). HoldsTicket z.seats own b.served) (sym look.3)
      (look.0, w, set_here b.seats look.0 w (at_within b.seats look.0 look.1 look.2.0), look.2.1, (refl, refl))

module _ {K C R : Type 0} (k : Ghosts K C R) (s : Endless k.State C R) (is : IsEndless k s) where
  lawful_at : (n : ℕ) → IsLawful s.numbers s.draws (s.state n)
  lawful_at zero = subst (IsLawful s.numbers s.draws) (sym is.opens) (lawful_opened s.numbers s.draws s.opening is.nonempty_numbers)
  lawful_at (suc n) =
      let e : n + 1 ≡ suc n = omega arith in
      subst (λ (m : ℕ). IsLawful s.numbers s.draws (s.state m)) e
      (moves_lawful s.numbers s.draws k (s.state n) (s.state (n + 1)) (s.happening n) (lawful_at n) (is.leads n))

  abbrev served : ℕ → ℕ
  served n = (s.state n).served

  abbrev WaitsAt : ℕ → ℕ → ℕ → Type 0
  WaitsAt n own t = Waits (s.state n).seats own t

  -- after this time, the seat holds
  abbrev HoldsAfter : ℕ → ℕ → ℕ → Type 0
  HoldsAfter n own t = (m : ℕ) × (n < m) × HoldsTicket (s.state m).seats own t

  calls_ended_at : (n : ℕ) → served (n + 1) ≡ served n + calls_ended (s.happening n ∷ [])
  calls_ended_at n = (leads_count k s.draws (s.state n) (s.state (n + 1)) (s.happening n ∷ []) (s.state (n + 1), is.leads n, refl)).1

  served_up : (d n : ℕ) → served n ≤ served (n + d)
  served_up zero n = let e : n ≡ n + zero = omega arith in omega (arith, ap served e)
  served_up (suc d) n = let e : n + d + 1 ≡ n + suc d = omega arith in omega (arith, served_up d n, calls_ended_at (n + d), ap served e)

  -- until some time it waits, or it has held
  until : (d n own t : ℕ) → WaitsAt n own t → WaitsAt (n + d) own t ⊎ HoldsAfter n own t
  until zero n own t waits = let e : n ≡ n + zero = omega arith in inl (subst (λ (m : ℕ). WaitsAt m own t) e waits)
  until (suc d) n own t waits = let e : n + d + 1 ≡ n + suc d = omega arith in ⊎_elim
      (λ (w : WaitsAt (n + d) own t). ⊎_elim
      (λ (next : WaitsAt (n + d + 1) own t). inl (subst (λ (m : ℕ). WaitsAt m own t) e next))
      (λ (holding : HoldsTicket (s.state (n + d + 1)).seats own t). inr (n + d + 1, omega arith, holding))
      (waits_on k s.numbers s.draws (s.state (n + d)) (s.state (n + d + 1)) (lawful_at (n + d)) own t w (s.happening (n + d)) (is.leads (n + d))))
      (λ (holding : HoldsAfter n own t). inr holding) (until d n own t waits)

  -- the same for a later time
  until_time : (m n own t : ℕ) → n ≤ m → WaitsAt n own t → WaitsAt m own t ⊎ HoldsAfter n own t
  until_time m n own t le waits =
      let e : n + (m - n) ≡ m = omega (arith, le) in subst (λ (x : ℕ). WaitsAt x own t ⊎ HoldsAfter n own t) e (until (m - n) n own t waits)

  served_later : (m n : ℕ) → n ≤ m → served n ≤ served m
  served_later m n le = let e : n + (m - n) ≡ m = omega (arith, le) in omega (arith, served_up (m - n) n, ap served e)

  module _ (fair : IsFair s) where
    -- the seat that is served comes to hold
    served_holds : (n own t : ℕ) → t ≡ served n → WaitsAt n own t → HoldsAfter n own t
    served_holds n own t first waits =
        let look = fair.looks n waits.0 own t waits.1 waits.2 in
        let m = look.0 in
        ⊎_elim (λ (w : WaitsAt m own t).
        let now : t ≡ served m = omega (
          arith,
          first,
          served_later m n look.1,
          waits_in_line s.numbers s.draws (s.state m) (lawful_at m) w.0 t w.1 w.2.0 w.2.2,
        ) in
        let holding = looks_and_holds k s.numbers s.draws (s.state m) (s.state (m + 1)) (lawful_at m) own (s.happening m)
        (subst (λ (x : ℕ). WaitsAt m own x) now w) look.2 (is.leads m) in
        (m + 1, omega (arith, look.1), subst (λ (x : ℕ). HoldsTicket (s.state (m + 1)).seats own x) (sym now) holding))
        (λ (holding : HoldsAfter n own t). holding) (until_time m n own t look.1 waits)

    -- some time after this one, the call whose ticket is served has ended, if a seat waits
    call_ends : (n own t : ℕ) → WaitsAt n own t → (m : ℕ) × (n < m) × (served n < served m)
    call_ends n own t waits =
        let first = served_seat s.numbers s.draws (s.state n) (lawful_at n) waits.0 t waits.1 waits.2.0 waits.2.2 in
        let v = served n in
        let holding : (m : ℕ) × (n ≤ m) × HoldsTicket (s.state m).seats first.1.own v = ⊎_elim
        (λ (w : first.1.phase ≡ Waiting v).
        let found = served_holds n first.1.own v refl (first.0, first.1, (first.2, refl, w)) in (found.0, omega (arith, found.1), found.2))
        (λ (h : Holds v first.1.phase). (n, omega arith, (first.0, first.1, first.2, refl, h))) (waits_or_holds v first.1.phase first.3) in
        let leave = fair.leaves holding.0 holding.2.0 v holding.2.1 holding.2.2 holding.2.4 in
        let m = leave.0 in
        let ended = leave_ends k s.numbers s.draws (s.state m) (s.state (m + 1)) (lawful_at m) holding.2.1.own leave.1 (s.happening m) leave.3 in
        (m + 1, omega (arith, holding.1, leave.2), omega (arith, calls_ended_at m, ended, served_later m n (omega (arith, holding.1, leave.2))))

    -- a seat comes to hold, by the number of calls before its own
    comes_to_hold : (d n own t : ℕ) → t ≤ served n + d → WaitsAt n own t → HoldsAfter n own t
    comes_to_hold zero n own t le waits =
        let line = waits_in_line s.numbers s.draws (s.state n) (lawful_at n) waits.0 t waits.1 waits.2.0 waits.2.2 in
        served_holds n own t (omega (arith, le, line)) waits
    comes_to_hold (suc d) n own t le waits =
        let ended = call_ends n own t waits in
        ⊎_elim (λ (w : WaitsAt ended.0 own t).
        let found = comes_to_hold d ended.0 own t (omega (arith, le, ended.2)) w in (found.0, omega (arith, found.1, ended.1), found.2))
        (λ (holding : HoldsAfter n own t). holding) (until_time ended.0 n own t (omega (arith, ended.1)) waits)

    pub drawn_holds : (n own t : ℕ) → s.happening n ≡ drew own t → HoldsLater s n own t
    drawn_holds n own t is_draw =
        let m = subst (λ (h : Happening C R). Moves k s.draws (s.state n) h (s.state (n + 1))) is_draw (is.leads n) in
        let waits = drawn k s.draws own t (s.state n) (s.state (n + 1)) m in
        let found = comes_to_hold t (n + 1) own t (omega arith) waits in
        (found.0, found.2.0, found.2.1, omega (arith, found.1), found.2.2, found.2.3, found.2.4)
