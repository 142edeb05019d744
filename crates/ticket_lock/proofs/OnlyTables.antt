-- An operation that has its kind's fact leaves one table.
use Rattle.std.proofs.Common.{◌≡◌, ℕ, ◌<◌, List, [], ◌∷◌, get_or, set, sym, refl, ap, ◌∙◌, inl, inr, arith, Option, Some, None}
use Rattle.std.specs.Option.{unwrap_or}
use mathlib.Core.Option.{some, none, some-injective}
use mathlib.Core.Option as maybe
use lib.ListN.{get_elem?}
use Rattle.atomic_table.specs.Table.{State, Me, Step, Act, put_back, homes_after, carried_after, stepped, Valid}
use Rattle.ticket_steps.specs.declared.books.Kept.{Ghosts}
use Rattle.ticket_steps.specs.Seats.{Holds, holders}
use Rattle.ticket_steps.proofs.SeatLemmas.{holds, holding_holds}
use Rattle.ticket_steps.proofs.SumLemmas.{term_le}
use Rattle.ticket_lock.specs.declared.views.View.{View}
use Rattle.ticket_lock.specs.Kinds.{Kind, split, draw, look_held, look_waits, post, leave, gather, second_load, glance, word_of, number_after, found_in, act_of}
use Rattle.ticket_lock.specs.Kinds.{view_after, table_after, MayLearn, Decides, MayLeave, LeavesOnly}
use Rattle.ticket_lock.specs.Steps.{TableMoment, IsTableMoment}
use Rattle.ticket_lock.specs.Views.{view_after_draw, view_after_look}
use Rattle.ticket_lock.proofs.BoardLemmas.{AreLaws}
use Rattle.ticket_lock.proofs.ActLemmas.{HasSlot, has_after, left_home, took_home, one_slot_is}
use Rattle.ticket_lock.proofs.Events.{next_is, seat_here, watched_is}
use Rattle.ticket_lock.proofs.Facts.{found_waiting, has_fact}

module _ {K C R : Type 0} (k : Ghosts K C R) (m : TableMoment K k.State C R) (is : IsTableMoment k m) where
  abbrev Homes : Type 0
  Homes = List (maybe.Option (Option K))

  abbrev Seat : Type 0
  Seat = Me (Option K) (View K C R)

  -- the view and the slot after this act are those of the table after the step
  abbrev Agrees : Kind K C R → View K C R → Act (Option K) → Type 0
  Agrees kind view act = (view ≡ view_after k m kind) × (homes_after m.table.homes m.me.1 act ≡ homes_after m.table.homes m.me.1 (act_of k m kind))

  homes_is : m.table.homes ≡ get_or m.table.homes 0 none ∷ []
  homes_is = one_slot_is m.table.homes is.ruled.slot.one_slot

  -- what the slot has in all, after an operation by a seat that carries nothing
  in_all : m.me.1 ≡ [] → (a : Act (Option K)) → Valid m.table.homes m.me.1 a
      → HasSlot (get_or m.table.homes 0 none) (homes_after m.table.homes m.me.1 a) (carried_after m.me.1 a)
  in_all bare a valid = has_after (get_or m.table.homes 0 none) m.table.homes m.me.1 a (inl (homes_is, bare)) valid

  -- a seat that carries nothing, and after the operation what it carried, left the slot as it was
  kept_bare : (w : View K C R) → m.me.1 ≡ [] → (view : View K C R) (act : Act (Option K)) → Valid m.table.homes m.me.1 act
      → ◌≡◌ {A = Seat} (view, carried_after m.me.1 act) (w, m.me.1) → (view ≡ w) × (homes_after m.table.homes m.me.1 act ≡ m.table.homes)
  kept_bare w bare view act valid same =
      (ap (λ (p : Seat). p.0) same, left_home (get_or m.table.homes 0 none) _ _ (in_all bare act valid) (ap (λ (p : Seat). p.1) same ∙ bare) ∙ sym homes_is)

  -- while a seat holds, the slot is out
  slot_out : (ticket : ℕ) → Holds ticket m.me.0.seat.phase → m.table.homes ≡ none ∷ []
  slot_out ticket holder =
      let some_holder : 0 < holders m.core.seats = omega (arith, holder.0, term_le holds m.core.seats m.id m.me.0.seat (seat_here k m is)) in
      homes_is ∙ ap (λ (o : maybe.Option (Option K)). o ∷ [])
      (some-injective _ _ (ap (λ (q : Homes). get_elem? q 0) (sym homes_is) ∙ is.ruled.slot.away some_holder))

  -- the fact of each kind decides the view and the slot
  agrees : (kind : Kind K C R) (step : Step (Option K)) → MayLearn k m kind step → Decides k m kind → (t : State (Option K) (View K C R))
      → (may : MayLeave k m kind step t) → Agrees kind may.view may.act
  agrees (split count) step learns decides t may = absurd decides
  agrees draw step learns bare t may =
      kept_bare _ bare may.view may.act may.valid (may.agreement ∙ ap (λ (n : ℕ). (view_after_draw n m.me.0, m.me.1)) (next_is k m is))
  agrees (look_held book) step learns bare t may =
      let agreement = (may.agreement m.core.served learns.0).0 ((watched_is k m is m.core.served (omega arith)).1 refl) in
      let took = took_home (get_or m.table.homes 0 none) _ _ (Some agreement.0) (in_all bare may.act may.valid) (ap (λ (p : Seat). p.1) agreement.1) in
      let here : some (Some agreement.0) ≡ some (Some book) =
      some-injective _ _ (ap some (sym took.0) ∙ (ap (λ (q : Homes). get_elem? q 0) (sym homes_is) ∙ learns.2)) in
      let same : agreement.0 ≡ book = ap (λ (o : Option K). unwrap_or o book) (some-injective _ _ here) in (
        ap (λ (p : Seat). p.0) agreement.1 ∙ ap (view_after_look k m.core.served m.me.0) same,
        took.1 ∙ ap (λ (q : Homes). set q 0 none) (sym homes_is),
      )
  agrees (look_waits ticket) step learns bare t may =
      kept_bare _ bare may.view may.act may.valid ((may.agreement ticket learns.0).1 (found_waiting k m is ticket learns.0 learns.1)).0
  agrees (post ticket place book) step holding carries t may =
      let agreement = may.agreement ticket holding in
      let out = slot_out ticket (holding_holds ticket m.me.0.seat.phase holding) in
      let homes = took_home (some None) _ _ None (has_after (some None) m.table.homes m.me.1 may.act (inr (None, refl, out, carries)) may.valid)
      (ap (λ (p : Seat). p.1) agreement ∙ carries) in
      (ap (λ (p : Seat). p.0) agreement, homes.1 ∙ sym out)
  agrees (leave posted ticket book) step learns carries t may =
      let agreement = (may.agreement book carries).0 in
      let out = slot_out ticket learns.0 in
      let homes = left_home (some (Some book)) _ _
      (has_after (some (Some book)) m.table.homes m.me.1 may.act (inr (Some book, refl, out, carries)) may.valid) (ap (λ (p : Seat). p.1) agreement) in
      let back : put_back m.table.homes m.me.1 ≡ some (Some book) ∷ [] =
      ap (put_back m.table.homes) carries ∙ ap (λ (q : Homes). set q 0 (some (Some book))) out in
      (ap (λ (p : Seat). p.0) agreement, homes ∙ sym back)
  agrees (gather other w) step learns decides t may = absurd decides
  agrees second_load step learns decides t may = kept_bare _ decides.0 may.view may.act may.valid (may.agreement decides.1).0
  agrees (glance place) step learns decides t may = absurd decides

  -- the table after the step is one that it can leave, and all that it can leave are this one
  one_table : AreLaws k → (kind : Kind K C R) (step : Step (Option K)) → MayLearn k m kind step → Decides k m kind
      → Valid m.table.homes m.me.1 (act_of k m kind)
      → table_after k m kind
      ≡ stepped m.table (word_of k m kind) (number_after k m kind (found_in k m kind)) m.id m.me.1 (view_after k m kind) (act_of k m kind)
      → LeavesOnly k m kind step
  one_table laws kind step learns decides valid is_table = record {
    may = record {
      view = view_after k m kind;
      act = act_of k m kind;
      valid = valid;
      agreement = (has_fact k m is laws kind step learns).agreement;
      is = is_table;
    };
    only = λ t may.
        let same = agrees kind step learns decides t may in may.is ∙ ((λ i. record {
          words = set m.table.words (word_of k m kind) (number_after k m kind (found_in k m kind));
          homes = same.1 i;
          views = set m.table.views m.id (same.0 i);
        }) ∙ sym is_table);
  }

  -- each kind of step
  pub leaves_only : AreLaws k → (kind : Kind K C R) (step : Step (Option K)) → MayLearn k m kind step → Decides k m kind → LeavesOnly k m kind step
  leaves_only laws (split count) step learns decides = absurd decides
  leaves_only laws draw step learns decides = one_table laws draw step learns decides tt refl
  leaves_only laws (look_held book) step learns decides = one_table laws (look_held book) step learns decides learns.2 refl
  leaves_only laws (look_waits ticket) step learns decides = one_table laws (look_waits ticket) step learns decides tt refl
  leaves_only laws (post ticket place book) step learns decides = one_table laws (post ticket place book) step learns decides tt refl
  leaves_only laws (leave posted ticket book) step learns decides = one_table laws (leave posted ticket book) step learns decides tt refl
  leaves_only laws (gather other w) step learns decides = absurd decides
  leaves_only laws second_load step learns decides = one_table laws second_load step learns decides tt refl
  leaves_only laws (glance place) step learns decides = absurd decides
