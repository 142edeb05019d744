-- An event is shown or has one fault.
use Rattle.std.proofs.Common.{◌≡◌, ◌≢◌, ℕ, ◌<◌, List, length, get_or, arith, sym, refl, ap, ◌∙◌, subst, true, Ok, Err, Some, None}
use mathlib.Core.Option.{some}
use lib.ListN.{get_elem?}
use Rattle.ticket_steps.specs.declared.books.Kept.{Ghosts}
use Rattle.ticket_steps.specs.declared.seats.CoreSeat.{CoreSeat}
use Rattle.ticket_steps.specs.declared.seats.Phase.{Phase as PhaseOf}
use Rattle.ticket_steps.specs.declared.seats.Phase.TheVariants.{Idle, Waiting, Holding, Posted}
use Rattle.ticket_steps.specs.declared.events.Event.{Event}
use Rattle.ticket_steps.specs.declared.events.Event.TheVariants.{Split, Draw, Look, Post, Leave, Glance, Gather}
use Rattle.ticket_steps.specs.declared.events.Seen.{Seen}
use Rattle.ticket_steps.specs.declared.events.Fault.{Fault}
use Rattle.ticket_steps.specs.declared.events.Fault.TheVariants.{NoSeat, Phase, Spent}
use Rattle.ticket_steps.specs.CoreStates.{CoreState}
use Rattle.ticket_steps.specs.Faults.{NamesSeats, FitsPhases, FitsBoard, Fits, HasDraw, IsFault, Shows, Steps}
use Rattle.ticket_steps.specs.Happenings.{Happening, split, drew, waited, held, posted, post_refused, left_posted, recorded, refused, glanced, gathered}
use Rattle.ticket_steps.specs.Happenings.{IsOfEvent, Moves}
use Rattle.ticket_steps.specs.Lawful.{IsLawful}
use Rattle.ticket_steps.specs.Seats.{HasSeat, IsSeatAt, is_present}
use Rattle.ticket_steps.proofs.LawfulSteps.{moves_lawful}
use Rattle.ticket_steps.proofs.Lists.{at_same, read_at}
use Rattle.ticket_steps.proofs.SeatLemmas.{named_once}

-- a seat that stands in a phase of those that are there
pub stands_there : (seats : List CoreSeat) (i own : ℕ) (phase : PhaseOf) (p : CoreSeat) → is_present phase ≡ true → IsSeatAt seats i own phase p → HasSeat seats own
stands_there seats i own phase p there st = (i, p, st.0, st.1, ap is_present st.2 ∙ there)

module _ {C : Type 0} where
  pub fits_names : (seats : List CoreSeat) (e : Event C) → FitsPhases seats e → NamesSeats seats e
  fits_names seats (Split own count) t = stands_there seats t.0 own Idle t.1 refl t.2
  fits_names seats (Draw own) t = stands_there seats t.0 own Idle t.1 refl t.2
  fits_names seats (Look own) t = stands_there seats t.0 own (Waiting t.2) t.1 refl t.3
  fits_names seats (Post own call) t = stands_there seats t.0 own (Holding t.2) t.1 refl t.3
  fits_names seats (Leave own (Some call)) t = stands_there seats t.0 own (Holding t.2) t.1 refl t.3
  fits_names seats (Leave own None) t = stands_there seats t.0 own (Posted t.2) t.1 refl t.3
  fits_names seats (Glance own place) t = stands_there seats t.0 own Idle t.1 refl t.2
  fits_names seats (Gather own other) t = (stands_there seats t.0 own Idle t.1 refl t.4, stands_there seats t.2 other Idle t.3 refl t.5)

module _ {K C R : Type 0} (k : Ghosts K C R) where
  -- no event has two faults
  pub one_fault : (b : CoreState k.State C R) (e : Event C) (f g : Fault) → IsFault k b e f → IsFault k b e g → f ≡ g
  one_fault b e NoSeat NoSeat x y = refl
  one_fault b e NoSeat Phase x y = absurd (x y.0)
  one_fault b e NoSeat Spent x y = absurd (x (fits_names b.seats e y.0.0))
  one_fault b e Phase NoSeat x y = absurd (y x.0)
  one_fault b e Phase Phase x y = refl
  one_fault b e Phase Spent x y = absurd (x.1 y.0)
  one_fault b e Spent NoSeat x y = absurd (y (fits_names b.seats e x.0.0))
  one_fault b e Spent Phase x y = absurd (y.1 x.0)
  one_fault b e Spent Spent x y = refl

  -- what fits and has a draw has no fault
  no_fault : (b : CoreState k.State C R) (e : Event C) (f : Fault) → Fits k b e → HasDraw b.seats e → IsFault k b e f → ⊥
  no_fault b e NoSeat fits draw x = x (fits_names b.seats e fits.0)
  no_fault b e Phase fits draw x = x.1 fits
  no_fault b e Spent fits draw x = x.1 draw

  module _ (draws : ℕ) where
    abbrev May : List CoreSeat → Event C → Type 0
    May seats e = FitsPhases seats e × HasDraw seats e

    moves_may : (b c : CoreState k.State C R) (e : Event C) (h : Happening C R) → IsOfEvent e h → Moves k draws b h c → May b.seats e
    moves_may b c e (split own count) is t = subst (May b.seats) (sym is) ((t.0, t.1, t.2, t.3, t.4, t.5), tt)
    moves_may b c e (drew own ticket) is t = subst (May b.seats) (sym is) ((t.0, t.1, t.2), (t.0, t.1, t.2, t.3))
    moves_may b c e (waited own) is t = subst (May b.seats) (sym is) ((t.0, t.1, t.2, t.3), tt)
    moves_may b c e (held own) is t = subst (May b.seats) (sym is) ((t.0, t.1, b.served, t.2), tt)
    moves_may b c e (posted own call reply) is t = subst (May b.seats) (sym is) ((t.0, t.1, t.2, t.3), tt)
    moves_may b c e (post_refused own) is t = subst (May b.seats) (sym is.1) ((t.0, t.1, t.2, t.3), tt)
    moves_may b c e (left_posted own) is t = subst (May b.seats) (sym is) ((t.0, t.1, t.2, t.3), tt)
    moves_may b c e (recorded own call reply) is t = subst (May b.seats) (sym is) ((t.0, t.1, t.2, t.3), tt)
    moves_may b c e (refused own) is t = subst (May b.seats) (sym is.1) ((t.0, t.1, t.2, t.3), tt)
    moves_may b c e (glanced own place word) is t = subst (May b.seats) (sym is) ((t.0, t.1, t.2), tt)
    moves_may b c e (gathered own other) is t = subst (May b.seats) (sym is) ((t.0, t.1, t.2, t.3, t.4, t.5, t.6), tt)

    -- a step that is shown
    pub steps_shown : (b c : CoreState k.State C R) (e : Event C) (seen : Seen R) → Shows k draws b e seen c → Steps k draws b e (Ok seen) c
    steps_shown b c e seen t = record {
      readout = t;
      fault = λ f. (λ h. absurd (cc), λ a. let m = moves_may b c e t.0 t.1 t.3 in absurd (no_fault b e f (m.0, t.4) m.1 a));
      same = tt;
    }

    -- what an event shows keeps the state lawful
    pub shows_lawful : (numbers : ℕ) (b c : CoreState k.State C R) (e : Event C) (seen : Seen R) → IsLawful numbers draws b → Shows k draws b e seen c
        → IsLawful numbers draws c
    shows_lawful numbers b c e seen l t = moves_lawful numbers draws k b c t.0 l t.3

    -- a step that has a fault
    pub steps_fault : (b : CoreState k.State C R) (e : Event C) (f : Fault) → IsFault k b e f → Steps k draws b e (Err f) b
    steps_fault b e f a = record {
      readout = tt;
      fault = λ g. (λ (h : Err f ≡ Err g). let same : f ≡ g = cc in subst (IsFault k b e) same a, λ d. ap Err (one_fault b e f g a d));
      same = refl;
    }

-- the seat that is called by a number is the only one
pub phase_is : {S C R : Type 0} (numbers draws : ℕ) (c : CoreState S C R) (i k own : ℕ) (p q : CoreSeat) (phase : PhaseOf) → IsLawful numbers draws c
    → get_elem? c.seats i ≡ some p → p.own ≡ own → is_present p.phase ≡ true → is_present phase ≡ true → IsSeatAt c.seats k own phase q → q ≡ p
phase_is numbers draws c i k own p q phase l at called there there' st =
    let same : k ≡ i = named_once numbers draws c l i k p q at st.0 there (ap is_present st.2 ∙ there') (called ∙ sym st.1) in
    at_same c.seats i q p (subst (λ (n : ℕ). get_elem? c.seats n ≡ some q) same st.0) at

-- an element that was read at the place where p stands is p
pub read_is : {A : Type 0} (xs : List A) (i : ℕ) {p x : A} → get_elem? xs i ≡ some p → x ≡ get_or xs i x → x ≡ p
read_is xs i at read = read ∙ read_at xs i _ _ at

-- a seat that is there, called by its own number: which events it is not fit for
module _ {K C R : Type 0} (k : Ghosts K C R) (numbers draws : ℕ) (c : CoreState k.State C R) (l : IsLawful numbers draws c) (i own : ℕ) (p : CoreSeat)
    (at : get_elem? c.seats i ≡ some p) (called : p.own ≡ own) (there : is_present p.phase ≡ true) where
  here : HasSeat c.seats own
  here = (i, p, at, called, there)

  same_phase : (phase : PhaseOf) (j : ℕ) (q : CoreSeat) → is_present phase ≡ true → IsSeatAt c.seats j own phase q → p.phase ≡ phase
  same_phase phase j q there' st = ap (λ (s : CoreSeat). s.phase) (sym (phase_is numbers draws c i j own p q phase l at called there there' st)) ∙ st.2

  pub unfit_split : (count : ℕ) → ((p.phase ≡ Idle) × (p.fresh ≡ true) × (0 < count) × (count < length p.numbers) → ⊥)
      → IsFault k c (Split own count) Phase
  unfit_split count wrong = (
    here,
    λ f. let t = f.0 in let same = phase_is numbers draws c i t.0 own p t.1 Idle l at called there refl t.2 in
        wrong (
          ap (λ (s : CoreSeat). s.phase) (sym same) ∙ t.2.2,
          ap (λ (s : CoreSeat). s.fresh) (sym same) ∙ t.3,
          t.4,
          subst (λ (s : CoreSeat). count < length s.numbers) same t.5,
        ),
  )

  pub unfit_draw : (p.phase ≡ Idle → ⊥) → IsFault k c (Draw own) Phase
  unfit_draw wrong = (here, λ f. wrong (same_phase Idle f.0.0 f.0.1 refl f.0.2))

  pub spent_draw : p.phase ≡ Idle → p.left ≡ 0 → IsFault k c (Draw own) Spent
  spent_draw idle none = (
    ((i, p, (at, called, idle)), tt),
    λ t. let same = phase_is numbers draws c i t.0 own p t.1 Idle l at called there refl t.2 in omega (arith, t.3, ap (λ (s : CoreSeat). s.left) same, none),
  )

  pub unfit_look : ((ticket : ℕ) → p.phase ≡ Waiting ticket → ⊥) → IsFault k c (Look own) Phase
  unfit_look wrong = (here, λ f. wrong f.0.2 (same_phase (Waiting f.0.2) f.0.0 f.0.1 refl f.0.3))

  pub unfit_post : (call : C) → ((ticket : ℕ) → p.phase ≡ Holding ticket → ⊥) → IsFault k c (Post own call) Phase
  unfit_post call wrong = (here, λ f. wrong f.0.2 (same_phase (Holding f.0.2) f.0.0 f.0.1 refl f.0.3))

  pub unfit_leave : (call : C) → ((ticket : ℕ) → p.phase ≡ Holding ticket → ⊥) → IsFault k c (Leave own (Some call)) Phase
  unfit_leave call wrong = (here, λ f. wrong f.0.2 (same_phase (Holding f.0.2) f.0.0 f.0.1 refl f.0.3))

  pub unfit_leave_posted : ((ticket : ℕ) → p.phase ≡ Posted ticket → ⊥) → IsFault k c (Leave own None) Phase
  unfit_leave_posted wrong = (here, λ f. wrong f.0.2 (same_phase (Posted f.0.2) f.0.0 f.0.1 refl f.0.3))

  pub unfit_glance : (place : ℕ) → (p.phase ≡ Idle → ⊥) → IsFault k c (Glance own place) Phase
  unfit_glance place wrong = (here, λ f. wrong (same_phase Idle f.0.0 f.0.1 refl f.0.2))

  -- an event of this seat that doesn't fit the board
  pub unplaced : (e : Event C) → (HasSeat c.seats own → NamesSeats c.seats e) → (FitsBoard k c.book.state e → ⊥) → IsFault k c e Phase
  unplaced e names wrong = (names here, λ f. wrong f.1)

  pub unfit_gather : (j other : ℕ) (q : CoreSeat) → get_elem? c.seats j ≡ some q → q.own ≡ other → is_present q.phase ≡ true
      → ((own ≢ other) × (p.phase ≡ Idle) × (q.phase ≡ Idle) → ⊥) → IsFault k c (Gather own other) Phase
  unfit_gather j other q at' called' there' wrong = (
    (here, (j, q, at', called', there')),
    λ f. let t = f.0 in wrong (
      t.6,
      same_phase Idle t.0 t.1 refl t.4,
      ap (λ (s : CoreSeat). s.phase) (sym (phase_is numbers draws c j t.2 other q t.3 Idle l at' called' there' refl t.5)) ∙ t.5.2,
    ),
  )
