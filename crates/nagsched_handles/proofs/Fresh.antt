-- Passes that have made no call.
use Rattle.std.proofs.Common.{◌≡◌, ℕ, ◌+◌, ◌<◌, ◌++◌, List, [], ◌∷◌, length, length-append, set, drop, get_or, Some, refl, sym, ap, suc, ◌∙◌, subst, arith}
use Rattle.std.specs.List.{All}
use Rattle.std.proofs.lemmas.List.{get_or_append_left, drop-set}
use Rattle.std.proofs.Math.Seq.{get_or-append_seam}
use Rattle.std.proofs.lemmas.List.Elements.{All-cons, All-nil}
use Rattle.std_alloc.specs.Arc.{arc_value}
use Rattle.check_book.specs.BookState.{BookState}
use Rattle.ticket_lock.specs.Callers.{Caller, gathered_caller}
use Rattle.check_sched.specs.declared.call.Call.{Call}
use Rattle.check_sched.specs.declared.call.Reply.{Reply}
use Rattle.check_desk.specs.declared.desk.Desk.{Desk}
use Rattle.check_desk.specs.declared.passes.Pass.{Pass}
use Rattle.check_desk.specs.Desks.{desk_opening, passes_of, AreNewPassesWith, IsPassOf}
use Rattle.nagsched_handles.specs.declared.handle.Handle.{Handle}
use Rattle.nagsched_handles.specs.declared.opening.Terms.{Terms}
use Rattle.nagsched_handles.specs.declared.shared.Shared.{Shared}
use Rattle.nagsched_handles.specs.declared.target.HandleTarget.{HandleTarget}
use Rattle.nagsched_handles.specs.declared.target.HandleTarget.TheVariants as target
use Rattle.nagsched_handles.specs.Handles.{contents_of}
use Rattle.nagsched_handles.specs.Opening.{IsFreshPassOf, IsOpenedWith}
use Rattle.nagsched_handles.specs.Places.{HasPass, HavePasses, IsPlaceFor, IsPlaceOf, IsPlaceWithPass}

-- ---- passes put together

pub joined_numbers : (a b : Caller Call Reply) → length (gathered_caller a b).numbers ≡ length a.numbers + length b.numbers
joined_numbers a b = length-append a.numbers b.numbers

pub joined_seen : (a b : Caller Call Reply) → a.seen ≡ [] → b.seen ≡ [] → (gathered_caller a b).seen ≡ []
joined_seen a b none nothing = rw (none, nothing) refl

-- ---- lists from which the last item is taken

pub shorter : {X : Type 0} (old new : List X) (x : X) → old ≡ new ++ x ∷ [] → length old ≡ length new + 1
shorter old new x is = ap length is ∙ length-append new (x ∷ [])

-- what holds of all holds of those that are left
pub left_all : {X : Type 0} (P : X → Type 0) (old new : List X) (x : X) → old ≡ new ++ x ∷ [] → All P old → All P new
left_all P old new x is all = λ k d less. subst P (ap (λ xs. get_or xs k d) is ∙ get_or_append_left new (x ∷ []) d k less)
    (all k d (omega (arith, less, shorter old new x is)))

-- and of the one that was taken
pub last_too : {X : Type 0} (P : X → Type 0) (old new : List X) (x : X) → old ≡ new ++ x ∷ [] → All P old → P x
last_too P old new x is all = subst P (ap (λ xs. get_or xs (length new) x) is ∙ get_or-append_seam new x [] x)
    (all (length new) x (omega (arith, shorter old new x is)))

-- ---- counts, in the loops that take the last pass

-- the passes that are joined and those that are left are still all passes
pub still_all : (joined one other old new all : ℕ) → joined ≡ one + other → other ≡ 1 → old ≡ new + 1 → one + old ≡ all → joined + new ≡ all
still_all joined one other old new all is alone fewer was = omega (arith, is, alone, fewer, was)

pub still_none : (joined one other : ℕ) → joined ≡ one + other → one ≡ 0 → other ≡ 0 → joined ≡ 0
still_none joined one other is none nothing = omega (arith, is, none, nothing)

-- the place of the last pass is one of the places of all
pub has_place : (all passes rest given : ℕ) → passes ≡ rest + 1 → all ≡ passes + given → rest < all
has_place all passes rest given fewer is = omega (arith, fewer, is)

pub both_shorter : (a b old new : ℕ) → a ≡ b + 1 → old ≡ new + 1 → old ≡ a → new ≡ b
both_shorter a b old new fewer shorter was = omega (arith, fewer, shorter, was)

-- ---- new passes

pub fresh_all : (calls : ℕ) (desk : Desk) (n : ℕ) (ps : List Pass) → AreNewPassesWith calls desk n ps → All (IsFreshPassOf desk) ps
fresh_all calls desk n [] new = All-nil (IsFreshPassOf desk)
fresh_all calls desk n (p ∷ ps) new =
    let fresh : IsFreshPassOf desk p = record {
      own = new.0;
      alone = ap (λ (c : Caller Call Reply). length c.numbers) new.1;
      calls = ap (λ (c : Caller Call Reply). c.calls) new.1;
      seen = ap (λ (c : Caller Call Reply). c.seen) new.1;
    } in
    All-cons (IsFreshPassOf desk) p ps fresh (fresh_all calls desk (n + 1) ps new.2)

-- ---- passes that are handed out one after another, from the last on

-- a place of this desk is one for the passes of the desk
pub place_for : (desk : Shared) (pass : Pass) (place : HandleTarget) → IsPlaceOf desk place → IsPassOf desk.desk pass → IsPlaceFor pass place
place_for desk pass (target.Pass place) of own = subst (λ (d : Shared). IsPassOf d.desk pass) (sym of) own
place_for desk pass target.Nothing of own = absurd of
place_for desk pass (target.Setup named) of own = absurd of
place_for desk pass (target.Book named) of own = absurd of
place_for desk pass (target.History entries) of own = absurd of

-- and with such a pass it has the pass
pub has_pass : (desk : Shared) (pass : Pass) (place taken : HandleTarget) → IsPlaceOf desk place → IsPlaceWithPass pass place taken
    → HasPass desk pass (Some taken)
has_pass desk pass (target.Pass place) (target.Pass filled) of has = (ap arc_value has.0 ∙ of, has.1)
has_pass desk pass (target.Pass place) target.Nothing of has = absurd has
has_pass desk pass (target.Pass place) (target.Setup named) of has = absurd has
has_pass desk pass (target.Pass place) (target.Book named) of has = absurd has
has_pass desk pass (target.Pass place) (target.History entries) of has = absurd has
has_pass desk pass target.Nothing taken of has = absurd of
has_pass desk pass (target.Setup named) taken of has = absurd of
has_pass desk pass (target.Book named) taken of has = absurd of
has_pass desk pass (target.History entries) taken of has = absurd of

-- one pass more, in the handle before the others
pub one_more_filled : (desk : Shared) (i : ℕ) (p : Pass) (h : Handle) (ps : List Pass) (hs : List Handle) → i < length hs → HasPass desk p (contents_of h)
    → HavePasses desk ps (drop (i + 1) hs) → HavePasses desk (p ∷ ps) (drop i (set hs i h))
one_more_filled desk i p h ps hs less has rest = rw (drop-set hs i h less) (has, rest)

same_length : (desk : Shared) (ps : List Pass) (hs : List Handle) → HavePasses desk ps hs → length ps ≡ length hs
same_length desk [] [] has = refl
same_length desk [] (h ∷ hs) has = absurd has
same_length desk (p ∷ ps) [] has = absurd has
same_length desk (p ∷ ps) (h ∷ hs) has = ap suc (same_length desk ps hs has.1)

-- they are the passes of a desk that opened with this state on these terms
pub opened : (terms : Terms) (opening : BookState) (desk : Shared) (ps : List Pass) (hs : List Handle) → desk.mark ≡ terms.mark
    → desk_opening desk.desk ≡ opening → passes_of desk.desk ≡ length ps → AreNewPassesWith terms.calls desk.desk 0 ps → HavePasses desk ps hs → IsOpenedWith terms opening hs
opened terms opening desk ps hs marked with all new has = record {
  shared = desk;
  marked = marked;
  opened = with;
  all = all ∙ same_length desk ps hs has;
  passes = ps;
  new = new;
  has_passes = has;
}
