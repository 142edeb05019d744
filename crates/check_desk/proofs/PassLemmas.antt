-- The passes of a desk, handed out one after another.
use Rattle.std.proofs.Common.{◌≡◌, ◌≤◌, ℕ, zero, suc, ◌+◌, ◌-◌, ◌*◌, ◌<◌, ◌^◌, List, [], ◌∷◌, ◌++◌, length, Bool, true, false, cond, ◌==◌, refl, sym, ap}
use Rattle.std.proofs.Common.{◌∙◌, arith, get_or, eq-eqb}
use Rattle.std.specs.List.{All}
use Rattle.std.proofs.lemmas.List.Elements.{All-cons, All-nil}
use mathlib.Core.Logic.{dite}
use native.Mathlib.Decide.{dec_le}
use Rattle.ticket_steps.specs.declared.books.Entry.{Entry}
use Rattle.ticket_steps.specs.History.{of}
use Rattle.ticket_steps.specs.Sums.{numbers_from, occurrences}
use Rattle.ticket_steps.proofs.SumLemmas.{length-numbers_from}
use Rattle.ticket_lock.specs.Callers.{Caller, caller, caller_after_split, split_part}
use Rattle.ticket_lock.proofs.SeatLaws as seat
use Rattle.check_sched.specs.declared.call.Call.{Call}
use Rattle.check_sched.specs.declared.call.Reply.{Reply}
use Rattle.check_desk.specs.declared.desk.Desk.{Desk}
use Rattle.check_desk.specs.declared.passes.Pass.{Pass}
use Rattle.check_desk.specs.Desks.{AreNewPassesWith, IsHistoryOf, IsPassOf, calls_of, passes_of}
use Rattle.check_desk.specs.Passes.{pass_of, new_pass_with}

-- a caller for the numbers from this one on, with this many calls for each
abbrev pub rest_from : ℕ → ℕ → ℕ → Caller Call Reply
rest_from calls n count = caller n (numbers_from n count) (count * calls) 0 true []

pub new_push : (calls : ℕ) (desk : Desk) (n : ℕ) (ps : List Pass) (p : Pass) → AreNewPassesWith calls desk n ps → IsPassOf desk p
    → pass_of p ≡ new_pass_with calls (n + length ps) → AreNewPassesWith calls desk n (ps ++ p ∷ [])
new_push calls desk n [] p h is e = (is, e ∙ ap (new_pass_with calls) (let s : n + 0 ≡ n = omega arith in s), tt)
new_push calls desk n (q ∷ ps) p h is e = (
  h.0,
  h.1,
  new_push calls desk (n + 1) ps p h.2 is (e ∙ ap (new_pass_with calls) (let s : n + suc (length ps) ≡ n + 1 + length ps = omega arith in s)),
)

-- this many passes are handed out, and the rest is in one seat
pub record IsHandingOut (desk : Desk) (n : ℕ) (rest : Caller Call Reply) (ps : List Pass) : Type 0 where
  pub count : length ps ≡ n
  pub new : AreNewPassesWith (calls_of desk) desk 0 ps
  pub rest_is : rest ≡ rest_from (calls_of desk) n (passes_of desk - n)

-- the seat of the rest stands for all numbers that are left
pub rest_size : (calls n count : ℕ) (rest : Caller Call Reply) → rest ≡ rest_from calls n count → length rest.numbers ≡ count
rest_size calls n count rest e = ap (λ r. length r.numbers) e ∙ length-numbers_from n count

-- the seat of one pass, split off the beginning of the rest
pub own_is : (calls n count : ℕ) (rest : Caller Call Reply) → 1 < count → rest ≡ rest_from calls n count
    → caller_after_split calls (length rest.numbers - 1) rest ≡ new_pass_with calls n
own_is calls n zero rest h e = absurd (omega arith)
own_is calls n (suc k) rest h e =
    let size : length (numbers_from (n + 1) k) ≡ k = length-numbers_from (n + 1) k in
    let one : suc (length (numbers_from (n + 1) k)) - (suc (length (numbers_from (n + 1) k)) - 1) ≡ 1 = omega arith in
    let once : 1 * calls ≡ calls = omega arith in
    rw (e, one) (ap (λ left. new_pass_with left n) once)

-- and what is left
pub more_is : (calls n count : ℕ) (rest : Caller Call Reply) → 1 < count → rest ≡ rest_from calls n count
    → split_part calls (length rest.numbers - 1) rest ≡ rest_from calls (n + 1) (count - 1)
more_is calls n zero rest h e = absurd (omega arith)
more_is calls n (suc k) rest h e =
    let size : length (numbers_from (n + 1) k) ≡ k = length-numbers_from (n + 1) k in
    let one : suc (length (numbers_from (n + 1) k)) - (suc (length (numbers_from (n + 1) k)) - 1) ≡ 1 = omega arith in
    let most : suc (length (numbers_from (n + 1) k)) - 1 ≡ k = omega (arith, size) in
    let less : suc k - 1 ≡ k = omega arith in
    rw (e, one, most, less) refl

-- the last of them stands for one number
pub last_is : (calls n : ℕ) (rest : Caller Call Reply) → rest ≡ rest_from calls n 1 → rest ≡ new_pass_with calls n
last_is calls n rest e =
    let once : 1 * calls ≡ calls = omega arith in
    e ∙ ap (λ left. new_pass_with left n) once

-- each of them is of the desk
pub new_at : (calls : ℕ) (desk : Desk) (n : ℕ) (ps : List Pass) (i : ℕ) (d : Pass) → AreNewPassesWith calls desk n ps → i < length ps
    → IsPassOf desk (get_or ps i d)
new_at calls desk n [] i d h l = absurd (omega arith)
new_at calls desk n (p ∷ ps) zero d h l = h.0
new_at calls desk n (p ∷ ps) (suc i) d h l = new_at calls desk (n + 1) ps i d h.2 (omega arith)

-- so is the last of them
pub new_last : (calls : ℕ) (desk : Desk) (n : ℕ) (ps : List Pass) (p : Pass) → AreNewPassesWith calls desk n (ps ++ p ∷ []) → IsPassOf desk p
new_last calls desk n [] p h = h.0
new_last calls desk n (q ∷ ps) p h = new_last calls desk (n + 1) ps p h.2

-- ---- what each pass is known to have

-- it has made fewer than 2^42 calls
pub bounded_calls : (pass : Pass) → (pass_of pass).calls < 2 ^ 42
bounded_calls pass = seat.bounded_calls pass.seat

-- what it has seen is a history of its desk
pub seen_history : (desk : Desk) (pass : Pass) → IsPassOf desk pass → IsHistoryOf desk (pass_of pass).seen
seen_history desk pass is = seat.legal_history desk.lock pass.seat is

-- it answers for its own number, for at least one, and for at most 1,024
pub own_number : (pass : Pass) → 0 < occurrences (pass_of pass).own (pass_of pass).numbers
own_number pass = seat.own_number pass.seat

pub nonempty_numbers : (pass : Pass) → 0 < length (pass_of pass).numbers
nonempty_numbers pass = seat.nonempty_numbers pass.seat

pub bounded_numbers : (pass : Pass) → length (pass_of pass).numbers ≤ 1024
bounded_numbers pass = seat.bounded_numbers pass.seat

-- ---- histories all of whose numbers were given out

put-nil : (e : Entry Call Reply) (es : List (Entry Call Reply)) (same : Bool) → cond same (e ∷ es) es ≡ [] → (same ≡ false) × (es ≡ [])
put-nil e es true h = cc
put-nil e es false h = (refl, h)

-- where no number from n on has an entry, each entry's number is below n
pub all_below : (n : ℕ) (es : List (Entry Call Reply)) → ((p : ℕ) → n ≤ p → of p es ≡ []) → All (λ e. e.pass < n) es
all_below n [] none = All-nil (λ e. e.pass < n)
all_below n (e ∷ es) none = All-cons (λ e. e.pass < n) e es
    (dite (dec_le n e.pass)
    (λ le.
    let other = (put-nil e (of e.pass es) (e.pass == e.pass) (none e.pass le)).0 in
    let clash : true ≡ false = sym (eq-eqb e.pass e.pass refl) ∙ other in
    absurd (cc))
    (λ gt. omega (arith, gt)))
    (all_below n es (λ p le. (put-nil e (of p es) (e.pass == p) (none p le)).1))
