-- The caller in a view after a split.
use Rattle.std.proofs.Common.{◌≡◌, ℕ, ◌+◌, ◌-◌, ◌*◌, ◌≤◌, length, take, drop, ap, ◌∙◌, arith, true}
use Rattle.std.proofs.lemmas.List.{length-take-le, length-drop}
use Rattle.ticket_lock.specs.declared.views.View.{View}
use Rattle.ticket_lock.specs.Callers.{caller, caller_after_split, split_part}
use Rattle.ticket_lock.specs.Tokens.{caller_in}
use Rattle.ticket_lock.specs.Views.{draws_in, view_after_split, split_view}

module _ {K C R : Type 0} (v : View K C R) (n count draws : ℕ)
    (same : n ≡ count) (draws_is : draws_in v.start ≡ draws) (within : count ≤ length v.seat.numbers) where
  abbrev kept_count : ℕ
  kept_count = length v.seat.numbers - count

  kept_count_is : length v.seat.numbers - n ≡ kept_count
  kept_count_is = ap (λ (m : ℕ). length v.seat.numbers - m) same

  pub kept_length : length (take (length v.seat.numbers - n) v.seat.numbers) ≡ kept_count
  kept_length = length-take-le (length v.seat.numbers - n) v.seat.numbers (omega arith) ∙ kept_count_is

  pub given_length : length (drop (length v.seat.numbers - n) v.seat.numbers) ≡ count
  given_length = omega (arith, length-drop (length v.seat.numbers - n) v.seat.numbers, same, within)

  pub kept_caller_is : caller_in (view_after_split n v) ≡ caller_after_split draws count (caller_in v)
  kept_caller_is = λ i. caller v.seat.own (take (kept_count_is i) v.seat.numbers) (kept_length i * draws_is i) v.seat.calls true v.seen

  pub given_caller_is : caller_in (split_view n v) ≡ split_part draws count (caller_in v)
  given_caller_is = λ i. caller (v.seat.own + kept_count_is i) (drop (kept_count_is i) v.seat.numbers) (given_length i * draws_is i) 0 true v.seen
