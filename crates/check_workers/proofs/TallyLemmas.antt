-- Tallies of entries, one list after another.
use Rattle.std.proofs.Common.{◌≡◌, ℕ, ◌+◌, ◌<◌, ◌≤◌, ◌^◌, List, ◌++◌, length, Option, Some, None, refl, cond, Bool, length-append, arith}
use Rattle.std.specs.Prelude.{count_by, ◌&&◌, true}
use Rattle.std.proofs.lemmas.List.Sums.{count_by-le-length, sum_by-append}
use Rattle.ticket_steps.specs.declared.books.Entry.{Entry}
use Rattle.check_sched.specs.declared.call.Call.{Call}
use Rattle.check_sched.specs.declared.call.Reply.{Reply}
use Rattle.check_workers.specs.declared.tally.Stop.{Stop}
use Rattle.check_workers.specs.declared.tally.Stop.TheVariants as stop
use Rattle.check_workers.specs.Crews.{IsTallyWithin}
use Rattle.check_workers.specs.Shifts.{stops_of, unanswered}
use Rattle.check_workers.specs.Tallies.{IsBounded, is_at_limit, is_idle, is_late, is_no_memory, is_put_off, is_refused, is_report, is_standing, is_take}
use Rattle.check_workers.specs.Tallies.{is_taken, plus, tally_of}

count_append : {X : Type 0} (p : X → Bool) (xs ys : List X) → count_by p (xs ++ ys) ≡ count_by p xs + count_by p ys
count_append p xs ys = sum_by-append (λ x. cond (p x) 1 0) xs ys

takes_append : (p : Reply → Bool) (es fs : List (Entry Call Reply))
    → count_by (λ e. is_take e.call && p e.reply) (es ++ fs) ≡ count_by (λ e. is_take e.call && p e.reply) es + count_by (λ e. is_take e.call && p e.reply) fs
takes_append p es fs = count_append (λ e. is_take e.call && p e.reply) es fs

reports_append : (p : Reply → Bool) (es fs : List (Entry Call Reply))
    → count_by (λ e. is_report e.call && p e.reply) (es ++ fs)
    ≡ count_by (λ e. is_report e.call && p e.reply) es + count_by (λ e. is_report e.call && p e.reply) fs
reports_append p es fs = count_append (λ e. is_report e.call && p e.reply) es fs

-- the tally of two lists is the sum of their tallies
pub tally_append : (es fs : List (Entry Call Reply)) (s t : List Stop) → tally_of (es ++ fs) (s ++ t) ≡ plus (tally_of es s) (tally_of fs t)
tally_append es fs s t =
    rw (
      takes_append (λ r. true) es fs,
      takes_append is_taken es fs,
      takes_append is_put_off es fs,
      takes_append is_idle es fs,
      takes_append is_at_limit es fs,
      takes_append is_refused es fs,
      reports_append (λ r. true) es fs,
      reports_append is_standing es fs,
      reports_append is_late es fs,
      count_append is_no_memory s t,
      length-append s t,
    ) refl

-- the counts of few entries are few
few_count : {X : Type 0} (p : X → Bool) (xs : List X) → length xs < 2 ^ 42 → count_by p xs < 2 ^ 42
few_count p xs h = omega (arith, count_by-le-length p xs, h)

pub few_tally : (es : List (Entry Call Reply)) (s : List Stop) → length es < 2 ^ 42 → length s < 2 ^ 42 → IsBounded (tally_of es s)
few_tally es s h k = record {
  takes = few_count (λ e. is_take e.call && true) es h;
  taken = few_count (λ e. is_take e.call && is_taken e.reply) es h;
  put_off = few_count (λ e. is_take e.call && is_put_off e.reply) es h;
  idle = few_count (λ e. is_take e.call && is_idle e.reply) es h;
  at_limit = few_count (λ e. is_take e.call && is_at_limit e.reply) es h;
  refused = few_count (λ e. is_take e.call && is_refused e.reply) es h;
  reports = few_count (λ e. is_report e.call && true) es h;
  reported = few_count (λ e. is_report e.call && is_standing e.reply) es h;
  late = few_count (λ e. is_report e.call && is_late e.reply) es h;
  unanswered = few_count is_no_memory s k;
  stops = k;
}

-- the counts of a shift's entries are at most its calls
at_most : {X : Type 0} (p : X → Bool) (xs : List X) (n : ℕ) → length xs ≤ n → count_by p xs ≤ n
at_most p xs n h = omega (arith, count_by-le-length p xs, h)

within_stops : (o : Option Stop) (calls : ℕ) → unanswered o ≤ calls → count_by is_no_memory (stops_of o) ≤ calls
within_stops None calls h = omega arith
within_stops (Some stop.NoMemory) calls h = h
within_stops (Some stop.Spent) calls h = omega arith

one_stop : (o : Option Stop) (numbers : ℕ) → 0 < numbers → length (stops_of o) ≤ numbers
one_stop None numbers h = omega arith
one_stop (Some why) numbers h = omega arith

pub tally_within : (es : List (Entry Call Reply)) (o : Option Stop) (calls numbers : ℕ) → length es + unanswered o ≤ calls → 0 < numbers
    → IsTallyWithin calls numbers (tally_of es (stops_of o))
tally_within es o calls numbers h some =
    let bounded : length es ≤ calls = omega arith in
    let missing : unanswered o ≤ calls = omega arith in
    record {
      takes = at_most (λ e. is_take e.call && true) es calls bounded;
      taken = at_most (λ e. is_take e.call && is_taken e.reply) es calls bounded;
      put_off = at_most (λ e. is_take e.call && is_put_off e.reply) es calls bounded;
      idle = at_most (λ e. is_take e.call && is_idle e.reply) es calls bounded;
      at_limit = at_most (λ e. is_take e.call && is_at_limit e.reply) es calls bounded;
      refused = at_most (λ e. is_take e.call && is_refused e.reply) es calls bounded;
      reports = at_most (λ e. is_report e.call && true) es calls bounded;
      reported = at_most (λ e. is_report e.call && is_standing e.reply) es calls bounded;
      late = at_most (λ e. is_report e.call && is_late e.reply) es calls bounded;
      unanswered = within_stops o calls missing;
      stops = one_stop o numbers some;
    }
