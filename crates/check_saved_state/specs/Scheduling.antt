-- The scheduling of one object, and its facts in schedulers and in saved states.
use Rattle.std.specs.Prelude.{ℕ, ◌^◌, ◌&&◌, Bool, true, not, Option, Some, None, nat_le}

-- A running check, whose result hasn't come back: its number, and the moment at which it was handed out, in milliseconds.
pub record OpenRun : Type 0 where
  pub number : ℕ
  pub start : ℕ

pub record Scheduling : Type 0 where
  -- the time of the next check in milliseconds, if one is set
  pub next : Option ℕ
  -- the running check, if there is one
  pub run : Option OpenRun
  -- whether active checks are enabled
  pub enabled : Bool
  -- whether the next check is forced
  pub forced : Bool

-- ---- limits of times

-- a next time, if there is one, is at most 2^61 milliseconds
abbrev pub is_time : Option ℕ → Bool
is_time None = true
is_time (Some time) = nat_le time (2 ^ 61)

-- a run, if there is one, began at 2^60 milliseconds at the latest
abbrev pub is_moment : Option OpenRun → Bool
is_moment None = true
is_moment (Some run) = nat_le run.start (2 ^ 60)

-- the next time of an object, and the start of its run, are within their limits
abbrev pub is_in_time : Scheduling → Bool
is_in_time o = is_time o.next && is_moment o.run

-- ---- forced marks

-- whether there is a next time if there is a forced mark
abbrev pub is_timed : Option ℕ → Bool → Bool
is_timed (Some time) forced = true
is_timed None forced = not forced

-- whether the next check of an object has a time if it is forced
abbrev pub is_timed_if_forced : Scheduling → Bool
is_timed_if_forced o = is_timed o.next o.forced
