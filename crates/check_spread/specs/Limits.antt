-- The limits within which the times of first checks are computed.
use Rattle.std.specs.Prelude.{◌<◌, ◌≤◌, ◌*◌, ◌^◌}
use Rattle.setup_model.specs.declared.options.DelayMethod.{DelayMethod}
use Rattle.setup_model.specs.declared.options.DelayMethod.TheVariants as method
use Rattle.check_spread.specs.declared.spread.Spread.{Spread}

-- a fixed delay is at most a day
abbrev pub IsDelay : DelayMethod → Type 0
IsDelay method.NoDelay = Unit {0}
IsDelay method.Dumb = Unit {0}
IsDelay (method.Fixed delay) = delay ≤ 86400000
IsDelay method.Smart = Unit {0}

pub record IsInLimits (spread : Spread) : Type 0 where
  pub start : spread.start ≤ 2 ^ 60
  pub delay : IsDelay spread.method
  -- a year of minutes
  pub max_spread : spread.max_spread ≤ 525600 * 60000
  -- a day
  pub unit : spread.interval_length ≤ 86400
  pub steps : 0 < spread.factor
