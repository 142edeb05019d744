-- The sum of the intervals of those that are scheduled, object by object.
use Rattle.std.proofs.Common.{◌≡◌, ℕ, ◌*◌, ◌≤◌, List, take, filter, sum_by}
use Rattle.setup_model.specs.declared.parsed_setup.Object.{Object}
use Rattle.check_spread.specs.Spread.{is_scheduled, interval_milliseconds}

-- the sum over the first n objects; an interval is at most 525,600 units of a day
pub record IsTotal (interval_length n : ℕ) (objects : List Object) (total : ℕ) : Type 0 where
  pub is : total ≡ sum_by (interval_milliseconds interval_length) (filter is_scheduled (take n objects))
  pub within : total ≤ n * 45411840000000
