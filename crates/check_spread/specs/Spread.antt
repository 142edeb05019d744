-- The times of the first checks ("Service and Host Check Scheduling": inter-check delay, service interleaving).
use Rattle.std.specs.Prelude.{ℕ, ◌+◌, ◌*◌, ◌/◌, ◌%◌, ◌==◌, ◌&&◌, ◌||◌, Bool, not, List, ◌++◌, length, map, filter, count_by, sum_by, nat_lt, nat_le}
use Rattle.std.specs.Prelude.{Option}
use Rattle.std.specs.Prelude.{Some, None, if◌then◌else◌}
use Rattle.std.specs.Int.{div_ceil}
use Rattle.std.specs.List.{enumerate_from}
use Rattle.setup_model.specs.declared.parsed_setup.Object.{Object}
use Rattle.setup_model.specs.declared.options.DelayMethod.{DelayMethod}
use Rattle.setup_model.specs.declared.options.DelayMethod.TheVariants as method
use Rattle.setup_model.specs.declared.options.InterleaveFactor.{InterleaveFactor}
use Rattle.setup_model.specs.declared.options.InterleaveFactor.TheVariants as interleave
use Rattle.check_objects.specs.Configuration.{Configuration}
use Rattle.check_spread.specs.declared.spread.Spread.{Spread}
use Rattle.check_spread.specs.declared.spread.Scheduled.{Scheduled}

-- ---- the scheduled objects

-- An object is scheduled at first if it is enabled and its check interval isn't 0. (Our own profile.)
abbrev pub is_scheduled : Object → Bool
is_scheduled o = o.enabled && not (o.check_interval == 0)

-- An interval in milliseconds: interval_length is the length of a unit in seconds.
abbrev pub milliseconds : Configuration → ℕ → ℕ
milliseconds setup interval = interval * setup.options.interval_length * 1000

-- the check interval in milliseconds, given the length of a unit in seconds
abbrev pub interval_milliseconds : ℕ → Object → ℕ
interval_milliseconds interval_length o = o.check_interval * interval_length * 1000

-- the number of scheduled objects, and the sum of their check intervals
abbrev pub scheduled_among : ℕ → List Object → Scheduled
scheduled_among interval_length objects =
    record { count = count_by is_scheduled objects; total_interval = sum_by (interval_milliseconds interval_length) (filter is_scheduled objects) }

-- ---- the order

-- Services are visited by steps of the interleave factor: at positions 0, factor, twice the factor and so on, then again from the first position that
-- isn't visited yet. So one position is visited before another if its remainder by the factor is smaller. If the remainders are equal, the smaller
-- position is visited first.
abbrev pub is_visited_before : ℕ → ℕ → ℕ → ℕ → Bool
is_visited_before factor remainder position other =
    nat_lt (other % factor) remainder || (other % factor == remainder && nat_lt other position)

-- The rank of the object at this position: the number of scheduled objects that are visited before it. Other objects leave no gap.
abbrev pub rank : ℕ → List Object → ℕ → ℕ
rank factor objects position =
    count_by (λ p. is_scheduled p.1 && is_visited_before factor (position % factor) position p.0) (enumerate_from 0 objects)

-- ---- the delay

-- The smart delay is the average check interval divided by the number of objects. The maximum spread shortens it. It is multiplied by the rank first
-- and then rounded down. (The rounding is our own profile.)
abbrev pub smart_delay : ℕ → Scheduled → ℕ → ℕ
smart_delay max_spread scheduled k =
    if nat_le scheduled.total_interval (max_spread * scheduled.count) then k * scheduled.total_interval / (scheduled.count * scheduled.count)
    else k * max_spread / scheduled.count

-- The time from the start to the check of rank k. With a delay, each rank is due that delay after the rank before it. The maximum spread acts only on
-- the smart delay. (Our own profile.)
abbrev pub delay_by : DelayMethod → ℕ → Scheduled → ℕ → ℕ
delay_by method.NoDelay max_spread scheduled k = 0
delay_by method.Dumb max_spread scheduled k = 1000 * k
delay_by (method.Fixed delay) max_spread scheduled k = delay * k
delay_by method.Smart max_spread scheduled k = smart_delay max_spread scheduled k

-- the time of the check of rank k
abbrev pub time_at : Spread → Scheduled → ℕ → ℕ
time_at spread scheduled k = spread.start + delay_by spread.method spread.max_spread scheduled k

-- ---- the times of all objects

-- the time of the first check of an object at its position among its sort, if it is scheduled
abbrev pub first_time : Spread → List Object → ℕ → Object → Option ℕ
first_time spread objects position object =
    if is_scheduled object then Some (time_at spread (scheduled_among spread.interval_length objects) (rank spread.factor objects position))
    else None

-- the times of the first checks of one sort of object, by position
abbrev pub first_times : Spread → List Object → List (Option ℕ)
first_times spread objects = map (λ p. first_time spread objects p.0 p.1) (enumerate_from 0 objects)

-- the number of services for each host, rounded up; 1 if there is no service
abbrev pub smart_factor : ℕ → ℕ → ℕ
smart_factor services hosts = if services == 0 then 1 else div_ceil services hosts

abbrev pub factor_by : InterleaveFactor → ℕ → ℕ → ℕ
factor_by interleave.Smart services hosts = smart_factor services hosts
factor_by (interleave.Fixed factor) services hosts = factor

abbrev pub host_objects : Configuration → List Object
host_objects c = map (λ h. h.object) c.hosts

abbrev pub service_objects : Configuration → List Object
service_objects c = map (λ s. s.object) c.services

-- the hosts, and after them the services
abbrev pub all_objects : Configuration → List Object
all_objects c = host_objects c ++ service_objects c

-- minutes in milliseconds: a minute has 60,000
abbrev pub minutes : ℕ → ℕ
minutes n = n * 60000

-- the spread by this method, with this maximum spread in minutes, and this interleave factor
abbrev pub spread_of_method : Configuration → ℕ → DelayMethod → ℕ → ℕ → Spread
spread_of_method c start method max_minutes factor = record {
  start = start;
  method = method;
  max_spread = minutes max_minutes;
  interval_length = c.options.interval_length;
  factor = factor;
}

-- Hosts are visited in the order of their numbers, with the factor 1. (Our own profile.)
abbrev pub host_spread : Configuration → ℕ → Spread
host_spread c start = spread_of_method c start c.options.host_inter_check_delay_method c.options.max_host_check_spread 1

abbrev pub service_spread : Configuration → ℕ → Spread
service_spread c start =
    spread_of_method c start c.options.service_inter_check_delay_method c.options.max_service_check_spread
    (factor_by c.options.service_interleave_factor (length c.services) (length c.hosts))

-- The time of the first check of each object, by number; None for an object that isn't scheduled.
unfoldable pub initial_times : Configuration → ℕ → List (Option ℕ)
initial_times c start = first_times (host_spread c start) (host_objects c) ++ first_times (service_spread c start) (service_objects c)
