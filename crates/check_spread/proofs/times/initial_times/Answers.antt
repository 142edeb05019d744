use Rattle.std.proofs.Common.{◌∙◌, ap, arith, length, length-append}
use Rattle.std.proofs.lemmas.List.{length-take, length-drop}
use Rattle.check_spread.specs.Spread.{first_times}
use Rattle.check_spread.proofs.TimesLemmas.{front_in_range, back_in_range, length-first_times, length-all_objects}
use Rattle.check_spread.proofs.times.initial_times.Goals as goal

pub push_first_times-requires-clause-intervals : goal.push_first_times-requires-clause-intervals
push_first_times-requires-clause-intervals c =
    rw (c.split_at.ensures.front, c.deref.ensures.value) (front_in_range c.hosts.result c.in_ok-objects.objects.items c.in_ok-objects.ensures.intervals)

pub push_first_times-requires-2-clause-intervals : goal.push_first_times-requires-2-clause-intervals
push_first_times-requires-2-clause-intervals c =
    rw (c.split_at.ensures.back, c.deref.ensures.value) (back_in_range c.hosts.result c.in_ok-objects.objects.items c.in_ok-objects.ensures.intervals)

pub returns-clause-one_each : goal.returns-clause-one_each
returns-clause-one_each c =
    let hosts = ap length c.in_ok-push_first_times.ensures.times ∙ length-append c.in_ok-times.times.items
    (first_times c.find_spreads.result.0 c.split_at.result.0.now) in
    let services = ap length c.in_ok-push_first_times-2.ensures.times ∙ length-append c.push_first_times.new.times.items
    (first_times c.find_spreads.result.1 c.split_at.result.1.now) in
    let host_times = length-first_times c.find_spreads.result.0 c.split_at.result.0.now in
    let service_times = length-first_times c.find_spreads.result.1 c.split_at.result.1.now in
    let none = ap length c.in_ok-times.ensures.items in
    let parts = ap length c.split_at.ensures.front in
    let rest = ap length c.split_at.ensures.back in
    let whole = length-take c.hosts.result c.deref.result.now in
    let behind = length-drop c.hosts.result c.deref.result.now in
    let all = ap length (c.deref.ensures.value ∙ c.in_ok-objects.ensures.objects) ∙ length-all_objects c.args.setup.now in
    omega (arith, hosts, services, host_times, service_times, none, parts, rest, whole, behind, all, c.hosts.ensures.within)
