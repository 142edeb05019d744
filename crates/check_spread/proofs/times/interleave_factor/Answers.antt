use Rattle.std.proofs.Common.{◌≡◌, ◌≢◌, ◌-◌, ◌<◌, ◌∙◌, arith, length, sym, ap}
use Rattle.std.proofs.lemmas.Bool.{ne_eqb}
use Rattle.check_spread.proofs.TimesLemmas.{count_parts, some_host}
use Rattle.check_spread.proofs.times.interleave_factor.Goals as goal

pub div_ceil-requires : goal.div_ceil-requires
div_ceil-requires c =
    let parts = count_parts c.args.setup.now in
    let some : c.len.result - c.hosts.result ≢ 0 = c.if-services-eq0.false in
    let services : 0 < length c.args.setup.now.services = grind (arith, some, c.len.ensures.count, c.hosts.ensures.count, parts) in
    let hosts = some_host c.args.setup.now c.len.ensures.setup services in
    omega (arith, hosts, c.hosts-in-Smart-2.ensures.count)

pub returns-in-Smart-2-clause-factor : goal.returns-in-Smart-2-clause-factor
returns-in-Smart-2-clause-factor c =
    let parts = count_parts c.args.setup.now in
    let services : c.len.result - c.hosts.result ≡ length c.args.setup.now.services = omega (arith, c.len.ensures.count, c.hosts.ensures.count, parts) in
    let some : length c.args.setup.now.services ≢ 0 = rw (← services) c.if-services-eq0.false in
    let smart = sym (ap (λ o. o.service_interleave_factor) c.options.ensures) ∙ c.in-Smart-2.is in
    rw (smart, ne_eqb (length c.args.setup.now.services) 0 some, ← services, ← c.hosts-in-Smart-2.ensures.count) c.div_ceil.ensures
