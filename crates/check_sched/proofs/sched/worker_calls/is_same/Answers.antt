use Rattle.std.proofs.Common.{◌≡◌, rules}
use Rattle.check_sched.proofs.sched.worker_calls.is_same.Goals as goal

pub returns-then-one-other-2 : goal.returns-then-one-other-2
returns-then-one-other-2 c e =
    let checked : c.args.one.checked ≡ c.args.other.checked = search rules in
    let state : c.args.one.state ≡ c.args.other.state = search rules in
    let kind : c.args.one.kind ≡ c.args.other.kind = search rules in
    let attempt : c.args.one.attempt ≡ c.args.other.attempt = search rules in
    let last_hard : c.args.one.last_hard ≡ c.args.other.last_hard = search rules in
    let flapping : c.args.one.flapping ≡ c.args.other.flapping = search rules in
    λ i. record {
      checked = checked i;
      state = state i;
      kind = kind i;
      attempt = attempt i;
      last_hard = last_hard i;
      flapping = flapping i;
    }
