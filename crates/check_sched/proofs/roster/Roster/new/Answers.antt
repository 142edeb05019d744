use Rattle.std.proofs.Common.{ap, drop, ◌∙◌}
use Rattle.check_sched.specs.Roster.{running_among, waiting_times}
use Rattle.check_sched.proofs.RosterLaws.{between, between_hosts, between_services}
use Rattle.check_sched.proofs.roster.Roster.new.Goals as goal

pub invariant_of-result : goal.invariant_of-result
invariant_of-result c = record {
  waiting_hosts =
      c.in_ok-waiting_hosts.ensures ∙ ap (waiting_times (between 0 c.args.hosts)) c.deref.ensures.value ∙ between_hosts c.args.hosts c.args.objects.items;
  waiting_services =
      c.in_ok-waiting_services.ensures ∙ ap (waiting_times (between c.args.hosts c.len.result)) c.deref-2.ensures.value
      ∙ ap (λ to. waiting_times (between c.args.hosts to) c.args.objects.items) (c.len.ensures ∙ c.args.objects.ok.0)
      ∙ between_services c.args.hosts c.args.objects.items;
  running_services = c.running_from-running_services.ensures ∙ ap (λ os. running_among (drop c.args.hosts os)) c.deref-3.ensures.value;
  bounded = c.requires.bounded;
}
