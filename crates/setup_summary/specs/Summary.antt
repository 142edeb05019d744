-- The summary of a setup.
use Rattle.std.specs.Prelude.{ℕ, max, ◌==◌, ◌&&◌, Bool, not, List, [], ◌∷◌, length, take, drop, count_by, sum_by, Option, None}
use Rattle.setup_model.specs.declared.parsed_setup.Object.{Object}
use Rattle.check_objects.specs.Configuration.{Configuration, host_count, masters_of, parents_by_host}
use Rattle.check_spread.specs.Spread.{all_objects, factor_by, initial_times, is_scheduled}
use Rattle.check_states.specs.Times.{choice_of, earlier}
use Rattle.setup_summary.specs.Chains.{longest_chain}
use Rattle.setup_summary.specs.declared.chains.Chains.{Chains}
use Rattle.setup_summary.specs.declared.counts.Links.{Links}
use Rattle.setup_summary.specs.declared.counts.Reasons.{Reasons}
use Rattle.setup_summary.specs.declared.spans.Span.{Span}
use Rattle.setup_summary.specs.declared.summary.Summary.{Summary}

-- ---- how many links

-- how many dependencies there are, of hosts and of services together
abbrev pub dependency_count : Configuration → ℕ
dependency_count c = sum_by (λ ds. length ds) c.dependencies

-- how many links from a host to a parent there are
abbrev pub parent_count : Configuration → ℕ
parent_count c = sum_by (λ h. length h.parents) c.hosts

abbrev pub links_in : Configuration → Links
links_in c = record { dependencies = dependency_count c; parents = parent_count c }

-- how many of them follow one another
abbrev pub chains_in : Configuration → Chains
chains_in c = record { dependencies = longest_chain (masters_of c); parents = longest_chain (parents_by_host c) }

-- ---- the scheduled objects, and why the others aren't

-- its active checks are switched off
abbrev pub is_disabled : Object → Bool
is_disabled o = not o.enabled

-- its active checks are switched on, but it has no check interval
abbrev pub has_no_interval : Object → Bool
has_no_interval o = o.enabled && o.check_interval == 0

-- the numbers of these objects that are scheduled, disabled, and without an interval: each object is one of these
abbrev pub reasons_among : List Object → Reasons
reasons_among objects =
    record { scheduled = count_by is_scheduled objects; disabled = count_by is_disabled objects; without_interval = count_by has_no_interval objects }

-- ---- the first and the last of the first checks

-- the later of two times; if only one is given, it is that one
abbrev pub later : Option ℕ → Option ℕ → Option ℕ
later t u = choice_of max t u

-- the least of the times, if there is one
abbrev pub earliest : List (Option ℕ) → Option ℕ
earliest [] = None
earliest (t ∷ ts) = earlier t (earliest ts)

-- the greatest of the times, if there is one
abbrev pub latest : List (Option ℕ) → Option ℕ
latest [] = None
latest (t ∷ ts) = later t (latest ts)

abbrev pub span_of : List (Option ℕ) → Span
span_of times = record { first = earliest times; last = latest times }

-- ---- all of it

-- the summary of a setup whose first checks have these spans
abbrev pub with_spans : Configuration → Span → Span → Summary
with_spans c host_span service_span = record {
  hosts = length c.hosts;
  services = length c.services;
  links = links_in c;
  reasons = reasons_among (all_objects c);
  chains = chains_in c;
  host_delay = c.options.host_inter_check_delay_method;
  host_span = host_span;
  service_delay = c.options.service_inter_check_delay_method;
  service_span = service_span;
  interleave_factor = factor_by c.options.service_interleave_factor (length c.services) (length c.hosts);
}

-- the summary of a setup whose scheduling begins at this moment
abbrev pub summary_of : Configuration → ℕ → Summary
summary_of c start = with_spans c (span_of (take (host_count c) (initial_times c start))) (span_of (drop (host_count c) (initial_times c start)))
