-- Facts about the figures of a summary.
use Rattle.std.specs.Prelude.{◌≡◌, ℕ, ◌+◌, ◌≤◌, List, Option, Some, None, IfSome, All, option_map}
use Rattle.std.specs.List.{Contains}
use Rattle.setup_summary.specs.declared.counts.Reasons.{Reasons}
use Rattle.setup_summary.specs.declared.spans.Span.{Span}
use Rattle.setup_summary.specs.declared.summary.Summary.{Summary}

-- ---- a later start

abbrev pub span_after_delay : ℕ → Span → Span
span_after_delay delay span = record { first = option_map (λ time. time + delay) span.first; last = option_map (λ time. time + delay) span.last }

-- the same figures, with both spans later by a delay
abbrev pub summary_after_delay : ℕ → Summary → Summary
summary_after_delay delay s = record {
  hosts = s.hosts;
  services = s.services;
  links = s.links;
  reasons = s.reasons;
  chains = s.chains;
  host_delay = s.host_delay;
  host_span = span_after_delay delay s.host_span;
  service_delay = s.service_delay;
  service_span = span_after_delay delay s.service_span;
  interleave_factor = s.interleave_factor;
}

-- ---- a span

-- it is one of the times, and has this relation to each of them; if it is missing, there is no time
abbrev pub IsFirstBy : (ℕ → ℕ → Type 0) → List (Option ℕ) → Option ℕ → Type 0
IsFirstBy stands times None = All (λ time. time ≡ None) times
IsFirstBy stands times (Some first) = Contains times (Some first) × All (λ time. IfSome time (stands first)) times

-- it is one of the times, and no time is less; if it is missing, there is no time
abbrev pub IsLeast : List (Option ℕ) → Option ℕ → Type 0
IsLeast times least = IsFirstBy (λ a b. a ≤ b) times least

-- it is one of the times, and no time is greater; if it is missing, there is no time
abbrev pub IsGreatest : List (Option ℕ) → Option ℕ → Type 0
IsGreatest times greatest = IsFirstBy (λ a b. b ≤ a) times greatest

-- ---- the reasons

abbrev pub reasons_count : Reasons → ℕ
reasons_count r = r.scheduled + r.disabled + r.without_interval
