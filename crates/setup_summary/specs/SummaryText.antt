-- The lines of a summary: a word and a value each.
use Rattle.std.specs.Prelude.{ℕ, List, ◌++◌, Option, Some, None, codes, decimal}
use Rattle.setup_model.specs.declared.options.DelayMethod.{DelayMethod}
use Rattle.setup_model.specs.declared.options.DelayMethod.TheVariants as method
use Rattle.setup_summary.specs.declared.chains.Chains.{Chains}
use Rattle.setup_summary.specs.declared.counts.Reasons.{Reasons}
use Rattle.setup_summary.specs.declared.spans.Span.{Span}
use Rattle.setup_summary.specs.declared.summary.Summary.{Summary}

-- a line: a word, a space and a value
abbrev pub value_line : List ℕ → List ℕ → List ℕ
value_line word value = word ++ (codes " " ++ (value ++ codes "\n"))

-- the line of a count
abbrev pub count_line : List ℕ → ℕ → List ℕ
count_line word count = value_line word (decimal count)

-- a moment in milliseconds, or the word for no moment
abbrev pub moment_text : Option ℕ → List ℕ
moment_text (Some time) = decimal time
moment_text None = codes "none"

-- a delay method: its name, or its milliseconds
abbrev pub method_text : DelayMethod → List ℕ
method_text method.NoDelay = codes "none"
method_text method.Dumb = codes "dumb"
method_text method.Smart = codes "smart"
method_text (method.Fixed delay) = decimal delay

-- how many objects and links there are
unfoldable pub sizes_text : Summary → List ℕ
sizes_text s =
    count_line (codes "hosts") s.hosts
    ++ (count_line (codes "services") s.services
    ++ (count_line (codes "dependencies") s.links.dependencies ++ count_line (codes "parents") s.links.parents))

-- how many links the longest chains have
unfoldable pub chains_text : Chains → List ℕ
chains_text c = count_line (codes "dependency_chain") c.dependencies ++ count_line (codes "parent_chain") c.parents

-- how many objects are scheduled, and why others aren't
unfoldable pub reasons_text : Reasons → List ℕ
reasons_text r =
    count_line (codes "scheduled") r.scheduled
    ++ (count_line (codes "disabled") r.disabled ++ count_line (codes "without_interval") r.without_interval)

-- how the first checks of one sort of object are spread, with the words of the three lines
unfoldable pub spread_text : List ℕ → List ℕ → List ℕ → DelayMethod → Span → List ℕ
spread_text delay first last method span =
    value_line delay (method_text method) ++ (value_line first (moment_text span.first) ++ value_line last (moment_text span.last))

-- of hosts
unfoldable pub hosts_text : Summary → List ℕ
hosts_text s = spread_text (codes "host_delay") (codes "host_first") (codes "host_last") s.host_delay s.host_span

-- of services
unfoldable pub services_text : Summary → List ℕ
services_text s = spread_text (codes "service_delay") (codes "service_first") (codes "service_last") s.service_delay s.service_span

-- the interleave factor of services
unfoldable pub factor_text : Summary → List ℕ
factor_text s = count_line (codes "interleave_factor") s.interleave_factor

-- the first line of a good setup
unfoldable pub ok_line : List ℕ
ok_line = codes "setup ok\n"

-- how the first checks are spread
unfoldable pub spreads_text : Summary → List ℕ
spreads_text s = hosts_text s ++ (services_text s ++ factor_text s)

-- all lines
abbrev pub summary_text : Summary → List ℕ
summary_text s = ok_line ++ (sizes_text s ++ (chains_text s.chains ++ (reasons_text s.reasons ++ spreads_text s)))
