use Rattle.std.proofs.Common.{take}
use Rattle.check_rules.proofs.SearchLemmas.{IsSearch}
use Rattle.check_rules.proofs.masters.search_all.Given as goal

-- the objects before this place wait
abbrev pub invariant-loop-place : goal.invariant-loop-place
invariant-loop-place l = IsSearch l.setup l.standings l.n l.marks (take l.place l.order)
