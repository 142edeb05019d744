use Rattle.std.proofs.Common.{◌≡◌, ◌≤◌, true, length, take}
use Rattle.std.specs.List.{list_all}
use Rattle.check_rules.specs.Marks.{is_marked}
use Rattle.check_rules.proofs.SearchLemmas.{IsSearch}
use Rattle.check_rules.proofs.masters.search_few.Given as goal

-- all that wait are marked
abbrev pub invariant-loop-turn : goal.invariant-loop-turn
invariant-loop-turn l =
    IsSearch l.setup l.standings l.n l.marks (take l.count l.waiting)
    × (list_all (is_marked l.marks) (take l.count l.waiting) ≡ true)
    × (l.count ≤ length l.waiting) × (length l.waiting ≡ 16)
