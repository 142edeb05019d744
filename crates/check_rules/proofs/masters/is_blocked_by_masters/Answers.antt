use Rattle.std.proofs.Common.{◌∙◌, sym}
use Rattle.check_rules.proofs.InheritLemmas.{met_blocks, none_blocks}
use Rattle.check_rules.proofs.masters.is_blocked_by_masters.Goals as goal

pub returns-then-is_any_met-clause-value : goal.returns-then-is_any_met-clause-value
returns-then-is_any_met-clause-value c =
    met_blocks c.args.setup.now c.args.standings.now c.chain_end-end.result c.chain_end-end.ensures.in_range _ c.is_any_met.result
    c.dependencies-dependencies.ensures.dependencies c.is_any_met.ensures c.if-is_any_met.true
    ∙ c.chain_end-end.ensures.value

pub returns-then-not-inherits_any-clause-value : goal.returns-then-not-inherits_any-clause-value
returns-then-not-inherits_any-clause-value c =
    none_blocks c.args.setup.now c.args.standings.now c.chain_end-end.result c.chain_end-end.ensures.in_range _ c.is_any_met.result
    c.dependencies-dependencies.ensures.dependencies c.is_any_met.ensures c.if-is_any_met.false
    (sym c.inherits_any.ensures ∙ c.if-not-inherits_any.true)
    ∙ c.chain_end-end.ensures.value
