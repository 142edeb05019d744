use Rattle.std.proofs.Common.{subst}
use Rattle.std.proofs.lemmas.Result.{on_ok_weaker}
use Rattle.setup_diagnostics.specs.Schema.{NamesEach}
use Rattle.setup_diagnostics.proofs.GrowthLemmas.{begins_then, each_then}
use Rattle.setup_diagnostics.proofs.schema.push_list.Goals as goal

pub returns-clause-extends : goal.returns-clause-extends
returns-clause-extends c =
    on_ok_weaker c.close.result (λ last. begins_then _ _ _ (begins_then _ _ _ (begins_then _ _ _ (begins_then _ _ _ (begins_then _ _ _ (c.in_ok-text.ensures) (c.in_ok-number.ensures.extends)) (c.in_ok-json.ensures)) (c.in_ok-open.ensures.extends)) (c.in_ok-push_members.ensures.extends)) last) c.close.ensures

pub returns-clause-names : goal.returns-clause-names
returns-clause-names c =
    on_ok_weaker c.close.result (each_then _ _ _ (subst (λ ms. NamesEach ms c.push_members.new.layout) c.inner_members.ensures c.in_ok-push_members.ensures.names))
    c.close.ensures
