use Rattle.std.proofs.lemmas.Result.{on_ok_weaker}
use Rattle.setup_diagnostics.proofs.GrowthLemmas.{begins_then, each_then}
use Rattle.setup_diagnostics.proofs.schema.push_members.Goals as goal

pub returns-clause-extends : goal.returns-clause-extends
returns-clause-extends c =
    on_ok_weaker c.close.result (λ last. begins_then _ _ _ (begins_then _ _ _ (begins_then _ _ _ (c.in_ok-push_object.ensures) (c.in_ok-open.ensures.extends)) (c.in_ok-push_each.ensures.extends)) last) c.close.ensures

pub returns-clause-names : goal.returns-clause-names
returns-clause-names c = on_ok_weaker c.close.result (each_then _ _ _ c.in_ok-push_each.ensures.names) c.close.ensures
