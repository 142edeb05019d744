use Rattle.std.proofs.lemmas.Result.{on_ok_weaker}
use Rattle.setup_diagnostics.proofs.GrowthLemmas.{begins_by, begins_then}
use Rattle.setup_diagnostics.proofs.schema.push_between.Goals as goal

pub returns : goal.returns
returns c =
    on_ok_weaker c.push_json-3.result (λ last. begins_then _ _ _ (begins_then _ _ _ (begins_then _ _ _ (begins_then _ _ _ (begins_by _ _ _ c.in_ok-push_json.ensures) (begins_by _ _ _ c.in_ok-push_number.ensures)) (begins_by _ _ _ c.in_ok-push_json-2.ensures)) (begins_by _ _ _ c.in_ok-push_number-2.ensures)) (begins_by _ _ _ last)) c.push_json-3.ensures
