use Rattle.std.proofs.lemmas.Result.{IfOk-weaker}
use Rattle.setup_model.specs.Members.{document_members}
use Rattle.setup_diagnostics.proofs.GrowthLemmas.{all_then}
use Rattle.setup_diagnostics.proofs.schema.json_schema.Goals as goal

pub returns : goal.returns
returns c = record {
  names = IfOk-weaker c.into_text.result _ _ (λ text last. all_then document_members _ _ (all_then document_members _ _ c.in_ok-push_parts.ensures c.in_ok-close.ensures) last)
      c.into_text.ensures;
}
