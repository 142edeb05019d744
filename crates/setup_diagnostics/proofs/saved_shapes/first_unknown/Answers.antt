use Rattle.std.proofs.Common.{◌∙◌, Some, String, Global, Option, ap, string_bytes}
use Rattle.std.specs.Prelude.{option_map}
use Rattle.setup_diagnostics.proofs.SavedKeyLemmas.{unknown_seen}
use Rattle.setup_diagnostics.proofs.saved_shapes.first_unknown.Goals as goal

pub returns-in-Some : goal.returns-in-Some
returns-in-Some c =
    ap Some c.as_str.ensures.value ∙ (ap (λ (o : Option (String Global)). option_map string_bytes o) c.in-Some.ensures
    ∙ unknown_seen c.args.format c.args.members.now c.args.object.now.entries)

pub returns-in-None : goal.returns-in-None
returns-in-None c =
    ap (λ (o : Option (String Global)). option_map string_bytes o) c.in-None.ensures
    ∙ unknown_seen c.args.format c.args.members.now c.args.object.now.entries
