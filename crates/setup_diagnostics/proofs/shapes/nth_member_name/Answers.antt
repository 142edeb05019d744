use Rattle.std.proofs.Common.{◌∙◌, Some, String, Global, Option, ap, string_bytes, sym}
use Rattle.std.specs.Prelude.{option_map}
use Rattle.setup_diagnostics.proofs.HeadLemmas.{key_seen}
use Rattle.setup_diagnostics.proofs.shapes.nth_member_name.Goals as goal

pub returns-in-Some : goal.returns-in-Some
returns-in-Some c =
    ap Some c.as_str.ensures.value ∙ (ap (λ (o : Option (String Global)). option_map string_bytes o) c.in-Some.ensures
    ∙ sym (key_seen c.args.object.now.entries c.args.index))

pub returns-in-None : goal.returns-in-None
returns-in-None c =
    ap (λ (o : Option (String Global)). option_map string_bytes o) c.in-None.ensures ∙ sym (key_seen c.args.object.now.entries c.args.index)
