use Rattle.std.proofs.Common.{◌∙◌, ap}
use Rattle.serde_json.specs.View.{members_view}
use Rattle.setup_reader.specs.Shapes.{first_unknown}
use Rattle.setup_reader.proofs.KeyLemmas.{names_seen, unknown_seen}
use Rattle.setup_reader.proofs.shapes.first_unknown.Goals as goal

pub returns : goal.returns
returns c =
    c.unknown_key.ensures ∙ unknown_seen (λ m. m.name.now) c.args.members.now c.args.object.now.entries
    ∙ ap (λ known. first_unknown known (members_view c.args.object.now.entries)) (names_seen c.args.members.now)
