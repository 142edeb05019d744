use Rattle.std.proofs.Common.{sym, ◌∙◌, bytes_eq}
use Rattle.setup_model.proofs.ListLemmas.{list_any-map}
use Rattle.setup_reader.proofs.links.is_known.Goals as goal

pub returns : goal.returns
returns c = c.contains.ensures ∙ sym (list_any-map (bytes_eq c.args.name.now) (λ n. n.now) c.args.names.now.keys)
