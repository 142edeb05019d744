use Rattle.std.proofs.Common.{sym, ap, ◌∙◌, bytes_eq}
use Rattle.std.specs.Prelude.{unwrap_or}
use Rattle.setup_model.proofs.ListLemmas.{position-map}
use Rattle.check_objects.proofs.object_index.number_of.Goals as goal

pub returns-in-Some : goal.returns-in-Some
returns-in-Some c = ap (λ o. unwrap_or o 0) (c.in-Some.ensures.index ∙ sym (position-map (bytes_eq c.args.name.now) (λ n. n.now) c.args.names.now.keys))

pub returns-in-None : goal.returns-in-None
returns-in-None c = ap (λ o. unwrap_or o 0) (c.in-None.ensures.index ∙ sym (position-map (bytes_eq c.args.name.now) (λ n. n.now) c.args.names.now.keys))
