use Rattle.std.proofs.Common.{ap, ◌∙◌, ◌+◌, length, option_map, Some}
use Rattle.check_objects.proofs.ObjectLemmas.{number_front, number_back}
use Rattle.check_objects.proofs.object_index.object_number.Goals as goal

pub returns-in-Some : goal.returns-in-Some
returns-in-Some c = number_front c.args.hosts.now.entries c.args.services.now.entries c.args.name.now c.in-Some.index c.in-Some.ensures.index

pub returns-in_err-index-in-None : goal.returns-in_err-index-in-None
returns-in_err-index-in-None c =
    c.from_residual.ensures
    ∙ ap (option_map (λ j. length c.args.hosts.now.entries + j)) c.in_err-index-in-None.ensures.index
    ∙ number_back c.args.hosts.now.entries c.args.services.now.entries c.args.name.now c.in-None.ensures.index

pub returns-in_ok-index-in-None : goal.returns-in_ok-index-in-None
returns-in_ok-index-in-None c =
    ap (λ l. Some (l + c.in_ok-index-in-None.index)) c.len.ensures.len
    ∙ ap (option_map (λ j. length c.args.hosts.now.entries + j)) c.in_ok-index-in-None.ensures.index
    ∙ number_back c.args.hosts.now.entries c.args.services.now.entries c.args.name.now c.in-None.ensures.index
