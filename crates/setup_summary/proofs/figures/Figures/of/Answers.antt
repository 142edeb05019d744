use Rattle.std.proofs.Common.{◌∙◌, ap, count_by, is_none, is_some}
use Rattle.setup_summary.specs.Changes.{abandoned_count_among}
use Rattle.setup_summary.proofs.FigureLemmas.{given_up_counted, hosts_within, kept_counted, new_counted}
use Rattle.setup_summary.proofs.figures.Figures.of.Goals as goal

pub count_abandoned-requires : goal.count_abandoned-requires
count_abandoned-requires c = rw c.requires (hosts_within c.args.setup.now c.args.saved.now)

pub returns : goal.returns
returns c =
    let setup = c.args.setup.now in
    let saved = c.args.saved.now in
    let kept = c.count_kept.ensures ∙ ap (count_by is_some) c.requires ∙ kept_counted setup saved in
    let new = c.count_new.ensures ∙ ap (count_by is_none) c.requires ∙ new_counted setup saved in
    let given_up = c.count_abandoned.ensures ∙ ap (abandoned_count_among setup) c.requires ∙ given_up_counted setup saved in
    λ i. record { kept = kept i; new = new i; dropped = c.count_dropped.ensures i; given_up = given_up i }
