use Rattle.std.proofs.Common.{◌∙◌, ap, sym}
use Rattle.std.specs.Prelude.{is_some}
use Rattle.check_objects.specs.Entries.{names_in}
use Rattle.check_objects.proofs.DependencyEndLemmas.{number_known, place_known, place_of_name}
use Rattle.check_objects.proofs.dependency_lists.offset_number.Goals as goal

pub unwrap-index-requires : goal.unwrap-index-requires
unwrap-index-requires g c =
    let entries = c.args.objects.now.entries in
    ap is_some (c.get_index_of.ensures.index ∙ place_of_name entries c.args.name.now) ∙ place_known (names_in entries) c.args.name.now c.requires.known

pub returns : goal.returns
returns g c =
    let entries = c.args.objects.now.entries in
    number_known c.args.others (names_in entries) c.args.name.now c.unwrap-index.result
    (sym c.unwrap-index.ensures ∙ c.get_index_of.ensures.index ∙ place_of_name entries c.args.name.now)
