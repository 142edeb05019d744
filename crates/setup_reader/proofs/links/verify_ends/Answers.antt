use Rattle.std.proofs.Common.{subst, ap, ◌∙◌, map, string_bytes}
use Rattle.setup_model.specs.ParsedViews.{parsed_view, service, texts}
use Rattle.setup_model.specs.Ends.{full_names, is_known}
use Rattle.setup_model.specs.Fault.{IsExpectedReading}
use Rattle.setup_reader.proofs.VerificationLemmas.{same_dependencies}
use Rattle.setup_reader.proofs.links.verify_ends.Goals as goal

pub returns : goal.returns
returns c =
    let full = ap (map string_bytes) c.deref-2.ensures.value ∙ c.in_ok-names.ensures
    ∙ ap (λ l. full_names (map service l)) c.deref.ensures.value in
    subst (IsExpectedReading (λ u. u) c.verify_both_sorts.result)
    (same_dependencies (texts c.in_ok-services.services.keys) (full_names (map service c.args.parsed.now.services.items)) (texts c.args.hosts.now.keys)
    (parsed_view c.args.parsed.now)
    (λ name. c.in_ok-services.ensures name ∙ ap (λ l. is_known l name) full))
    c.verify_both_sorts.ensures
