use Rattle.std.proofs.Common.{ap, sym, ◌∙◌}
use Rattle.check_saved_state.specs.Saved.{Saved}
use Rattle.check_saved_state.specs.Verification.{possible_objects_test, draft_test}
use Rattle.check_saved_state.proofs.SavedLemmas.{saved_by}
use Rattle.check_saved_state.proofs.text.saved_of_draft.Goals as goal

pub of-requires : goal.of-requires
of-requires c =
    let runs = c.draft.inside.runs in
    let to_saved : Saved = record { start = c.draft.inside.start; runs = runs; objects = c.in_ok-objects.objects.items } in
    let same = c.in_ok-objects.ensures ∙ c.deref.ensures.value in
    saved_by to_saved
    (ap (λ l. draft_test (record { start = c.draft.inside.start; runs = runs; objects = l })) same
    ∙ ap draft_test c.draft.view_is ∙ c.in_ok-verify_draft.ensures.exact)
    (ap (possible_objects_test runs) (sym c.deref-2.ensures.value) ∙ c.in_ok-verify_possible.ensures)
