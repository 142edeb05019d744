use Rattle.std.proofs.Common.{◌≡◌, take}
use Rattle.check_saved_state.proofs.text.objects_of.Given as goal

abbrev pub invariant-loop-draft : goal.invariant-loop-draft
invariant-loop-draft l = l.objects.items ≡ take l.draft-index l.drafts
