-- A saved state, as contracts see it.
use Rattle.check_saved_state.specs.declared.saved.Saved.TheInside as all
use Rattle.check_saved_state.specs.Saved.{IsSaved, Saved}

abbrev pub saved_view : all.Inside → Saved
saved_view s = record { start = s.start; runs = s.runs; objects = s.objects.items }

-- the facts of the fields of every saved state
pub record IsWellFormed (s : all.Inside) : Type 0 where
  pub saved : IsSaved (saved_view s)
