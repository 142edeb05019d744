use Rattle.setup_diagnostics.proofs.FeedLemmas.{compact_flat}
use Rattle.setup_diagnostics.proofs.kinds.push_any_number.Goals as goal

pub push_words-requires : goal.push_words-requires
push_words-requires c = compact_flat _ _ c.as_str.ensures.value c.in_ok-number.ensures.compact
