use Rattle.setup_summary.proofs.FigureLaws.{ended_counted, kept_or_new, out_or_given_up}
use Rattle.setup_summary.proofs.KeptLaws.{kept_or_dropped}
use Rattle.setup_summary.proofs.laws.figures_add_up.Goals as goal

pub returns : goal.returns
returns c = record { setup = kept_or_new; saved = kept_or_dropped; runs = out_or_given_up; given_up = ended_counted }
