use Rattle.std.proofs.Common.{[], ap, ◌∙◌}
use Rattle.check_desk.proofs.ReportLemmas.{glanced_after, last_standing, seen_later}
use Rattle.check_desk.specs.Passes.{hold_caller, pass_of}
use Rattle.check_desk.proofs.laws.returned_reports.Goals as goal

pub returns : goal.returns
returns c = record {
  finished = λ call reply hold pass is. record { before = (hold_caller hold).seen; since = []; seen = ap (λ x. x.seen) is };
  asked = λ call reply before after h. record { before = h.history; since = []; seen = ap (λ x. x.seen) h.after_is };
  waiting = λ e pass turn is h. record { before = h.before; since = h.since; seen = ap (λ x. x.seen) is ∙ h.seen };
  later = λ e caller after follows h. seen_later e caller after follows.0 h;
  glanced = λ desk e before after object standing h follows legal shown.
      glanced_after desk e (pass_of before) (pass_of after) object standing h follows.0 legal shown;
  same_standing = λ desk before since own object run code standing changed next there legal quiet.
      last_standing desk before since own object run code standing changed next there legal quiet;
}
