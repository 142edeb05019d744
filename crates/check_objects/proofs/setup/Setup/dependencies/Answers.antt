use Rattle.std.proofs.Common.{◌<◌, sym, subst, ◌∙◌, refl}
use Rattle.std.specs.Prelude.{All}
use Rattle.check_objects.specs.Configuration.{object_count}
use Rattle.check_objects.specs.WellFormed.{configuration_of}
use Rattle.check_objects.proofs.GetterLemmas.{setup_masters_below, dependencies_at}
use Rattle.check_objects.proofs.setup.Setup.dependencies.Goals as goal

pub returns-clause-within : goal.returns-clause-within
returns-clause-within c =
    let seen = configuration_of c.self.inside in
    let setup = c.self.invariant.setup in
    let at = c.as_slice.ensures ∙ dependencies_at (λ list. list.items) c.self.inside.dependencies.items seen c.args.number c.index.result.now setup refl
    (rw (← c.self.view_is) at c.requires) c.index.ensures in
    rw (← c.self.view_is) (subst (All (λ d. d.master < object_count seen)) (sym at) (setup_masters_below seen c.args.number setup))
