use Rattle.std.proofs.Common.{sym, ap, ◌∙◌, option_map}
use Rattle.std.specs.Map.Iter.{deref_pair}
use Rattle.check_objects.proofs.GetterLemmas.{links_next}
use Rattle.check_objects.proofs.setup.parent_links.Goals as goal

pub loop-number-preserved : goal.loop-number-preserved
loop-number-preserved c =
    let at = sym c.get_index.ensures.entry ∙ ap (option_map deref_pair) c.unwrap.ensures in
    links_next (λ l. l.items) c.loop-number.links.items c.push.new.self.items c.in_ok-from_slice.field-0
    c.args.hosts.now.entries c.loop-number.number _ c.loop-number.invariant
    c.in_ok-push.ensures.items at (c.in_ok-from_slice.ensures.ok ∙ c.as_slice.ensures)
