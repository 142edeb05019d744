use Rattle.std.proofs.Common.{◌≡◌, ℕ, List, Option, sym, ap, ◌∙◌, not}
use Rattle.std.specs.List.{position}
use Rattle.setup_model.specs.declared.parsed_setup.ParsedHost.{ParsedHost}
use Rattle.setup_model.specs.Agreement.{error_at}
use Rattle.setup_model.specs.ParsedViews.{host, texts}
use Rattle.setup_model.specs.Ends.{is_known}
use Rattle.setup_model.specs.Fault.{unknown_parent}
use Rattle.setup_model.specs.Text.{text}
use Rattle.setup_model.proofs.ListLemmas.{dropped_as, position-map}
use Rattle.setup_model.proofs.RefusalLemmas.{each_here, each_later}
use Rattle.setup_reader.specs.Verification.{host_parents_test}
use Rattle.setup_reader.proofs.links.verify_parents.Goals as goal

-- the test of a host, by the first of its parents that isn't known
found_at : (names : List (List ℕ)) (i : ℕ) (h : ParsedHost) (found : Option ℕ) → found ≡ position (λ p. not (is_known names (text p))) h.parents.now
    → host_parents_test names i (host h) ≡ error_at (unknown_parent i) found
found_at names i h found is = ap (error_at (unknown_parent i)) (position-map (λ p. not (is_known names p)) text h.parents.now ∙ sym is)

pub returns-in-Some : goal.returns-in-Some
returns-in-Some c =
    let i = c.loop-index.index in
    c.loop-index.invariant
    ∙ each_here (host_parents_test (texts c.args.names.now.keys)) host c.args.hosts.now i c.index-hosts-index.result (unknown_parent i c.in-Some.parent)
    (dropped_as c.args.hosts.now i _ c.loop-index-test.true c.index-hosts-index.is) (found_at _ i c.index-hosts-index.result _ c.in-Some.ensures)

pub loop-index-preserved : goal.loop-index-preserved
loop-index-preserved c =
    let i = c.loop-index.index in
    c.loop-index.invariant
    ∙ each_later (host_parents_test (texts c.args.names.now.keys)) host c.args.hosts.now i c.index-hosts-index.result
    (dropped_as c.args.hosts.now i _ c.loop-index-test.true c.index-hosts-index.is) (found_at _ i c.index-hosts-index.result _ c.in_default.ensures)
