use Rattle.std.proofs.Common.{ap, ◌∙◌, ◌++◌}
use Rattle.json.specs.Print.{print}
use Rattle.serde_json.proofs.Texts.{print-outline}
use Rattle.check_saved_state.specs.Tree.{saved_tree, tokens_of}
use Rattle.check_saved_state.proofs.saved.Saved.write_after.Goals as goal

pub returns-clause-text : goal.returns-clause-text
returns-clause-text c =
    let w = c.in_ok-write_saved.ensures.written in
    let tree = saved_tree c.args.self.now in
    let front = c.args.front.items in
    c.into_inner.ensures.items ∙ ap (λ b. b ++ print c.write_saved.new.out.tokens) (w.front ∙ c.new-out.ensures.before)
    ∙ ap (λ ts. front ++ print ts) (w.added ∙ ap (λ ts. ts ++ tokens_of tree) c.new-out.ensures.tokens) ∙ ap (λ t. front ++ t) (print-outline tree)
