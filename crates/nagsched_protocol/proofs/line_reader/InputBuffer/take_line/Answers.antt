use Rattle.std.proofs.Common.{◌≡◌, ◌∙◌, ap, sym, subst, ◌++◌, take, drop, ◌+◌, ◌==◌, Some, None, arith, drop-drop}
use Rattle.std.specs.List.{position}
use Rattle.std.proofs.lemmas.List.{drop_all, take_rest}
use Rattle.nagsched_protocol.specs.LiveInput.{prefix_of}
use Rattle.nagsched_protocol.proofs.LiveInputLemmas.{feed_at, behind_at, no_feed, behind_none, first_all}
use Rattle.nagsched_protocol.proofs.InputLemmas.{line_end_some}
use Rattle.nagsched_protocol.proofs.line_reader.InputBuffer.take_line.Goals as goal

pub returns-in_ok-push-in-Some-clause-whole : goal.returns-in_ok-push-in-Some-clause-whole
returns-in_ok-push-in-Some-clause-whole c =
    let h = take_rest c.deref.result.now c.self.inside.taken ∙ ap (drop c.self.inside.taken) c.deref.ensures.value ∙ c.self.view_is in
    sym (feed_at c.args.self.now c.in-Some.end (subst (λ l. Some c.in-Some.end ≡ position (λ b. b == 10) l) h c.in-Some.ensures.index))

pub returns-in_ok-push-in-Some-clause-rest : goal.returns-in_ok-push-in-Some-clause-rest
returns-in_ok-push-in-Some-clause-rest c =
    let h = take_rest c.deref.result.now c.self.inside.taken ∙ ap (drop c.self.inside.taken) c.deref.ensures.value ∙ c.self.view_is in
    let behind = behind_at c.args.self.now c.in-Some.end (subst (λ l. Some c.in-Some.end ≡ position (λ b. b == 10) l) h c.in-Some.ensures.index) in
    sym (drop-drop (c.in-Some.end + 1) c.self.inside.taken c.self.inside.bytes_read.items) ∙ ap (drop (c.in-Some.end + 1)) c.self.view_is ∙ sym behind

pub returns-in_ok-push-in-Some-clause-line : goal.returns-in_ok-push-in-Some-clause-line
returns-in_ok-push-in-Some-clause-line c begun e =
    let h = take_rest c.deref.result.now c.self.inside.taken ∙ ap (drop c.self.inside.taken) c.deref.ensures.value ∙ c.self.view_is in
    let first = line_end_some c.args.self.now c.in-Some.end (sym (subst (λ l. Some c.in-Some.end ≡ position (λ b. b == 10) l) h c.in-Some.ensures.index)) in
    c.in_ok-push-in-Some.ensures.kept begun e ∙ ap (λ l. prefix_of c.args.line.now.most (begun ++ l)) (ap (take c.in-Some.end) h ∙ first)

pub returns-in_ok-push-in-None-clause-whole : goal.returns-in_ok-push-in-None-clause-whole
returns-in_ok-push-in-None-clause-whole c =
    let h = take_rest c.deref.result.now c.self.inside.taken ∙ ap (drop c.self.inside.taken) c.deref.ensures.value ∙ c.self.view_is in
    sym (no_feed c.args.self.now (subst (λ l. None ≡ position (λ b. b == 10) l) h c.in-None.ensures.index))

pub returns-in_ok-push-in-None-clause-rest : goal.returns-in_ok-push-in-None-clause-rest
returns-in_ok-push-in-None-clause-rest c =
    let h = take_rest c.deref.result.now c.self.inside.taken ∙ ap (drop c.self.inside.taken) c.deref.ensures.value ∙ c.self.view_is in
    let none = no_feed c.args.self.now (subst (λ l. None ≡ position (λ b. b == 10) l) h c.in-None.ensures.index) in
    drop_all c.len-self-inside.result c.self.inside.bytes_read.items (omega arith) ∙ sym (behind_none c.args.self.now none)

pub returns-in_ok-push-in-None-clause-line : goal.returns-in_ok-push-in-None-clause-line
returns-in_ok-push-in-None-clause-line c begun e =
    let h = take_rest c.deref.result.now c.self.inside.taken ∙ ap (drop c.self.inside.taken) c.deref.ensures.value ∙ c.self.view_is in
    let none = no_feed c.args.self.now (subst (λ l. None ≡ position (λ b. b == 10) l) h c.in-None.ensures.index) in
    c.in_ok-push-in-None.ensures.kept begun e ∙ ap (λ l. prefix_of c.args.line.now.most (begun ++ l)) (h ∙ sym (first_all c.args.self.now none))
