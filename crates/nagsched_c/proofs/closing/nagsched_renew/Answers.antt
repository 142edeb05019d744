use Rattle.std.proofs.Common.{◌≡◌, None, subst}
use Rattle.std.specs.Prelude.{Option}
use Rattle.std.specs.declared.alloc.Global.{Global}
use Rattle.std_alloc.specs.declared.boxed.Box.{Box}
use Rattle.nagsched_handles.specs.declared.target.HandleTarget.{HandleTarget}
use Rattle.nagsched_handles.specs.Closing.{HasRenewedBook}
use Rattle.nagsched_handles.specs.Handles.{box_value, contents_of}
use Rattle.nagsched_c.proofs.Closings.{unchanged}
use Rattle.nagsched_handles.proofs.Options.{none_of}
use Rattle.nagsched_c.proofs.closing.nagsched_renew.Goals as goal

pub returns-in-Some-past-clause-renewed : goal.returns-in-Some-past-clause-renewed
returns-in-Some-past-clause-renewed c = λ is.
    let was = c.in-Some.target.value in
    let none : contents_of c.args.history.now ≡ None = none_of _ c.is_empty.result c.is_empty.ensures c.if-not-is_empty.false in
    let gone = subst (λ (b : HandleTarget). HasRenewedBook c.args.room b c.renew-past.new.target (box_value c.renew-past.result)) c.deref_mut.ensures.value c.renew-past.ensures in
    let renewed = subst (λ (o : Option (Box HandleTarget Global)). HasRenewedBook c.args.room was c.renew-past.new.target (box_value o)) c.in-Some-past.is gone in
    (none, rw (← c.in-Some.ensures.value, c.of-2.ensures, c.of-in-Some-past.ensures) renewed)

pub returns-in-None-clause-kept : goal.returns-in-None-clause-kept
returns-in-None-clause-kept c = λ is.
    let was = c.in-Some.target.value in
    let gone = subst (λ (b : HandleTarget). HasRenewedBook c.args.room b c.renew-past.new.target (box_value c.renew-past.result)) c.deref_mut.ensures.value c.renew-past.ensures in
    let same = subst (λ (o : Option (Box HandleTarget Global)). HasRenewedBook c.args.room was c.renew-past.new.target (box_value o)) c.in-None.is gone in
    rw (← c.in-Some.ensures.value, c.of-2.ensures) (unchanged c.args.room was c.renew-past.new.target same)
