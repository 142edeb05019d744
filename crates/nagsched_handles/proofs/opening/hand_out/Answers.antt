use Rattle.std.proofs.Common.{◌≡◌, ◌<◌, ◌≤◌, ◌+◌, ◌++◌, ◌∷◌, [], ◌∙◌, sym, ap, subst, arith, length, length-append, length-set, set, drop}
use Rattle.std.proofs.lemmas.List.{append_assoc, append-nil, drop_all}
use Rattle.std_alloc.specs.Arc.{arc_value}
use Rattle.nagsched_handles.specs.declared.target.HandleTarget.{HandleTarget}
use Rattle.nagsched_handles.specs.Opening.{IsFreshPassOf}
use Rattle.nagsched_handles.specs.Places.{HasPass, HavePasses, IsPlaceFor, IsPlaceOf, IsPlaceWithPass}
use Rattle.nagsched_handles.proofs.Fresh.{both_shorter, has_place, has_pass, last_too, left_all, one_more_filled, place_for, shorter}
use Rattle.nagsched_handles.proofs.opening.hand_out.Goals as goal

pub loop-pass-init : goal.loop-pass-init
loop-pass-init c =
    let desk = arc_value c.args.shared in
    let ends : length c.args.handles.now ≤ length c.args.passes.items = omega (arith, c.requires.handles) in (
      c.requires.handles,
      c.requires.count,
      c.requires.fresh,
      c.requires.places,
      ([], sym (append-nil c.args.passes.items), rw (drop_all (length c.args.passes.items) c.args.handles.now ends) tt),
    )

pub fill_place-requires : goal.fill_place-requires
fill_place-requires c =
    let desk = arc_value c.args.shared in
    let was = c.loop-pass.invariant in
    let pass = c.in-Some.pass in
    let place = c.in-Some-pop.place in
    let fresh = last_too (IsFreshPassOf desk.desk) c.loop-pass.passes.items c.pop.new.self.items pass c.in-Some.ensures.items was.2 in
    let of = last_too (λ s. IsPlaceOf desk s.value) c.loop-pass.places.items c.pop-in-Some.new.self.items place c.in-Some-pop.ensures.items was.3 in
    subst (IsPlaceFor pass) (sym c.deref_mut.ensures.value) (place_for desk pass place.value of fresh.own)

pub loop-pass-preserved : goal.loop-pass-preserved
loop-pass-preserved c =
    let desk = arc_value c.args.shared in
    let was = c.loop-pass.invariant in
    let passes = c.loop-pass.passes.items in
    let rest = c.pop.new.self.items in
    let pass = c.in-Some.pass in
    let place = c.in-Some-pop.place in
    let given = was.4.0 in
    let popped = c.in-Some.ensures.items in
    let fewer = shorter passes rest pass popped in
    let less : length rest < length c.loop-pass.handles =
    has_place _ (length passes) _ (length given) fewer (was.0 ∙ ap length was.4.1 ∙ length-append passes given) in
    let of = last_too (λ s. IsPlaceOf desk s.value) c.loop-pass.places.items c.pop-in-Some.new.self.items place c.in-Some-pop.ensures.items was.3 in
    let taken = subst (λ (b : HandleTarget). IsPlaceWithPass pass b c.fill_place.new.place) c.deref_mut.ensures.value c.fill_place.ensures in
    let has = subst (HasPass desk pass) (sym c.of.ensures) (has_pass desk pass place.value c.fill_place.new.place of taken) in
    let at : c.len.result ≡ length rest = omega (arith, c.len.ensures, c.in-Some.ensures.len, fewer) in
    let behind : HavePasses desk given (drop (length rest + 1) c.loop-pass.handles) = subst (λ n. HavePasses desk given (drop n c.loop-pass.handles)) fewer was.4.2 in (
      length-set c.loop-pass.handles c.len.result c.of.result ∙ was.0,
      both_shorter _ _ _ _ fewer (shorter c.loop-pass.places.items c.pop-in-Some.new.self.items place c.in-Some-pop.ensures.items) was.1,
      left_all (IsFreshPassOf desk.desk) passes rest pass popped was.2,
      left_all (λ s. IsPlaceOf desk s.value) c.loop-pass.places.items c.pop-in-Some.new.self.items place c.in-Some-pop.ensures.items was.3,
      (
        pass ∷ given,
        was.4.1 ∙ ap (λ xs. xs ++ given) popped ∙ append_assoc rest (pass ∷ []) given,
        subst (λ n. HavePasses desk (pass ∷ given) (drop (length rest) (set c.loop-pass.handles n c.of.result))) (sym at)
            (one_more_filled desk (length rest) pass c.of.result given c.loop-pass.handles less has behind),
      ),
    )
