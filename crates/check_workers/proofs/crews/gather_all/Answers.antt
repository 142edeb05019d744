use Rattle.std.proofs.Common.{[], ◌∷◌, ◌++◌, sym, ◌∙◌, ap, subst, append_assoc}
use Rattle.std.specs.List.{All}
use Rattle.check_desk.specs.declared.passes.Pass.{Pass}
use Rattle.check_workers.specs.declared.tally.Tally.{Tally}
use Rattle.check_workers.specs.Crews.{IsTallied}
use Rattle.check_workers.proofs.GatherLemmas.{all_front, all_last, gathered_more, gathered_one, tallied_few}
use Rattle.check_desk.proofs.PublicLaws.{bounded_calls, bounded_numbers}
use Rattle.check_workers.proofs.crews.gather_all.Goals as goal

pub loop-other-init : goal.loop-other-init
loop-other-init c =
    let desk = c.args.desk.now in
    let w : Pass × Tally = (c.in_ok-pass.pass, c.in_ok-pass.tally) in
    let all = subst (λ l. All (λ v. IsTallied desk v.0 v.1) l) c.in_ok-pass.ensures.items c.requires in (
      w ∷ [],
      sym c.in_ok-pass.ensures.items,
      gathered_one desk c.in_ok-pass.pass c.in_ok-pass.tally (all_last (λ v. IsTallied desk v.0 v.1) c.pop.new.self.items w all),
      all_front (λ v. IsTallied desk v.0 v.1) c.pop.new.self.items (w ∷ []) all,
    )

pub gather-pass-requires : goal.gather-pass-requires
gather-pass-requires c =
    let desk = c.args.desk.now in
    let w : Pass × Tally = (c.in-Some.other, c.in-Some.more) in
    let all = subst (λ l. All (λ v. IsTallied desk v.0 v.1) l) c.in-Some.ensures.items c.loop-other.invariant.3 in
    ((all_last (λ v. IsTallied desk v.0 v.1) c.pop-in-loop-other.new.self.items w all).0, c.loop-other.invariant.2.tallied.0)

pub plus-tally-requires : goal.plus-tally-requires
plus-tally-requires c =
    let desk = c.args.desk.now in
    let w : Pass × Tally = (c.in-Some.other, c.in-Some.more) in
    let all = subst (λ l. All (λ v. IsTallied desk v.0 v.1) l) c.in-Some.ensures.items c.loop-other.invariant.3 in (
      tallied_few desk c.in-Some.other c.in-Some.more (bounded_calls c.in-Some.other) (bounded_numbers c.in-Some.other)
          (all_last (λ v. IsTallied desk v.0 v.1) c.pop-in-loop-other.new.self.items w all),
      tallied_few desk c.loop-other.pass c.loop-other.tally (bounded_calls c.loop-other.pass) (bounded_numbers c.loop-other.pass)
          c.loop-other.invariant.2.tallied,
    )

pub loop-other-preserved : goal.loop-other-preserved
loop-other-preserved c =
    let desk = c.args.desk.now in
    let w : Pass × Tally = (c.in-Some.other, c.in-Some.more) in
    let all = subst (λ l. All (λ v. IsTallied desk v.0 v.1) l) c.in-Some.ensures.items c.loop-other.invariant.3 in
    let last = all_last (λ v. IsTallied desk v.0 v.1) c.pop-in-loop-other.new.self.items w all in
    let was = c.loop-other.invariant in (
      w ∷ was.0,
      sym (append_assoc c.pop-in-loop-other.new.self.items (w ∷ []) was.0) ∙ ap (λ l. l ++ was.0) (sym c.in-Some.ensures.items) ∙ was.1,
      rw c.plus-tally.ensures (gathered_more desk was.0 c.in-Some.other c.loop-other.pass c.gather-pass.result c.in-Some.more c.loop-other.tally last was.2
          c.gather-pass.ensures.desk c.gather-pass.ensures.gathered_caller c.gather-pass.ensures.seen c.gather-pass.ensures.seen_by_other),
      all_front (λ v. IsTallied desk v.0 v.1) c.pop-in-loop-other.new.self.items (w ∷ []) all,
    )
