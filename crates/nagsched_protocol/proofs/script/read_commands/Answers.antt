use Rattle.std.proofs.Common.{sym, ◌∙◌, arith, ap, length, map, [], ◌∷◌}
use Rattle.std.proofs.lemmas.List.{map-append}
use Rattle.nagsched_protocol.specs.Input.{lines_of}
use Rattle.nagsched_protocol.specs.Script.{commands_of_lines}
use Rattle.nagsched_protocol.proofs.ScriptLemmas.{blank_passed, command_read, commands_by_number, commands_from, few_lines, with_front-nothing}
use Rattle.nagsched_protocol.proofs.script.read_commands.Goals as goal
use Rattle.nagsched_protocol.proofs.script.read_commands.Goals.{then-not-is_blank+in_ok-command+in-Ok, else-not-is_blank}

pub loop-line-init : goal.loop-line-init
loop-line-init g c =
    let same = c.into_iter-line-iterator.ensures.into_iter_gives in
    let begun = c.new-lines.ensures.bytes in
    let bounded = few_lines c.args.bytes.now c.requires.bounded in
    let first = c.requires.first in
    let meaning = g.C.Command.meaning c.args.setup.now in
    let lines = lines_of c.args.bytes.now in (
      rw (c.new-commands.ensures.items, same, begun) (commands_by_number meaning c.args.first lines ∙ sym (with_front-nothing (commands_from meaning c.args.first lines))),
      rw (same, begun)
          (omega (arith, bounded, first)),
    )

-- what is still to come is numbered after the line
pub loop-line-preserved : goal.loop-line-preserved
loop-line-preserved g c =
    let before = c.loop-line.invariant in
    let lines = c.in-Some.ensures.steps in
    let meaning = g.C.Command.meaning c.args.setup.now in
    let number = c.loop-line.number in
    let seen = map g.C.Command.seen c.loop-line.commands.items in
    let come = lines_of c.loop-line.line-iterator.rest.now in
    let rest = lines_of c.next.new.self.rest.now in
    let line = c.in-Some.line.now in
    let fewer = ap length lines in
    let bounded = before.1 in
    let all = commands_of_lines c.args.first meaning (lines_of c.args.bytes.now) in
    elim c.if-not-is_blank.branch [
      | then-not-is_blank+in_ok-command+in-Ok w ↦ (
        rw (w.commands-is, w.in-Ok.ensures.items, map-append g.C.Command.seen c.loop-line.commands.items (w.in_ok-command.command ∷ []))
            (command_read meaning number all seen come line rest (g.C.Command.seen w.in_ok-command.command) before.0 lines
            (sym (w.if-not-is_blank.ensures)) w.in_ok-command.ensures),
        omega (arith, bounded, fewer),
      )
      | else-not-is_blank w ↦ (
        rw (w.commands-is) (blank_passed meaning number all seen come line rest before.0 lines (sym (w.if-not-is_blank.ensures))),
        omega (arith, bounded, fewer),
      )
    ]
