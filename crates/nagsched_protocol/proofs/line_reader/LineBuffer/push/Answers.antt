use Rattle.std.proofs.Common.{◌≡◌, subst, sym, length, arith}
use Rattle.nagsched_protocol.specs.LiveInput.{LinePrefix, prefix_of}
use Rattle.nagsched_protocol.proofs.LiveInputLemmas.{front_goes_on}
use Rattle.nagsched_protocol.proofs.line_reader.LineBuffer.push.Goals as goal

pub returns-clause-kept : goal.returns-clause-kept
returns-clause-kept c line e =
    let seen : record { most = c.self.inside.most; bytes = c.self.inside.bytes.items; blank = c.self.inside.blank } ≡ c.args.self.now = c.self.view_is in
    let front = subst (λ (v : LinePrefix). v ≡ prefix_of v.most line) (sym seen) e in
    let count : c.len.result ≡ length c.self.inside.bytes.items = omega arith in
    rw (← seen, c.is_blank.ensures) (front_goes_on _ line c.args.bytes.now _ c.min-room.result front (rw count at c.min-room.ensures) c.in_ok-extend_from_slice.ensures.items)
