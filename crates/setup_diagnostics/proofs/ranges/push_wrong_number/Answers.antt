use Rattle.std.proofs.lemmas.Result.{on_ok_weaker}
use Rattle.setup_model.specs.Members as members
use Rattle.setup_diagnostics.specs.Ranges.{above_text, number_text}
use Rattle.setup_diagnostics.proofs.PieceLemmas.{two_pieces}
use Rattle.setup_diagnostics.proofs.ranges.push_wrong_number.Goals as goal

pub returns-in_ok-push_number-in-ServiceThresholds : goal.returns-in_ok-push_number-in-ServiceThresholds
returns-in_ok-push_number-in-ServiceThresholds c =
    rw c.in-ServiceThresholds.is (on_ok_weaker c.push_above.result (two_pieces c.args.line.now c.push_number-in-ServiceThresholds.new.line c.push_above.new.line
    (number_text members.low_service_flap_threshold c.in-ServiceThresholds.low) (above_text members.high_service_flap_threshold c.in-ServiceThresholds.high)
    c.in_ok-push_number-in-ServiceThresholds.ensures) c.push_above.ensures)

pub returns-in_ok-push_number-in-HostThresholds : goal.returns-in_ok-push_number-in-HostThresholds
returns-in_ok-push_number-in-HostThresholds c =
    rw c.in-HostThresholds.is (on_ok_weaker c.push_above-in-HostThresholds.result (two_pieces c.args.line.now c.push_number-in-HostThresholds.new.line
    c.push_above-in-HostThresholds.new.line (number_text members.low_host_flap_threshold c.in-HostThresholds.low)
    (above_text members.high_host_flap_threshold c.in-HostThresholds.high) c.in_ok-push_number-in-HostThresholds.ensures) c.push_above-in-HostThresholds.ensures)
