use Rattle.std.proofs.Common.{◌≡◌, ◌++◌, ◌∷◌, [], List, ℕ, ap, refl, ◌∙◌}
use Rattle.std.specs.Prelude.{string_bytes}
use Rattle.setup_model.specs.Fault.{load_error, view_of}
use Rattle.nagsched_protocol.specs.declared.refusal.InputRefusal.TheVariants as refusal
use Rattle.nagsched_protocol.specs.Text.{refusal_line}
use Rattle.nagsched_jobs.proofs.CheckLemmas.{two_lines}
use Rattle.nagsched_jobs.proofs.check.render_refusal.Goals as goal

pub returns : goal.returns
returns c =
    let words = string_bytes c.in_ok-words.words in
    let line = refusal_line (refusal.Setup (load_error (view_of c.args.fault))) in
    let first : string_bytes c.push_refusal.new.line ≡ string_bytes c.new-text.result ++ line =
    c.in_ok-push_refusal.ensures ∙ ap (λ e. string_bytes c.new-text.result ++ refusal_line (refusal.Setup e)) c.from.ensures in
    let second : string_bytes c.push_str.new.self ≡ string_bytes c.push_refusal.new.line ++ words =
    c.in_ok-push_str.ensures.bytes ∙ ap (λ (w : List ℕ). string_bytes c.push_refusal.new.line ++ w) c.as_str.ensures.value in
    let all : c.into_bytes.result.items ≡ line ++ (words ++ 10 ∷ []) =
    ap (λ v. v.items) c.into_bytes.ensures.value
    ∙ two_lines line words (string_bytes c.new-text.result) (string_bytes c.push_refusal.new.line) (string_bytes c.push_str.new.self)
    (string_bytes c.push_str-2.new.self) c.new-text.ensures.bytes first second c.in_ok-push_str-2.ensures.bytes in
    ((words, c.in_ok-words.ensures.line, c.in_ok-words.ensures.text, all), refl)
