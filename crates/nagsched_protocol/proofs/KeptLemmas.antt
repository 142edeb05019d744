-- What is kept of a line says what the line does.
use Rattle.std.proofs.Common.{◌≡◌, ℕ, ◌<◌, ◌≤◌, Bool, true, false, List, [], ◌++◌, length, take, Option, None, Some, Result, Ok, Err, refl, sym, ap, ◌∙◌}
use Rattle.std.proofs.Common.{arith, length-take, length-append, inl, inr, ◌⊎◌, append-nil}
use Rattle.std.specs.Prelude.{cond, nat_lt, option_map}
use Rattle.std.proofs.lemmas.Bool.{cases_lt}
use Rattle.std.proofs.lemmas.Bool.Decides.{nat_tests}
use Rattle.std.proofs.lemmas.List.{take_all}
use Rattle.serde_json.specs.Data.{Items}
use Rattle.check_objects.specs.Setup.{setup_of}
use Rattle.setup_model.specs.Agreement.{IsExpectedError, ◌>>=◌}
use Rattle.setup_model.specs.declared.error.LoadError.TheVariants as load
use Rattle.nagsched_protocol.specs.Input.{first_line_of}
use Rattle.nagsched_protocol.specs.Line.{command_of, is_blank}
use Rattle.nagsched_protocol.specs.LiveInput.{LinePrefix, prefix_of, has_feed, line_meaning_by}
use Rattle.nagsched_protocol.specs.declared.line.TheConstants.{MAX_LINE_BYTES}
use Rattle.nagsched_protocol.specs.declared.line_reader.TheConstants.{LINE_PREFIX_BYTES, SETUP_PREFIX_BYTES}
use Rattle.nagsched_protocol.specs.declared.refusal.InputRefusal.{InputRefusal}
use Rattle.nagsched_protocol.specs.declared.refusal.InputRefusal.TheVariants as refusal
use Rattle.nagsched_protocol.specs.declared.refusal.LineFault.{LineFault}
use Rattle.nagsched_protocol.specs.declared.refusal.LineFault.TheVariants as fault
use Rattle.nagsched_protocol.specs.declared.answer_form.AnswerForm.{AnswerForm}
use Rattle.nagsched_protocol.specs.declared.answer_form.AnswerForm.TheVariants as forms
use Rattle.nagsched_protocol.specs.declared.command.RunCommand.{RunCommand}
use Rattle.check_objects.specs.Configuration.{Configuration}
use Rattle.nagsched_protocol.specs.Command.{command_by}
use Rattle.nagsched_protocol.specs.Explanation.{sentence}
use Rattle.nagsched_protocol.specs.Forms.{refusal_text}
use Rattle.nagsched_protocol.specs.JsonText.{json_answer_line, refusal_answer}
use Rattle.nagsched_protocol.specs.LiveText.{line_meaning, plain}
use Rattle.nagsched_protocol.specs.Request.{id_of_line, request_by, without_id}
use Rattle.nagsched_protocol.proofs.LiveInputLemmas.{first_all, first_on, first_stays}

-- ---- a command

kept_command_by : {K : Type 0} (meaning : List ℕ → Items → Result K LineFault) (n : ℕ) (line : List ℕ)
    → (MAX_LINE_BYTES < length line) ⊎ (length line ≤ MAX_LINE_BYTES)
    → command_of meaning n (take LINE_PREFIX_BYTES line) ≡ command_of meaning n line
unfolding command_of
kept_command_by meaning n line (inl h) =
    let a : nat_lt MAX_LINE_BYTES (length line) ≡ true = grind (arith, nat_tests, h) in
    let l = length-take LINE_PREFIX_BYTES line in
    let b : nat_lt MAX_LINE_BYTES (length (take LINE_PREFIX_BYTES line)) ≡ true = grind (arith, nat_tests, h, l) in
    rw (a, b) refl
kept_command_by meaning n line (inr h) = let e = take_all LINE_PREFIX_BYTES line (omega arith) in rw e refl

kept_command : {K : Type 0} (meaning : List ℕ → Items → Result K LineFault) (n : ℕ) (line : List ℕ)
    → command_of meaning n (take LINE_PREFIX_BYTES line) ≡ command_of meaning n line
kept_command meaning n line = kept_command_by meaning n line (cases_lt MAX_LINE_BYTES (length line))

-- ---- what a line says

pub kept_blank : (kept : LinePrefix) (line : List ℕ) (blank : Bool) → kept ≡ prefix_of LINE_PREFIX_BYTES line → kept.blank ≡ blank → is_blank line ≡ blank
kept_blank kept line blank k e = sym (ap (λ (x : LinePrefix). x.blank) k) ∙ e

pub kept_bytes : (kept : LinePrefix) (line : List ℕ) → kept ≡ prefix_of LINE_PREFIX_BYTES line → kept.bytes ≡ take LINE_PREFIX_BYTES line
kept_bytes kept line k = ap (λ (x : LinePrefix). x.bytes) k

pub said_command : {K : Type 0} (meaning : List ℕ → Items → Result K LineFault) (n : ℕ) (kept : LinePrefix) (line : List ℕ) (x : K)
    → kept ≡ prefix_of LINE_PREFIX_BYTES line → kept.blank ≡ false → command_of meaning n kept.bytes ≡ Ok x → line_meaning_by meaning n line ≡ Ok (Some x)
said_command meaning n kept line x k e f =
    let b = kept_blank kept line false k e in
    let c : command_of meaning n line ≡ Ok x = sym (ap (command_of meaning n) (kept_bytes kept line k) ∙ kept_command meaning n line) ∙ f in
    rw (b, c) refl

fails_by : {A B : Type 0} (o : Option InputRefusal) (r : Result A InputRefusal) (f : A → Result B InputRefusal) → IsExpectedError o r → IsExpectedError o (r >>= f)
fails_by None r f h = tt
fails_by (Some why) r f h = rw h refl

pub said_fails : {K : Type 0} (meaning : List ℕ → Items → Result K LineFault) (n : ℕ) (kept : LinePrefix) (line : List ℕ) (o : Option InputRefusal)
    → kept ≡ prefix_of LINE_PREFIX_BYTES line → kept.blank ≡ false → IsExpectedError o (command_of meaning n kept.bytes) → IsExpectedError o (line_meaning_by meaning n line)
said_fails meaning n kept line o k e f =
    let b = kept_blank kept line false k e in
    let c : command_of meaning n kept.bytes ≡ command_of meaning n line = ap (command_of meaning n) (kept_bytes kept line k) ∙ kept_command meaning n line in
    rw b (fails_by o (command_of meaning n line) (λ x. Ok (Some x)) (rw c at f))

-- ---- a refused line

long_command : {K : Type 0} (meaning : List ℕ → Items → Result K LineFault) (n : ℕ) (line : List ℕ)
    → MAX_LINE_BYTES < length line → command_of meaning n line ≡ Err (refusal.Line fault.TooLong n)
unfolding command_of
long_command meaning n line h = let a : nat_lt MAX_LINE_BYTES (length line) ≡ true = grind (arith, nat_tests, h) in rw a refl

long_by : {K : Type 0} (blank : Bool) (r : Result K InputRefusal) (long why : InputRefusal) → r ≡ Err long
    → cond blank (Ok None) (r >>= λ x. Ok (Some x)) ≡ Err why → why ≡ long
long_by true r long why e f = cc
long_by false (Ok x) long why e f = cc
long_by false (Err other) long why e f = cc

long_line : {K : Type 0} (meaning : List ℕ → Items → Result K LineFault) (n : ℕ) (line : List ℕ) (why : InputRefusal)
    → MAX_LINE_BYTES < length line → line_meaning_by meaning n line ≡ Err why → why ≡ refusal.Line fault.TooLong n
long_line meaning n line why h e = long_by (is_blank line) (command_of meaning n line) (refusal.Line fault.TooLong n) why (long_command meaning n line h) e

long_plain : (r : Result (Option RunCommand) InputRefusal) (why : InputRefusal) → plain r ≡ Err why → r ≡ Err why
long_plain (Ok x) why e = cc
long_plain (Err other) why e = cc

long_meaning : (form : AnswerForm) (c : Configuration) (n : ℕ) (line : List ℕ) (why : InputRefusal)
    → MAX_LINE_BYTES < length line → line_meaning form c n line ≡ Err why → why ≡ refusal.Line fault.TooLong n
long_meaning forms.Words c n line why h e = long_line (command_by c) n line why h (long_plain (line_meaning_by (command_by c) n line) why e)
long_meaning forms.Explained c n line why h e = long_line (command_by c) n line why h (long_plain (line_meaning_by (command_by c) n line) why e)
long_meaning forms.Json c n line why h e = long_line (request_by c) n line why h e

no_id : (line : List ℕ) → MAX_LINE_BYTES < length line → id_of_line line ≡ None
unfolding id_of_line
no_id line h = let a : nat_lt MAX_LINE_BYTES (length line) ≡ true = grind (arith, nat_tests, h) in rw a refl

-- the refusal of a line that is too long says nothing of its bytes
long_refusal : (form : AnswerForm) (n : ℕ) (line other : List ℕ) → MAX_LINE_BYTES < length line → MAX_LINE_BYTES < length other
    → refusal_text form line (refusal.Line fault.TooLong n) ≡ refusal_text form other (refusal.Line fault.TooLong n)
unfolding sentence
long_refusal forms.Words n line other h g = refl
long_refusal forms.Explained n line other h g = refl
long_refusal forms.Json n line other h g =
    ap (λ id. json_answer_line n id (refusal_answer line (refusal.Line fault.TooLong n))) (no_id line h ∙ sym (no_id other g))

kept_refusal_by : (form : AnswerForm) (c : Configuration) (n : ℕ) (line : List ℕ) (why : InputRefusal)
    → (MAX_LINE_BYTES < length line) ⊎ (length line ≤ MAX_LINE_BYTES) → line_meaning form c n line ≡ Err why
    → refusal_text form (take LINE_PREFIX_BYTES line) why ≡ refusal_text form line why
kept_refusal_by form c n line why (inl h) e =
    let l = length-take LINE_PREFIX_BYTES line in
    rw (long_meaning form c n line why h e) (long_refusal form n (take LINE_PREFIX_BYTES line) line (omega (arith, h, l)) h)
kept_refusal_by form c n line why (inr h) e = ap (λ l. refusal_text form l why) (take_all LINE_PREFIX_BYTES line (omega arith))

-- what is kept of a refused line says how it is refused
pub kept_refusal : (form : AnswerForm) (c : Configuration) (n : ℕ) (line : List ℕ) (why : InputRefusal) → line_meaning form c n line ≡ Err why
    → refusal_text form (take LINE_PREFIX_BYTES line) why ≡ refusal_text form line why
kept_refusal form c n line why e = kept_refusal_by form c n line why (cases_lt MAX_LINE_BYTES (length line)) e

-- ---- a request

-- the request of a command that was read, or its refusal
pub plain_read : (r : Result (Option RunCommand) InputRefusal) (command : Option RunCommand) → r ≡ Ok command
    → plain r ≡ Ok (option_map without_id command)
plain_read r command e = rw e refl

pub plain_fails : (o : Option InputRefusal) (r : Result (Option RunCommand) InputRefusal) → IsExpectedError o r → IsExpectedError o (plain r)
plain_fails None r h = tt
plain_fails (Some why) r h = rw h refl

-- ---- a setup

-- a document with more bytes than it may have
pub too_long : (line : List ℕ) → 16777216 < length line → setup_of line ≡ Err load.TooLong
unfolding setup_of
too_long line h =
    let a : nat_lt 16777216 (length line) ≡ true = grind (arith, nat_tests, h) in
    rw a refl

kept_setup_by : (line : List ℕ) → (16777216 < length line) ⊎ (length line ≤ 16777216) → setup_of (take SETUP_PREFIX_BYTES line) ≡ setup_of line
kept_setup_by line (inl h) =
    let l = length-take SETUP_PREFIX_BYTES line in
    too_long (take SETUP_PREFIX_BYTES line) (omega (arith, h, l)) ∙ sym (too_long line h)
kept_setup_by line (inr h) = ap setup_of (take_all SETUP_PREFIX_BYTES line (omega (arith, h)))

pub kept_setup : (line : List ℕ) → setup_of (take SETUP_PREFIX_BYTES line) ≡ setup_of line
kept_setup line = kept_setup_by line (cases_lt 16777216 (length line))

-- What comes later says nothing of a document's line: where its line feed came, or more bytes of it than a document may have, or nothing
-- does come.
pub line_stays : {A : Type 0} (says : List ℕ → A) (long : A) → ((line : List ℕ) → 16777216 < length line → says line ≡ long) → (bytes_read more : List ℕ)
    → (has_feed bytes_read ≡ true) ⊎ ((has_feed bytes_read ≡ false) × ((more ≡ []) ⊎ (16777217 ≤ length bytes_read)))
    → says (first_line_of (bytes_read ++ more)) ≡ says (first_line_of bytes_read)
line_stays says long same bytes_read more (inl feed) = ap says (first_stays bytes_read more feed)
line_stays says long same bytes_read more (inr (free, inl none)) = ap (λ l. says (first_line_of l)) (ap (λ l. bytes_read ++ l) none ∙ append-nil bytes_read)
line_stays says long same bytes_read more (inr (free, inr many)) =
    let all = ap length (first_all bytes_read free) in
    let front = ap length (first_on bytes_read more free) in
    let more' = length-append bytes_read (first_line_of more) in
    same (first_line_of (bytes_read ++ more)) (omega (arith, many, front, more')) ∙ sym (same (first_line_of bytes_read) (omega (arith, many, all)))

pub setup_stays : (bytes_read more : List ℕ) → (has_feed bytes_read ≡ true) ⊎ ((has_feed bytes_read ≡ false) × ((more ≡ []) ⊎ (SETUP_PREFIX_BYTES ≤ length bytes_read)))
    → setup_of (first_line_of (bytes_read ++ more)) ≡ setup_of (first_line_of bytes_read)
setup_stays bytes_read more h = line_stays setup_of (Err load.TooLong) too_long bytes_read more h
