-- Laws of the text of a conversation.
use Rattle.std.proofs.Common.{◌≡◌, ℕ, suc, ◌+◌, ◌==◌, Bool, true, false, cond, List, [], ◌∷◌, ◌++◌, length, Option, Some, None, Result, Ok, Err, refl, sym, ap}
use Rattle.std.proofs.Common.{◌∙◌}
use Rattle.std.proofs.Common.{arith, append_assoc, append-nil, inl, inr, subst}
use Rattle.std.specs.Prelude.{nat_lt}
use Rattle.check_objects.specs.Configuration.{Configuration}
use Rattle.check_objects.specs.Setup.{setup_of}
use Rattle.setup_model.specs.Agreement.{◌>>=◌}
use Rattle.check_saved_state.specs.Saved.{Saved}
use Rattle.check_saved_state.specs.Text.{saved_of_text}
use Rattle.check_sched.specs.Saved.{state_after_resume}
use Rattle.check_sched.specs.State.{State, opening}
use Rattle.nagsched_protocol.specs.declared.answer_form.AnswerForm.{AnswerForm}
use Rattle.nagsched_protocol.specs.declared.answer_form.AnswerForm.TheVariants as forms
use Rattle.nagsched_protocol.specs.declared.command.RunCommand.{RunCommand}
use Rattle.nagsched_protocol.proofs.TextLemmas.{command_keeps}
use Rattle.nagsched_protocol.specs.declared.refusal.InputRefusal.{InputRefusal}
use Rattle.nagsched_protocol.specs.declared.refusal.InputRefusal.TheVariants as refusal
use Rattle.nagsched_protocol.specs.declared.refusal.LineFault.TheVariants as fault
use Rattle.nagsched_protocol.specs.declared.script.TheConstants.{MAX_INPUT_BYTES}
use Rattle.nagsched_protocol.specs.declared.start.Start.{Start}
use Rattle.nagsched_protocol.specs.declared.start.Start.TheVariants as start
use Rattle.nagsched_protocol.specs.Command.{command_by}
use Rattle.nagsched_protocol.specs.Input.{first_line_of, lines_of, onto_first}
use Rattle.nagsched_protocol.specs.Line.{command_of, is_blank}
use Rattle.nagsched_protocol.specs.LiveInput.{rest_after_line, has_feed, line_meaning_by}
use Rattle.nagsched_protocol.specs.Script.{Beginning, Script, beginning_of, beginning_over, commands_of_lines, with_saved_refusal, with_setup_refusal}
use Rattle.nagsched_protocol.specs.Script.{state_after_resume_at, script_from, script_of, if_within_limit}
use Rattle.nagsched_protocol.proofs.LiveInputLemmas.{behind_stays, first_stays, lines_apart}
use Rattle.nagsched_protocol.proofs.ScriptLemmas.{commands_by_number, commands_from}
use Rattle.nagsched_protocol.specs.LiveText.{BeginsWith, HasStart, line_answer, answers_from, answers_over, live_text, line_meaning, plain, state_after_line}
use Rattle.nagsched_protocol.specs.Output.{AreWholeLines}
use Rattle.nagsched_protocol.specs.Forms.{refusal_text}
use Rattle.nagsched_protocol.specs.Request.{Request}
use Rattle.nagsched_protocol.specs.Text.{answer_line, script_text, state_after_command, text, text_from}

abbrev pub script_with : State → List RunCommand → Script
script_with s all = record { state = s; commands = all }

abbrev pub begun : State → ℕ → List ℕ → Beginning
begun s n bytes = record { state = s; number = n; rest = bytes }

-- ---- an input that a run accepts

-- the commands continue with what a line says
abbrev onto : {K : Type 0} → Result (Option K) InputRefusal → Result (List K) InputRefusal → Result (List K) InputRefusal
onto (Ok None) rest = rest
onto (Ok (Some x)) rest = rest >>= λ more. Ok (x ∷ more)
onto (Err e) rest = Err e

onto_command : {K : Type 0} (r : Result K InputRefusal) (rest : Result (List K) InputRefusal)
    → (r >>= λ first. (rest >>= λ more. Ok (first ∷ more))) ≡ onto (r >>= λ x. Ok (Some x)) rest
onto_command (Ok x) rest = refl
onto_command (Err e) rest = refl

commands_said : (c : Configuration) (n : ℕ) (line : List ℕ) (lines : List (List ℕ))
    → commands_from (command_by c) n (line ∷ lines) ≡ onto (line_meaning_by (command_by c) n line) (commands_from (command_by c) (n + 1) lines)
commands_said c n line lines =
    elim (is_blank line) as (λ v. cond v (commands_from (command_by c) (n + 1) lines)
    (command_of (command_by c) n line >>= λ first. (commands_from (command_by c) (n + 1) lines >>= λ more. Ok (first ∷ more)))
    ≡ onto (cond v (Ok None) (command_of (command_by c) n line >>= λ x. Ok (Some x))) (commands_from (command_by c) (n + 1) lines)) [
      | true ↦ refl
      | false ↦ onto_command (command_of (command_by c) n line) (commands_from (command_by c) (n + 1) lines)
    ]

agree_by : (s : State) (n : ℕ) (line : List ℕ) (lines : List (List ℕ)) (said_here : Result (Option RunCommand) InputRefusal) (rest : Result (List RunCommand) InputRefusal)
    (all : List RunCommand)
    → ((t : State) (more : List RunCommand) → t.setup ≡ s.setup → rest ≡ Ok more → answers_from forms.Words t (n + 1) lines ≡ text_from t more)
    → onto said_here rest ≡ Ok all
    → line_answer forms.Words s n line (plain said_here) ++ answers_from forms.Words (state_after_line s (plain said_here)) (n + 1) lines ≡ text_from s all
agree_by s n line lines (Ok None) rest all again e = again s all refl e
agree_by s n line lines (Ok (Some call)) (Ok more) all again e =
    let same : call ∷ more ≡ all = cc in
    ap (λ l. answer_line s call ++ l) (again (state_after_command s call) more (command_keeps s call) refl) ∙ ap (text_from s) same
agree_by s n line lines (Ok (Some call)) (Err why) all again e = cc
agree_by s n line lines (Err why) rest all again e = cc

pub answers_agree : (lines : List (List ℕ)) (c : Configuration) (s : State) (n : ℕ) (all : List RunCommand) → s.setup ≡ c
    → commands_from (command_by c) n lines ≡ Ok all → answers_from forms.Words s n lines ≡ text_from s all
answers_agree [] c s n all same e = let none : [] ≡ all = cc in ap (text_from s) none
answers_agree (line ∷ lines) c s n all same e =
    agree_by s n line lines (line_meaning_by (command_by s.setup) n line) (commands_from (command_by s.setup) (n + 1) lines) all
    (λ t more kept f. answers_agree lines s.setup t (n + 1) more kept f)
    (sym (commands_said s.setup n line lines) ∙ ap (λ d. commands_from (command_by d) n (line ∷ lines)) same ∙ e)

over_commands : (b : Beginning) (script : Script) (all : Result (List RunCommand) InputRefusal)
    → commands_from (command_by b.state.setup) b.number (lines_of b.rest) ≡ all
    → (all >>= λ l. Ok (script_with b.state l)) ≡ Ok script
    → answers_from forms.Words b.state b.number (lines_of b.rest) ≡ text_from script.state script.commands
over_commands b script (Err e) same h = cc
over_commands b script (Ok l) same h =
    let is : (script_with b.state l) ≡ script = cc in
    answers_agree (lines_of b.rest) b.state.setup b.state b.number l refl same ∙ ap (λ (s : Script). text_from s.state s.commands) is

over_agrees : (r : Result Beginning InputRefusal) (script : Script) → (r >>= script_from) ≡ Ok script
    → answers_over forms.Words r ≡ text_from script.state script.commands
over_agrees (Err e) script h = cc
over_agrees (Ok b) script h =
    over_commands b script (commands_of_lines b.number (command_by b.state.setup) (lines_of b.rest))
    (sym (commands_by_number (command_by b.state.setup) b.number (lines_of b.rest))) h

accepted_by : {X : Type 0} (long : Bool) (r : Result X InputRefusal) (script : X)
    → cond long (Err (refusal.Line fault.TooLong 0)) r ≡ Ok script → r ≡ Ok script
accepted_by true r script e = cc
accepted_by false r script e = e

-- what is accepted is within the limit
pub accepted : (how : Start) (input : List ℕ) (script : Script) → script_of how input ≡ Ok script → (beginning_of how input >>= script_from) ≡ Ok script
unfolding script_of
accepted how input script e = accepted_by (nat_lt MAX_INPUT_BYTES (length input)) (beginning_of how input >>= script_from) script e

run_text : (how : Start) (input : List ℕ) (script : Script) → script_of how input ≡ Ok script → text how input ≡ text_from script.state script.commands
unfolding text
run_text how input script e = ap script_text e

pub agrees : (how : Start) (input : List ℕ) (script : Script) → script_of how input ≡ Ok script → live_text forms.Words how input ≡ text how input
unfolding live_text
agrees how input script e = over_agrees (beginning_of how input) script (accepted how input script e) ∙ sym (run_text how input script e)

-- ---- the start

-- a script's state is that of its beginning
behind_state : (b : Beginning) (all : Result (List RunCommand) InputRefusal) (script : Script)
    → (all >>= λ l. Ok (script_with b.state l)) ≡ Ok script → script.state ≡ b.state
behind_state b (Ok l) script h = let is : script ≡ (script_with b.state l) = cc in ap (λ (s : Script). s.state) is
behind_state b (Err e) script h = cc

resumed_state : (moment : Option ℕ) (input : List ℕ) (setup : Configuration) (saved : Saved) (script : Script) → BeginsWith input setup saved
    → script_of (start.Resumed moment) input ≡ Ok script → script.state ≡ state_after_resume_at setup saved moment
resumed_state moment input setup saved script w e =
    let b = begun (state_after_resume_at setup saved moment) 3 (rest_after_line (rest_after_line input)) in
    let begins : beginning_of (start.Resumed moment) input ≡ Ok b =
    ap (λ r. with_setup_refusal r >>= λ c. beginning_over (start.Resumed moment) c (rest_after_line input)) w.document
    ∙ ap (λ r. with_saved_refusal r >>= λ s. Ok (begun (state_after_resume_at setup s moment) 3 (rest_after_line (rest_after_line input)))) w.text in
    behind_state b (commands_of_lines 3 (command_by b.state.setup) (lines_of b.rest)) script
    (sym (ap (λ r. r >>= script_from) begins) ∙ accepted (start.Resumed moment) input script e)

pub given_start : (moment : ℕ) (input : List ℕ) (setup : Configuration) (saved : Saved) (script : Script) → BeginsWith input setup saved
    → script_of (start.Resumed (Some moment)) input ≡ Ok script
    → text (start.Resumed (Some moment)) input ≡ text_from (state_after_resume setup saved moment) script.commands
given_start moment input setup saved script w e =
    run_text (start.Resumed (Some moment)) input script e
    ∙ ap (λ s. text_from s script.commands) (resumed_state (Some moment) input setup saved script w e)

pub start_replaced : (moment : ℕ) (input other : List ℕ) (setup : Configuration) (saved : Saved) (script there : Script)
    → BeginsWith input setup saved → BeginsWith other setup (record saved { start = moment })
    → script_of (start.Resumed (Some moment)) input ≡ Ok script → script_of (start.Resumed None) other ≡ Ok there → there.commands ≡ script.commands
    → text (start.Resumed None) other ≡ text (start.Resumed (Some moment)) input
start_replaced moment input other setup saved script there w v e f same =
    run_text (start.Resumed None) other there f
    ∙ ap (λ s. text_from s there.commands) (resumed_state None other setup (record saved { start = moment }) there v f)
    ∙ ap (text_from (state_after_resume setup saved moment)) same ∙ sym (given_start moment input setup saved script w e)

-- ---- what comes later

-- some line, and others after it
some_lines : (bs : List ℕ) → (line : List ℕ) × (lines : List (List ℕ)) × (lines_of (bs ++ 10 ∷ []) ≡ line ∷ lines)
some_lines [] = ([], [], refl)
some_lines (b ∷ bs) = (_, _, lines_apart b (bs ++ 10 ∷ []))

onto_more : (b : ℕ) (ls ms : List (List ℕ)) (l : List ℕ) (rest : List (List ℕ)) → ls ≡ l ∷ rest → onto_first b (ls ++ ms) ≡ onto_first b ls ++ ms
onto_more b ls ms l rest e = rw e refl

lines_of-whole : (front back : List ℕ) → lines_of ((front ++ 10 ∷ []) ++ back) ≡ lines_of (front ++ 10 ∷ []) ++ lines_of back
lines_of-whole [] back = refl
lines_of-whole (b ∷ bs) back =
    let again = lines_of-whole bs back in
    let some = some_lines bs in
    elim (b == 10) as (λ v. cond v ([] ∷ lines_of ((bs ++ 10 ∷ []) ++ back)) (onto_first b (lines_of ((bs ++ 10 ∷ []) ++ back)))
    ≡ cond v ([] ∷ lines_of (bs ++ 10 ∷ [])) (onto_first b (lines_of (bs ++ 10 ∷ []))) ++ lines_of back) [
      | true ↦ ap (λ l. [] ∷ l) again
      | false ↦ ap (onto_first b) again ∙ onto_more b (lines_of (bs ++ 10 ∷ [])) (lines_of back) some.0 some.1 some.2
    ]

-- what comes after line 1 of whole lines is whole lines, or nothing
pub behind_whole : (front : List ℕ) → AreWholeLines (rest_after_line (front ++ 10 ∷ []))
behind_whole [] = inl refl
behind_whole (b ∷ bs) =
    elim (b == 10) as (λ v. AreWholeLines (cond v (bs ++ 10 ∷ []) (rest_after_line (bs ++ 10 ∷ [])))) [
      | true ↦ inr (bs, refl)
      | false ↦ behind_whole bs
    ]

pub lines_by : (bytes back : List ℕ) → AreWholeLines bytes → lines_of (bytes ++ back) ≡ lines_of bytes ++ lines_of back
lines_by bytes back (inl e) = rw e refl
lines_by bytes back (inr (xs, e)) = rw e (lines_of-whole xs back)

pub feed_last : (front : List ℕ) → has_feed (front ++ 10 ∷ []) ≡ true
feed_last [] = refl
feed_last (b ∷ bs) = elim (b == 10) as (λ v. cond v true (has_feed (bs ++ 10 ∷ [])) ≡ true) [
  | true ↦ refl
  | false ↦ feed_last bs
]

pub answers_apart : (form : AnswerForm) (s : State) (n : ℕ) (xs ys : List (List ℕ)) → (rest : List ℕ) × (answers_from form s n (xs ++ ys) ≡ answers_from form s n xs ++ rest)
answers_apart form s n [] ys = (answers_from form s n ys, refl)
answers_apart form s n (x ∷ xs) ys =
    let r = line_meaning form s.setup n x in
    let again = answers_apart form (state_after_line s r) (n + 1) xs ys in
    let first = line_answer form s n x r in
    (again.0, ap (λ l. first ++ l) again.1 ∙ sym (append_assoc first _ again.0))

-- a beginning with more bytes after it
abbrev more : List ℕ → Result Beginning InputRefusal → Result Beginning InputRefusal
more back (Ok b) = Ok (record b { rest = b.rest ++ back })
more back (Err e) = Err e

saved_more : (moment : Option ℕ) (c : Configuration) (r : Result Saved InputRefusal) (rest back : List ℕ)
    → (r >>= λ s. Ok (begun (state_after_resume_at c s moment) 3 (rest ++ back)))
    ≡ more back (r >>= λ s. Ok (begun (state_after_resume_at c s moment) 3 rest))
saved_more moment c (Ok s) rest back = refl
saved_more moment c (Err e) rest back = refl

over_more : (how : Start) (c : Configuration) (bytes back : List ℕ) → HasStart how bytes
    → beginning_over how c (bytes ++ back) ≡ more back (beginning_over how c bytes)
over_more (start.Fresh moment) c bytes back h = refl
over_more (start.Resumed moment) c bytes back h =
    ap (λ l. with_saved_refusal (saved_of_text l) >>= λ s. Ok (begun (state_after_resume_at c s moment) 3 (rest_after_line (bytes ++ back)))) (first_stays bytes back h)
    ∙ ap (λ l. with_saved_refusal (saved_of_text (first_line_of bytes)) >>= λ s. Ok (begun (state_after_resume_at c s moment) 3 l)) (behind_stays bytes back h)
    ∙ saved_more moment c (with_saved_refusal (saved_of_text (first_line_of bytes))) (rest_after_line bytes) back

setup_more : (how : Start) (setup : Result Configuration InputRefusal) (bytes back : List ℕ) → HasStart how bytes
    → (setup >>= λ c. beginning_over how c (bytes ++ back)) ≡ more back (setup >>= λ c. beginning_over how c bytes)
setup_more how (Ok c) bytes back h = over_more how c bytes back h
setup_more how (Err e) bytes back h = refl

-- the beginning of whole lines and of what comes later
begins_on : (how : Start) (front back : List ℕ) → HasStart how (rest_after_line (front ++ 10 ∷ []))
    → beginning_of how ((front ++ 10 ∷ []) ++ back) ≡ more back (beginning_of how (front ++ 10 ∷ []))
begins_on how front back h =
    let whole = front ++ 10 ∷ [] in
    let feed = feed_last front in
    ap (λ l. with_setup_refusal (setup_of l) >>= λ c. beginning_over how c (rest_after_line (whole ++ back))) (first_stays whole back feed)
    ∙ ap (λ l. with_setup_refusal (setup_of (first_line_of whole)) >>= λ c. beginning_over how c l) (behind_stays whole back feed)
    ∙ setup_more how (with_setup_refusal (setup_of (first_line_of whole))) (rest_after_line whole) back h

behind_two : (bytes : List ℕ) → AreWholeLines bytes → AreWholeLines (rest_after_line bytes)
behind_two bytes (inl none) = rw none (inl refl)
behind_two bytes (inr (xs, e)) = subst (λ l. AreWholeLines (rest_after_line l)) (sym e) (behind_whole xs)

first_apart : (bytes : List ℕ) → has_feed bytes ≡ true → length (lines_of bytes) ≡ suc (length (lines_of (rest_after_line bytes)))
first_apart [] feed = cc
first_apart (b ∷ bs) feed = ap length (lines_apart b bs)

-- What is left after whole lines: whole lines, the first of which has the beginning's number.
record IsLeft (b : Beginning) (lines : ℕ) : Type 0 where
  whole : AreWholeLines b.rest
  count : b.number + length (lines_of b.rest) ≡ lines

saved_left : (moment : Option ℕ) (c : Configuration) (r : Result Saved InputRefusal) (bytes : List ℕ) (b : Beginning) → has_feed bytes ≡ true
    → AreWholeLines bytes
    → (r >>= λ s. Ok (begun (state_after_resume_at c s moment) 3 (rest_after_line bytes))) ≡ Ok b
    → IsLeft b (length (lines_of bytes) + 2)
saved_left moment c (Err e) bytes b feed whole h = cc
saved_left moment c (Ok s) bytes b feed whole h =
    let d = begun (state_after_resume_at c s moment) 3 (rest_after_line bytes) in
    let is : d ≡ b = cc in
    let first = first_apart bytes feed in
    rw (← is) (record { whole = behind_two bytes whole; count = omega (arith, first) })

over_left : (how : Start) (c : Configuration) (bytes : List ℕ) (b : Beginning) → HasStart how bytes → AreWholeLines bytes
    → beginning_over how c bytes ≡ Ok b → IsLeft b (length (lines_of bytes) + 2)
over_left (start.Fresh moment) c bytes b start whole h =
    let d = begun (opening c moment) 2 bytes in
    let is : d ≡ b = cc in
    rw (← is) (record { whole = whole; count = omega arith })
over_left (start.Resumed moment) c bytes b start whole h = saved_left moment c (with_saved_refusal (saved_of_text (first_line_of bytes))) bytes b start whole h

setup_left : (how : Start) (setup : Result Configuration InputRefusal) (bytes : List ℕ) (b : Beginning) → HasStart how bytes → AreWholeLines bytes
    → (setup >>= λ c. beginning_over how c bytes) ≡ Ok b → IsLeft b (length (lines_of bytes) + 2)
setup_left how (Ok c) bytes b start whole h = over_left how c bytes b start whole h
setup_left how (Err e) bytes b start whole h = cc

left_by : (how : Start) (front : List ℕ) (b : Beginning) → HasStart how (rest_after_line (front ++ 10 ∷ []))
    → beginning_of how (front ++ 10 ∷ []) ≡ Ok b → IsLeft b (length (lines_of (rest_after_line (front ++ 10 ∷ []))) + 2)
left_by how front b start h =
    setup_left how (with_setup_refusal (setup_of (first_line_of (front ++ 10 ∷ [])))) (rest_after_line (front ++ 10 ∷ [])) b start (behind_whole front) h

-- the text of whole lines and of what comes later
parts : (form : AnswerForm) (how : Start) (front back : List ℕ) (b : Beginning) → HasStart how (rest_after_line (front ++ 10 ∷ []))
    → beginning_of how (front ++ 10 ∷ []) ≡ Ok b
    → live_text form how ((front ++ 10 ∷ []) ++ back) ≡ answers_from form b.state b.number (lines_of b.rest ++ lines_of back)
unfolding live_text
parts form how front back b h e =
    ap (answers_over form) (begins_on how front back h ∙ ap (more back) e)
    ∙ ap (answers_from form b.state b.number) (lines_by b.rest back (left_by how front b h e).whole)

goes_on_by : (form : AnswerForm) (how : Start) (front back : List ℕ) (r : Result Beginning InputRefusal) → HasStart how (rest_after_line (front ++ 10 ∷ []))
    → beginning_of how (front ++ 10 ∷ []) ≡ r
    → (rest : List ℕ) × (live_text form how ((front ++ 10 ∷ []) ++ back) ≡ answers_over form r ++ rest)
unfolding live_text
goes_on_by form how front back (Ok b) h e =
    let apart = answers_apart form b.state b.number (lines_of b.rest) (lines_of back) in
    (apart.0, parts form how front back b h e ∙ apart.1)
goes_on_by form how front back (Err why) h e = ([], ap (answers_over form) (begins_on how front back h ∙ ap (more back) e) ∙ sym (append-nil _))

pub goes_on : (form : AnswerForm) (how : Start) (front back : List ℕ) → HasStart how (rest_after_line (front ++ 10 ∷ []))
    → (rest : List ℕ) × (live_text form how ((front ++ 10 ∷ []) ++ back) ≡ live_text form how (front ++ 10 ∷ []) ++ rest)
unfolding live_text
goes_on form how front back h = goes_on_by form how front back (beginning_of how (front ++ 10 ∷ [])) h refl

-- ---- a refused line

state_after-setup : (s : State) (r : Result (Option Request) InputRefusal) → (state_after_line s r).setup ≡ s.setup
state_after-setup s (Ok None) = refl
state_after-setup s (Ok (Some request)) = command_keeps s request.command
state_after-setup s (Err why) = refl

no_meaning : (form : AnswerForm) (c : Configuration) (n : ℕ) → line_meaning form c n [] ≡ Ok None
no_meaning forms.Words c n = refl
no_meaning forms.Explained c n = refl
no_meaning forms.Json c n = refl

-- the same answers except for that of the refused line
abbrev pub Passes : AnswerForm → List ℕ → List ℕ → List ℕ → InputRefusal → Type 0
Passes form line refused passed why =
    (before : List ℕ) × (behind : List ℕ) × (refused ≡ before ++ (refusal_text form line why ++ behind)) × (passed ≡ before ++ behind)

pub passes_in : (form : AnswerForm) (xs : List (List ℕ)) (s : State) (n : ℕ) (line : List ℕ) (ys : List (List ℕ)) (why : InputRefusal)
    → line_meaning form s.setup (n + length xs) line ≡ Err why
    → Passes form line (answers_from form s n (xs ++ line ∷ ys)) (answers_from form s n (xs ++ [] ∷ ys)) why
passes_in form [] s n line ys why e =
    let here : line_meaning form s.setup n line ≡ Err why = ap (λ k. line_meaning form s.setup k line) (let z : n ≡ n + 0 = omega arith in z) ∙ e in (
      [],
      answers_from form s (n + 1) ys,
      ap (λ r. line_answer form s n line r ++ answers_from form (state_after_line s r) (n + 1) ys) here,
      ap (λ r. line_answer form s n [] r ++ answers_from form (state_after_line s r) (n + 1) ys) (no_meaning form s.setup n),
    )
passes_in form (x ∷ xs) s n line ys why e =
    let r = line_meaning form s.setup n x in
    let first = line_answer form s n x r in
    let kept = state_after-setup s r in
    let there = ap (λ k. line_meaning form s.setup k line) (let z : n + 1 + length xs ≡ n + suc (length xs) = omega arith in z) ∙ e in
    let again = passes_in form xs (state_after_line s r) (n + 1) line ys why (ap (λ c. line_meaning form c (n + 1 + length xs) line) kept ∙ there) in
    (first ++ again.0, again.1, ap (λ l. first ++ l) again.2 ∙ sym (append_assoc first again.0 _), ap (λ l. first ++ l) again.3 ∙ sym (append_assoc first again.0 again.1))

-- a line without a line feed, and those after it
pub line_first : (line back : List ℕ) → has_feed line ≡ false → lines_of (line ++ 10 ∷ back) ≡ line ∷ lines_of back
line_first [] back h = refl
line_first (b ∷ bs) back h =
    (elim (b == 10) as (λ v. cond v true (has_feed bs) ≡ false
    → cond v ([] ∷ lines_of (bs ++ 10 ∷ back)) (onto_first b (lines_of (bs ++ 10 ∷ back))) ≡ (b ∷ bs) ∷ lines_of back) [
      | true ↦ λ k. cc
      | false ↦ λ k. ap (onto_first b) (line_first bs back k)
    ]) h

-- how many lines there are
pub count_apart : (front : List ℕ) → length (lines_of (front ++ 10 ∷ [])) ≡ suc (length (lines_of (rest_after_line (front ++ 10 ∷ []))))
count_apart [] = ap length (lines_apart 10 [])
count_apart (b ∷ bs) = ap length (lines_apart b (bs ++ 10 ∷ []))

pub passes : (form : AnswerForm) (how : Start) (b : Beginning) (front line back : List ℕ) (why : InputRefusal)
    → HasStart how (rest_after_line (front ++ 10 ∷ [])) → beginning_of how (front ++ 10 ∷ []) ≡ Ok b → has_feed line ≡ false
    → line_meaning form b.state.setup (length (lines_of (front ++ 10 ∷ [])) + 1) line ≡ Err why
    → Passes form line (live_text form how ((front ++ 10 ∷ []) ++ (line ++ 10 ∷ back))) (live_text form how ((front ++ 10 ∷ []) ++ (10 ∷ back))) why
passes form how b front line back why h s free e =
    let xs = lines_of b.rest in
    let left = left_by how front b h s in
    let number : b.number + length xs ≡ length (lines_of (front ++ 10 ∷ [])) + 1 = omega (arith, count_apart front, left.count) in
    let p = passes_in form xs b.state b.number line (lines_of back) why (ap (λ k. line_meaning form b.state.setup k line) number ∙ e) in (
      p.0,
      p.1,
      parts form how front (line ++ 10 ∷ back) b h s ∙ ap (λ l. answers_from form b.state b.number (xs ++ l)) (line_first line back free) ∙ p.2,
      parts form how front (10 ∷ back) b h s ∙ p.3,
    )
