-- A whole conversation, and what its faults leave.
use Rattle.std.proofs.Common.{◌≡◌, ℕ, suc, ◌+◌, ◌≤◌, length-append, Bool, true, false, List, [], ◌∷◌, ◌++◌, length, Option, Some, None}
use Rattle.std.proofs.Common.{Result, Ok, Err, refl, sym, ap, ◌∙◌}
use Rattle.std.proofs.Common.{arith, inl, inr, ◌⊎◌, append_assoc, append-nil, subst}
use Rattle.std.specs.Prelude.{IfOk, IsOkUnless, OnOk, IfErr}
use Rattle.std.specs.Io.KnownBytes.{Appends, Consumes, IsAtEnd, Keeps}
use Rattle.check_objects.specs.Configuration.{Configuration}
use Rattle.check_objects.specs.Setup.{setup_of}
use Rattle.setup_model.specs.declared.error.LoadError.{LoadError}
use Rattle.check_sched.specs.State.{State}
use Rattle.nagsched_protocol.specs.declared.answer_form.AnswerForm.{AnswerForm}
use Rattle.nagsched_protocol.specs.declared.answer_form.AnswerForm.TheVariants as forms
use Rattle.nagsched_protocol.specs.Request.{Request}
use Rattle.nagsched_protocol.specs.declared.drive_error.DriveError.{DriveError}
use Rattle.nagsched_protocol.specs.declared.drive_error.DriveError.TheVariants as errors
use Rattle.nagsched_protocol.specs.declared.line_reader.TheConstants.{SETUP_PREFIX_BYTES}
use Rattle.nagsched_protocol.specs.declared.refusal.InputRefusal.{InputRefusal}
use Rattle.nagsched_protocol.specs.declared.refusal.InputRefusal.TheVariants as refusal
use Rattle.nagsched_protocol.specs.declared.refusal.ScriptError.{ScriptError}
use Rattle.nagsched_protocol.specs.declared.refusal.ScriptError.TheVariants as script
use Rattle.nagsched_protocol.specs.Agreement.{IsExpectedResult}
use Rattle.nagsched_protocol.specs.declared.live_error.LiveError.{LiveError}
use Rattle.nagsched_protocol.specs.declared.live_error.LiveError.TheVariants as live
use Rattle.nagsched_protocol.specs.LiveError.{IsLineReadingError, IsReadingError, IsWriteResult, drive_error_of, drive_result_of}
use Rattle.nagsched_protocol.specs.Input.{first_line_of, lines_of}
use Rattle.nagsched_protocol.specs.LiveInput.{rest_after_line, has_feed}
use Rattle.nagsched_protocol.specs.Script.{with_setup_refusal}
use Rattle.nagsched_protocol.proofs.LiveInputLemmas.{Consumes-none, Consumes-then, behind_none, behind_stays, feed_split, first_all, first_free, first_stays}
use Rattle.nagsched_protocol.proofs.LiveInputLemmas.{lines_apart}
use Rattle.nagsched_protocol.proofs.LiveLaws.{line_first, lines_by}
use Rattle.nagsched_protocol.proofs.KeptLemmas.{setup_stays, too_long}
use Rattle.nagsched_protocol.specs.declared.start.Start.{Start}
use Rattle.nagsched_protocol.specs.LiveText.{line_answer, answers_from, live_text, line_meaning, state_after_line}
use Rattle.nagsched_protocol.specs.Output.{AreWholeLines}
use Rattle.nagsched_protocol.proofs.OutputLemmas.{Appends-Keeps, Appends-none, Appends-trans, front_none, whole_on}
use Rattle.nagsched_protocol.proofs.TextLemmas.{answer_text_ends, refusal_text_ends}
use Rattle.nagsched_protocol.specs.Streams.{IsInput}
use Rattle.nagsched_protocol.specs.Written.{IsLineWritten, LeftOfLine}
use Rattle.nagsched_run.specs.Live.{IsSpentAfterInput, IsSpentAfterLines, HasAnsweredLines, ConversationEnded, LeavesText, LineFailed, AnsweringEnded}
use Rattle.nagsched_protocol.specs.Streams.{streams}

-- ---- what is read

-- what is left where that is known, or nothing
abbrev pub rest_of : Option (List ℕ) → List ℕ
rest_of None = []
rest_of (Some xs) = xs

pub rest_input : (left : Option (List ℕ)) → IsInput left (rest_of left)
rest_input None = tt
rest_input (Some xs) = refl

pub end_input : (left : Option (List ℕ)) → IsAtEnd left → IsInput left []
end_input None e = tt
end_input (Some xs) e = sym e

pub rest_none : (left : Option (List ℕ)) → IsAtEnd left → rest_of left ≡ []
rest_none None e = refl
rest_none (Some xs) e = e

-- the input is what was given, and then what still comes
pub input_on : (had left : Option (List ℕ)) (bytes_read coming : List ℕ) → Consumes had left bytes_read → IsInput left coming → IsInput had (bytes_read ++ coming)
input_on None left bytes_read coming h i = tt
input_on (Some a) None bytes_read coming h i = absurd h
input_on (Some a) (Some b) bytes_read coming h i = ap (λ l. bytes_read ++ l) i ∙ sym h

pub input_all : (had left : Option (List ℕ)) (bytes_read : List ℕ) → Consumes had left bytes_read → IsAtEnd left → IsInput had bytes_read
input_all had left bytes_read h e = subst (IsInput had) (append-nil bytes_read) (input_on had left bytes_read [] h (end_input left e))

-- ---- what an error leaves

pub leaves_none : (e : DriveError) (held : Option (List ℕ)) (text : List ℕ) → LeavesText e held held text
leaves_none errors.Read held text = front_none held text
leaves_none errors.Write held text = front_none held text
leaves_none errors.Memory held text = record { front = []; rest = text; parts = refl; appended = Appends-none held; whole = inl refl }

-- after whole lines that were written before
pub leaves_on : (e : DriveError) (held mid holds : Option (List ℕ)) (front rest text : List ℕ) → AreWholeLines front → Appends held mid front
    → text ≡ front ++ rest → LeavesText e mid holds rest → LeavesText e held holds text
leaves_on errors.Read held mid holds front rest text w a p (r, f) = (
  r,
  record {
    front = front ++ f.front;
    parts = p ∙ ap (λ l. front ++ l) f.parts ∙ sym (append_assoc front f.front r);
    appended = Appends-trans held mid holds front f.front a f.appended;
  },
)
leaves_on errors.Write held mid holds front rest text w a p (r, f) = (
  r,
  record {
    front = front ++ f.front;
    parts = p ∙ ap (λ l. front ++ l) f.parts ∙ sym (append_assoc front f.front r);
    appended = Appends-trans held mid holds front f.front a f.appended;
  },
)
leaves_on errors.Memory held mid holds front rest text w a p f = record {
  front = front ++ f.front;
  rest = f.rest;
  parts = p ∙ ap (λ l. front ++ l) f.parts ∙ sym (append_assoc front f.front f.rest);
  appended = Appends-trans held mid holds front f.front a f.appended;
  whole = whole_on front f.front w f.whole;
}

-- of a text that continues
pub leaves_more : (e : DriveError) (held holds : Option (List ℕ)) (text rest : List ℕ) → LeavesText e held holds text → LeavesText e held holds (text ++ rest)
leaves_more errors.Read held holds text rest (r, f) = (
  r ++ rest,
  record { front = f.front; parts = ap (λ l. l ++ rest) f.parts ∙ append_assoc f.front r rest; appended = f.appended },
)
leaves_more errors.Write held holds text rest (r, f) = (
  r ++ rest,
  record { front = f.front; parts = ap (λ l. l ++ rest) f.parts ∙ append_assoc f.front r rest; appended = f.appended },
)
leaves_more errors.Memory held holds text rest f = record {
  front = f.front;
  rest = f.rest ++ rest;
  parts = ap (λ l. l ++ rest) f.parts ∙ append_assoc f.front f.rest rest;
  appended = f.appended;
  whole = f.whole;
}

pub appended_none : (held holds : Option (List ℕ)) → Keeps held holds → Appends held holds []
appended_none held holds k = Appends-Keeps held held holds [] (Appends-none held) k

-- where the writer was left as it was before
pub leaves_before : (e : DriveError) (held mid holds : Option (List ℕ)) (text : List ℕ) → Keeps held mid → LeavesText e mid holds text
    → LeavesText e held holds text
leaves_before e held mid holds text k f = leaves_on e held mid holds [] text text (inl refl) (appended_none held mid k) refl f

pub leaves_kept : (e : DriveError) (held holds : Option (List ℕ)) (text : List ℕ) → Keeps held holds → LeavesText e held holds text
leaves_kept e held holds text k = leaves_before e held holds holds text k (leaves_none e holds text)

-- what is left of a line
pub leaves_left : (e : DriveError) (held holds : Option (List ℕ)) (line : List ℕ) → LeftOfLine e held holds line → LeavesText e held holds line
leaves_left errors.Read held holds line h = absurd h
leaves_left errors.Write held holds line h = h
leaves_left errors.Memory held holds line h = leaves_kept errors.Memory held holds line h

-- of a line of which another fault is reported
pub leaves_line : {T : Type 0} (r : Result T DriveError) (held holds : Option (List ℕ)) (line other : List ℕ) → line ≡ other
    → IsLineWritten r held holds line → IfErr r (λ e. LeavesText e held holds other)
leaves_line (Ok x) held holds line other same h = tt
leaves_line (Err e) held holds line other same h = leaves_left e held holds other (subst (LeftOfLine e held holds) same h)

-- of a line that is another's text, next to what else holds
pub line_answered : {T P : Type 0} (r : Result T DriveError) (held holds : Option (List ℕ)) (line other : List ℕ) → line ≡ other → P
    → IsLineWritten r held holds line → OnOk r (P × Appends held holds other)
line_answered (Ok x) held holds line other same p h = (p, subst (Appends held holds) same h)
line_answered (Err e) held holds line other same p h = tt

-- all of it, where the flush failed
pub leaves_all : (held mid holds : Option (List ℕ)) (text : List ℕ) → Appends held mid text → Keeps mid holds → LeavesText errors.Write held holds text
leaves_all held mid holds text a k =
    ([], record { front = text; parts = sym (append-nil text); appended = Appends-Keeps held mid holds text a k })

pub wrote_behind : (held mid holds : Option (List ℕ)) (text : List ℕ) → Keeps held mid → Appends mid holds text → Appends held holds text
wrote_behind held mid holds text k a = Appends-trans held mid holds [] text (appended_none held mid k) a

-- ---- answers

-- the answer to this line with number n, and the state after it
abbrev pub answer : AnswerForm → State → ℕ → List ℕ → List ℕ
answer form s n line = line_answer form s n line (line_meaning form s.setup n line)

abbrev pub state_after : AnswerForm → State → ℕ → List ℕ → State
state_after form s n line = state_after_line s (line_meaning form s.setup n line)

answer_by : (form : AnswerForm) (s : State) (n : ℕ) (line : List ℕ) (r : Result (Option Request) InputRefusal) → AreWholeLines (line_answer form s n line r)
answer_by form s n line (Ok None) = inl refl
answer_by form s n line (Ok (Some request)) = inr (answer_text_ends form n s request)
answer_by form s n line (Err why) = inr (refusal_text_ends form line why)

pub answer_lines : (form : AnswerForm) (s : State) (n : ℕ) (line : List ℕ) → AreWholeLines (answer form s n line)
answer_lines form s n line = answer_by form s n line (line_meaning form s.setup n line)

no_answer : (form : AnswerForm) (s : State) (n : ℕ) → answer form s n [] ≡ []
no_answer forms.Words s n = refl
no_answer forms.Explained s n = refl
no_answer forms.Json s n = refl

-- bytes with a line feed are a line and those after it, whatever comes later
lines_on : (bytes more : List ℕ) → has_feed bytes ≡ true → lines_of (bytes ++ more) ≡ first_line_of bytes ∷ lines_of (rest_after_line bytes ++ more)
lines_on [] more h = cc
lines_on (b ∷ bs) more h =
    lines_apart b (bs ++ more) ∙ ap (λ l. l ∷ lines_of (rest_after_line (b ∷ bs ++ more))) (first_stays (b ∷ bs) more h)
    ∙ ap (λ l. first_line_of (b ∷ bs) ∷ lines_of l) (behind_stays (b ∷ bs) more h)

pub answers_on : (form : AnswerForm) (s : State) (n : ℕ) (buffered bytes_read more : List ℕ) → has_feed (buffered ++ bytes_read) ≡ true
    → answers_from form s n (lines_of (buffered ++ (bytes_read ++ more))) ≡ answer form s n (first_line_of (buffered ++ bytes_read))
    ++ answers_from form (state_after form s n (first_line_of (buffered ++ bytes_read))) (n + 1) (lines_of (rest_after_line (buffered ++ bytes_read) ++ more))
answers_on form s n buffered bytes_read more h =
    ap (λ l. answers_from form s n (lines_of l)) (sym (append_assoc buffered bytes_read more)) ∙ ap (answers_from form s n) (lines_on (buffered ++ bytes_read) more h)

-- the last line has no line feed; no byte is no line, and answered like a blank one
pub answers_last : (form : AnswerForm) (s : State) (n : ℕ) (bytes : List ℕ) → has_feed bytes ≡ false
    → answers_from form s n (lines_of bytes) ≡ answer form s n (first_line_of bytes)
answers_last form s n [] h = sym (no_answer form s n)
answers_last form s n (b ∷ bs) h =
    ap (answers_from form s n) (lines_apart b bs ∙ ap (λ l. first_line_of (b ∷ bs) ∷ lines_of l) (behind_none (b ∷ bs) h)) ∙ append-nil _

-- ---- one line after another

-- the state after these lines
abbrev pub state_behind : AnswerForm → State → ℕ → List (List ℕ) → State
state_behind form s n [] = s
state_behind form s n (line ∷ lines) = state_behind form (state_after form s n line) (n + 1) lines

-- the answers to lines and one more, and the state after them
answers_then : (form : AnswerForm) (s : State) (n : ℕ) (lines : List (List ℕ)) (line : List ℕ)
    → answers_from form s n (lines ++ line ∷ []) ≡ answers_from form s n lines ++ answer form (state_behind form s n lines) (n + length lines) line
answers_then form s n [] line = append-nil _ ∙ ap (λ k. answer form s k line) (let e : n ≡ n + 0 = omega arith in e)
answers_then form s n (x ∷ xs) line =
    let t = state_after form s n x in
    let u = state_behind form t (n + 1) xs in
    ap (λ l. answer form s n x ++ l) (answers_then form t (n + 1) xs line
    ∙ ap (λ k. answers_from form t (n + 1) xs ++ answer form u k line) (let e : n + 1 + length xs ≡ n + suc (length xs) = omega arith in e))
    ∙ sym (append_assoc (answer form s n x) (answers_from form t (n + 1) xs) _)

state_then : (form : AnswerForm) (s : State) (n : ℕ) (lines : List (List ℕ)) (line : List ℕ)
    → state_behind form s n (lines ++ line ∷ []) ≡ state_after form (state_behind form s n lines) (n + length lines) line
state_then form s n [] line = ap (λ k. state_after form s k line) (let e : n ≡ n + 0 = omega arith in e)
state_then form s n (x ∷ xs) line =
    let t = state_after form s n x in
    let u = state_behind form t (n + 1) xs in
    state_then form t (n + 1) xs line ∙ ap (λ k. state_after form u k line) (let e : n + 1 + length xs ≡ n + suc (length xs) = omega arith in e)

number_is : (count begins n : ℕ) → count + begins ≡ n → n ≡ begins + count
number_is count begins n e = omega (arith, e)

one_behind : (form : AnswerForm) (begins : ℕ) (first : State) (lines : List (List ℕ)) (line : List ℕ) (s : State) (number : ℕ) → s ≡ state_behind form first begins lines
    → number ≡ begins + length lines
    → (answers_from form first begins (lines ++ line ∷ []) ≡ answers_from form first begins lines ++ answer form s number line)
    × (state_behind form first begins (lines ++ line ∷ []) ≡ state_after form s number line)
one_behind form begins first lines line s number same n = rw (same, n) (answers_then form first begins lines line, state_then form first begins lines line)

-- whole lines and one more
one_more : (taken line : List ℕ) → AreWholeLines taken → has_feed line ≡ false → lines_of (taken ++ (line ++ 10 ∷ [])) ≡ lines_of taken ++ line ∷ []
one_more taken line full free = lines_by taken (line ++ 10 ∷ []) full ∙ ap (λ l. lines_of taken ++ l) (line_first line [] free)

taken_more : (opened buffered rest part bytes_read taken : List ℕ) → opened ++ bytes_read ≡ taken ++ buffered → has_feed (buffered ++ part) ≡ true → rest ≡ rest_after_line (buffered ++ part)
    → opened ++ (bytes_read ++ part) ≡ (taken ++ (first_line_of (buffered ++ part) ++ 10 ∷ [])) ++ rest
taken_more opened buffered rest part bytes_read taken e feed behind =
    let line = first_line_of (buffered ++ part) in
    sym (append_assoc opened bytes_read part) ∙ ap (λ l. l ++ part) e ∙ append_assoc taken buffered part
    ∙ ap (λ l. taken ++ l) (feed_split (buffered ++ part) feed ∙ ap (λ l. line ++ 10 ∷ l) (sym behind) ∙ sym (append_assoc line (10 ∷ []) rest))
    ∙ sym (append_assoc taken (line ++ 10 ∷ []) rest)

-- Where a conversation stands that began at this state with these bytes buffered: the bytes that were given, the whole lines that
-- were written, and that the text continues from here as it continues from the beginning, whatever comes later.
-- Those bytes are whole lines from the beginning of what was buffered and was given, with their answers and the state after them.
pub record Talked (form : AnswerForm) (begins : ℕ) (first : State) (opened : List ℕ) (had left held holds : Option (List ℕ)) (number : ℕ) (s : State) (buffered : List ℕ) : Type 0 where
  pub bytes_read : List ℕ
  pub front : List ℕ
  pub consumed : Consumes had left bytes_read
  pub appended : Appends held holds front
  pub whole : AreWholeLines front
  pub goes_on : (more : List ℕ) → answers_from form first begins (lines_of (opened ++ (bytes_read ++ more))) ≡ front ++ answers_from form s number (lines_of (buffered ++ more))
  pub taken : List ℕ
  pub parts : opened ++ bytes_read ≡ taken ++ buffered
  pub full : AreWholeLines taken
  pub count : length (lines_of taken) + begins ≡ number
  pub answers : front ≡ answers_from form first begins (lines_of taken)
  pub state : s ≡ state_behind form first begins (lines_of taken)

pub talk_begins : {form : AnswerForm} (begins : ℕ) (first : State) (opened : List ℕ) (had held : Option (List ℕ)) → Talked form begins first opened had had held held begins first opened
talk_begins {form = form} begins first opened had held =
    record {
      bytes_read = [];
      front = [];
      consumed = Consumes-none had;
      appended = Appends-none held;
      whole = inl refl;
      goes_on = λ more. refl;
      taken = [];
      parts = append-nil opened;
      full = inl refl;
      count = omega arith;
      answers = refl;
      state = refl;
    }

-- a whole line was answered
pub talk_goes_on : {form : AnswerForm} (begins : ℕ) (first s t : State) (opened buffered rest part : List ℕ) (had mid left held wrote holds : Option (List ℕ)) (number : ℕ)
    → Talked form begins first opened had mid held wrote number s buffered → Consumes mid left part → has_feed (buffered ++ part) ≡ true → rest ≡ rest_after_line (buffered ++ part)
    → t ≡ state_after form s number (first_line_of (buffered ++ part))
    → Appends wrote holds (answer form s number (first_line_of (buffered ++ part)))
    → Talked form begins first opened had left held holds (number + 1) t rest
talk_goes_on {form = form} begins first s t opened buffered rest part had mid left held wrote holds number k read feed behind after wrote_it =
    let line = first_line_of (buffered ++ part) in
    let bytes = first_line_of (buffered ++ part) ++ 10 ∷ [] in
    let lines = one_more k.taken (first_line_of (buffered ++ part)) k.full (first_free (buffered ++ part)) in
    let more = one_behind form begins first (lines_of k.taken) (first_line_of (buffered ++ part)) s number k.state (number_is _ _ _ k.count) in
    record {
      bytes_read = k.bytes_read ++ part;
      front = k.front ++ answer form s number line;
      consumed = Consumes-then had mid left k.bytes_read part k.consumed read;
      appended = Appends-trans held wrote holds k.front (answer form s number line) k.appended wrote_it;
      whole = whole_on k.front (answer form s number line) k.whole (answer_lines form s number line);
      goes_on = λ more.
          ap (λ l. answers_from form first begins (lines_of (opened ++ l))) (append_assoc k.bytes_read part more) ∙ k.goes_on (part ++ more)
          ∙ ap (λ l. k.front ++ l) (answers_on form s number buffered part more feed
          ∙ ap (λ l. answer form s number line ++ l) (ap (λ u. answers_from form u (number + 1) (lines_of (rest_after_line (buffered ++ part) ++ more))) (sym after)
          ∙ ap (λ l. answers_from form t (number + 1) (lines_of (l ++ more))) (sym behind)))
          ∙ sym (append_assoc k.front (answer form s number line) _);
      taken = k.taken ++ bytes;
      parts = taken_more opened buffered rest part k.bytes_read k.taken k.parts feed behind;
      full = inr (k.taken ++ first_line_of (buffered ++ part), sym (append_assoc k.taken (first_line_of (buffered ++ part)) (10 ∷ [])));
      count = (let sizes = ap length lines ∙ length-append (lines_of k.taken) (first_line_of (buffered ++ part) ∷ []) in omega (arith, sizes, k.count));
      answers = ap (λ l. l ++ answer form s number line) k.answers ∙ sym more.0 ∙ ap (answers_from form first begins) (sym lines);
      state = after ∙ sym more.1 ∙ ap (state_behind form first begins) (sym lines);
    }

-- the text to the end, where the last line has no line feed
ended_text : {form : AnswerForm} (begins : ℕ) (first s : State) (opened buffered part : List ℕ) (had mid left held wrote : Option (List ℕ)) (number : ℕ)
    → (k : Talked form begins first opened had mid held wrote number s buffered) → has_feed (buffered ++ part) ≡ false
    → answers_from form first begins (lines_of (opened ++ (k.bytes_read ++ part))) ≡ k.front ++ answer form s number (first_line_of (buffered ++ part))
ended_text {form = form} begins first s opened buffered part had mid left held wrote number k free =
    k.goes_on part ∙ ap (λ l. k.front ++ l) (answers_last form s number (buffered ++ part) free)

-- the input ended, and the writer was flushed or not
pub talk_ends : {form : AnswerForm} (begins : ℕ) (first s : State) (opened buffered part : List ℕ) (had mid left held wrote wrote' holds : Option (List ℕ)) (number : ℕ)
    (flushed : Result (Unit {0}) LiveError) (wrote_all : Result (Unit {0}) DriveError)
    → Talked form begins first opened had mid held wrote number s buffered → Consumes mid left part → has_feed (buffered ++ part) ≡ false → IsAtEnd left
    → Appends wrote wrote' (answer form s number (first_line_of (buffered ++ part))) → Keeps wrote' holds → IsWriteResult flushed wrote_all → IsOkUnless wrote_all errors.Write
    → AnsweringEnded form begins first opened (streams had left held holds) flushed
talk_ends {form = form} begins first s opened buffered part had mid left held wrote wrote' holds number (Ok _) written k read free end wrote_it kept w f =
    let bytes_read = Consumes-then had mid left k.bytes_read part k.consumed read in
    let text = ended_text begins first s opened buffered part had mid left held wrote number k free in
    let all = Appends-Keeps held wrote' holds _ (Appends-trans held wrote wrote' k.front _ k.appended wrote_it) kept in
    (k.bytes_read ++ part, input_all had left (k.bytes_read ++ part) bytes_read end, bytes_read, rw text all, tt)
talk_ends {form = form} begins first s opened buffered part had mid left held wrote wrote' holds number (Err e) written k read free end wrote_it kept w f =
    let bytes_read = Consumes-then had mid left k.bytes_read part k.consumed read in
    let text = ended_text begins first s opened buffered part had mid left held wrote number k free in
    let all = Appends-trans held wrote wrote' k.front _ k.appended wrote_it in
    let fault : drive_error_of e ≡ errors.Write = subst (λ r. IsOkUnless r errors.Write) w.0 f in
    (k.bytes_read ++ part, input_all had left (k.bytes_read ++ part) bytes_read end, tt, tt, rw (fault, text) (leaves_all held wrote' holds _ all kept))

-- a line couldn't be taken or answered
pub talk_fails : {form : AnswerForm} (begins : ℕ) (first s : State) (opened buffered coming : List ℕ) (had mid left held wrote holds : Option (List ℕ))
    (number : ℕ)
    (e : LiveError) (ended : Result (Unit {0}) LiveError)
    → Talked form begins first opened had mid held wrote number s buffered → IsInput mid coming
    → LeavesText (drive_error_of e) wrote holds (answers_from form s number (lines_of (buffered ++ coming))) → ended ≡ Err e → AnsweringEnded form begins first opened (streams had left held holds) ended
talk_fails {form = form} begins first s opened buffered coming had mid left held wrote holds number e ended k i f r =
    rw r (
      k.bytes_read ++ coming,
      input_on had mid k.bytes_read coming k.consumed i,
      tt,
      tt,
      leaves_on (drive_error_of e) held wrote holds k.front (answers_from form s number (lines_of (buffered ++ coming))) _ k.whole k.appended (k.goes_on coming) f,
    )

-- as many lines as can be numbered were answered
pub talk_spent : {form : AnswerForm} (begins : ℕ) (first s : State) (opened buffered : List ℕ) (had left held holds : Option (List ℕ)) (number : ℕ)
    (e : LiveError)
    → Talked form begins first opened had left held holds number s buffered → AnsweringEnded {T = Unit {0}} form begins first opened (streams had left held holds) (Err e)
talk_spent {form = form} begins first s opened buffered had left held holds number e k =
    talk_fails begins first s opened buffered (rest_of left) had left left held holds holds number e (Err e) k (rest_input left) (leaves_none (drive_error_of e) holds _) refl

pub lines_answered : {form : AnswerForm} (begins : ℕ) (first s : State) (opened buffered : List ℕ) (had left held holds : Option (List ℕ)) (number count : ℕ)
    → Talked form begins first opened had left held holds number s buffered → number ≡ count + begins → HasAnsweredLines form count begins first opened (streams had left held holds)
lines_answered {form = form} begins first s opened buffered had left held holds number count k e = record {
  bytes_read = k.bytes_read;
  front = k.taken;
  rest = buffered;
  consumed = k.consumed;
  parts = k.parts;
  lines = omega (arith, k.count, e);
  whole = k.full;
  answered = subst (Appends held holds) k.answers k.appended;
}

-- a line couldn't be taken or answered: no loop over lines is spent then, and one over reads by as many bytes
pub line_spends : {form : AnswerForm} (begins : ℕ) (first s : State) (opened buffered part : List ℕ) (had mid left held wrote holds : Option (List ℕ)) (number : ℕ) (e : LiveError)
    → Talked form begins first opened had mid held wrote number s buffered → Consumes mid left part → IsLineReadingError part e → IsSpentAfterLines form begins first opened (streams had left held holds) e
line_spends {form = form} begins first s opened buffered part had mid left held wrote holds number (live.Reader fault) k read h = tt
line_spends {form = form} begins first s opened buffered part had mid left held wrote holds number live.Writer k read h = tt
line_spends {form = form} begins first s opened buffered part had mid left held wrote holds number live.Memory k read h = tt
line_spends {form = form} begins first s opened buffered part had mid left held wrote holds number live.LinesSpent k read h = absurd h
line_spends {form = form} begins first s opened buffered part had mid left held wrote holds number live.ReadsSpent k read h =
    let sizes = length-append k.bytes_read part in
    (k.bytes_read ++ part, Consumes-then had mid left k.bytes_read part k.consumed read, omega (arith, sizes, h))

-- ---- one line

pub untaken : (form : AnswerForm) (s : State) (number : ℕ) (buffered bytes_read : List ℕ) (had left held holds : Option (List ℕ)) (e : DriveError)
    → Consumes had left bytes_read → Keeps held holds → LineFailed form s number buffered had held holds e
untaken form s number buffered bytes_read had left held holds e read kept =
    (bytes_read ++ rest_of left, input_on had left bytes_read (rest_of left) read (rest_input left), leaves_kept e held holds _ kept)

pub unanswered : (form : AnswerForm) (s : State) (number : ℕ) (buffered bytes_read : List ℕ) (had left held mid holds : Option (List ℕ)) (e : DriveError) (whole : Bool)
    → Consumes had left bytes_read → whole ≡ has_feed (buffered ++ bytes_read) → (whole ≡ false → IsAtEnd left) → Keeps held mid
    → LeavesText e mid holds (answer form s number (first_line_of (buffered ++ bytes_read))) → LineFailed form s number buffered had held holds e
unanswered form s number buffered bytes_read had left held mid holds e true read feed end kept f = (
  bytes_read ++ rest_of left,
  input_on had left bytes_read (rest_of left) read (rest_input left),
  leaves_before e held mid holds _ kept (rw (answers_on form s number buffered bytes_read (rest_of left) (sym feed)) (leaves_more e mid holds _ _ f)),
)
unanswered form s number buffered bytes_read had left held mid holds e false read feed end kept f = (
  bytes_read,
  input_all had left bytes_read read (end refl),
  leaves_before e held mid holds _ kept (rw (answers_last form s number (buffered ++ bytes_read) (sym feed)) f),
)

-- ---- the whole

-- a refusal that was read is the one that is defined
pub gives_refused : {X Y : Type 0} (view : X → Y) (r : Result X ScriptError) (e : ScriptError) (why : InputRefusal) (x : Result Y InputRefusal)
    → IsExpectedResult view r x → r ≡ Err e → e ≡ script.Refused why → x ≡ Err why
gives_refused view (Ok c) e why x h i j = cc
gives_refused view (Err script.Memory) e why x h i j = cc
gives_refused view (Err (script.Refused w)) e why x h i j = let k : w ≡ why = cc in h ∙ ap Err k

pub setup_is : (r : Result Configuration LoadError) (c : Configuration) → with_setup_refusal r ≡ Ok c → r ≡ Ok c
setup_is (Ok d) c e = cc
setup_is (Err e) c h = cc

pub setup_refused : (r : Result Configuration LoadError) (why : InputRefusal) → with_setup_refusal r ≡ Err why
    → (e : LoadError) × (r ≡ Err e) × (why ≡ refusal.Setup e)
setup_refused (Ok c) why h = cc
setup_refused (Err e) why h = (e, refl, cc)

-- an error, whatever came before it
pub live_failed : {form : AnswerForm} (how : Start) (e : DriveError) (had left held holds : Option (List ℕ)) (input : List ℕ) → IsInput had input
    → LeavesText e held holds (live_text form how input) → ConversationEnded form how (Err e) (streams had left held holds)
live_failed {form = form} how e had left held holds input i f = record { input = input; is_input = i; outcome_is = tt; written = tt; read = tt; fault = f }

-- an error before anything was written
pub live_unwritten : {form : AnswerForm} (how : Start) (e : DriveError) (had left held : Option (List ℕ)) (bytes_read : List ℕ) → Consumes had left bytes_read
    → ConversationEnded form how (Err e) (streams had left held held)
live_unwritten {form = form} how e had left held bytes_read read =
    live_failed how e had left held held (bytes_read ++ rest_of left) (input_on had left bytes_read (rest_of left) read (rest_input left)) (leaves_none e held _)

-- there are no lines after the setup
pub not_long : (c : Configuration) (bytes_read : List ℕ) → with_setup_refusal (setup_of (first_line_of bytes_read)) ≡ Ok c → has_feed bytes_read ≡ false
    → SETUP_PREFIX_BYTES ≤ length bytes_read → ⊥
not_long c bytes_read s free long =
    let all = ap length (first_all bytes_read free) in
    let r = sym (too_long (first_line_of bytes_read) (omega (arith, long, all))) ∙ setup_is (setup_of (first_line_of bytes_read)) c s in
    cc

-- ---- a refused setup

ended_by : (left : Option (List ℕ)) (bytes_read : List ℕ) → IsAtEnd left ⊎ (SETUP_PREFIX_BYTES ≤ length bytes_read)
    → (rest_of left ≡ []) ⊎ (SETUP_PREFIX_BYTES ≤ length bytes_read)
ended_by left bytes_read (inl end) = inl (rest_none left end)
ended_by left bytes_read (inr long) = inr long

pub refused_stays : (bytes_read : List ℕ) (left : Option (List ℕ)) (whole : Bool) → whole ≡ has_feed bytes_read
    → (whole ≡ false → IsAtEnd left ⊎ (SETUP_PREFIX_BYTES ≤ length bytes_read))
    → setup_of (first_line_of (bytes_read ++ rest_of left)) ≡ setup_of (first_line_of bytes_read)
refused_stays bytes_read left true feed end = setup_stays bytes_read (rest_of left) (inl (sym feed))
refused_stays bytes_read left false feed end = setup_stays bytes_read (rest_of left) (inr (sym feed, ended_by left bytes_read (end refl)))

-- ---- a loop that is spent

-- what only writes spends none
pub written_lines : (form : AnswerForm) {T : Type 0} (r : Result T LiveError) (written : Result T DriveError) (begins : ℕ) (first : State) (opened : List ℕ)
    (had left held holds : Option (List ℕ)) → IsWriteResult r written → IfErr r (IsSpentAfterLines form begins first opened (streams had left held holds))
written_lines form (Ok x) written begins first opened had left held holds w = tt
written_lines form (Err (live.Reader fault)) written begins first opened had left held holds w = tt
written_lines form (Err live.Writer) written begins first opened had left held holds w = tt
written_lines form (Err live.Memory) written begins first opened had left held holds w = tt
written_lines form (Err live.LinesSpent) written begins first opened had left held holds (e, inl f) = cc
written_lines form (Err live.LinesSpent) written begins first opened had left held holds (e, inr f) = cc
written_lines form (Err live.ReadsSpent) written begins first opened had left held holds (e, inl f) = cc
written_lines form (Err live.ReadsSpent) written begins first opened had left held holds (e, inr f) = cc

pub written_spends : {T : Type 0} (r : Result T LiveError) (written : Result T DriveError) (had left : Option (List ℕ)) → IsWriteResult r written
    → IfErr r (IsSpentAfterInput had left)
written_spends (Ok x) written had left w = tt
written_spends (Err (live.Reader fault)) written had left w = λ h. absurd h
written_spends (Err live.Writer) written had left w = λ h. absurd h
written_spends (Err live.Memory) written had left w = λ h. absurd h
written_spends (Err live.LinesSpent) written had left (e, inl f) = cc
written_spends (Err live.LinesSpent) written had left (e, inr f) = cc
written_spends (Err live.ReadsSpent) written had left (e, inl f) = cc
written_spends (Err live.ReadsSpent) written had left (e, inr f) = cc

pub reads_spend : (e : LiveError) (bytes_read : List ℕ) (had left : Option (List ℕ)) → Consumes had left bytes_read → IsReadingError bytes_read e → IsSpentAfterInput had left e
reads_spend (live.Reader fault) bytes_read had left read h = λ s. absurd s
reads_spend live.Writer bytes_read had left read h = λ s. absurd s
reads_spend live.Memory bytes_read had left read h = λ s. absurd s
reads_spend live.LinesSpent bytes_read had left read h = λ s. absurd h
reads_spend live.ReadsSpent bytes_read had left read h = λ s. (bytes_read, read, omega (arith, h))

-- ---- errors of what only writes

pub written_is : {T : Type 0} (r : Result T LiveError) (written : Result T DriveError) → IsWriteResult r written → written ≡ drive_result_of r
written_is (Ok x) written w = w
written_is (Err e) written w = w.0

-- what is known of the one's error is known of the other's
pub written_err : {T : Type 0} (e : LiveError) (written : Result T DriveError) (P : DriveError → Type 0) → IsWriteResult (Err e) written → IfErr written P → P (drive_error_of e)
written_err e written P w f = subst (λ r. IfErr r P) w.0 f

pub written_ok : {T P : Type 0} (x : T) (written : Result T DriveError) → IsWriteResult (Ok x) written → OnOk written P → P
written_ok {P = P} x written w f = subst (λ r. OnOk r P) w f

pub written_if : {T : Type 0} (x : T) (written : Result T DriveError) (P : T → Type 0) → IsWriteResult (Ok x) written → IfOk written P → P x
written_if x written P w f = subst (λ r. IfOk r P) w f

pub written_ifs : {T : Type 0} (r : Result T LiveError) (written : Result T DriveError) (P : T → Type 0) → IsWriteResult r written → IfOk written P → IfOk r P
written_ifs (Ok x) written P w f = written_if x written P w f
written_ifs (Err e) written P w f = tt

pub written_oks : {T : Type 0} (r : Result T LiveError) (written : Result T DriveError) (P : Type 0) → IsWriteResult r written → OnOk written P → OnOk r P
written_oks (Ok x) written P w f = written_ok x written w f
written_oks (Err e) written P w f = tt

pub written_errs : {T : Type 0} (r : Result T LiveError) (written : Result T DriveError) (P : DriveError → Type 0) → IsWriteResult r written
    → IfErr written P → IfErr r (λ e. P (drive_error_of e))
written_errs (Ok x) written P w f = tt
written_errs (Err e) written P w f = written_err e written P w f

pub written_line : {T : Type 0} (e : LiveError) (written : Result T DriveError) (bytes_read : List ℕ) → IsWriteResult (Err e) written → IsLineReadingError bytes_read e
written_line (live.Reader fault) written bytes_read w = tt
written_line live.Writer written bytes_read w = tt
written_line live.Memory written bytes_read w = tt
written_line live.LinesSpent written bytes_read (e, inl f) = cc
written_line live.LinesSpent written bytes_read (e, inr f) = cc
written_line live.ReadsSpent written bytes_read (e, inl f) = cc
written_line live.ReadsSpent written bytes_read (e, inr f) = cc
