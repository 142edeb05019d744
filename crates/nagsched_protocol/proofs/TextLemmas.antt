-- The text of a run, call by call, and of a history, entry by entry.
use Rattle.std.proofs.Common.{Option, Some, None, ◌≡◌, ℕ, suc, zero, List, [], ◌∷◌, ◌++◌, refl, ap, ◌∙◌, append_assoc, append-nil, sym, arith, drop, length}
use Rattle.std.proofs.Common.{◌+◌, ◌≤◌, ◌<◌, get_or}
use Rattle.std.specs.Prelude.{codes, decimal, flat_map}
use Rattle.check_saved_state.specs.Text.{saved_text}
use Rattle.check_sched.specs.Saved.{saved_of}
use Rattle.std.proofs.lemmas.Grind.{common_steps}
use Rattle.std.specs.List.{range_with_len}
use Rattle.std.proofs.lemmas.List.{drop_all, flat_map_more, map-id}
use Rattle.std.proofs.lemmas.List.FromFn.{map-range_with_len_more}
use Rattle.ticket_steps.specs.declared.books.Entry.{Entry}
use Rattle.check_objects.specs.Configuration.{Configuration}
use Rattle.check_sched.specs.State.{State}
use Rattle.check_sched.specs.Step.{step}
use Rattle.check_sched.proofs.StepLaws.{step_keeps}
use Rattle.nagsched_protocol.specs.declared.command.RunCommand.{RunCommand}
use Rattle.nagsched_protocol.specs.declared.command.RunCommand.TheVariants as command
use Rattle.check_sched.specs.declared.call.Call.{Call}
use Rattle.check_sched.specs.declared.call.Reply.{Reply}
use Rattle.nagsched_protocol.specs.Output.{EndsLine}
use Rattle.check_objects.specs.Configuration.{name_of, object_count}
use Rattle.check_sched.specs.State.{next_of, run_number_of, standing_at}
use Rattle.nagsched_protocol.specs.Text.{refusal_line, answer_line, text_from, entry_line, line_of, list_lines, listed_line, listed_text, reply_text}
use Rattle.nagsched_protocol.specs.Text.{saved_line}
use Rattle.nagsched_protocol.specs.Text.{input_refusal_text, refused_text, state_after_command, total_line, total_text}
use Rattle.nagsched_protocol.specs.declared.answer_form.AnswerForm.{AnswerForm}
use Rattle.nagsched_protocol.specs.declared.answer_form.AnswerForm.TheVariants as forms
use Rattle.nagsched_protocol.specs.declared.refusal.InputRefusal.{InputRefusal}
use Rattle.nagsched_protocol.specs.Explanation.{sentence}
use Rattle.nagsched_protocol.specs.Request.{Id, Request, id_of_line}
use Rattle.nagsched_protocol.specs.CallExplanation.{explained_answer, reply_sentence, sentence_lines}
use Rattle.nagsched_protocol.specs.Forms.{answer_text, explained_text, json_command_line, refusal_text}
use Rattle.nagsched_protocol.specs.JsonText.{answer_members, json_list_line, json_saved_line, json_saved_text, list_members, object_text, refusal_answer}
use Rattle.nagsched_protocol.specs.JsonText.{refused_line}

-- a command leaves the setup
pub command_keeps : (s : State) (c : RunCommand) → (state_after_command s c).setup ≡ s.setup
command_keeps s (command.Call call) = (step_keeps s call).setup
command_keeps s command.Save = refl
command_keeps s command.List = refl

-- the text continues with the line of the next command's answer
pub text_next : (s : State) (cs : List RunCommand) (i : ℕ) (d : RunCommand) → i < length cs
    → text_from s (drop i cs) ≡ answer_line s (get_or cs i d) ++ text_from (state_after_command s (get_or cs i d)) (drop (i + 1) cs)
text_next s cs i d h =
    let e : drop i cs ≡ get_or cs i d ∷ drop (i + 1) cs = grind (arith, common_steps) in
    ap (text_from s) e

-- after the last command nothing is left of the text
pub text_end : (s : State) (cs : List RunCommand) (i : ℕ) → length cs ≤ i → text_from s (drop i cs) ≡ []
text_end s cs i h = rw (drop_all i cs h) refl

-- the lines of a history continue with the next entry's
pub entries_next : (c : Configuration) (es : List (Entry Call Reply)) (i : ℕ) (d : Entry Call Reply) (total : List ℕ) → i < length es
    → flat_map (entry_line c) (drop i es) ++ total ≡ entry_line c (get_or es i d) ++ (flat_map (entry_line c) (drop (i + 1) es) ++ total)
entries_next c es i d total h =
    let e : drop i es ≡ get_or es i d ∷ drop (i + 1) es = grind (arith, common_steps) in
    ap (λ l. flat_map (entry_line c) l ++ total) e ∙ append_assoc (entry_line c (get_or es i d)) (flat_map (entry_line c) (drop (i + 1) es)) total

-- after the last entry only the total is left, with nothing after it
pub entries_end : (c : Configuration) (es : List (Entry Call Reply)) (i : ℕ) (total : List ℕ) → length es ≤ i
    → flat_map (entry_line c) (drop i es) ++ total ≡ total ++ []
entries_end c es i total h = ap (λ l. flat_map (entry_line c) l ++ total) (drop_all i es h) ∙ sym (append-nil total)

-- ---- the lines of all objects

range_more : (n : ℕ) → range_with_len 0 (n + 1) ≡ range_with_len 0 n ++ n ∷ []
range_more n =
    sym (map-id (range_with_len 0 (n + 1))) ∙ map-range_with_len_more (λ k. k) 0 n n (omega arith) ∙ ap (λ l. l ++ n ∷ []) (map-id (range_with_len 0 n))

-- the lines continue with the next object's
pub listed_more : {A : Type 0} (f : ℕ → List A) (n : ℕ) (head was more : List A) → more ≡ was ++ f n → was ≡ head ++ flat_map f (range_with_len 0 n)
    → more ≡ head ++ flat_map f (range_with_len 0 (n + 1))
listed_more f n head was more pushed before =
    pushed ∙ ap (λ l. l ++ f n) before ∙ flat_map_more f head (range_with_len 0 n) n ∙ ap (λ l. head ++ flat_map f l) (sym (range_more n))

-- a line, and the lines of objects after it
listed_ends : (s : State) (k a : ℕ) (first : List ℕ) → EndsLine (line_of first ++ flat_map (listed_line s) (range_with_len a k))
listed_ends s zero a first = (first, append-nil (line_of first))
listed_ends s (suc k) a first =
    let rest = listed_ends s k (a + 1) (listed_text (standing_at s.standings a) (next_of a s) (run_number_of a s) (name_of s.setup a)) in
    (line_of first ++ rest.0, ap (λ l. line_of first ++ l) rest.1 ∙ sym (append_assoc (line_of first) rest.0 (10 ∷ [])))

-- ---- each line ends with its line feed

pub answer_line_ends : (s : State) (c : RunCommand) → EndsLine (answer_line s c)
unfolding saved_line list_lines
answer_line_ends s (command.Call call) = (reply_text s.setup call (step s call).1, refl)
answer_line_ends s command.Save = (codes "saved " ++ saved_text (saved_of s), refl)
answer_line_ends s command.List = listed_ends s (object_count s.setup) 0 (codes "listed " ++ decimal (object_count s.setup))

-- the same in each form
json_ends : (n : ℕ) (id : Option Id) (s : State) (c : RunCommand) → EndsLine (json_command_line n id s c)
unfolding json_saved_line json_list_line
json_ends n id s (command.Call call) = (object_text n id (answer_members (explained_answer n s.setup call (step s call).1)), refl)
json_ends n id s command.Save = (json_saved_text n id s, refl)
json_ends n id s command.List = (object_text n id (list_members s), refl)

-- a line, and the line of a sentence about it if there is one
sentence_ends : (text : List ℕ) (sentence : Option (List ℕ)) → EndsLine (line_of text ++ sentence_lines sentence)
sentence_ends text None = (text, append-nil (line_of text))
sentence_ends text (Some sentence) =
    (line_of text ++ (codes "explained " ++ sentence), sym (append_assoc (line_of text) (codes "explained " ++ sentence) (10 ∷ [])))

explained_ends : (n : ℕ) (s : State) (c : RunCommand) → EndsLine (explained_text n s c)
explained_ends n s (command.Call call) =
    let reply = (step s call).1 in sentence_ends (reply_text s.setup call reply) (reply_sentence n s.setup call reply)
explained_ends n s command.Save = answer_line_ends s command.Save
explained_ends n s command.List = answer_line_ends s command.List

pub answer_text_ends : (form : AnswerForm) (n : ℕ) (s : State) (r : Request) → EndsLine (answer_text form n s r)
answer_text_ends forms.Words n s r = answer_line_ends s r.command
answer_text_ends forms.Explained n s r = explained_ends n s r.command
answer_text_ends forms.Json n s r = json_ends n r.id s r.command

pub refusal_text_ends : (form : AnswerForm) (line : List ℕ) (why : InputRefusal) → EndsLine (refusal_text form line why)
refusal_text_ends forms.Words line why = (refused_text (input_refusal_text why), refl)
refusal_text_ends forms.Explained line why = (
  refusal_line why ++ (codes "explained " ++ sentence line why),
  sym (append_assoc (refusal_line why) (codes "explained " ++ sentence line why) (10 ∷ [])),
)
refusal_text_ends forms.Json line why = (object_text (refused_line why) (id_of_line line) (answer_members (refusal_answer line why)), refl)

pub entry_line_ends : (c : Configuration) (e : Entry Call Reply) → EndsLine (entry_line c e)
entry_line_ends c e =
    let reply = reply_text c e.call e.reply in (
      decimal e.pass ++ (codes " " ++ reply),
      ap (λ l. decimal e.pass ++ l) (sym (append_assoc (codes " ") reply (10 ∷ []))) ∙ sym (append_assoc (decimal e.pass) (codes " " ++ reply) (10 ∷ [])),
    )

pub total_line_ends : (entries refused : ℕ) → EndsLine (total_line entries refused)
total_line_ends entries refused = (total_text entries refused, refl)

-- ---- texts in parts

-- what was appended in two parts is the text that they are together
in_two : (a b c x y : List ℕ) → b ≡ a ++ x → c ≡ b ++ y → c ≡ a ++ (x ++ y)
in_two a b c x y first second = second ∙ ap (λ l. l ++ y) first ∙ append_assoc a x y

-- the parts of a standing's text; s is a space
standing_parts : (word s state kind attempt changed flapping next name : List ℕ)
    → ((((((word ++ state) ++ (s ++ (kind ++ s))) ++ attempt) ++ (s ++ (changed ++ (s ++ (flapping ++ s))))) ++ next) ++ s) ++ name
    ≡ word ++ (state ++ (s ++ (kind ++ (s ++ (attempt ++ (s ++ (changed ++ (s ++ (flapping ++ (s ++ (next ++ (s ++ name))))))))))))
standing_parts word s state kind attempt changed flapping next name = simp (append_assoc) refl

-- what these parts were appended to, one after the other, is what a standing's text was appended to
pub standing_appended : (old word s state kind attempt changed flapping next name states kinds marks l1 l2 l3 l4 l5 l6 l7 l8 : List ℕ)
    → states ≡ state → kinds ≡ s ++ (kind ++ s) → marks ≡ s ++ (changed ++ (s ++ (flapping ++ s)))
    → l1 ≡ old ++ word → l2 ≡ l1 ++ states → l3 ≡ l2 ++ kinds → l4 ≡ l3 ++ attempt → l5 ≡ l4 ++ marks → l6 ≡ l5 ++ next → l7 ≡ l6 ++ s → l8 ≡ l7 ++ name
    → l8 ≡ old ++ (word ++ (state ++ (s ++ (kind ++ (s ++ (attempt ++ (s ++ (changed ++ (s ++ (flapping ++ (s ++ (next ++ (s ++ name)))))))))))))
standing_appended old word s state kind attempt changed flapping next name states kinds marks l1 l2 l3 l4 l5 l6 l7 l8 t k m e1 e2 e3 e4 e5 e6 e7 e8 =
    let a = in_two old l1 l2 word state e1 (e2 ∙ ap (λ l. l1 ++ l) t) in
    let b = in_two old l2 l3 (word ++ state) kinds a e3 in
    let c = in_two old l3 l4 ((word ++ state) ++ kinds) attempt b e4 in
    let d = in_two old l4 l5 (((word ++ state) ++ kinds) ++ attempt) marks c e5 in
    let e = in_two old l5 l6 ((((word ++ state) ++ kinds) ++ attempt) ++ marks) next d e6 in
    let f = in_two old l6 l7 (((((word ++ state) ++ kinds) ++ attempt) ++ marks) ++ next) s e e7 in
    let g = in_two old l7 l8 ((((((word ++ state) ++ kinds) ++ attempt) ++ marks) ++ next) ++ s) name f e8 in
    g ∙ ap (λ l. old ++ l)
    ((λ i. ((((((word ++ state) ++ k i) ++ attempt) ++ m i) ++ next) ++ s) ++ name)
    ∙ standing_parts word s state kind attempt changed flapping next name)
