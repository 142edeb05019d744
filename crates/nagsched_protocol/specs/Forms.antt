-- The text of an answer in each form.
use Rattle.std.specs.Prelude.{ℕ, List, ◌++◌, Option}
use Rattle.check_sched.specs.State.{State}
use Rattle.check_sched.specs.Step.{step}
use Rattle.nagsched_protocol.specs.declared.answer_form.AnswerForm.{AnswerForm}
use Rattle.nagsched_protocol.specs.declared.answer_form.AnswerForm.TheVariants as forms
use Rattle.nagsched_protocol.specs.declared.command.RunCommand.{RunCommand}
use Rattle.nagsched_protocol.specs.declared.command.RunCommand.TheVariants as command
use Rattle.nagsched_protocol.specs.declared.refusal.InputRefusal.{InputRefusal}
use Rattle.nagsched_protocol.specs.CallExplanation.{explained_answer, explained_line, explained_reply}
use Rattle.nagsched_protocol.specs.Explanation.{sentence}
use Rattle.nagsched_protocol.specs.Request.{Id, Request}
use Rattle.nagsched_protocol.specs.JsonText.{json_answer_line, json_list_line, json_refusal_line, json_saved_line}
use Rattle.nagsched_protocol.specs.Text.{answer_line, list_lines, refusal_line, saved_line}

-- the answer to a command as JSON, in this state; its line has the number n, and its request this id
abbrev pub json_command_line : ℕ → Option Id → State → RunCommand → List ℕ
json_command_line n id s (command.Call call) = json_answer_line n id (explained_answer n s.setup call (step s call).1)
json_command_line n id s command.Save = json_saved_line n id s
json_command_line n id s command.List = json_list_line n id s

-- the answer to a request as JSON, in this state; its line has the number n
abbrev pub json_line : ℕ → State → Request → List ℕ
json_line n s r = json_command_line n r.id s r.command

-- the answer to a command in words, in this state, with the sentence about a refused call; its line has the number n
abbrev pub explained_text : ℕ → State → RunCommand → List ℕ
explained_text n s (command.Call call) = explained_reply n s.setup call (step s call).1
explained_text n s command.Save = saved_line s
explained_text n s command.List = list_lines s

-- the answer to a request, in this state; its line has the number n
abbrev pub answer_text : AnswerForm → ℕ → State → Request → List ℕ
answer_text forms.Words n s r = answer_line s r.command
answer_text forms.Explained n s r = explained_text n s r.command
answer_text forms.Json n s r = json_line n s r

-- the answer that refuses an input or a line, by the bytes of the refused line
abbrev pub refusal_text : AnswerForm → List ℕ → InputRefusal → List ℕ
refusal_text forms.Words line why = refusal_line why
refusal_text forms.Explained line why = refusal_line why ++ explained_line (sentence line why)
refusal_text forms.Json line why = json_refusal_line line why
