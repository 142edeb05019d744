use Rattle.std.proofs.Common.{sym}
use Rattle.ticket_steps.proofs.OriginLemmas.{call_of_entry}
use Rattle.ticket_steps.proofs.ScheduleLemmas.{schedule_made, schedule_of, schedule_order, schedule_strangers}
use Rattle.ticket_steps.proofs.RecordedCallLemmas.{first_come, schedule_bypass, schedule_goes_on, entry_of_call}
use Rattle.check_sched.proofs.PublicLaws.{taken_after, taken_number, taken_once}
use Rattle.check_book.specs.contracts.book.BookKept.TheImpl.{ghosts as kept_book}
use Rattle.check_desk.proofs.ScheduleLemmas.{from_parts, joined_parts, legal_from, legal_joined, sched_from, sched_joined, taken_by_one}
use Rattle.check_desk.proofs.laws.headline_from_any_state.Goals as goal

pub returns : goal.returns
returns c = record {
  legal = λ opened s is. legal_from opened s is;
  state = λ opened s is. sched_from opened s is;
  once =
      λ opened s is front back e object run other parts begun.
      taken_once opened.sched front back e object run other (from_parts opened s is front back e parts) begun;
  out =
      λ opened s is front back e object run other parts begun out.
      taken_after opened.sched front back e object run other (from_parts opened s is front back e parts) begun out;
  runs =
      λ opened s is front back e object run parts begun.
      taken_number opened.sched front back e object run (from_parts opened s is front back e parts) begun;
  entries = λ opened s is number. schedule_of kept_book s is.schedule number;
  order = λ opened s is. schedule_order kept_book s is.schedule;
  placed = λ opened s is made is_recorded. entry_of_call kept_book s is.schedule made is_recorded;
  recorded = λ opened s is place lt. call_of_entry kept_book s is.schedule place lt;
  first_come = λ opened s is one other is_one is_other before. first_come kept_book s is.schedule one other is_one is_other before;
  bypass =
      λ opened s is own ticket before after parts i p at has. schedule_bypass kept_book s is.schedule own ticket before after parts i p at has;
  unstuck = λ opened s is i ticket p at waits. schedule_goes_on kept_book s is.schedule i ticket p at waits;
  strangers = λ opened s is number past. schedule_strangers kept_book s is.schedule number past;
  made = λ opened s is. sym (schedule_made kept_book s is.schedule);
  all = λ opened s is i p at stands_for_all. taken_by_one s is.schedule i p at stands_for_all;
  joined_legal = λ from earlier room s is. legal_joined from earlier room s is;
  joined_state = λ from earlier room s is. sched_joined from earlier room s is;
  joined_once =
      λ from earlier room s is front back e object run other parts begun.
      taken_once from front back e object run other (joined_parts from earlier room s is front back e parts) begun;
  joined_out =
      λ from earlier room s is front back e object run other parts begun out.
      taken_after from front back e object run other (joined_parts from earlier room s is front back e parts) begun out;
  joined_runs =
      λ from earlier room s is front back e object run parts begun.
      taken_number from front back e object run (joined_parts from earlier room s is front back e parts) begun;
}
