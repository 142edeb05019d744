use Rattle.std.proofs.Common.{refl, sym}
use Rattle.ticket_steps.proofs.EndlessLemmas.{drawn_holds}
use Rattle.ticket_steps.proofs.OriginLemmas.{call_of_entry}
use Rattle.ticket_steps.proofs.ScheduleLemmas.{schedule_made, schedule_of, schedule_order, schedule_strangers}
use Rattle.ticket_steps.proofs.RecordedCallLemmas.{first_come, schedule_bypass, schedule_goes_on, entry_of_call}
use Rattle.check_sched.specs.State.{opening}
use Rattle.check_sched.proofs.PublicLaws.{taken_next, taken_once}
use Rattle.check_book.specs.contracts.book.BookKept.TheImpl.{ghosts as kept_book}
use Rattle.check_desk.proofs.ScheduleLemmas.{joined_parts, legal_here, legal_joined, legal_parts, sched_here, sched_joined, taken_by_one}
use Rattle.check_desk.proofs.laws.headline.Goals as goal

pub returns : goal.returns
returns c = record {
  legal = λ setup start room s is. legal_here setup start room s is;
  state = λ setup start room s is. sched_here setup start room s is;
  once =
      λ setup start room s is front back e object run other parts begun.
      taken_once (opening setup start) front back e object run other (legal_parts setup start room s is front back e parts) begun;
  runs =
      λ setup start room s is front back e object run parts begun.
      taken_next (opening setup start) front back e object run refl (legal_parts setup start room s is front back e parts) begun;
  entries = λ setup start room s is number. schedule_of kept_book s is.schedule number;
  order = λ setup start room s is. schedule_order kept_book s is.schedule;
  placed = λ setup start room s is made is_recorded. entry_of_call kept_book s is.schedule made is_recorded;
  recorded = λ setup start room s is place lt. call_of_entry kept_book s is.schedule place lt;
  first_come = λ setup start room s is one other is_one is_other before. first_come kept_book s is.schedule one other is_one is_other before;
  bypass =
      λ setup start room s is own ticket before after parts i p at has.
      schedule_bypass kept_book s is.schedule own ticket before after parts i p at has;
  unstuck = λ setup start room s is i ticket p at waits. schedule_goes_on kept_book s is.schedule i ticket p at waits;
  fair = λ s is fair n own ticket draw. drawn_holds kept_book s is fair n own ticket draw;
  strangers = λ setup start room s is number past. schedule_strangers kept_book s is.schedule number past;
  made = λ setup start room s is. sym (schedule_made kept_book s is.schedule);
  all = λ setup start room s is i p at stands_for_all. taken_by_one s is.schedule i p at stands_for_all;
  joined_legal = λ setup start earlier room s is. legal_joined (opening setup start) earlier room s is;
  joined_state = λ setup start earlier room s is. sched_joined (opening setup start) earlier room s is;
  joined_once =
      λ setup start earlier room s is front back e object run other parts begun.
      taken_once (opening setup start) front back e object run other (joined_parts (opening setup start) earlier room s is front back e parts) begun;
  joined_runs =
      λ setup start earlier room s is front back e object run parts begun.
      taken_next (opening setup start) front back e object run refl (joined_parts (opening setup start) earlier room s is front back e parts) begun;
  later_entries = λ setup start earlier room s is number. schedule_of kept_book s is.schedule number;
  later_strangers = λ setup start earlier room s is number past. schedule_strangers kept_book s is.schedule number past;
  later_made = λ setup start earlier room s is. sym (schedule_made kept_book s is.schedule);
  later_all = λ setup start earlier room s is i p at stands_for_all. taken_by_one s is.schedule i p at stands_for_all;
}
