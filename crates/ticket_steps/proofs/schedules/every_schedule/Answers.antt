use Rattle.std.proofs.Common.{arith}
use Rattle.ticket_steps.specs.declared.seats.CoreSeat.{CoreSeat}
use Rattle.ticket_steps.proofs.ScheduleLemmas.{schedule_lawful, schedule_book, schedule_made, schedule_ended, schedule_of, schedule_glanced, schedule_strangers}
use Rattle.ticket_steps.proofs.ScheduleLemmas.{lawful_line, schedule_order}
use Rattle.ticket_steps.proofs.OriginLemmas.{call_of_entry}
use Rattle.ticket_steps.proofs.RecordedCallLemmas.{first_come, schedule_bypass, schedule_goes_on, entry_of_call}
use Rattle.ticket_steps.proofs.SeatLemmas.{alone, named_once, one_holder, served_le, unnumbered_calls}
use Rattle.ticket_steps.proofs.schedules.every_schedule.Goals as goal

pub returns : goal.returns
returns g c = record {
  one_holder = λ s is. one_holder s.numbers s.draws s.end (schedule_lawful g.K.Kept s is);
  holder = λ s is i ticket p at phase. ((schedule_lawful g.K.Kept s is).each i p at).holder ticket phase;
  line = λ s is. let l = schedule_lawful g.K.Kept s is in lawful_line s.numbers s.draws s.end l (served_le s.numbers s.draws s.end l);
  counted = λ s is. (schedule_lawful g.K.Kept s is).counted;
  made = λ s is. schedule_made g.K.Kept s is;
  ended = λ s is. schedule_ended g.K.Kept s is;
  calls = λ s is. (schedule_lawful g.K.Kept s is).calls;
  alone = λ s is i p at all.
      let l = schedule_lawful g.K.Kept s is in
      omega (
        arith,
        l.calls,
        alone s.numbers s.draws s.end l i p at (omega (arith, all))
            (λ (q : CoreSeat). q.calls) (λ k u e none. unnumbered_calls s.draws s.end.served u (l.each k u e) none),
      );
  lawful = λ s is. schedule_book g.K.Kept s is;
  entries = λ s is. schedule_of g.K.Kept s is;
  order = λ s is. schedule_order g.K.Kept s is;
  placed = λ s is made is_recorded. entry_of_call g.K.Kept s is made is_recorded;
  recorded = λ s is place lt. call_of_entry g.K.Kept s is place lt;
  first_come = λ s is one other is_one is_other before. first_come g.K.Kept s is one other is_one is_other before;
  bypass = λ s is own ticket before after parts i p at has. schedule_bypass g.K.Kept s is own ticket before after parts i p at has;
  unstuck = λ s is i ticket p at waits. schedule_goes_on g.K.Kept s is i ticket p at waits;
  glanced = λ s is own place word before after happenings. schedule_glanced g.K.Kept s is own place word before after happenings;
  strangers = λ s is. schedule_strangers g.K.Kept s is;
  named = λ s is i k p q at there at' there' same. named_once s.numbers s.draws s.end (schedule_lawful g.K.Kept s is) i k p q at at' there there' same;
  numbered = λ s is. (schedule_lawful g.K.Kept s is).numbered;
  supply = λ s is. (schedule_lawful g.K.Kept s is).supply;
}
