use Rattle.nagsched_run.proofs.drive.answer_command.Goals as goal

pub returns-in-Call-clause-wrote : goal.returns-in-Call-clause-wrote
returns-in-Call-clause-wrote g c = rw (c.in-Call.is) c.make_call.ensures.wrote

pub returns-in-Save-clause-wrote : goal.returns-in-Save-clause-wrote
returns-in-Save-clause-wrote g c = rw (c.in-Save.is) c.write_saved.ensures

pub returns-in-List-clause-wrote : goal.returns-in-List-clause-wrote
returns-in-List-clause-wrote g c = rw (c.in-List.is) c.write_list.ensures
