use Rattle.asl_machine.proofs.machine.Machine.pause.Goals as goal

pub returns-clause-fits : goal.returns-clause-fits
returns-clause-fits c = rw (← c.self.view_is) (record { machine = c.self.invariant; begins = c.into_firsts.ensures })
