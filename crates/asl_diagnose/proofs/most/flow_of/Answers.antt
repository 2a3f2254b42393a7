use Rattle.asl_diagnose.proofs.most.flow_of.Goals as goal

pub returns : goal.returns
returns c = record {
  program = record {
    lowering = c.in_ok-lowering.lowering;
    lowers = c.in_ok-lowering.ensures.lowering;
    classes = c.in_ok-classes.classes;
    are_classes = c.in_ok-classes.ensures.classes;
  };
  flow = c.in_ok-needed.ensures.flow;
}
