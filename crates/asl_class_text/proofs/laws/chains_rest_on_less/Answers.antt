use Rattle.asl_class_text.proofs.Meeting.{rests_on_less, rests_on_less_back}
use Rattle.asl_class_text.proofs.laws.chains_rest_on_less.Goals as goal

pub returns-clause-back : goal.returns-clause-back
returns-clause-back c = λ l es a b one other ts us k m g. rests_on_less_back l es a b one other ts us k m g

pub returns-clause-forth : goal.returns-clause-forth
returns-clause-forth c = λ l es a b one other ts us k m g. rests_on_less l es a b one other ts us k m g
