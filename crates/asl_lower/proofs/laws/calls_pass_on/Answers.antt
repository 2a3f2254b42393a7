use Rattle.asl_lower.specs.OpenSections.{CalledOutside, CalledInside, CalledByInner}
use Rattle.asl_lower.proofs.laws.calls_pass_on.Goals as goal

pub returns-clause-outside : goal.returns-clause-outside
returns-clause-outside c l f pc g b i k o = CalledOutside f pc g b i k o

pub returns-clause-inside : goal.returns-clause-inside
returns-clause-inside c l pc g k o = CalledInside pc g k o

pub returns-clause-inner : goal.returns-clause-inner
returns-clause-inner c l f pc g b i k = CalledByInner f pc g b i k
