use Rattle.std.proofs.Common.{subst}
use Rattle.asl_syntax.specs.Fault.{IsFault}
use Rattle.asl_syntax.specs.declared.fault.SyntaxFault.{SyntaxFault}
use Rattle.asl_diagnose_text.proofs.NamesThere.{twice_there}
use Rattle.asl_diagnose_text.proofs.syntax_places.syntax_place.Goals as goal

pub twice_place-requires : goal.twice_place-requires
twice_place-requires c =
    let P : SyntaxFault → Type 0 = λ f. IsFault c.args.source.now f in
    twice_there c.args.source.now _ (subst P c.in-Twice.is c.requires)

pub use_place-requires : goal.use_place-requires
use_place-requires c =
    let P : SyntaxFault → Type 0 = λ f. IsFault c.args.source.now f in
    subst P c.in-Unknown.is c.requires
