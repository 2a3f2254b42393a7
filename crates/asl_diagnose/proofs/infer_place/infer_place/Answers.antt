use Rattle.std.proofs.Common.{◌∙◌, sym, ap, subst, arith}
use Rattle.asl_syntax.specs.AstView.{tree_of}
use Rattle.asl_emitter.specs.Refused.{IsRefusedInference}
use Rattle.asl_emitter.specs.declared.fault.InferFault.{InferFault}
use Rattle.asl_emitter.specs.declared.fault.InferFault.TheVariants as infer
use Rattle.asl_diagnose.specs.InferPlaces.{IsInferPlace}
use Rattle.asl_diagnose.proofs.Refused.{registers_there, overfull_there, access_there, access_placed, section_there, body_there}
use Rattle.asl_diagnose.proofs.infer_place.infer_place.Goals as goal

pub word_place-requires : goal.word_place-requires
word_place-requires c =
    let P : InferFault → Type 0 = λ f. IsRefusedInference (tree_of c.args.ast.now) c.requires.refused.0 f in
    omega (arith, c.from.ensures, registers_there c.args.source.now (tree_of c.args.ast.now) c.requires.refused.0 c.in-Registers.function c.requires.parses (subst P c.in-Registers.is c.requires.refused.1))

pub overfull_function-requires : goal.overfull_function-requires
overfull_function-requires c =
    let P : InferFault → Type 0 = λ f. IsRefusedInference (tree_of c.args.ast.now) c.requires.refused.0 f in
    (subst P c.in-CodeSize.is c.requires.refused.1).1

pub word_place-requires-in-CodeSize : goal.word_place-requires-in-CodeSize
word_place-requires-in-CodeSize c =
    overfull_there c.args.source.now (tree_of c.args.ast.now) _ c.requires.parses c.overfull_function.ensures

pub word_place-requires-in-AccessOutsideSection : goal.word_place-requires-in-AccessOutsideSection
word_place-requires-in-AccessOutsideSection c =
    let P : InferFault → Type 0 = λ f. IsRefusedInference (tree_of c.args.ast.now) c.requires.refused.0 f in
    access_there c.args.source.now (tree_of c.args.ast.now) c.requires.refused.0 _ _ _ c.requires.parses (subst P c.in-AccessOutsideSection.is c.requires.refused.1) c.accesses_before.ensures

pub returns-in-AccessOutsideSection : goal.returns-in-AccessOutsideSection
returns-in-AccessOutsideSection c =
    let P : InferFault → Type 0 = λ f. IsRefusedInference (tree_of c.args.ast.now) c.requires.refused.0 f in
    let Q : InferFault → Type 0 = λ f. IsInferPlace c.args.source.now f c.word_place-in-AccessOutsideSection.result in
    subst Q (sym c.in-AccessOutsideSection.is)
    (access_placed c.args.source.now (tree_of c.args.ast.now) c.requires.refused.0 _ _ _ _ c.requires.parses (subst P c.in-AccessOutsideSection.is c.requires.refused.1) c.accesses_before.ensures c.word_place-in-AccessOutsideSection.ensures)

pub region_place-requires : goal.region_place-requires
region_place-requires c =
    let P : InferFault → Type 0 = λ f. IsRefusedInference (tree_of c.args.ast.now) c.requires.refused.0 f in
    record {
      section = λ n e. section_there c.args.source.now (tree_of c.args.ast.now) c.requires.refused.0 n c.requires.parses (subst P (c.in-TooManyLocks.is ∙ ap infer.TooManyLocks e) c.requires.refused.1);
      body = λ n e. body_there c.args.source.now (tree_of c.args.ast.now) c.requires.refused.0 n c.requires.parses (subst P (c.in-TooManyLocks.is ∙ ap infer.TooManyLocks e) c.requires.refused.1);
    }
