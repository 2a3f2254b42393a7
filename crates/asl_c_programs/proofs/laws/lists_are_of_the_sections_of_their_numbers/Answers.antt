use Rattle.std.proofs.Common.{List, subst}
use Rattle.asl_syntax.specs.Tree.{Item}
use Rattle.asl_lower.specs.Lowered.{IsLowering}
use Rattle.asl_c_programs.proofs.Numbered.{own_list}
use Rattle.asl_c_programs.proofs.Sectioned.{own_function, with_lowering}
use Rattle.asl_c_programs.proofs.laws.lists_are_of_the_sections_of_their_numbers.Goals as goal

pub returns : goal.returns
returns c = record {
  list = λ source k n image s compiles section.
      (let program = compiles.inferred.analysis.program in
      let numbered = c.numbers_follow_the_code.ensures.lowering compiles.tree program.lowering program.lowers in
      own_list program.lowering program.classes image n s compiles.inferred.inferred.code numbered section);
  function = λ source k n image m s compiles mapped section.
      (let program = compiles.inferred.analysis.program in
      let l = program.lowering in
      let numbered = c.numbers_follow_the_code.ensures.lowering compiles.tree l program.lowers in
      let listed = c.sections_are_listed.ensures.lowering compiles.tree l program.lowers in
      let tree = c.a_text_has_one_tree.ensures.text mapped.tree compiles.tree source mapped.parses compiles.parsed in
      let same = c.one_lowering.ensures.one compiles.tree mapped.lowered l (subst (λ (t : List Item). IsLowering t mapped.lowered) tree mapped.lowering) program.lowers in
      own_function l program.classes image m m.pieces.items n s compiles.inferred.inferred.code compiles.inferred.inferred.functions
      (with_lowering m mapped.lowered l same mapped.sections) numbered listed c.bodies_part_the_code.ensures.once section);
}
