-- A source that has a map is refused only for lack of memory.
use Rattle.std.proofs.Common.{◌≡◌, ℕ, ◌≤◌, List, None, Some, refl, sym, ap, ◌∙◌, subst, arith}
use Rattle.asl_grammar.specs.Lex.{tokens_of}
use Rattle.asl_syntax.specs.Tree.{Item}
use Rattle.asl_syntax.proofs.Plain.{one_tree}
use Rattle.asl_syntax.proofs.Outcomes.{no_fault}
use Rattle.asl_lower.specs.Lowered.{Lowered, IsLowering}
use Rattle.asl_lower.specs.OpenSections.{IsBareAccess}
use Rattle.asl_lower.specs.Refused.{HasRoom, IsRefusedLowering}
use Rattle.asl_lower.specs.declared.fault.LowerFault.{LowerFault}
use Rattle.asl_lower.specs.declared.fault.LowerFault.TheVariants as lower
use Rattle.asl_lower.proofs.Laid.{one_lowering}
use Rattle.asl_points_to.specs.Classes.{Classed, AreClasses}
use Rattle.asl_points_to.specs.Refused.{IsRefusedClasses}
use Rattle.asl_points_to.specs.declared.fault.ClassesFault.{ClassesFault}
use Rattle.asl_points_to.specs.declared.fault.ClassesFault.TheVariants as classes
use Rattle.asl_points_to.proofs.Uniques.{one_classed}
use Rattle.asl_map.specs.declared.fault.MapFault.{MapFault}
use Rattle.asl_map.specs.declared.fault.MapFault.TheVariants as fault
use Rattle.asl_map.specs.declared.map.Map.{Map}
use Rattle.asl_map.specs.Mapped.{HasNoBareAccess, IsMapped, IsRefusedMapping, IsOutOfMemory}

lower_none : (tree : List Item) (l : Lowered) (cause : LowerFault) → IsLowering tree l → HasRoom tree → HasNoBareAccess l → IsRefusedLowering tree cause → cause ≡ lower.OutOfMemory
lower_none tree l (lower.Registers n) h room inside r = let e : None ≡ Some n = sym room.few_registers ∙ r in absurd cc
lower_none tree l lower.CodeSize h room inside r = absurd (omega (arith, room.few_instructions, r.1))
lower_none tree l (lower.AccessOutsideSection f pc) h room inside r =
    absurd (inside f pc (subst (λ (x : Lowered). IsBareAccess x f pc) (one_lowering tree r.1.0 l r.1.1 h) r.1.2.access))
lower_none tree l lower.OutOfMemory h room inside r = refl

classes_none : (l : Lowered) (c : Classed) (cause : ClassesFault) → AreClasses l c → c.count ≤ 1024 → IsRefusedClasses l cause → cause ≡ classes.OutOfMemory
classes_none l c classes.TooManyClasses h few r = absurd (omega (arith, few, r.2, ap (λ (d : Classed). d.count) (one_classed l r.0 c r.1 h)))
classes_none l c classes.OutOfMemory h few r = refl

pub no_refusal : (source : List ℕ) (m : Map) (f : MapFault) → IsMapped source m → IsRefusedMapping source f → IsOutOfMemory f
no_refusal source m (fault.Source cause) h r = no_fault source h.tree cause h.parses r
no_refusal source m (fault.Lower cause) h r =
    let tree : r.0 ≡ h.tree = one_tree r.0 h.tree (tokens_of source) r.1.spelled.spelled h.parses.spelled.spelled in
    lower_none h.tree h.lowered cause h.lowering h.room h.inside (subst (λ (t : List Item). IsRefusedLowering t cause) tree r.2)
no_refusal source m (fault.Classes cause) h r =
    let tree : r.0 ≡ h.tree = one_tree r.0 h.tree (tokens_of source) r.2.spelled.spelled h.parses.spelled.spelled in
    let lowered : r.1 ≡ h.lowered = one_lowering h.tree r.1 h.lowered (subst (λ (t : List Item). IsLowering t r.1) tree r.3.0) h.lowering in
    classes_none h.lowered h.classed cause h.classes h.few (subst (λ (l : Lowered). IsRefusedClasses l cause) lowered r.4)
no_refusal source m fault.OutOfMemory h r = tt
