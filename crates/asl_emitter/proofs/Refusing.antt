-- The refusals of the steps are those of the whole.
use Rattle.std.proofs.Common.{◌≤◌, ℕ, List, sym, subst}
use Rattle.asl_syntax.specs.Tree.{Item}
use Rattle.asl_lower.specs.Lowered.{Lowered, IsLowering}
use Rattle.asl_lower.specs.OpenSections.{IsBareAccess}
use Rattle.asl_lower.specs.Refused.{HasRoom, IsRefusedLowering as IsNotLowered}
use Rattle.asl_lower.specs.declared.fault.LowerFault.{LowerFault}
use Rattle.asl_lower.specs.declared.fault.LowerFault.TheVariants as lower
use Rattle.asl_lower.proofs.Laid.{one_lowering}
use Rattle.asl_points_to.specs.Classes.{Classed, AreClasses}
use Rattle.asl_points_to.specs.Refused.{IsRefusedClasses as HasNoClasses}
use Rattle.asl_points_to.specs.declared.fault.ClassesFault.{ClassesFault}
use Rattle.asl_points_to.specs.declared.fault.ClassesFault.TheVariants as classes
use Rattle.asl_backward_flow.specs.Flows.{IsFlow, IsEntryFlow, IsRefusedFlow as HasNoFlow}
use Rattle.asl_backward_flow.specs.Needed.{RegionNeeds}
use Rattle.asl_backward_flow.specs.declared.fault.FlowFault.{FlowFault}
use Rattle.asl_backward_flow.specs.declared.fault.FlowFault.TheVariants as flow
use Rattle.asl_emitter.specs.Refused.{IsLowered, IsAccepted, IsRefusedInference}
use Rattle.asl_emitter.specs.Faults.{of_lower, of_classes, of_flow}
use Rattle.asl_emitter.proofs.Making.{entry_flow}

pub is_lowered : (is : List Item) (l : Lowered) → IsLowering is l → HasRoom is → ((function pc : ℕ) → ¬ IsBareAccess l function pc) → IsLowered is
is_lowered is l lowers room inside = record {
  room = room;
  inside = λ m other function pc access. inside function pc (subst (λ (k : Lowered). IsBareAccess k function pc) (sym (one_lowering is l m lowers other)) access);
}

pub lower_refused : (is : List Item) (k_limit : ℕ) (fault : LowerFault) → IsNotLowered is fault → IsRefusedInference is k_limit (of_lower fault)
lower_refused is k_limit (lower.Registers function) h = h
lower_refused is k_limit lower.CodeSize h = h
lower_refused is k_limit (lower.AccessOutsideSection function pc) h = h
lower_refused is k_limit lower.OutOfMemory h = record { room = h.0; inside = h.1 }

pub classes_refused : (is : List Item) (k_limit : ℕ) (l : Lowered) (fault : ClassesFault) → IsLowered is → IsLowering is l → HasNoClasses l fault → IsRefusedInference is k_limit (of_classes fault)
classes_refused is k_limit l classes.TooManyClasses lowered lowers h = record { lowered = lowered; program = record { lowering = l; lowers = lowers; classes = h.0; are_classes = h.1 }; many = h.2 }
classes_refused is k_limit l classes.OutOfMemory lowered lowers h = lowered

pub flow_refused : (is : List Item) (k_limit : ℕ) (l : Lowered) (c : Classed) (fault : FlowFault) → IsLowered is → IsLowering is l → AreClasses l c → c.count ≤ 1024 → HasNoFlow l c k_limit fault → IsRefusedInference is k_limit (of_flow fault)
flow_refused is k_limit l c (flow.TooManyLocks region) lowered lowers are few h = record {
  lowered = lowered;
  analysis = record { program = record { lowering = l; lowers = lowers; classes = c; are_classes = are }; stores = h.stores; tells = h.written };
  few_classes = few;
  many = h.many;
}
flow_refused is k_limit l c flow.OutOfMemory lowered lowers are few h = lowered

pub is_accepted_at_entries : (is : List Item) (k_limit : ℕ) (l : Lowered) (c : Classed) (parts : List RegionNeeds) → IsLowered is → IsLowering is l → AreClasses l c → c.count ≤ 1024 → IsEntryFlow l c k_limit parts → IsAccepted is k_limit
is_accepted_at_entries is k_limit l c parts lowered lowers are few f = record {
  lowered = lowered;
  analysis = record { program = record { lowering = l; lowers = lowers; classes = c; are_classes = are }; stores = f.stores; tells = f.written };
  few_classes = few;
  few_locks = f.few;
}

pub is_accepted : (is : List Item) (k_limit : ℕ) (l : Lowered) (c : Classed) (parts : List RegionNeeds) → IsLowered is → IsLowering is l → AreClasses l c → c.count ≤ 1024 → IsFlow l c k_limit parts → IsAccepted is k_limit
is_accepted is k_limit l c parts lowered lowers are few f = is_accepted_at_entries is k_limit l c parts lowered lowers are few (entry_flow l c k_limit parts f)
