-- A flow that flows.
use Rattle.std.proofs.Common.{◌≡◌, ℕ, Option, Some, None, sym, ap, ◌∙◌, subst}
use Rattle.std.specs.Prelude.{IfSome}
use Rattle.asl_points_to.specs.declared.class_draft.ClassDraft.{ClassDraft}
use Rattle.asl_points_to.specs.declared.value_flow.Place.{Place}
use Rattle.asl_points_to.specs.declared.value_flow.Flow.TheVariants as flow
use Rattle.asl_points_to.specs.Classes.{Classed, inside}
use Rattle.asl_points_to.specs.Draft.{class_in, at, first, pointed, inner, Holds, IsDraft, IsForced, Keeps, PointsTo, HasLoaded}

-- what there is where there is something
pub at_some : (o : Option ℕ) (P : ℕ → Type 0) → IfSome o P → (m : ℕ) → o ≡ Some m → P m
at_some None P h m e = absurd cc
at_some (Some k) P h m e =
    let same : k ≡ m = cc in
    subst P same h

pub loads : (old new : ClassDraft) → Keeps old new → (b a : Place) (x m : ℕ) → pointed old b ≡ Some x → inner old x ≡ Some m → PointsTo new a m → HasLoaded new b a
loads old new k b a x m address source into =
    let i = k.cells x m source in
    record {
      address = x;
      source = i.member;
      address_there = k.registers b x address;
      source_there = i.there;
      into = record { member = into.member; there = into.there; same = into.same ∙ sym i.same };
    }

pub load_forced : (c : Classed) (s : ClassDraft) → IsDraft s → IsForced c s → (b a : Place) (x m : ℕ) → pointed s b ≡ Some x → inner s x ≡ Some m → Holds c (flow.Load b a) → at c a ≡ Some (class_in c m)
load_forced c s d f b a x m address source h =
    h (class_in c x) (class_in c m) (f.registers b x address)
    (ap (inside c) (f.classes x (d.pointed_there b x address)) ∙ f.cells (first s x) m source)
