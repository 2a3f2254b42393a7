-- What a draft says is kept.
use Rattle.std.proofs.Common.{◌≡◌, ℕ, ◌⊎◌, inl, inr, Option, None, Some, refl, sym, ◌∙◌}
use Rattle.asl_points_to.specs.declared.class_draft.ClassDraft.{ClassDraft}
use Rattle.asl_points_to.specs.declared.value_flow.Place.{Place}
use Rattle.asl_points_to.specs.declared.value_flow.Flow.{Flow}
use Rattle.asl_points_to.specs.declared.value_flow.Flow.TheVariants as flow
use Rattle.asl_points_to.specs.Classes.{Classed}
use Rattle.asl_points_to.specs.Draft.{first, class_in, IsForcedMerge, AreNext, IsMerged, Keeps, PointsTo, CellsPointTo, HasFlowed}

pub keeps_itself : (s : ClassDraft) → Keeps s s
keeps_itself s = record {
  members = refl;
  functions = refl;
  classes = λ m n e. e;
  registers = λ p m e. e;
  cells = λ x m e. record { member = m; there = e; same = refl };
}

pub keeps_on : (old mid new : ClassDraft) → Keeps old mid → Keeps mid new → Keeps old new
keeps_on old mid new k l = record {
  members = l.members ∙ k.members;
  functions = l.functions ∙ k.functions;
  classes = λ m n e. l.classes m n (k.classes m n e);
  registers = λ p m e. l.registers p m (k.registers p m e);
  cells = λ x m e. (let a = k.cells x m e in let b = l.cells x a.member a.there in record { member = b.member; there = b.there; same = b.same ∙ l.classes a.member m a.same });
}

-- what has flowed stays so
points_on : (old new : ClassDraft) → Keeps old new → (p : Place) (m : ℕ) → PointsTo old p m → PointsTo new p m
points_on old new k p m h =
    record { member = h.member; there = k.registers p h.member h.there; same = k.classes h.member m h.same }

cells_on : (old new : ClassDraft) → Keeps old new → (x m : ℕ) → CellsPointTo old x m → CellsPointTo new x m
cells_on old new k x m h =
    let a = k.cells x h.member h.there in
    record { member = a.member; there = a.there; same = a.same ∙ k.classes h.member m h.same }

pub flowed_on : (old new : ClassDraft) → Keeps old new → (f : Flow) → HasFlowed old f → HasFlowed new f
flowed_on old new k (flow.Member m a) h = points_on old new k a m h
flowed_on old new k (flow.Copy b a) h =
    record { source = h.source; source_there = k.registers b h.source h.source_there; into = points_on old new k a h.source h.into }
flowed_on old new k (flow.Load b a) h =
    let i = k.cells h.address h.source h.source_there in
    let p = points_on old new k a h.source h.into in
    record {
      address = h.address;
      source = i.member;
      address_there = k.registers b h.address h.address_there;
      source_there = i.there;
      into = record { member = p.member; there = p.there; same = p.same ∙ sym i.same };
    }
flowed_on old new k (flow.Store a b) h =
    record {
      address = h.address;
      source = h.source;
      address_there = k.registers a h.address h.address_there;
      source_there = k.registers b h.source h.source_there;
      into = cells_on old new k h.address h.source h.into;
    }

-- two merges, one after the other
met_on : (mid new : ClassDraft) (next : Option (ℕ × ℕ)) (left right i m : ℕ) → IsMerged mid new left right next → (first mid i ≡ first mid m) ⊎ AreNext mid (Some (left, right)) i m → first new i ≡ first new m
met_on mid new next left right i m n (inl e) = n.classes i m e
met_on mid new next left right i m n (inr e) = n.classes i left e.0 ∙ n.joined ∙ sym (n.classes m right e.1)

next_on : (new : ClassDraft) (next : Option (ℕ × ℕ)) (j i m : ℕ) → first new i ≡ first new m → (first new j ≡ first new i) ⊎ AreNext new next j i → (first new j ≡ first new m) ⊎ AreNext new next j m
next_on new next j i m e (inl h) = inl (h ∙ e)
next_on new None j i m e (inr h) = absurd h
next_on new (Some p) j i m e (inr h) = inr (h.0, sym e ∙ h.1)

pub merged_on : (old mid new : ClassDraft) (left right a b : ℕ) (next : Option (ℕ × ℕ)) → IsMerged old mid left right (Some (a, b)) → IsMerged mid new a b next → IsMerged old new left right next
merged_on old mid new left right a b next m n = record {
  members = n.members ∙ m.members;
  registers = n.registers ∙ m.registers;
  joined = n.classes left right m.joined;
  classes = λ x y e. n.classes x y (m.classes x y e);
  cells = λ x k e. (
      let i = m.cells x k e in
      let j = n.cells x i.0 i.1 in
      (j.0, j.1, next_on new next j.0 i.0 k (met_on mid new next a b i.0 k n i.2) j.2));
  there = n.there;
}

pub forced_on : (c : Classed) (mid : ClassDraft) (a b : ℕ) → IsForcedMerge c mid (Some (a, b)) → class_in c a ≡ class_in c b
forced_on c mid a b f = f.both
