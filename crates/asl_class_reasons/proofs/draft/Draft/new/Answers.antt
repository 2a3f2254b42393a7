use Rattle.std.proofs.Common.{ℕ, ◌+◌, ◌*◌, refl}
use Rattle.asl_class_reasons.specs.declared.draft.Draft.{Draft}
use Rattle.asl_class_reasons.proofs.Making.{IsNew, new_sized, new_founded}
use Rattle.asl_class_reasons.proofs.draft.Draft.new.Goals as goal

pub returns-clause-sized : goal.returns-clause-sized
returns-clause-sized c =
    let s : Draft = record { members = c.args.members; functions = c.args.functions; sets = c.in_ok-new.field-0; steps = c.new-2.result } in
    let n : ℕ = c.args.members + c.args.members + c.args.functions * 256 in
    let h : IsNew c.args.members c.args.functions n s = record { few_members = c.requires.members; few_functions = c.requires.functions; members_are = refl; functions_are = refl; size = refl; sets = c.in_ok-new.ensures; none = c.new-2.ensures.items } in
    new_sized c.args.members c.args.functions n s h

pub returns-clause-founded : goal.returns-clause-founded
returns-clause-founded c = λ l em ef. (
    let s : Draft = record { members = c.args.members; functions = c.args.functions; sets = c.in_ok-new.field-0; steps = c.new-2.result } in
    let n : ℕ = c.args.members + c.args.members + c.args.functions * 256 in
    let h : IsNew c.args.members c.args.functions n s = record { few_members = c.requires.members; few_functions = c.requires.functions; members_are = refl; functions_are = refl; size = refl; sets = c.in_ok-new.ensures; none = c.new-2.ensures.items } in
    new_founded l c.args.members c.args.functions n s h em ef)
