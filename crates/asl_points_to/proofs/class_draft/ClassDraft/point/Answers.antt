use Rattle.std.proofs.Common.{ℕ, List, Option, refl, sym, ap, ◌∙◌, length}
use Rattle.std.specs.Vec.{with_items}
use Rattle.std.proofs.lemmas.List.{with_items_is}
use Rattle.asl_points_to.specs.Draft.{entry}
use Rattle.asl_points_to.proofs.Filling.{IsPut, put_forced}
use Rattle.asl_points_to.proofs.class_draft.ClassDraft.point.Goals as goal

is_put : (c : goal.After-self-1) → IsPut c.args.self.now.registers.items (with_items c.args.self.now.registers c.set_pointed.new.registers).items c.args.place c.args.member
is_put c =
    let s = c.args.self.now in
    let h = c.set_pointed.ensures in
    let items = with_items_is s.registers c.set_pointed.new.registers (h.len ∙ ap length c.deref_mut.ensures.value ∙ sym s.registers.ok.0) in
    record {
      here = ap (λ (rows : List (List (Option ℕ))). entry rows c.args.place) items ∙ h.here;
      others = λ p ne. ap (λ (rows : List (List (Option ℕ))). entry rows p) items ∙ h.others p ne ∙ ap (λ (rows : List (List (Option ℕ))). entry rows p) c.deref_mut.ensures.value;
    }

pub returns-in-None-clause-into : goal.returns-in-None-clause-into
returns-in-None-clause-into c = record { member = c.args.member; there = (is_put c).here; same = refl }

pub returns-in-None-clause-forced : goal.returns-in-None-clause-forced
returns-in-None-clause-forced c = λ classes f e. put_forced classes c.args.self.now _ c.args.place c.args.member (is_put c) f e
