use Rattle.std.proofs.Common.{◌≡◌, map, ap, ◌∙◌}
use Rattle.asl_lock_forest.specs.Held.{Held}
use Rattle.asl_lock_forest.specs.Lists.{holding_of}
use Rattle.asl_lock_forest.proofs.SoundLaws.{sound_copied}
use Rattle.asl_lock_forest.proofs.forest.Forest.try_copy.Goals as goal

lists : (c : goal.In_ok-same_lists) → map (λ v. v.items) c.in_ok-same_lists.field-0.items ≡ map (λ v. v.items) c.self.inside.held.items
lists c = c.in_ok-same_lists.ensures ∙ ap (map (λ v. v.items)) c.as_slice.ensures.value

pub invariant_of-result : goal.invariant_of-result
invariant_of-result c =
    sound_copied c.self.invariant c.in_ok-try_copy.ensures.kept c.in_ok-try_copy.ensures.same c.in_ok-try_copy.ensures.classes (lists c)

pub returns : goal.returns
returns c =
    ap (λ l. let h : Held = record { classes = c.self.inside.classes; threads = c.self.inside.threads; holding = holding_of l } in h) (lists c)
    ∙ c.self.view_is
