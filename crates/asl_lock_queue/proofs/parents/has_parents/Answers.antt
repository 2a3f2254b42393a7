use Rattle.std.proofs.Common.{rules, ℕ, ◌≡◌, ◌<◌, ◌≤◌, ◌+◌, ◌&&◌, true, false, Bool, All, IsTrue, Some, None, List, ◌∷◌, length, get_or, drop, refl, ap, sym, subst, ◌∙◌, arith}
use Rattle.std.specs.List.{list_all}
use Rattle.std.proofs.lemmas.List.{drop_more}
use Rattle.std.proofs.lemmas.List.Elements.{All-head, All-tail}
use Rattle.asl_mode_lanes.specs.declared.mode.Mode.{Mode}
use Rattle.asl_mode_lanes.specs.declared.mode.Mode.TheVariants.{NL}
use Rattle.asl_mode_lanes.specs.Mode.{is_at_most}
use Rattle.asl_lock_forest.specs.declared.node.Node.{Node}
use Rattle.asl_lock_forest.specs.declared.node.Node.TheVariants.{Root, Class}
use Rattle.asl_lock_forest.specs.Node.{parent_of, parent_mode}
use Rattle.asl_lock_forest.specs.Request.{asks_parents, asks_parent_of}
use Rattle.asl_lock_queue.specs.Order.{is_rising}
use Rattle.asl_lock_queue.specs.Front.{first_mode}
use Rattle.asl_lock_queue.proofs.OrderLaws.{below_irrefl}
use Rattle.asl_lock_queue.proofs.ParentLaws.{IsSought, Sought, sought_first, sought_next, rises_drop, cut_is, told_root, told_class, told_leaf}
use Rattle.asl_lock_queue.proofs.parents.has_parents.Goals.{in-Root, in-Class, in-Leaf}
use Rattle.asl_lock_queue.proofs.parents.has_parents.Goals as goal

pub returns-then-not-is_enough : goal.returns-then-not-is_enough
returns-then-not-is_enough c =
    let request = c.args.request.now in
    let ask = get_or request c.loop-ask.ask-index (Root, NL) in
    let others = drop (c.loop-ask.ask-index + 1) request in
    let there : c.loop-ask.ask-index < length request = search rules in
    let front = drop_more request c.loop-ask.ask-index (Root, NL) there in
    let inv = c.loop-ask.invariant in
    let told : is_at_most (parent_mode ask.1) c.match-ask.parent ≡ asks_parent_of request (parent_of ask.0) ask.1 = elim c.match-ask.branch [
      | in-Root w ↦ told_root request ask.0 ask.1 c.match-ask.parent w.in-Root.is w.parent-is
      | in-Class w ↦ told_class request ask.0 ask.1 c.match-ask.parent w.in-Class.field-0 w.in-Class.is c.requires (w.parent-is ∙ c.first_mode-root.ensures)
      | in-Leaf w ↦
          let sought : IsSought request (drop c.loop-ask.at request) ask.0 =
          All-head (λ (a : Node × Mode). IsSought request (drop c.loop-ask.at request) a.0) ask others
          (subst (All (λ (a : Node × Mode). IsSought request (drop c.loop-ask.at request) a.0)) front inv.sought) in
          told_leaf request (drop w.seek-at.result request) ask.0 ask.1 c.match-ask.parent w.in-Leaf.field-0 w.in-Leaf.class w.in-Leaf.is
          (w.seek-at.ensures.rising inv.rising) w.seek-at.ensures.starts (w.parent-is ∙ w.first_mode-parent.ensures ∙ ap (λ l. first_mode l (Class w.in-Leaf.class)) (cut_is request w.seek-at.result))
          (w.seek-at.ensures.same (Class w.in-Leaf.class) (below_irrefl (Class w.in-Leaf.class)) ∙ subst (IsSought request (drop c.loop-ask.at request)) w.in-Leaf.is sought)
    ] in
    let no : asks_parent_of request (parent_of ask.0) ask.1 ≡ false = sym told ∙ sym c.is_enough.ensures ∙ c.if-not-is_enough.true in
    ap (λ b. b && list_all (λ (a : Node × Mode). asks_parent_of request (parent_of a.0) a.1) others) (sym no)
    ∙ ap (list_all (λ (a : Node × Mode). asks_parent_of request (parent_of a.0) a.1)) (sym front)
    ∙ inv.tested

pub loop-ask-preserved : goal.loop-ask-preserved
loop-ask-preserved c =
    let request = c.args.request.now in
    let ask = get_or request c.loop-ask.ask-index (Root, NL) in
    let others = drop (c.loop-ask.ask-index + 1) request in
    let there : c.loop-ask.ask-index < length request = search rules in
    let front = drop_more request c.loop-ask.ask-index (Root, NL) there in
    let inv = c.loop-ask.invariant in
    let told : is_at_most (parent_mode ask.1) c.match-ask.parent ≡ asks_parent_of request (parent_of ask.0) ask.1 = elim c.match-ask.branch [
      | in-Root w ↦ told_root request ask.0 ask.1 c.match-ask.parent w.in-Root.is w.parent-is
      | in-Class w ↦ told_class request ask.0 ask.1 c.match-ask.parent w.in-Class.field-0 w.in-Class.is c.requires (w.parent-is ∙ c.first_mode-root.ensures)
      | in-Leaf w ↦
          let sought : IsSought request (drop c.loop-ask.at request) ask.0 =
          All-head (λ (a : Node × Mode). IsSought request (drop c.loop-ask.at request) a.0) ask others
          (subst (All (λ (a : Node × Mode). IsSought request (drop c.loop-ask.at request) a.0)) front inv.sought) in
          told_leaf request (drop w.seek-at.result request) ask.0 ask.1 c.match-ask.parent w.in-Leaf.field-0 w.in-Leaf.class w.in-Leaf.is
          (w.seek-at.ensures.rising inv.rising) w.seek-at.ensures.starts (w.parent-is ∙ w.first_mode-parent.ensures ∙ ap (λ l. first_mode l (Class w.in-Leaf.class)) (cut_is request w.seek-at.result))
          (w.seek-at.ensures.same (Class w.in-Leaf.class) (below_irrefl (Class w.in-Leaf.class)) ∙ subst (IsSought request (drop c.loop-ask.at request)) w.in-Leaf.is sought)
    ] in
    let yes : asks_parent_of request (parent_of ask.0) ask.1 ≡ true = sym told ∙ sym c.is_enough.ensures ∙ c.if-not-is_enough.false in
    let rises : is_rising (ask ∷ others) ≡ true = subst (λ l. is_rising l ≡ true) front (rises_drop c.loop-ask.ask-index request c.requires) in
    let sought = subst (All (λ (a : Node × Mode). IsSought request (drop c.loop-ask.at request) a.0)) front inv.sought in
    let later : All (λ (a : Node × Mode). IsSought request (drop c.loop-ask.at request) a.0) others = All-tail (λ (a : Node × Mode). IsSought request (drop c.loop-ask.at request) a.0) ask others sought in
    let tested : list_all (λ (a : Node × Mode). asks_parent_of request (parent_of a.0) a.1) others ≡ asks_parents request =
    ap (λ b. b && list_all (λ (a : Node × Mode). asks_parent_of request (parent_of a.0) a.1) others) (sym yes)
    ∙ ap (list_all (λ (a : Node × Mode). asks_parent_of request (parent_of a.0) a.1)) (sym front)
    ∙ inv.tested in
    let stays : (at : ℕ) → at ≡ c.loop-ask.at → Sought request others at = λ at same.
    subst (Sought request others) (sym same) (record { within = inv.within; rising = inv.rising; sought = later }) in
    let all : Sought request others c.match-ask.at = elim c.match-ask.branch [
      | in-Root w ↦ stays c.match-ask.at w.at-is
      | in-Class w ↦ stays c.match-ask.at w.at-is
      | in-Leaf w ↦ subst (Sought request others) (sym w.at-is)
          (record {
            within = w.seek-at.ensures.there;
            rising = w.seek-at.ensures.rising inv.rising;
            sought = sought_next request (drop c.loop-ask.at request) (drop w.seek-at.result request) ask.0 w.in-Leaf.field-0 w.in-Leaf.class others w.in-Leaf.is rises w.seek-at.ensures.same later;
          })
    ] in
    record { within = all.within; rising = all.rising; sought = all.sought; tested = tested }
