use Rattle.std.proofs.Common.{◌≡◌, inl, inr, List, length, sym, subst, ◌∙◌}
use Rattle.std.specs.List.{All}
use Rattle.asl_points_to.specs.declared.value_flow.Flow.{Flow}
use Rattle.asl_points_to.specs.Draft.{IsThere, Holds}
use Rattle.asl_points_to.proofs.Rounds.{IsSettling, settles_there, settling_goes, settling_ahead}
use Rattle.asl_points_to.proofs.settle.settle.Goals as goal

pub round-requires-clause-there : goal.round-requires-clause-there
round-requires-clause-there c = settles_there c.args.flows.items c.args.draft.now c.loop-waiting.draft c.loop-waiting.waiting.items c.loop-waiting.invariant c.requires.there

pub after_round-requires-clause-there : goal.after_round-requires-clause-there
after_round-requires-clause-there c =
    let r = c.in_ok-waiting.ensures in
    let now : IsSettling c.args.flows.items c.args.draft.now c.round.new.draft c.in_ok-waiting.waiting.items =
    settling_goes c.args.flows.items c.args.draft.now c.loop-waiting.draft c.round.new.draft c.loop-waiting.waiting.items c.in_ok-waiting.waiting.items c.loop-waiting.invariant
    (record { draft = r.draft; keeps = r.keeps; flowed = r.flowed; among = r.among; forced = r.forced }) in
    let There : List Flow → Type 0 = λ fs. All (IsThere (length c.round.new.draft.registers.items) (length c.round.new.draft.sets)) fs in
    subst There (sym c.deref.ensures.value) (settles_there c.args.flows.items c.args.draft.now c.round.new.draft c.in_ok-waiting.waiting.items now c.requires.there)

pub loop-waiting-preserved : goal.loop-waiting-preserved
loop-waiting-preserved c =
    let r = c.in_ok-waiting.ensures in
    let a = c.in_ok-rounds.ensures in
    let now : IsSettling c.args.flows.items c.args.draft.now c.round.new.draft c.in_ok-waiting.waiting.items =
    settling_goes c.args.flows.items c.args.draft.now c.loop-waiting.draft c.round.new.draft c.loop-waiting.waiting.items c.in_ok-waiting.waiting.items c.loop-waiting.invariant
    (record { draft = r.draft; keeps = r.keeps; flowed = r.flowed; among = r.among; forced = r.forced }) in
    settling_ahead c.args.flows.items c.args.draft.now c.round.new.draft c.after_round.new.draft c.in_ok-waiting.waiting.items now
    (record { draft = a.draft; keeps = a.keeps; forced = λ k o h. (let All_hold : List Flow → Type 0 = λ fs. All (Holds k) fs in a.forced k o (subst All_hold (sym c.deref.ensures.value) h)) })

settled : (c : goal.After-drop-waiting) → IsSettling c.args.flows.items c.args.draft.now c.round.new.draft c.in_ok-waiting.waiting.items
settled c =
    let r = c.in_ok-waiting.ensures in
    settling_goes c.args.flows.items c.args.draft.now c.loop-waiting.draft c.round.new.draft c.loop-waiting.waiting.items c.in_ok-waiting.waiting.items c.loop-waiting.invariant
    (record { draft = r.draft; keeps = r.keeps; flowed = r.flowed; among = r.among; forced = r.forced })

pub returns-then-len-before-clause-keeps : goal.returns-then-len-before-clause-keeps
returns-then-len-before-clause-keeps c = (settled c).keeps

pub returns-then-len-before-clause-settled : goal.returns-then-len-before-clause-settled
returns-then-len-before-clause-settled c = λ f inside. (
    let same : length c.in_ok-waiting.waiting.items ≡ length c.loop-waiting.waiting.items = sym c.in_ok-waiting.waiting.ok.0 ∙ sym c.len.ensures ∙ c.if-len-before.true ∙ c.len-before.ensures ∙ c.loop-waiting.waiting.ok.0 in
    elim ((settled c).flowed f inside) [ inl done ↦ inl done | inr left ↦ inr (c.in_ok-waiting.ensures.idle same f left) ])

pub returns-then-len-before-clause-forced : goal.returns-then-len-before-clause-forced
returns-then-len-before-clause-forced c = (settled c).forced
