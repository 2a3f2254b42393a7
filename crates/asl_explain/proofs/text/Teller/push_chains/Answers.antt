use Rattle.std.proofs.Common.{List, ap, ◌∙◌, string_bytes, subst}
use Rattle.asl_class_text.specs.Numbered.{numbered}
use Rattle.asl_explain.specs.declared.text.chains.Under.{Under}
use Rattle.asl_explain.specs.Told.{Part, ChainUnder, under_lines, told_of}
use Rattle.asl_explain.specs.Telling.{Tells, given}
use Rattle.asl_explain.specs.TellingChains.{under_now, under_of}
use Rattle.asl_explain.proofs.Chosen.{numbered_map}
use Rattle.asl_explain.proofs.Piecing.{some_none, some_more, some_all}
use Rattle.asl_explain.proofs.text.Teller.push_chains.Goals as goal

pub loop-number-init : goal.loop-number-init
loop-number-init c = some_none _ _ _

pub loop-number-preserved : goal.loop-number-preserved
loop-number-preserved c =
    let f = (given c.args.self.now).facts in
    some_more (λ n u. under_lines c.args.self.now.all f c.args.function c.args.listed.now.lock n (under_now u)) c.shown_chains-shown.result.now c.loop-number.number _ _ _ _ _ c.loop-number-test.true c.index-shown-number.is c.loop-number.invariant c.in_ok-push_under.ensures

pub returns : goal.returns
returns c =
    let f = (given c.args.self.now).facts in
    let lock = c.args.listed.now.lock in
    let shown = c.shown_chains-shown.result.now in
    let same = c.shown_chains-shown.ensures ∙ ap (told_of c.args.self.now.all) (ap (λ (us : List Under). under_of us) c.deref.ensures.value ∙ c.in_ok-found.ensures) in
    let all = some_all (λ n u. under_lines c.args.self.now.all f c.args.function lock n (under_now u)) shown c.loop-number.number _ _ c.loop-number-test.false c.loop-number.invariant in
    subst (λ (ps : List Part). Tells ps (string_bytes c.args.text.now) (string_bytes c.loop-number.text))
    (numbered_map (under_lines c.args.self.now.all f c.args.function lock) under_now 0 shown ∙ ap (λ (us : List ChainUnder). numbered (under_lines c.args.self.now.all f c.args.function lock) 0 us) same)
    all
