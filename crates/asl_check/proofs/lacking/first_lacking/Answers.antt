use Rattle.std.proofs.Common.{◌≡◌, true, false, List, Some, length, slice_get, refl, sym, ap, subst, inl, inr, arith}
use Rattle.std.proofs.lemmas.Option.{slice_get_read}
use Rattle.asl_code.specs.declared.lock.Lock.{Lock}
use Rattle.asl_backward_flow.specs.Needed.{IsInNeeds}
use Rattle.asl_emitter.specs.Lists.{IsFree}
use Rattle.asl_check.specs.Checked.{IsUnderOne}
use Rattle.asl_check.specs.KnownLists.{ComesFirst}
use Rattle.asl_check.proofs.Judging.{its_lock, judged_more, judged_first, judged_all}
use Rattle.asl_check.proofs.lacking.first_lacking.Goals as goal
use Rattle.asl_check.proofs.lacking.first_lacking.Goals.{then-is_free, else-is_free}

pub loop-number-preserved-then-not-needs : goal.loop-number-preserved-then-not-needs
loop-number-preserved-then-not-needs c = λ p at.
    judged_more c.args.classes.now c.args.function c.args.list.now p c.args.pc c.loop-number.number c.loop-number.first (c.loop-number.invariant p at)
    (λ k a need there.
    let needed : c.needs.result ≡ true = (c.needs.ensures p at).1 (k, need) in
    let not_needed : c.needs.result ≡ false = c.if-not-needs.true in
    cc)

pub loop-number-preserved-then-is_under_one : goal.loop-number-preserved-then-is_under_one
loop-number-preserved-then-is_under_one c = λ p at.
    judged_more c.args.classes.now c.args.function c.args.list.now p c.args.pc c.loop-number.number c.loop-number.first (c.loop-number.invariant p at)
    (λ k a need there.
    let same = its_lock c.locks-locks.result.now p.locks c.loop-number.number c.index-locks-number.result a (c.locks-locks.ensures p at) c.loop-number-test.true c.index-locks-number.is there in
    inl (subst (IsUnderOne c.args.classes.now c.args.function c.args.list.now) same (c.is_under_one.ensures.0 c.if-is_under_one.true)))

pub loop-number-preserved-then-not-comes_first : goal.loop-number-preserved-then-not-comes_first
loop-number-preserved-then-not-comes_first c = λ p at.
    let locks = c.locks-locks.ensures p at in
    let bare : ¬ IsUnderOne c.args.classes.now c.args.function c.args.list.now c.index-locks-number.result = λ u.
    (let under : c.is_under_one.result ≡ true = c.is_under_one.ensures.1 u in let not_under : c.is_under_one.result ≡ false = c.if-is_under_one.false in cc) in
    let after : ¬ ComesFirst p.locks c.loop-number.first c.index-locks-number.result = λ before.
    (let first : c.comes_first.result ≡ true = c.comes_first.ensures.1 (subst (λ (ls : List Lock). ComesFirst ls c.loop-number.first c.index-locks-number.result) (sym locks) before) in
    let not_first : c.comes_first.result ≡ false = c.if-not-comes_first.true in cc) in
    judged_more c.args.classes.now c.args.function c.args.list.now p c.args.pc c.loop-number.number c.loop-number.first (c.loop-number.invariant p at)
    (λ k a need there.
    let same = its_lock c.locks-locks.result.now p.locks c.loop-number.number c.index-locks-number.result a locks c.loop-number-test.true c.index-locks-number.is there in
    inr (subst (λ (x : Lock). ¬ IsUnderOne c.args.classes.now c.args.function c.args.list.now x) same bare, inr (subst (λ (x : Lock). ¬ ComesFirst p.locks c.loop-number.first x) same after)))

pub loop-number-preserved : goal.loop-number-preserved
loop-number-preserved c = λ p at.
    let locks = c.locks-locks.ensures p at in
    let inv = c.loop-number.invariant p at in
    let bare : ¬ IsUnderOne c.args.classes.now c.args.function c.args.list.now c.index-locks-number.result = λ u.
    (let under : c.is_under_one.result ≡ true = c.is_under_one.ensures.1 u in let not_under : c.is_under_one.result ≡ false = c.if-is_under_one.false in cc) in
    let first : ComesFirst p.locks c.loop-number.first c.index-locks-number.result =
    subst (λ (ls : List Lock). ComesFirst ls c.loop-number.first c.index-locks-number.result) locks (c.comes_first.ensures.0 c.if-not-comes_first.false) in
    let needed = (c.needs.ensures p at).0 c.if-not-needs.false in
    let there : slice_get p.locks c.loop-number.number ≡ Some c.index-locks-number.result =
    subst (λ (ls : List Lock). slice_get ls c.loop-number.number ≡ Some c.index-locks-number.result) locks
    (slice_get_read c.locks-locks.result.now (length c.locks-locks.result.now) c.loop-number.number c.index-locks-number.result refl c.loop-number-test.true c.index-locks-number.is) in
    elim c.if-is_free.branch [
      | then-is_free w ↦
          rw w.first-is (judged_first c.args.classes.now c.args.function c.args.list.now p c.args.pc c.loop-number.number needed.0 c.index-locks-number.result c.loop-number.first inv needed.1 there bare first
          ((c.is_free.ensures p at).0 w.if-is_free.true))
      | else-is_free w ↦
          rw w.first-is (judged_more c.args.classes.now c.args.function c.args.list.now p c.args.pc c.loop-number.number c.loop-number.first inv
          (λ k a need own.
          let same = its_lock c.locks-locks.result.now p.locks c.loop-number.number c.index-locks-number.result a locks c.loop-number-test.true c.index-locks-number.is own in
          let held : ¬ IsFree c.args.classes.now c.args.function (IsInNeeds p c.args.pc) c.index-locks-number.result = λ free.
          (let all : c.is_free.result ≡ true = (c.is_free.ensures p at).1 free in let not_all : c.is_free.result ≡ false = w.if-is_free.false in cc) in
          inr (
            subst (λ (x : Lock). ¬ IsUnderOne c.args.classes.now c.args.function c.args.list.now x) same bare,
            inl (subst (λ (x : Lock). ¬ IsFree c.args.classes.now c.args.function (IsInNeeds p c.args.pc) x) same held),
          )))
    ]

pub returns : goal.returns
returns c = λ p at.
    let past = c.loop-number-test.false in
    let same = ap (length {A = Lock}) (c.locks-locks.ensures p at) in
    judged_all c.args.classes.now c.args.function c.args.list.now p c.args.pc c.loop-number.number c.loop-number.first (omega (arith, past, same)) (c.loop-number.invariant p at)
