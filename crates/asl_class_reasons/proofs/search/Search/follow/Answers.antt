use Rattle.std.proofs.Common.{◌≡◌, ◌-◌, ◌<◌, ℕ, Some, get_or, slice_get, sym, ap, ◌∙◌, arith}
use Rattle.std.proofs.lemmas.Option.{slice_get-get_or}
use Rattle.asl_class_reasons.specs.declared.place.Place.TheVariants as place
use Rattle.asl_class_reasons.specs.declared.place.Cause.TheVariants as cause
use Rattle.asl_class_reasons.specs.declared.place.Step.{Step}
use Rattle.asl_class_reasons.specs.declared.search.Visit.{Visit}
use Rattle.asl_class_reasons.specs.declared.search.Search.{Search}
use Rattle.asl_class_reasons.specs.Chains.{seen}
use Rattle.asl_class_reasons.proofs.Searching.{entry_seen, reached_forth, reached_back, search_visited, fewer_left}
use Rattle.asl_class_reasons.proofs.search.Search.follow.Goals as goal

-- the step that is read
abbrev none : Step
none = record { cause = cause.Instruction 0; from = place.Member 0; into = place.Member 0 }

pub returns-then-from-eq0-clause-search : goal.returns-then-from-eq0-clause-search
returns-then-from-eq0-clause-search c =
    let t : Search = c.args.self.now in
    let h = c.requires.search in
    let step : Step = get_or c.args.steps.now c.args.index none in
    let at : slice_get c.args.steps.now c.args.index ≡ Some step = slice_get-get_or c.args.steps.now c.args.index none c.requires.there in
    let has = h.steps_there c.args.index step at in
    let into : ℕ = c.index-into.result.now in
    let is = entry_seen t step.into c.number-2.result into h.shaped has.1 c.number-2.ensures c.index-into.ensures in
    let v : Visit = record { place = step.from; step = c.args.index; before = into - 1 } in
    let some : 0 < into = (let n = c.if-into-eq0.false in omega arith) in
    search_visited c.args.steps.now t c.visit.new.self v h c.in_ok-visit.ensures (reached_back c.args.steps.now t step c.args.index into h at some is) has.0

pub returns-then-from-eq0-clause-less : goal.returns-then-from-eq0-clause-less
returns-then-from-eq0-clause-less c = λ _. (
    let t : Search = c.args.self.now in
    let h = c.requires.search in
    let step : Step = get_or c.args.steps.now c.args.index none in
    let at : slice_get c.args.steps.now c.args.index ≡ Some step = slice_get-get_or c.args.steps.now c.args.index none c.requires.there in
    let has = h.steps_there c.args.index step at in
    let is = entry_seen t step.from c.number.result c.index-from.result.now h.shaped has.0 c.number.ensures c.index-from.ensures in
    let v : Visit = record { place = step.from; step = c.args.index; before = c.index-into.result.now - 1 } in
    fewer_left t c.visit.new.self v h.shaped c.in_ok-visit.ensures has.0 (sym is ∙ c.if-from-eq0.true))

pub returns-then-into-gt0-clause-even : goal.returns-then-into-gt0-clause-even
returns-then-into-gt0-clause-even c = λ _ s e. (
    let t : Search = c.args.self.now in
    let h = c.requires.search in
    let step : Step = get_or c.args.steps.now c.args.index none in
    let at : slice_get c.args.steps.now c.args.index ≡ Some step = slice_get-get_or c.args.steps.now c.args.index none c.requires.there in
    let has = h.steps_there c.args.index step at in
    let same : step ≡ s = (let both : Some step ≡ Some s = sym at ∙ e in cc) in
    let from = entry_seen t step.from c.number.result c.index-from.result.now h.shaped has.0 c.number.ensures c.index-from.ensures in
    let into = entry_seen t step.into c.number-2.result c.index-into.result.now h.shaped has.1 c.number-2.ensures c.index-into.ensures in
    let some = c.if-into-gt0.true in (
      λ z. absurd (c.if-from-eq0.false (from ∙ ap (λ (x : Step). seen t x.from) same ∙ z)),
      λ z. (
          let no : c.index-into.result.now ≡ 0 = into ∙ ap (λ (x : Step). seen t x.into) same ∙ z in
          absurd (omega arith)),
    ))

pub visit-requires-2-clause-there : goal.visit-requires-2-clause-there
visit-requires-2-clause-there c =
    (c.requires.search.steps_there c.args.index (get_or c.args.steps.now c.args.index none) (slice_get-get_or c.args.steps.now c.args.index none c.requires.there)).1

pub returns-clause-search : goal.returns-clause-search
returns-clause-search c =
    let t : Search = c.args.self.now in
    let h = c.requires.search in
    let step : Step = get_or c.args.steps.now c.args.index none in
    let at : slice_get c.args.steps.now c.args.index ≡ Some step = slice_get-get_or c.args.steps.now c.args.index none c.requires.there in
    let has = h.steps_there c.args.index step at in
    let from : ℕ = c.index-from.result.now in
    let is = entry_seen t step.from c.number.result from h.shaped has.0 c.number.ensures c.index-from.ensures in
    let v : Visit = record { place = step.into; step = c.args.index; before = from - 1 } in
    let some : 0 < from = (let n = c.if-from-eq0.false in omega arith) in
    search_visited c.args.steps.now t c.visit-2.new.self v h c.in_ok-visit-2.ensures (reached_forth c.args.steps.now t step c.args.index from h at some is) has.1

pub returns-clause-less : goal.returns-clause-less
returns-clause-less c = λ _. (
    let t : Search = c.args.self.now in
    let h = c.requires.search in
    let step : Step = get_or c.args.steps.now c.args.index none in
    let at : slice_get c.args.steps.now c.args.index ≡ Some step = slice_get-get_or c.args.steps.now c.args.index none c.requires.there in
    let has = h.steps_there c.args.index step at in
    let is = entry_seen t step.into c.number-2.result c.index-into.result.now h.shaped has.1 c.number-2.ensures c.index-into.ensures in
    let v : Visit = record { place = step.into; step = c.args.index; before = c.index-from.result.now - 1 } in
    let left : c.index-into.result.now ≡ 0 = (let n = c.if-into-gt0.false in omega arith) in
    fewer_left t c.visit-2.new.self v h.shaped c.in_ok-visit-2.ensures has.1 (sym is ∙ left))
