use Rattle.std.proofs.Common.{rules, refl, get_or, ◌<◌, ◌≡◌, ◌≤◌, map, length, ap, ◌∙◌, arith}
use Rattle.std.proofs.lemmas.Option.{slice_get_read}
use Rattle.asl_lane_sets.specs.NumberSet.{members_of}
use Rattle.asl_lock_expr.specs.Stores.{stores}
use Rattle.asl_lock_expr.proofs.Sets.{told_some, told_past}
use Rattle.asl_lock_expr.proofs.written.Writes.has.Goals as goal

pub returns-in-Some : goal.returns-in-Some
returns-in-Some c =
    let lt : c.from.result < length c.deref.result.now = c.in-Some.ensures.lookup.3.0 in
    let read : c.in-Some.classes.now ≡ get_or c.deref.result.now c.from.result c.in-Some.classes.now = c.in-Some.ensures.lookup.1 in
    let at = slice_get_read c.deref.result.now (length c.deref.result.now) c.from.result c.in-Some.classes.now refl lt read in
    let sets : map members_of c.deref.result.now ≡ c.args.self.now = ap (map members_of) c.deref.ensures.value ∙ c.self.view_is in
    told_some c.deref.result.now c.args.function c.from.result c.args.class c.from-in-Some.result c.in-Some.classes.now c.has_class.result c.from.ensures c.from-in-Some.ensures at c.has_class.ensures
    ∙ ap (λ ls. stores ls c.args.function c.args.class) sets

pub returns-in-None : goal.returns-in-None
returns-in-None c =
    let past : length c.deref.result.now ≤ c.from.result = search rules in
    let sets : map members_of c.deref.result.now ≡ c.args.self.now = ap (map members_of) c.deref.ensures.value ∙ c.self.view_is in
    told_past c.deref.result.now c.args.function c.args.class (omega (arith, past, c.from.ensures)) ∙ ap (λ ls. stores ls c.args.function c.args.class) sets
