use Rattle.std.proofs.Common.{◌≡◌, ◌*◌, ◌++◌, ◌∙◌, ℕ, List, [], ◌∷◌, Vec, Global, length, get_or, refl, ap, sym, subst, arith}
use Rattle.std.specs.List.{Contains}
use Rattle.asl_lane_sets.specs.NumberSet.{IsRising, members_of}
use Rattle.asl_lane_sets.specs.Packed.{ones}
use Rattle.asl_lane_sets.proofs.Members.{first_ones, word_more, no_ones, lanes_members, ones_rise, members_tell}
use Rattle.asl_lane_sets.proofs.bits.Bits.members.Goals as goal
use Rattle.asl_lane_sets.proofs.bits.Bits.members.Goals.{then-lane-ne0+in_ok-add_members, else-lane-ne0}

abbrev vec_items : Vec ℕ Global → List ℕ
vec_items v = v.items

pub lane-lane-requires : goal.lane-lane-requires
lane-lane-requires c = omega (arith, c.loop-place-test.true, c.len-place-end.ensures)

pub overflow_mul-place : goal.overflow_mul-place
overflow_mul-place c =
    let fits = c.self.invariant.fits in
    let count = c.self.invariant.count in
    let lt = c.loop-place-test.true in
    record { fits = omega (arith, fits, count, lt, c.len-place-end.ensures) }

pub add_members-requires : goal.add_members-requires
add_members-requires c =
    let fits = c.self.invariant.fits in
    let count = c.self.invariant.count in
    let lt = c.loop-place-test.true in
    omega (arith, fits, count, lt, c.len-place-end.ensures)

pub loop-place-preserved : goal.loop-place-preserved
loop-place-preserved c =
    let lanes = c.self.inside.lanes in
    let place : ℕ = c.loop-place.place in
    let more = word_more lanes place (get_or lanes place 0) refl in
    elim c.if-lane-ne0.branch [
      | then-lane-ne0+in_ok-add_members w ↦
          ap vec_items w.members-is ∙ w.in_ok-add_members.ensures ∙ ap (λ xs. xs ++ ones c.lane-lane.result (place * 64) 64) c.loop-place.invariant ∙ ap (λ n. first_ones lanes (64 * place) ++ ones n (place * 64) 64) c.lane-lane.ensures ∙ sym more
      | else-lane-ne0 w ↦
          let zero : get_or lanes place 0 ≡ 0 = sym c.lane-lane.ensures ∙ w.if-lane-ne0.false in
          ap vec_items w.members-is ∙ c.loop-place.invariant ∙ sym (more ∙ ap (λ n. first_ones lanes (64 * place) ++ ones n (place * 64) 64) zero ∙ ap (λ xs. first_ones lanes (64 * place) ++ xs) (no_ones (place * 64) 64) ∙ nothing_more (first_ones lanes (64 * place)))
    ]
  where
    nothing_more : (xs : List ℕ) → xs ++ [] ≡ xs
    nothing_more [] = refl
    nothing_more (x ∷ xs) = ap (λ ys. x ∷ ys) (nothing_more xs)

pub returns-clause-listed : goal.returns-clause-listed
returns-clause-listed c =
    let end : c.loop-place.place ≡ length c.self.inside.lanes = omega (arith, c.loop-place-test.false, c.loop-place.auto.place-end, c.len-place-end.ensures) in
    c.loop-place.invariant ∙ ap (λ n. first_ones c.self.inside.lanes (64 * n)) end
    ∙ lanes_members c.self.inside.len c.self.inside.lanes c.self.invariant ∙ ap members_of c.self.view_is

pub returns-clause-rising : goal.returns-clause-rising
returns-clause-rising c = subst IsRising (sym c.loop-place.invariant) (ones_rise c.self.inside.lanes (64 * c.loop-place.place))

pub returns-clause-numbers : goal.returns-clause-numbers
returns-clause-numbers c k =
    let told = members_tell c.args.self.now k in
    let is = returns-clause-listed c in
    (λ h. told.0 (subst (λ xs. Contains xs k) is h), λ h. subst (λ xs. Contains xs k) (sym is) (told.1 h))
