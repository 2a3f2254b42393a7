-- What the automaton says of the tokens that it has read.
use Rattle.std.proofs.Common.{◌≡◌, ◌↔◌, List, [], ◌∷◌, ◌++◌, IsTrue, Option, Some, None, is_some, refl, sym, ap, ◌∙◌, subst, append_assoc}
use Rattle.asl_grammar.specs.Token.{Token, Spot}
use Rattle.asl_grammar.specs.Grammar.{IsProgram, IsViable, bare}
use Rattle.asl_grammar.specs.Automaton.{Control, ItemStart, Act}
use Rattle.asl_grammar.specs.Seen.{Place, placed, step_at, next_place}
use Rattle.asl_grammar.proofs.Stacks.{Stack, State, state_of, next, run, run_with, whole}
use Rattle.asl_grammar.proofs.Complete.{run_program}
use Rattle.asl_grammar.proofs.Viable.{run-append}
use Rattle.asl_grammar.proofs.Judged.{place_of, place_of_option, next_as, spelled, viable}
use Rattle.asl_diagnose_text.proofs.Led.{Leads, IsAfter}
use Rattle.asl_diagnose_text.specs.WalkView.{is_accepted, MayEndAt, IsStuck, Stands, IsStopped}

-- one more token is read
run_one : (before : List Token) (t : Token) (w : State) (o : Option State) → run (state_of []) before ≡ Some w → next w t ≡ o → run (state_of []) (before ++ t ∷ []) ≡ run_with o (λ m. run m [])
run_one before t w o e n =
    run-append before (t ∷ []) (state_of [])
    ∙ ap (λ (o : Option State). run_with o (λ m. run m (t ∷ []))) e
    ∙ ap (λ (o : Option State). run_with o (λ m. run m [])) n

run_stuck : (before : List Token) (t : Token) (more : List Token) (w : State) → run (state_of []) before ≡ Some w → next w t ≡ None → run (state_of []) (before ++ t ∷ more) ≡ None
run_stuck before t more w e n =
    run-append before (t ∷ more) (state_of [])
    ∙ ap (λ (o : Option State). run_with o (λ m. run m (t ∷ more))) e
    ∙ ap (λ (o : Option State). run_with o (λ m. run m more)) n

program_runs : (ts : List Token) → (p : IsProgram ts) → run (state_of []) ts ≡ Some (state_of p.program)
program_runs ts p = ap (run (state_of [])) (sym p.spelled) ∙ run_program p.program

stuck_viable : (before : List Token) (t : Token) (w : State) → run (state_of []) before ≡ Some w → next w t ≡ None → IsViable (before ++ t ∷ []) → ⊥
stuck_viable before t w e n v =
    let P : List Token → Type 0 = λ us. IsProgram us in
    let p = subst P (append_assoc before (t ∷ []) v.more) v.whole in
    let a : run (state_of []) (before ++ t ∷ v.more) ≡ None = run_stuck before t v.more w e n in
    let b : run (state_of []) (before ++ t ∷ v.more) ≡ Some (state_of p.program) = program_runs (before ++ t ∷ v.more) p in
    cc

-- the automaton with trees continues where the one without does
same_some : (o : Option State) (s : Option (Control × Act)) (p : Place) → place_of_option o ≡ placed s p.kinds → is_some s ≡ is_some o
same_some None None p e = refl
same_some None (Some (c, a)) p e = cc
same_some (Some w) None p e = cc
same_some (Some w) (Some (c, a)) p e = refl

accepted_next : (w : State) (t : Token) → is_accepted (place_of w) t ≡ is_some (next w t)
accepted_next w t = same_some (next w t) (step_at (place_of w) t) (place_of w) (next_as w t)

goes_where : (before : List Token) (w : State) (t : Token) (o : Option State) → run (state_of []) before ≡ Some w → next w t ≡ o → IsTrue (is_some o) ↔ IsViable (before ++ t ∷ [])
goes_where before w t None e n = (λ h. cc, λ v. absurd (stuck_viable before t w e n v))
goes_where before w t (Some v) e n = (λ h. viable (before ++ t ∷ []) v (run_one before t w (Some v) e n), λ v. refl)

goes : (before : List Token) (w : State) (t : Token) → run (state_of []) before ≡ Some w → IsTrue (is_accepted (place_of w) t) ↔ IsViable (before ++ t ∷ [])
goes before w t e =
    let h = goes_where before w t (next w t) e refl in
    let s = accepted_next w t in
    (λ k. h.0 (sym s ∙ k), λ v. s ∙ h.1 v)

not_program : (before : List Token) (w : State) → run (state_of []) before ≡ Some w → whole (Some w) ≡ None → IsProgram before → ⊥
not_program before w e n p =
    let h : whole (Some w) ≡ Some p.program = ap whole (sym e ∙ program_runs before p) in cc

ends_where : (c : Control) (s : Stack) (before : List Token) → run (state_of []) before ≡ Some (record { control = c; stack = s }) → MayEndAt c ↔ IsProgram before
ends_where ItemStart s before e =
    (λ h. record { program = s.items; spelled = spelled before s.items (ap whole e) }, λ p. tt)
ends_where _ s before e = (λ h. absurd h, λ p. absurd (not_program before _ e refl p))

stands_at : (before : List Token) (w : State) → run (state_of []) before ≡ Some w → Stands before (place_of w)
stands_at before w e = record {
  begins = viable before w e;
  goes = λ t. goes before w t e;
  ends = ends_where w.control w.stack before e;
}

stands : (before : List Spot) (p : Place) → Leads before p → Stands (bare before) p
stands before p h =
    let P : Place → Type 0 = λ q. Stands (bare before) q in
    subst P h.place (stands_at (bare before) h.state h.runs)

pub stopped : (all left : List Spot) (p : Place) → IsAfter all p left → IsStuck p left → IsStopped all p
stopped all left p h s = record {
  before = h.before;
  rest = left;
  split = h.split;
  stands = stands h.before p h.leads;
  stuck = s;
}

-- where none is left, and where the next one is not read
pub stopped_end : (all left : List Spot) (p : Place) → IsAfter all p left → left ≡ [] → IsStopped all p
stopped_end all left p h e =
    let P : List Spot → Type 0 = λ ss. IsStuck p ss in
    stopped all left p h (subst P (sym e) tt)

pub stopped_at : (all left more : List Spot) (s : Spot) (p : Place) → IsAfter all p left → left ≡ s ∷ more → next_place p s.token ≡ None → IsStopped all p
stopped_at all left more s p h e n =
    let P : List Spot → Type 0 = λ ss. IsStuck p ss in
    stopped all left p h (subst P (sym e) n)
