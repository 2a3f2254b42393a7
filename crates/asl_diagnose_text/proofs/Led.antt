-- The tokens that lead the automaton to a place.
use Rattle.std.proofs.Common.{◌≡◌, List, [], ◌∷◌, ◌++◌, Option, Some, None, refl, sym, ap, ◌∙◌, subst, append_assoc}
use Rattle.asl_grammar.specs.Token.{Spot}
use Rattle.asl_grammar.specs.Seen.{Place, start_place, next_place}
use Rattle.asl_grammar.specs.Grammar.{bare}
use Rattle.asl_grammar.proofs.Stacks.{State, state_of, next, run}
use Rattle.asl_grammar.proofs.Judged.{place_of, place_of_option, next_as, pushed}

-- the automaton with trees gets to the place by these tokens
pub record Leads (before : List Spot) (p : Place) : Type 0 where
  pub state : State
  pub runs : run (state_of []) (bare before) ≡ Some state
  pub place : place_of state ≡ p

-- the tokens before a place
pub record IsAfter (all : List Spot) (p : Place) (left : List Spot) : Type 0 where
  pub before : List Spot
  pub split : all ≡ before ++ left
  pub leads : Leads before p

at_start : (all : List Spot) → IsAfter all start_place all
at_start all = record { before = []; split = refl; leads = record { state = state_of []; runs = refl; place = refl } }

pub after_start : (all left : List Spot) (p : Place) → left ≡ all → p ≡ start_place → IsAfter all p left
after_start all left p e f =
    let P : List Spot → Type 0 = λ ss. IsAfter all p ss in
    let Q : Place → Type 0 = λ q. IsAfter all q all in
    subst P (sym e) (subst Q (sym f) (at_start all))

split_more : (all before rest left : List Spot) (x : Spot) → all ≡ before ++ rest → rest ≡ x ∷ left → all ≡ (before ++ x ∷ []) ++ left
split_more all before rest left x e f =
    e ∙ ap (λ (ss : List Spot). before ++ ss) f ∙ sym (append_assoc before (x ∷ []) left)

-- one token further, with trees too
led_to : (w : State) (x : Spot) (before : List Spot) (o : Option State) (q : Place) → run (state_of []) (bare before) ≡ Some w → next w x.token ≡ o → place_of_option o ≡ Some q → Leads (before ++ x ∷ []) q
led_to w x before None q e n f = cc
led_to w x before (Some v) q e n f = record { state = v; runs = pushed x before w v e n; place = cc }

leads_on : (p q : Place) (x : Spot) (before : List Spot) → Leads before p → Some q ≡ next_place p x.token → Leads (before ++ x ∷ []) q
leads_on p q x before h n =
    led_to h.state x before (next h.state x.token) q h.runs refl
    (next_as h.state x.token ∙ ap (λ (w : Place). next_place w x.token) h.place ∙ sym n)

pub after_next : (all : List Spot) (p q : Place) (x : Spot) (rest left : List Spot) → IsAfter all p rest → rest ≡ x ∷ left → Some q ≡ next_place p x.token → IsAfter all q left
after_next all p q x rest left h e n =
    record {
      before = h.before ++ x ∷ [];
      split = split_more all h.before rest left x h.split e;
      leads = leads_on p q x h.before h.leads n;
    }
