-- What a reader without memory has found after some tokens, and what it finds when it reads them again.
use Rattle.std.proofs.Common.{◌≡◌, ℕ, zero, suc, ◌+◌, ◌-◌, ◌<◌, ◌≤◌, List, [], ◌∷◌, Option, Some, None, length, drop, refl, sym, ap, ◌∙◌, subst, arith}
use Rattle.asl_grammar.specs.declared.control.Control as code
use Rattle.asl_grammar.specs.declared.control.Kind.{Kind}
use Rattle.asl_grammar.specs.declared.in_place.Recent.{Recent}
use Rattle.asl_grammar.specs.Token.{Spot}
use Rattle.asl_grammar.specs.Automaton.{Control, Act, step}
use Rattle.asl_grammar.specs.ControlView.{control_of}
use Rattle.asl_grammar.specs.Seen.{Place, start_place, innermost, settled, kinds_after, placed, step_at}
use Rattle.asl_grammar.specs.Recent.{walk, place_after, taken_kind, IsRecent, HasInnermost, IsAfter}
use Rattle.asl_grammar.proofs.Stopping.{fault_from}
use Rattle.asl_grammar.proofs.Walked.{walk_more, drop_next, walk_fault, reads}
use Rattle.asl_grammar.proofs.Again.{AreOpened, IsSeenAs, still_opened, seen_step, leads}

-- ---- the first reading

abbrev pub place_at : code.Control → List Kind → Place
place_at c ks = record { control = control_of c; kinds = ks }

-- the place after the tokens so far, and what is kept of it
pub record IsReached (all : List Spot) (count : ℕ) (c : code.Control) (r : Recent) (rest : List Spot) (to : ℕ) : Type 0 where
  pub kinds : List Kind
  pub walked : place_after count all ≡ Some (place_at c kinds)
  pub left : drop count all ≡ rest
  pub recent : IsRecent r kinds to

-- what is left gives the answer
pub reached_fault : (all : List Spot) (count : ℕ) (c : code.Control) (r : Recent) (rest : List Spot) (to end : ℕ) → (h : IsReached all count c r rest to) → fault_from (place_at c h.kinds) rest end ≡ fault_from start_place all end
reached_fault all count c r rest to end h =
    ap (λ (ss : List Spot). fault_from (place_at c h.kinds) ss end) (sym h.left)
    ∙ walk_fault count start_place (place_at c h.kinds) all end h.walked

-- reading the text again leaves the number of open blocks
pub kept_depth : (all : List Spot) (count : ℕ) (c : code.Control) (r k : Recent) (rest : List Spot) (to : ℕ) → IsReached all count c r rest to → ((p : Place) (n : ℕ) → place_after count all ≡ Some p → IsRecent r p.kinds n → IsRecent k p.kinds n × HasInnermost k) → k.depth ≡ r.depth
kept_depth all count c r k rest to h keeps =
    (keeps (place_at c h.kinds) to h.walked h.recent).0.depth ∙ sym h.recent.depth

-- what is answered at a place is the automaton's
pub at_place : (all : List Spot) (count : ℕ) (c : code.Control) (r k s : Recent) (kind : Kind) (x : Spot) (rest : List Spot) (to : ℕ) (answer : Option code.Control) → (h : IsReached all count c r rest to) → ((p : Place) (n : ℕ) → place_after count all ≡ Some p → IsRecent r p.kinds n → IsRecent k p.kinds n × HasInnermost k) → ((ks : List Kind) (n : ℕ) → IsRecent k ks n → length ks ≤ n → HasInnermost k → kind ≡ innermost ks) → ((ks : List Kind) → IsRecent k ks to → IsAfter (step (settled (control_of c) x.token) kind x.token) ks to answer s) → k.depth ≤ to → IsAfter (step_at (place_at c h.kinds) x.token) h.kinds to answer s
at_place all count c r k s kind x rest to answer h keeps tells goes low =
    let kept = keeps (place_at c h.kinds) to h.walked h.recent in
    let known : kind ≡ innermost h.kinds = tells h.kinds to kept.0 (omega (arith, kept.0.depth)) kept.1 in
    let P : Kind → Type 0 = λ k. IsAfter (step (settled (control_of c) x.token) k x.token) h.kinds to answer s in
    subst P known (goes h.kinds kept.0)

pub no_place : (ks : List Kind) (to : ℕ) (s : Recent) (o : Option (Control × Act)) → IsAfter o ks to None s → placed o ks ≡ None
no_place ks to s None h = refl
no_place ks to s (Some (c, a)) h = absurd h

-- the place after a step
pub record IsPlaced (o : Option (Control × Act)) (ks : List Kind) (to : ℕ) (next : code.Control) (s : Recent) : Type 0 where
  pub kinds : List Kind
  pub reaches : placed o ks ≡ Some (place_at next kinds)
  pub recent : IsRecent s kinds to

some_place : (o : Option (Control × Act)) (ks : List Kind) (to : ℕ) (next : code.Control) (s : Recent) → IsAfter o ks to (Some next) s → IsPlaced o ks to next s
some_place None ks to next s h = absurd h
some_place (Some (c, a)) ks to next s h = record {
  kinds = kinds_after a ks;
  reaches = ap (λ (d : Control). Some (record { control = d; kinds = kinds_after a ks })) (sym h.0);
  recent = h.1;
}

-- one token more
pub reached_next : (all : List Spot) (count : ℕ) (c next : code.Control) (r s : Recent) (x : Spot) (rest more : List Spot) (to : ℕ) → (h : IsReached all count c r rest to) → rest ≡ x ∷ more → IsAfter (step_at (place_at c h.kinds) x.token) h.kinds to (Some next) s → IsReached all (count + 1) next s more to
reached_next all count c next r s x rest more to h e after =
    let q = some_place (step_at (place_at c h.kinds) x.token) h.kinds to next s after in
    record {
      kinds = q.kinds;
      walked = walk_more count _ (place_at c h.kinds) (place_at next q.kinds) x all more h.walked (h.left ∙ e) q.reaches;
      left = drop_next count x all more (h.left ∙ e);
      recent = q.recent;
    }

-- ---- the tokens read again

-- some tokens lead from here to the place p, and what is kept so far is true
pub record IsAgain (c : code.Control) (r : Recent) (to left : ℕ) (rest : List Spot) (p : Place) : Type 0 where
  pub now : Place
  pub leads : walk now left rest ≡ Some p
  pub seen : IsSeenAs now.control (control_of c)
  pub recent : IsRecent r now.kinds to
  pub opened : AreOpened now.kinds

-- what is answered where the automaton makes a step
pub record IsGood (to left : ℕ) (more : List Spot) (p : Place) (answer : Option code.Control) (s : Recent) : Type 0 where
  pub place : Place
  pub rest : walk place left more ≡ Some p
  pub control : Control
  pub seen : IsSeenAs place.control control
  pub act : Act
  pub before : List Kind
  pub kinds : place.kinds ≡ kinds_after act before
  pub opened : AreOpened place.kinds
  pub after : IsAfter (Some (control, act)) before to answer s

good : (c : code.Control) (r s : Recent) (to left : ℕ) (x : Spot) (kind : Kind) (more : List Spot) (p : Place) (answer : Option code.Control) → IsAgain c r to (suc left) (x ∷ more) p → kind ≡ taken_kind r.depth → ((ks : List Kind) → IsRecent r ks to → IsAfter (step (settled (control_of c) x.token) kind x.token) ks to answer s) → IsGood to left more p answer s
good c r s to left x kind more p answer h k goes =
    let read = reads h.now p left x more h.leads in
    let l = leads h.now read.next x.token read.step in
    let seen = seen_step h.now.control (control_of c) h.now.kinds x.token read.next.control l.act h.seen h.opened l.step in
    let same : kind ≡ taken_kind (length h.now.kinds) = k ∙ ap taken_kind h.recent.depth in
    let P : Kind → Type 0 = λ u. IsAfter (step (settled (control_of c) x.token) u x.token) h.now.kinds to answer s in
    let Q : Option (Control × Act) → Type 0 = λ o. IsAfter o h.now.kinds to answer s in
    let R : List Kind → Type 0 = λ ks. AreOpened ks in
    record {
      place = read.next;
      rest = read.rest;
      control = seen.control;
      seen = seen.seen;
      act = l.act;
      before = h.now.kinds;
      kinds = l.kinds;
      opened = subst R (sym l.kinds) (still_opened l.act h.now.kinds h.opened);
      after = subst Q seen.does (subst P same (goes h.now.kinds h.recent));
    }

again_good : (next : code.Control) (to left : ℕ) (more : List Spot) (p : Place) (s : Recent) → IsGood to left more p (Some next) s → IsAgain next s to left more p
again_good next to left more p s g =
    let P : Control → Type 0 = λ d. IsSeenAs g.place.control d in
    let Q : List Kind → Type 0 = λ ks. IsRecent s ks to in
    record {
      now = g.place;
      leads = g.rest;
      seen = subst P (sym g.after.0) g.seen;
      recent = subst Q (sym g.kinds) g.after.1;
      opened = g.opened;
    }

-- where tokens are left, one is found
again_at : (c : code.Control) (r : Recent) (to left : ℕ) (x : Spot) (rest more : List Spot) (p : Place) → 0 < left → rest ≡ x ∷ more → IsAgain c r to left rest p → IsAgain c r to (suc (left - 1)) (x ∷ more) p
again_at c r to left x rest more p n e h =
    let P : ℕ → Type 0 = λ m. IsAgain c r to m rest p in
    let Q : List Spot → Type 0 = λ ss. IsAgain c r to (suc (left - 1)) ss p in
    let same : left ≡ suc (left - 1) = omega arith in
    subst Q e (subst P same h)

pub again_next : (c next : code.Control) (r s : Recent) (to left : ℕ) (x : Spot) (kind : Kind) (rest more : List Spot) (p : Place) → 0 < left → rest ≡ x ∷ more → IsAgain c r to left rest p → kind ≡ taken_kind r.depth → ((ks : List Kind) → IsRecent r ks to → IsAfter (step (settled (control_of c) x.token) kind x.token) ks to (Some next) s) → IsAgain next s to (left - 1) more p
again_next c next r s to left x kind rest more p n e h k goes =
    again_good next to (left - 1) more p s (good c r s to (left - 1) x kind more p (Some next) (again_at c r to left x rest more p n e h) k goes)

pub again_goes : (c : code.Control) (r s : Recent) (to left : ℕ) (x : Spot) (kind : Kind) (rest more : List Spot) (p : Place) → 0 < left → rest ≡ x ∷ more → IsAgain c r to left rest p → kind ≡ taken_kind r.depth → ((ks : List Kind) → IsRecent r ks to → IsAfter (step (settled (control_of c) x.token) kind x.token) ks to None s) → ⊥
again_goes c r s to left x kind rest more p n e h k goes =
    (good c r s to (left - 1) x kind more p None (again_at c r to left x rest more p n e h) k goes).after

none_again : (left : ℕ) (now p : Place) → 0 < left → walk now left [] ≡ Some p → ⊥
none_again zero now p n h = omega arith
none_again (suc left) now p n h = cc

pub again_found : (c : code.Control) (r : Recent) (to left : ℕ) (rest : List Spot) (p : Place) → 0 < left → rest ≡ [] → IsAgain c r to left rest p → ⊥
again_found c r to left rest p n e h =
    none_again left h.now p n (ap (walk h.now left) (sym e) ∙ h.leads)

end_again : (r : Recent) (to left : ℕ) (rest : List Spot) (now p : Place) → left ≤ 0 → walk now left rest ≡ Some p → IsRecent r now.kinds to → IsRecent r p.kinds to
end_again r to zero rest now p n h k =
    let P : Place → Type 0 = λ q. IsRecent r q.kinds to in
    let same : now ≡ p = cc in
    subst P same k
end_again r to (suc left) rest now p n h k = absurd (omega arith)

pub again_end : (c : code.Control) (r : Recent) (to left : ℕ) (rest : List Spot) (p : Place) → left ≤ 0 → IsAgain c r to left rest p → IsRecent r p.kinds to
again_end c r to left rest p n h = end_again r to left rest h.now p n h.leads h.recent
