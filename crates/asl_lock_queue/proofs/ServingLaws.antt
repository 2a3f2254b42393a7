-- A line is served one thread after the other: who is kept stays, who may go goes.
use Rattle.std.proofs.Common.{◌≡◌, ◌≢◌, ℕ, ◌<◌, ◌≤◌, ◌+◌, All, List, [], ◌∷◌, ◌++◌, length, map, slice_index_or, slice_set, refl, ap, sym, subst, ◌∙◌, inl, inr, arith}
use Rattle.std.proofs.lemmas.List.{append-nil, append_assoc, map-append, length-append}
use Rattle.std.proofs.lemmas.List.Elements.{All-nil, All-push, All-weaker}
use Rattle.asl_lock_forest.specs.declared.node.Node.{Node}
use Rattle.asl_lock_forest.specs.Holding.{Holding, held, Request, asked, CanGrant, grant}
use Rattle.asl_lock_forest.specs.Lists.{holding_of}
use Rattle.asl_lock_forest.proofs.Laws.{held_grant_own, held_grant_other}
use Rattle.asl_lock_queue.proofs.HoldingLists.{lists_granted}
use Rattle.asl_lock_queue.specs.Waiting.{Waiter, IsKept, AreKept, MayGo}
use Rattle.asl_lock_queue.specs.Served.{IsDealt, granted}
use Rattle.asl_lock_queue.specs.Lines.{waiter, waiting_of, IsOut, AreLined}
use Rattle.asl_lock_queue.specs.Serving.{IsServing, IsLineServed}
use Rattle.asl_lock_queue.proofs.ListFacts.{All-middle, All-left, All-right, once_middle, waiting_set}
use Rattle.asl_lock_queue.proofs.HolderLaws.{empty_holds_nothing, kept_grant, kept_push}
use Rattle.asl_lock_queue.proofs.LineLaws.{lined_go}

granted_push : (h : Holding) (going : List Waiter) (w : Waiter) → granted h (going ++ w ∷ []) ≡ grant (granted h going) w.0 w.1
granted_push h [] w = refl
granted_push h (v ∷ going) w = granted_push (grant h v.0 v.1) going w

waiting_push : (wanted : List Request) (front : List ℕ) (t : ℕ) → waiting_of wanted (front ++ t ∷ []) ≡ waiting_of wanted front ++ waiter wanted t ∷ []
waiting_push wanted front t = map-append (waiter wanted) front (t ∷ [])

module _ {classes threads : ℕ} {first : Holding} {waiters : List Waiter} where
  -- before the first
  pub serving_first : (holders wanted : List Request) (line : List ℕ) → AreLined classes threads holders wanted line → first ≡ holding_of holders
      → waiters ≡ waiting_of wanted line → IsServing classes threads first waiters holders wanted [] line []
  serving_first holders wanted line lined was are = record {
    lined = lined;
    kept = tt;
    going = [];
    names = refl;
    holding = sym was;
    dealt = λ staying gone dealt. subst (λ l. IsDealt [] l staying gone) (sym are) dealt;
    holds = All-nil _;
    apart = All-nil _;
  }

  -- one who is kept stays
  pub serving_stays : {holders wanted : List Request} {front : List ℕ} {t : ℕ} {back : List ℕ} {names : List ℕ}
      → IsServing classes threads first waiters holders wanted front (t ∷ back) names
      → IsKept (holding_of holders) (waiting_of wanted front) t (slice_index_or wanted t [])
      → IsServing classes threads first waiters holders wanted (front ++ t ∷ []) back names
  serving_stays {holders} {wanted} {front} {t} {back} serving kept =
      let same : front ++ t ∷ back ≡ (front ++ t ∷ []) ++ back = sym (append_assoc front (t ∷ []) back) in record {
        lined = subst (AreLined classes threads holders wanted) same serving.lined;
        kept = subst (AreKept (holding_of holders) []) (sym (waiting_push wanted front t))
            (kept_push (holding_of holders) [] (waiting_of wanted front) (waiter wanted t) serving.kept kept);
        going = serving.going;
        names = serving.names;
        holding = serving.holding;
        dealt = λ staying gone dealt.
            subst (λ l. IsDealt [] waiters l (serving.going ++ gone))
            (sym (append_assoc (waiting_of wanted front) (waiter wanted t ∷ []) staying) ∙ ap (λ l. l ++ staying) (sym (waiting_push wanted front t)))
            (serving.dealt (waiter wanted t ∷ staying) gone
            (inl (staying, refl, subst (λ l. IsDealt l (waiting_of wanted back) staying gone) (waiting_push wanted front t) dealt)));
        holds = serving.holds;
        apart = All-weaker _ _ (λ w out. subst (IsOut w.0) same out) serving.going serving.apart;
      }

  -- one in whose way nobody is goes
  pub serving_goes : {holders wanted : List Request} {front : List ℕ} {t : ℕ} {back : List ℕ} {names : List ℕ}
      → IsServing classes threads first waiters holders wanted front (t ∷ back) names
      → MayGo (holding_of holders) (waiting_of wanted front) t (slice_index_or wanted t [])
      → IsServing classes threads first waiters (slice_set holders t (slice_index_or wanted t [])) (slice_set wanted t []) front back (names ++ t ∷ [])
  serving_goes {holders} {wanted} {front} {t} {back} serving may =
      let r = slice_index_or wanted t [] in
      let lined = serving.lined in
      let once = once_middle front t back lined.once in
      let idle = All-middle (λ u. slice_index_or holders u [] ≡ []) front t back lined.idle in
      let there = All-middle (λ u. u < threads) front t back lined.threads_there in
      let within : t < length holders = let n = lined.held_there in let b = there.0 in omega (arith, b, n) in
      let nothing = empty_holds_nothing holders t idle.0 in
      let got : holding_of (slice_set holders t r) ≡ grant (holding_of holders) t r = lists_granted holders t r within nothing in
      let fronts : waiting_of (slice_set wanted t []) front ≡ waiting_of wanted front = waiting_set wanted t [] front (All-left (λ u. u ≢ t) front back once.0) in
      let backs : waiting_of (slice_set wanted t []) back ≡ waiting_of wanted back = waiting_set wanted t [] back (All-right (λ u. u ≢ t) front back once.0) in
      record {
        lined = lined_go front t back lined may.holders;
        kept = subst (λ l. AreKept (holding_of (slice_set holders t r)) [] l) (sym fronts)
            (subst (λ h. AreKept h [] (waiting_of wanted front)) (sym got) (kept_grant (holding_of holders) t r [] (waiting_of wanted front) nothing serving.kept));
        going = serving.going ++ waiter wanted t ∷ [];
        names = ap (λ l. l ++ t ∷ []) serving.names ∙ sym (map-append (λ (w : Waiter). w.0) serving.going (waiter wanted t ∷ []));
        holding = got ∙ ap (λ h. grant h t r) serving.holding ∙ sym (granted_push first serving.going (waiter wanted t));
        dealt = λ staying gone dealt.
            subst (λ l. IsDealt [] waiters l ((serving.going ++ waiter wanted t ∷ []) ++ gone)) (ap (λ l. l ++ staying) (sym fronts))
            (subst (IsDealt [] waiters (waiting_of wanted front ++ staying)) (sym (append_assoc serving.going (waiter wanted t ∷ []) gone))
            (serving.dealt staying (waiter wanted t ∷ gone)
            (inr (
              gone,
              refl,
              may.waiters,
              subst (λ l. IsDealt l (waiting_of wanted back) staying gone) fronts
                  (subst (λ l. IsDealt (waiting_of (slice_set wanted t []) front) l staying gone) backs dealt),
            ))));
        holds = All-push (λ (v : Waiter). (node : Node) → held (holding_of (slice_set holders t r)) v.0 node ≡ asked v.1 node) serving.going (waiter wanted t)
            (λ k d below node. let u = (slice_index_or serving.going k d).0 in
            ap (λ h. held h u node) got
            ∙ held_grant_other (holding_of holders) t r u node (λ same. (All-middle (λ v. v ≢ u) front t back (serving.apart k d below)).0 (sym same))
            ∙ serving.holds k d below node)
            (λ node. ap (λ h. held h t node) got ∙ held_grant_own (holding_of holders) t r node nothing);
        apart = All-push (λ (w : Waiter). IsOut w.0 (front ++ back)) serving.going (waiter wanted t)
            (All-weaker _ _ (λ w out. (All-middle (λ u. u ≢ w.0) front t back out).1) serving.going serving.apart)
            once.0;
      }

  -- after the last
  pub serving_last : {holders wanted : List Request} {front back : List ℕ} {names : List ℕ} → IsServing classes threads first waiters holders wanted front back names
      → back ≡ [] → IsLineServed classes threads first waiters holders wanted front names
  serving_last {holders} {wanted} {front} {back} serving none =
      let all : front ++ back ≡ front = ap (λ l. front ++ l) none ∙ append-nil front in record {
        lined = subst (AreLined classes threads holders wanted) all serving.lined;
        kept = serving.kept;
        going = serving.going;
        names = serving.names;
        holding = serving.holding;
        dealt = subst (λ l. IsDealt [] waiters l serving.going) (append-nil (waiting_of wanted front))
            (subst (IsDealt [] waiters (waiting_of wanted front ++ [])) (append-nil serving.going)
            (serving.dealt [] [] (subst (λ l. IsDealt (waiting_of wanted front) (waiting_of wanted l) [] []) (sym none) (refl, refl))));
        holds = serving.holds;
      }
