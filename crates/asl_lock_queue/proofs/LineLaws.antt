-- The lists of a queue, after one has got what it asked, has joined the line, or has left.
use Rattle.std.proofs.Common.{◌≡◌, ◌≢◌, ℕ, ◌<◌, ◌≤◌, ◌==◌, not, All, IsTrue, List, [], ◌∷◌, ◌++◌, length, slice_index_or, slice_set, refl, ap, sym, subst, ◌∙◌, inl, inr, arith}
use Rattle.std.proofs.lemmas.Bool.Decides.{eqb_tells}
use Rattle.std.proofs.lemmas.List.{get_or-set_same, get_or-set_other, length-set, append-nil}
use Rattle.std.proofs.lemmas.List.Elements.{All-set, All-push, All-filter, All-head, All-tail, All-cons, All-nil}
use Rattle.asl_lock_forest.specs.Held.{IsForest}
use Rattle.asl_lock_forest.specs.Holding.{Holding, Request, HoldsNothing, CanGrant, grant, release}
use Rattle.asl_lock_forest.specs.Lists.{holding_of}
use Rattle.asl_lock_forest.proofs.Requests.{IsRooted-asked}
use Rattle.asl_lock_forest.proofs.Lawful.{lawful_grant, lawful_release, within_grant, within_release}
use Rattle.asl_lock_queue.proofs.HoldingLists.{lists_granted, lists_released}
use Rattle.asl_lock_queue.specs.Order.{is_rising}
use Rattle.asl_lock_queue.specs.QueueState.{IsAskable}
use Rattle.asl_lock_queue.specs.Lines.{IsOut, IsOnce, AreLined}
use Rattle.asl_lock_queue.proofs.ListFacts.{All-middle, once_middle, once_push, others, once_others, out_others, out_of_others}
use Rattle.asl_lock_queue.proofs.HolderLaws.{empty_holds_nothing}

of_holding : (classes threads : ℕ) (h k : Holding) → h ≡ k → IsForest (record { classes = classes; threads = threads; holding = k })
    → IsForest (record { classes = classes; threads = threads; holding = h })
of_holding classes threads h k same kept = subst (λ x. IsForest (record { classes = classes; threads = threads; holding = x })) (sym same) kept

module _ {classes threads : ℕ} {held wanted : List Request} {line : List ℕ} (lined : AreLined classes threads held wanted line) where
  -- a thread that is out of the line and holds nothing gets what it asked
  pub lined_grant : (t : ℕ) (r : Request) → t < threads → slice_index_or held t [] ≡ [] → IsOut t line → IsAskable classes r
      → CanGrant (holding_of held) t r → AreLined classes threads (slice_set held t r) wanted line
  lined_grant t r there empty out askable free =
      let nothing = empty_holds_nothing held t empty in
      let within : t < length held = let n = lined.held_there in omega (arith, there, n) in
      record {
        forest = of_holding classes threads _ _ (lists_granted held t r within nothing)
            (record {
              lawful = lawful_grant (holding_of held) t r lined.forest.lawful nothing askable.modes (IsRooted-asked r askable.parents) free;
              within = within_grant classes threads (holding_of held) t r lined.forest.within there askable.classes_there;
            });
        held_there = length-set held t r ∙ lined.held_there;
        wanted_there = lined.wanted_there;
        rising = All-set (λ q. IsTrue (is_rising q)) held t r askable.rising lined.rising;
        threads_there = lined.threads_there;
        idle = λ k d below. get_or-set_other held t _ r [] (out k d below) ∙ lined.idle k d below;
        once = lined.once;
        askable = lined.askable;
        unasked = lined.unasked;
      }

  -- a thread that is out of the line joins it at its end
  pub lined_join : (t : ℕ) (r : Request) → t < threads → slice_index_or held t [] ≡ [] → IsOut t line → IsAskable classes r
      → AreLined classes threads held (slice_set wanted t r) (line ++ t ∷ [])
  lined_join t r there empty out askable =
      let within : t < length wanted = let n = lined.wanted_there in omega (arith, there, n) in
      record {
        forest = lined.forest;
        held_there = lined.held_there;
        wanted_there = length-set wanted t r ∙ lined.wanted_there;
        rising = lined.rising;
        threads_there = All-push (λ u. u < threads) line t lined.threads_there there;
        idle = All-push (λ u. slice_index_or held u [] ≡ []) line t lined.idle empty;
        once = once_push line t lined.once out;
        askable = All-push (λ u. IsAskable classes (slice_index_or (slice_set wanted t r) u [])) line t
            (λ k d below. subst (IsAskable classes) (sym (get_or-set_other wanted t _ r [] (out k d below))) (lined.askable k d below))
            (subst (IsAskable classes) (sym (get_or-set_same wanted t r [] within)) askable);
        unasked = λ u free.
            let last = All-middle (λ v. v ≢ u) line t [] free in
            get_or-set_other wanted t u r [] (λ same. last.0 (sym same))
            ∙ lined.unasked u (subst (λ l. All (λ v. v ≢ u) l) (append-nil line) last.1);
      }

  -- a thread gives back what it holds, and its place in the line
  pub lined_leave : (t : ℕ) → t < threads → AreLined classes threads (slice_set held t []) (slice_set wanted t []) (others t line)
  lined_leave t there =
      let within : t < length held = let n = lined.held_there in omega (arith, there, n) in
      let wished : t < length wanted = let n = lined.wanted_there in omega (arith, there, n) in
      let out = out_others t line in
      record {
        forest = of_holding classes threads _ _ (lists_released held t within)
            (record { lawful = lawful_release (holding_of held) t lined.forest.lawful; within = within_release classes threads (holding_of held) t lined.forest.within });
        held_there = length-set held t [] ∙ lined.held_there;
        wanted_there = length-set wanted t [] ∙ lined.wanted_there;
        rising = All-set (λ q. IsTrue (is_rising q)) held t [] refl lined.rising;
        threads_there = All-filter (λ u. not (u == t)) (λ u. u < threads) line lined.threads_there;
        idle = λ k d below.
            get_or-set_other held t _ [] [] (out k d below)
            ∙ All-filter (λ u. not (u == t)) (λ u. slice_index_or held u [] ≡ []) line lined.idle k d below;
        once = once_others t line lined.once;
        askable = λ k d below.
            subst (IsAskable classes) (sym (get_or-set_other wanted t _ [] [] (out k d below)))
            (All-filter (λ u. not (u == t)) (λ u. IsAskable classes (slice_index_or wanted u [])) line lined.askable k d below);
        unasked = λ u free. elim (eqb_tells u t) [
          | inl same ↦ ap (λ v. slice_index_or (slice_set wanted t []) v []) same.1 ∙ get_or-set_same wanted t [] [] wished
          | inr apart ↦ get_or-set_other wanted t u [] [] apart.1 ∙ lined.unasked u (out_of_others t u line (λ same. apart.1 (sym same)) free)
        ];
      }

-- one in the middle of the line gets what it wants
pub lined_go : {classes threads : ℕ} {held wanted : List Request} (front : List ℕ) (t : ℕ) (back : List ℕ) → AreLined classes threads held wanted (front ++ t ∷ back)
    → CanGrant (holding_of held) t (slice_index_or wanted t [])
    → AreLined classes threads (slice_set held t (slice_index_or wanted t [])) (slice_set wanted t []) (front ++ back)
lined_go {classes} {threads} {held} {wanted} front t back lined free =
    let r = slice_index_or wanted t [] in
    let there = (All-middle (λ u. u < threads) front t back lined.threads_there) in
    let idle = (All-middle (λ u. slice_index_or held u [] ≡ []) front t back lined.idle) in
    let once = once_middle front t back lined.once in
    let askable = All-middle (λ u. IsAskable classes (slice_index_or wanted u [])) front t back lined.askable in
    let nothing = empty_holds_nothing held t idle.0 in
    let within : t < length held = let n = lined.held_there in let b = there.0 in omega (arith, b, n) in
    let wished : t < length wanted = let n = lined.wanted_there in let b = there.0 in omega (arith, b, n) in
    record {
      forest = of_holding classes threads _ _ (lists_granted held t r within nothing)
          (record {
            lawful = lawful_grant (holding_of held) t r lined.forest.lawful nothing askable.0.modes (IsRooted-asked r askable.0.parents) free;
            within = within_grant classes threads (holding_of held) t r lined.forest.within there.0 askable.0.classes_there;
          });
      held_there = length-set held t r ∙ lined.held_there;
      wanted_there = length-set wanted t [] ∙ lined.wanted_there;
      rising = All-set (λ q. IsTrue (is_rising q)) held t r askable.0.rising lined.rising;
      threads_there = there.1;
      idle = λ k d below. get_or-set_other held t _ r [] (once.0 k d below) ∙ idle.1 k d below;
      once = once.1;
      askable = λ k d below. subst (IsAskable classes) (sym (get_or-set_other wanted t _ [] [] (once.0 k d below))) (askable.1 k d below);
      unasked = λ u out. elim (eqb_tells u t) [
        | inl same ↦ ap (λ v. slice_index_or (slice_set wanted t []) v []) same.1 ∙ get_or-set_same wanted t [] [] wished
        | inr apart ↦ get_or-set_other wanted t u [] [] apart.1 ∙ lined.unasked u (out_again front t back u (λ same. apart.1 (sym same)) out)
      ];
    }
  where
    out_again : (front : List ℕ) (t : ℕ) (back : List ℕ) (u : ℕ) → t ≢ u → IsOut u (front ++ back) → IsOut u (front ++ t ∷ back)
    out_again [] t back u apart out = All-cons (λ v. v ≢ u) t back apart out
    out_again (x ∷ front) t back u apart out =
        All-cons (λ v. v ≢ u) x (front ++ t ∷ back) (All-head (λ v. v ≢ u) x (front ++ back) out)
        (out_again front t back u apart (All-tail (λ v. v ≢ u) x (front ++ back) out))
