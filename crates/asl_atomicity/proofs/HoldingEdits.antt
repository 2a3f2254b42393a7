-- What a step does to the holding leaves the entries of other threads, so what the steps of two threads do to it can change places.
use Rattle.std.proofs.Common.{◌≡◌, ◌≢◌, ℕ, ◌==◌, Bool, true, false, Some, refl, ap, sym, ◌∙◌, subst, inl, inr}
use Rattle.std.specs.Prelude.{if◌then◌else◌}
use Rattle.std.specs.FinMap as map
use Rattle.std.proofs.lemmas.Bool.Decides.{eqb_tells}
use Rattle.asl_lock_forest.specs.declared.node.Node.{Node}
use Rattle.asl_lock_forest.specs.Keys.{Key, key}
use Rattle.asl_lock_forest.specs.Holding.{Holding, Request, asked, grant, release}
use Rattle.asl_lock_forest.specs.Request.{names}
use Rattle.asl_lock_forest.proofs.KeyLaws.{key_total, key_exact}
use Rattle.asl_lock_forest.proofs.Laws.{get_release_own, get_release_other, get_grant_own, get_grant_other}
use Rattle.asl_machine.specs.declared.fate.Fate.{Fate}
use Rattle.asl_machine.specs.declared.fate.Fate.TheVariants as fate
use Rattle.asl_machine.specs.StepFunction.{holding_after, release_fate, acquire_fate}
use Rattle.asl_atomicity.proofs.Uniform.{HoldingEdit, After, Acquired, Released, edit}

after_other : (f : Fate) (t : ℕ) (h : Holding) (q : Key) → q.thread ≢ t → map.get (holding_after f t h) q ≡ map.get h q
after_other fate.Continues t h q apart = refl
after_other (fate.Shows v) t h q apart = refl
after_other (fate.Ends v) t h q apart = refl
after_other (fate.Fails f) t h q apart = get_release_other h t q apart
after_other fate.Waits t h q apart = refl

-- an edit leaves other threads' entries, and of its own thread's it makes the same from the same
pub edit_other : (e : HoldingEdit) (t : ℕ) (h : Holding) (q : Key) → q.thread ≢ t → map.get (edit e t h) q ≡ map.get h q
edit_other (After f) t h q apart = after_other f t h q apart
edit_other (Acquired depth free request) t h q apart = after_other (acquire_fate depth free) t _ q apart ∙ acquired (depth == 0) free
  where
    acquired : (b f : Bool) → map.get (if b then (if f then grant h t request else h) else h) q ≡ map.get h q
    acquired true true = get_grant_other h t request q apart
    acquired true false = refl
    acquired false f = refl
edit_other (Released depth) t h q apart = after_other (release_fate depth) t _ q apart ∙ released (depth == 1)
  where
    released : (b : Bool) → map.get (if b then release h t else h) q ≡ map.get h q
    released true = get_release_other h t q apart
    released false = refl

grant_alike : (h g : Holding) (t : ℕ) (request : Request) (n : Node) → map.get h (key t n) ≡ map.get g (key t n) → map.get (grant h t request) (key t n) ≡ map.get (grant g t request) (key t n)
grant_alike h g t request n e =
    get_grant_own h t request n ∙ ap (λ z. if names request n then Some (asked request n) else z) e ∙ sym (get_grant_own g t request n)

after_own : (f : Fate) (t : ℕ) (h g : Holding) (n : Node) → map.get h (key t n) ≡ map.get g (key t n) → map.get (holding_after f t h) (key t n) ≡ map.get (holding_after f t g) (key t n)
after_own fate.Continues t h g n e = e
after_own (fate.Shows v) t h g n e = e
after_own (fate.Ends v) t h g n e = e
after_own (fate.Fails f) t h g n e = get_release_own h t (key t n) refl ∙ sym (get_release_own g t (key t n) refl)
after_own fate.Waits t h g n e = e

pub edit_own : (e : HoldingEdit) (t : ℕ) (h g : Holding) (n : Node) → map.get h (key t n) ≡ map.get g (key t n) → map.get (edit e t h) (key t n) ≡ map.get (edit e t g) (key t n)
edit_own (After f) t h g n e = after_own f t h g n e
edit_own (Acquired depth free request) t h g n e = after_own (acquire_fate depth free) t _ _ n (acquired (depth == 0) free)
  where
    acquired : (b f : Bool) → map.get (if b then (if f then grant h t request else h) else h) (key t n) ≡ map.get (if b then (if f then grant g t request else g) else g) (key t n)
    acquired true true = grant_alike h g t request n e
    acquired true false = e
    acquired false f = e
edit_own (Released depth) t h g n e = after_own (release_fate depth) t _ _ n (released (depth == 1))
  where
    released : (b : Bool) → map.get (if b then release h t else h) (key t n) ≡ map.get (if b then release g t else g) (key t n)
    released true = get_release_own h t (key t n) refl ∙ sym (get_release_own g t (key t n) refl)
    released false = e

-- edits of two threads can change places
pub edits_commute : (e d : HoldingEdit) (t u : ℕ) (h : Holding) → u ≢ t → edit e t (edit d u h) ≡ edit d u (edit e t h)
edits_commute e d t u h apart = map.same_map key_total key_exact _ _ (λ q. elim (eqb_tells q.thread t) [
  | inl same ↦
      let own : map.get (edit e t (edit d u h)) q ≡ map.get (edit e t h) q = at_own e t (edit d u h) h q same.1 (edit_other d u h q (λ x. apart (sym x ∙ same.1))) in
      own ∙ sym (edit_other d u (edit e t h) q (λ x. apart (sym x ∙ same.1)))
  | inr other ↦ edit_other e t (edit d u h) q other.1 ∙ elim (eqb_tells q.thread u) [
    | inl same ↦ at_own d u h (edit e t h) q same.1 (sym (edit_other e t h q other.1))
    | inr also ↦ edit_other d u h q also.1 ∙ sym (edit_other d u (edit e t h) q also.1 ∙ edit_other e t h q other.1)
  ]
])
  where
    at_own : (e : HoldingEdit) (t : ℕ) (h g : Holding) (q : Key) → q.thread ≡ t → map.get h q ≡ map.get g q → map.get (edit e t h) q ≡ map.get (edit e t g) q
    at_own e t h g q same is = subst (λ z. map.get (edit e z h) q ≡ map.get (edit e z g) q) same (edit_own e q.thread h g q.node is)
