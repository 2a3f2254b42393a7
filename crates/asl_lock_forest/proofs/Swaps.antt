-- What different threads do to a holding changes places, and so do entries at different keys.
use Rattle.std.proofs.Common.{◌≡◌, ◌≢◌, ℕ, Some, ap, sym, subst, ◌∙◌, inl, inr, if◌then◌else◌}
use Rattle.std.specs.FinMap as map
use Rattle.std.proofs.lemmas.Bool.Decides.{eqb_tells}
use Rattle.asl_mode_lanes.specs.declared.mode.Mode.{Mode}
use Rattle.asl_lock_forest.specs.Keys.{Key, key}
use Rattle.asl_lock_forest.specs.Holding.{Holding, Request, asked, grant, release}
use Rattle.asl_lock_forest.specs.Request.{names}
use Rattle.asl_lock_forest.proofs.KeyLaws.{key_total, key_exact}
use Rattle.asl_lock_forest.proofs.Laws.{tell_keys, get_insert_same, get_insert_other, get_grant_own, get_grant_other, get_release_own, get_release_other}

-- entries at different keys change places
pub inserts_swapped : (h : Holding) (k q : Key) (m n : Mode) → k ≢ q → map.insert (map.insert h k m) q n ≡ map.insert (map.insert h q n) k m
inserts_swapped h k q m n apart = map.same_map key_total key_exact _ _ (λ x. elim (tell_keys x k) [
  | inl at ↦
      let other : x ≢ q = λ e. apart (sym at.1 ∙ e) in
      get_insert_other (map.insert h k m) q n x other
      ∙ subst (λ y. map.get (map.insert h k m) y ≡ map.get (map.insert (map.insert h q n) k m) y) (sym at.1) (get_insert_same h k m ∙ sym (get_insert_same (map.insert h q n) k m))
  | inr off ↦ elim (tell_keys x q) [
    | inl at ↦
        subst (λ y. map.get (map.insert (map.insert h k m) q n) y ≡ map.get (map.insert h q n) y) (sym at.1) (get_insert_same (map.insert h k m) q n ∙ sym (get_insert_same h q n))
        ∙ sym (get_insert_other (map.insert h q n) k m x off.1)
    | inr also ↦
        get_insert_other (map.insert h k m) q n x also.1 ∙ get_insert_other h k m x off.1
        ∙ sym (get_insert_other (map.insert h q n) k m x off.1 ∙ get_insert_other h q n x also.1)
  ]
])

-- a change of a holding that is a thread's own: it leaves the keys of other threads, and what it makes of the thread's
-- keys hangs on these alone
pub record IsOwnChange (t : ℕ) (change : Holding → Holding) : Type 0 where
  pub others : (h : Holding) (q : Key) → q.thread ≢ t → map.get (change h) q ≡ map.get h q
  pub own : (h g : Holding) (q : Key) → q.thread ≡ t → map.get h q ≡ map.get g q → map.get (change h) q ≡ map.get (change g) q

pub grants_own : (t : ℕ) (request : Request) → IsOwnChange t (λ h. grant h t request)
grants_own t request = record {
  others = λ h q apart. get_grant_other h t request q apart;
  own = λ h g q same e.
      let is : q ≡ key t q.node = λ i. key (same i) q.node in
      subst (λ k. map.get (grant h t request) k ≡ map.get (grant g t request) k) (sym is)
      (get_grant_own h t request q.node
      ∙ ap (λ o. if names request q.node then Some (asked request q.node) else o) (subst (λ k. map.get h k ≡ map.get g k) is e)
      ∙ sym (get_grant_own g t request q.node));
}

pub releases_own : (t : ℕ) → IsOwnChange t (λ h. release h t)
releases_own t = record {
  others = λ h q apart. get_release_other h t q apart;
  own = λ h g q same e. get_release_own h t q same ∙ sym (get_release_own g t q same);
}

-- own changes of different threads change places
pub changes_swapped : (t u : ℕ) (first second : Holding → Holding) (h : Holding) → t ≢ u → IsOwnChange t first → IsOwnChange u second → second (first h) ≡ first (second h)
changes_swapped t u first second h apart f s = map.same_map key_total key_exact _ _ (λ q. elim (eqb_tells q.thread t) [
  | inl same ↦
      let other : q.thread ≢ u = λ e. apart (sym same.1 ∙ e) in
      s.others (first h) q other ∙ f.own h (second h) q same.1 (sym (s.others h q other))
  | inr other ↦ elim (eqb_tells q.thread u) [
    | inl same ↦ s.own (first h) h q same.1 (f.others h q other.1) ∙ sym (f.others (second h) q other.1)
    | inr also ↦ s.others (first h) q also.1 ∙ f.others h q other.1 ∙ sym (f.others (second h) q other.1 ∙ s.others h q also.1)
  ]
])
