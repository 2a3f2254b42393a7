-- What the hits, the classes met and the prefixes of a path are, by the parts of the path at its `*`.
use Rattle.std.proofs.Common.{◌≡◌, ◌⊎◌, ◌↔◌, ◌++◌, ℕ, Bool, true, false, cond, List, [], ◌∷◌, Option, Some, None, refl, ap, sym, ◌∙◌, subst, inl, inr, append_assoc}
use Rattle.std.specs.Prelude.{option_and_then, ◌||◌}
use Rattle.std.proofs.lemmas.Bool.Decides.{eqb_tells}
use Rattle.std.proofs.lemmas.List.{append-nil}
use Rattle.asl_code.specs.declared.value.Effect.{Effect}
use Rattle.asl_code.specs.declared.value.Effect.TheVariants.{Read}
use Rattle.asl_code.specs.declared.lock.Base.{Base}
use Rattle.asl_code.specs.declared.lock.Base.TheVariants.{Reg}
use Rattle.asl_code.specs.declared.lock.Lock.{Lock}
use Rattle.asl_code.specs.declared.path.Op.{Op}
use Rattle.asl_code.specs.declared.path.Op.TheVariants.{Deref, Off}
use Rattle.asl_points_to.specs.Classes.{Classed}
use Rattle.asl_lock_expr.specs.ClassOf.{step_class, path_class}
use Rattle.asl_lock_expr.specs.Links.{IsOne, on, is_class, hits, goes_through, prefixes}
use Rattle.asl_lock_expr.specs.Partings.{PartsAtStar}
use Rattle.asl_lock_expr.proofs.Ones.{one_left, one_right}

part_first : (Such : List Op → List Op → Type 0) (ops : List Op) → Such [] ops → PartsAtStar (Deref ∷ ops) Such
part_first Such ops h = ([], ops, refl, h)

part_later : (Such : List Op → List Op → Type 0) (op : Op) (ops : List Op) → PartsAtStar ops (λ p q. Such (op ∷ p) q) → PartsAtStar (op ∷ ops) Such
part_later Such op ops r = (op ∷ r.0, r.1, ap (λ (xs : List Op). op ∷ xs) r.2, r.3)

no_part : (p q : List Op) → [] ≡ p ++ Deref ∷ q → ⊥
no_part [] q e = cc
no_part (o ∷ p) q e = cc

-- a path parts at its first operation or after it
part_where : (Such : List Op → List Op → Type 0) (op : Op) (ops p q : List Op) → op ∷ ops ≡ p ++ Deref ∷ q → Such p q →
    ((op ≡ Deref) × Such [] ops) ⊎ PartsAtStar ops (λ p q. Such (op ∷ p) q)
part_where Such op ops [] q e h =
    let first : op ≡ Deref = cc in
    let rest : ops ≡ q = cc in
    inl (first, subst (Such []) (sym rest) h)
part_where Such op ops (o ∷ p) q e h =
    let first : op ≡ o = cc in
    let rest : ops ≡ p ++ Deref ∷ q = cc in
    inr (p, q, rest, subst (λ (k : Op). Such (k ∷ p) q) (sym first) h)

same_class : (a b : Option ℕ) → is_class a b ≡ true → (x : ℕ) × (a ≡ Some x) × (b ≡ Some x)
same_class None b e = cc
same_class (Some x) None e = cc
same_class (Some x) (Some y) e =
    elim (eqb_tells x y) [
      | inl t ↦ (x, refl, ap (λ (n : ℕ). Some n) (sym t.1))
      | inr f ↦ (let no = f.0 in cc)
    ]

class_same : (a b : Option ℕ) (x : ℕ) → a ≡ Some x → b ≡ Some x → is_class a b ≡ true
class_same a b x p q =
    subst (λ (o : Option ℕ). is_class o b ≡ true) (sym p)
    (subst (λ (o : Option ℕ). is_class (Some x) o ≡ true) (sym q) (elim (eqb_tells x x) [ inl t ↦ t.0 | inr f ↦ absurd (f.1 refl) ]))

abbrev HitAt : Classed → Option ℕ → ℕ → Effect → Option ℕ → Lock → List Op → List Op → Type 0
HitAt c hit b effect class l p q = (x : ℕ) × (path_class c p class ≡ Some x) × (hit ≡ Some x) × (l ≡ on (Reg b) q effect)

hit_from : (c : Classed) (hit : Option ℕ) (b : ℕ) (effect : Effect) (class : Option ℕ) (ops : List Op) (l : Lock) → IsOne (hits c hit b effect class ops) l →
    PartsAtStar ops (HitAt c hit b effect class l)
hit_from c hit b effect class [] l o = absurd o
hit_from c hit b effect class (Off n ∷ ops) l o =
    part_later (HitAt c hit b effect class l) (Off n) ops (hit_from c hit b effect (option_and_then (step_class c (Off n)) class) ops l o)
hit_from c hit b effect class (Deref ∷ ops) l o =
    let after = option_and_then (step_class c Deref) class in
    elim (is_class class hit) as (λ (t : Bool). is_class class hit ≡ t → IsOne (cond t (on (Reg b) ops effect ∷ []) [] ++ hits c hit b effect after ops) l → PartsAtStar (Deref ∷ ops) (HitAt c hit b effect class l)) [
      | true ↦ λ is k. elim k [
        | inl e ↦ (let s = same_class class hit is in part_first (HitAt c hit b effect class l) ops (s.0, s.1, s.2, sym e))
        | inr m ↦ part_later (HitAt c hit b effect class l) Deref ops (hit_from c hit b effect after ops l m)
      ]
      | false ↦ λ is k. part_later (HitAt c hit b effect class l) Deref ops (hit_from c hit b effect after ops l k)
    ] refl o

hit_of : (c : Classed) (hit : Option ℕ) (b : ℕ) (effect : Effect) (class : Option ℕ) (ops : List Op) (l : Lock) → PartsAtStar ops (HitAt c hit b effect class l) →
    IsOne (hits c hit b effect class ops) l
hit_of c hit b effect class [] l r = absurd (no_part r.0 r.1 r.2)
hit_of c hit b effect class (op ∷ ops) l r =
    elim (part_where (HitAt c hit b effect class l) op ops r.0 r.1 r.2 r.3) [
      | inl h ↦ subst (λ (k : Op). IsOne (hits c hit b effect class (k ∷ ops)) l) (sym h.0) (here h.1)
      | inr s ↦ one_right _ _ l (hit_of c hit b effect (option_and_then (step_class c op) class) ops l s)
    ]
  where
    here : HitAt c hit b effect class l [] ops → IsOne (hits c hit b effect class (Deref ∷ ops)) l
    here h =
        one_left _ _ l
        (subst (λ (t : Bool). IsOne (cond t (on (Reg b) ops effect ∷ []) []) l) (sym (class_same class hit h.0 h.1 h.2)) (inl (sym h.3)))

pub hit_is : (c : Classed) (hit : Option ℕ) (b : ℕ) (effect : Effect) (class : Option ℕ) (ops : List Op) (l : Lock) → IsOne (hits c hit b effect class ops) l ↔
    PartsAtStar ops (HitAt c hit b effect class l)
hit_is c hit b effect class ops l = (hit_from c hit b effect class ops l, hit_of c hit b effect class ops l)

abbrev StoredAt : Classed → (ℕ → Bool) → Option ℕ → List Op → List Op → Type 0
StoredAt c stores class p q = (x : ℕ) × (path_class c p class ≡ Some x) × (stores x ≡ true)

through_from : (c : Classed) (stores : ℕ → Bool) (class : Option ℕ) (ops : List Op) → goes_through c stores class ops ≡ true → PartsAtStar ops (StoredAt c stores class)
through_from c stores class [] e = cc
through_from c stores class (Off n ∷ ops) e =
    part_later (StoredAt c stores class) (Off n) ops (through_from c stores (option_and_then (step_class c (Off n)) class) ops e)
through_from c stores None (Deref ∷ ops) e = part_later (StoredAt c stores None) Deref ops (through_from c stores None ops e)
through_from c stores (Some x) (Deref ∷ ops) e =
    let after = step_class c Deref x in
    elim (stores x) as (λ (t : Bool). stores x ≡ t → (t || goes_through c stores after ops) ≡ true → PartsAtStar (Deref ∷ ops) (StoredAt c stores (Some x))) [
      | true ↦ λ is k. part_first (StoredAt c stores (Some x)) ops (x, refl, is)
      | false ↦ λ is k. part_later (StoredAt c stores (Some x)) Deref ops (through_from c stores after ops k)
    ] refl e

or_right : (a b : Bool) → b ≡ true → (a || b) ≡ true
or_right true b e = refl
or_right false b e = e

through_of : (c : Classed) (stores : ℕ → Bool) (class : Option ℕ) (ops : List Op) → PartsAtStar ops (StoredAt c stores class) → goes_through c stores class ops ≡ true
through_of c stores class [] r = absurd (no_part r.0 r.1 r.2)
through_of c stores class (op ∷ ops) r =
    elim (part_where (StoredAt c stores class) op ops r.0 r.1 r.2 r.3) [
      | inl h ↦ subst (λ (k : Op). goes_through c stores class (k ∷ ops) ≡ true) (sym h.0) (here h.1)
      | inr s ↦ or_right _ _ (through_of c stores (option_and_then (step_class c op) class) ops s)
    ]
  where
    here : StoredAt c stores class [] ops → goes_through c stores class (Deref ∷ ops) ≡ true
    here h =
        subst (λ (o : Option ℕ). goes_through c stores o (Deref ∷ ops) ≡ true) (sym h.1)
        (ap (λ (t : Bool). t || goes_through c stores (step_class c Deref h.0) ops) h.2)

pub through_is : (c : Classed) (stores : ℕ → Bool) (class : Option ℕ) (ops : List Op) → (goes_through c stores class ops ≡ true) ↔ PartsAtStar ops (StoredAt c stores class)
through_is c stores class ops = (through_from c stores class ops, through_of c stores class ops)

-- the prefixes after the operations that are done
abbrev PrefixAt : Base → List Op → Lock → List Op → List Op → Type 0
PrefixAt base done l p q = l ≡ on base (done ++ p) Read

moved_on : (base : Base) (done : List Op) (l : Lock) (op : Op) (p : List Op) → l ≡ on base ((done ++ op ∷ []) ++ p) Read → l ≡ on base (done ++ op ∷ p) Read
moved_on base done l op p e = e ∙ ap (λ (xs : List Op). on base xs Read) (append_assoc done (op ∷ []) p)

moved_back : (base : Base) (done : List Op) (l : Lock) (op : Op) (p : List Op) → l ≡ on base (done ++ op ∷ p) Read → l ≡ on base ((done ++ op ∷ []) ++ p) Read
moved_back base done l op p e = e ∙ ap (λ (xs : List Op). on base xs Read) (sym (append_assoc done (op ∷ []) p))

prefix_from : (base : Base) (done ops : List Op) (l : Lock) → IsOne (prefixes base done ops) l → PartsAtStar ops (PrefixAt base done l)
prefix_from base done [] l o = absurd o
prefix_from base done (Off n ∷ ops) l o =
    let r = prefix_from base (done ++ Off n ∷ []) ops l o in
    part_later (PrefixAt base done l) (Off n) ops (r.0, r.1, r.2, moved_on base done l (Off n) r.0 r.3)
prefix_from base done (Deref ∷ ops) l (inl e) = part_first (PrefixAt base done l) ops (sym e ∙ ap (λ (xs : List Op). on base xs Read) (sym (append-nil done)))
prefix_from base done (Deref ∷ ops) l (inr o) =
    let r = prefix_from base (done ++ Deref ∷ []) ops l o in
    part_later (PrefixAt base done l) Deref ops (r.0, r.1, r.2, moved_on base done l Deref r.0 r.3)

prefix_of : (base : Base) (done ops : List Op) (l : Lock) → PartsAtStar ops (PrefixAt base done l) → IsOne (prefixes base done ops) l
prefix_of base done [] l r = absurd (no_part r.0 r.1 r.2)
prefix_of base done (op ∷ ops) l r =
    elim (part_where (PrefixAt base done l) op ops r.0 r.1 r.2 r.3) [
      | inl h ↦ subst (λ (k : Op). IsOne (prefixes base done (k ∷ ops)) l) (sym h.0) (inl (sym (h.1 ∙ ap (λ (xs : List Op). on base xs Read) (append-nil done))))
      | inr s ↦ one_right _ _ l (prefix_of base (done ++ op ∷ []) ops l (s.0, s.1, s.2, moved_back base done l op s.0 s.3))
    ]

pub prefix_is : (base : Base) (ops : List Op) (l : Lock) → IsOne (prefixes base [] ops) l ↔ PartsAtStar ops (λ p q. l ≡ on base p Read)
prefix_is base ops l = (prefix_from base [] ops l, prefix_of base [] ops l)
