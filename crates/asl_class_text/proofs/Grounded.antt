-- Grounds, one more at a time.
use Rattle.std.proofs.Common.{◌≡◌, ℕ, zero, suc, ◌+◌, ◌-◌, ◌<◌, ◌≤◌, ◌⊎◌, inl, inr, List, [], ◌∷◌, ◌++◌, Bool, true, false, length, take, Some, get_or, slice_get, refl, sym, ap, subst, ◌∙◌, arith, length-append}
use Rattle.std.proofs.lemmas.Bool.{cases_eq}
use Rattle.std.proofs.lemmas.List.{take-append-le}
use Rattle.std.proofs.lemmas.Option.{slice_get_within, slice_get-get_or}
use Rattle.std.proofs.Math.Seq.{take-append_seam, get_or-append_seam}
use Rattle.asl_lower.specs.Lowered.{Lowered}
use Rattle.asl_class_reasons.specs.declared.place.Place.{Place}
use Rattle.asl_class_reasons.specs.declared.place.Place.TheVariants.{Member}
use Rattle.asl_class_reasons.specs.declared.place.Step.{Step}
use Rattle.asl_class_reasons.proofs.Linking.{slice_get_more, slice_get_last}
use Rattle.asl_class_text.specs.declared.told.ToldStep.{ToldStep}
use Rattle.asl_class_text.specs.declared.told.ToldPair.{ToldPair}
use Rattle.asl_class_text.specs.declared.told.ToldGround.{ToldGround}
use Rattle.asl_class_text.specs.declared.told.ToldGrounds.{ToldGrounds}
use Rattle.asl_class_text.specs.Chains.{IsStraightChain}
use Rattle.asl_class_text.specs.Classes.{AreOthers, ArePairs}
use Rattle.asl_class_text.specs.Kinds.{end_of}
use Rattle.asl_class_text.specs.Grounds.{address_of, is_cells, Meet, IsOf, Tells, Covers, IsOneOf, IsNeeded, AreOnce, LeavesOut, AreGrounds}
use Rattle.asl_class_text.specs.Made.{IsStraightAnywhere, AreStraight, AreStraightGrounds, AreNone, IsChainAt, IsKept, IsFull, IsPut, IsMet, AreSoFar, Grows, IsGone, ArePairsGone, AreGroundsGone}
use Rattle.asl_class_text.proofs.Paired.{none_there, same_Some}

-- ---- lists of grounds that grow

grows_not : (gs : List ToldGround) → Grows gs gs
grows_not gs = record { each = λ k g e. e }

grows_on : (xs ys zs : List ToldGround) → Grows xs ys → Grows ys zs → Grows xs zs
grows_on xs ys zs h k = record { each = λ n g e. k.each n g (h.each n g e) }

one_of_more : (ps : List ToldPair) (gs hs : List ToldGround) (ts : List ToldStep) → Grows gs hs → IsOneOf ps gs ts → IsOneOf ps hs ts
one_of_more ps gs hs ts grows of = elim of [
  | inl p ↦ inl p
  | inr g ↦ inr (g.0, g.1, grows.each g.0 g.1 g.2, g.3)
]

tells_more : (gs hs : List ToldGround) (one other : Place) → Grows gs hs → Tells gs one other → Tells hs one other
tells_more gs hs one other grows t = record { at = t.at; ground = t.ground; there = grows.each t.at t.ground t.there; of = t.of }

covers_more : (l : Lowered) (ts : List ToldStep) (gs hs : List ToldGround) → Grows gs hs → Covers l ts gs → Covers l ts hs
covers_more l ts gs hs grows c = record { each = λ one other m. tells_more gs hs one other grows (c.each one other m) }

-- a flag that stays
not_yet : (a b : Bool) → (a ≡ true → b ≡ true) → b ≡ false → a ≡ false
not_yet false b h e = refl
not_yet true b h e = absurd (let yes : b ≡ true = h refl in cc)

-- ---- whether a ground is told

pub none_yet : (gs : List ToldGround) (one other : Place) → AreNone gs 0 one other
none_yet gs one other = record { each = λ k g low e of. absurd (omega arith) }

pub none_more : (gs : List ToldGround) (n : ℕ) (one other : Place) (h : ToldGround) → slice_get gs n ≡ Some h → (IsOf h one other → ⊥) → AreNone gs n one other → AreNone gs (n + 1) one other
none_more gs n one other h at not none = record {
  each = λ k g low e of. elim (cases_eq k n) [
    | inl same ↦ (let is : g ≡ h = same_Some g h (sym e ∙ subst (λ (i : ℕ). slice_get gs i ≡ Some h) (sym same) at) in not (subst (λ (x : ToldGround). IsOf x one other) is of))
    | inr ne ↦ none.each k g (omega arith) e of
  ];
}

pub none_told : (gs : List ToldGround) (n : ℕ) (one other : Place) → length gs ≤ n → AreNone gs n one other → Tells gs one other → ⊥
none_told gs n one other past none t = (let low = slice_get_within gs t.at t.ground t.there in none.each t.at t.ground (omega arith) t.there t.of)

-- ---- where two steps meet

met_grows : (l : Lowered) (es : List Step) (most : ℕ) (before after : ToldStep) (old new : ToldGrounds) → IsMet l es most before after old new → Grows old.items.items new.items.items
met_grows l es most before after old new h = elim h [
  | inl k ↦ subst (λ (gs : ToldGrounds). Grows old.items.items gs.items.items) (sym k.same) (grows_not old.items.items)
  | inr r ↦ elim r [
    | inl f ↦ subst (λ (gs : List ToldGround). Grows old.items.items gs) (sym f.same) (grows_not old.items.items)
    | inr p ↦ subst (λ (gs : List ToldGround). Grows old.items.items gs) (sym p.grows) (record { each = λ k g e. slice_get_more old.items.items (p.ground ∷ []) k g e })
  ]
]

met_stays : (l : Lowered) (es : List Step) (most : ℕ) (before after : ToldStep) (old new : ToldGrounds) → IsMet l es most before after old new → old.more ≡ true → new.more ≡ true
met_stays l es most before after old new h e = elim h [
  | inl k ↦ subst (λ (gs : ToldGrounds). gs.more ≡ true) (sym k.same) e
  | inr r ↦ elim r [
    | inl f ↦ f.more
    | inr p ↦ p.more ∙ e
  ]
]

last_there : (gs : List ToldGround) (g : ToldGround) → slice_get (gs ++ g ∷ []) (length gs) ≡ Some g
last_there gs g = slice_get-get_or (gs ++ g ∷ []) (length gs) g (omega (arith, length-append gs (g ∷ []))) ∙ ap Some (get_or-append_seam gs g [] g)

met_tells : (l : Lowered) (es : List Step) (most : ℕ) (before after : ToldStep) (old new : ToldGrounds) (one other : Place) (ts : List ToldStep) (m : Meet l ts one other) → m.before ≡ before → m.after ≡ after → IsMet l es most before after old new → new.more ≡ false → Tells new.items.items one other
met_tells l es most before after old new one other ts m eb ea h whole =
    let here : address_of l before ≡ one = ap (λ (t : ToldStep). address_of l t) (sym eb) ∙ m.by_one in
    let there : address_of l after ≡ other = ap (λ (t : ToldStep). address_of l t) (sym ea) ∙ m.by_other in
    elim h [
      | inl k ↦ (
          let cells = subst (λ (t : ToldStep). is_cells (end_of t) ≡ true) eb m.cells in
          let two : address_of l before ≡ address_of l after → ⊥ = λ e. m.two (sym here ∙ e ∙ there) in
          subst (λ (gs : ToldGrounds). Tells gs.items.items one other) (sym k.same)
          (subst (λ (p : Place). Tells old.items.items p other) here (subst (λ (p : Place). Tells old.items.items (address_of l before) p) there (k.told cells two))))
      | inr r ↦ elim r [
        | inl f ↦ absurd (let yes = f.more in cc)
        | inr p ↦ record {
          at = length old.items.items;
          ground = p.ground;
          there = subst (λ (gs : List ToldGround). slice_get gs (length old.items.items) ≡ Some p.ground) (sym p.grows) (last_there old.items.items p.ground);
          of = inl (p.one ∙ here, p.other ∙ there);
        }
      ]
    ]

-- ---- the grounds so far

turned : (g h : ToldGround) → IsOf g h.one h.other → IsOf h g.one g.other
turned g h of = elim of [
  | inl e ↦ inl (sym e.0, sym e.1)
  | inr e ↦ inr (sym e.1, sym e.0)
]

once_more : (gs : List ToldGround) (new : ToldGround) → AreOnce gs → (Tells gs new.one new.other → ⊥) → AreOnce (gs ++ new ∷ [])
once_more gs new once untold n k g h eg eh of = elim (slice_get_last gs new n g eg) [
  | inl a ↦ elim (slice_get_last gs new k h eh) [
    | inl b ↦ once n k g h a b of
    | inr b ↦ absurd (untold (record { at = n; ground = g; there = a; of = subst (λ (x : ToldGround). IsOf g x.one x.other) b.1 of }))
  ]
  | inr a ↦ elim (slice_get_last gs new k h eh) [
    | inl b ↦ absurd (untold (record { at = k; ground = h; there = b; of = turned new h (subst (λ (x : ToldGround). IsOf x h.one h.other) a.1 of) }))
    | inr b ↦ a.0 ∙ sym b.0
  ]
]

-- one ground more
so_far_put : (l : Lowered) (es : List Step) (most : ℕ) (ps : List ToldPair) (ts : List ToldStep) (n : ℕ) (before after : ToldStep) (old new : ToldGrounds) → IsOneOf ps old.items.items ts → slice_get ts n ≡ Some before → slice_get ts (suc n) ≡ Some after
    → IsPut l es most before after old new → AreSoFar l es most ps old → AreSoFar l es most ps new
so_far_put l es most ps ts n before after old new of first next p h =
    let xs : List ToldGround = old.items.items in
    let meet : Meet l ts p.ground.one p.ground.other = record { at = n; before = before; after = after; first = first; next = next; cells = p.cells; by_one = sym p.one; by_other = sym p.other; two = p.two } in
    let size : length new.items.items ≡ length xs + 1 = ap (λ (gs : List ToldGround). length gs) p.grows ∙ length-append xs (p.ground ∷ []) in
    record {
      each = λ k g e. elim (slice_get_last xs p.ground k g (there k g e)) [
        | inl a ↦ h.each k g a
        | inr b ↦ subst (λ (x : ToldGround). IsStraightChain l es x.one x.other x.chain.items) (sym b.1) p.chain
      ];
      needed = λ k g e. subst (λ (gs : List ToldGround). IsNeeded l ps (take k gs) g) (sym p.grows) (elim (slice_get_last xs p.ground k g (there k g e)) [
        | inl a ↦ (
            let low = slice_get_within xs k g a in
            subst (λ (gs : List ToldGround). IsNeeded l ps gs g) (sym (take-append-le k xs (p.ground ∷ []) (omega arith))) (h.needed k g a))
        | inr b ↦ (
            let all : take k (xs ++ p.ground ∷ []) ≡ xs = ap (λ (i : ℕ). take i (xs ++ p.ground ∷ [])) b.0 ∙ take-append_seam xs (p.ground ∷ []) in
            subst (λ (gs : List ToldGround). IsNeeded l ps gs g) (sym all) (subst (λ (x : ToldGround). IsNeeded l ps xs x) (sym b.1) (record { chain = ts; one_of = of; meet = meet })))
      ]);
      once = subst (λ (gs : List ToldGround). AreOnce gs) (sym p.grows) (once_more xs p.ground h.once p.untold);
      size = (let room = p.room in omega arith);
      full = λ e. (let at = h.full (sym p.more ∙ e) in let room = p.room in absurd (omega arith));
      left = λ e. (let at = h.full (sym p.more ∙ e) in let room = p.room in absurd (omega arith));
    }
  where
    there : (k : ℕ) (g : ToldGround) → slice_get new.items.items k ≡ Some g → slice_get (old.items.items ++ p.ground ∷ []) k ≡ Some g
    there k g e = subst (λ (gs : List ToldGround). slice_get gs k ≡ Some g) p.grows e

-- no ground more, since there is no room
so_far_full : (l : Lowered) (es : List Step) (most : ℕ) (ps : List ToldPair) (ts : List ToldStep) (n : ℕ) (before after : ToldStep) (old new : ToldGrounds) → IsOneOf ps old.items.items ts → slice_get ts n ≡ Some before → slice_get ts (suc n) ≡ Some after
    → IsFull l most before after old new → AreSoFar l es most ps old → AreSoFar l es most ps new
so_far_full l es most ps ts n before after old new of first next f h =
    let back = sym f.same in
    let size = h.size in
    let full = f.full in
    let same : length new.items.items ≡ length old.items.items = ap (λ (gs : List ToldGround). length gs) f.same in
    let meet : Meet l ts (address_of l before) (address_of l after) = record { at = n; before = before; after = after; first = first; next = next; cells = f.cells; by_one = refl; by_other = refl; two = f.two } in
    let out : LeavesOut l ps old.items.items = record { chain = ts; one_of = of; one = address_of l before; other = address_of l after; meet = meet; untold = f.untold } in
    record {
      each = subst (λ (gs : List ToldGround). AreStraightGrounds l es gs) back h.each;
      needed = subst (λ (gs : List ToldGround). (k : ℕ) (g : ToldGround) → slice_get gs k ≡ Some g → IsNeeded l ps (take k gs) g) back h.needed;
      once = subst (λ (gs : List ToldGround). AreOnce gs) back h.once;
      size = omega arith;
      full = λ e. omega arith;
      left = λ e. subst (λ (gs : List ToldGround). LeavesOut l ps gs) back out;
    }

so_far_met : (l : Lowered) (es : List Step) (most : ℕ) (ps : List ToldPair) (ts : List ToldStep) (n : ℕ) (before after : ToldStep) (old new : ToldGrounds) → IsOneOf ps old.items.items ts → slice_get ts n ≡ Some before → slice_get ts (suc n) ≡ Some after
    → IsMet l es most before after old new → AreSoFar l es most ps old → AreSoFar l es most ps new
so_far_met l es most ps ts n before after old new of first next met h = elim met [
  | inl k ↦ subst (λ (gs : ToldGrounds). AreSoFar l es most ps gs) (sym k.same) h
  | inr r ↦ elim r [
    | inl f ↦ so_far_full l es most ps ts n before after old new of first next f h
    | inr p ↦ so_far_put l es most ps ts n before after old new of first next p h
  ]
]

-- ---- chains that are gone through

pub none_gone : (l : Lowered) (es : List Step) (most : ℕ) (ts : List ToldStep) (gs : ToldGrounds) → IsGone l es most ts 1 gs gs
none_gone l es most ts gs = record {
  grows = grows_not gs.items.items;
  stays = λ e. e;
  so_far = λ ps of h. h;
  told = λ whole one other m low. absurd (omega arith);
}

pub gone_more : (l : Lowered) (es : List Step) (most : ℕ) (ts : List ToldStep) (number : ℕ) (before after : ToldStep) (old mid new : ToldGrounds) → 1 ≤ number → slice_get ts (number - 1) ≡ Some before → slice_get ts number ≡ Some after
    → IsMet l es most before after mid new → IsGone l es most ts number old mid → IsGone l es most ts (number + 1) old new
gone_more l es most ts number before after old mid new some first next met h =
    let is : suc (number - 1) ≡ number = omega arith in
    let second : slice_get ts (suc (number - 1)) ≡ Some after = subst (λ (i : ℕ). slice_get ts i ≡ Some after) (sym is) next in
    record {
      grows = grows_on old.items.items mid.items.items new.items.items h.grows (met_grows l es most before after mid new met);
      stays = λ e. met_stays l es most before after mid new met (h.stays e);
      so_far = λ ps of start. so_far_met l es most ps ts (number - 1) before after mid new (one_of_more ps old.items.items mid.items.items ts h.grows of) first second met (h.so_far ps of start);
      told = λ whole one other m low. elim (cases_eq (suc m.at) number) [
        | inl same ↦ (
            let at : m.at ≡ number - 1 = omega arith in
            let here : m.before ≡ before = same_Some m.before before (sym m.first ∙ subst (λ (i : ℕ). slice_get ts i ≡ Some before) (sym at) first) in
            let there : m.after ≡ after = same_Some m.after after (sym m.next ∙ subst (λ (i : ℕ). slice_get ts i ≡ Some after) (sym same) next) in
            met_tells l es most before after mid new one other ts m here there met whole)
        | inr ne ↦ (
            let lower : suc m.at < number = omega arith in
            tells_more mid.items.items new.items.items one other (met_grows l es most before after mid new met) (h.told (not_yet mid.more new.more (λ e. met_stays l es most before after mid new met e) whole) one other m lower))
      ];
    }

-- as many as there are
pub gone_all : (l : Lowered) (es : List Step) (most : ℕ) (ts : List ToldStep) (number : ℕ) (old new : ToldGrounds) → length ts ≤ number → IsGone l es most ts number old new → IsGone l es most ts (length ts) old new
gone_all l es most ts number old new high h = record {
  grows = h.grows;
  stays = h.stays;
  so_far = h.so_far;
  told = λ whole one other m low. h.told whole one other m (omega arith);
}

gone_covers : (l : Lowered) (es : List Step) (most : ℕ) (ts : List ToldStep) (old new : ToldGrounds) → IsGone l es most ts (length ts) old new → new.more ≡ false → Covers l ts new.items.items
gone_covers l es most ts old new h whole = record { each = λ one other m. h.told whole one other m (slice_get_within ts (suc m.at) m.after m.next) }

-- ---- pairs

pub no_pairs_gone : (l : Lowered) (es : List Step) (most : ℕ) (ps : List ToldPair) (gs : ToldGrounds) → gs.items.items ≡ [] → gs.more ≡ false → ArePairsGone l es most ps 0 gs
no_pairs_gone l es most ps gs none whole = record {
  so_far = record {
    each = λ n g e. absurd (empty n g e);
    needed = λ n g e. absurd (empty n g e);
    once = λ n k g h e f of. absurd (empty n g e);
    size = (let is : length gs.items.items ≡ 0 = ap (λ (xs : List ToldGround). length xs) none in omega arith);
    full = λ e. absurd (cc);
    left = λ e. absurd (cc);
  };
  told = λ n k p low e. absurd (omega arith);
}
  where
    empty : (n : ℕ) (g : ToldGround) → slice_get gs.items.items n ≡ Some g → ⊥
    empty n g e = none_there n g (subst (λ (xs : List ToldGround). slice_get xs n ≡ Some g) none e)

pub pairs_more : (l : Lowered) (es : List Step) (most : ℕ) (ps : List ToldPair) (n : ℕ) (p : ToldPair) (old new : ToldGrounds) → slice_get ps n ≡ Some p → IsGone l es most p.chain.items (length p.chain.items) old new → ArePairsGone l es most ps n old → ArePairsGone l es most ps (n + 1) new
pairs_more l es most ps n p old new at gone h = record {
  so_far = gone.so_far ps (inl (n, p, at, refl)) h.so_far;
  told = λ whole k q low e. elim (cases_eq k n) [
    | inl same ↦ (
        let here : p ≡ q = same_Some p q (sym at ∙ subst (λ (i : ℕ). slice_get ps i ≡ Some q) same e) in
        subst (λ (x : ToldPair). Covers l x.chain.items new.items.items) here (gone_covers l es most p.chain.items old new gone whole))
    | inr ne ↦ covers_more l q.chain.items old.items.items new.items.items gone.grows (h.told (not_yet old.more new.more gone.stays whole) k q (omega arith) e)
  ];
}

pub pairs_all : (l : Lowered) (es : List Step) (most : ℕ) (ps : List ToldPair) (n : ℕ) (gs : ToldGrounds) → length ps ≤ n → ArePairsGone l es most ps n gs → ArePairsGone l es most ps (length ps) gs
pairs_all l es most ps n gs past h = record { so_far = h.so_far; told = λ whole k p low e. h.told whole k p (omega arith) e }

-- ---- grounds

pub own_straight : (l : Lowered) (es : List Step) (gs : List ToldGround) (n : ℕ) (ts : List ToldStep) → AreStraightGrounds l es gs → IsChainAt gs n ts → IsStraightAnywhere l es ts
own_straight l es gs n ts all is = record {
  from = is.ground.one;
  into = is.ground.other;
  chain = subst (λ (us : List ToldStep). IsStraightChain l es is.ground.one is.ground.other us) is.is (all n is.ground is.there);
}

pub no_grounds_gone : (l : Lowered) (es : List Step) (most : ℕ) (ps : List ToldPair) (gs : ToldGrounds) → ArePairsGone l es most ps (length ps) gs → AreGroundsGone l es most ps 0 gs
no_grounds_gone l es most ps gs h = record { pairs = h; told = λ whole k g low e. absurd (omega arith) }

pub grounds_more : (l : Lowered) (es : List Step) (most : ℕ) (ps : List ToldPair) (n : ℕ) (ts : List ToldStep) (old new : ToldGrounds) → IsChainAt old.items.items n ts → IsGone l es most ts (length ts) old new → AreGroundsGone l es most ps n old → AreGroundsGone l es most ps (n + 1) new
grounds_more l es most ps n ts old new is gone h =
    let xs : List ToldGround = old.items.items in
    let ys : List ToldGround = new.items.items in
    record {
      pairs = record {
        so_far = gone.so_far ps (inr (n, is.ground, is.there, is.is)) h.pairs.so_far;
        told = λ whole k p low e. covers_more l p.chain.items xs ys gone.grows (h.pairs.told (not_yet old.more new.more gone.stays whole) k p low e);
      };
      told = λ whole k g low e. elim (cases_eq k n) [
        | inl same ↦ (
            let here : is.ground ≡ g = same_Some is.ground g (sym (gone.grows.each n is.ground is.there) ∙ subst (λ (i : ℕ). slice_get ys i ≡ Some g) same e) in
            let covers : Covers l is.ground.chain.items ys = subst (λ (us : List ToldStep). Covers l us ys) (sym is.is) (gone_covers l es most ts old new gone whole) in
            subst (λ (x : ToldGround). Covers l x.chain.items ys) here covers)
        | inr ne ↦ (
            let there = slice_get_within xs n is.ground is.there in
            let was : slice_get xs k ≡ Some (get_or xs k g) = slice_get-get_or xs k g (omega arith) in
            let same : get_or xs k g ≡ g = same_Some (get_or xs k g) g (sym (gone.grows.each k (get_or xs k g) was) ∙ e) in
            let own : slice_get xs k ≡ Some g = was ∙ ap Some same in
            covers_more l g.chain.items xs ys gone.grows (h.told (not_yet old.more new.more gone.stays whole) k g (omega arith) own))
      ];
    }

pub grounds_past : (l : Lowered) (es : List Step) (most : ℕ) (ps : List ToldPair) (n : ℕ) (gs : ToldGrounds) → length gs.items.items ≤ n → AreGroundsGone l es most ps n gs → AreGroundsGone l es most ps (n + 1) gs
grounds_past l es most ps n gs past h = record {
  pairs = h.pairs;
  told = λ whole k g low e. (let there = slice_get_within gs.items.items k g e in h.told whole k g (omega arith) e);
}

pub all_gone : (l : Lowered) (es : List Step) (most : ℕ) (ps : List ToldPair) (n : ℕ) (gs : ToldGrounds) → most ≤ n → AreGroundsGone l es most ps n gs → AreGrounds l es most ps gs
all_gone l es most ps n gs high h =
    let f = h.pairs.so_far in
    record {
      each = f.each;
      needed = f.needed;
      once = f.once;
      of_pairs = λ whole k p e. h.pairs.told whole k p (slice_get_within ps k p e) e;
      of_grounds = λ whole k g e. (let there = slice_get_within gs.items.items k g e in let size = f.size in h.told whole k g (omega arith) e);
      few = f.size;
      full = f.full;
      left = f.left;
    }

-- ---- the chains of pairs

pub pairs_straight : (l : Lowered) (es : List Step) (told : List ℕ) (ps : List ToldPair) → ArePairs l es told ps → AreStraight l es ps
pairs_straight l es [] ps none k p e = absurd (none_there k p (subst (λ (xs : List ToldPair). slice_get xs k ≡ Some p) none e))
pairs_straight l es (first ∷ others) ps are k p e =
    let there = slice_get_within ps k p e in
    let count = are.count in
    let second : ℕ = get_or others k 0 in
    let at : slice_get others k ≡ Some second = slice_get-get_or others k 0 (omega arith) in
    let other = are.each k second p at e in
    record { from = Member first; into = Member second; chain = other.chain }
