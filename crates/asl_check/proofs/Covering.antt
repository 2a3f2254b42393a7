-- Lists that cover what the flow tells cover what is needed, and a program with such lists never faults for a missing lock.
use Rattle.std.proofs.Common.{◌≡◌, ◌↔◌, ◌+◌, ℕ, suc, Bool, List, Some, length, slice_get, ap, sym, ◌∙◌, subst, inl, inr, arith}
use Rattle.std.proofs.lemmas.Option.{slice_get_within}
use Rattle.asl_code.specs.declared.image.Image.{Image}
use Rattle.asl_code.specs.declared.lock.Lock.{Lock}
use Rattle.asl_code.specs.Verified.{IsVerified}
use Rattle.asl_code.proofs.FitsLaws.{image_fits}
use Rattle.asl_lower.specs.declared.section.Section.{Section}
use Rattle.asl_lower.specs.Lowered.{Lowered}
use Rattle.asl_lower.specs.LegalLowering.{IsLegalLowering}
use Rattle.asl_lower.specs.Regions.{Inside}
use Rattle.asl_points_to.specs.Classes.{Classed, AreClasses}
use Rattle.asl_lock_expr.specs.Links.{IsOne}
use Rattle.asl_backward_flow.specs.Needed.{RegionNeeds, Needed, IsTold, TellsNeeded}
use Rattle.asl_backward_flow.specs.Flows.{IsFlow}
use Rattle.asl_soundness.specs.Coded.{IsImageOf}
use Rattle.asl_soundness.specs.Safe.{ListsCover, NeverFaultsForLocks}
use Rattle.asl_soundness.proofs.Analysed.{IsAnalysed}
use Rattle.asl_soundness.proofs.Soundness.{sound_program}
use Rattle.asl_soundness.proofs.NeededLaws.{needed_analysed}
use Rattle.std.proofs.lemmas.Bool.Decides.{eqb_tells}
use Rattle.std.specs.Prelude.{IsTrue}
use Rattle.asl_code.specs.Locks.{effect_of}
use Rattle.asl_code.specs.declared.lock.Lock.TheVariants as lock
use Rattle.asl_lock_expr.specs.ClassOf.{class_of}
use Rattle.asl_soundness.specs.Covering.{covers_effect, CoversLock}
use Rattle.asl_emitter.specs.Lists.{Locks, SufficesFor}
use Rattle.asl_emitter.proofs.Absorbing.{effect_trans}
use Rattle.asl_emitter.proofs.Making.{told_needed}
use Rattle.asl_check.specs.Checked.{AreUnder, LacksFirst, IsFirstBare, reads_of, IsCodeOf, FirstListsCover, AreGuarded, IsFirstLacking, IsFirstOpen}
use Rattle.asl_check.specs.KnownLists.{AreCovered, IsBare}

-- what covers a lock covers all for which that one does
does_effect : (c : Classed) (f : ℕ) (a b : Lock) → SufficesFor c f a b → IsTrue (covers_effect (effect_of a) (effect_of b))
does_effect c f (lock.Class x e) (lock.Class y g) d = d.1
does_effect c f (lock.Class x e) (lock.Expr b g) d = d.1
does_effect c f (lock.Class x e) (lock.Root g) d = absurd d
does_effect c f (lock.Expr a e) (lock.Expr b g) d = d.1
does_effect c f (lock.Expr a e) (lock.Class x g) d = absurd d
does_effect c f (lock.Expr a e) (lock.Root g) d = absurd d
does_effect c f (lock.Root e) b d = absurd d

pub stands_trans : (c : Classed) (f : ℕ) (m a b : Lock) → CoversLock c f m a → SufficesFor c f a b → CoversLock c f m b
stands_trans c f (lock.Root e) a b p d = effect_trans e (effect_of a) (effect_of b) p (does_effect c f a b d)
stands_trans c f (lock.Class x e) (lock.Class y g) (lock.Class z h) p q = (p.0 ∙ q.0, effect_trans e g h p.1 q.1)
stands_trans c f (lock.Class x e) (lock.Class y g) (lock.Expr b h) p q = (q.0 ∙ ap (λ k. Some k) (sym p.0), effect_trans e g h p.1 q.1)
stands_trans c f (lock.Class x e) (lock.Class y g) (lock.Root h) p q = absurd q
stands_trans c f (lock.Class x e) (lock.Expr b g) (lock.Expr d h) p q = (ap (class_of c f) (sym q.0) ∙ p.0, effect_trans e g h p.1 q.1)
stands_trans c f (lock.Class x e) (lock.Expr b g) (lock.Class d h) p q = absurd q
stands_trans c f (lock.Class x e) (lock.Expr b g) (lock.Root h) p q = absurd q
stands_trans c f (lock.Class x e) (lock.Root g) d p q = absurd p
stands_trans c f (lock.Expr a e) (lock.Expr b g) (lock.Expr d h) p q = (p.0 ∙ q.0, effect_trans e g h p.1 q.1)
stands_trans c f (lock.Expr a e) (lock.Expr b g) (lock.Class d h) p q = absurd q
stands_trans c f (lock.Expr a e) (lock.Expr b g) (lock.Root h) p q = absurd q
stands_trans c f (lock.Expr a e) (lock.Class b g) d p q = absurd p
stands_trans c f (lock.Expr a e) (lock.Root g) d p q = absurd p

-- one list more
pub covered_more : (l : Lowered) (c : Classed) (parts : List RegionNeeds) (lists : List (List Lock)) (n : ℕ) (s : Section) (listed list : List Lock) → AreCovered l c parts lists n →
    slice_get l.sections n ≡ Some s → slice_get lists n ≡ Some listed → list ≡ listed → AreUnder c s.function list (IsTold parts (Inside n) (s.acquire + 1)) → AreCovered l c parts lists (n + 1)
covered_more l c parts lists n s listed list old there at is under m lt t ls section own =
    elim (eqb_tells m n) [
      | inl same ↦ last (same.1)
      | inr apart ↦ (let other = apart.1 in old m (omega (arith, lt, other)) t ls section own)
    ]
  where
    last : m ≡ n → AreUnder c t.function ls (IsTold parts (Inside m) (t.acquire + 1))
    last same =
        let one : s ≡ t = (let u : Some s ≡ Some t = sym there ∙ subst (λ k. slice_get l.sections k ≡ Some t) same section in cc) in
        let two : listed ≡ ls = (let u : Some listed ≡ Some ls = sym at ∙ subst (λ k. slice_get lists k ≡ Some ls) same own in cc) in
        subst (λ k. AreUnder c t.function ls (IsTold parts (Inside k) (t.acquire + 1))) (sym same)
        (subst (λ (u : Section). AreUnder c u.function ls (IsTold parts (Inside n) (u.acquire + 1))) one
        (subst (λ (xs : List Lock). AreUnder c s.function xs (IsTold parts (Inside n) (s.acquire + 1))) (is ∙ two) under))

-- the same of what lists read
pub guarded_more : (l : Lowered) (c : Classed) (lists : List (List Lock)) (n : ℕ) (s : Section) (listed list : List Lock) → AreGuarded l c lists n →
    slice_get l.sections n ≡ Some s → slice_get lists n ≡ Some listed → list ≡ listed → AreUnder c s.function list (IsOne (reads_of list)) → AreGuarded l c lists (n + 1)
guarded_more l c lists n s listed list old there at is over m lt t ls section own =
    elim (eqb_tells m n) [
      | inl equal ↦ last (equal.1)
      | inr apart ↦ (let other = apart.1 in old m (omega (arith, lt, other)) t ls section own)
    ]
  where
    last : m ≡ n → AreUnder c t.function ls (IsOne (reads_of ls))
    last equal =
        let one : s ≡ t = (let u : Some s ≡ Some t = sym there ∙ subst (λ k. slice_get l.sections k ≡ Some t) equal section in cc) in
        let two : listed ≡ ls = (let u : Some listed ≡ Some ls = sym at ∙ subst (λ k. slice_get lists k ≡ Some ls) equal own in cc) in
        subst (λ (u : Section). AreUnder c u.function ls (IsOne (reads_of ls))) one
        (subst (λ (xs : List Lock). AreUnder c s.function xs (IsOne (reads_of xs))) (is ∙ two) over)

-- the first of the locks that are read that no lock of the list covers
pub open_lock : (l : Lowered) (c : Classed) (lists : List (List Lock)) (n : ℕ) (s : Section) (listed list : List Lock) (lock : Lock) → AreGuarded l c lists n →
    slice_get l.sections n ≡ Some s → slice_get lists n ≡ Some listed → list ≡ listed → IsFirstBare c s.function list (reads_of list) lock → IsFirstOpen l c lists n lock
open_lock l c lists n s listed list lock earlier there at is first = record {
  is = s;
  in_table = there;
  list = listed;
  listed = at;
  earlier = earlier;
  first = subst (λ (xs : List Lock). IsFirstBare c s.function xs (reads_of xs) lock) is first;
}

-- what is said of a set is said of one with the same locks
pub lacks_same : (c : Classed) (f : ℕ) (list : List Lock) (given other : Locks) (lock : Lock) → ((n : Lock) → given n ↔ other n) → LacksFirst c f list given lock → LacksFirst c f list other lock
lacks_same c f list given other lock same h = record {
  is = (same lock).0 h.is;
  free = λ b o. h.free b ((same b).1 o);
  bare = h.bare;
  before = λ n o free less. h.before n ((same n).1 o) (λ b g. free b ((same b).0 g)) less;
}

-- the first of the locks that are told that no lock of the list covers
pub bare_lock : (l : Lowered) (c : Classed) (parts : List RegionNeeds) (lists : List (List Lock)) (n : ℕ) (s : Section) (listed list : List Lock) (entry : ℕ) (lock : Lock) → AreCovered l c parts lists n →
    slice_get l.sections n ≡ Some s → slice_get lists n ≡ Some listed → list ≡ listed → entry ≡ s.acquire →
    LacksFirst c s.function list (IsTold parts (Inside n) (entry + 1)) lock → IsBare l c parts lists n lock
bare_lock l c parts lists n s listed list entry lock earlier there at is same first = record {
  is = s;
  in_table = there;
  list = listed;
  listed = at;
  earlier = earlier;
  first = subst (λ (xs : List Lock). LacksFirst c s.function xs (IsTold parts (Inside n) (s.acquire + 1)) lock) is
      (subst (λ q. LacksFirst c s.function list (IsTold parts (Inside n) (q + 1)) lock) same first);
}

-- lists that cover what is told cover what is needed
pub over_first : (l : Lowered) (c : Classed) (stores : ℕ → ℕ → Bool) (k_limit : ℕ) (parts : List RegionNeeds) (lists : List (List Lock)) (so_many : ℕ) → TellsNeeded l c stores k_limit parts →
    AreCovered l c parts lists so_many → FirstListsCover l c (Needed l c stores k_limit) lists so_many
over_first l c stores k_limit parts lists so_many tells covered n lt s list there at a needed =
    covered n lt s list there at a ((told_needed l c stores k_limit parts tells (Inside n) s.acquire a).1 needed)

pub stand_over : (l : Lowered) (c : Classed) (stores : ℕ → ℕ → Bool) (k_limit : ℕ) (parts : List RegionNeeds) (image : Image) → TellsNeeded l c stores k_limit parts →
    AreCovered l c parts image.lists (length l.sections) → ListsCover l c (Needed l c stores k_limit) image
stand_over l c stores k_limit parts image tells covered n s list a there at needed =
    over_first l c stores k_limit parts image.lists (length l.sections) tells covered n (slice_get_within l.sections n s there) s list there at a needed

-- and the first lock that is told and lacking is the first that is needed and lacking
pub bare_lacking : (l : Lowered) (c : Classed) (stores : ℕ → ℕ → Bool) (k_limit : ℕ) (parts : List RegionNeeds) (lists : List (List Lock)) (n : ℕ) (lock : Lock) → TellsNeeded l c stores k_limit parts →
    IsBare l c parts lists n lock → IsFirstLacking l c (Needed l c stores k_limit) lists n lock
bare_lacking l c stores k_limit parts lists n lock tells h = record {
  is = h.is;
  in_table = h.in_table;
  list = h.list;
  listed = h.listed;
  earlier = over_first l c stores k_limit parts lists n tells h.earlier;
  first = lacks_same c h.is.function h.list (IsTold parts (Inside n) (h.is.acquire + 1)) (Needed l c stores k_limit (Inside n) (suc h.is.acquire)) lock
      (λ a. (λ told. (told_needed l c stores k_limit parts tells (Inside n) h.is.acquire a).0 told, λ needed. (told_needed l c stores k_limit parts tells (Inside n) h.is.acquire a).1 needed)) h.first;
}

-- a verified image that is the lowering's but for its lists
pub image_of : (l : Lowered) (c : Classed) (image : Image) → AreClasses l c → IsVerified image → IsCodeOf l c image → IsImageOf l c image
image_of l c image are verified m = record {
  fits = image_fits image verified;
  version = m.tables.version;
  legal = are.least.legal;
  functions = m.tables.functions;
  start = m.tables.start;
  globals = m.tables.globals;
  code = m.code;
}

-- where its lists cover what is told, it is analysed
pub covered_analysed : (l : Lowered) (c : Classed) (k_limit : ℕ) (parts : List RegionNeeds) (image : Image) → IsLegalLowering l → AreClasses l c → IsVerified image → (flow : IsFlow l c k_limit parts) → IsCodeOf l c image →
    AreCovered l c parts image.lists (length l.sections) → IsAnalysed l c flow.stores k_limit (Needed l c flow.stores k_limit) image
covered_analysed l c k_limit parts image kept are verified flow m covered =
    needed_analysed l c flow.stores k_limit image kept (image_of l c image are verified m) (λ f x may. (flow.written f x).1 may)
    (stand_over l c flow.stores k_limit parts image flow.tells covered)

-- and it never faults for a missing lock
pub covered_sound : (l : Lowered) (c : Classed) (k_limit : ℕ) (parts : List RegionNeeds) (image : Image) → IsLegalLowering l → AreClasses l c → IsVerified image → IsFlow l c k_limit parts → IsCodeOf l c image →
    AreCovered l c parts image.lists (length l.sections) → NeverFaultsForLocks image
covered_sound l c k_limit parts image kept are verified flow m covered =
    sound_program l c flow.stores k_limit (Needed l c flow.stores k_limit) image (covered_analysed l c k_limit parts image kept are verified flow m covered)
