-- An accepted program's image cannot be missing, and no program is without an outcome.
use Rattle.std.proofs.Common.{◌≡◌, ◌≢◌, ◌⊎◌, ◌<◌, ◌≤◌, ℕ, zero, suc, Bool, List, [], ◌∷◌, Option, None, Some, length, map, slice_get, refl, sym, ◌∙◌, subst, inl, inr, arith}
use Rattle.asl_code.specs.declared.image.Image.{Image}
use Rattle.asl_code.specs.declared.lock.Lock.{Lock}
use Rattle.asl_code.specs.Versions.{newest, newest_locks}
use Rattle.asl_syntax.specs.Tree.{Item, functions_of}
use Rattle.asl_syntax.specs.Parsed.{Parses}
use Rattle.asl_lower.specs.declared.section.Section.{Section}
use Rattle.asl_lower.specs.Lowered.{Lowered, IsLowering, end_of}
use Rattle.asl_lower.specs.Refused.{first_crowded, HasRoom, HasAccessesInside}
use Rattle.asl_lower.specs.OpenSections.{IsBareAccess}
use Rattle.asl_lower.specs.Regions.{Region, Body, Inside}
use Rattle.asl_lower.specs.Layout.{lowering_of}
use Rattle.asl_lower.proofs.Laid.{lowering_of_is_lowering, one_lowering}
use Rattle.asl_lower.proofs.Layouts.{lowering_layout}
use Rattle.asl_points_to.specs.Classes.{Classed, AreClasses}
use Rattle.asl_lock_expr.specs.Links.{IsOne}
use Rattle.asl_lock_expr.specs.ClassOf.{TellsStores}
use Rattle.asl_backward_flow.specs.declared.region.Region as code
use Rattle.asl_backward_flow.specs.declared.region.Region.TheVariants as variant
use Rattle.asl_backward_flow.specs.Needed.{Needed, NeedsMany, region_of}
use Rattle.asl_soundness.specs.Coded.{classed}
use Rattle.asl_emitter.specs.declared.fault.InferFault.{InferFault}
use Rattle.asl_emitter.specs.declared.fault.InferFault.TheVariants.{Registers, CodeSize, AccessOutsideSection, TooManyClasses, TooManyLocks, OutOfMemory}
use Rattle.asl_emitter.specs.Lists.{IsFitted}
use Rattle.asl_emitter.specs.Inferred.{IsInferredFor}
use Rattle.asl_emitter.specs.Refused.{IsLowered, IsAccepted, IsRefusedInference}
use Rattle.asl_theorems.proofs.Surely.{Surely, then, mapped, either, each_below, least_below, table}
use Rattle.asl_theorems.proofs.Finest.{surely_classes}
use Rattle.asl_theorems.proofs.Storing.{surely_stores}
use Rattle.asl_theorems.proofs.Listing.{Different, surely_listed, surely_fitted}

get_below : {X : Type 0} (xs : List X) (n : ℕ) → n < length xs → (x : X) × (slice_get xs n ≡ Some x)
get_below [] n lt = absurd (omega (arith, lt))
get_below (x ∷ xs) zero lt = (x, refl)
get_below (x ∷ xs) (suc n) lt = get_below xs n (omega (arith, lt))

one_got : (xs : List Lock) (n : ℕ) (a : Lock) → slice_get xs n ≡ Some a → IsOne xs a
one_got [] n a e = cc
one_got (x ∷ xs) zero a e = inl (cc)
one_got (x ∷ xs) (suc n) a e = inr (one_got xs n a e)

-- more than 4,096 different locks, each needed at one place of the region
many_needed : (l : Lowered) (c : Classed) (stores : ℕ → ℕ → Bool) (k_limit : ℕ) (r : Region) (pc : ℕ) → Different (Needed l c stores k_limit r pc) 4097 → NeedsMany l c stores k_limit r
many_needed l c stores k_limit r pc d = record {
  locks = d.locks;
  many = (let count = d.count in omega (arith, count));
  different = d.apart;
  needed = λ n lock at. (pc, d.each lock (one_got d.locks n lock at));
}

module _ (is : List Item) (k_limit : ℕ) (a : IsAccepted is k_limit) where
  abbrev l : Lowered
  l = a.analysis.program.lowering

  abbrev c : Classed
  c = a.analysis.program.classes

  abbrev IsList : ℕ → List Lock → Type 0
  IsList n locks = (s : Section) → slice_get l.sections n ≡ Some s → IsFitted c s.function newest_locks (λ lock. Needed l c a.analysis.stores k_limit (Inside n) (suc s.acquire) lock) locks

  a_list : (n : ℕ) → n < length l.sections → Surely ((locks : List Lock) × IsList n locks)
  a_list n lt =
      let s = get_below l.sections n lt in
      then (surely_listed (λ lock. Needed l c a.analysis.stores k_limit (Inside n) (suc s.0.acquire) lock) 4097 (λ d. a.few_locks (Inside n) (many_needed l c a.analysis.stores k_limit (Inside n) (suc s.0.acquire) d))) (λ xs.
      mapped (surely_fitted c s.0.function newest_locks (λ lock. Needed l c a.analysis.stores k_limit (Inside n) (suc s.0.acquire) lock) xs.0 xs.1) (λ list. (
        list.0,
        λ t there. (let same : s.0 ≡ t = (let e : Some s.0 ≡ Some t = sym s.1 ∙ there in cc) in
            subst (λ (u : Section). IsFitted c u.function newest_locks (λ lock. Needed l c a.analysis.stores k_limit (Inside n) (suc u.acquire) lock) list.0) same list.1),
      )))

  pub surely_image : Surely ((image : Image) × IsInferredFor is k_limit image)
  surely_image =
      mapped (table IsList (length l.sections) a_list) (λ t. (
        record { version = newest; classes = c.count; globals = c.globals; functions = l.functions; start = l.main; code = map (classed c) l.code; lists = t.entries },
        record {
          analysis = a.analysis;
          inferred = record {
            version = refl;
            classes = refl;
            globals = refl;
            functions = refl;
            start = refl;
            code = refl;
            count = t.count;
            lists = λ n s locks there at. t.each n locks at s there;
          };
        },
      ))

-- ---- no program is without an outcome

code_region : (r : Region) → (k : code.Region) × (region_of k ≡ r)
code_region (Body f) = (variant.Body f, refl)
code_region (Inside s) = (variant.Section s, refl)

few_or_more : (m n : ℕ) → (m ≤ n) ⊎ (n < m)
few_or_more m n = grind arith

module _ (source : List ℕ) (is : List Item) (k_limit : ℕ) (parses : Parses source is) (no_image : IsAccepted is k_limit → ⊥) (no_fault : (fault : InferFault) → fault ≢ OutOfMemory → IsRefusedInference is k_limit fault → ⊥) where
  abbrev low : Lowered
  low = lowering_of is

  lowers : IsLowering is low
  lowers = lowering_of_is_lowering is

  few_registers : (o : Option ℕ) → first_crowded 0 (functions_of is) ≡ o → first_crowded 0 (functions_of is) ≡ None
  few_registers None e = e
  few_registers (Some number) e = absurd (no_fault (Registers number) (λ k. cc) e)

  room : (end_of is).pc ≤ 65535 → HasRoom is
  room few = record { few_registers = few_registers (first_crowded 0 (functions_of is)) refl; few_instructions = few }

  small : (end_of is).pc ≤ 65535
  small =
      elim (few_or_more (end_of is).pc 65535) [
        | inl few ↦ few
        | inr many ↦ absurd (no_fault CodeSize (λ k. cc) (few_registers (first_crowded 0 (functions_of is)) refl, many))
      ]

  -- a bare access, if there is one, has a lowest one
  no_access : (function pc : ℕ) → IsBareAccess low function pc → ⊥
  no_access function pc access =
      each_below (λ at. ((f : ℕ) × IsBareAccess low f at) ⊎ (((f : ℕ) × IsBareAccess low f at) → ⊥)) (suc pc) (λ at lt. either ((f : ℕ) × IsBareAccess low f at)) (λ tell.
      elim (least_below (λ at. (f : ℕ) × IsBareAccess low f at) (suc pc) tell) [
        | inl p ↦ (let first = p.3 in
            no_fault (AccessOutsideSection p.2.0 p.0) (λ k. cc) (
              room small,
              (
                low,
                lowers,
                record {
                  access = p.2.1;
                  first = λ other at k. elim (few_or_more p.0 at) [ inl le ↦ le | inr less ↦ absurd (first at less (other, k)) ];
                },
              ),
            ))
        | inr none ↦ none pc (omega arith) (function, access)
      ])

  inside : HasAccessesInside is
  inside m h function pc access = no_access function pc (subst (λ (k : Lowered). IsBareAccess k function pc) (one_lowering is m low h lowers) access)

  lowered : IsLowered is
  lowered = record { room = room small; inside = inside }

  with_stores : (c : Classed) → AreClasses low c → c.count ≤ 1024 → ((stores : ℕ → ℕ → Bool) × TellsStores low c stores) → ⊥
  with_stores c are few told =
      no_image (record {
        lowered = lowered;
        analysis = record { program = record { lowering = low; lowers = lowers; classes = c; are_classes = are }; stores = told.0; tells = told.1 };
        few_classes = few;
        few_locks = λ r many. (let k = code_region r in
            no_fault (TooManyLocks k.0) (λ e. cc) (record {
              lowered = lowered;
              analysis = record { program = record { lowering = low; lowers = lowers; classes = c; are_classes = are }; stores = told.0; tells = told.1 };
              few_classes = few;
              many = subst (NeedsMany low c told.0 k_limit) (sym k.1) many;
            }));
      })

  pub some_outcome : ⊥
  some_outcome =
      surely_classes low (lowering_layout is low (record { text = source; parses = parses }) lowers) (λ c.
      elim (few_or_more c.0.count 1024) [
        | inl few ↦ surely_stores low c.0 c.2 (with_stores c.0 c.1 few)
        | inr many ↦ no_fault TooManyClasses (λ k. cc) (record { lowered = lowered; program = record { lowering = low; lowers = lowers; classes = c.0; are_classes = c.1 }; many = many })
      ])
