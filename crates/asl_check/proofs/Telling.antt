-- All that the lists of a program lack, as the clauses of `missing` say it.
use Rattle.std.proofs.Common.{◌≡◌, ◌↔◌, ℕ, suc, List, [], ◌∷◌, length, refl, ap, sym, ◌∙◌, subst, inl}
use Rattle.asl_code.specs.declared.image.Image.{Image}
use Rattle.asl_code.specs.declared.lock.Lock.{Lock}
use Rattle.asl_syntax.specs.Tree.{Item}
use Rattle.asl_lower.specs.Lowered.{Lowered, IsLowering}
use Rattle.asl_lower.specs.Regions.{Inside}
use Rattle.asl_points_to.specs.Classes.{Classed, AreClasses}
use Rattle.asl_backward_flow.specs.Needed.{RegionNeeds, Needed, IsTold}
use Rattle.asl_backward_flow.specs.Flows.{IsFlow}
use Rattle.asl_emitter.specs.Inferred.{Analysis}
use Rattle.asl_emitter.specs.Refused.{IsAccepted}
use Rattle.asl_check.specs.declared.fault.CheckFault.{CheckFault}
use Rattle.asl_check.specs.declared.fault.CheckFault.TheVariants.{Infer, OtherCode, Uncovered, Unguarded}
use Rattle.asl_check.specs.Checked.{IsCodeOf, AreGuarded}
use Rattle.asl_check.specs.KnownLists.{AreCovered, IsFirstLack}
use Rattle.asl_check.specs.Refused.{IsChecked, IsRefusedLists, IsOfProgram, IsOutOfMemory}
use Rattle.asl_check.specs.Missing.{LacksNeeded, NamesLack, AreAllLacks, LacksAll, IsBeforeLists}
use Rattle.asl_check.proofs.AllLacks.{none_lacking, first_lacking, first_open}
use Rattle.asl_check.proofs.Complete.{checked_only}
use Rattle.asl_check.proofs.Concluding.{is_checked, is_uncovered, is_unguarded}
use Rattle.asl_check.proofs.Covering.{over_first, bare_lacking}
use Rattle.asl_check.proofs.Outcomes.{one_refusal}

-- the first of lists that are the same is the same
same_head : (f g : CheckFault) (fs gs : List CheckFault) → f ∷ fs ≡ g ∷ gs → f ≡ g
same_head f g fs gs e = cc

not_nil : (f : CheckFault) (fs : List CheckFault) → f ∷ fs ≡ [] → ⊥
not_nil f fs e = cc

module _ (is : List Item) (l : Lowered) (c : Classed) (k_limit : ℕ) (parts : List RegionNeeds) (lowers : IsLowering is l) (are : AreClasses l c) (flow : IsFlow l c k_limit parts) (accepted : IsAccepted is k_limit) where
  abbrev analysis : Analysis is
  analysis = record { program = record { lowering = l; lowers = lowers; classes = c; are_classes = are }; stores = flow.stores; tells = flow.written }

  -- what is told is what is needed
  needs_told : (lists : List (List Lock)) (n : ℕ) (a : Lock) → LacksNeeded l c (IsTold parts) lists n a ↔ LacksNeeded l c (Needed l c flow.stores k_limit) lists n a
  needs_told lists n a = (
    λ r. record {
      is = r.is;
      in_table = r.in_table;
      list = r.list;
      listed = r.listed;
      needed = (flow.tells (Inside n) (suc r.is.acquire) a).0 r.needed;
      free = λ b needed. r.free b ((flow.tells (Inside n) (suc r.is.acquire) b).1 needed);
      bare = r.bare;
    },
    λ r. record {
      is = r.is;
      in_table = r.in_table;
      list = r.list;
      listed = r.listed;
      needed = (flow.tells (Inside n) (suc r.is.acquire) a).1 r.needed;
      free = λ b told. r.free b ((flow.tells (Inside n) (suc r.is.acquire) b).0 told);
      bare = r.bare;
    },
  )

  names_told : (lists : List (List Lock)) (f : CheckFault) → NamesLack l c (IsTold parts) lists f ↔ NamesLack l c (Needed l c flow.stores k_limit) lists f
  names_told lists (Uncovered n a) = needs_told lists n a
  names_told lists (Unguarded n a) = ((λ r. r), (λ r. r))
  names_told lists (Infer fault) = ((λ r. r), (λ r. r))
  names_told lists (OtherCode pc) = ((λ r. r), (λ r. r))

  all_needed : (lists : List (List Lock)) (faults : List CheckFault) → AreAllLacks l c (IsTold parts) lists faults → AreAllLacks l c (Needed l c flow.stores k_limit) lists faults
  all_needed lists faults h =
      record { exact = λ f. ((λ o. (names_told lists f).0 ((h.exact f).0 o)), (λ names. (h.exact f).1 ((names_told lists f).1 names))); order = h.order }

  module _ (image : Image) (code : IsCodeOf l c image) where
    pub lacks_all : (faults : List CheckFault) → AreAllLacks l c (IsTold parts) image.lists faults → LacksAll is k_limit image faults
    lacks_all faults h = record { of_tree = record { accepted = accepted; analysis = analysis; code = code }; all = all_needed image.lists faults h }

    pub lacks_none : AreCovered l c parts image.lists (length l.sections) → AreGuarded l c image.lists (length l.sections) → LacksAll is k_limit image []
    lacks_none covered guarded = record {
      of_tree = record { accepted = accepted; analysis = analysis; code = code };
      all = none_lacking l c (Needed l c flow.stores k_limit) image.lists (over_first l c flow.stores k_limit parts image.lists (length l.sections) flow.tells covered) guarded;
    }

    pub none_iff : (faults : List CheckFault) → faults ≡ [] → AreCovered l c parts image.lists (length l.sections) → AreGuarded l c image.lists (length l.sections) → (faults ≡ []) ↔ IsChecked is k_limit image
    none_iff faults e covered guarded = (
      λ _. is_checked is l c k_limit parts lowers are flow accepted image code covered guarded,
      λ _. e,
    )

    -- the first that is wrong is a refusal, and want of memory it is not
    refused_first : (fault : CheckFault) → IsFirstLack l c parts image.lists fault → IsRefusedLists is k_limit image fault
    refused_first (Uncovered n a) h = is_uncovered is l c k_limit parts lowers are flow accepted image code (Uncovered n a) h
    refused_first (Unguarded n a) h = is_unguarded is l c k_limit parts lowers are flow accepted image code h.0 (Unguarded n a) h.1
    refused_first (Infer fault) h = absurd h
    refused_first (OtherCode pc) h = absurd h

    not_memory : (fault : CheckFault) → IsFirstLack l c parts image.lists fault → IsOutOfMemory fault → ⊥
    not_memory (Uncovered n a) h u = u
    not_memory (Unguarded n a) h u = u
    not_memory (Infer fault) h u = h
    not_memory (OtherCode pc) h u = h

    -- it stands first among all that lack
    stands_first : (fault : CheckFault) → IsFirstLack l c parts image.lists fault → (faults : List CheckFault) → AreAllLacks l c (IsTold parts) image.lists faults → (rest : List CheckFault) × (faults ≡ fault ∷ rest)
    stands_first (Uncovered n a) h faults all =
        first_lacking l c (Needed l c flow.stores k_limit) image.lists faults (all_needed image.lists faults all) n a (bare_lacking l c flow.stores k_limit parts image.lists n a flow.tells h)
    stands_first (Unguarded n a) h faults all =
        first_open l c (Needed l c flow.stores k_limit) image.lists faults (all_needed image.lists faults all) n a
        (over_first l c flow.stores k_limit parts image.lists (length l.sections) flow.tells h.0) h.1
    stands_first (Infer fault) h faults all = absurd h
    stands_first (OtherCode pc) h faults all = absurd h

    pub first_refused : (fault : CheckFault) → IsFirstLack l c parts image.lists fault → (faults : List CheckFault) → AreAllLacks l c (IsTold parts) image.lists faults →
        (first : CheckFault) (rest : List CheckFault) → faults ≡ first ∷ rest → IsRefusedLists is k_limit image first
    first_refused fault h faults all first rest e =
        let own = stands_first fault h faults all in
        subst (IsRefusedLists is k_limit image) (same_head fault first own.0 rest (sym own.1 ∙ e)) (refused_first fault h)

    pub some_lack : (fault : CheckFault) → IsFirstLack l c parts image.lists fault → (faults : List CheckFault) → AreAllLacks l c (IsTold parts) image.lists faults → faults ≡ [] → ⊥
    some_lack fault h faults all none = let own = stands_first fault h faults all in not_nil fault own.0 (sym own.1 ∙ none)

    pub some_iff : (fault : CheckFault) → IsFirstLack l c parts image.lists fault → (faults : List CheckFault) → AreAllLacks l c (IsTold parts) image.lists faults → (faults ≡ []) ↔ IsChecked is k_limit image
    some_iff fault h faults all =
        let own = stands_first fault h faults all in (
          λ e. absurd (not_nil fault own.0 (sym own.1 ∙ e)),
          λ checked. absurd (not_memory fault h (checked_only is k_limit image fault checked (refused_first fault h))),
        )

-- ---- for who calls `check` first

of_lists : (f : CheckFault) → (IsBeforeLists f → ⊥) → IsOfProgram f × (IsOutOfMemory f → ⊥)
of_lists (Infer fault) late = absurd (late tt)
of_lists (OtherCode pc) late = absurd (late tt)
of_lists (Uncovered n a) late = (tt, λ u. u)
of_lists (Unguarded n a) late = (tt, λ u. u)

-- one of all that lists lack is of the program
among_of_program : (is : List Item) (k_limit : ℕ) (image : Image) (f : CheckFault) (rest : List CheckFault) → LacksAll is k_limit image (f ∷ rest) → IsOfProgram f
among_of_program is k_limit image (Infer fault) rest h = absurd ((h.all.exact (Infer fault)).0 (inl refl))
among_of_program is k_limit image (OtherCode pc) rest h = absurd ((h.all.exact (OtherCode pc)).0 (inl refl))
among_of_program is k_limit image (Uncovered n a) rest h = tt
among_of_program is k_limit image (Unguarded n a) rest h = tt

-- where the check refuses lists, the refusal stands first among all that they lack
pub refusal_first : (is : List Item) (k_limit : ℕ) (image : Image) (first : CheckFault) (faults : List CheckFault) → (IsBeforeLists first → ⊥) → IsRefusedLists is k_limit image first → LacksAll is k_limit image faults →
    ((f : CheckFault) (rest : List CheckFault) → faults ≡ f ∷ rest → IsRefusedLists is k_limit image f) → ((faults ≡ []) ↔ IsChecked is k_limit image) → (rest : List CheckFault) × (faults ≡ first ∷ rest)
refusal_first is k_limit image first [] late refused all own none = absurd ((of_lists first late).1 (checked_only is k_limit image first (none.0 refl) refused))
refusal_first is k_limit image first (f ∷ rest) late refused all own none =
    (rest, ap (λ (g : CheckFault). g ∷ rest) (one_refusal is k_limit image f first (among_of_program is k_limit image f rest all) (of_lists first late).0 (own f rest refl) refused))
