-- The explanation that is made of an analysis is that of the source.
use Rattle.std.proofs.Common.{◌≡◌, ℕ, zero, suc, Bool, List, [], ◌∷◌, length, map, Some, slice_get, refl, sym, ◌∙◌, subst, arith}
use Rattle.asl_code.specs.declared.image.Image.{Image}
use Rattle.asl_code.specs.declared.lock.Lock.{Lock}
use Rattle.asl_code.specs.Versions.{newest}
use Rattle.asl_lower.specs.Lowered.{Lowered}
use Rattle.asl_points_to.specs.Classes.{Classed}
use Rattle.asl_lock_expr.specs.Stores.{stores}
use Rattle.asl_backward_flow.specs.Needed.{RegionNeeds, TellsNeeded}
use Rattle.asl_soundness.specs.Coded.{classed}
use Rattle.asl_emitter.specs.Inferred.{IsInferred}
use Rattle.asl_emitter.specs.BuiltImage.{AreFitted}
use Rattle.asl_emitter.proofs.Making.{made_inferred}
use Rattle.asl_emitter.proofs.Refusing.{is_accepted}
use Rattle.asl_explain.specs.declared.explain_analysis.ExplainAnalysis.{ExplainAnalysis}
use Rattle.asl_explain.specs.declared.explained_value.Listed.{Listed}
use Rattle.asl_explain.specs.declared.explained_value.Lists.{Lists}
use Rattle.asl_explain.specs.declared.explained_value.Lists.TheVariants.{Inferred, TooManyLocks}
use Rattle.asl_explain.specs.declared.explained_value.Explanation.{Explanation}
use Rattle.asl_explain.specs.Chains.{Read}
use Rattle.asl_explain.specs.Explained.{AreExplained, AreListsAt, IsExplained, IsExplanation}
use Rattle.asl_explain.specs.Told.{IsText, IsMadeOf, sections_told}
use Rattle.asl_explain.specs.Telling.{IsTextOf}
use Rattle.asl_explain.specs.Analysed.{read, AreSections, AreFittedAt, IsMade, IsOfSource}

-- the image of a lowering with these lists
abbrev image_with : Lowered → Classed → List (List Lock) → Image
image_with l c lists = record {
  version = newest;
  classes = c.count;
  globals = c.globals;
  functions = l.functions;
  start = l.main;
  code = map (classed c) l.code;
  lists = lists;
}

with_lists : (l : Lowered) (c : Classed) (tests : ℕ → ℕ → Bool) (k_limit : ℕ) (parts : List RegionNeeds) (lists : List (List Lock)) → TellsNeeded l c tests k_limit parts → AreFitted l c parts (length l.sections) lists → IsInferred l c tests k_limit (image_with l c lists)
with_lists l c tests k_limit parts lists tells fitted =
    made_inferred l c tests k_limit parts (image_with l c lists) tells (record { version = refl; classes = refl; globals = refl; functions = refl; start = refl; code = refl; lists = fitted })

abbrev lock_of : Listed → Lock
lock_of d = d.lock

-- each place of a list is one of a list that is as long
there : {X Y : Type 0} (xs : List X) (ys : List Y) (n : ℕ) (x : X) → length xs ≡ length ys → slice_get xs n ≡ Some x → (y : Y) × (slice_get ys n ≡ Some y)
there [] ys n x same e = cc
there (a ∷ xs) [] n x same e = absurd (omega (arith, same))
there (a ∷ xs) (b ∷ ys) zero x same e = (b, refl)
there (a ∷ xs) (b ∷ ys) (suc n) x same e = there xs ys n x (omega (arith, same)) e

same_lists : (xs : List (List Listed)) (ys : List (List Lock)) → length xs ≡ length ys → ((n : ℕ) (ls : List Listed) (list : List Lock) → slice_get xs n ≡ Some ls → slice_get ys n ≡ Some list → map lock_of ls ≡ list)
    → map (map lock_of) xs ≡ ys
same_lists [] [] same each = refl
same_lists [] (y ∷ ys) same each = absurd (omega (arith, same))
same_lists (x ∷ xs) [] same each = absurd (omega (arith, same))
same_lists (x ∷ xs) (y ∷ ys) same each =
    let first : map lock_of x ≡ y = each zero x y refl refl in
    let rest : map (map lock_of) xs ≡ ys = same_lists xs ys (omega (arith, same)) (λ n ls list at with. each (suc n) ls list at with) in
    cc

-- sections with these lists have their locks
pub own_lists : (x : Read) (lists : List (List Lock)) (sections : List (List Listed)) → length lists ≡ length x.lowered.sections → AreSections x lists (length x.lowered.sections) sections → map (map lock_of) sections ≡ lists
own_lists x lists sections many all =
    same_lists sections lists (all.count ∙ sym many) (λ n ls list at with. let s = there lists x.lowered.sections n list many with in (all.each n s.0 list ls s.1 with at).locks)

explained_lists : (x : Read) (lists : List (List Lock)) (sections : List (List Listed)) → length lists ≡ length x.lowered.sections → AreSections x lists (length x.lowered.sections) sections → (image : Image) → image.lists ≡ lists → AreExplained x image sections
explained_lists x lists sections many all image is = record {
  lists = own_lists x lists sections many all ∙ sym is;
  each = λ n s ls i d stands at one. let list = there sections lists n ls (all.count ∙ sym many) at in (all.each n s list.0 ls stands list.1 at).each i d one;
}

module _ (source : List ℕ) (k : ℕ) (a : ExplainAnalysis) (of : IsOfSource source k a) where
  lists_at : (k_limit : ℕ) (l : Lists) → AreFittedAt a.lowering a.classes k_limit l → AreListsAt of.tree k_limit l
  lists_at k_limit (Inferred lists) fitted =
      let flow = fitted.1 in (
        image_with a.lowering a.classes lists,
        record {
          analysis = record {
            program = record { lowering = a.lowering; lowers = of.lowers; classes = a.classes; are_classes = of.classes };
            stores = flow.stores;
            tells = flow.written;
          };
          inferred = with_lists a.lowering a.classes flow.stores k_limit fitted.0 lists flow.tells fitted.2;
        },
        refl,
        is_accepted of.tree k_limit a.lowering a.classes fitted.0 of.accepted.lowered of.lowers of.classes of.few flow,
      )
  lists_at k_limit (TooManyLocks region) over = record {
    lowered = of.accepted.lowered;
    analysis = record {
      program = record { lowering = a.lowering; lowers = of.lowers; classes = a.classes; are_classes = of.classes };
      stores = over.stores;
      tells = over.written;
    };
    few_classes = of.few;
    many = over.many;
  }

  made_at : (e : Explanation) → IsMade a e → IsExplained of.tree a.k_limit e
  made_at e made = record {
    analysis = record {
      program = record { lowering = a.lowering; lowers = of.lowers; classes = a.classes; are_classes = of.classes };
      stores = stores a.writes;
      tells = of.analysed.written;
    };
    image = image_with a.lowering a.classes made.lists;
    inferred = record {
      analysis = record {
        program = record { lowering = a.lowering; lowers = of.lowers; classes = a.classes; are_classes = of.classes };
        stores = stores a.writes;
        tells = of.analysed.written;
      };
      inferred = with_lists a.lowering a.classes (stores a.writes) a.k_limit a.flow made.lists of.analysed.tells made.fitted;
    };
    sections = explained_lists (read a) made.lists e.sections made.fitted.count made.sections (image_with a.lowering a.classes made.lists) refl;
    ended = made.ended;
    by_length = record { count = made.count; each = λ k_limit l at. lists_at k_limit l (made.each k_limit l at) };
  }

  pub made_explained : (e : Explanation) → IsMade a e → IsExplanation source k e
  made_explained e made = record {
    tree = of.tree;
    parsed = of.parsed;
    accepted = of.accepted;
    explained = subst (λ n. IsExplained of.tree n e) of.same (made_at e made);
  }

  pub made_text : (all : Bool) (text : List ℕ) → IsTextOf a source all text → IsText source k all text
  made_text all text t = record {
    explanation = t.explanation;
    explains = made_explained t.explanation t.made;
    reasoned = t.reasoned;
    reasons = t.reasons;
    classes = t.classes;
    are_told = t.are_told;
    front = t.front;
    tells = subst
        (λ (n : ℕ). IsMadeOf (sections_told (record { facts = t.reasoned.known.facts; k_limit = n; by_length = t.explanation.by_length; classes = t.classes; all = all }) 0 t.explanation.sections t.explanation.ended) t.front)
        of.same
        t.tells;
    ends = t.ends;
  }
