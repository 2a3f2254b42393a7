-- What an opened explanation hands out is part of a whole one.
use Rattle.std.proofs.Common.{◌≡◌, ◌+◌, ℕ, zero, suc, List, [], ◌∷◌, ◌++◌, map, Some, None, IfSome, slice_get, refl, ap, subst}
use Rattle.std.proofs.lemmas.Option.{same_Some}
use Rattle.asl_code.specs.declared.lock.Lock.{Lock}
use Rattle.asl_emitter.specs.BuiltImage.{AreFitted}
use Rattle.asl_explain.specs.declared.explained_value.Ended.{Ended}
use Rattle.asl_explain.specs.declared.explained_value.Listed.{Listed}
use Rattle.asl_explain.specs.declared.opened_explanation.OpenedExplanation.{OpenedExplanation}
use Rattle.asl_explain.specs.Chains.{Read}
use Rattle.asl_explain.specs.Explained.{IsEnding, AreEnded}
use Rattle.asl_explain.specs.Analysed.{HasAdded, IsOfSource}
use Rattle.asl_explain.specs.Endings.{EndsSomewhere}
use Rattle.asl_explain.specs.Opened.{section_count, HasEndedBelow, HasRest, IsOpened, IsSectionOf, AreSectionsOf}
use Rattle.asl_explain.proofs.Dropping.{ended_whole, below_more}
use Rattle.asl_explain.proofs.Explaining.{made_explained}
use Rattle.asl_explain.proofs.Needing.{sections_more}

-- ---- locks that end, of which no chain is told

abbrev bare : Lock → Ended
bare lock = record { lock = lock; ending = None }

bare_locks : (locks : List Lock) → map (λ (e : Ended). e.lock) (map bare locks) ≡ locks
bare_locks [] = refl
bare_locks (l ∷ ls) = ap (λ (rest : List Lock). l ∷ rest) (bare_locks ls)

bare_told : (x : Read) (section : ℕ) (locks : List Lock) (n : ℕ) (e : Ended) → slice_get (map bare locks) n ≡ Some e → IfSome e.ending (IsEnding x section e.lock)
bare_told x section [] n e at = cc
bare_told x section (l ∷ ls) zero e at = subst (λ (d : Ended). IfSome d.ending (IsEnding x section d.lock)) (same_Some (bare l) e at) tt
bare_told x section (l ∷ ls) (suc n) e at = bare_told x section ls n e at

module _ (x : Read) where
  pub no_ended : HasEndedBelow x 0
  no_ended = ([], record { count = refl; each = λ n ended at. cc })

  pub ended_more : (n : ℕ) (locks : List Lock) → HasAdded (EndsSomewhere x n) [] locks → HasEndedBelow x n → HasEndedBelow x (n + 1)
  ended_more n locks added before =
      let one : AreEnded x n (map bare locks) = ended_whole x n locks (map bare locks) added (record { same = bare_locks locks; told = bare_told x n locks }) in
      (before.0 ++ map bare locks ∷ [], below_more x n before.0 _ (map bare locks) refl before.1 one)

-- ---- sections

-- with all sections there is an explanation of the source
pub opened : (source : List ℕ) (k : ℕ) (o : OpenedExplanation) → IsOfSource source k o.analysis → AreFitted o.analysis.lowering o.analysis.classes o.analysis.flow (section_count o) o.lists → HasRest o.analysis → IsOpened source k o
opened source k o of fitted rest = record {
  ready = record { analysed = of.analysed; count = fitted.count };
  accepted = record { tree = of.tree; parsed = of.parsed; accepted = of.accepted };
  explains = λ sections are. (
    record { sections = sections; ended = rest.ended; by_length = rest.by_length },
    made_explained source k o.analysis of (record { sections = sections; ended = rest.ended; by_length = rest.by_length })
        (record { lists = o.lists; fitted = fitted; sections = are; ended = rest.are_ended; count = rest.count; each = rest.each }),
    refl,
  );
}

module _ (o : OpenedExplanation) where
  pub no_section : AreSectionsOf o 0 []
  no_section = record { count = refl; each = λ n is list ls section with at. cc }

  pub section_more : (n : ℕ) (before : List (List Listed)) (listed : List Listed) → AreSectionsOf o n before → IsSectionOf o n listed → AreSectionsOf o (n + 1) (before ++ listed ∷ [])
  section_more n before listed are one = sections_more _ o.lists n one.is one.list before _ listed refl one.stands one.at are one.explained
