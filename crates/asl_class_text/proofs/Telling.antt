-- What is known of a source and the text that tells its classes.
use Rattle.std.proofs.Common.{◌≡◌, List, ℕ, Bool, refl, sym, subst}
use Rattle.asl_syntax.specs.Tree.{Item}
use Rattle.asl_syntax.specs.Parsed.{Parses}
use Rattle.asl_lower.specs.Lowered.{Lowered, IsLowering}
use Rattle.asl_points_to.specs.Classes.{Classed, AreClasses}
use Rattle.asl_map.specs.declared.map.Map.{Map}
use Rattle.asl_map.specs.Mapped.{IsMapped}
use Rattle.asl_class_text.specs.declared.facts.Facts.{Facts}
use Rattle.asl_class_text.specs.declared.told.ToldClass.{ToldClass}
use Rattle.asl_class_text.specs.Texts.{classes_text}
use Rattle.asl_class_text.specs.Classes.{AreToldClasses, AreFactsOf, AreFacts, IsKnown, IsClassText}
use Rattle.asl_class_text.specs.Reasoned.{Reasoned, IsReasoned}

abbrev facts_are : (source : List ℕ) (m : Map) (tree : List Item) (l : Lowered) (c : Classed) (f : Facts) → IsMapped source m → Parses source tree → IsLowering tree l → AreClasses l c → AreFactsOf source m l c f → AreFacts source f
facts_are source m tree l c f mapped parses lowers classes fs = record {
  mapped = subst (λ (x : Map). IsMapped source x) (sym fs.map) mapped;
  tree = tree;
  parses = parses;
  lowers = subst (λ (x : Lowered). IsLowering tree x) (sym fs.lowering) lowers;
  classed = c;
  classes = subst (λ (x : Lowered). AreClasses x c) (sym fs.lowering) classes;
  facts = record { text = fs.text; lines = fs.lines; map = refl; lowering = refl; count = fs.count; classes = fs.classes };
}

pub facts_known : (source : List ℕ) (m : Map) (tree : List Item) (l : Lowered) (c : Classed) (f : Facts) → IsMapped source m → Parses source tree → IsLowering tree l → AreClasses l c → AreFactsOf source m l c f → IsKnown source (record { facts = f; classes = c })
facts_known source m tree l c f mapped parses lowers classes fs = record { facts = facts_are source m tree l c f mapped parses lowers classes fs; classes = refl }

pub text_is : (source : List ℕ) (r : Reasoned) (all : Bool) (ts : List ToldClass) (text : List ℕ) → IsReasoned source r → AreToldClasses r.known.facts.lowering r.known.facts.classes.items r.known.facts.count r.steps all ts → text ≡ classes_text r.known.facts all ts
    → IsClassText source all text
text_is source r all ts text is told tells = record {
  facts = r.known.facts;
  are_facts = is.known.facts;
  steps = r.steps;
  reasons = is.reasons;
  told = ts;
  are_told = told;
  tells = tells;
}
