use Rattle.std.proofs.Common.{List, Option, length, string_bytes, refl, sym, subst}
use Rattle.asl_code.specs.declared.lock.Lock.{Lock}
use Rattle.asl_emitter.specs.BuiltImage.{AreFitted}
use Rattle.asl_explain.specs.declared.class_reasons.ClassTold.{ClassTold}
use Rattle.asl_explain.specs.declared.explained_value.Lists.{Lists}
use Rattle.asl_explain.specs.ClassReasons.{AreTold}
use Rattle.asl_explain.specs.Told.{Given, IsMadeOf, sections_told}
use Rattle.asl_explain.specs.Telling.{TellsSections}
use Rattle.asl_explain.specs.Analysed.{read}
use Rattle.asl_explain.proofs.Dropping.{below_all}
use Rattle.asl_explain.proofs.Explaining.{own_lists}
use Rattle.asl_explain.proofs.Piecing.{tells_whole}
use Rattle.asl_explain.proofs.ToldClasses.{told_alike}
use Rattle.asl_explain.proofs.explained_source.told.Goals as goal

pub returns : goal.returns
returns c =
    let a = c.args.analysis.now in
    let r = c.in-Ok.reasoned in
    let f = r.known.facts in
    let own = c.as_slice-own.result.now in
    let ts = c.deref.result.now in
    let text = string_bytes c.in_ok-text.text in
    let fitted = subst (λ (lists : List (List Lock)). AreFitted a.lowering a.classes a.flow (length a.lowering.sections) lists) (sym c.as_slice-own.ensures) c.in_ok-inferred.ensures in
    let lengths = c.as_slice.result.now in
    let g : List Lists → Given = λ lengths. record { facts = f; k_limit = a.k_limit; by_length = lengths; classes = ts; all = c.args.all } in
    let t : TellsSections (read a) own (g lengths) (length a.lowering.sections) text = c.in_ok-text.ensures in
    record {
      explanation = record { sections = t.sections; ended = t.ended; by_length = c.in_ok-by_length.by_length };
      made = record {
        lists = own;
        fitted = fitted;
        sections = t.made;
        ended = below_all (read a) (length a.lowering.sections) t.ended refl t.ends;
        count = c.in_ok-by_length.ensures.count;
        each = c.in_ok-by_length.ensures.each;
      };
      reasoned = r;
      reasons = c.in-Ok.ensures.reasoned;
      classes = ts;
      are_told = subst (λ (ts : List (Option ClassTold)). AreTold r c.args.all t.sections f.count ts) (sym c.deref.ensures.value)
          (told_alike r c.args.all t.sections own f.count c.in_ok-told.told.items (own_lists (read a) own t.sections fitted.count t.made) c.in_ok-told.ensures);
      front = text;
      tells = subst (λ (ls : List Lists). IsMadeOf (sections_told (g ls) 0 t.sections t.ended) text) c.as_slice.ensures (tells_whole (sections_told (g lengths) 0 t.sections t.ended) text t.tells);
      ends = c.in_ok-push_warnings.ensures;
    }
