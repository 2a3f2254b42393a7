-- What has been emitted for all functions is the lowering of the program.
use Rattle.std.proofs.Common.{◌≡◌, ℕ, suc, ◌≤◌, None, codes, List, [], ◌∷◌, ◌++◌, length, sym, ap, ◌∙◌, subst}
use Rattle.std.specs.List.{All}
use Rattle.std.proofs.lemmas.List.Elements.{All-nil, All-cons}
use Rattle.asl_code.specs.declared.image.Function as entry
use Rattle.asl_code.specs.declared.instr.Instr.{Instr}
use Rattle.asl_syntax.specs.Tree.{Function, Item, globals_of, functions_of}
use Rattle.asl_syntax.specs.Parsed.{IsParsed}
use Rattle.asl_lower.specs.declared.section.Section.{Section}
use Rattle.asl_lower.specs.declared.output.Output.{Output}
use Rattle.asl_lower.specs.declared.code_draft.CodeDraft.{CodeDraft}
use Rattle.asl_lower.specs.Names.{function_names, number_of}
use Rattle.asl_lower.specs.Place.{Place, origin, past_function, past_functions}
use Rattle.asl_lower.specs.Lowered.{Lowered, IsLowering, entry_of}
use Rattle.asl_lower.specs.OpenSections.{IsBareAccess}
use Rattle.asl_lower.specs.Layout.{functions_code, functions_sections, functions_table, lowering_of}
use Rattle.asl_lower.specs.OutputView.{Adds, place_of}
use Rattle.asl_lower.specs.Refused.{first_crowded}
use Rattle.asl_lower.specs.LegalLowering.{IsLegalLowering, lowered_of}
use Rattle.asl_lower.proofs.Laid.{lowering_of_is_lowering}
use Rattle.asl_lower.proofs.Emits.{place_same}
use Rattle.asl_lower.proofs.Listed.{none_crowded}
use Rattle.asl_lower.proofs.Layouts.{emitted_layout}

-- nothing has been emitted
pub record IsEmpty (o : Output) : Type 0 where
  pub code : o.code.items ≡ []
  pub sections : o.sections.items ≡ []
  pub sites : o.sites ≡ 0

pub at_origin : (o : Output) → IsEmpty o → place_of o ≡ origin
at_origin o h =
    place_same (place_of o) origin (ap length h.code) h.sites (ap length h.sections)

-- few registers, as the table has them
few_table : (number : ℕ) (fs : List Function) (p : Place) → first_crowded number fs ≡ None → All (λ (f : entry.Function). f.regs ≤ 64) (functions_table fs p)
few_table number [] p e = All-nil (λ (f : entry.Function). f.regs ≤ 64)
few_table number (f ∷ fs) p e =
    let k = none_crowded number f fs e in
    All-cons (λ (g : entry.Function). g.regs ≤ 64) (entry_of f p) (functions_table fs (past_function f p)) k.0 (few_table (suc number) fs (past_function f p) k.1)

-- the parts of the lowering
same_parts : (l m : Lowered) → l.globals ≡ m.globals → l.functions ≡ m.functions → l.main ≡ m.main → l.code ≡ m.code → l.sites ≡ m.sites → l.sections ≡ m.sections → l ≡ m
same_parts l m a b c d e f =
    λ i. record { globals = a i; functions = b i; main = c i; code = d i; sites = e i; sections = f i }

pub emitted : (is : List Item) (d : CodeDraft) (old : Output) → IsEmpty old → Adds old d.out (functions_code is 0 (functions_of is) (place_of old)) (functions_sections is 0 (functions_of is) (place_of old)) (past_functions (functions_of is) (place_of old)) → d.functions.items ≡ functions_table (functions_of is) (place_of old) → d.globals ≡ length (globals_of is) → d.main ≡ number_of (function_names (functions_of is)) (codes "main") → lowered_of d ≡ lowering_of is
emitted is d old empty h t g m =
    let fs : List Function = functions_of is in
    let o : place_of old ≡ origin = at_origin old empty in
    same_parts (lowered_of d) (lowering_of is) g (t ∙ ap (functions_table fs) o) m
    (h.adds_code ∙ ap (λ (l : List Instr). l ++ functions_code is 0 fs (place_of old)) empty.code ∙ ap (functions_code is 0 fs) o)
    (ap (λ (p : Place). p.site) (h.place ∙ ap (past_functions fs) o))
    (h.adds_sections ∙ ap (λ (l : List Section). l ++ functions_sections is 0 fs (place_of old)) empty.sections ∙ ap (functions_sections is 0 fs) o)

-- it is what a `Lowering` keeps
pub emitted_lowering : (is : List Item) (l : Lowered) → l ≡ lowering_of is → IsLowering is l
emitted_lowering is l e =
    let P : Lowered → Type 0 = IsLowering is in subst P (sym e) (lowering_of_is_lowering is)

pub emitted_kept : (is : List Item) (l : Lowered) → l ≡ lowering_of is → ∥ IsParsed is ∥₁ → first_crowded 0 (functions_of is) ≡ None → length l.code ≤ 65535 → ((function pc : ℕ) → ¬ IsBareAccess l function pc) → IsLegalLowering l
emitted_kept is l e parsed few size inside =
    let P : List entry.Function → Type 0 = All (λ (f : entry.Function). f.regs ≤ 64) in
    record {
      layout = emitted_layout is l parsed (emitted_lowering is l e);
      few_registers = subst P (sym (ap (λ (m : Lowered). m.functions) e)) (few_table 0 (functions_of is) origin few);
      size = size;
      inside = inside;
    }
