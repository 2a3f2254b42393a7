-- Steps of emitting functions.
use Rattle.std.proofs.Common.{◌≡◌, ℕ, suc, ◌+◌, ◌<◌, ◌≤◌, Bool, true, false, Option, Some, None, if◌then◌else◌, nat_lt, List, [], ◌∷◌, ◌++◌, length, map, drop, get_or, refl, sym, ap, ◌∙◌, arith, add-one, append_assoc, drop-cons}
use Rattle.std.proofs.lemmas.Bool.{leb-false}
use Rattle.asl_code.specs.declared.image.Function as entry
use Rattle.asl_code.specs.declared.instr.Instr.{Instr}
use Rattle.asl_syntax.specs.Tree.{Function, Item, functions_of}
use Rattle.asl_syntax.specs.declared.tree.Function as code
use Rattle.asl_syntax.specs.declared.tree.Item as items
use Rattle.asl_syntax.specs.declared.tree.Item.TheVariants as item
use Rattle.asl_syntax.specs.declared.name.Name.{Name}
use Rattle.asl_syntax.specs.View.{function_of, item_of}
use Rattle.asl_lower.specs.declared.section.Section.{Section}
use Rattle.asl_lower.specs.declared.output.Output.{Output}
use Rattle.asl_lower.specs.Names.{registers_of, scope_of}
use Rattle.asl_lower.specs.Place.{Place, past_function, past_functions}
use Rattle.asl_lower.specs.Lowered.{entry_of}
use Rattle.asl_lower.specs.Layout.{block_sections, function_code, functions_code, functions_sections, functions_table}
use Rattle.asl_lower.specs.OutputView.{Adds, place_of}
use Rattle.asl_lower.specs.Refused.{first_crowded}
use Rattle.asl_lower.proofs.Grows.{by_functions}
use Rattle.asl_lower.proofs.Numbering.{block_locals_grow}

-- parameters are locals
pub few_parameters : (f : Function) → registers_of f ≤ 64 → length f.parameters ≤ 64
few_parameters f h = omega (arith, block_locals_grow f.parameters f.body)

-- where no function from a number on is crowded, the first is not, and none after it
crowded_step : (b : Bool) (number : ℕ) (o : Option ℕ) → (if b then Some number else o) ≡ None → (b ≡ false) × (o ≡ None)
crowded_step true number o e = absurd cc
crowded_step false number o e = (refl, e)

pub none_crowded : (number : ℕ) (f : Function) (fs : List Function) → first_crowded number (f ∷ fs) ≡ None → (registers_of f ≤ 64) × (first_crowded (suc number) fs ≡ None)
none_crowded number f fs e =
    let k = crowded_step (nat_lt 64 (registers_of f)) number (first_crowded (suc number) fs) e in
    (omega (arith, leb-false 65 (registers_of f) k.0), k.1)

-- the functions of the items that are left, at a function and at a global
pub at_function : (is : List items.Item) (i : ℕ) (x : items.Item) (f : code.Function) → i < length is → x ≡ get_or is i x → x ≡ item.Function f → functions_of (map item_of (drop i is)) ≡ function_of f ∷ functions_of (map item_of (drop (i + 1) is))
at_function is i x f low same e =
    ap (λ (l : List items.Item). functions_of (map item_of l)) (drop-cons is i x low)
    ∙ ap (λ (y : items.Item). functions_of (map item_of (y ∷ drop (suc i) is))) (sym same ∙ e)
    ∙ ap (λ (n : ℕ). function_of f ∷ functions_of (map item_of (drop n is))) (sym (add-one i))

pub at_global : (is : List items.Item) (i : ℕ) (x : items.Item) (y : Name) → i < length is → x ≡ get_or is i x → x ≡ item.Global y → functions_of (map item_of (drop i is)) ≡ functions_of (map item_of (drop (i + 1) is))
at_global is i x y low same e =
    ap (λ (l : List items.Item). functions_of (map item_of l)) (drop-cons is i x low)
    ∙ ap (λ (z : items.Item). functions_of (map item_of (z ∷ drop (suc i) is))) (sym same ∙ e)
    ∙ ap (λ (n : ℕ). functions_of (map item_of (drop n is))) (sym (add-one i))

-- where there is capacity for all functions, there is capacity for the next
pub functions_room : (f : Function) (left rest : List Function) (p q : Place) → left ≡ f ∷ rest → q ≡ past_functions left p → q.pc ≤ 65535 → (past_function f p).pc ≤ 65535
functions_room f left rest p q e g h =
    omega (arith, h, (by_functions rest (past_function f p)).pc, ap (λ (r : Place). r.pc) g, ap (λ (fs : List Function). (past_functions fs p).pc) e)

-- one function more is emitted
pub code_step : (is : List Item) (number n : ℕ) (f : Function) (left rest : List Function) (old new : Output) (all : List Instr) → left ≡ f ∷ rest → n ≡ suc number → Adds old new (function_code is number f (place_of old)) (block_sections (scope_of is number f) f.body (place_of old)) (past_function f (place_of old)) → old.code.items ++ functions_code is number left (place_of old) ≡ all → new.code.items ++ functions_code is n rest (place_of new) ≡ all
code_step is number n f left rest old new all e k h inv =
    let one : List Instr = function_code is number f (place_of old) in
    let end : Place = past_function f (place_of old) in
    ap (λ (l : List Instr). l ++ functions_code is n rest (place_of new)) h.adds_code
    ∙ ap (λ (m : ℕ). (old.code.items ++ one) ++ functions_code is m rest (place_of new)) k
    ∙ ap (λ (p : Place). (old.code.items ++ one) ++ functions_code is (suc number) rest p) h.place
    ∙ append_assoc old.code.items one (functions_code is (suc number) rest end)
    ∙ ap (λ (fs : List Function). old.code.items ++ functions_code is number fs (place_of old)) (sym e)
    ∙ inv

pub sections_step : (is : List Item) (number n : ℕ) (f : Function) (left rest : List Function) (old new : Output) (all : List Section) → left ≡ f ∷ rest → n ≡ suc number → Adds old new (function_code is number f (place_of old)) (block_sections (scope_of is number f) f.body (place_of old)) (past_function f (place_of old)) → old.sections.items ++ functions_sections is number left (place_of old) ≡ all → new.sections.items ++ functions_sections is n rest (place_of new) ≡ all
sections_step is number n f left rest old new all e k h inv =
    let one : List Section = block_sections (scope_of is number f) f.body (place_of old) in
    let end : Place = past_function f (place_of old) in
    ap (λ (l : List Section). l ++ functions_sections is n rest (place_of new)) h.adds_sections
    ∙ ap (λ (m : ℕ). (old.sections.items ++ one) ++ functions_sections is m rest (place_of new)) k
    ∙ ap (λ (p : Place). (old.sections.items ++ one) ++ functions_sections is (suc number) rest p) h.place
    ∙ append_assoc old.sections.items one (functions_sections is (suc number) rest end)
    ∙ ap (λ (fs : List Function). old.sections.items ++ functions_sections is number fs (place_of old)) (sym e)
    ∙ inv

pub table_step : (f : Function) (left rest : List Function) (t u all : List entry.Function) (x : entry.Function) (p q : Place) → left ≡ f ∷ rest → u ≡ t ++ x ∷ [] → x ≡ entry_of f p → q ≡ past_function f p → t ++ functions_table left p ≡ all → u ++ functions_table rest q ≡ all
table_step f left rest t u all x p q e added same place inv =
    ap (λ (l : List entry.Function). l ++ functions_table rest q) added
    ∙ append_assoc t (x ∷ []) (functions_table rest q)
    ∙ ap (λ (y : entry.Function). t ++ y ∷ functions_table rest q) same
    ∙ ap (λ (r : Place). t ++ entry_of f p ∷ functions_table rest r) place
    ∙ ap (λ (fs : List Function). t ++ functions_table fs p) (sym e)
    ∙ inv
