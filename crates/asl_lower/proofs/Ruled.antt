-- A program that breaks no rule names what is there.
use Rattle.std.proofs.Common.{◌≡◌, ℕ, suc, ◌+◌, ◌<◌, ◌≤◌, inl, inr, Bool, true, false, ◌||◌, not, ◌==◌, if◌then◌else◌, Option, Some, None, List, [], ◌∷◌, ◌++◌, length, map, slice_get, refl, sym, ap, ◌∙◌, subst, arith}
use Rattle.std.specs.Prelude.{bytes_eq}
use Rattle.std.proofs.lemmas.Bool.{false≢true, eqb-true, cases_lt}
use Rattle.std.proofs.lemmas.Option.{slice_get_within}
use Rattle.std.proofs.lemmas.Slice.Eq.{bytes_eq-Decides}
use Rattle.asl_code.specs.declared.image.Function as entry
use Rattle.asl_code.specs.declared.instr.Instr.{Instr}
use Rattle.asl_code.specs.declared.instr.Instr.TheVariants as instr
use Rattle.asl_syntax.specs.declared.names.Space.TheVariants.{Globals, Functions, Locals}
use Rattle.asl_syntax.specs.Tree.{Function, Item, GlobalItem, FunctionItem, globals_of, functions_of}
use Rattle.asl_syntax.specs.Parsed.{IsParsed}
use Rattle.asl_syntax.specs.Mentions.{Mention, DeclaresGlobal, DeclaresFunction, DeclaresParameter, AssignsLocal, UsesLocal, UsesGlobal, CallsFunction, block_mentions, function_mentions, mentions}
use Rattle.asl_syntax.specs.Rules.{Names, Counts, with_declared, declared_in, names_in, unknown_use, or_name, first_unknown_use, first_unknown, unknown_in_function, parameter_counts, differs, is_wrong_call}
use Rattle.asl_lower.specs.Names.{Scope, register, global_number, has_name, number_of, function_names, registers_of, locals_of, scope_of}
use Rattle.asl_lower.specs.Place.{Place, origin, past_function, past_functions}
use Rattle.asl_lower.specs.Lowered.{Lowered, IsLoweredFunction, AreLoweredFunctions, IsLowering, entry_of}
use Rattle.asl_lower.specs.OpenSections.{start_of, InBody}
use Rattle.asl_lower.specs.Operands.{HasOperands, AreOperandsThere}
use Rattle.asl_lower.proofs.Grows.{Precedes, by_function}
use Rattle.asl_lower.proofs.Bodies.{Begins, next_begins, begins}
use Rattle.asl_lower.proofs.Points.{last_of}
use Rattle.asl_lower.proofs.BodyFacts.{lowering_parted}
use Rattle.asl_lower.proofs.SectionFacts.{lowering_numbered, lowering_sections}
use Rattle.asl_lower.proofs.Named.{Known, Each, each_first, each_second, NamedAt, block_named, named_operands}
use Rattle.asl_lower.proofs.Passed.{IsWithin, AreWithin, functions_within}
use Rattle.asl_lower.proofs.Mentioned.{or_first, or_second, name_there, globals_declared, functions_declared, locals_declared}
use Rattle.asl_lower.proofs.RightCalls.{right_calls}

-- each used name is known
none_both : (a b : Option (List ℕ)) → or_name a b ≡ None → (a ≡ None) × (b ≡ None)
none_both None b e = (refl, e)
none_both (Some x) b e = absurd cc

known_name : (b : Bool) (x : List ℕ) → (if b then None else Some x) ≡ None → b ≡ true
known_name true x e = refl
known_name false x e = absurd cc

more_declared : (o : Option (List ℕ)) (known : Names) (x : List ℕ) → known x ≡ true → with_declared o known x ≡ true
more_declared None known x e = e
more_declared (Some y) known x e = or_second (bytes_eq y x) (known x) e

-- what the names of a scope mean
record Means (sc : Scope) (l : Lowered) (gs fs ls : Names) (counts : Counts) : Type 0 where
  globals : (x : List ℕ) → gs x ≡ true → global_number sc x < l.globals
  locals : (x : List ℕ) → ls x ≡ true → register sc x < length sc.locals
  callees : (x : List ℕ) (n : ℕ) → fs x ≡ true → differs (counts x) n ≡ false → Known sc l (CallsFunction x n)

known_mention : (sc : Scope) (l : Lowered) (gs fs ls : Names) (counts : Counts) → Means sc l gs fs ls counts → (m : Mention) (ms : List Mention) → unknown_use gs fs ls m ≡ None → is_wrong_call counts m ≡ false → ((x : List ℕ) → names_in Locals (m ∷ ms) x ≡ true → ls x ≡ true) → Known sc l m
known_mention sc l gs fs ls counts k (DeclaresGlobal x) ms e c a = tt
known_mention sc l gs fs ls counts k (DeclaresFunction x) ms e c a = tt
known_mention sc l gs fs ls counts k (DeclaresParameter x) ms e c a = tt
known_mention sc l gs fs ls counts k (AssignsLocal x) ms e c a =
    k.locals x (a x (or_first (bytes_eq x x) (names_in Locals ms x) ((bytes_eq-Decides x x).1 refl)))
known_mention sc l gs fs ls counts k (UsesLocal x) ms e c a = k.locals x (known_name (ls x) x e)
known_mention sc l gs fs ls counts k (UsesGlobal x) ms e c a = k.globals x (known_name (gs x) x e)
known_mention sc l gs fs ls counts k (CallsFunction x n) ms e c a = k.callees x n (known_name (fs x) x e) c

known_mentions : (sc : Scope) (l : Lowered) (gs fs ls : Names) (counts : Counts) → Means sc l gs fs ls counts → (ms : List Mention) → first_unknown_use gs fs ls ms ≡ None → Each (λ m. is_wrong_call counts m ≡ false) ms → ((x : List ℕ) → names_in Locals ms x ≡ true → ls x ≡ true) → Each (Known sc l) ms
known_mentions sc l gs fs ls counts k [] e c a = tt
known_mentions sc l gs fs ls counts k (m ∷ ms) e c a =
    let both = none_both (unknown_use gs fs ls m) (first_unknown_use gs fs ls ms) e in (
      known_mention sc l gs fs ls counts k m ms both.0 c.0 a,
      known_mentions sc l gs fs ls counts k ms both.1 c.1 (λ x h. a x (more_declared (declared_in Locals m) (names_in Locals ms) x h)),
    )

-- the function of a name is in the table, with its parameters
same_count : (b : Bool) → not b ≡ false → b ≡ true
same_count true e = refl
same_count false e = absurd (false≢true (sym e))

callee_step : (l : Lowered) (n m k own : ℕ) (b h : Bool) (rest : Option ℕ) (g : entry.Function) → slice_get l.functions n ≡ Some g → g.params ≡ own → (h ≡ true → differs rest k ≡ false → (x : entry.Function) × (slice_get l.functions (suc n + m) ≡ Some x) × (x.params ≡ k)) → (b || h) ≡ true → differs (if b then Some own else rest) k ≡ false → (x : entry.Function) × (slice_get l.functions (n + (if b then 0 else suc m)) ≡ Some x) × (x.params ≡ k)
callee_step l n m k own true h rest g there same go e d =
    let z : n + 0 ≡ n = omega arith in
    (g, ap (slice_get l.functions) z ∙ there, same ∙ eqb-true own k (same_count (own == k) d))
callee_step l n m k own false h rest g there same go e d =
    let w = go e d in
    let z : n + suc m ≡ suc n + m = omega arith in
    (w.0, ap (slice_get l.functions) z ∙ w.1, w.2)

callee_at : (all : List Item) (l : Lowered) (n : ℕ) (is : List Item) (p : Place) → AreLoweredFunctions all l n (functions_of is) p → (x : List ℕ) (k : ℕ) → has_name (function_names (functions_of is)) x ≡ true → differs (parameter_counts is x) k ≡ false → (g : entry.Function) × (slice_get l.functions (n + number_of (function_names (functions_of is)) x) ≡ Some g) × (g.params ≡ k)
callee_at all l n [] p h x k e d = absurd (false≢true e)
callee_at all l n (GlobalItem y ∷ is) p h x k e d = callee_at all l n is p h x k e d
callee_at all l n (FunctionItem f ∷ is) p h x k e d =
    callee_step l n (number_of (function_names (functions_of is)) x) k (length f.parameters) (bytes_eq f.name x) (has_name (function_names (functions_of is)) x) (parameter_counts is x) (entry_of f p) h.0.in_table refl (callee_at all l (suc n) is (past_function f p) h.1 x k) e d

-- the mentions of each function are known
abbrev AllKnown : List Item → Lowered → List Function → Type 0
AllKnown is l [] = Unit {0}
AllKnown is l (f ∷ fs) = ((n : ℕ) → Each (Known (scope_of is n f) l) (function_mentions f)) × AllKnown is l fs

known_functions : (all : List Item) (l : Lowered) → IsLowering all l → (is : List Item) → first_unknown (names_in Globals (mentions all)) (names_in Functions (mentions all)) is ≡ None → Each (λ m. is_wrong_call (parameter_counts all) m ≡ false) (mentions is) → AllKnown all l (functions_of is)
known_functions all l h [] e c = tt
known_functions all l h (GlobalItem y ∷ is) e c = known_functions all l h is e c.1
known_functions all l h (FunctionItem f ∷ is) e c =
    let gs : Names = names_in Globals (mentions all) in
    let fs : Names = names_in Functions (mentions all) in
    let ls : Names = names_in Locals (function_mentions f) in
    let right : Mention → Type 0 = λ m. is_wrong_call (parameter_counts all) m ≡ false in
    let both = none_both (unknown_in_function gs fs (function_mentions f)) (first_unknown gs fs is) e in (
      λ n. known_mentions (scope_of all n f) l gs fs ls (parameter_counts all)
          (record {
            globals = λ x g. (let low = name_there (globals_of all) x (globals_declared all x g) in omega (arith, low, h.globals));
            locals = λ x g. name_there (locals_of f) x (locals_declared f x g);
            callees = λ x k g d.
                let w = callee_at all l 0 all origin h.bodies x k (functions_declared all x g) d in
                let number : ℕ = number_of (function_names (functions_of all)) x in
                let z : number ≡ 0 + number = omega arith in
                (w.0, ap (slice_get l.functions) z ∙ w.1, w.2);
          })
          (function_mentions f) both.0 (each_first right (function_mentions f) (mentions is) c) (λ x g. g),
      known_functions all l h is both.1 (each_second right (function_mentions f) (mentions is) c),
    )

-- the function in whose body a pc lies, with what its names mean
record Housed (is : List Item) (l : Lowered) (pc : ℕ) : Type 0 where
  number : ℕ
  function : Function
  place : Place
  lowered : IsLoweredFunction is l number function place
  start : start_of l.functions number ≡ place.pc
  low : place.pc ≤ pc
  high : pc < (past_function function place).pc
  known : Each (Known (scope_of is number function) l) (function_mentions function)
  within : IsWithin function

housed : (is : List Item) (l : Lowered) (n : ℕ) (fs : List Function) (p : Place) → AreLoweredFunctions is l n fs p → Begins l n p → AllKnown is l fs → AreWithin fs → (pc : ℕ) → p.pc ≤ pc → pc < (past_functions fs p).pc → Housed is l pc
housed is l n [] p h b k c pc low high = absurd (omega arith)
housed is l n (f ∷ fs) p h b k c pc low high =
    elim (cases_lt pc (past_function f p).pc) [
      | inl inside ↦ record { number = n; function = f; place = p; lowered = h.0; start = b.start; low = low; high = inside; known = k.0 n; within = c.0 }
      | inr past ↦ housed is l (suc n) fs (past_function f p) h.1 (next_begins is l n f p h.0 b) k.1 c.1 pc past high
    ]

-- what stands at a pc of its body
housed_named : (is : List Item) (l : Lowered) (pc : ℕ) → (b : Housed is l pc) → NamedAt l (registers_of b.function) pc
housed_named is l pc b =
    let f : Function = b.function in
    let sc : Scope = scope_of is b.number f in
    let last : List Mention = UsesLocal f.returned ∷ [] in
    let own = each_second (Known sc l) (map DeclaresParameter f.parameters) (block_mentions f.body ++ last) b.known.1 in
    elim (cases_lt pc (last_of f b.place).pc) [
      | inl inside ↦ block_named sc l (registers_of f) f.body b.place b.lowered.body (omega arith) (each_first (Known sc l) (block_mentions f.body) last own) b.within.cells pc b.low inside
      | inr past ↦ (let e : pc ≡ (last_of f b.place).pc = omega (arith, b.high) in
          let returned = (each_second (Known sc l) (block_mentions f.body) last own).0 in
          record { instruction = instr.Return (register sc f.returned); stands = ap (slice_get l.code) e ∙ b.lowered.returns; named = (omega (arith, returned), tt) })
    ]

housed_body : (is : List Item) (l : Lowered) (pc : ℕ) → (b : Housed is l pc) → InBody l b.number pc
housed_body is l pc b =
    let g : Precedes b.place (past_function b.function b.place) = by_function b.function b.place in
    record { function = entry_of b.function b.place; in_table = b.lowered.in_table; start = omega (arith, b.start, b.low); before_end = omega (arith, b.start, b.high, g.pc) }

pub lowering_operands : (is : List Item) (l : Lowered) → IsParsed is → IsLowering is l → AreOperandsThere l
lowering_operands is l p h pc number f i inside there stands =
    let known : AllKnown is l (functions_of is) = known_functions is l h is p.parses.unknown (right_calls is p) in
    let b : Housed is l pc = housed is l 0 (functions_of is) origin h.bodies (begins l) known (functions_within is p) pc (omega arith) (omega (arith, h.code, slice_get_within l.code pc i stands)) in
    let n : NamedAt l (registers_of b.function) pc = housed_named is l pc b in
    let same : b.number ≡ number = (lowering_parted is l h).one_body pc b.number number (housed_body is l pc b) inside in
    let e : Some (entry_of b.function b.place) ≡ Some f = sym b.lowered.in_table ∙ ap (slice_get l.functions) same ∙ there in
    let entries : entry_of b.function b.place ≡ f = cc in
    let g : Some n.instruction ≡ Some i = sym n.stands ∙ stands in
    let instructions : n.instruction ≡ i = cc in
    let P : entry.Function → Type 0 = λ x. HasOperands l x.regs n.instruction in
    let Q : Instr → Type 0 = λ j. HasOperands l f.regs j in
    subst Q instructions (subst P entries (named_operands l (registers_of b.function) pc n.instruction (lowering_numbered is l h) (lowering_sections is l h) n.stands n.named))
