-- Steps of emitting code.
use Rattle.std.proofs.Common.{◌≡◌, ℕ, suc, ◌<◌, ◌≤◌, Result, Ok, Err, IfOk, List, [], ◌∷◌, ◌++◌, length, drop, get_or, set, refl, sym, ap, ◌∙◌, arith, append_assoc, drop-cons, length-append}
use Rattle.std.proofs.lemmas.List.{append-nil}
use Rattle.std.proofs.Math.Seq.{set-append_seam}
use Rattle.std.proofs.Math.ListN.{length-set}
use Rattle.asl_code.specs.declared.instr.Instr.{Instr}
use Rattle.asl_code.specs.declared.instr.Instr.TheVariants as instr
use Rattle.asl_syntax.specs.Tree.{IfStatement, WhileStatement, AtomicStatement, Block, NoMore}
use Rattle.asl_syntax.specs.declared.tree.Statement as tree
use Rattle.asl_syntax.specs.View.{statement_of, block_of}
use Rattle.asl_lower.specs.declared.section.Section.{Section}
use Rattle.asl_lower.specs.declared.output.Output.{Output}
use Rattle.asl_lower.specs.Names.{Scope, register}
use Rattle.asl_lower.specs.Lowered.{section_of}
use Rattle.asl_lower.specs.Layout.{stmt_code, block_code, stmt_sections, block_sections}
use Rattle.asl_lower.specs.Place.{Place, next, entered, past_moves, past_stmt, past_block}
use Rattle.asl_lower.specs.OutputView.{Adds, place_of}
use Rattle.asl_lower.proofs.Grows.{Precedes, joined, by_moves, by_stmt, by_block, by_else}

-- places with equal counts are equal
pub place_same : (p q : Place) → p.pc ≡ q.pc → p.site ≡ q.site → p.section ≡ q.section → p ≡ q
place_same p q a b c = λ i. record { pc = a i; site = b i; section = c i }

-- where there is capacity for all, there is capacity for one `mov` more
pub moves_room : (args : List (List ℕ)) (i : ℕ) (p q : Place) → past_moves args q ≡ past_moves (drop i args) p → i < length args → (past_moves args q).pc ≤ 65535 → (next p).pc ≤ 65535
moves_room args i p q e low h =
    let f : drop i args ≡ get_or args i [] ∷ drop (suc i) args = drop-cons args i [] low in
    let g : Precedes (next p) (past_moves (drop (suc i) args) (next p)) = by_moves (drop (suc i) args) (next p) in
    let k : past_moves (drop i args) p ≡ past_moves (drop (suc i) args) (next p) = ap (λ (xs : List (List ℕ)). past_moves xs p) f in
    omega (arith, h, g.pc, ap (λ (r : Place). r.pc) (e ∙ k))

-- the lists of an `if` with two blocks
pub if_else_code : {X : Type 0} (old c1 c2 c3 c4 c5 c6 one two : List X) (hole over jz jump : X) → c1 ≡ old ++ hole ∷ [] → c2 ≡ c1 ++ one → c3 ≡ c2 ++ over ∷ [] → c4 ≡ set c3 (length old) jz → c5 ≡ c4 ++ two → c6 ≡ set c5 (length c2) jump → c6 ≡ old ++ jz ∷ (one ++ jump ∷ two)
if_else_code {X} old c1 c2 c3 c4 c5 c6 one two hole over jz jump e1 e2 e3 e4 e5 e6 =
    let f2 : c2 ≡ old ++ hole ∷ one = e2 ∙ ap (λ (l : List X). l ++ one) e1 ∙ append_assoc old (hole ∷ []) one in
    let f3 : c3 ≡ old ++ hole ∷ (one ++ over ∷ []) = e3 ∙ ap (λ (l : List X). l ++ over ∷ []) f2 ∙ append_assoc old (hole ∷ one) (over ∷ []) in
    let f4 : c4 ≡ old ++ jz ∷ (one ++ over ∷ []) = e4 ∙ ap (λ (l : List X). set l (length old) jz) f3 ∙ set-append_seam old hole (one ++ over ∷ []) jz in
    let g4 : old ++ jz ∷ (one ++ over ∷ []) ≡ (old ++ jz ∷ one) ++ over ∷ [] = sym (append_assoc old (jz ∷ one) (over ∷ [])) in
    let f5 : c5 ≡ (old ++ jz ∷ one) ++ over ∷ two = e5 ∙ ap (λ (l : List X). l ++ two) (f4 ∙ g4) ∙ append_assoc (old ++ jz ∷ one) (over ∷ []) two in
    let n : length c2 ≡ length (old ++ jz ∷ one) = omega (arith, ap length f2, length-append old (hole ∷ one), length-append old (jz ∷ one)) in
    e6
    ∙ ap (λ (k : ℕ). set c5 k jump) n
    ∙ ap (λ (l : List X). set l (length (old ++ jz ∷ one)) jump) f5
    ∙ set-append_seam (old ++ jz ∷ one) over two jump
    ∙ append_assoc old (jz ∷ one) (jump ∷ two)

-- the lists of an `if` with one block
pub if_code : {X : Type 0} (old c1 c2 c3 one : List X) (hole jz : X) → c1 ≡ old ++ hole ∷ [] → c2 ≡ c1 ++ one → c3 ≡ set c2 (length old) jz → c3 ≡ old ++ jz ∷ one
if_code {X} old c1 c2 c3 one hole jz e1 e2 e3 =
    let f2 : c2 ≡ old ++ hole ∷ one = e2 ∙ ap (λ (l : List X). l ++ one) e1 ∙ append_assoc old (hole ∷ []) one in
    e3 ∙ ap (λ (l : List X). set l (length old) jz) f2 ∙ set-append_seam old hole one jz

-- the lists of a loop, and of a section
pub loop_code : {X : Type 0} (old c1 c2 c3 c4 one : List X) (hole jump jz : X) → c1 ≡ old ++ hole ∷ [] → c2 ≡ c1 ++ one → c3 ≡ c2 ++ jump ∷ [] → c4 ≡ set c3 (length old) jz → c4 ≡ old ++ jz ∷ (one ++ jump ∷ [])
loop_code {X} old c1 c2 c3 c4 one hole jump jz e1 e2 e3 e4 =
    let f2 : c2 ≡ old ++ hole ∷ one = e2 ∙ ap (λ (l : List X). l ++ one) e1 ∙ append_assoc old (hole ∷ []) one in
    let f3 : c3 ≡ old ++ hole ∷ (one ++ jump ∷ []) = e3 ∙ ap (λ (l : List X). l ++ jump ∷ []) f2 ∙ append_assoc old (hole ∷ one) (jump ∷ []) in
    e4 ∙ ap (λ (l : List X). set l (length old) jz) f3 ∙ set-append_seam old hole (one ++ jump ∷ []) jz

pub around_code : {X : Type 0} (old c1 c2 c3 one : List X) (first last : X) → c1 ≡ old ++ first ∷ [] → c2 ≡ c1 ++ one → c3 ≡ c2 ++ last ∷ [] → c3 ≡ old ++ first ∷ (one ++ last ∷ [])
around_code {X} old c1 c2 c3 one first last e1 e2 e3 =
    let f2 : c2 ≡ old ++ first ∷ one = e2 ∙ ap (λ (l : List X). l ++ one) e1 ∙ append_assoc old (first ∷ []) one in
    e3 ∙ ap (λ (l : List X). l ++ last ∷ []) f2 ∙ append_assoc old (first ∷ one) (last ∷ [])

-- where there is capacity for all statements, there is capacity for the next
pub block_room : (ss : List tree.Statement) (i : ℕ) (s : tree.Statement) (p q : Place) → past_block (block_of ss) q ≡ past_block (block_of (drop i ss)) p → i < length ss → s ≡ get_or ss i s → (past_block (block_of ss) q).pc ≤ 65535 → (past_stmt (statement_of s) p).pc ≤ 65535
block_room ss i s p q e low same h =
    let f : drop i ss ≡ get_or ss i s ∷ drop (suc i) ss = drop-cons ss i s low in
    let f2 : drop i ss ≡ s ∷ drop (suc i) ss = f ∙ ap (λ (t : tree.Statement). t ∷ drop (suc i) ss) (sym same) in
    let m : Place = past_stmt (statement_of s) p in
    let g : Precedes m (past_block (block_of (drop (suc i) ss)) m) = by_block (block_of (drop (suc i) ss)) m in
    let k : past_block (block_of (drop i ss)) p ≡ past_block (block_of (drop (suc i) ss)) m = ap (λ (xs : List tree.Statement). past_block (block_of xs) p) f2 in
    omega (arith, h, g.pc, ap (λ (r : Place). r.pc) (e ∙ k))

-- where there is capacity for a statement, there is room inside
pub room_if_test : (x : List ℕ) (a b : Block) (p : Place) → (past_stmt (IfStatement x a b) p).pc ≤ 65535 → (next p).pc ≤ 65535
room_if_test x a b p h =
    omega (arith, h, (by_block a (next p)).pc, (by_else b (past_block a (next p))).pc)

pub room_if_first : (x : List ℕ) (a b : Block) (p q : Place) → q ≡ next p → (past_stmt (IfStatement x a b) p).pc ≤ 65535 → (past_block a q).pc ≤ 65535
room_if_first x a b p q e h =
    omega (arith, h, ap (λ (r : Place). (past_block a r).pc) e, (by_else b (past_block a (next p))).pc)

pub room_if_leap : (x : List ℕ) (a : Block) (ss : List tree.Statement) (p q : Place) → q ≡ past_block a (next p) → 0 < length ss → (past_stmt (IfStatement x a (block_of ss)) p).pc ≤ 65535 → (next q).pc ≤ 65535
room_if_leap x a [] p q e some h = absurd (omega arith)
room_if_leap x a (s ∷ ss) p q e some h =
    let m : Place = next (past_block a (next p)) in
    omega (arith, h, ap (λ (r : Place). r.pc) e, (joined (by_stmt (statement_of s) m) (by_block (block_of ss) (past_stmt (statement_of s) m))).pc)

pub room_if_second : (x : List ℕ) (a : Block) (ss : List tree.Statement) (p q : Place) → q ≡ next (past_block a (next p)) → 0 < length ss → (past_stmt (IfStatement x a (block_of ss)) p).pc ≤ 65535 → (past_block (block_of ss) q).pc ≤ 65535
room_if_second x a [] p q e some h = absurd (omega arith)
room_if_second x a (s ∷ ss) p q e some h =
    omega (arith, h, ap (λ (r : Place). (past_block (block_of (s ∷ ss)) r).pc) e)

pub room_while_test : (x : List ℕ) (a : Block) (p : Place) → (past_stmt (WhileStatement x a) p).pc ≤ 65535 → (next p).pc ≤ 65535
room_while_test x a p h = omega (arith, h, (by_block a (next p)).pc)

pub room_enter : (a : Block) (p : Place) → (past_stmt (AtomicStatement a) p).pc ≤ 65535 → (entered p).pc ≤ 65535
room_enter a p h = omega (arith, h, (by_block a (entered p)).pc)

-- a list of no elements
pub no_items : {X : Type 0} (xs : List X) → length xs ≡ 0 → xs ≡ []
no_items [] e = refl
no_items (x ∷ xs) e = absurd (omega arith)

-- an `if` with one block
pub if_adds : (sc : Scope) (x : List ℕ) (a : Block) (old o1 o2 o3 : Output) (hole : Instr) → Adds old o1 (hole ∷ []) [] (next (place_of old)) → Adds o1 o2 (block_code sc a (place_of o1)) (block_sections sc a (place_of o1)) (past_block a (place_of o1)) → o3.code.items ≡ set o2.code.items (length old.code.items) (instr.JumpIfZero (register sc x) (length o2.code.items)) → o3.sections.items ≡ o2.sections.items → o3.sites ≡ o2.sites → Adds old o3 (stmt_code sc (IfStatement x a NoMore) (place_of old)) (stmt_sections sc (IfStatement x a NoMore) (place_of old)) (past_stmt (IfStatement x a NoMore) (place_of old))
if_adds sc x a old o1 o2 o3 hole h1 h2 e3 s3 n3 =
    let p : Place = next (place_of old) in
    let end : place_of o2 ≡ past_block a p = h2.place ∙ ap (past_block a) h1.place in
    let jz : Instr = instr.JumpIfZero (register sc x) (past_block a p).pc in
    let one : List Instr = block_code sc a p in
    let c2 : o2.code.items ≡ o1.code.items ++ one = h2.adds_code ∙ ap (λ (q : Place). o1.code.items ++ block_code sc a q) h1.place in
    let c3 : o3.code.items ≡ set o2.code.items (length old.code.items) jz = e3 ∙ ap (λ (q : Place). set o2.code.items (length old.code.items) (instr.JumpIfZero (register sc x) q.pc)) end in
    let s2 : o2.sections.items ≡ o1.sections.items ++ block_sections sc a p = h2.adds_sections ∙ ap (λ (q : Place). o1.sections.items ++ block_sections sc a q) h1.place in
    let n : length o3.code.items ≡ length o2.code.items = ap length e3 ∙ length-set o2.code.items (length old.code.items) _ in
    record {
      adds_code = if_code old.code.items o1.code.items o2.code.items o3.code.items one hole jz h1.adds_code c2 c3 ∙ ap (λ (l : List Instr). old.code.items ++ jz ∷ l) (sym (append-nil one));
      adds_sections = s3 ∙ s2 ∙ ap (λ (l : List Section). l ++ block_sections sc a p) (h1.adds_sections ∙ append-nil old.sections.items) ∙ ap (λ (l : List Section). old.sections.items ++ l) (sym (append-nil (block_sections sc a p)));
      place = place_same (place_of o3) (place_of o2) n n3 (ap length s3) ∙ end;
    }

-- an `if` with two blocks
pub if_else_adds : (sc : Scope) (x : List ℕ) (a : Block) (ss : List tree.Statement) (old o1 o2 o3 o4 o5 o6 : Output) (hole over : Instr) → 0 < length ss → Adds old o1 (hole ∷ []) [] (next (place_of old)) → Adds o1 o2 (block_code sc a (place_of o1)) (block_sections sc a (place_of o1)) (past_block a (place_of o1)) → Adds o2 o3 (over ∷ []) [] (next (place_of o2)) → o4.code.items ≡ set o3.code.items (length old.code.items) (instr.JumpIfZero (register sc x) (length o3.code.items)) → o4.sections.items ≡ o3.sections.items → o4.sites ≡ o3.sites → Adds o4 o5 (block_code sc (block_of ss) (place_of o4)) (block_sections sc (block_of ss) (place_of o4)) (past_block (block_of ss) (place_of o4)) → o6.code.items ≡ set o5.code.items (length o2.code.items) (instr.Jump (length o5.code.items)) → o6.sections.items ≡ o5.sections.items → o6.sites ≡ o5.sites → Adds old o6 (stmt_code sc (IfStatement x a (block_of ss)) (place_of old)) (stmt_sections sc (IfStatement x a (block_of ss)) (place_of old)) (past_stmt (IfStatement x a (block_of ss)) (place_of old))
if_else_adds sc x a [] old o1 o2 o3 o4 o5 o6 hole over some h1 h2 h3 e4 s4 n4 h5 e6 s6 n6 = absurd (omega arith)
if_else_adds sc x a (s ∷ ss) old o1 o2 o3 o4 o5 o6 hole over some h1 h2 h3 e4 s4 n4 h5 e6 s6 n6 =
    let b : Block = block_of (s ∷ ss) in
    let p : Place = next (place_of old) in
    let q : Place = next (past_block a p) in
    let end2 : place_of o2 ≡ past_block a p = h2.place ∙ ap (past_block a) h1.place in
    let end3 : place_of o3 ≡ q = h3.place ∙ ap next end2 in
    let len4 : length o4.code.items ≡ length o3.code.items = ap length e4 ∙ length-set o3.code.items (length old.code.items) _ in
    let end4 : place_of o4 ≡ q = place_same (place_of o4) (place_of o3) len4 n4 (ap length s4) ∙ end3 in
    let end5 : place_of o5 ≡ past_block b q = h5.place ∙ ap (past_block b) end4 in
    let len6 : length o6.code.items ≡ length o5.code.items = ap length e6 ∙ length-set o5.code.items (length o2.code.items) _ in
    let jz : Instr = instr.JumpIfZero (register sc x) q.pc in
    let jump : Instr = instr.Jump (past_block b q).pc in
    let one : List Instr = block_code sc a p in
    let two : List Instr = block_code sc b q in
    let c2 : o2.code.items ≡ o1.code.items ++ one = h2.adds_code ∙ ap (λ (r : Place). o1.code.items ++ block_code sc a r) h1.place in
    let c4 : o4.code.items ≡ set o3.code.items (length old.code.items) jz = e4 ∙ ap (λ (r : Place). set o3.code.items (length old.code.items) (instr.JumpIfZero (register sc x) r.pc)) end3 in
    let c5 : o5.code.items ≡ o4.code.items ++ two = h5.adds_code ∙ ap (λ (r : Place). o4.code.items ++ block_code sc b r) end4 in
    let c6 : o6.code.items ≡ set o5.code.items (length o2.code.items) jump = e6 ∙ ap (λ (r : Place). set o5.code.items (length o2.code.items) (instr.Jump r.pc)) end5 in
    let t1 : o1.sections.items ≡ old.sections.items = h1.adds_sections ∙ append-nil old.sections.items in
    let t2 : o2.sections.items ≡ old.sections.items ++ block_sections sc a p = h2.adds_sections ∙ ap (λ (r : Place). o1.sections.items ++ block_sections sc a r) h1.place ∙ ap (λ (l : List Section). l ++ block_sections sc a p) t1 in
    let t4 : o4.sections.items ≡ old.sections.items ++ block_sections sc a p = s4 ∙ h3.adds_sections ∙ append-nil o2.sections.items ∙ t2 in
    let t5 : o5.sections.items ≡ old.sections.items ++ (block_sections sc a p ++ block_sections sc b q) = h5.adds_sections ∙ ap (λ (r : Place). o4.sections.items ++ block_sections sc b r) end4 ∙ ap (λ (l : List Section). l ++ block_sections sc b q) t4 ∙ append_assoc old.sections.items (block_sections sc a p) (block_sections sc b q) in
    record {
      adds_code = if_else_code old.code.items o1.code.items o2.code.items o3.code.items o4.code.items o5.code.items o6.code.items one two hole over jz jump h1.adds_code c2 h3.adds_code c4 c5 c6;
      adds_sections = s6 ∙ t5;
      place = place_same (place_of o6) (place_of o5) len6 n6 (ap length s6) ∙ end5;
    }

-- a loop
pub while_adds : (sc : Scope) (x : List ℕ) (a : Block) (old o1 o2 o3 o4 : Output) (hole : Instr) → Adds old o1 (hole ∷ []) [] (next (place_of old)) → Adds o1 o2 (block_code sc a (place_of o1)) (block_sections sc a (place_of o1)) (past_block a (place_of o1)) → Adds o2 o3 (instr.Jump (length old.code.items) ∷ []) [] (next (place_of o2)) → o4.code.items ≡ set o3.code.items (length old.code.items) (instr.JumpIfZero (register sc x) (length o3.code.items)) → o4.sections.items ≡ o3.sections.items → o4.sites ≡ o3.sites → Adds old o4 (stmt_code sc (WhileStatement x a) (place_of old)) (stmt_sections sc (WhileStatement x a) (place_of old)) (past_stmt (WhileStatement x a) (place_of old))
while_adds sc x a old o1 o2 o3 o4 hole h1 h2 h3 e4 s4 n4 =
    let p : Place = next (place_of old) in
    let end2 : place_of o2 ≡ past_block a p = h2.place ∙ ap (past_block a) h1.place in
    let end3 : place_of o3 ≡ next (past_block a p) = h3.place ∙ ap next end2 in
    let len4 : length o4.code.items ≡ length o3.code.items = ap length e4 ∙ length-set o3.code.items (length old.code.items) _ in
    let jz : Instr = instr.JumpIfZero (register sc x) (next (past_block a p)).pc in
    let one : List Instr = block_code sc a p in
    let c2 : o2.code.items ≡ o1.code.items ++ one = h2.adds_code ∙ ap (λ (r : Place). o1.code.items ++ block_code sc a r) h1.place in
    let c4 : o4.code.items ≡ set o3.code.items (length old.code.items) jz = e4 ∙ ap (λ (r : Place). set o3.code.items (length old.code.items) (instr.JumpIfZero (register sc x) r.pc)) end3 in
    let t1 : o1.sections.items ≡ old.sections.items = h1.adds_sections ∙ append-nil old.sections.items in
    let t2 : o2.sections.items ≡ old.sections.items ++ block_sections sc a p = h2.adds_sections ∙ ap (λ (r : Place). o1.sections.items ++ block_sections sc a r) h1.place ∙ ap (λ (l : List Section). l ++ block_sections sc a p) t1 in
    record {
      adds_code = loop_code old.code.items o1.code.items o2.code.items o3.code.items o4.code.items one hole (instr.Jump (length old.code.items)) jz h1.adds_code c2 h3.adds_code c4;
      adds_sections = s4 ∙ h3.adds_sections ∙ append-nil o2.sections.items ∙ t2;
      place = place_same (place_of o4) (place_of o3) len4 n4 (ap length s4) ∙ end3;
    }

-- a section
pub atomic_adds : (sc : Scope) (a : Block) (old o1 o2 o3 : Output) → Adds old o1 (instr.Acquire (length old.sections.items) ∷ []) (record { function = sc.function; acquire = length old.code.items; release = 0 } ∷ []) (entered (place_of old)) → Adds o1 o2 (block_code sc a (place_of o1)) (block_sections sc a (place_of o1)) (past_block a (place_of o1)) → o3.code.items ≡ o2.code.items ++ instr.Release ∷ [] → o3.sections.items ≡ set o2.sections.items (length old.sections.items) (record { function = sc.function; acquire = length old.code.items; release = length o2.code.items }) → o3.sites ≡ o2.sites → Adds old o3 (stmt_code sc (AtomicStatement a) (place_of old)) (stmt_sections sc (AtomicStatement a) (place_of old)) (past_stmt (AtomicStatement a) (place_of old))
atomic_adds sc a old o1 o2 o3 h1 h2 e3 s3 n3 =
    let p : Place = entered (place_of old) in
    let end2 : place_of o2 ≡ past_block a p = h2.place ∙ ap (past_block a) h1.place in
    let one : List Instr = block_code sc a p in
    let inner : List Section = block_sections sc a p in
    let c2 : o2.code.items ≡ o1.code.items ++ one = h2.adds_code ∙ ap (λ (r : Place). o1.code.items ++ block_code sc a r) h1.place in
    let t2 : o2.sections.items ≡ o1.sections.items ++ inner = h2.adds_sections ∙ ap (λ (r : Place). o1.sections.items ++ block_sections sc a r) h1.place in
    let t3 : o3.sections.items ≡ set o2.sections.items (length old.sections.items) (section_of sc a (place_of old)) = s3 ∙ ap (λ (r : Place). set o2.sections.items (length old.sections.items) (record { function = sc.function; acquire = length old.code.items; release = r.pc })) end2 in
    let len : length o3.code.items ≡ suc (length o2.code.items) = omega (arith, ap length e3, length-append o2.code.items (instr.Release ∷ [])) in
    let seen : length o3.sections.items ≡ length o2.sections.items = ap length s3 ∙ length-set o2.sections.items (length old.sections.items) _ in
    record {
      adds_code = around_code old.code.items o1.code.items o2.code.items o3.code.items one (instr.Acquire (length old.sections.items)) instr.Release h1.adds_code c2 e3;
      adds_sections = if_code old.sections.items o1.sections.items o2.sections.items o3.sections.items inner _ (section_of sc a (place_of old)) h1.adds_sections t2 t3;
      place = place_same (place_of o3) (next (place_of o2)) len n3 seen ∙ ap next end2;
    }

-- a section whose `rel` may need memory
pub leave_adds : {E : Type 0} (sc : Scope) (a : Block) (old o1 o2 o3 : Output) (r : Result (Unit {0}) E) (number acquire : ℕ) → number ≡ length old.sections.items → acquire ≡ length old.code.items → Adds old o1 (instr.Acquire (length old.sections.items) ∷ []) (record { function = sc.function; acquire = length old.code.items; release = 0 } ∷ []) (entered (place_of old)) → Adds o1 o2 (block_code sc a (place_of o1)) (block_sections sc a (place_of o1)) (past_block a (place_of o1)) → IfOk r (λ _. o3.code.items ≡ o2.code.items ++ instr.Release ∷ []) → IfOk r (λ _. o3.sections.items ≡ set o2.sections.items number (record { function = sc.function; acquire = acquire; release = length o2.code.items })) → IfOk r (λ _. o3.sites ≡ o2.sites) → IfOk r (λ _. Adds old o3 (stmt_code sc (AtomicStatement a) (place_of old)) (stmt_sections sc (AtomicStatement a) (place_of old)) (past_stmt (AtomicStatement a) (place_of old)))
leave_adds sc a old o1 o2 o3 (Err e) number acquire en ea h1 h2 e3 s3 n3 = tt
leave_adds sc a old o1 o2 o3 (Ok u) number acquire en ea h1 h2 e3 s3 n3 =
    let made : ℕ → Section = λ k. record { function = sc.function; acquire = k; release = length o2.code.items } in
    atomic_adds sc a old o1 o2 o3 h1 h2 e3 (s3 ∙ ap (λ (k : ℕ). set o2.sections.items k (made acquire)) en ∙ ap (λ (k : ℕ). set o2.sections.items (length old.sections.items) (made k)) ea) n3

-- a patch keeps the place
pub patched_place : (old new : Output) (at : ℕ) (i : Instr) → new.code.items ≡ set old.code.items at i → new.sections.items ≡ old.sections.items → new.sites ≡ old.sites → place_of new ≡ place_of old
patched_place old new at i e s n =
    place_same (place_of new) (place_of old) (ap length e ∙ length-set old.code.items at i) n (ap length s)
