-- What the names of a text do is what its tree mentions, one by one.
use Rattle.std.proofs.Common.{◌≡◌, ℕ, List, [], ◌∷◌, ◌++◌, Bool, true, false, map, refl, sym, ap, ◌∙◌, append_assoc}
use Rattle.std.proofs.lemmas.List.{map-append}
use Rattle.asl_grammar.specs.declared.token.Mark.TheVariants as mark
use Rattle.asl_grammar.specs.declared.control.Operator.TheVariants.{Add, Subtract, IsLess, IsEqual}
use Rattle.asl_grammar.specs.Token.{Token, Fixed, Name}
use Rattle.asl_grammar.specs.Written as w
use Rattle.asl_grammar.specs.Spelling.{later_names_on, names_on, line_on, stmt_on, block_on, else_on, function_on, program_on}
use Rattle.asl_syntax.specs.Tree.{Item}
use Rattle.asl_syntax.specs.Mentions.{Mention, DeclaresGlobal, DeclaresFunction, DeclaresParameter, AssignsLocal, UsesLocal, UsesGlobal, CallsFunction, statement_mentions, block_mentions, function_mentions, mentions}
use Rattle.asl_syntax.specs.Spelled.{line_meaning, stmt_meaning, block_meaning, else_meaning, function_meaning, item_meaning, Spells}
use Rattle.asl_diagnose_text.specs.declared.declared.Declares.{Declares}
use Rattle.asl_diagnose_text.specs.declared.declared.Declares.TheVariants.{Global, Function, Parameter, Nothing}
use Rattle.asl_diagnose_text.specs.declared.name_role.Role.{Role}
use Rattle.asl_diagnose_text.specs.declared.name_role.Role.TheVariants as role
use Rattle.asl_diagnose_text.specs.declared.name_role.Sign.{Sign}
use Rattle.asl_diagnose_text.specs.declared.name_role.Sign.TheVariants.{Other}
use Rattle.asl_diagnose_text.specs.Places.{declares_after}
use Rattle.asl_diagnose_text.specs.UsesView.{sign_of, first_mark, role_in_body, role_of, is_function_name}

-- a name, what it does, and whether it is the name of a function
pub record Told : Type 0 where
  pub starts : Bool
  pub role : Role
  pub name : List ℕ

-- those of tokens, and that of a mention
abbrev pub told : Declares → Sign → List Token → List Told
told d s [] = []
told d s (Name x ∷ ts) =
    record { starts = is_function_name (Name x) d; role = role_of d s (first_mark ts); name = x } ∷ told (declares_after d (Name x)) Other ts
told d s (t ∷ ts) = told (declares_after d t) (sign_of t) ts

abbrev pub used : Role → List ℕ → Told
used r x = record { starts = false; role = r; name = x }

abbrev pub said : Mention → Told
said (DeclaresGlobal x) = used (role.Declares Global) x
said (DeclaresFunction x) = record { starts = true; role = role.Declares Function; name = x }
said (DeclaresParameter x) = used (role.Declares Parameter) x
said (AssignsLocal x) = used role.Assigned x
said (UsesLocal x) = used role.Local x
said (UsesGlobal x) = used role.GlobalUse x
said (CallsFunction x n) = used role.Call x

abbrev pub all_said : List Mention → List Told
all_said ms = map said ms

-- ---- of a tree's tokens

-- a name before others or before the parenthesis is a local
local_before : (xs : List (List ℕ)) (ts : List Token) → role_in_body Other (first_mark (later_names_on xs (Fixed mark.CloseParen ∷ ts))) ≡ role.Local
local_before [] ts = refl
local_before (x ∷ xs) ts = refl

later_uses : (xs : List (List ℕ)) (ts : List Token) → told Nothing Other (later_names_on xs (Fixed mark.CloseParen ∷ ts)) ≡ all_said (map UsesLocal xs) ++ told Nothing Other ts
later_uses [] ts = refl
later_uses (x ∷ xs) ts =
    let rest : List Token = later_names_on xs (Fixed mark.CloseParen ∷ ts) in
    ap (λ (r : Role). used r x ∷ told Nothing Other rest) (local_before xs ts) ∙ ap (λ (us : List Told). used role.Local x ∷ us) (later_uses xs ts)

all_uses : (xs : List (List ℕ)) (ts : List Token) → told Nothing Other (names_on xs (Fixed mark.CloseParen ∷ ts)) ≡ all_said (map UsesLocal xs) ++ told Nothing Other ts
all_uses [] ts = refl
all_uses (x ∷ xs) ts =
    let rest : List Token = later_names_on xs (Fixed mark.CloseParen ∷ ts) in
    ap (λ (r : Role). used r x ∷ told Nothing Other rest) (local_before xs ts) ∙ ap (λ (us : List Told). used role.Local x ∷ us) (later_uses xs ts)

later_parameters : (xs : List (List ℕ)) (ts : List Token) → told Parameter Other (later_names_on xs (Fixed mark.CloseParen ∷ ts)) ≡ all_said (map DeclaresParameter xs) ++ told Nothing Other ts
later_parameters [] ts = refl
later_parameters (x ∷ xs) ts = ap (λ (us : List Told). used (role.Declares Parameter) x ∷ us) (later_parameters xs ts)

all_parameters : (xs : List (List ℕ)) (ts : List Token) → told Parameter Other (names_on xs (Fixed mark.CloseParen ∷ ts)) ≡ all_said (map DeclaresParameter xs) ++ told Nothing Other ts
all_parameters [] ts = refl
all_parameters (x ∷ xs) ts = ap (λ (us : List Told). used (role.Declares Parameter) x ∷ us) (later_parameters xs ts)

line_told : (l : w.Line) (ts : List Token) → told Nothing Other (line_on l (Fixed mark.Semicolon ∷ ts)) ≡ all_said (statement_mentions (line_meaning l)) ++ told Nothing Other ts
line_told (w.Assigns x (w.Literal true n)) ts = refl
line_told (w.Assigns x (w.Literal false n)) ts = refl
line_told (w.Assigns x w.NullValue) ts = refl
line_told (w.Assigns x (w.Copied y)) ts = refl
line_told (w.Assigns x (w.Binary y Add z)) ts = refl
line_told (w.Assigns x (w.Binary y Subtract z)) ts = refl
line_told (w.Assigns x (w.Binary y IsLess z)) ts = refl
line_told (w.Assigns x (w.Binary y IsEqual z)) ts = refl
line_told (w.Assigns x (w.GlobalAddress y)) ts = refl
line_told (w.Assigns x (w.FieldAddress y n)) ts = refl
line_told (w.Assigns x (w.Loaded y)) ts = refl
line_told (w.Assigns x (w.Created n)) ts = refl
line_told (w.Calls x f args) ts =
    ap (λ (us : List Told). used role.Assigned x ∷ used role.Call f ∷ us) (all_uses args (Fixed mark.Semicolon ∷ ts))
line_told (w.Stores x y) ts = refl
line_told (w.Shows x) ts = refl

-- what two parts say
both_said : (ms ns : List Mention) (r : List Told) → all_said ms ++ (all_said ns ++ r) ≡ all_said (ms ++ ns) ++ r
both_said ms ns r =
    sym (append_assoc (all_said ms) (all_said ns) r) ∙ ap (λ (us : List Told). us ++ r) (sym (map-append said ms ns))

mutual
  stmt_told : (s : w.Stmt) (ts : List Token) → told Nothing Other (stmt_on s ts) ≡ all_said (statement_mentions (stmt_meaning s)) ++ told Nothing Other ts
  stmt_told (w.Simple l) ts = line_told l ts
  stmt_told (w.IfStmt x a e) ts =
      ap (λ (us : List Told). used role.Local x ∷ us) (block_told a (Fixed mark.CloseBrace ∷ else_on e ts)
      ∙ ap (λ (us : List Told). all_said (block_mentions (block_meaning a)) ++ us) (else_told e ts)
      ∙ both_said (block_mentions (block_meaning a)) (block_mentions (else_meaning e)) (told Nothing Other ts))
  stmt_told (w.WhileStmt x a) ts =
      ap (λ (us : List Told). used role.Local x ∷ us) (block_told a (Fixed mark.CloseBrace ∷ ts))
  stmt_told (w.AtomicStmt a) ts = block_told a (Fixed mark.CloseBrace ∷ ts)

  block_told : (b : w.Block) (ts : List Token) → told Nothing Other (block_on b ts) ≡ all_said (block_mentions (block_meaning b)) ++ told Nothing Other ts
  block_told w.End ts = refl
  block_told (w.More s b) ts =
      stmt_told s (block_on b ts)
      ∙ ap (λ (us : List Told). all_said (statement_mentions (stmt_meaning s)) ++ us) (block_told b ts)
      ∙ both_said (statement_mentions (stmt_meaning s)) (block_mentions (block_meaning b)) (told Nothing Other ts)

  else_told : (e : w.Else) (ts : List Token) → told Nothing Other (else_on e ts) ≡ all_said (block_mentions (else_meaning e)) ++ told Nothing Other ts
  else_told w.NoElse ts = refl
  else_told (w.Otherwise b) ts = block_told b (Fixed mark.CloseBrace ∷ ts)

function_told : (f : w.Function) (ts : List Token) → told Nothing Other (function_on f ts) ≡ all_said (function_mentions (function_meaning f)) ++ told Nothing Other ts
function_told f ts =
    let last : List Token = Fixed mark.Return ∷ Name f.returned ∷ Fixed mark.Semicolon ∷ Fixed mark.CloseBrace ∷ ts in
    let body : List Token = Fixed mark.OpenBrace ∷ block_on f.body last in
    let ps : List Mention = map DeclaresParameter f.parameters in
    let bs : List Mention = block_mentions (block_meaning f.body) in
    let r : List Mention = UsesLocal f.returned ∷ [] in
    ap (λ (us : List Told). said (DeclaresFunction f.name) ∷ us) (all_parameters f.parameters body
    ∙ ap (λ (us : List Told). all_said ps ++ us) (block_told f.body last ∙ both_said bs r (told Nothing Other ts))
    ∙ both_said ps (bs ++ r) (told Nothing Other ts))

items_told : (is : List w.Item) → told Nothing Other (program_on is []) ≡ all_said (mentions (map item_meaning is))
items_told [] = refl
items_told (w.GlobalItem x ∷ is) = ap (λ (us : List Told). used (role.Declares Global) x ∷ us) (items_told is)
items_told (w.FunctionItem f ∷ is) =
    function_told f (program_on is [])
    ∙ ap (λ (us : List Told). all_said (function_mentions (function_meaning f)) ++ us) (items_told is)
    ∙ sym (map-append said (function_mentions (function_meaning f)) (mentions (map item_meaning is)))

pub tree_told : (tree : List Item) (ts : List Token) → Spells tree ts → told Nothing Other ts ≡ all_said (mentions tree)
tree_told tree ts h =
    ap (told Nothing Other) (sym h.spelled) ∙ items_told h.written ∙ ap (λ (t : List Item). all_said (mentions t)) h.meaning
