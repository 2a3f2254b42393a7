-- What the names of a text declare is what its tree mentions, one by one. The code reads tokens and the rules speak of mentions:
-- this joins the two.
use Rattle.std.proofs.Common.{◌≡◌, ℕ, List, [], ◌∷◌, ◌++◌, true, false, map, refl, sym, ap, ◌∙◌, append_assoc}
use Rattle.std.proofs.lemmas.List.{map-append}
use Rattle.asl_grammar.specs.declared.token.Mark.TheVariants as mark
use Rattle.asl_grammar.specs.declared.control.Operator.TheVariants.{Add, Subtract, IsLess, IsEqual}
use Rattle.asl_grammar.specs.Token.{Token, Fixed, Name}
use Rattle.asl_grammar.specs.Written as w
use Rattle.asl_grammar.specs.Spelling.{later_names_on, names_on, line_on, stmt_on, block_on, else_on, function_on, program_on}
use Rattle.asl_syntax.specs.Tree.{Item}
use Rattle.asl_syntax.specs.Mentions.{Mention, DeclaresGlobal, DeclaresFunction, DeclaresParameter, AssignsLocal, UsesLocal, UsesGlobal, CallsFunction, statement_mentions, block_mentions, function_mentions, mentions}
use Rattle.asl_syntax.specs.Spelled.{line_meaning, stmt_meaning, block_meaning, else_meaning, function_meaning, item_meaning, Spells}
use Rattle.asl_diagnose_text.specs.declared.declared.Declares.{Declares}
use Rattle.asl_diagnose_text.specs.declared.declared.Declares.TheVariants.{Global, Function, Parameter, Nothing}
use Rattle.asl_diagnose_text.specs.Places.{declares_after}

-- a name with what it declares
pub record Told : Type 0 where
  pub what : Declares
  pub name : List ℕ

-- those of tokens, and that of a mention
abbrev pub told : Declares → List Token → List Told
told d [] = []
told d (Name x ∷ ts) = record { what = d; name = x } ∷ told (declares_after d (Name x)) ts
told d (t ∷ ts) = told (declares_after d t) ts

abbrev pub said : Mention → Told
said (DeclaresGlobal x) = record { what = Global; name = x }
said (DeclaresFunction x) = record { what = Function; name = x }
said (DeclaresParameter x) = record { what = Parameter; name = x }
said (AssignsLocal x) = record { what = Nothing; name = x }
said (UsesLocal x) = record { what = Nothing; name = x }
said (UsesGlobal x) = record { what = Nothing; name = x }
said (CallsFunction x n) = record { what = Nothing; name = x }

abbrev pub all_said : List Mention → List Told
all_said ms = map said ms

-- ---- of a tree's tokens

later_uses : (xs : List (List ℕ)) (ts : List Token) → told Nothing (later_names_on xs ts) ≡ all_said (map UsesLocal xs) ++ told Nothing ts
later_uses [] ts = refl
later_uses (x ∷ xs) ts =
    ap (λ (us : List Told). record { what = Nothing; name = x } ∷ us) (later_uses xs ts)

all_uses : (xs : List (List ℕ)) (ts : List Token) → told Nothing (names_on xs ts) ≡ all_said (map UsesLocal xs) ++ told Nothing ts
all_uses [] ts = refl
all_uses (x ∷ xs) ts =
    ap (λ (us : List Told). record { what = Nothing; name = x } ∷ us) (later_uses xs ts)

later_parameters : (xs : List (List ℕ)) (ts : List Token) → told Parameter (later_names_on xs ts) ≡ all_said (map DeclaresParameter xs) ++ told Parameter ts
later_parameters [] ts = refl
later_parameters (x ∷ xs) ts =
    ap (λ (us : List Told). record { what = Parameter; name = x } ∷ us) (later_parameters xs ts)

all_parameters : (xs : List (List ℕ)) (ts : List Token) → told Parameter (names_on xs ts) ≡ all_said (map DeclaresParameter xs) ++ told Parameter ts
all_parameters [] ts = refl
all_parameters (x ∷ xs) ts =
    ap (λ (us : List Told). record { what = Parameter; name = x } ∷ us) (later_parameters xs ts)

line_told : (l : w.Line) (ts : List Token) → told Nothing (line_on l ts) ≡ all_said (statement_mentions (line_meaning l)) ++ told Nothing ts
line_told (w.Assigns x (w.Literal true n)) ts = refl
line_told (w.Assigns x (w.Literal false n)) ts = refl
line_told (w.Assigns x w.NullValue) ts = refl
line_told (w.Assigns x (w.Copied y)) ts = refl
line_told (w.Assigns x (w.Binary y Add z)) ts = refl
line_told (w.Assigns x (w.Binary y Subtract z)) ts = refl
line_told (w.Assigns x (w.Binary y IsLess z)) ts = refl
line_told (w.Assigns x (w.Binary y IsEqual z)) ts = refl
line_told (w.Assigns x (w.GlobalAddress y)) ts = refl
line_told (w.Assigns x (w.FieldAddress y n)) ts = refl
line_told (w.Assigns x (w.Loaded y)) ts = refl
line_told (w.Assigns x (w.Created n)) ts = refl
line_told (w.Calls x f args) ts =
    ap (λ (us : List Told). record { what = Nothing; name = x } ∷ record { what = Nothing; name = f } ∷ us) (all_uses args (Fixed mark.CloseParen ∷ ts))
line_told (w.Stores x y) ts = refl
line_told (w.Shows x) ts = refl

-- what two parts say
both_said : (ms ns : List Mention) (r : List Told) → all_said ms ++ (all_said ns ++ r) ≡ all_said (ms ++ ns) ++ r
both_said ms ns r =
    sym (append_assoc (all_said ms) (all_said ns) r) ∙ ap (λ (us : List Told). us ++ r) (sym (map-append said ms ns))

mutual
  stmt_told : (s : w.Stmt) (ts : List Token) → told Nothing (stmt_on s ts) ≡ all_said (statement_mentions (stmt_meaning s)) ++ told Nothing ts
  stmt_told (w.Simple l) ts = line_told l (Fixed mark.Semicolon ∷ ts)
  stmt_told (w.IfStmt x a e) ts =
      ap (λ (us : List Told). record { what = Nothing; name = x } ∷ us) (block_told a (Fixed mark.CloseBrace ∷ else_on e ts)
      ∙ ap (λ (us : List Told). all_said (block_mentions (block_meaning a)) ++ us) (else_told e ts)
      ∙ both_said (block_mentions (block_meaning a)) (block_mentions (else_meaning e)) (told Nothing ts))
  stmt_told (w.WhileStmt x a) ts =
      ap (λ (us : List Told). record { what = Nothing; name = x } ∷ us) (block_told a (Fixed mark.CloseBrace ∷ ts))
  stmt_told (w.AtomicStmt a) ts = block_told a (Fixed mark.CloseBrace ∷ ts)

  block_told : (b : w.Block) (ts : List Token) → told Nothing (block_on b ts) ≡ all_said (block_mentions (block_meaning b)) ++ told Nothing ts
  block_told w.End ts = refl
  block_told (w.More s b) ts =
      stmt_told s (block_on b ts)
      ∙ ap (λ (us : List Told). all_said (statement_mentions (stmt_meaning s)) ++ us) (block_told b ts)
      ∙ both_said (statement_mentions (stmt_meaning s)) (block_mentions (block_meaning b)) (told Nothing ts)

  else_told : (e : w.Else) (ts : List Token) → told Nothing (else_on e ts) ≡ all_said (block_mentions (else_meaning e)) ++ told Nothing ts
  else_told w.NoElse ts = refl
  else_told (w.Otherwise b) ts = block_told b (Fixed mark.CloseBrace ∷ ts)

function_told : (f : w.Function) (ts : List Token) → told Nothing (function_on f ts) ≡ all_said (function_mentions (function_meaning f)) ++ told Nothing ts
function_told f ts =
    let last : List Token = Fixed mark.Return ∷ Name f.returned ∷ Fixed mark.Semicolon ∷ Fixed mark.CloseBrace ∷ ts in
    let body : List Token = Fixed mark.CloseParen ∷ Fixed mark.OpenBrace ∷ block_on f.body last in
    let ps : List Mention = map DeclaresParameter f.parameters in
    let bs : List Mention = block_mentions (block_meaning f.body) in
    let r : List Mention = UsesLocal f.returned ∷ [] in
    ap (λ (us : List Told). record { what = Function; name = f.name } ∷ us) (all_parameters f.parameters body
    ∙ ap (λ (us : List Told). all_said ps ++ us) (block_told f.body last ∙ both_said bs r (told Nothing ts))
    ∙ both_said ps (bs ++ r) (told Nothing ts))

items_told : (is : List w.Item) → told Nothing (program_on is []) ≡ all_said (mentions (map item_meaning is))
items_told [] = refl
items_told (w.GlobalItem x ∷ is) =
    ap (λ (us : List Told). record { what = Global; name = x } ∷ us) (items_told is)
items_told (w.FunctionItem f ∷ is) =
    function_told f (program_on is [])
    ∙ ap (λ (us : List Told). all_said (function_mentions (function_meaning f)) ++ us) (items_told is)
    ∙ sym (map-append said (function_mentions (function_meaning f)) (mentions (map item_meaning is)))

-- of the whole text
pub tree_told : (tree : List Item) (ts : List Token) → Spells tree ts → told Nothing ts ≡ all_said (mentions tree)
tree_told tree ts h =
    ap (told Nothing) (sym h.spelled) ∙ items_told h.written ∙ ap (λ (t : List Item). all_said (mentions t)) h.meaning
