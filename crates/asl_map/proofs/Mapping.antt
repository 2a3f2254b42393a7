-- A map that was made is the map of its source.
use Rattle.std.proofs.Common.{◌≡◌, ℕ, suc, ◌+◌, ◌-◌, ◌≤◌, List, [], ◌∷◌, length, map, drop, Some, slice_get, refl, sym, ap, ◌∙◌, subst, arith, length-append}
use Rattle.asl_grammar.specs.declared.token.Mark.TheVariants as mark
use Rattle.asl_grammar.specs.Token.{Token, Fixed, Name, Spot}
use Rattle.asl_grammar.specs.Grammar.{bare}
use Rattle.asl_grammar.specs.Lex.{tokens_of}
use Rattle.asl_grammar.specs.Written as w
use Rattle.asl_grammar.specs.Spelling.{names_on, block_on, function_on, program_on}
use Rattle.asl_syntax.specs.Tree.{Item, GlobalItem, FunctionItem, functions_of}
use Rattle.asl_syntax.specs.Spelled.{block_meaning, function_meaning, item_meaning}
use Rattle.asl_syntax.specs.Parsed.{Parses}
use Rattle.asl_lower.specs.Lowered.{Lowered, IsLowering}
use Rattle.asl_lower.specs.Place.{Place, origin, past_block, past_function}
use Rattle.asl_lower.specs.Refused.{HasRoom}
use Rattle.asl_lower.specs.Size.{functions_size}
use Rattle.asl_lower.proofs.Sized.{block_sized, functions_sized}
use Rattle.asl_lower.proofs.Slices.{StandAt, splits, stands_whole}
use Rattle.asl_points_to.specs.Classes.{Classed, AreClasses}
use Rattle.asl_map.specs.declared.map.Map.{Map}
use Rattle.asl_map.specs.declared.text_piece.Kind.TheVariants as kind
use Rattle.asl_map.specs.declared.text_piece.Named.{Named}
use Rattle.asl_map.specs.declared.text_piece.Piece.{Piece}
use Rattle.asl_map.specs.Pieces.{first_place, piece, behind}
use Rattle.asl_map.specs.Taken.{past_end, piece_of}
use Rattle.asl_map.specs.Placed.{head_of, HasPiece, IsPlacedBlock, IsPlacedFunction, ArePlaced}
use Rattle.asl_map.specs.Walked.{block_pieces, return_rest, function_rest, function_pieces, named_of, items_pieces, items_named}
use Rattle.asl_map.specs.BuiltMap.{IsMade}
use Rattle.asl_map.specs.Mapped.{HasNoBareAccess, IsMapped}
use Rattle.asl_map.proofs.StatementTokens.{Ends, ends, names_on_append, names_none, block_count}
use Rattle.asl_map.proofs.Standing.{Left, block_left, drop_one, left_end, left_more}
use Rattle.asl_map.proofs.Placing.{block_many, piece_is, block_placed}

-- ---- functions

-- what stands before the brace of a body
abbrev pub front : w.Function → List Token
front f =
    Fixed mark.Fn ∷ Name f.name ∷ Fixed mark.OpenParen ∷ names_on f.parameters (Fixed mark.CloseParen ∷ [])

-- what stands after the body
abbrev pub tail : w.Function → List Token → List Token
tail f rest =
    Fixed mark.Return ∷ Name f.returned ∷ Fixed mark.Semicolon ∷ Fixed mark.CloseBrace ∷ rest

head_count : (f : w.Function) → length (head_of f) ≡ suc (length (front f))
head_count f =
    let names = names_on f.parameters (Fixed mark.CloseParen ∷ []) in
    omega (arith, ap length (names_on_append f.parameters (Fixed mark.OpenBrace ∷ [])), length-append names (Fixed mark.OpenBrace ∷ []))

function_count : (f : w.Function) → length (function_on f []) ≡ length (front f) + (1 + (length (block_on f.body []) + 4))
function_count f =
    let names = names_on f.parameters (Fixed mark.CloseParen ∷ []) in
    let rest = Fixed mark.OpenBrace ∷ block_on f.body (tail f []) in
    omega (arith, ap length (names_on_append f.parameters rest), length-append names rest, block_count f.body (tail f []))

head_ends : (f : w.Function) (rest : List Token) (ss : List Spot) → bare ss ≡ function_on f rest → Ends (front f) (block_on f.body (tail f rest)) ss
head_ends f rest ss e =
    ends (front f) (Fixed mark.OpenBrace) (block_on f.body (tail f rest)) ss (refl, (refl, (refl, names_none f.parameters))) refl
    (e ∙ ap (λ (ts : List Token). Fixed mark.Fn ∷ Name f.name ∷ Fixed mark.OpenParen ∷ ts) (names_on_append f.parameters (Fixed mark.OpenBrace ∷ block_on f.body (tail f rest))))

-- a function, token by token
pub record Parts (f : w.Function) (rest : List Token) (ss : List Spot) : Type 0 where
  pub head : Ends (front f) (block_on f.body (tail f rest)) ss
  pub inside : Left (suc (length (front f))) (block_on f.body (tail f rest)) ss (past_end ss)
  pub body : Left (length (block_on f.body [])) (tail f rest) (past_end ss) (return_rest (function_meaning f) ss)
  pub returns : Ends (Fixed mark.Return ∷ Name f.returned ∷ []) (Fixed mark.CloseBrace ∷ rest) (return_rest (function_meaning f) ss)
  pub last : Left (length (function_on f []) - 1) (Fixed mark.CloseBrace ∷ rest) ss (past_end (return_rest (function_meaning f) ss))
  pub whole : Left (length (function_on f [])) rest ss (function_rest (function_meaning f) ss)

pub parts_of : (f : w.Function) (rest : List Token) (ss : List Spot) → bare ss ≡ function_on f rest → Parts f rest ss
parts_of f rest ss e =
    let r = return_rest (function_meaning f) ss in
    let head = head_ends f rest ss e in
    let inside = left_end (front f) (block_on f.body (tail f rest)) ss head in
    let body = block_left f.body (tail f rest) (past_end ss) refl inside.tokens in
    let returns = ends (Fixed mark.Return ∷ Name f.returned ∷ []) (Fixed mark.Semicolon) (Fixed mark.CloseBrace ∷ rest) r (refl, (refl, tt)) refl body.tokens in
    let end = left_end (Fixed mark.Return ∷ Name f.returned ∷ []) (Fixed mark.CloseBrace ∷ rest) r returns in
    let after_body : Left (length (block_on f.body []) + 3) (Fixed mark.CloseBrace ∷ rest) (past_end ss) (past_end r) =
    left_more (length (block_on f.body [])) 3 (length (block_on f.body []) + 3) (tail f rest) (Fixed mark.CloseBrace ∷ rest) (past_end ss) r (past_end r) refl body end in
    let last = left_more (suc (length (front f))) (length (block_on f.body []) + 3) (length (function_on f []) - 1) (block_on f.body (tail f rest)) (Fixed mark.CloseBrace ∷ rest) ss (past_end ss) (past_end r) (omega (arith, function_count f)) inside after_body in
    record {
      head = head;
      inside = inside;
      body = body;
      returns = returns;
      last = last;
      whole = left_more (length (function_on f []) - 1) 1 (length (function_on f [])) (Fixed mark.CloseBrace ∷ rest) rest ss (past_end r) (drop 1 (past_end r)) (omega (arith, function_count f)) last (drop_one (Fixed mark.CloseBrace) rest (past_end r) last.tokens);
    }

pub function_many : (f : w.Function) (ss : List Spot) (p : Place) → p.pc + length (function_pieces (function_meaning f) ss) ≡ (past_function (function_meaning f) p).pc
function_many f ss p =
    omega (arith, length-append (block_pieces (block_meaning f.body) (past_end ss)) (piece_of kind.Return (return_rest (function_meaning f) ss) ∷ []), block_many (block_meaning f.body) (past_end ss), block_sized (block_meaning f.body) p)

-- the body and the `return` of a function have their pieces
pub record Laid (pieces : List Piece) (f : w.Function) (ss : List Spot) (p : Place) : Type 0 where
  pub body : IsPlacedBlock pieces f.body (behind (head_of f) ss) p
  pub returns : HasPiece pieces (past_block (block_meaning f.body) p) (piece kind.Return 3 (behind (block_on f.body []) (behind (head_of f) ss)))

pub function_laid : (f : w.Function) (pieces : List Piece) (rest : List Token) (ss : List Spot) (p : Place) → Parts f rest ss → StandAt pieces p.pc (function_pieces (function_meaning f) ss) → Laid pieces f ss p
function_laid f pieces rest ss p t stand =
    let B = block_meaning f.body in
    let split = splits pieces p.pc (past_block B p).pc (block_pieces B (past_end ss)) _ (omega (arith, block_many B (past_end ss), block_sized B p)) stand in
    let there : past_end ss ≡ behind (head_of f) ss = t.inside.behind ∙ ap (λ (n : ℕ). drop n ss) (sym (head_count f)) in
    let Body : List Spot → Type 0 = λ r. IsPlacedBlock pieces f.body r p in
    record {
      body = subst Body there (block_placed f.body pieces (tail f rest) (past_end ss) p refl t.inside.tokens split.0);
      returns = split.1.0
          ∙ ap Some (piece_is kind.Return (Fixed mark.Return ∷ Name f.returned ∷ []) (Fixed mark.CloseBrace ∷ rest) (return_rest (function_meaning f) ss) 3 refl t.returns)
          ∙ ap (λ (r : List Spot). Some (piece kind.Return 3 r)) (t.body.behind ∙ ap (λ (r : List Spot). behind (block_on f.body []) r) there);
    }

function_placed : (f : w.Function) (m : Map) (number : ℕ) (rest : List Token) (ss : List Spot) (p : Place) → Parts f rest ss → slice_get m.functions.items number ≡ Some (named_of (function_meaning f) ss)
    → StandAt m.pieces.items p.pc (function_pieces (function_meaning f) ss) → IsPlacedFunction m number f ss p
function_placed f m number rest ss p t named stand =
    let laid = function_laid f m.pieces.items rest ss p t stand in
    let ends_at : ℕ → Named = λ n. record { name = f.name; from = first_place ss; to = n + 1 } in
    record {
      stands = named ∙ ap (λ (r : List Spot). Some (ends_at (first_place r))) t.last.behind;
      body = laid.body;
      returns = laid.returns;
    }

-- ---- programs

items_placed : (is : List w.Item) (m : Map) (number : ℕ) (ss : List Spot) (p : Place) → bare ss ≡ program_on is [] → StandAt m.pieces.items p.pc (items_pieces (map item_meaning is) ss)
    → StandAt m.functions.items number (items_named (map item_meaning is) ss) → ArePlaced m number is ss p
items_placed [] m number ss p e pieces named = tt
items_placed (w.GlobalItem x ∷ is) m number ss p e pieces named =
    let end = left_end (Fixed mark.Global ∷ Name x ∷ []) (program_on is []) ss (ends (Fixed mark.Global ∷ Name x ∷ []) (Fixed mark.Semicolon) (program_on is []) ss (refl, (refl, tt)) refl e) in
    let P : List Spot → Type 0 = λ r. ArePlaced m number is r p in
    subst P end.behind (items_placed is m number (past_end ss) p end.tokens pieces named)
items_placed (w.FunctionItem f ∷ is) m number ss p e pieces named =
    let t = parts_of f (program_on is []) ss e in
    let g = function_meaning f in
    let split = splits m.pieces.items p.pc (past_function g p).pc (function_pieces g ss) _ (function_many f ss p) pieces in
    let P : List Spot → Type 0 = λ r. ArePlaced m (suc number) is r (past_function g p) in (
      function_placed f m number (program_on is []) ss p t named.0 split.0,
      subst P t.whole.behind (items_placed is m (suc number) (function_rest g ss) (past_function g p) t.whole.tokens split.1 named.1),
    )

pub items_many : (is : List Item) (ss : List Spot) → length (items_pieces is ss) ≡ functions_size (functions_of is)
items_many [] ss = refl
items_many (GlobalItem x ∷ is) ss = items_many is (past_end ss)
items_many (FunctionItem f ∷ is) ss =
    omega (arith, length-append (function_pieces f ss) (items_pieces is (function_rest f ss)), length-append (block_pieces f.body (past_end ss)) (piece_of kind.Return (return_rest f ss) ∷ []), block_many f.body (past_end ss), items_many is (function_rest f ss))

pub named_many : (is : List Item) (ss : List Spot) → length (items_named is ss) ≡ length (functions_of is)
named_many [] ss = refl
named_many (GlobalItem x ∷ is) ss = named_many is (past_end ss)
named_many (FunctionItem f ∷ is) ss = ap suc (named_many is (function_rest f ss))

pub mapped_is : (source : List ℕ) (tree : List Item) (l : Lowered) (c : Classed) (m : Map) → Parses source tree → IsLowering tree l → HasRoom tree → HasNoBareAccess l → AreClasses l c → c.count ≤ 1024 → IsMade source tree l c m → IsMapped source m
mapped_is source tree l c m parses lowering room inside classes few made =
    let ss = tokens_of source in
    let spells = parses.spelled.spelled in
    let AtPieces : List Piece → Type 0 = λ ys. StandAt m.pieces.items 0 ys in
    let AtNamed : List Named → Type 0 = λ ys. StandAt m.functions.items 0 ys in
    record {
      tree = tree;
      parses = parses;
      lowered = l;
      lowering = lowering;
      room = room;
      inside = inside;
      classed = c;
      classes = classes;
      few = few;
      names = made.names;
      reached = made.reached;
      members = made.members;
      pieces = omega (arith, ap length made.pieces, items_many tree ss, functions_sized (functions_of tree) origin, lowering.code);
      functions = ap length made.functions ∙ named_many tree ss ∙ sym lowering.functions;
      placed = items_placed spells.written m 0 ss origin (sym spells.spelled)
          (subst AtPieces (made.pieces ∙ ap (λ (is : List Item). items_pieces is ss) (sym spells.meaning)) (stands_whole m.pieces.items))
          (subst AtNamed (made.functions ∙ ap (λ (is : List Item). items_named is ss) (sym spells.meaning)) (stands_whole m.functions.items));
      sections = made.sections;
      sites = made.sites;
    }
