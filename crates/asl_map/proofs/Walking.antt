-- Steps of the walk over a text.
use Rattle.std.proofs.Common.{◌≡◌, ℕ, zero, suc, ◌+◌, ◌<◌, List, [], ◌∷◌, ◌++◌, length, drop, replicate, refl, sym, ap, ◌∙◌, append_assoc, add-one, arith}
use Rattle.asl_grammar.specs.Token.{Spot}
use Rattle.asl_syntax.specs.declared.tree.Statement as tree
use Rattle.asl_syntax.specs.View.{block_of}
use Rattle.asl_map.specs.declared.text_piece.Kind.TheVariants as kind
use Rattle.asl_map.specs.declared.text_piece.Piece.{Piece}
use Rattle.asl_map.specs.Taken.{past_end, brace_of}
use Rattle.asl_map.specs.Walked.{block_pieces, block_rest, else_pieces, else_rest}

replicate_last : {A : Type 0} (n : ℕ) (x : A) → replicate (suc n) x ≡ replicate n x ++ x ∷ []
replicate_last zero x = refl
replicate_last (suc n) x = ap (λ l. x ∷ l) (replicate_last n x)

-- one more of the same
pub replicate_more : {A : Type 0} (n : ℕ) (x : A) (first old new : List A) → new ≡ old ++ x ∷ [] → old ≡ first ++ replicate n x → new ≡ first ++ replicate (n + 1) x
replicate_more {A} n x first old new grows is =
    grows ∙ ap (λ (l : List A). l ++ x ∷ []) is
    ∙ append_assoc first (replicate n x) (x ∷ [])
    ∙ ap (λ (l : List A). first ++ l) (sym (replicate_last n x))
    ∙ ap (λ (k : ℕ). first ++ replicate k x) (sym (add-one n))

-- what follows the first block of an `if` that has another
pub second_walked : (second : List tree.Statement) (ss mid after rest last : List Spot) (old braced new : List Piece) → 0 < length second
    → braced ≡ old ++ brace_of kind.If ss ∷ [] → mid ≡ drop 1 ss → after ≡ past_end mid
    → new ≡ braced ++ block_pieces (block_of second) after → rest ≡ block_rest (block_of second) after → last ≡ drop 1 rest
    → (new ≡ old ++ else_pieces (block_of second) ss) × (last ≡ else_rest (block_of second) ss)
second_walked [] ss mid after rest last old braced new some a b c d e f = absurd (omega (arith, some))
second_walked (s ∷ others) ss mid after rest last old braced new some a b c d e f =
    let there : after ≡ past_end (drop 1 ss) = c ∙ ap past_end b in
    let block = block_of (s ∷ others) in (
      d ∙ ap (λ (l : List Piece). l ++ block_pieces block after) a
          ∙ append_assoc old (brace_of kind.If ss ∷ []) (block_pieces block after)
          ∙ ap (λ (t : List Spot). old ++ brace_of kind.If ss ∷ block_pieces block t) there,
      f ∙ ap (λ (t : List Spot). drop 1 t) (e ∙ ap (block_rest block) there),
    )
