-- what was found so far, and then what is found of the items left, is that of all; likewise the tokens
use Rattle.std.proofs.Common.{◌≡◌, ◌++◌, drop, map}
use Rattle.asl_grammar.specs.Reader.{spots_left}
use Rattle.asl_syntax.specs.View.{item_of}
use Rattle.asl_map.specs.Walked.{items_pieces, items_rest, items_named}
use Rattle.asl_map.proofs.code_walk.walk_items.Given as goal

abbrev pub invariant-loop-item : goal.invariant-loop-item
invariant-loop-item l = record {
  pieces : l.walker.pieces.items ++ items_pieces (map item_of (drop l.item-index l.items)) (spots_left l.walker.tokens) ≡ l.fn.walker.pieces.items ++ items_pieces (map item_of l.items) (spots_left l.fn.walker.tokens);
  tokens : items_rest (map item_of (drop l.item-index l.items)) (spots_left l.walker.tokens) ≡ items_rest (map item_of l.items) (spots_left l.fn.walker.tokens);
  named : l.functions.items ++ items_named (map item_of (drop l.item-index l.items)) (spots_left l.walker.tokens) ≡ items_named (map item_of l.items) (spots_left l.fn.walker.tokens);
}
