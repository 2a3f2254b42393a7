-- Machinery of the proofs, not of the promise: the scope of a function (src/scope.rt), as the value that definitions
-- speak of (docs/SOURCE.md, "Templates").
use Rattle.std.specs.Prelude.{map}
use Rattle.asl_syntax.specs.View.{item_of}
use Rattle.asl_lower.specs.declared.scope.Scope as code
use Rattle.asl_syntax.specs.Tree.{globals_of, functions_of}
use Rattle.asl_lower.specs.Names.{Scope, function_names}
use Rattle.asl_lower.specs.NamesView.{names_of}

-- its number, and the names of its locals, of the globals and of the functions
abbrev pub scope_view : code.Scope → Scope
scope_view s = record {
  function = s.function;
  locals = names_of s.locals.now;
  globals = globals_of (map item_of s.items.now);
  functions = function_names (functions_of (map item_of s.items.now));
}
