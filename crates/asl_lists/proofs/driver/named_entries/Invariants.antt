-- what is listed and what is left are all, and what is listed fits
use Rattle.std.proofs.Common.{◌≡◌, ◌++◌, ℕ, Some, false, drop, map, slice_get, string_bytes}
use Rattle.asl_syntax.specs.View.{item_of}
use Rattle.asl_syntax.specs.Rules.{parameter_counts, differs}
use Rattle.asl_lists.specs.declared.driver.Entry.{Entry}
use Rattle.asl_lists.proofs.driver.named_entries.Given as goal

abbrev pub invariant-loop-name : goal.invariant-loop-name
invariant-loop-name l =
    (map (λ (e : Entry). e.name.now) l.entries.items ++ map string_bytes (drop l.name-index l.names) ≡ map string_bytes l.names)
    × ((n : ℕ) (e : Entry) → slice_get l.entries.items n ≡ Some e → differs (parameter_counts (map item_of l.items) e.name.now) e.parameters ≡ false)
