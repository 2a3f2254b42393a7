use Rattle.asl_lower.proofs.item_numbers.ItemNumbers.of.Goals as goal

pub returns : goal.returns
returns c =
    record { globals = c.or_empty-globals.ensures _ c.number_globals.ensures; functions = c.or_empty-functions.ensures _ c.number_functions.ensures }
