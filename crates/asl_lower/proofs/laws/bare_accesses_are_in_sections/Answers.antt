use Rattle.asl_lower.proofs.laws.bare_accesses_are_in_sections.Goals as goal

pub returns : goal.returns
returns c l none f pc i bare inside stands access outside =
    none f pc (record { bare = bare; inside = inside; instruction = i; stands = stands; access = access; outside = outside })
