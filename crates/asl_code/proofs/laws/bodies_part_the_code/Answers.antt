use Rattle.asl_code.proofs.BodyPlaces.{body_of_place, lies_once, lies_somewhere, lies_within}
use Rattle.asl_code.proofs.laws.bodies_part_the_code.Goals as goal

pub returns-clause-body : goal.returns-clause-body
returns-clause-body c = body_of_place

pub returns-clause-once : goal.returns-clause-once
returns-clause-once c = lies_once

pub returns-clause-somewhere : goal.returns-clause-somewhere
returns-clause-somewhere c = lies_somewhere

pub returns-clause-inside : goal.returns-clause-inside
returns-clause-inside c = lies_within
