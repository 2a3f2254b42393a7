use Rattle.std.proofs.Common.{◌∙◌, sym}
use Rattle.asl_loader.proofs.Images.{image_is_one}
use Rattle.asl_loader.proofs.laws.load_and_store_undo_each_other.Goals as goal

pub returns-clause-load : goal.returns-clause-load
returns-clause-load c image other bytes stored loaded = image_is_one other image bytes loaded.spelled stored.spelled

pub returns-clause-store : goal.returns-clause-store
returns-clause-store c bytes others image loaded stored = stored.spelled.spelled ∙ sym loaded.spelled.spelled
