use Rattle.asl_lock_forest.specs.Holding.{grant, release}
use Rattle.asl_lock_forest.proofs.Swaps.{grants_own, releases_own, changes_swapped}
use Rattle.asl_lock_forest.proofs.holding_laws.threads_change_places.Goals as goal

pub returns-clause-grants : goal.returns-clause-grants
returns-clause-grants c h thread other first second apart =
    changes_swapped thread other (λ g. grant g thread first) (λ g. grant g other second) h apart (grants_own thread first) (grants_own other second)

pub returns-clause-releases : goal.returns-clause-releases
returns-clause-releases c h thread other apart =
    changes_swapped thread other (λ g. release g thread) (λ g. release g other) h apart (releases_own thread) (releases_own other)

pub returns-clause-both : goal.returns-clause-both
returns-clause-both c h thread other request apart =
    changes_swapped thread other (λ g. grant g thread request) (λ g. release g other) h apart (grants_own thread request) (releases_own other)
