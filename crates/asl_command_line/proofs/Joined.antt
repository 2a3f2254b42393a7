-- What is added to equal commands makes equal commands.
use Rattle.std.proofs.Common.{ap₂, ap, ◌≡◌}
use Rattle.clap.specs.Words.{App, with_subcommand}

pub joined : {old old' sub sub' : App} → old ≡ old' → sub ≡ sub' → with_subcommand old sub.top ≡ with_subcommand old' sub'.top
joined p q = ap₂ with_subcommand p (ap (λ (a : App). a.top) q)

pub added : (old : App) → {sub sub' : App} → sub ≡ sub' → with_subcommand old sub.top ≡ with_subcommand old sub'.top
added old p = ap (λ (a : App). with_subcommand old a.top) p
