-- Legal classes that go into all legal ones are the finest.
use Rattle.std.proofs.Common.{◌≡◌, ℕ, false, true, Option, Some, None, refl, sym, subst}
use Rattle.std.specs.Prelude.{IsSome}
use Rattle.asl_lower.specs.Lowered.{Lowered}
use Rattle.asl_points_to.specs.Classes.{Classed, to, inside, IsLeast, IsFinest}

some_there : (o : Option ℕ) → IsSome o → (x : ℕ) × (o ≡ Some x)
some_there None e = let f : false ≡ true = e in cc
some_there (Some x) e = (x, refl)

there_some : (o : Option ℕ) (x : ℕ) → o ≡ Some x → IsSome o
there_some o x e = subst (λ p. IsSome p) (sym e) refl

pub least_finest : (l : Lowered) (c : Classed) → IsLeast l c → IsFinest l c
least_finest l c h = record {
  legal = h.legal;
  shares = λ m n s d legal. (let g = h.least d legal in (g.into s.0, g.members_go m s.0 s.1, g.members_go n s.0 s.2));
  points = λ f r e d legal. (let g = h.least d legal in let x = some_there (to c f r) e in there_some (to d f r) (g.into x.0) (g.registers_go f r x.0 x.1));
  insides = λ m e d legal. (let g = h.least d legal in let y = some_there (inside c e.0) e.2 in (g.into e.0, g.members_go m e.0 e.1, there_some (inside d (g.into e.0)) (g.into y.0) (g.cells_go e.0 y.0 y.1)));
}
