-- Machinery of the proofs, not of the promise: chains as the code goes through them (src/text/chains.rt).
use Rattle.std.specs.Prelude.{List, Bool, true, false, not, map}
use Rattle.asl_code.specs.declared.lock.Lock.{Lock}
use Rattle.asl_explain.specs.declared.explained_value.Need.{Need}
use Rattle.asl_explain.specs.declared.text.chains.Numbered.{Numbered}
use Rattle.asl_explain.specs.declared.text.chains.Under.{Under}
use Rattle.asl_explain.specs.Told.{ChainUnder, is_own}

-- whether the need is of the lock itself, or of another, as is asked
abbrev pub is_chosen : Bool → Lock → Need → Bool
is_chosen true lock d = is_own lock d
is_chosen false lock d = not (is_own lock d)

-- the needs of a list
abbrev pub needs_of : List Numbered → List Need
needs_of ns = map (λ (n : Numbered). n.need.now) ns

-- a chain of a list
abbrev pub under_now : Under → ChainUnder
under_now u = record { need = u.need.now; chain = u.chain.now }

-- the chains of a list
abbrev pub under_of : List Under → List ChainUnder
under_of us = map under_now us
