-- What a write that failed on its way leaves in a writer, and why an input was not read (docs/CLI.md, "Refusals"). Of a reader or a
-- writer contracts know the bytes, and how many more it takes for sure, where it says them, as one over memory does.
use Rattle.std.specs.Prelude.{ℕ, ◌+◌, ◌<◌, ◌≤◌, ◌⊎◌, List, Option, None, Some, take, length, IfSome, IsNone}
use Rattle.asl_tool.specs.declared.streams.ReadFault.{ReadFault}
use Rattle.asl_tool.specs.declared.streams.ReadFault.TheVariants as fault
use Rattle.std.specs.Io.KnownBytes.{Appends}

-- the most bytes that an input may have
abbrev pub most_input : ℕ
most_input = 268435456

-- known bytes grow by a first part of the bytes
abbrev pub AppendsPart : Option (List ℕ) → Option (List ℕ) → List ℕ → Type 0
AppendsPart old new bytes = (count : ℕ) × Appends old new (take count bytes)

-- there are bytes, and more than a writer has room for, where it is known for how many it has
abbrev pub LacksRoom : Option ℕ → List ℕ → Type 0
LacksRoom room bytes = (0 < length bytes) × IfSome room (λ most. most < length bytes)

-- known room shrinks by no more than so many bytes
abbrev pub KeepsRoom : Option ℕ → Option ℕ → ℕ → Type 0
KeepsRoom None new count = Unit {0}
KeepsRoom (Some old) None count = ⊥
KeepsRoom (Some old) (Some new) count = old ≤ new + count

-- known bytes grow by the whole text, or by a first part of it where there is no room for the whole
abbrev pub Tells : Option ℕ → Option (List ℕ) → Option (List ℕ) → List ℕ → Type 0
Tells room old new text = Appends old new text ⊎ (LacksRoom room text × AppendsPart old new text)

-- an input that is too long has more bytes than the limit; one for which memory ran out has some, and no more than that; and a reader
-- that fails is one of whose bytes nothing is known
abbrev pub IsReadFault : Option (List ℕ) → ReadFault → Type 0
IsReadFault known fault.TooLong = IfSome known (λ bytes. most_input < length bytes)
IsReadFault known fault.Read = IsNone known
IsReadFault known fault.OutOfMemory = IfSome known (λ bytes. (0 < length bytes) × (length bytes ≤ most_input))
