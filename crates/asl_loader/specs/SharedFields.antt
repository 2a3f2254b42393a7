-- What reads and writes the parts that images have in common with other formats (src/shared_fields.rt, docs/FORMATS.md): a reader
-- answers a value and the bytes after it, or that they end too early, or how many bytes are left at a bad field; a writer
-- adds the fields of a thing to the bytes before.
use Rattle.std.specs.Prelude.{◌≡◌, ℕ, zero, suc, Bool, nat_lt, ◌==◌, if◌then◌else◌, List, [], ◌∷◌, ◌++◌, length, take, drop, Option, Some, None, Result, Ok, Err}
use Rattle.std.specs.Int.{Width, w16, w32, byte_len, from_be_bytes}
use Rattle.asl_code.specs.declared.value.Effect.{Effect}
use Rattle.asl_code.specs.declared.value.Effect.TheVariants.{Read, Write}
use Rattle.asl_code.specs.Versions.{is_version}
use Rattle.asl_loader.specs.Bytes.{Field, text_of}
use Rattle.asl_loader.specs.declared.fault.Stop.{Stop}
use Rattle.asl_loader.specs.declared.fault.Stop.TheVariants.{Short, Bad}

-- A reader answers a value and the bytes after it, or what stopped it. One continues where the other ended.
infixl 10 ◌>>=◌
-- what stopped the first reader, else what the second makes of its answer
abbrev pub ◌>>=◌ : {A B : Type 0} → Result A Stop → (A → Result B Stop) → Result B Stop
(Ok x) >>= f = f x
(Err e) >>= f = Err e

-- what a function returned, seen by view, is what reading gives
abbrev pub Gives : {X Y : Type 0} → (X → Y) → Result X Stop → Result Y Stop → Type 0
Gives view (Ok x) read = read ≡ Ok (view x)
Gives view (Err stop) read = read ≡ Err stop

-- what was kept of a thing that was read is the thing: all of it, or nothing where memory was refused
abbrev pub IsKept : {X : Type 0} → Option X → X → Type 0
IsKept None x = Unit {0}
IsKept (Some kept) x = kept ≡ x

-- a byte
unfoldable pub byte_at : List ℕ → Result (ℕ × List ℕ) Stop
byte_at [] = Err Short
byte_at (b ∷ rest) = Ok (b, rest)

-- a number of so many bytes
abbrev pub number_at : Width → List ℕ → Result (ℕ × List ℕ) Stop
number_at w bytes = if nat_lt (length bytes) (byte_len w) then Err Short else Ok (from_be_bytes w (take (byte_len w) bytes), drop (byte_len w) bytes)

-- what was read of the bytes, if it passes the test, or else a bad field at their front
abbrev pub passed : {X : Type 0} → Bool → X → List ℕ → Result X Stop
passed ok x bytes = if ok then Ok x else Err (Bad (length bytes))

-- a byte below a limit
unfoldable pub below_at : ℕ → List ℕ → Result (ℕ × List ℕ) Stop
below_at limit bytes = do
  n ← byte_at bytes
  passed (nat_lt n.0 limit) n bytes

-- these four letters, as a number
unfoldable pub letters_at : ℕ → List ℕ → Result (ℕ × List ℕ) Stop
letters_at letters bytes = do
  n ← number_at w32 bytes
  passed (n.0 == letters) n bytes

-- the version
unfoldable pub version_at : List ℕ → Result (ℕ × List ℕ) Stop
version_at bytes = do
  n ← number_at w16 bytes
  passed (is_version n.0) n bytes

-- the effect of a byte
abbrev pub effect_of : ℕ → Effect
effect_of zero = Read
effect_of (suc n) = Write

-- an effect
unfoldable pub effect_at : List ℕ → Result (Effect × List ℕ) Stop
effect_at bytes = do
  n ← below_at 2 bytes
  Ok (effect_of n.0, n.1)

-- the new bytes are the old ones with those of the thing, which has such fields
pub record Writes (X : Type 0) (Is : X → Type 0) (fields_of : X → List Field) (old new : List ℕ) (x : X) : Type 0 where
  pub is : Is x
  pub added : new ≡ old ++ text_of (fields_of x)
