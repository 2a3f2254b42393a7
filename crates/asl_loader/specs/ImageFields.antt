-- Machinery of the proofs, not of the promise to users: reading an image from front to back, to the first field that is
-- cut or bad, computed (docs/FORMATS.md, "Images"). The lemmas of proofs/ lead from here to the relations of specs/Bytes and
-- specs/Faults, which the calls for images cite.
use Rattle.std.specs.Prelude.{◌≡◌, ◌⊎◌, ℕ, zero, suc, ◌-◌, Bool, false, IsTrue, nat_lt, ◌==◌, if◌then◌else◌, List, [], ◌∷◌, length, take, drop, Option, Result, Ok, Err}
use Rattle.std.specs.Int.{w16}
use Rattle.asl_code.specs.declared.fault.VerifyFault.TheVariants.{Limit}
use Rattle.asl_code.specs.declared.image.Function.{Function}
use Rattle.asl_code.specs.declared.image.Image.{Image}
use Rattle.asl_code.specs.declared.instr.Instr.{Instr}
use Rattle.asl_code.specs.declared.lock.Base.{Base}
use Rattle.asl_code.specs.declared.lock.Base.TheVariants.{Reg, Global}
use Rattle.asl_code.specs.declared.lock.Lock.{Lock}
use Rattle.asl_code.specs.declared.lock.Lock.TheVariants as lock
use Rattle.asl_code.specs.declared.path.Op.{Op}
use Rattle.asl_code.specs.declared.path.Op.TheVariants.{Deref, Off}
use Rattle.asl_code.specs.declared.value.Effect.{Effect}
use Rattle.asl_code.specs.Reading.{instr_of}
use Rattle.asl_loader.specs.Faults.{are_short}
use Rattle.asl_loader.specs.SharedFields.{◌>>=◌, IsKept, byte_at, number_at, below_at, letters_at, version_at, effect_at}
use Rattle.asl_loader.specs.declared.fault.LoadFault.{LoadFault}
use Rattle.asl_loader.specs.declared.fault.LoadFault.TheVariants.{Magic, Version, Truncated, BadField, Trailing, Verify, OutOfMemory}
use Rattle.asl_loader.specs.declared.fault.Lost.{Lost}
use Rattle.asl_loader.specs.declared.fault.Lost.TheVariants.{Long, Memory}
use Rattle.asl_loader.specs.declared.fault.Stop.{Stop}
use Rattle.asl_loader.specs.declared.fault.Stop.TheVariants.{Short, Bad}

-- what a function returned is what reading gives, of which it kept what it found memory for
abbrev pub Keeps : {X Y : Type 0} → (X → Option Y) → (X → List ℕ) → Result X Stop → Result (Y × List ℕ) Stop → Type 0
Keeps {Y = Y} kept rest (Ok x) read = (whole : Y) × IsKept (kept x) whole × (read ≡ Ok (whole, rest x))
Keeps kept rest (Err stop) read = read ≡ Err stop

-- what was kept of a thing that has lists, short or not: all of it where they are, unless memory was refused; else nothing
abbrev pub IsHeld : {X : Type 0} → Bool → Result X Lost → X → Type 0
IsHeld short (Ok kept) x = (kept ≡ x) × IsTrue short
IsHeld short (Err Long) x = short ≡ false
IsHeld short (Err Memory) x = IsTrue short

-- what a function returned is what reading gives, of which it kept so much
abbrev pub Holds : {X Y : Type 0} → (Y → Bool) → (X → Result Y Lost) → (X → List ℕ) → Result X Stop → Result (Y × List ℕ) Stop → Type 0
Holds {Y = Y} short kept rest (Ok x) read = (whole : Y) × IsHeld (short whole) (kept x) whole × (read ≡ Ok (whole, rest x))
Holds short kept rest (Err stop) read = read ≡ Err stop

-- an instruction of eight bytes, or the place of their first bad field
abbrev pub judged : {X : Type 0} → ℕ → List ℕ → Result X ℕ → Result (X × List ℕ) Stop
judged len rest (Ok x) = Ok (x, rest)
judged len rest (Err place) = Err (Bad (len - place))

-- an instruction
unfoldable pub instr_at : List ℕ → Result (Instr × List ℕ) Stop
instr_at bytes = if nat_lt (length bytes) 8 then Err Short else judged (length bytes) (drop 8 bytes) (instr_of (take 8 bytes))

-- a function
unfoldable pub function_at : List ℕ → Result (Function × List ℕ) Stop
function_at bytes = do
  params ← byte_at bytes
  regs ← byte_at params.1
  len ← number_at w16 regs.1
  Ok (record { params = params.0; regs = regs.0; len = len.0 }, len.1)

-- the operation of a kind
abbrev pub op_of : ℕ → List ℕ → Result (Op × List ℕ) Stop
op_of zero bytes = Ok (Deref, bytes)
op_of (suc kind) bytes = do
  offset ← byte_at bytes
  Ok (Off offset.0, offset.1)

-- an operation of a path
unfoldable pub op_at : List ℕ → Result (Op × List ℕ) Stop
op_at bytes = do
  kind ← below_at 2 bytes
  op_of kind.0 kind.1

-- so many items, by a reader of one
unfoldable pub items_at : {X : Type 0} → (List ℕ → Result (X × List ℕ) Stop) → ℕ → List ℕ → Result (List X × List ℕ) Stop
items_at item zero bytes = Ok ([], bytes)
items_at item (suc n) bytes = do
  first ← item bytes
  others ← items_at item n first.1
  Ok (first.0 ∷ others.0, others.1)

-- a count, and so many items
unfoldable pub counted_at : {X : Type 0} → (List ℕ → Result (X × List ℕ) Stop) → List ℕ → Result (List X × List ℕ) Stop
counted_at item bytes = do
  count ← number_at w16 bytes
  items_at item count.0 count.1

-- a path
unfoldable pub path_at : List ℕ → Result (List Op × List ℕ) Stop
path_at bytes = do
  count ← below_at 9 bytes
  items_at op_at count.0 count.1

-- the path of an expression, whose base was read
unfoldable pub expr_at : Base → Effect → List ℕ → Result (Lock × List ℕ) Stop
expr_at base effect bytes = do
  path ← path_at bytes
  Ok (lock.Expr (record { base = base; path = path.0 }) effect, path.1)

-- the lock of a kind and an effect
unfoldable pub lock_of : ℕ → Effect → List ℕ → Result (Lock × List ℕ) Stop
lock_of zero effect bytes = Ok (lock.Root effect, bytes)
lock_of (suc zero) effect bytes = do
  class ← number_at w16 bytes
  Ok (lock.Class class.0 effect, class.1)
lock_of (suc (suc zero)) effect bytes = do
  register ← byte_at bytes
  expr_at (Reg register.0) effect register.1
lock_of (suc (suc (suc kind))) effect bytes = do
  global ← number_at w16 bytes
  expr_at (Global global.0) effect global.1

-- a lock
unfoldable pub lock_at : List ℕ → Result (Lock × List ℕ) Stop
lock_at bytes = do
  kind ← below_at 4 bytes
  effect ← effect_at kind.1
  lock_of kind.0 effect.0 effect.1

-- a list
unfoldable pub list_at : List ℕ → Result (List Lock × List ℕ) Stop
list_at bytes = counted_at lock_at bytes

-- an image
unfoldable pub image_at : List ℕ → Result (Image × List ℕ) Stop
image_at bytes = do
  front ← letters_at 1095978061 bytes
  version ← version_at front.1
  classes ← number_at w16 version.1
  globals ← counted_at (number_at w16) classes.1
  functions ← counted_at function_at globals.1
  start ← number_at w16 functions.1
  code ← counted_at instr_at start.1
  lists ← counted_at list_at code.1
  Ok (record { version = version.0; classes = classes.0; globals = globals.0; functions = functions.0; start = start.0; code = code.0; lists = lists.0 }, lists.1)

-- the thing, if no bytes are left
abbrev pub ended : {X F : Type 0} → (ℕ → F) → X → ℕ → ℕ → Result X F
ended trailing x left len = if left == 0 then Ok x else Err (trailing (len - left))

-- the thing that was read of so many bytes, or the fault: of bytes that end within a field, have a bad byte, or continue
abbrev pub whole_from : {X F : Type 0} → (ℕ → F) → (ℕ → F) → (ℕ → F) → ℕ → Result (X × List ℕ) Stop → Result X F
whole_from cut bad trailing len (Ok x) = ended trailing x.0 (length x.1) len
whole_from cut bad trailing len (Err Short) = Err (cut len)
whole_from cut bad trailing len (Err (Bad left)) = Err (bad (len - left))

-- the fault of a bad byte
abbrev pub bad_fault : ℕ → LoadFault
bad_fault at = if at == 0 then Magic else if at == 4 then Version else BadField at

-- the image of all the bytes
unfoldable pub whole_of : List ℕ → Result Image LoadFault
whole_of bytes = whole_from (λ n. Truncated n) bad_fault (λ n. Trailing n) (length bytes) (image_at bytes)

-- What the reader of all the bytes returned is this answer; but an image may be lost, for its lists or because memory ran out.
abbrev pub Answers : Result Image LoadFault → Result Image LoadFault → Type 0
Answers result answer =
    (result ≡ answer)
    ⊎ ((result ≡ Err (Verify Limit)) × ((image : Image) × (answer ≡ Ok image) × (are_short image.lists ≡ false)))
    ⊎ ((result ≡ Err OutOfMemory) × ((image : Image) × (answer ≡ Ok image) × IsTrue (are_short image.lists)))
