-- What is wrong with bytes that are those of no program, and what the one outcome of bytes is (docs/FORMATS.md,
-- "Images"). See docs/FORMATS.md.
use Rattle.std.specs.Prelude.{◌≡◌, ◌≢◌, ℕ, ◌<◌, Bool, ◌&&◌, nat_le, IsTrue, List, length, take, All, Result, Ok, Err}
use Rattle.std.specs.List.{list_all}
use Rattle.asl_code.specs.declared.image.Image.{Image}
use Rattle.asl_code.specs.declared.lock.Lock.{Lock}
use Rattle.asl_code.specs.Verified.{IsAnswer, IsVerified}
use Rattle.asl_code.specs.Versions.{newest_locks}
use Rattle.asl_loader.specs.declared.fault.LoadFault.{LoadFault}
use Rattle.asl_loader.specs.declared.fault.LoadFault.TheVariants.{Magic, Version, Truncated, BadField, Trailing, Verify, OutOfMemory}
use Rattle.asl_loader.specs.Bytes.{image_fields, IsImage, SpellsImage, EndsWithin, HasBadByte}

-- no image has the field of this byte, and all before it are an image's
abbrev pub IsBadImageByte : List ℕ → ℕ → Type 0
IsBadImageByte bytes at = HasBadByte Image IsImage image_fields bytes at

-- whether the list has no more locks than a program of some version may have in one
abbrev pub is_short : List Lock → Bool
is_short locks = nat_le (length locks) newest_locks

-- whether there are no more lists than a program may have, and each is short
abbrev pub are_short : List (List Lock) → Bool
are_short lists = nat_le (length lists) 1024 && list_all is_short lists

-- The fault is the first thing that is wrong with the bytes, from front to back. The field at byte 0 is the letters,
-- and the one at byte 4 the version. Running out of memory hides none but what the verifier finds, and of that neither too
-- many lists nor too many locks in one: the bytes spell an image whose lists are short.
abbrev pub IsFault : List ℕ → LoadFault → Type 0
IsFault bytes Magic = IsBadImageByte bytes 0
IsFault bytes Version = IsBadImageByte bytes 4
IsFault bytes (Truncated at) = (at ≡ length bytes) × EndsWithin Image IsImage image_fields bytes
IsFault bytes (BadField at) = (at ≢ 0) × (at ≢ 4) × IsBadImageByte bytes at
IsFault bytes (Trailing at) = (at < length bytes) × ((image : Image) × SpellsImage image (take at bytes))
IsFault bytes (Verify cause) = (image : Image) × SpellsImage image bytes × IsAnswer image cause
IsFault bytes OutOfMemory = (image : Image) × SpellsImage image bytes × IsTrue (are_short image.lists)

-- the bytes spell this image, which is a program's: they are loaded as it, and it is stored as they
pub record IsProgramImage (bytes : List ℕ) (image : Image) : Type 0 where
  pub spelled : SpellsImage image bytes
  pub verified : IsVerified image

-- The outcome of the bytes, where memory is there: the program that they are loaded as, or the refusal that they meet.
abbrev pub IsOutcome : List ℕ → Result Image LoadFault → Type 0
IsOutcome bytes (Ok image) = IsProgramImage bytes image
IsOutcome bytes (Err fault) = IsFault bytes fault × (fault ≢ OutOfMemory)

-- any bytes have an outcome
abbrev pub BytesHaveAnOutcome : Type 0
BytesHaveAnOutcome = (bytes : List ℕ) → All (λ b. b < 256) bytes → (outcome : Result Image LoadFault) × IsOutcome bytes outcome

-- and they have no other
abbrev pub OutcomeIsOne : Type 0
OutcomeIsOne =
    (bytes : List ℕ) (outcome other : Result Image LoadFault) → All (λ b. b < 256) bytes → IsOutcome bytes outcome → IsOutcome bytes other
    → outcome ≡ other

-- to load what was stored gives the program back
abbrev pub LoadUndoesStore : Type 0
LoadUndoesStore = (image other : Image) (bytes : List ℕ) → IsProgramImage bytes image → IsProgramImage bytes other → other ≡ image

-- to store what was loaded gives the bytes back
abbrev pub StoreUndoesLoad : Type 0
StoreUndoesLoad = (bytes others : List ℕ) (image : Image) → IsProgramImage bytes image → IsProgramImage others image → others ≡ bytes
