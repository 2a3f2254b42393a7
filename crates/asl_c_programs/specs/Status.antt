-- What a reader answers, and what it leaves of what it was to write (docs/EMBEDDING.md, "A program as data").
use Rattle.std.specs.Prelude.{◌≡◌, ◌≤◌, ◌⊎◌, ℕ, List, length, Option, None, Some, option_map}
use Rattle.asl_code.specs.declared.image.Image.{Image}
use Rattle.asl_c_memory.specs.Buffer.{Holds}
use Rattle.asl_map.specs.declared.map.Map.{Map}
use Rattle.asl_c_programs.specs.Tables.{IsSection, section_count_of}
use Rattle.asl_c_programs.specs.declared.entries.SectionEntry.{SectionEntry}
use Rattle.asl_c_programs.specs.declared.opened.Opened.{Opened}
use Rattle.asl_c_programs.specs.declared.opened.SourceFacts.{SourceFacts}

-- 0: what there is of the number was written; else 24: there is nothing, and nothing was written
abbrev pub IsPut : {T : Type 0} → Option T → T → T → ℕ → Type 0
IsPut None old new status = (status ≡ 24) × (new ≡ old)
IsPut (Some entry) old new status = (status ≡ 0) × (new ≡ entry)

-- so of a section
abbrev pub IsSectionPut : Image → ℕ → SectionEntry → SectionEntry → ℕ → Type 0
IsSectionPut i n old new status = ((status ≡ 0) × IsSection i n new) ⊎ ((status ≡ 24) × (section_count_of i.code ≤ n) × (new ≡ old))

-- what the map calls something, if the program has one
abbrev pub named_by : Opened → (Map → Option (List ℕ)) → Option (Option (List ℕ))
named_by o name = option_map (λ (f : SourceFacts). name f.map) o.facts

-- 0: the buffer holds the name as far as it has room, and its whole length was written; else 25: there is no source; else 24: there is
-- nothing of the number; and then nothing was written
abbrev pub IsNamePut : Option (Option (List ℕ)) → List ℕ → List ℕ → ℕ → ℕ → ℕ → Type 0
IsNamePut None old new length_old length_new status = (status ≡ 25) × (new ≡ old) × (length_new ≡ length_old)
IsNamePut (Some None) old new length_old length_new status = (status ≡ 24) × (new ≡ old) × (length_new ≡ length_old)
IsNamePut (Some (Some name)) old new length_old length_new status = (status ≡ 0) × Holds name old new × (length_new ≡ length name)
