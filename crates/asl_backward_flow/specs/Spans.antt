-- Machinery of the proofs, not of the promise: where the regions lie in the code (src/span.rt).
use Rattle.std.specs.Prelude.{◌≡◌, ◌+◌, ◌<◌, ◌≤◌, ℕ, suc, List, length, Some, slice_get}
use Rattle.asl_lower.specs.declared.section.Section.{Section}
use Rattle.asl_lower.specs.Lowered.{Lowered}
use Rattle.asl_lower.specs.OpenSections.{start_of, IsInner}
use Rattle.asl_lower.specs.Regions.{Region, Body, IsIn}
use Rattle.asl_backward_flow.specs.declared.region.Region.TheVariants as variant
use Rattle.asl_backward_flow.specs.declared.span.Span.{Span}
use Rattle.asl_backward_flow.specs.Needed.{region_of}

-- the span is that of its region
pub record IsSpan (l : Lowered) (s : Span) : Type 0 where
  pub points : (f pc : ℕ) → IsIn l (region_of s.region) f pc → (f ≡ s.function) × (s.first ≤ pc) × (pc < s.end)
  pub inside : (pc : ℕ) → s.first ≤ pc → pc < s.end → IsIn l (region_of s.region) s.function pc
  pub entry : (g : ℕ) → s.region ≡ variant.Body g → s.first ≡ start_of l.functions g
  pub section : (n : ℕ) (x : Section) → s.region ≡ variant.Section n → slice_get l.sections n ≡ Some x → s.first ≡ suc x.acquire
  pub within : s.end ≤ length l.code

-- each is the span of its region
abbrev pub AreOfRegions : Lowered → List Span → Type 0
AreOfRegions l spans = (n : ℕ) (s : Span) → slice_get spans n ≡ Some s → IsSpan l s

-- one of them is of the section, or of the body, of this number
abbrev pub HasSection : List Span → ℕ → Type 0
HasSection spans n = (k : ℕ) × (s : Span) × (slice_get spans k ≡ Some s) × (s.region ≡ variant.Section n)

-- one of the spans is of the body of the function of this number
abbrev pub HasBody : List Span → ℕ → Type 0
HasBody spans g = (k : ℕ) × (s : Span) × (slice_get spans k ≡ Some s) × (s.region ≡ variant.Body g)

-- the span of a section stands at the section's number
abbrev pub AreInPlace : List Span → Type 0
AreInPlace spans = (k n : ℕ) (s : Span) → slice_get spans k ≡ Some s → s.region ≡ variant.Section n → k ≡ n

-- no two of them are of one region
abbrev pub AreDistinct : List Span → Type 0
AreDistinct spans = (j k : ℕ) (s t : Span) → slice_get spans j ≡ Some s → slice_get spans k ≡ Some t → s.region ≡ t.region → j ≡ k

-- the spans of all regions, and of no other
pub record AreSpans (l : Lowered) (spans : List Span) : Type 0 where
  pub each : AreOfRegions l spans
  pub all : (r : Region) (f pc : ℕ) → IsIn l r f pc → (k : ℕ) × (s : Span) × (slice_get spans k ≡ Some s) × (region_of s.region ≡ r)
  pub sections : (n : ℕ) → n < length l.sections → HasSection spans n
  pub many : length l.sections ≤ length spans
  pub few : length spans ≤ 1280
  pub placed : AreInPlace spans
  pub distinct : AreDistinct spans

-- the spans of some regions, those of all bodies among them: what such regions need depends on no other region
pub record AreClosed (l : Lowered) (spans : List Span) : Type 0 where
  pub each : AreOfRegions l spans
  pub bodies : (g f pc : ℕ) → IsIn l (Body g) f pc → HasBody spans g
  pub few : length spans ≤ 1280

-- of the spans of all regions those of so many sections from one on, and behind them others, those of all bodies among them
pub record IsGroup (l : Lowered) (spans : List Span) (first count : ℕ) (group : List Span) : Type 0 where
  pub closed : AreClosed l group
  pub many : count ≤ length group
  pub sections : (k : ℕ) → k < count → slice_get group k ≡ slice_get spans (first + k)

-- the spans of the sections below a number
pub record AreSections (l : Lowered) (spans : List Span) (number : ℕ) : Type 0 where
  pub each : AreOfRegions l spans
  pub all : (n : ℕ) → n < number → HasSection spans n
  pub count : length spans ≡ number
  pub placed : AreInPlace spans
  pub are : (k : ℕ) (s : Span) → slice_get spans k ≡ Some s → (n : ℕ) × (s.region ≡ variant.Section n)

-- the spans of all sections, and of the bodies of the inner functions below a number
pub record AreBodies (l : Lowered) (spans : List Span) (number : ℕ) : Type 0 where
  pub each : AreOfRegions l spans
  pub sections : (n : ℕ) → n < length l.sections → HasSection spans n
  pub all : (g : ℕ) → g < number → IsInner l g → HasBody spans g
  pub many : length l.sections ≤ length spans
  pub few : length spans ≤ length l.sections + number
  pub placed : AreInPlace spans
  pub distinct : AreDistinct spans
  pub below : (k g : ℕ) (s : Span) → slice_get spans k ≡ Some s → s.region ≡ variant.Body g → g < number
