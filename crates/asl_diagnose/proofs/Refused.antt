-- The words at which a program is refused are there.
use Rattle.std.proofs.Common.{◌≡◌, ℕ, ◌<◌, Bool, List, subst, arith}
use Rattle.std.proofs.lemmas.Option.{slice_get_within, slice_get-get_or}
use Rattle.asl_code.specs.declared.lock.Lock.{Lock}
use Rattle.asl_code.specs.declared.lock.Lock.TheVariants as lock
use Rattle.asl_code.specs.declared.value.Effect.TheVariants as effect
use Rattle.asl_grammar.specs.Lex.{tokens_of}
use Rattle.asl_syntax.specs.Tree.{Item, functions_of}
use Rattle.asl_syntax.specs.Parsed.{Parses}
use Rattle.asl_lower.specs.Lowered.{Lowered, IsLowering}
use Rattle.asl_lower.specs.Regions.{Region, Body, Inside, IsIn}
use Rattle.asl_lower.proofs.Laid.{code_is}
use Rattle.asl_backward_flow.specs.Needed.{NeedsMany}
use Rattle.asl_backward_flow.specs.declared.region.Region.TheVariants as variant
use Rattle.asl_backward_flow.proofs.Leasts.{needed_inside}
use Rattle.asl_points_to.specs.Classes.{Classed}
use Rattle.asl_emitter.specs.Refused.{IsRefusedInference}
use Rattle.asl_emitter.specs.declared.fault.InferFault.TheVariants as infer
use Rattle.asl_diagnose_text.specs.declared.word_place.Word.TheVariants as word
use Rattle.asl_diagnose_text.specs.Places.{accesses_before, words_in, IsWordAt, IsOverfull}
use Rattle.asl_diagnose_text.proofs.There.{functions_there, sections_there, crowded_there}
use Rattle.asl_diagnose_text.proofs.Stars.{star_there}
use Rattle.asl_diagnose.specs.InferPlaces.{IsAccessPlace}

-- a function with too many registers
pub registers_there : (text : List ℕ) (tree : List Item) (k number : ℕ) → Parses text tree → IsRefusedInference tree k (infer.Registers number) → number < words_in word.Fn (tokens_of text)
registers_there text tree k number p h =
    omega (arith, crowded_there 0 number (functions_of tree) h, functions_there tree (tokens_of text) p.spelled.spelled)

-- an access
pub access_there : (text : List ℕ) (tree : List Item) (k function pc number : ℕ) → Parses text tree → IsRefusedInference tree k (infer.AccessOutsideSection function pc) → ((l : Lowered) → IsLowering tree l → number ≡ accesses_before l.code pc)
    → number < words_in word.Star (tokens_of text)
access_there text tree k function pc number p h e =
    let a = h.1.2.access in
    omega (arith, e h.1.0 h.1.1, star_there tree (tokens_of text) h.1.0.code pc a.instruction p.spelled.spelled (code_is tree h.1.0 h.1.1) a.stands a.access)

-- and so is its place
pub access_placed : (text : List ℕ) (tree : List Item) (k function pc number at : ℕ) → Parses text tree → IsRefusedInference tree k (infer.AccessOutsideSection function pc) → ((l : Lowered) → IsLowering tree l → number ≡ accesses_before l.code pc)
    → IsWordAt (tokens_of text) word.Star number at → IsAccessPlace text pc at
access_placed text tree k function pc number at p h e w =
    let P : ℕ → Type 0 = λ n. IsWordAt (tokens_of text) word.Star n at in
    record { tree = tree; parses = p; lowered = h.1.0; lowering = h.1.1; place = subst P (e h.1.0 h.1.1) w }

-- a region that needs many locks has a place
region_inside : (l : Lowered) (c : Classed) (stores : ℕ → ℕ → Bool) (k_limit : ℕ) (r : Region) → NeedsMany l c stores k_limit r → (f : ℕ) × (pc : ℕ) × IsIn l r f pc
region_inside l c stores k_limit r h =
    let first : Lock = lock.Root effect.Read in
    let one = h.needed 0 _ (slice_get-get_or h.locks 0 first (omega (arith, h.many))) in
    let k = needed_inside l c stores k_limit r one.0 _ one.1 in
    (k.0, one.0, k.1)

pub section_there : (text : List ℕ) (tree : List Item) (k number : ℕ) → Parses text tree → IsRefusedInference tree k (infer.TooManyLocks (variant.Section number)) → number < words_in word.Atomic (tokens_of text)
section_there text tree k number p h =
    let a = h.analysis in
    let i = region_inside a.program.lowering a.program.classes a.stores k (Inside number) h.many in
    omega (arith, slice_get_within a.program.lowering.sections number i.2.is i.2.in_table, a.program.lowers.sections, sections_there tree (tokens_of text) p.spelled.spelled)

pub body_there : (text : List ℕ) (tree : List Item) (k number : ℕ) → Parses text tree → IsRefusedInference tree k (infer.TooManyLocks (variant.Body number)) → number < words_in word.Fn (tokens_of text)
body_there text tree k number p h =
    let a = h.analysis in
    let i = region_inside a.program.lowering a.program.classes a.stores k (Body number) h.many in
    omega (arith, slice_get_within a.program.lowering.functions number i.2.2.function i.2.2.in_table, a.program.lowers.functions, functions_there tree (tokens_of text) p.spelled.spelled)

-- the function at which the code passes the limit
pub overfull_there : (text : List ℕ) (tree : List Item) (number : ℕ) → Parses text tree → IsOverfull tree number → number < words_in word.Fn (tokens_of text)
overfull_there text tree number p h =
    omega (arith, h.there, functions_there tree (tokens_of text) p.spelled.spelled)
