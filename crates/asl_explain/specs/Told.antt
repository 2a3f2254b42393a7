-- What the text of an explanation tells (docs/ANALYSIS.md, "Explanations").
use Rattle.std.specs.Prelude.{◌≡◌, ◌≤◌, ◌+◌, ◌-◌, ℕ, zero, suc, List, [], ◌∷◌, ◌++◌, Bool, true, false, not, ◌||◌, ◌&&◌, ◌==◌, if◌then◌else◌, nat_lt, Option, None, Some, unwrap_or, length, map, take, drop, codes, slice_get}
use Rattle.std.specs.Fmt.{decimal}
use Rattle.std.specs.List.{filter, flat_map, list_any}
use Rattle.std.specs.Ordering.{is_eq}
use Rattle.asl_code.specs.declared.lock.Base.{Base}
use Rattle.asl_code.specs.declared.lock.Base.TheVariants.{Reg, Global}
use Rattle.asl_code.specs.declared.lock.Lock.{Lock}
use Rattle.asl_code.specs.declared.lock.Lock.TheVariants.{Root, Class, Expr}
use Rattle.asl_lower.specs.declared.section.Section.{Section}
use Rattle.asl_map.specs.declared.map.Map.{Map}
use Rattle.asl_map.specs.Text.{is_marked}
use Rattle.asl_lock_expr.specs.Order.{lock_cmp}
use Rattle.asl_backward_flow.specs.declared.region.Region.{Region}
use Rattle.asl_backward_flow.specs.declared.region.Region.TheVariants as region
use Rattle.asl_lock_words.specs.Assembly.{spell}
use Rattle.asl_lock_words.specs.Words.{base_name, function_words, lock_words}
use Rattle.asl_class_text.specs.declared.facts.Facts.{Facts}
use Rattle.asl_class_text.specs.Numbered.{numbered}
use Rattle.asl_class_text.specs.Places.{line_at}
use Rattle.asl_class_text.specs.Reasoned.{Reasoned, IsReasoned}
use Rattle.asl_class_text.specs.Texts.{listed_words, padded, place_columns, shown}
use Rattle.asl_warnings.specs.Texts.{warnings_text}
use Rattle.asl_explain.specs.declared.class_reasons.ClassTold.{ClassTold}
use Rattle.asl_explain.specs.declared.explained_value.Chain.{Chain}
use Rattle.asl_explain.specs.declared.explained_value.Ended.{Ended}
use Rattle.asl_explain.specs.declared.explained_value.Ending.{Ending}
use Rattle.asl_explain.specs.declared.explained_value.Explanation.{Explanation}
use Rattle.asl_explain.specs.declared.explained_value.Listed.{Listed}
use Rattle.asl_explain.specs.declared.explained_value.Lists.{Lists}
use Rattle.asl_explain.specs.declared.explained_value.Lists.TheVariants.{Inferred, TooManyLocks}
use Rattle.asl_explain.specs.declared.explained_value.Need.{Need}
use Rattle.asl_explain.specs.declared.explained_value.Step.{Step}
use Rattle.asl_explain.specs.declared.explained_value.Why.{Why}
use Rattle.asl_explain.specs.declared.explained_value.Why.TheVariants.{Entered, Dereferenced}
use Rattle.asl_explain.specs.ClassReasons.{AreTold, lock_block}
use Rattle.asl_explain.specs.Explained.{IsExplanation}

-- ---- names

-- what the text is written from: what is known of the source, how long a path may be, the lists for each such length, what is told of each
-- class, and whether every chain is told
pub record Given : Type 0 where
  pub facts : Facts
  pub k_limit : ℕ
  pub by_length : List Lists
  pub classes : List (Option ClassTold)
  pub all : Bool

-- the section of this number
abbrev pub section_in : Facts → ℕ → Section
section_in f section = unwrap_or (slice_get f.lowering.sections section) (record { function = 0; acquire = 0; release = 0 })

-- the function of a region, by whose names its locks are told
abbrev pub function_of : Facts → Region → ℕ
function_of f (region.Body function) = function
function_of f (region.Section section) = (section_in f section).function

-- a lock of a function, in the words of the source
abbrev pub words_in : Facts → ℕ → Lock → List ℕ
words_in f function lock = lock_words f.map function lock

-- ---- the lists with paths of each length

-- a region, as `Body(3)` or `Section(0)`
abbrev pub region_words : Region → List ℕ
region_words (region.Body function) = codes "Body(" ++ decimal function ++ codes ")"
region_words (region.Section section) = codes "Section(" ++ decimal section ++ codes ")"

-- a lock with its number in a list
abbrev pub entry_words : Facts → ℕ → ℕ → Lock → List ℕ
entry_words f function n lock = (if nat_lt 0 n then codes "; " else []) ++ words_in f function lock

-- the locks of a list, if it is there
abbrev pub locks_words : Facts → ℕ → Option (List Lock) → List ℕ
locks_words f function None = []
locks_words f function (Some []) = codes "no locks"
locks_words f function (Some (lock ∷ locks)) = numbered (entry_words f function) 0 (lock ∷ locks)

-- the list of a section, or why there is none
abbrev pub list_words : Facts → ℕ → Lists → List ℕ
list_words f section (Inferred lists) = locks_words f (section_in f section).function (slice_get lists section)
list_words f section (TooManyLocks r) = codes "TooManyLocks(" ++ (region_words r ++ codes ")")

-- from which length of paths to which
abbrev pub range_words : ℕ → ℕ → List ℕ
range_words first last = if first == last then decimal first else decimal first ++ (codes " to " ++ decimal last)

-- the end of a row, which says whether the length of the explanation is between these
abbrev pub own_words : ℕ → ℕ → ℕ → List ℕ
own_words k_limit first last = if nat_lt k_limit first || nat_lt last k_limit then codes "\n" else codes "   (this list)\n"

-- the row of a list that a section has with paths of each length between these
abbrev pub row_words : Given → ℕ → ℕ → ℕ → Lists → List ℕ
row_words g section first last lists =
    codes "  k " ++ (padded 7 (range_words first last) ++ (list_words g.facts section lists ++ own_words g.k_limit first last))

-- the row tells the list of each length between these
pub record IsRow (g : Given) (section first last : ℕ) (row : List ℕ) : Type 0 where
  pub order : first ≤ last
  pub tells : (k_limit : ℕ) (lists : Lists) → first ≤ k_limit → k_limit ≤ last → slice_get g.by_length k_limit ≡ Some lists → row ≡ row_words g section first last lists

-- the text has a row up to each of these lengths, which are in order, and the first is that of this length
abbrev pub AreRows : Given → ℕ → ℕ → List ℕ → List ℕ → Type 0
AreRows g section first [] text = (first ≡ length g.by_length) × (text ≡ [])
AreRows g section first (last ∷ ends) text =
    (row : List ℕ) × (rows : List ℕ) × IsRow g section first last row × (text ≡ row ++ rows) × AreRows g section (suc last) ends rows

-- the text is a table of the lists of a section: a row for some lengths with the same list, then one for the next, up to the last length
abbrev pub IsTable : Given → ℕ → List ℕ → Type 0
IsTable g section text = (ends : List ℕ) × AreRows g section 0 ends text

-- ---- what a text is made of

-- a part of a text: these words; a note, which stays in its line; the table of a section's lists; or something of which no more is said
pub data Part : Type 0 where
  Words : (words : List ℕ) → Part
  Note : Part
  Table : (g : Given) (section : ℕ) → Part
  Rest : Part

-- whether a line ends in the text
abbrev pub has_line_end : List ℕ → Bool
has_line_end text = list_any (λ byte. byte == 10) text

-- the text is such a part
abbrev pub IsPart : Part → List ℕ → Type 0
IsPart (Words words) text = text ≡ words
IsPart Note text = has_line_end text ≡ false
IsPart (Table g section) text = IsTable g section text
IsPart Rest text = Unit {0}

-- the text is made of these parts, one after the other, and of nothing else
abbrev pub IsMadeOf : List Part → List ℕ → Type 0
IsMadeOf [] text = text ≡ []
IsMadeOf (part ∷ parts) text =
    (front : List ℕ) × (behind : List ℕ) × IsPart part front × (text ≡ front ++ behind) × IsMadeOf parts behind

-- ---- the lines of a chain

-- the lock of a step, in the words of the source
abbrev pub step_words : Facts → Step → List ℕ
step_words f s = words_in f (function_of f s.region) s.lock

-- whether an expression begins at a register
abbrev pub is_register : Base → Bool
is_register (Reg register) = true
is_register (Global global) = false

-- whether a lock that a call needs, since its callee does, begins at a register
abbrev pub is_argument_by : Why → Lock → Bool
is_argument_by Entered (Expr e effect) = is_register e.base
is_argument_by why lock = false

-- whether the step is that of an argument: it has no line, since the next step is that of the instruction which sets the argument
abbrev pub is_argument : Step → Bool
is_argument s = is_argument_by s.why s.lock

-- whether a lock that is an expression became one on a class
abbrev pub widens : Lock → Lock → Bool
widens (Expr e effect) (Class class other) = true
widens lock other = false

-- what a step says whose lock is needed since the one before it is
abbrev pub verb_by : Why → Bool → List ℕ
verb_by Dereferenced wider = codes "reads"
verb_by why true = codes "WIDENS"
verb_by why false = codes "so"

-- the verb of the step `s` behind another: `reads`, `WIDENS`, or `so`
abbrev pub verb_of : Step → Step → List ℕ
verb_of before s = verb_by s.why (widens before.lock s.lock)

-- where a step stands: the line and the statement of its instruction, and blanks where it is that of the step before it
abbrev pub place_by : Why → Facts → ℕ → List ℕ
place_by Dereferenced f pc = codes "                                       "
place_by why f pc = place_columns f pc

-- the line of the first step, a load or a store, which needs its lock
abbrev pub first_line : Facts → Step → List ℕ
first_line f s = place_columns f s.pc ++ (padded 8 (codes "needs") ++ (step_words f s ++ codes "\n"))

-- the line of a step behind another: its place, its verb and its lock; a note on why it is needed follows
abbrev pub behind_line : Facts → Step → Step → List ℕ
behind_line f before s = place_by s.why f s.pc ++ (padded 8 (verb_of before s) ++ step_words f s)

-- the line of a step, behind another or as the first
abbrev pub line_of : Facts → Option Step → Step → List Part
line_of f None s = Words (first_line f s) ∷ []
line_of f (Some before) s = if is_argument s then [] else Words (behind_line f before s) ∷ Note ∷ Words (codes "\n") ∷ []

-- the step before the one of this number
abbrev pub step_before : List Step → ℕ → Option Step
step_before steps zero = None
step_before steps (suc n) = slice_get steps n

-- the lines of some steps of a chain, of which the first has this number in it
abbrev pub lines_from : Facts → List Step → ℕ → List Step → List Part
lines_from f steps first some = numbered (λ n s. line_of f (step_before steps (first + n)) s) 0 some

-- so many steps of a chain have no line of their own
abbrev pub left_line : ℕ → List ℕ
left_line count = codes "      .. and " ++ (decimal count ++ codes " more steps (--all shows them)\n")

-- the lines of both ends of a chain: the first and the last 16
abbrev pub ends_lines : Facts → List Step → List Part
ends_lines f steps =
    lines_from f steps 0 (take 16 steps) ++ Words (left_line (length steps - 32)) ∷ lines_from f steps (length steps - 16) (drop (length steps - 16) steps)

-- the lines of a chain: one for each step, or, where it has more than 40 and not everything is told, those of both its ends
abbrev pub chain_lines : Bool → Facts → List Step → List Part
chain_lines all f steps = if not all && nat_lt 40 (length steps) then ends_lines f steps else lines_from f steps 0 steps

-- ---- the chains under a lock

-- whether the need is of the lock itself
abbrev pub is_own : Lock → Need → Bool
is_own lock d = is_eq (lock_cmp d.lock lock)

-- the needs under a lock, its own before the others
abbrev pub own_first : Lock → List Need → List Need
own_first lock needs = filter (λ d. is_own lock d) needs ++ filter (λ d. not (is_own lock d)) needs

-- a chain with the need whose lock it comes to
pub record ChainUnder : Type 0 where
  pub need : Need
  pub chain : Chain

-- the chains of a need
abbrev pub chains_of : Need → List ChainUnder
chains_of d = map (λ (c : Chain). record { need = d; chain = c }) d.chains

-- the chains under a lock of a list
abbrev pub chains_under : Listed → List ChainUnder
chains_under d = flat_map chains_of (own_first d.lock d.needs)

-- those of them that are told: every one, or the first
abbrev pub told_of : Bool → List ChainUnder → List ChainUnder
told_of true chains = chains
told_of false chains = take 1 chains

-- behind a chain, if it is to another lock, that the lock of the list contains that
abbrev pub container_line : Facts → ℕ → Bool → Lock → List ℕ
container_line f function true lock = []
container_line f function false lock =
    codes "                                       " ++ (padded 8 (codes "so") ++ (words_in f function lock ++ codes "   (the list's lock contains it)\n"))

-- the end of an empty line, but before the first
abbrev pub between_words : ℕ → List ℕ
between_words n = if nat_lt 0 n then codes "\n" else []

-- the lines of a chain that is told, behind an empty line where it is not the first
abbrev pub under_lines : Bool → Facts → ℕ → Lock → ℕ → ChainUnder → List Part
under_lines all f function lock n u =
    Words (between_words n) ∷ (chain_lines all f u.chain.steps ++ Words (container_line f function (is_own lock u.need) lock) ∷ [])

-- the lines of all chains that are told of a lock of a list
abbrev pub told_chains : Given → ℕ → Listed → List Part
told_chains g function d = numbered (under_lines g.all g.facts function d.lock) 0 (told_of g.all (chains_under d))

-- ---- the locks of a list

-- how many members of a class are not shown, if some are not
abbrev pub more_words : ℕ → List ℕ
more_words left = if nat_lt 0 left then codes ", and " ++ decimal left ++ codes " more" else []

-- these members of a class: all of them, or the first
abbrev pub shown_words : Facts → Bool → List ℕ → List ℕ
shown_words f all ms =
    codes "{ " ++ (numbered (listed_words f) 0 (take (shown all (length ms)) ms) ++ (more_words (length ms - shown all (length ms)) ++ codes " }"))

-- the members of a class, by what is known of it
abbrev pub members_in : Option (Option ClassTold) → List ℕ
members_in None = []
members_in (Some None) = []
members_in (Some (Some t)) = t.told.members.items

-- the members of the class of this number
abbrev pub members_words : Given → ℕ → List ℕ
members_words g class = shown_words g.facts g.all (members_in (slice_get g.classes class))

-- the line of a lock: an expression in the words of the source and as an assembly text has it; a class so, and its members; or the root
abbrev pub lock_line : Given → ℕ → Lock → List ℕ
lock_line g function (Expr e effect) =
    codes "\n  " ++ (padded 22 (words_in g.facts function (Expr e effect)) ++ (spell (Expr e effect) ++ codes "\n"))
lock_line g function (Class class effect) =
    codes "\n  " ++ (padded 22 (spell (Class class effect)) ++ (members_words g class ++ codes "\n"))
lock_line g function (Root effect) = codes "\n  " ++ (padded 22 (spell (Root effect)) ++ codes "everything\n")

-- below the chains, the statements whose chains are not told
abbrev pub others_told : Bool → List Part
others_told true = []
others_told false = Rest ∷ []

-- a lock of the list, its chains, and why the members of its class share it, if it is on a class
abbrev pub lock_told : Given → ℕ → Listed → List Part
lock_told g section d =
    Words (lock_line g (section_in g.facts section).function d.lock) ∷ (told_chains g (section_in g.facts section).function d
    ++ (others_told g.all ++ Words (lock_block g.facts g.all g.classes section d.lock) ∷ []))

-- ---- the locks that end at a `new`

-- the name at which an expression of a function begins, if that is a register
abbrev pub made_by : Map → ℕ → Base → List ℕ
made_by m function (Reg register) = base_name m function (Reg register)
made_by m function (Global global) = []

-- the same of a lock
abbrev pub made_words : Map → ℕ → Lock → List ℕ
made_words m function (Expr e effect) = made_by m function e.base
made_words m function (Class class effect) = []
made_words m function (Root effect) = []

-- the line of the `new` at a pc
abbrev pub new_line : Facts → ℕ → List ℕ
new_line f pc = place_columns f pc ++ (padded 8 (codes "ends") ++ codes "the object is new here: no lock\n")

-- the chain of a lock that ends, and the line of the `new`, if they are told
abbrev pub ending_lines : Bool → Facts → Option Ending → List Part
ending_lines all f None = []
ending_lines all f (Some e) = chain_lines all f e.chain.steps ++ Words (new_line f e.pc) ∷ []

-- the line of a lock of a function that ends at a `new`
abbrev pub ended_line : Facts → ℕ → Lock → List ℕ
ended_line f function lock =
    codes "\n  no lock for " ++ (words_in f function lock ++ (codes "   (" ++ (made_words f.map function lock ++ codes " is new)\n")))

-- a lock of a function that ends at a `new`
abbrev pub ended_lines : Bool → Facts → ℕ → Ended → List Part
ended_lines all f function e = Words (ended_line f function e.lock) ∷ ending_lines all f e.ending

-- ---- sections

-- the number of a section
abbrev pub section_words : ℕ → List ℕ
section_words section = codes "section " ++ decimal section ++ codes ", "

-- that `main` reaches a function neither itself nor through others, if it does not
abbrev pub never_words : Map → ℕ → List ℕ
never_words m function = if is_marked m.reached function then [] else codes ", which main never reaches"

-- where a section stands, and how long a path may be
abbrev pub place_words : Facts → ℕ → Section → List ℕ
place_words f k_limit s =
    codes "line " ++ (decimal (line_at f s.acquire) ++ (codes ", in " ++ (function_words f.map s.function ++ (never_words f.map s.function ++ (codes ", k " ++ decimal k_limit)))))

-- how many locks the list of a section has
abbrev pub count_words : ℕ → List ℕ
count_words count = codes ": takes " ++ decimal count ++ codes " lock"

-- the end of the first line of a section
abbrev pub plural_words : ℕ → List ℕ
plural_words count = if count == 1 then codes "\n" else codes "s\n"

-- the first line of a section, and more where its list would be too long
abbrev pub head_told : Given → ℕ → ℕ → List Part
head_told g section count =
    Words (section_words section) ∷ Words (place_words g.facts g.k_limit (section_in g.facts section)) ∷ Words (count_words count) ∷ Words (plural_words count) ∷ Rest ∷ []

-- what is told of a section, behind an empty line where it is not the first: where it stands and how many locks its list has, each lock, the
-- locks that end at a `new`, and the lists with paths of each length
abbrev pub section_told : Given → ℕ → List Listed → List Ended → List Part
section_told g section listed ended =
    Words (between_words section) ∷ (head_told g section (length listed)
    ++ (flat_map (lock_told g section) listed
    ++ (flat_map (ended_lines g.all g.facts (section_in g.facts section).function) ended ++ Words (codes "\n") ∷ Table g section ∷ [])))

-- so of each section, from this number on
abbrev pub sections_told : Given → ℕ → List (List Listed) → List (List Ended) → List Part
sections_told g section [] ended = []
sections_told g section (listed ∷ lists) [] = section_told g section listed [] ++ sections_told g (suc section) lists []
sections_told g section (listed ∷ lists) (e ∷ ended) = section_told g section listed e ++ sections_told g (suc section) lists ended

-- an empty line between two texts, if both are there
abbrev pub parting_words : List ℕ → List ℕ → List ℕ
parting_words [] behind = []
parting_words (c ∷ front) [] = []
parting_words (c ∷ front) (d ∷ behind) = codes "\n"

-- the text is that of an explanation of the source: it tells each section with the locks of its list, in their order, below each the steps
-- of its chains, and below locks on classes why the members share them; the locks that end at a `new`; and the lists with paths of each
-- length; it ends with what the source may lack
pub record IsText (source : List ℕ) (k_limit : ℕ) (all : Bool) (text : List ℕ) : Type 0 where
  pub explanation : Explanation
  pub explains : IsExplanation source k_limit explanation
  pub reasoned : Reasoned
  pub reasons : IsReasoned source reasoned
  pub classes : List (Option ClassTold)
  pub are_told : AreTold reasoned all explanation.sections reasoned.known.facts.count classes
  pub front : List ℕ
  pub tells : IsMadeOf (sections_told (record { facts = reasoned.known.facts; k_limit = k_limit; by_length = explanation.by_length; classes = classes; all = all }) 0 explanation.sections explanation.ended) front
  pub ends : text ≡ front ++ (parting_words front (warnings_text reasoned.known) ++ warnings_text reasoned.known)
