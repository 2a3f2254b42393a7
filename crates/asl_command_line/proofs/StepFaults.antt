-- `clap` refuses the words of a program just where it refuses those of its command `step`, and no more words of the schedule than few.
use Rattle.std.proofs.Common.{◌≡◌, ◌∙◌, ◌≤◌, ◌==◌, ◌||◌, ◌++◌, ℕ, suc, Bool, true, false, cond, List, [], ◌∷◌, length, Some, is_some, refl, ap, ap₂, sym, arith, codes}
use Rattle.std.specs.List.{fold}
use Rattle.std.proofs.lemmas.Bool.{le-ltb}
use Rattle.std.proofs.lemmas.Bool.Decides.{nat_tests}
use Rattle.std.proofs.lemmas.List.Sums.{fold-append}
use Rattle.clap.specs.Lexer.{usize_max}
use Rattle.clap.specs.Kinds.{Kinds, or_else, range_kinds, values_kinds}
use Rattle.clap.specs.Faults.{check_fault, default_fault, defaults_fault, entered_fault, fault_of, given_default_fault, level_fault, settle_fault, turn_fault, walk_fault}
use Rattle.clap.specs.Simple.{App, built, entered, names_of, subcommand_of}
use Rattle.clap.specs.Walk.{Row, Rule, Text, Walk, finished, has_row, is_empty, nothing_held, rows_after, settled, walk, walk_from, walked, with_default}
use Rattle.clap.specs.declared.builder.value_parser.ValueParser.TheVariants as vp
use Rattle.clap.proofs.FaultLemmas.{stopped_fault}
use Rattle.clap.proofs.OnLiterals.{clap_on_literals}
use Rattle.clap.proofs.WalkLemmas.{walk_stopped}
use Rattle.asl_command_line.specs.Arguments.{asl_app}
use Rattle.asl_command_line.proofs.StepRules.{help, recorded, schedule, step_rules, step_shape, threads}
use Rattle.asl_command_line.proofs.StepRows.{end_is, same_check}
use Rattle.asl_command_line.proofs.StepWalk.{ArePlain, all_plain, plain_faults, scheduled}

or_nothing : (a : Kinds) → or_else a [] ≡ a
or_nothing [] = refl
or_nothing (k ∷ ks) = refl

both_none : (a b : Kinds) → or_else a b ≡ [] → (a ≡ []) × (b ≡ [])
both_none [] b e = (refl, e)
both_none (k ∷ ks) b e = cc

-- ---- the word `step`, and what is left to it

abbrev whole : App
whole = built asl_app

abbrev pub start : Walk
start = walk_from nothing_held

abbrev stopped_at : List Text → Walk
stopped_at words = record start { stopped = Some (codes "step", words) }

top_walk : (words : List Text) → walk whole.top.rules (names_of whole) nothing_held (codes "step" ∷ words) ≡ stopped_at words
unfolding walked
top_walk words = sym (walk_stopped whole.top.rules (names_of whole) start (codes "step") [] words)

top_faults : (words : List Text) → walk_fault whole.top (names_of whole) start (codes "step" ∷ words) ≡ []
unfolding walked walk_fault
top_faults words = stopped_fault whole.top (names_of whole) start (codes "step", []) words

abbrev top_level : Kinds → Walk → Kinds
top_level faults w =
    or_else faults (or_else (entered_fault whole w.stopped) (or_else (settle_fault whole.top.rules false w.held)
    (or_else (defaults_fault (settled whole.top.rules w.held).rows whole.top.rules) (check_fault whole.top (finished whole.top.rules w.held) (is_some (entered whole w.stopped))))))

top_none : (words : List Text) → top_level [] (stopped_at words) ≡ or_else (level_fault step_shape [] nothing_held words false []) []
unfolding clap_on_literals
top_none words = refl

-- `clap` refuses the words of the program just where it refuses those of `step`
pub step_fault_is : (words : List Text) → fault_of asl_app (codes "step" ∷ words) ≡ level_fault step_shape [] nothing_held words false []
step_fault_is words =
    ap₂ top_level (top_faults words) (top_walk words) ∙ top_none words ∙ or_nothing (level_fault step_shape [] nothing_held words false [])

pub step_rows_are : (words : List Text) → subcommand_of asl_app (codes "step" ∷ words) ≡ Some (codes "step", rows_after step_rules [] words)
step_rows_are words = ap (λ (w : Walk). entered whole w.stopped) (top_walk words)

-- ---- more words of the schedule are refused no more than few

abbrev level : Kinds → Walk → Kinds
level faults w =
    or_else faults (or_else (settle_fault step_rules false w.held)
    (or_else (defaults_fault (settled step_rules w.held).rows step_rules) (check_fault step_shape (finished step_rules w.held) false)))

level_is : (words : List Text) → level_fault step_shape [] nothing_held words false [] ≡ level (walk_fault step_shape [] start words) (fold (walked step_rules []) start words)
level_is words = refl

or_else_assoc : (a b d : Kinds) → or_else a (or_else b d) ≡ or_else (or_else a b) d
or_else_assoc [] b d = refl
or_else_assoc (k ∷ ks) b d = refl

-- the faults of words are those of the first of them, then those of the rest
faults_append : (w : Walk) (xs ys : List Text)
    → walk_fault step_shape [] w (xs ++ ys) ≡ or_else (walk_fault step_shape [] w xs) (walk_fault step_shape [] (fold (walked step_rules []) w xs) ys)
unfolding walk_fault
faults_append w [] ys = refl
faults_append w (x ∷ xs) ys =
    ap (or_else (turn_fault step_shape [] w x)) (faults_append (walked step_rules [] w x) xs ys)
    ∙ or_else_assoc (turn_fault step_shape [] w x) (walk_fault step_shape [] (walked step_rules [] w x) xs) (walk_fault step_shape [] (fold (walked step_rules []) (walked step_rules [] w x) xs) ys)

enough : (n : ℕ) → suc n ≤ usize_max → range_kinds 1 usize_max (suc n) ≡ []
enough n few =
    let some : (suc n == 0) ≡ false = grind (arith, nat_tests) in
    rw (some, le-ltb (suc n) 1 (omega arith), le-ltb usize_max (suc n) few) refl

string_values : (values : List Text) → values_kinds false vp.String values ≡ []
string_values [] = refl
string_values (v ∷ vs) = string_values vs

-- the words of the schedule are not refused where `clap` can count them
settles : (rows : List Row) (v : Text) (vs : List Text) (skip : ℕ) (trailing : Bool) → suc (length vs) ≤ usize_max
    → settle_fault step_rules false (scheduled rows v vs skip trailing).held ≡ []
settles rows v vs skip trailing few = ap₂ or_else (enough (length vs) few) (string_values (v ∷ vs))

default_fine : (a : Rule) → cond (is_empty a.defaults) [] (given_default_fault a a.defaults) ≡ [] → (rows : List Row) → default_fault rows a ≡ []
default_fine a fine rows =
    elim (has_row a.id rows) as (λ b. cond (b || is_empty a.defaults) [] (given_default_fault a a.defaults) ≡ []) [ true ↦ refl | false ↦ fine ]

-- the defaults of `step` are never refused
defaults_fine : (rows : List Row) → defaults_fault rows step_rules ≡ []
unfolding defaults_fault
defaults_fine rows =
    let second = with_default rows threads in
    let third = with_default second recorded in
    let fourth = with_default third schedule in
    ap₂ or_else (default_fine threads refl rows)
    (ap₂ or_else (default_fine recorded refl second) (ap₂ or_else (default_fine schedule refl third) (ap₂ or_else (default_fine help refl fourth) refl)))

-- the walk after all words
pub all_walk : (front rest : List Text) (rows : List Row) (v : Text) (vs : List Text) (skip : ℕ) (trailing : Bool) → ArePlain rest
    → fold (walked step_rules []) start front ≡ scheduled rows v vs skip trailing → fold (walked step_rules []) start (front ++ rest) ≡ scheduled rows v (vs ++ rest) skip trailing
all_walk front rest rows v vs skip trailing are is =
    fold-append (walked step_rules []) start front rest ∙ ap (λ (w : Walk). fold (walked step_rules []) w rest) is ∙ all_plain rows v vs skip trailing rest are

-- so more words are accepted where the first of them are
pub all_level : (front rest : List Text) (rows : List Row) (v : Text) (vs : List Text) (skip : ℕ) (trailing : Bool) → ArePlain rest
    → fold (walked step_rules []) start front ≡ scheduled rows v vs skip trailing → suc (length (vs ++ rest)) ≤ usize_max
    → level_fault step_shape [] nothing_held front false [] ≡ [] → level_fault step_shape [] nothing_held (front ++ rest) false [] ≡ []
all_level front rest rows v vs skip trailing are is few none =
    let front_level : level (walk_fault step_shape [] start front) (scheduled rows v vs skip trailing) ≡ [] = ap (level (walk_fault step_shape [] start front)) (sym is) ∙ none in
    let held = (scheduled rows v vs skip trailing).held in
    let settling = settle_fault step_rules false held in
    let defaulting = defaults_fault (settled step_rules held).rows step_rules in
    let checking = check_fault step_shape (finished step_rules held) false in
    let outer = both_none (walk_fault step_shape [] start front) (or_else settling (or_else defaulting checking)) front_level in
    let checks = both_none defaulting checking (both_none settling (or_else defaulting checking) outer.1).1 in
    let no_fault : walk_fault step_shape [] start (front ++ rest) ≡ [] =
    faults_append start front rest ∙ ap₂ or_else outer.0 (ap (λ (w : Walk). walk_fault step_shape [] w rest) is ∙ plain_faults rows v vs skip trailing rest are) in
    let check : check_fault step_shape (finished step_rules (scheduled rows v (vs ++ rest) skip trailing).held) false ≡ [] =
    ap (λ rs. check_fault step_shape rs false) (end_is rows v (vs ++ rest) skip trailing) ∙ same_check rows v vs rest ∙ ap (λ rs. check_fault step_shape rs false) (sym (end_is rows v vs skip trailing)) ∙ checks.1 in
    ap₂ level no_fault (all_walk front rest rows v vs skip trailing are is)
    ∙ ap₂ or_else (settles rows v (vs ++ rest) skip trailing few) (ap₂ or_else (defaults_fine _) check)
