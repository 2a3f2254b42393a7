-- What `step` has found at the end of its words, by the last words of its schedule.
use Rattle.std.proofs.Common.{◌≡◌, ◌∙◌, ◌||◌, ◌≤◌, ◌++◌, ℕ, suc, Bool, true, false, not, cond, List, [], ◌∷◌, length, Option, Some, None, is_some, refl, ap, ap₂, sym, subst, arith, codes, append_assoc}
use Rattle.std.specs.List.{find, list_any}
use Rattle.std.specs.Option.{option_map, option_map_or}
use Rattle.std.specs.Bool.{Decides}
use Rattle.std.specs.Str.{bytes_eq}
use Rattle.std.proofs.lemmas.Slice.Eq.{bytes_eq-Decides}
use Rattle.std.specs.Prelude.{unwrap_or}
use Rattle.clap.specs.Facts.{explicit_source}
use Rattle.clap.specs.Kinds.{check_kinds}
use Rattle.clap.specs.Faults.{check_fault}
use Rattle.clap.specs.Takes.{is_given}
use Rattle.clap.specs.Walk.{Row, Rule, Text, all_of, finished, first_of, has_row, one_of, row_text, stronger, with_default, with_values}
use Rattle.clap.specs.declared.builder.value_parser.Reading.{Reading}
use Rattle.clap.specs.declared.builder.value_parser.Reading.TheVariants.{AsWritten}
use Rattle.clap.specs.declared.parser.matches.ValueSource.{ValueSource}
use Rattle.clap.specs.declared.parser.matches.ValueSource.TheVariants.{CommandLine, DefaultValue}
use Rattle.asl_command_line.specs.Words.{words_at}
use Rattle.asl_command_line.proofs.StepRules.{help, recorded, schedule, step_rules, step_shape, threads}
use Rattle.asl_command_line.proofs.StepWalk.{scheduled}

-- ---- the row of an argument

abbrev row_at : Text → List Row → Option Row
row_at id rows = find (λ r. bytes_eq r.id id) rows

-- the row of an argument, with more values
abbrev added : Text → Reading → ValueSource → List Text → Option Row → Row
added id how s values None = record { id = id; values = values; count = None; source = Some s; reading = how }
added id how s values (Some r) = record r { values = r.values ++ values; source = Some (stronger r.source s) }

same_id : (a b : Text) → bytes_eq a b ≡ true → a ≡ b
same_id a b e = grind (arith, bytes_eq-Decides a b, e)

-- the row that has more values is the one of its argument
at_same : (id : Text) (how : Reading) (s : ValueSource) (values : List Text) (rows : List Row) → bytes_eq id id ≡ true
    → row_at id (with_values id how s values rows) ≡ Some (added id how s values (row_at id rows))
at_same id how s values [] own = rw own refl
at_same id how s values (r ∷ rs) own =
    elim (bytes_eq r.id id) as (λ b. bytes_eq r.id id ≡ b → row_at id (with_values id how s values (r ∷ rs)) ≡ Some (added id how s values (row_at id (r ∷ rs)))) [
      | true ↦ λ e. rw (e, e) refl
      | false ↦ λ e. rw (e, e) (at_same id how s values rs own)
    ] refl

-- and the rows of others stay
at_other : (id other : Text) (how : Reading) (s : ValueSource) (values : List Text) (rows : List Row) → bytes_eq other id ≡ false
    → row_at id (with_values other how s values rows) ≡ row_at id rows
at_other id other how s values [] apart = rw apart refl
at_other id other how s values (r ∷ rs) apart =
    elim (bytes_eq r.id other) as (λ b. bytes_eq r.id other ≡ b → row_at id (with_values other how s values (r ∷ rs)) ≡ row_at id (r ∷ rs)) [
      | true ↦ λ e.
          let none : bytes_eq r.id id ≡ false = ap (λ x. bytes_eq x id) (same_id r.id other e) ∙ apart in
          rw (e, none) refl
      | false ↦ λ e. rw e (ap (λ o. cond (bytes_eq r.id id) (Some r) o) (at_other id other how s values rs apart))
    ] refl

has_by_row : (id : Text) (rows : List Row) → has_row id rows ≡ is_some (row_at id rows)
has_by_row id [] = refl
has_by_row id (r ∷ rs) =
    elim (bytes_eq r.id id) as (λ b. (b || has_row id rs) ≡ is_some (cond b (Some r) (row_at id rs))) [
      | true ↦ refl
      | false ↦ has_by_row id rs
    ]

-- ---- the rows at the end

no_default : (a : Rule) (rows : List Row) → a.defaults ≡ [] → with_default rows a ≡ rows
no_default a rows none =
    elim (has_row a.id rows) as (λ b. cond b rows (Rattle.clap.specs.Walk.default_rows a.id (Rattle.clap.specs.Walk.reading_by a) a.defaults rows) ≡ rows) [
      | true ↦ refl
      | false ↦ rw none refl
    ]

-- the rows once the words of the schedule have joined them
abbrev pub with_schedule : List Text → List Row → List Row
with_schedule values rows = with_values (codes "schedule") AsWritten CommandLine values rows

-- and once `--record` has its default
abbrev pub in_all : List Row → List Row
in_all rows = cond (has_row (codes "record") rows) rows (with_values (codes "record") AsWritten DefaultValue (codes "false" ∷ []) rows)

pub end_is : (rows : List Row) (v : Text) (vs : List Text) (skip : ℕ) (trailing : Bool)
    → finished step_rules (scheduled rows v vs skip trailing).held ≡ in_all (with_schedule (v ∷ vs) rows)
end_is rows v vs skip trailing =
    let all = with_schedule (v ∷ vs) rows in
    no_default help (with_default (with_default (with_default all threads) recorded) schedule) refl
    ∙ no_default schedule (with_default (with_default all threads) recorded) refl
    ∙ ap (λ rs. with_default rs recorded) (no_default threads all refl)

-- what stands for another argument than the schedule does not depend on its words
other_row : (id : Text) (some more : List Text) (rows : List Row) → bytes_eq (codes "schedule") id ≡ false → bytes_eq (codes "record") id ≡ false
    → row_at id (in_all (with_schedule some rows)) ≡ row_at id (in_all (with_schedule more rows))
other_row id some more rows apart not_record =
    plainly some ∙ sym (plainly more)
  where
    by_flag : (b : Bool) (values : List Text) → row_at id (cond b (with_schedule values rows) (with_values (codes "record") AsWritten DefaultValue (codes "false" ∷ []) (with_schedule values rows))) ≡ row_at id rows
    by_flag true values = at_other id (codes "schedule") AsWritten CommandLine values rows apart
    by_flag false values =
        at_other id (codes "record") AsWritten DefaultValue (codes "false" ∷ []) (with_schedule values rows) not_record
        ∙ at_other id (codes "schedule") AsWritten CommandLine values rows apart

    plainly : (values : List Text) → row_at id (in_all (with_schedule values rows)) ≡ row_at id rows
    plainly values = by_flag (has_row (codes "record") (with_schedule values rows)) values

-- whether the run is recorded does not
record_row : (some more : List Text) (rows : List Row)
    → row_at (codes "record") (in_all (with_schedule some rows)) ≡ row_at (codes "record") (in_all (with_schedule more rows))
record_row some more rows = same some ∙ sym (same more)
  where
    id : Text
    id = codes "record"

    apart : (values : List Text) → row_at (codes "record") (with_schedule values rows) ≡ row_at (codes "record") rows
    apart values = at_other (codes "record") (codes "schedule") AsWritten CommandLine values rows refl

    whole : Option Row → Option Row
    whole o = cond (is_some o) o (Some (added (codes "record") AsWritten DefaultValue (codes "false" ∷ []) o))

    by_flag : (b : Bool) (values : List Text)
        → row_at (codes "record") (cond b (with_schedule values rows) (with_values (codes "record") AsWritten DefaultValue (codes "false" ∷ []) (with_schedule values rows)))
        ≡ cond b (row_at (codes "record") rows) (Some (added (codes "record") AsWritten DefaultValue (codes "false" ∷ []) (row_at (codes "record") rows)))
    by_flag true values = apart values
    by_flag false values =
        at_same (codes "record") AsWritten DefaultValue (codes "false" ∷ []) (with_schedule values rows) refl
        ∙ ap (λ o. Some (added (codes "record") AsWritten DefaultValue (codes "false" ∷ []) o)) (apart values)

    has : (values : List Text) → has_row (codes "record") (with_schedule values rows) ≡ is_some (row_at (codes "record") rows)
    has values = has_by_row (codes "record") (with_schedule values rows) ∙ ap is_some (apart values)

    same : (values : List Text)
        → row_at (codes "record") (in_all (with_schedule values rows))
        ≡ cond (is_some (row_at (codes "record") rows)) (row_at (codes "record") rows) (Some (added (codes "record") AsWritten DefaultValue (codes "false" ∷ []) (row_at (codes "record") rows)))
    same values =
        by_flag (has_row (codes "record") (with_schedule values rows)) values
        ∙ ap (λ b. cond b (row_at (codes "record") rows) (Some (added (codes "record") AsWritten DefaultValue (codes "false" ∷ []) (row_at (codes "record") rows)))) (has values)

-- the schedule's row
schedule_row : (values : List Text) (rows : List Row)
    → row_at (codes "schedule") (in_all (with_schedule values rows)) ≡ Some (added (codes "schedule") AsWritten CommandLine values (row_at (codes "schedule") rows))
schedule_row values rows = by_flag (has_row (codes "record") (with_schedule values rows))
  where
    by_flag : (b : Bool)
        → row_at (codes "schedule") (cond b (with_schedule values rows) (with_values (codes "record") AsWritten DefaultValue (codes "false" ∷ []) (with_schedule values rows)))
        ≡ Some (added (codes "schedule") AsWritten CommandLine values (row_at (codes "schedule") rows))
    by_flag true = at_same (codes "schedule") AsWritten CommandLine values rows refl
    by_flag false =
        at_other (codes "schedule") (codes "record") AsWritten DefaultValue (codes "false" ∷ []) (with_schedule values rows) refl
        ∙ at_same (codes "schedule") AsWritten CommandLine values rows refl

-- ---- what is read of the rows

-- the rows at the end of a walk that is among the words of the schedule
abbrev pub rows_of_step : List Row → Text → List Text → List Row
rows_of_step rows v vs = in_all (with_schedule (v ∷ vs) rows)

pub same_threads : (rows : List Row) (v : Text) (vs more : List Text)
    → first_of (codes "threads") (rows_of_step rows v (vs ++ more)) ≡ first_of (codes "threads") (rows_of_step rows v vs)
same_threads rows v vs more =
    ap (λ o. Rattle.std.specs.Prelude.option_and_then (λ (r : Row). Rattle.std.specs.Prelude.slice_get r.values 0) o)
    (other_row (codes "threads") (v ∷ vs ++ more) (v ∷ vs) rows refl refl)

pub same_record : (rows : List Row) (v : Text) (vs more : List Text)
    → one_of (codes "record") (rows_of_step rows v (vs ++ more)) ≡ one_of (codes "record") (rows_of_step rows v vs)
same_record rows v vs more = ap (λ o. Rattle.std.specs.Prelude.option_and_then row_text o) (record_row (v ∷ vs ++ more) (v ∷ vs) rows)

-- the words of the schedule, and how many of them are pending
abbrev values_of : Option Row → List Text
values_of o = unwrap_or (option_map (λ (r : Row). r.values) o) []

more_values : (o : Option Row) (v : Text) (vs more : List Text)
    → (added (codes "schedule") AsWritten CommandLine (v ∷ vs ++ more) o).values ≡ (added (codes "schedule") AsWritten CommandLine (v ∷ vs) o).values ++ more
more_values None v vs more = refl
more_values (Some r) v vs more = sym (append_assoc r.values (v ∷ vs) more)

pub more_words : (rows : List Row) (v : Text) (vs more : List Text)
    → words_at (codes "schedule") (rows_of_step rows v (vs ++ more)) ≡ words_at (codes "schedule") (rows_of_step rows v vs) ++ more
more_words rows v vs more =
    ap values_of (schedule_row (v ∷ vs ++ more) rows) ∙ more_values (row_at (codes "schedule") rows) v vs more
    ∙ ap (λ o. values_of o ++ more) (sym (schedule_row (v ∷ vs) rows))

same_source : (o : Option Row) (some more : List Text)
    → (added (codes "schedule") AsWritten CommandLine some o).source ≡ (added (codes "schedule") AsWritten CommandLine more o).source
same_source None some more = refl
same_source (Some r) some more = refl

-- what must be given is given, with more words as with fewer
pub same_check : (rows : List Row) (v : Text) (vs more : List Text)
    → check_fault step_shape (rows_of_step rows v (vs ++ more)) false ≡ check_fault step_shape (rows_of_step rows v vs) false
same_check rows v vs more =
    ap₂ (λ a b. check_kinds false false (not a || (not b || false))) given_threads given_schedule
  where
    given_threads : is_given (codes "threads") (rows_of_step rows v (vs ++ more)) ≡ is_given (codes "threads") (rows_of_step rows v vs)
    given_threads = ap (λ o. option_map_or (λ (r : Row). explicit_source r.source) o false) (other_row (codes "threads") (v ∷ vs ++ more) (v ∷ vs) rows refl refl)

    given_schedule : is_given (codes "schedule") (rows_of_step rows v (vs ++ more)) ≡ is_given (codes "schedule") (rows_of_step rows v vs)
    given_schedule =
        ap (λ o. option_map_or (λ (r : Row). explicit_source r.source) o false) (schedule_row (v ∷ vs ++ more) rows)
        ∙ ap explicit_source (same_source (row_at (codes "schedule") rows) (v ∷ vs ++ more) (v ∷ vs))
        ∙ ap (λ o. option_map_or (λ (r : Row). explicit_source r.source) o false) (sym (schedule_row (v ∷ vs) rows))

-- the pending words are among those of the schedule
few_values : (o : Option Row) (v : Text) (vs : List Text) → suc (length vs) ≤ length (added (codes "schedule") AsWritten CommandLine (v ∷ vs) o).values
few_values None v vs = omega arith
few_values (Some r) v vs = omega (arith, Rattle.std.proofs.lemmas.List.length-append r.values (v ∷ vs))

pub few_pending : (rows : List Row) (v : Text) (vs : List Text) → suc (length vs) ≤ length (words_at (codes "schedule") (rows_of_step rows v vs))
few_pending rows v vs = subst (λ o. suc (length vs) ≤ length (values_of o)) (sym (schedule_row (v ∷ vs) rows)) (few_values (row_at (codes "schedule") rows) v vs)
