-- How a command ends, by what it came to; and that a run has said what was written of its text.
use Rattle.std.proofs.Common.{◌≡◌, ℕ, List, Option, Result, Ok, Err, inl, inr, refl, sym, subst, MatchResult, OnOk, IfErr}
use Rattle.asl_tool.specs.declared.endings.ending.Ending.{Ending}
use Rattle.asl_tool.specs.declared.endings.ending.Ending.TheVariants as ending
use Rattle.asl_tool.specs.declared.tool_fault.ToolFault.{ToolFault}
use Rattle.asl_tool.specs.Ending.{ending_status, ending_text}
use Rattle.asl_tool.specs.Tool.{Promise, WritesOutput, Refuses, IsCommandStatus, EndsWith, EndsAlone}
use Rattle.asl_tool.proofs.Weaker.{ends_weaker, alone_weaker}

pub command_ends : {X : Type 0} (unwritten : Type 0) (known : Option (List ℕ)) (room : Option ℕ) (old new : Option (List ℕ)) (promise : Promise) (done : Result X ToolFault) (e : Ending)
    → OnOk done (WritesOutput known old new promise) → IfErr done (Refuses unwritten known room old new promise)
    → MatchResult done (λ _. e ≡ ending.Done) (λ f. e ≡ ending.Refused f)
    → IsCommandStatus unwritten (λ text. ending_text e ≡ text) known room old new promise (ending_status e)
command_ends unwritten known room old new promise (Ok x) e made refused is =
    subst (λ (v : Ending). IsCommandStatus unwritten (λ text. ending_text v ≡ text) known room old new promise (ending_status v)) (sym is) (inl (refl, made))
command_ends unwritten known room old new promise (Err f) e made refused is =
    subst (λ (v : Ending). IsCommandStatus unwritten (λ text. ending_text v ≡ text) known room old new promise (ending_status v)) (sym is) (inr (refl, (f, refused, refl)))

module _ (unread unwritten : Type 0) (tells : List ℕ → Type 0) (words : List (List ℕ)) (known : Option (List ℕ)) (room : Option ℕ) (old new : Option (List ℕ)) (e : Ending) (told : tells (ending_text e)) (status : ℕ) (is : status ≡ ending_status e) where
  pub ends_said : EndsWith words unread unwritten (λ text. ending_text e ≡ text) known room old new (ending_status e) → EndsWith words unread unwritten tells known room old new status
  ends_said ended =
      subst (λ n. EndsWith words unread unwritten tells known room old new n) (sym is)
      (ends_weaker unwritten unwritten unread unread (λ text. ending_text e ≡ text) tells words known room old new (ending_status e) (λ u. u) (λ u. u) (λ text same. subst tells same told) ended)

  pub alone_said : EndsAlone words unread unwritten (λ text. ending_text e ≡ text) known room old new (ending_status e) → EndsAlone words unread unwritten tells known room old new status
  alone_said ended =
      subst (λ n. EndsAlone words unread unwritten tells known room old new n) (sym is)
      (alone_weaker unwritten unwritten unread unread (λ text. ending_text e ≡ text) tells words known room old new (ending_status e) (λ u. u) (λ u. u) (λ text same. subst tells same told) ended)
