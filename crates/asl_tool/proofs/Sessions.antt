-- What words make of a session.
use Rattle.std.proofs.Common.{◌≡◌, ℕ, ◌+◌, ◌<◌, ◌≤◌, List, [], ◌++◌, length, drop, refl, sym, ap, subst, ◌∙◌, arith, append_assoc, append-nil, suc, get_or, drop-cons}
use Rattle.std.proofs.lemmas.List.{drop_all}
use Rattle.asl_debugger.specs.Session.{Session}
use Rattle.asl_command_line.specs.declared.debug_word.DebugWord.{DebugWord}
use Rattle.asl_tool.specs.Debug.{IsTalk, Follows}

-- the words so far are answered by the text, and so with any answers to the rest all are
pub record Told (start now : Session) (words : List DebugWord) (index : ℕ) (text : List ℕ) : Type 0 where
  pub all : (rest : List ℕ) → IsTalk now (drop index words) rest → IsTalk start words (text ++ rest)

pub none_told : (start : Session) (words : List DebugWord) → Told start start words 0 []
none_told start words = record { all = λ rest talk. talk }

pub one_told : (start now next : Session) (words : List DebugWord) (index : ℕ) (d : DebugWord) (old new : List ℕ) → index < length words
    → Told start now words index old → Follows now (get_or words index d) next old new → Told start next words (index + 1) new
one_told start now next words index d old new lt told follows = record {
  all = λ rest talk.
      let behind = subst (λ (k : ℕ). IsTalk next (drop k words) rest) (let e : index + 1 ≡ suc index = omega arith in e) talk in
      let here = subst (λ (ws : List DebugWord). IsTalk now ws (follows.0 ++ rest)) (sym (drop-cons words index d lt)) (next, follows.0, rest, follows.1, behind, refl) in
      subst (λ (t : List ℕ). IsTalk start words t) (sym (ap (λ (t : List ℕ). t ++ rest) follows.2 ∙ append_assoc old follows.0 rest)) (told.all (follows.0 ++ rest) here);
}

pub all_told : (start now : Session) (words : List DebugWord) (index : ℕ) (text : List ℕ) → length words ≤ index → Told start now words index text → IsTalk start words text
all_told start now words index text le told =
    let done = subst (λ (ws : List DebugWord). IsTalk now ws []) (sym (drop_all index words le)) refl in
    subst (λ (t : List ℕ). IsTalk start words t) (append-nil text) (told.all [] done)
