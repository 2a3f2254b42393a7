-- Each keyword is read from its name alone.
use Rattle.std.proofs.Common.{◌≡◌, ℕ, List, [], ◌∷◌, Some, refl, inl, inr}
use Rattle.std.specs.Str.{bytes_eq}
use Rattle.std.proofs.lemmas.Slice.Eq.{bytes_eq-Decides}
use Rattle.std.proofs.lemmas.Bool.{cases_Bool}
use Rattle.asl_code.specs.declared.value.Effect.{Effect}
use Rattle.asl_code.specs.declared.value.Effect.TheVariants as effect
use Rattle.asl_assembler.specs.declared.keyword.Keyword.{Keyword}
use Rattle.asl_assembler.specs.declared.keyword.Keyword.TheVariants as keyword
use Rattle.asl_assembler.specs.Words.{name_of}
use Rattle.asl_assembler.specs.Text.{effect_name}
use Rattle.asl_assembler.specs.Reading.{or_else, first_named, others, setters, directives, keyword_of, effect_named, effect_of}
use Rattle.asl_assembler.proofs.Options.{bound, chosen}

pub name_read : (k : Keyword) → keyword_of (name_of k) ≡ Some k
unfolding keyword_of
name_read keyword.Version = refl
name_read keyword.Classes = refl
name_read keyword.Global = refl
name_read keyword.Entry = refl
name_read keyword.Function = refl
name_read keyword.List = refl
name_read keyword.Root = refl
name_read keyword.Class = refl
name_read keyword.Expr = refl
name_read keyword.Int = refl
name_read keyword.Null = refl
name_read keyword.Mov = refl
name_read keyword.Add = refl
name_read keyword.Sub = refl
name_read keyword.Lt = refl
name_read keyword.Eq = refl
name_read keyword.Glob = refl
name_read keyword.Field = refl
name_read keyword.Load = refl
name_read keyword.Store = refl
name_read keyword.New = refl
name_read keyword.Jmp = refl
name_read keyword.Jz = refl
name_read keyword.Call = refl
name_read keyword.Ret = refl
name_read keyword.Out = refl
name_read keyword.Acq = refl
name_read keyword.Rel = refl
name_read keyword.Read = refl
name_read keyword.Write = refl

first_name : (ks : List Keyword) (word : List ℕ) (k : Keyword) → first_named ks word ≡ Some k → word ≡ name_of k
first_name [] word k e = absurd (cc)
first_name (j ∷ ks) word k e =
    elim (cases_Bool (bytes_eq word (name_of j))) [
      | inl h ↦ (let here : Some j ≡ Some k = rw h at e in
          let named : word ≡ name_of j = (bytes_eq-Decides word (name_of j)).0 h in
          cc)
      | inr h ↦ (let there : first_named ks word ≡ Some k = rw h at e in first_name ks word k there)
    ]

pub read_name : (word : List ℕ) (k : Keyword) → keyword_of word ≡ Some k → word ≡ name_of k
unfolding keyword_of
read_name word k e =
    elim (chosen (first_named others word) (or_else (first_named setters word) (first_named directives word)) k e) [
      | inl h ↦ first_name others word k h
      | inr h ↦ elim (chosen (first_named setters word) (first_named directives word) k h.1) [
        | inl g ↦ first_name setters word k g
        | inr g ↦ first_name directives word k g.1
      ]
    ]

-- Effects.
pub effect_read : (e : Effect) (word : List ℕ) → word ≡ name_of (effect_name e) → effect_of word ≡ Some e
unfolding effect_of
effect_read effect.Read word h = rw (h, name_read keyword.Read) refl
effect_read effect.Write word h = rw (h, name_read keyword.Write) refl

effect_found : (k : Keyword) (e : Effect) → effect_named k ≡ Some e → k ≡ effect_name e
effect_found keyword.Read effect.Read h = refl
effect_found keyword.Write effect.Write h = refl
effect_found _ _ h = absurd (cc)

pub read_effect : (word : List ℕ) (e : Effect) → effect_of word ≡ Some e → word ≡ name_of (effect_name e)
unfolding effect_of
read_effect word e h =
    let b = bound (keyword_of word) effect_named e h in
    let named = read_name word b.0 b.1 in
    let k = effect_found b.0 e b.2 in
    rw (← k) named
