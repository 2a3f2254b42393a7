-- The kinds of token with which the automaton continues.
use Rattle.std.proofs.Common.{◌≡◌, ◌⊎◌, inl, inr, ℕ, ◌+◌, ◌<◌, ◌≤◌, length, List, [], ◌∷◌, ◌++◌, Bool, true, false, refl, sym, ap, ◌∙◌, subst, cond, take, get_or}
use Rattle.std.specs.List.{Contains, filter}
use Rattle.std.proofs.lemmas.List.Elements.{filter_more, filter_passes, All-contains}
use Rattle.std.proofs.lemmas.List.{take_all}
use Rattle.asl_grammar.specs.declared.token.Mark.TheVariants as mark
use Rattle.asl_syntax.proofs.Among.{Among, contained}
use Rattle.asl_diagnose_text.specs.declared.kind.TokenKind.{TokenKind}
use Rattle.asl_diagnose_text.specs.declared.kind.TokenKind.TheVariants as kind
use Rattle.asl_diagnose_text.specs.declared.kind.TheConstants.{ALL_KINDS}
use Rattle.asl_grammar.specs.Seen.{Place}
use Rattle.asl_diagnose_text.specs.WalkView.{sample_of, is_accepted, ListsAccepted}

-- each kind is one of all
every_kind : (k : TokenKind) → Among ALL_KINDS k
every_kind (kind.Fixed mark.Global) = inl refl
every_kind (kind.Fixed mark.Fn) = inr (inl refl)
every_kind (kind.Fixed mark.Out) = inr (inr (inl refl))
every_kind (kind.Fixed mark.If) = inr (inr (inr (inl refl)))
every_kind (kind.Fixed mark.Else) = inr (inr (inr (inr (inl refl))))
every_kind (kind.Fixed mark.While) = inr (inr (inr (inr (inr (inl refl)))))
every_kind (kind.Fixed mark.Atomic) = inr (inr (inr (inr (inr (inr (inl refl))))))
every_kind (kind.Fixed mark.Return) = inr (inr (inr (inr (inr (inr (inr (inl refl)))))))
every_kind (kind.Fixed mark.Null) = inr (inr (inr (inr (inr (inr (inr (inr (inl refl))))))))
every_kind (kind.Fixed mark.New) = inr (inr (inr (inr (inr (inr (inr (inr (inr (inl refl)))))))))
every_kind (kind.Fixed mark.Semicolon) = inr (inr (inr (inr (inr (inr (inr (inr (inr (inr (inl refl))))))))))
every_kind (kind.Fixed mark.Comma) = inr (inr (inr (inr (inr (inr (inr (inr (inr (inr (inr (inl refl)))))))))))
every_kind (kind.Fixed mark.Becomes) = inr (inr (inr (inr (inr (inr (inr (inr (inr (inr (inr (inr (inl refl))))))))))))
every_kind (kind.Fixed mark.OpenParen) = inr (inr (inr (inr (inr (inr (inr (inr (inr (inr (inr (inr (inr (inl refl)))))))))))))
every_kind (kind.Fixed mark.CloseParen) = inr (inr (inr (inr (inr (inr (inr (inr (inr (inr (inr (inr (inr (inr (inl refl))))))))))))))
every_kind (kind.Fixed mark.OpenBrace) = inr (inr (inr (inr (inr (inr (inr (inr (inr (inr (inr (inr (inr (inr (inr (inl refl)))))))))))))))
every_kind (kind.Fixed mark.CloseBrace) = inr (inr (inr (inr (inr (inr (inr (inr (inr (inr (inr (inr (inr (inr (inr (inr (inl refl))))))))))))))))
every_kind (kind.Fixed mark.OpenBracket) = inr (inr (inr (inr (inr (inr (inr (inr (inr (inr (inr (inr (inr (inr (inr (inr (inr (inl refl)))))))))))))))))
every_kind (kind.Fixed mark.CloseBracket) = inr (inr (inr (inr (inr (inr (inr (inr (inr (inr (inr (inr (inr (inr (inr (inr (inr (inr (inl refl))))))))))))))))))
every_kind (kind.Fixed mark.Plus) = inr (inr (inr (inr (inr (inr (inr (inr (inr (inr (inr (inr (inr (inr (inr (inr (inr (inr (inr (inl refl)))))))))))))))))))
every_kind (kind.Fixed mark.Minus) = inr (inr (inr (inr (inr (inr (inr (inr (inr (inr (inr (inr (inr (inr (inr (inr (inr (inr (inr (inr (inl refl))))))))))))))))))))
every_kind (kind.Fixed mark.Less) = inr (inr (inr (inr (inr (inr (inr (inr (inr (inr (inr (inr (inr (inr (inr (inr (inr (inr (inr (inr (inr (inl refl)))))))))))))))))))))
every_kind (kind.Fixed mark.Same) = inr (inr (inr (inr (inr (inr (inr (inr (inr (inr (inr (inr (inr (inr (inr (inr (inr (inr (inr (inr (inr (inr (inl refl))))))))))))))))))))))
every_kind (kind.Fixed mark.Ampersand) = inr (inr (inr (inr (inr (inr (inr (inr (inr (inr (inr (inr (inr (inr (inr (inr (inr (inr (inr (inr (inr (inr (inr (inl refl)))))))))))))))))))))))
every_kind (kind.Fixed mark.Star) = inr (inr (inr (inr (inr (inr (inr (inr (inr (inr (inr (inr (inr (inr (inr (inr (inr (inr (inr (inr (inr (inr (inr (inr (inl refl))))))))))))))))))))))))
every_kind kind.Name = inr (inr (inr (inr (inr (inr (inr (inr (inr (inr (inr (inr (inr (inr (inr (inr (inr (inr (inr (inr (inr (inr (inr (inr (inr (inl refl)))))))))))))))))))))))))
every_kind kind.Number = inr (inr (inr (inr (inr (inr (inr (inr (inr (inr (inr (inr (inr (inr (inr (inr (inr (inr (inr (inr (inr (inr (inr (inr (inr (inr (inl refl))))))))))))))))))))))))))

-- what passes a test stays
kept : {X : Type 0} (p : X → Bool) (y x : X) (ys : List X) (b : Bool) → p y ≡ b → p x ≡ true → (y ≡ x) ⊎ Among (filter p ys) x → Among (cond b (y ∷ filter p ys) (filter p ys)) x
kept p y x ys true e h k = k
kept p y x ys false e h (inl same) = absurd (false_true (sym e ∙ ap p same ∙ h))
  where
    false_true : false ≡ true → ⊥
    false_true f = cc
kept p y x ys false e h (inr there) = there

among_filter : {X : Type 0} (p : X → Bool) (xs : List X) (x : X) → Among xs x → p x ≡ true → Among (filter p xs) x
among_filter p [] x h e = absurd h
among_filter p (y ∷ ys) x (inl same) e = kept p y x ys (p y) refl e (inl same)
among_filter p (y ∷ ys) x (inr there) e = kept p y x ys (p y) refl e (inr (among_filter p ys x there e))

-- whether the automaton continues with a kind
abbrev pub goes_on : Place → TokenKind → Bool
goes_on p k = is_accepted p (sample_of k)

-- those of all kinds with which it does are listed
pub lists_accepted : (p : Place) (kinds : List TokenKind) → kinds ≡ filter (goes_on p) ALL_KINDS → ListsAccepted p kinds
lists_accepted p kinds e k = (
  λ h. All-contains (λ j. goes_on p j ≡ true) (filter (goes_on p) ALL_KINDS) k (filter_passes (goes_on p) ALL_KINDS) (subst (λ (ks : List TokenKind). Contains ks k) e h),
  λ h. subst (λ (ks : List TokenKind). Contains ks k) (sym e) (contained (filter (goes_on p) ALL_KINDS) k (among_filter (goes_on p) ALL_KINDS k (every_kind k) h)),
)

-- one more of all is looked at
pub grown : {X : Type 0} (p : X → Bool) (xs : List X) (i : ℕ) (d : X) (old new : List X) (b : Bool) → i < length xs → p (get_or xs i d) ≡ b → old ≡ filter p (take i xs) → new ≡ old ++ cond b (get_or xs i d ∷ []) [] → new ≡ filter p (take (i + 1) xs)
grown {X = X} p xs i d old new b low e h n =
    n ∙ ap (λ (ys : List X). ys ++ cond b (get_or xs i d ∷ []) []) h
    ∙ ap (λ (c : Bool). filter p (take i xs) ++ cond c (get_or xs i d ∷ []) []) (sym e)
    ∙ sym (filter_more p xs i d low)

-- all were looked at
pub lists_at_end : (p : Place) (kinds : List TokenKind) (i : ℕ) → length ALL_KINDS ≤ i → kinds ≡ filter (goes_on p) (take i ALL_KINDS) → ListsAccepted p kinds
lists_at_end p kinds i full e = lists_accepted p kinds (e ∙ ap (λ (ks : List TokenKind). filter (goes_on p) ks) (take_all i ALL_KINDS full))
