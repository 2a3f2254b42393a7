-- Machinery of the proofs, not of the promise: what names do where they stand, as src/name_role.rt reads it, and where src/unknown.rt finds
-- the first use of a name that is nowhere declared. What contracts cite is `IsUnknownPlace` of specs/Unknown.
use Rattle.std.specs.Prelude.{ℕ, List, [], ◌∷◌, Bool, true, false, not, ◌&&◌, ◌||◌, Option, Some, None, if◌then◌else◌}
use Rattle.asl_grammar.specs.declared.token.Mark.{Mark}
use Rattle.asl_grammar.specs.declared.token.Mark.TheVariants as mark
use Rattle.asl_grammar.specs.Token.{Token, Fixed, Name, Spot}
use Rattle.asl_grammar.specs.Grammar.{bare}
use Rattle.asl_diagnose_text.specs.declared.declared.Declares.{Declares}
use Rattle.asl_diagnose_text.specs.declared.declared.Declares.TheVariants as what
use Rattle.asl_diagnose_text.specs.declared.name_role.Role.{Role}
use Rattle.asl_diagnose_text.specs.declared.name_role.Role.TheVariants as role
use Rattle.asl_diagnose_text.specs.declared.name_role.Sign.{Sign}
use Rattle.asl_diagnose_text.specs.declared.name_role.Sign.TheVariants as sign
use Rattle.asl_diagnose_text.specs.Places.{is_named, declares_after}

-- after a token
abbrev pub sign_of : Token → Sign
sign_of (Fixed mark.Ampersand) = sign.Ampersand
sign_of (Fixed mark.Star) = sign.Star
sign_of t = sign.Other

-- the word or symbol that a token is, if it is one, and that of the first of some tokens
abbrev pub mark_of : Token → Option Mark
mark_of (Fixed m) = Some m
mark_of t = None

-- the word or symbol that the first of some tokens is, if it is one
abbrev pub first_mark : List Token → Option Mark
first_mark [] = None
first_mark (t ∷ ts) = mark_of t

-- what a name in a body does, by what stands before it and after it
abbrev pub role_in_body : Sign → Option Mark → Role
role_in_body sign.Ampersand (Some mark.OpenBracket) = role.Local
role_in_body sign.Ampersand m = role.GlobalUse
role_in_body sign.Star (Some mark.OpenParen) = role.Call
role_in_body sign.Star m = role.Local
role_in_body sign.Other (Some mark.OpenParen) = role.Call
role_in_body sign.Other (Some mark.Becomes) = role.Assigned
role_in_body sign.Other m = role.Local

-- what a name does: it declares what the next name declares, if that is anything, else it does as in a body, by what stands round it
abbrev pub role_of : Declares → Sign → Option Mark → Role
role_of what.Nothing s m = role_in_body s m
role_of d s m = role.Declares d

-- the name of a function stands there
abbrev pub is_function_name : Token → Declares → Bool
is_function_name (Name y) what.Function = true
is_function_name t d = false

-- a name with such a role is declared as this, declares or sets a local, or uses what its name space has not
abbrev pub declares_as : Declares → Role → Bool
declares_as what.Global (role.Declares what.Global) = true
declares_as what.Function (role.Declares what.Function) = true
declares_as d r = false

-- a name with such a role declares a parameter or assigns a local
abbrev pub sets_local : Role → Bool
sets_local (role.Declares what.Parameter) = true
sets_local role.Assigned = true
sets_local r = false

-- a name with such a role uses what is not there, where these say whether there are a global, a function and a local of the name
abbrev pub lacks : Bool → Bool → Bool → Role → Bool
lacks globals functions locals role.Local = not locals
lacks globals functions locals role.GlobalUse = not globals
lacks globals functions locals role.Call = not functions
lacks globals functions locals r = false

-- the token is the name, and its role passes a test
abbrev pub passes : (Role → Bool) → List ℕ → Declares → Sign → Token → List Token → Bool
passes test x d s t ts = is_named x t && test (role_of d s (first_mark ts))

-- some token declares the name so
abbrev pub has_declared : Declares → List ℕ → Declares → Sign → List Token → Bool
has_declared how x d s [] = false
has_declared how x d s (t ∷ ts) =
    passes (declares_as how) x d s t ts || has_declared how x (declares_after d t) (sign_of t) ts

-- the name is a local of the function in whose tokens these stand, up to the name of the next function
abbrev pub has_local : List ℕ → Declares → Sign → List Token → Bool
has_local x d s [] = false
has_local x d s (t ∷ ts) =
    if is_function_name t d then false else (passes sets_local x d s t ts || has_local x (declares_after d t) (sign_of t) ts)

-- the same after a token, from the name of a function on for its own tokens
abbrev pub local_after : List ℕ → Declares → Sign → Bool → Token → List Token → Bool
local_after x d s locals t ts =
    if is_function_name t d then has_local x (declares_after d t) (sign_of t) ts else locals

-- the place of the first use of the name where its name space has it not
abbrev pub first_use : List ℕ → Bool → Bool → Bool → Declares → Sign → List Spot → Option ℕ
first_use x globals functions locals d s [] = None
first_use x globals functions locals d s (p ∷ ss) =
    if passes (lacks globals functions (local_after x d s locals p.token (bare ss))) x d s p.token (bare ss) then Some p.at
    else first_use x globals functions (local_after x d s locals p.token (bare ss)) (declares_after d p.token) (sign_of p.token) ss
